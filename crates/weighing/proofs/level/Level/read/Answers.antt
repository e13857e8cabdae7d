-- The signed number of an octet is its two's complement number.
use Rattle.std.proofs.Common.{arith}
use Rattle.std.proofs.lemmas.Int.{ints}
use Rattle.std.proofs.lemmas.Bool.Decides.{nat_tests}
use Rattle.weighing.proofs.Levels.{level_is}
use Rattle.weighing.specs.Levels.{signed}
use Rattle.weighing.proofs.level.Level.read.Goals as goal

pub returns-in_default : goal.returns-in_default
returns-in_default c = level_is _ (signed c.args.octet) (grind (arith, ints, nat_tests))
