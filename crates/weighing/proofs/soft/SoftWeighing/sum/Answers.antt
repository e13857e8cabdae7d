-- To cap the numbers first changes no capped sum.
use Rattle.std.proofs.Common.{arith}
use Rattle.weighing.specs.Scales.{same_upto}
use Rattle.weighing.proofs.soft.SoftWeighing.sum.Goals as goal

pub returns : goal.returns
returns c = record { means = same_upto _ _ (omega arith); value = omega arith }
