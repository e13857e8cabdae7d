use Rattle.std.proofs.Common.{sym}
use Rattle.block.proofs.Laws.{bit_past}
use Rattle.block.proofs.bits.bit_of.Goals as goal

pub returns-then-i-ge32 : goal.returns-then-i-ge32
returns-then-i-ge32 c = sym (bit_past 32 c.args.i c.args.x c.ranges.x.fits c.if-i-ge32.true)
