use Rattle.std.proofs.Common.{rules}
use Rattle.listing.proofs.Filled.{both_read}
use Rattle.listing.proofs.input.fill.Goals as goal

pub loop-filled-preserved : goal.loop-filled-preserved
loop-filled-preserved g c = (
  search rules,
  both_read c.loop-filled.filled c.in_ok-count.count c.loop-filled.buffer c.read_on.new.buffer _ _ _ c.loop-filled.invariant.0 c.in_ok-count.ensures.reads.within c.loop-filled.invariant.1 c.in_ok-count.ensures.reads.comes,
)
