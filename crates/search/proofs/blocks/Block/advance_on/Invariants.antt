use Rattle.search.specs.Blocks.{BestIn}
use Rattle.search.specs.Quads.{reached_meaning}
use Rattle.search.proofs.blocks.Block.advance_on.Given as goal

abbrev pub invariant-loop-t : goal.invariant-loop-t
invariant-loop-t g l = BestIn l.self l.survivors (reached_meaning g.W.Weighing.scale l.paths) l.t
