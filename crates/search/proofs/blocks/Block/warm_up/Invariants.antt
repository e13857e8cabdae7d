use Rattle.search.specs.Blocks.{BestIn}
use Rattle.search.specs.Paths.{path_meaning}
use Rattle.search.proofs.blocks.Block.warm_up.Given as goal

abbrev pub invariant-loop-t : goal.invariant-loop-t
invariant-loop-t g l = BestIn l.self l.survivors (path_meaning g.W.Weighing.scale l.old) l.t
