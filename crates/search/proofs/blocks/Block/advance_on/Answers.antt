use Rattle.std.proofs.Common.{◌≡◌, subst, length, arith}
use Rattle.search.specs.Blocks.{BestIn}
use Rattle.search.specs.Quads.{reached_meaning}
use Rattle.search.proofs.blocks.Block.advance_on.Goals as goal

pub returns : goal.returns
returns g c =
    let end : c.loop-t.t ≡ length c.loop-t.survivors = omega arith in
    subst (BestIn c.args.self.now c.loop-t.survivors (reached_meaning g.W.Weighing.scale c.loop-t.paths)) end c.loop-t.invariant

pub loop-t-preserved : goal.loop-t-preserved
loop-t-preserved g c = c.advance-selected.ensures c.loop-t.survivors (omega arith) c.loop-t.invariant
