use Rattle.std.proofs.Common.{◌≡◌, ◌+◌, set, sym, subst, length, arith}
use Rattle.search.specs.Blocks.{BestIn}
use Rattle.search.specs.Paths.{path_meaning}
use Rattle.search.proofs.blocks.Block.warm_up.Goals as goal

pub loop-t-preserved : goal.loop-t-preserved
loop-t-preserved g c =
    let s = g.W.Weighing.scale in
    subst (λ r. BestIn c.args.self.now (set c.loop-t.survivors c.loop-t.t c.advance_warm_up.result) (path_meaning s r.now) (c.loop-t.t + 1)) (sym c.swap.ensures.x_after)
    (c.advance_warm_up.ensures c.loop-t.survivors (omega arith) c.loop-t.invariant)

pub returns : goal.returns
returns g c =
    let s = g.W.Weighing.scale in
    let end : c.loop-t.t ≡ length c.loop-t.survivors = omega arith in
    subst (BestIn c.args.self.now c.loop-t.survivors (path_meaning s c.loop-t.old.now)) end c.loop-t.invariant
