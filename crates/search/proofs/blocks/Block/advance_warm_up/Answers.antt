use Rattle.search.specs.Blocks.{sums_in}
use Rattle.search.specs.Paths.{path_meaning}
use Rattle.search.specs.Quads.{branch_meaning}
use Rattle.search.specs.Steps.{TrellisStep}
use Rattle.search.proofs.Bests.{best_more}
use Rattle.search.proofs.blocks.Block.advance_warm_up.Goals as goal

pub returns : goal.returns
returns g c = λ survivors within best.
    let s = g.W.Weighing.scale in
    let self = c.args.self.now in
    let step : TrellisStep s = record { branch = branch_meaning s c.branch_weights_at.result; before = path_meaning s c.args.old.now } in
    best_more s self.order.now.columns self.n (sums_in self) survivors step (path_meaning s c.select.new.new) c.args.t c.select.result
    within best c.branch_weights_at.ensures c.select.ensures
