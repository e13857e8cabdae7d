use Rattle.std.proofs.Common.{subst}
use Rattle.block.specs.Bits.{bit}
use Rattle.code.specs.Register.{cells_of}
use Rattle.search.specs.Blocks.{sums_in}
use Rattle.search.specs.Quads.{branch_meaning, reached_meaning}
use Rattle.search.specs.Steps.{Survives, TrellisStep}
use Rattle.search.proofs.Bests.{best_more}
use Rattle.search.proofs.Trellis.{state_cells}
use Rattle.search.proofs.blocks.Block.advance.Goals as goal

pub returns : goal.returns
returns g c = λ survivors within best.
    let s = g.W.Weighing.scale in
    let self = c.args.self.now in
    let step : TrellisStep s = record { branch = branch_meaning s c.branch_weights_at.result; before = reached_meaning s c.args.old } in
    let new = reached_meaning s c.select.result.weights in
    let word = c.select.result.word in
    best_more s self.order.now.columns self.n (sums_in self) survivors step new c.args.t word within best c.branch_weights_at.ensures
    (λ k h. subst (λ j. Survives step (new k) (bit j word) j) (state_cells k h) (c.select.ensures (cells_of k)))
