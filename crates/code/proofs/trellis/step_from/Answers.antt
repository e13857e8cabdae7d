use Rattle.std.proofs.Common.{refl, ap, ◌∙◌, arith}
use Rattle.code.specs.Register.{follows_rule, next, outputs, state_of}
use Rattle.code.proofs.Steps.{low_cells}
use Rattle.code.proofs.trellis.step_from.Goals as goal

pub step_of-requires : goal.step_of-requires
unfolding follows_rule
step_of-requires c = (refl, omega arith)

pub returns : goal.returns
returns c =
    let same = low_cells c.args.state c.ranges.state.fits in
    record {
      outputs = c.step_of.ensures.outputs ∙ ap (λ m. outputs m c.args.bit) same;
      next = c.step_of.ensures.next ∙ ap (λ m. state_of (next m c.args.bit)) same;
    }
