use Rattle.std.proofs.Common.{ℕ, ◌+◌, ◌*◌, Some, sym, subst}
use Rattle.block.specs.Bits.{bit, value}
use Rattle.code.specs.Register.{state_of}
use Rattle.search.specs.Paths.{four_cells}
use Rattle.search.specs.Quads.{at_cells, quad_at}
use Rattle.search.specs.Steps.{Survives, trellis_step_of}
use Rattle.search.specs.declared.quads.Quad.{Quad}
use Rattle.search.proofs.Rows.{each_row}
use Rattle.search.proofs.trellis_step.TrellisStep.select.Goals as goal

pub returns : goal.returns
returns g c = λ m.
    let s = g.W.Weighing.scale in
    let step = trellis_step_of s c.args.self.now in
    let zero = c.select_row-zero in
    let one = c.select_row-one in
    let two = c.select_row-two in
    let three = c.select_row-three in
    let weights : Quad (Quad g.row.W-Value.Denot) = record { zero = zero.result.weights; one = one.result.weights; two = two.result.weights; three = three.result.weights } in
    let words : Quad ℕ = record { zero = zero.result.word; one = one.result.word; two = two.result.word; three = three.result.word } in
    subst (λ b. Survives step (Some (s.mean (at_cells weights m))) b (state_of m)) (sym (c.whole_word.ensures m))
    (each_row
    (λ a b. Survives step (Some (s.mean (quad_at m.m3 m.m4 (quad_at a b weights)))) (bit (2 * value m.m3 + value m.m4) (quad_at a b words)) (state_of (four_cells a b m.m3 m.m4)))
    (zero.ensures.each m.m3 m.m4) (one.ensures.each m.m3 m.m4) (two.ensures.each m.m3 m.m4) (three.ensures.each m.m3 m.m4) m.m1 m.m2)
