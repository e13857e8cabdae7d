use Rattle.std.proofs.Common.{ℕ, Bool, ◌+◌, ◌*◌, false, get_or, ◌∙◌, rules}
use Rattle.block.proofs.Laws.{octet_same}
use Rattle.block.proofs.Ranges.{from_fn_at}
use Rattle.code.specs.Places.{output}
use Rattle.code.specs.Register.{silent}
use Rattle.code.proofs.rows.Row.of_steps.Goals as goal

pub returns : goal.returns
returns c =
    let steps = c.args.steps.now in
    let bit : ℕ → ℕ → Bool = λ o i. output o (get_or steps (8 * 0 + i) silent.outputs) in
    let one = c.octet.ensures ∙ octet_same _ _ (from_fn_at _ _ _ (bit 1) false 8 c.from_fn.ensures.items (λ i r q k. search rules)) in
    let two = c.octet-2.ensures ∙ octet_same _ _ (from_fn_at _ _ _ (bit 2) false 8 c.from_fn-2.ensures.items (λ i r q k. search rules)) in
    let three = c.octet-3.ensures ∙ octet_same _ _ (from_fn_at _ _ _ (bit 3) false 8 c.from_fn-3.ensures.items (λ i r q k. search rules)) in
    let four = c.octet-4.ensures ∙ octet_same _ _ (from_fn_at _ _ _ (bit 4) false 8 c.from_fn-4.ensures.items (λ i r q k. search rules)) in
    λ j. record { v1 = one j; v2 = two j; v3 = three j; v4 = four j }
