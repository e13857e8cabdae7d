use Rattle.std.proofs.Common.{◌≡◌, ℕ, ◌+◌, ◌<◌, false, get_or, sym, ap, ◌∙◌, rules}
use borrow.Author.Tests.{tests}
use Rattle.block.specs.Bits.{bit_at, bits_of}
use Rattle.block.proofs.Ranges.{decides_below}
use Rattle.code.specs.Register.{after, cells, cleared, silent, tail}
use Rattle.code.proofs.Runs.{trace_own}
use Rattle.code.proofs.peek.tail_fits.Goals as goal

pub returns : goal.returns
returns c =
    let came : ℕ → Type 0 = λ i. bit_at c.args.received.now (c.args.bits + i) ≡ (get_or c.close-tail.result i silent.outputs).v1 in
    let fits = decides_below _ _ _ 4 came (cc) c.all.ensures.ran (λ x q k. search (rules, tests)) (λ x q k. search (rules, tests)) in
    let own : (i : ℕ) → i < 4 → (get_or c.close-tail.result i silent.outputs).v1 ≡ get_or (tail (after cleared (bits_of c.args.received.now c.args.bits))) i false =
    λ i h.
    ap (λ xs. (get_or xs i silent.outputs).v1) c.close-tail.ensures.answer
    ∙ trace_own (cells c.run_bits.new.register) (tail (cells c.run_bits.new.register)) i h
    ∙ ap (λ m. get_or (tail m) i false) c.run_bits.ensures in (
      λ t i h. fits.0 t i h ∙ own i h,
      λ all. fits.1 (λ i h. all i h ∙ sym (own i h)),
    )
