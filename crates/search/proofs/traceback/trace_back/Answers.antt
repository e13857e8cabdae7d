use Rattle.std.proofs.Common.{◌≡◌, ℕ, ◌+◌, ◌-◌, ◌*◌, ◌<◌, ◌≤◌, false, List, reverse, length, get_or, take, drop, [], ◌/◌, sym, ap, ◌∙◌, subst, arith, zero-add}
use Rattle.std.proofs.lemmas.List.{drop_all, get_or-drop, get_or-take, length-drop, length-take-le, take_all}
use Rattle.std.proofs.lemmas.List.FromFn.{get_or-map-range_with_len, length-map-range_with_len}
use Rattle.block.specs.Bits.{filled, octet_of}
use Rattle.block.proofs.Laws.{octet_same}
use Rattle.search.specs.Paths.{survivor_path, traceback}
use Rattle.search.proofs.Traces.{before_words, bits_of_words, chunk_at, right_more}
use Rattle.search.proofs.Trellis.{length-traceback}
use Rattle.search.proofs.traceback.trace_back.Goals as goal

pub loop-b-init : goal.loop-b-init
loop-b-init c =
    let sv = c.args.survivors.now in
    let n = length c.args.target.now in
    let bits = traceback sv 0 in
    let whole : 8 * length c.args.target.now ≡ length sv = sym c.requires in (
      (λ i. reverse (survivor_path sv (whole i) (c.zero-state.ensures i))) ∙ sym (take_all _ (traceback sv 0) (omega (arith, length-traceback sv 0))),
      drop_all n c.args.target.now (omega arith) ∙ sym (drop_all n (filled bits n) (omega (arith, length-map-range_with_len {X = ℕ}))),
    )

pub loop-b-preserved : goal.loop-b-preserved
loop-b-preserved c =
    let above = c.loop-b.b in
    let b = above - 1 in
    let n = length c.args.target.now in
    let sv = c.args.survivors.now in
    let s = c.loop-b.state.number in
    let bits = traceback sv 0 in
    let words : List ℕ = get_or c.as_chunks.result.0.now b [] in
    let back = c.trace_octet-back in
    let is : words ≡ take 8 (drop (8 * b) sv) = ap (λ xs. get_or xs b []) c.as_chunks.ensures.front ∙ chunk_at 8 (length sv / 8) b sv [] (omega arith) in
    let eight : length words ≡ 8 = ap length is ∙ length-take-le 8 (drop (8 * b) sv) (omega (arith, length-drop (8 * b) sv)) in
    let same : (i : ℕ) → i < length words → get_or words i 0 ≡ get_or sv (8 * b + i) 0 =
    λ i h. ap (λ xs. get_or xs i 0) is ∙ get_or-take 8 (drop (8 * b) sv) i 0 (omega arith) ∙ get_or-drop (8 * b) sv i 0 in
    let within : 8 * b + length words ≤ length bits = omega (arith, length-traceback sv 0) in
    let up : 8 * above ≡ 8 * b + length words = omega arith in
    let traced = subst (λ t. reverse (survivor_path sv t s) ≡ take t bits) up c.loop-b.invariant.0 in (
      ap (λ x. reverse (survivor_path sv (8 * b) x)) back.ensures.state ∙ before_words sv words bits (8 * b) s within same traced,
      right_more c.loop-b.target (filled bits n) above b back.result.read 0 (omega arith) (omega arith) (omega (arith, length-map-range_with_len {X = ℕ})) c.loop-b.invariant.1
          (back.ensures.read ∙ octet_same _ _ (λ i h. bits_of_words sv words bits (8 * b) s within same traced i (omega arith))
          ∙ sym (get_or-map-range_with_len (λ k. octet_of (λ i. get_or bits (8 * k + i) false)) 0 n b b 0 (omega arith) (zero-add b))),
    )
