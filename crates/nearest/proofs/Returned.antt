-- A report of one octet that comes back undamaged. Assumes nothing.
use Rattle.std.proofs.Common.{◌≡◌, ℕ, ◌+◌, ◌*◌, ◌/◌, ◌%◌, ◌<◌, ◌≤◌, Bool, false, eqb, List, [], ◌∷◌, ◌++◌, get_or, drop, length, Ok, Err, None, Result, refl, ap, subst, ◌∙◌, arith, rules}
use Rattle.std.proofs.lemmas.List.{get_or_append_left}
use Rattle.std.proofs.lemmas.List.FromFn.{get_or-map-range_with_len, length-map-range_with_len}
use Rattle.std.proofs.lemmas.Bool.{eqb-true}
use Rattle.block.specs.Bits.{bit, bit_at, bits_of, filled, octet_of}
use Rattle.block.specs.Checks.{report_bit, report_message}
use Rattle.block.specs.Refusals.{first_refusal}
use Rattle.block.specs.Sizes.{payload, plan_checks}
use Rattle.block.proofs.Computed.{below}
use Rattle.block.proofs.Laws.{octet_same}
use Rattle.code.specs.Calls.{Encodes}
use Rattle.code.specs.Columns.{order_r}
use Rattle.code.specs.Register.{after, cleared, tail, with_tail}
use Rattle.code.specs.Shapes.{Shape}
use Rattle.weighing.specs.Hard.{hard_alphabet}
use Rattle.weighing.specs.Scales.{counted}
use Rattle.search.specs.Weights.{entry_sums}
use Rattle.weighing.specs.declared.hard.HardSymbol.{HardSymbol}
use Rattle.search.specs.Scratch.{Scratch}
use Rattle.search.specs.declared.Entry.{Entry}
use Rattle.search.specs.declared.refusal.FindRefusal.{FindRefusal}
use Rattle.sheet.specs.Calls.{Decodes, NamesNearest, shape_of_sheet}
use Rattle.sheet.specs.declared.answers.Decoded.{Decoded}
use Rattle.sheet.specs.declared.sheets.Sheet.{Sheet}
use Rattle.nearest.specs.ShortRuns.{Lent, ThreeCalls, smallest}
use Rattle.nearest.specs.Undamaged.{NamesSent, NamesWithoutWeight, RoomFor, SentInAll, TakesUndamaged, counting, heard}
use Rattle.nearest.specs.declared.runs.ShortRun.{ShortRun}
use Rattle.nearest.proofs.Fitting.{own_bit}
use Rattle.nearest.proofs.Sent.{decodes_what_was_sent}
use Rattle.nearest.proofs.Taken.{shape_after}

-- an octet is made of its own bits
octet_bits : (x : ℕ) → x < 256 → octet_of (λ i. bit i x) ≡ x
unfolding octet_of
octet_bits x h = eqb-true _ x (below 256 (λ y. eqb (octet_of (λ i. bit i y)) y) refl x h)

-- bit i of a report of one octet
first_bit : (x i : ℕ) → i < 8 → get_or (report_message (x ∷ []) 1 4) i false ≡ bit i x
unfolding bit_at
first_bit x i h =
    let low : i % 8 ≡ i = omega arith in
    let first : i / 8 ≡ 0 = omega arith in
    get_or-map-range_with_len (report_bit (x ∷ []) 1 4) 0 12 i i false (omega arith) (omega arith)
    ∙ own_bit (x ∷ []) 1 4 i h
    ∙ (λ j. bit (low j) (get_or (x ∷ []) (first j) 0))

-- so the first octet that is written for its message is its own
own_octet : (x : ℕ) → x < 256 → (target target' : List ℕ) (mine : List Bool) → length mine ≡ 12 → mine ≡ report_message (x ∷ []) 1 4
    → target' ≡ filled (with_tail mine) 2 ++ drop 2 target → get_or target' 0 0 ≡ x
own_octet x small target target' mine long is written =
    ap (λ xs. get_or xs 0 0) written
    ∙ octet_same _ (λ i. bit i x)
    (λ i h. let at : 8 * 0 + i ≡ i = omega arith in
    ap (λ p. get_or (with_tail mine) p false) at
    ∙ get_or_append_left mine (tail (after cleared mine)) false i (omega arith)
    ∙ ap (λ xs. get_or xs i false) is ∙ first_bit x i h)
    ∙ octet_bits x small

-- where a plan is not refused, the rate is permitted
pub rate_of : (octets check k : ℕ) → first_refusal (plan_checks octets check k) ≡ None → k ≤ 24
rate_of octets check k e = search rules

module _ {W : Type 0} where
  -- what is named, by the octet that is written for it
  back_named : (x : ℕ) → x < 256 → (tally : List (Entry ℕ)) (sheet : Sheet W ℕ counting) → shape_of_sheet sheet ≡ smallest → (target target' : List ℕ) (scratch scratch' : Scratch ℕ)
      (r : Result (Decoded ℕ) FindRefusal) → Decodes sheet tally target target' scratch scratch' r → NamesSent (x ∷ []) 4 target' r → NamesWithoutWeight (get_or target' 0 0 ≡ x) r
  back_named x small tally sheet same target target' scratch scratch' (Ok decoded) decodes sent =
      let written = (subst (λ (s : Shape). NamesNearest counted s (entry_sums counted tally) target target' decoded) same decodes.1.0).names.written in
      (own_octet x small target target' (bits_of target' 12) (length-map-range_with_len (bit_at target') 0 12) sent.0 written, sent.1, sent.2)
  back_named x small tally sheet same target target' scratch scratch' (Err e) decodes sent = sent

  pub gives_back : (x k : ℕ) → x < 256 → k ≤ 24 → (before buffer kept : List ℕ) → Encodes (x ∷ []) 4 order_r before buffer (Ok tt) → SentInAll 1 4 buffer (payload 1 4 k) kept
      → (before-run after-run : Lent ℕ) (run : ShortRun W HardSymbol ℕ counting) → RoomFor 2 before-run.target before-run.scratch
      → ThreeCalls counting hard_alphabet 0 (heard kept) before-run after-run run → NamesWithoutWeight (get_or after-run.target 0 0 ≡ x) run.decoded
  gives_back x k small rate before buffer kept encode sent from to run rooms calls =
      let takes : TakesUndamaged W (x ∷ []) 4 k order_r run.sheet to.tally run.taken = record {
        before = before;
        buffer = buffer;
        encoding = encode;
        kept = kept;
        sent = sent;
        tally = from.tally;
        opened = calls.opened;
        new_sheet = calls.new_sheet;
        opening = calls.opening;
        lent = calls.opened;
        own = refl;
        taking = calls.taking;
      } in
      let named = (decodes_what_was_sent W (x ∷ []) 4 k order_r rate run.sheet to.tally run.taken takes).1
      to.tally from.target to.target from.scratch to.scratch run.decoded refl rooms calls.decoding in
      back_named x small to.tally run.sheet (shape_after smallest from.tally calls.opened calls.opened to.tally calls.new_sheet run.sheet 0 (heard kept) run.taken calls.opening calls.taking)
      from.target to.target from.scratch to.scratch run.decoded calls.decoding named
