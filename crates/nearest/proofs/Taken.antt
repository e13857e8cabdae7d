-- The bits that are heard of a payload are taken onto a new sheet. Assumes nothing.
use Rattle.std.proofs.Common.{◌≡◌, ℕ, suc, ◌+◌, ◌*◌, ◌/◌, ◌%◌, ◌<◌, ◌≤◌, Bool, true, false, List, [], ◌∷◌, map, take, get_or, length, Ok, Err, None, Result, sym, refl, ap, ◌∙◌, mod-eq_of_lt, arith}
use Rattle.std.specs.Option.{option_map}
use Rattle.std.proofs.lemmas.List.{ext_get_or, get_or-map, get_or-take, length-map, length-take, take-map}
use Rattle.std.proofs.lemmas.List.FromFn.{get_or-map-range_with_len, length-map-range_with_len, take-map-range_with_len}
use Rattle.std.proofs.lemmas.Bool.Decides.{nat_tests}
use Rattle.block.specs.Bits.{bit, bit_at, bits_of, value}
use Rattle.block.specs.Refusals.{first_refusal}
use Rattle.block.specs.Sizes.{most_block_octets}
use Rattle.weighing.specs.Hard.{hard_alphabet}
use Rattle.code.specs.Shapes.{Shape, shape_of}
use Rattle.weighing.specs.Scales.{counted}
use Rattle.search.specs.declared.Entry.{Entry}
use Rattle.sheet.specs.Books.{unlawful}
use Rattle.sheet.specs.Calls.{Laid, Opens, Takes, block_length_of, shape_of_sheet, take_checks}
use Rattle.sheet.specs.declared.answers.Taken.{Taken}
use Rattle.sheet.specs.declared.refusals.TakeRefusal.{TakeRefusal}
use Rattle.sheet.specs.declared.sheets.Sheet.{Sheet}
use Rattle.sender.specs.Passages.{round_of}
use Rattle.sender.proofs.Rounds.{sends_in_rounds}
use Rattle.nearest.specs.Undamaged.{SentInAll, counting, heard}

-- each bit of the first octets of a buffer as one hard symbol
abbrev pub first_heard : List ℕ → ℕ → List ℕ
first_heard buffer octets = map value (bits_of buffer (8 * octets))

pub heard_length : (buffer : List ℕ) (octets : ℕ) → length (first_heard buffer octets) ≡ 8 * octets
heard_length buffer octets = length-map (bits_of buffer (8 * octets)) value ∙ length-map-range_with_len (bit_at buffer) 0 (8 * octets)

-- symbols that are each the bit of their place
pub heard_all : (buffer symbols : List ℕ) (octets : ℕ) → length symbols ≡ 8 * octets
    → ((k : ℕ) → k < 8 * octets → get_or symbols k 0 ≡ value (bit_at buffer k)) → symbols ≡ first_heard buffer octets
heard_all buffer symbols octets long each =
    let bits = bits_of buffer (8 * octets) in
    let many = length-map-range_with_len (bit_at buffer) 0 (8 * octets) in
    ext_get_or 0 symbols (first_heard buffer octets) (long ∙ sym (heard_length buffer octets))
    (λ i h. each i (omega arith)
    ∙ sym (get_or-map value bits i false 0 (omega arith) ∙ ap value (get_or-map-range_with_len (bit_at buffer) 0 (8 * octets) i i false (omega arith) (omega arith))))

-- octets that are alike are heard alike
same_heard : (front buffer : List ℕ) (octets : ℕ) → ((i : ℕ) → i < octets → get_or front i 0 ≡ get_or buffer i 0) → first_heard front octets ≡ first_heard buffer octets
unfolding bit_at
same_heard front buffer octets same =
    heard_all buffer (first_heard front octets) octets (heard_length front octets)
    (λ k h.
    let many = length-map-range_with_len (bit_at front) 0 (8 * octets) in
    get_or-map value (bits_of front (8 * octets)) k false 0 (omega arith)
    ∙ ap value (get_or-map-range_with_len (bit_at front) 0 (8 * octets) k k false (omega arith) (omega arith) ∙ ap (bit (k % 8)) (same (k / 8) (omega arith))))

-- the first of what is heard
pub heard_first : (octets : List ℕ) (count : ℕ) → count ≤ length octets → take (8 * count) (heard octets) ≡ heard (take count octets)
heard_first octets count h =
    let all = length octets in
    let long : length (take count octets) ≡ count = omega (arith, length-take count octets) in
    take-map value (8 * count) (bits_of octets (8 * all)) ∙ ap (map value) (take-map-range_with_len (bit_at octets) 0 (8 * all) (8 * count) (omega arith))
    ∙ sym (ap (first_heard (take count octets)) long ∙ same_heard (take count octets) octets count (λ i l. get_or-take count octets i 0 l))

-- what a sender has sent of a buffer, within its first round, is heard as the buffer's front
pub heard_sent : (octets check asked : ℕ) (buffer kept : List ℕ) → asked ≤ round_of octets check → SentInAll octets check buffer asked kept → heard kept ≡ first_heard buffer asked
heard_sent octets check asked buffer kept within s =
    let r = sends_in_rounds octets check buffer s.cursor kept asked s.sending in
    ap (first_heard kept) r.many
    ∙ same_heard kept buffer asked (λ i h. r.rounds i (omega (arith, r.many)) ∙ ap (λ n. get_or buffer n 0) (mod-eq_of_lt (omega arith)))

-- each bit that is heard is a lawful symbol
heard_lawful : (bits : List Bool) → unlawful hard_alphabet (map value bits) ≡ None
heard_lawful [] = refl
heard_lawful (true ∷ bits) = ap (option_map suc) (heard_lawful bits)
heard_lawful (false ∷ bits) = ap (option_map suc) (heard_lawful bits)

-- so no check of a take refuses them on a new sheet
pub heard_passes : (n tally count p : ℕ) (buffer : List ℕ) → 1 ≤ n → n ≤ most_block_octets → n ≤ p → p ≤ 4 * n → 32 * n ≤ tally → count ≡ 0
    → first_refusal (take_checks hard_alphabet n tally count 0 (first_heard buffer p)) ≡ None
heard_passes n tally count p buffer some few low high room none =
    let long = heard_length buffer p in
    let lawful = heard_lawful (bits_of buffer (8 * p)) in
    grind (arith, nat_tests, long, lawful)

module _ {W : Type 0} where
  -- a take that no check refuses is performed, and answers its count
  pub taken_all : (sheet sheet' : Sheet W ℕ counting) (tally tally' : List (Entry ℕ)) (start : ℕ) (octets : List ℕ) (r : Result Taken TakeRefusal)
      → first_refusal (take_checks hard_alphabet (block_length_of sheet) (length tally) sheet.count start octets) ≡ None
      → Takes hard_alphabet sheet sheet' tally tally' start octets r
      → (r ≡ Ok (record { total = sheet.count + length octets })) × Laid hard_alphabet counted (block_length_of sheet) start octets tally tally'
  taken_all sheet sheet' tally tally' start octets (Ok taken) none takes = (ap (λ n. Ok (record { total = n })) takes.1.total_is, takes.1.lays)
  taken_all sheet sheet' tally tally' start octets (Err e) none takes = absurd (cc (none, takes.0))

  -- after an opening and a take a sheet is of the shape that it was opened for
  pub shape_after : (shape : Shape) (tally opened lent left : List (Entry ℕ)) (new_sheet sheet : Sheet W ℕ counting) (start : ℕ) (octets : List ℕ) (r : Result Taken TakeRefusal)
      → Opens shape tally opened (Ok new_sheet) → Takes hard_alphabet new_sheet sheet lent left start octets r → shape_of_sheet sheet ≡ shape
  shape_after shape tally opened lent left new_sheet sheet start octets (Ok taken) opens takes = ap shape_of takes.1.counts.shape_stays ∙ opens.1.shape_is
  shape_after shape tally opened lent left new_sheet sheet start octets (Err e) opens takes = ap (λ x. shape_of_sheet x) takes.2.0 ∙ opens.1.shape_is
