-- An undamaged first payload decodes to what was sent. Assumes nothing.
use Rattle.std.proofs.Common.{◌≡◌, refl, ℕ, zero-add, ◌+◌, ◌*◌, ◌<◌, ◌≤◌, Bool, true, false, List, length, get_or, drop, Ok, Err, None, Result, sym, ap, ◌∙◌, subst, inl, inr, mul-le-mul_left, arith, lit≤}
use Rattle.std.proofs.lemmas.List.FromFn.{length-map-range_with_len}
use Rattle.std.proofs.lemmas.List.{ext_get_or, get_or_append_left}
use Rattle.std.proofs.lemmas.Bool.{cases_lt}
use Rattle.std.proofs.lemmas.Bool.Decides.{nat_tests}
use Rattle.block.specs.Bits.{bit_at, bits_of}
use Rattle.block.specs.Checks.{CheckFits, report_message}
use Rattle.block.specs.Refusals.{first_refusal}
use Rattle.block.specs.Sizes.{block_octets, payload}
use Rattle.block.proofs.Octets.{bit_at_octets}
use Rattle.code.specs.Columns.{is_order}
use Rattle.code.specs.Places.{output, place_bit, place_of}
use Rattle.code.specs.Calls.{Encodes}
use Rattle.code.specs.Register.{after, cleared, coded, silent, tail, with_tail}
use Rattle.code.proofs.Runs.{trace_length, trace_own}
use Rattle.weighing.specs.Scales.{counted}
use Rattle.search.specs.Weights.{entry_sums, part, weight}
use Rattle.search.proofs.Bridge.{with_tail_length}
use Rattle.search.proofs.Growth.{place_small}
use Rattle.code.specs.Shapes.{Shape, block_length}
use Rattle.weighing.specs.Hard.{hard_alphabet}
use Rattle.search.specs.Found.{find_checks}
use Rattle.search.specs.Scratch.{Scratch}
use Rattle.search.specs.declared.Entry.{Entry}
use Rattle.search.specs.declared.refusal.FindRefusal.{FindRefusal}
use Rattle.sheet.specs.Books.{laid, sum_behind}
use Rattle.sheet.specs.Calls.{Decodes, Laid, NamesNearest, Takes, block_length_of, shape_of_sheet, take_checks}
use Rattle.sheet.specs.Verdicts.{IsVerdict}
use Rattle.sheet.specs.declared.answers.Decoded.{Decoded}
use Rattle.sheet.specs.declared.answers.Verdict.{Verdict}
use Rattle.sheet.specs.declared.answers.Verdict.TheVariants.{DoesNotFit, Fits}
use Rattle.sheet.specs.declared.sheets.Sheet.{Sheet}
use Rattle.sheet.specs.Runs.{SamePlaces}
use Rattle.nearest.specs.Undamaged.{DecodesWhatWasSent, NamesSent, RoomFor, counting, heard, shape_for}
use Rattle.nearest.proofs.Fitting.{report_fits}
use Rattle.nearest.proofs.Heard.{own_weighs, sum_hit, sum_miss, weighs, weighs_own}
use Rattle.nearest.proofs.Inverse.{place_back}
use Rattle.nearest.proofs.Taken.{first_heard, heard_length, heard_passes, heard_sent, shape_after, taken_all}
use Rattle.nearest.proofs.Zeros.{added_none, first_zero, only_zero}
use Rattle.sheet.proofs.Keeping.{opened_room, ordered, same_room, same_sums, whole as whole_octets}

-- the first payload has all octets of output 1, and fits the buffer
pub payload_long : (octets check k : ℕ) → k ≤ 24 → (block_octets octets check ≤ payload octets check k) × (payload octets check k ≤ 4 * block_octets octets check)
payload_long octets check k h =
    let n = block_octets octets check in
    let low : n * 8 ≤ n * (8 + k) = mul-le-mul_left n (omega arith) in
    let high : n * (8 + k) ≤ n * 32 = mul-le-mul_left n (omega arith) in
    (omega arith, omega arith)

-- A buffer whose bits are the outputs of a message's steps at their places, of which the first m are heard, m at least 8 * n.
module _ (order : List ℕ) (is : is_order order ≡ true) (n m : ℕ) (all : 8 * n ≤ m) (fits : m ≤ 32 * n) (f : ℕ → Bool) (sent : List Bool) (whole : length sent + 4 ≡ 8 * n)
    (holds : (p : ℕ) → p < 32 * n → f p ≡ place_bit order n (coded sent) p) (tally : List (Entry ℕ))
    (hit : (p : ℕ) (b : Bool) → p < m → entry_sums counted tally p b ≡ weighs (f p) b)
    (miss : (p : ℕ) (b : Bool) → m ≤ p → p < 32 * n → entry_sums counted tally p b ≡ counted.zero) where
  -- the bit that came at a place weighs nothing there
  own : (p : ℕ) → p < 32 * n → entry_sums counted tally p (f p) ≡ counted.zero
  own p h = elim (cases_lt p m) [ inl x ↦ hit p (f p) x ∙ weighs_own (f p) | inr x ↦ miss p (f p) x h ]

  steps_long : (message : List Bool) → length message + 4 ≡ 8 * n → length (coded message) ≡ 8 * n
  steps_long message e = trace_length cleared (with_tail message) ∙ with_tail_length message ∙ e

  sent_part : (t : ℕ) → t < 8 * n → (o : ℕ) → 1 ≤ o → o ≤ 4 → part counted order n (entry_sums counted tally) t (get_or (coded sent) t silent.outputs) o ≡ counted.zero
  unfolding part
  sent_part t h o low high =
      let p = place_of order n o t in
      let small = place_small order is n o t low high h in
      cc (holds p small, place_back order is n (coded sent) o t low high h, own p small)

  -- so the message sent weighs nothing
  sent_weight : weight counted order n (entry_sums counted tally) sent ≡ counted.zero
  unfolding weight
  sent_weight =
      added_none counted order n (entry_sums counted tally) (coded sent) counted.zero 0
      (λ i h o low high. cc (zero-add i, sent_part i (omega (arith, steps_long sent whole)) o low high))

  -- bit t of a message with its tail, as the register gives it back
  given_bit : (message : List Bool) → length message + 4 ≡ 8 * n → (t : ℕ) → t < 8 * n → output 1 (get_or (coded message) t silent.outputs) ≡ get_or (with_tail message) t false
  given_bit message e t h = trace_own cleared (with_tail message) t (omega (arith, with_tail_length message))

  -- a message that weighs nothing has, at each step, the bit that came
  heard_bit : (other : List Bool) → length other + 4 ≡ 8 * n → weight counted order n (entry_sums counted tally) other ≡ counted.zero → (t : ℕ) → t < 8 * n → get_or (with_tail other) t false ≡ f t
  unfolding weight part place_of
  heard_bit other e none t h =
      let zero_part = first_zero counted order n (entry_sums counted tally) (coded other) t (omega (arith, steps_long other e)) none in
      sym (given_bit other e t h) ∙ own_weighs (f t) _ (sym (hit t _ (omega arith)) ∙ zero_part)

  sent_bit : (t : ℕ) → t < 8 * n → f t ≡ get_or (with_tail sent) t false
  unfolding place_of
  sent_bit t h = holds t (omega arith) ∙ place_back order is n (coded sent) 1 t (lit≤ tt) (lit≤ tt) h ∙ given_bit sent whole t h

  -- so it is the message sent
  pub same_message : (other : List Bool) → length other + 4 ≡ 8 * n → weight counted order n (entry_sums counted tally) other ≡ counted.zero → other ≡ sent
  same_message other e none =
      ext_get_or false other sent (omega arith)
      (λ i h. cc (
        get_or_append_left other (tail (after cleared other)) false i h,
        heard_bit other e none i (omega arith),
        sent_bit i (omega arith),
        get_or_append_left sent (tail (after cleared sent)) false i (omega arith),
      ))

  -- and what is nearest weighs nothing
  pub nearest_zero : (w : counted.Meaning) → counted.atmost w (weight counted order n (entry_sums counted tally) sent) → w ≡ counted.zero
  nearest_zero w le = only_zero counted order n (entry_sums counted tally) w (rw sent_weight at le)

-- where a message's check fits, the verdict says so
fits_is : (shape : Shape) (message : List Bool) (verdict : Verdict) → IsVerdict shape message verdict → CheckFits shape.octets shape.check message → verdict ≡ Fits
fits_is shape message Fits is fits = refl
fits_is shape message DoesNotFit is fits = absurd (is fits)

-- What is heard of a buffer after a report was encoded into it, and taken onto a new sheet; a decode is lent the same entries.
module _ (report : List ℕ) (check k : ℕ) (order before buffer : List ℕ) (rate : k ≤ 24) (is : is_order order ≡ true)
    (size : 8 * length report + check + 4 ≡ 8 * block_octets (length report) check) (encode : Encodes report check order before buffer (Ok tt))
    (lent left taken : List (Entry ℕ)) (zeros : (p : ℕ) (b : Bool) → p < 32 * block_octets (length report) check → entry_sums counted lent p b ≡ counted.zero)
    (lays : Laid hard_alphabet counted (block_octets (length report) check) 0 (first_heard buffer (payload (length report) check k)) lent left)
    (own : SamePlaces (block_octets (length report) check) taken left) where
  abbrev octets : ℕ
  octets = length report

  abbrev shape : Shape
  shape = record { octets = octets; check = check; order = order }

  abbrev n : ℕ
  n = block_octets octets check

  abbrev bits : ℕ
  bits = 8 * octets + check

  abbrev m : ℕ
  m = 8 * payload octets check k

  abbrev sent : List Bool
  sent = report_message report octets check

  sent_long : length sent + 4 ≡ 8 * n
  sent_long = rw length-map-range_with_len size

  holds : (p : ℕ) → p < 32 * n → bit_at buffer p ≡ place_bit order n (coded sent) p
  holds p h = cc (encode.1, bit_at_octets (place_bit order n (coded sent)) (4 * n) (drop (4 * n) before) p (omega arith))

  laid_sum : (p : ℕ) (b : Bool) → p < 32 * n
      → entry_sums counted taken p b ≡ sum_behind hard_alphabet counted counted.zero p b (laid hard_alphabet (32 * n) 0 (first_heard buffer (payload octets check k)))
  laid_sum p b h = cc (same_sums counted n taken left own p b h, lays.sums p b h, zeros p b h)

  hit : (p : ℕ) (b : Bool) → p < m → entry_sums counted taken p b ≡ weighs (bit_at buffer p) b
  hit p b h =
      let long = payload_long octets check k rate in
      laid_sum p b (omega arith) ∙ sum_hit (32 * n) (bit_at buffer) p b m counted.zero 0 (omega arith) (omega arith) (omega arith) ∙ counted.laws.zero_left (weighs (bit_at buffer p) b)

  miss : (p : ℕ) (b : Bool) → m ≤ p → p < 32 * n → entry_sums counted taken p b ≡ counted.zero
  miss p b low h =
      let long = payload_long octets check k rate in
      laid_sum p b h ∙ sum_miss (32 * n) (bit_at buffer) p b m counted.zero 0 (omega arith) (inr (omega arith))

  -- what is named is the message sent
  sent_named : (target target' : List ℕ) (decoded : Decoded ℕ) → NamesNearest counted shape (entry_sums counted taken) target target' decoded
      → (bits_of target' bits ≡ sent) × (decoded.weight ≡ 0) × (decoded.verdict ≡ Fits)
  sent_named target target' decoded named =
      let long = payload_long octets check k rate in
      let names = named.names in
      let mine = bits_of target' bits in
      let mine_long : length mine + 4 ≡ 8 * n = rw length-map-range_with_len size in
      let none : weight counted order n (entry_sums counted taken) mine ≡ counted.zero =
      nearest_zero order is n m (omega arith) (omega arith) (bit_at buffer) sent sent_long holds taken hit miss _ (names.nearest sent (omega (arith, sent_long))) in
      let same : mine ≡ sent = same_message order is n m (omega arith) (omega arith) (bit_at buffer) sent sent_long holds taken hit miss mine mine_long none in (
        same,
        (let zero_value : (counted.mean decoded.weight).value ≡ 0 = ap (λ (x : counted.Meaning). x.value) (names.weighs ∙ none) in omega arith),
        fits_is shape mine decoded.verdict named.verdict (subst (CheckFits octets check) (sym same) (report_fits report octets check)),
      )

  -- where there is room enough a message is found, and it is that
  pub found_sent : {W : Type 0} (sheet : Sheet W ℕ counting) → shape_of_sheet sheet ≡ shape → (target target' : List ℕ) (scratch scratch' : Scratch ℕ) (r : Result (Decoded ℕ) FindRefusal)
      → 32 * n ≤ length taken → RoomFor n target scratch → Decodes sheet taken target target' scratch scratch' r → NamesSent report check target' r
  found_sent sheet same target target' scratch scratch' (Ok decoded) room rooms decodes =
      sent_named target target' decoded (subst (λ (x : Shape). NamesNearest counted x (entry_sums counted taken) target target' decoded) same decodes.1.0)
  found_sent sheet same target target' scratch scratch' (Err e) room rooms decodes =
      let a = rooms.0 in
      let b = rooms.1 in
      let c = rooms.2 in
      let none : first_refusal (find_checks n (length taken) (length target) scratch) ≡ None = grind (arith, nat_tests) in
      absurd (cc (none, same, decodes.0))

module _ (W : Type 0) where
  pub decodes_what_was_sent : DecodesWhatWasSent W
  decodes_what_was_sent report check k order rate sheet left r t =
      let octets = length report in
      let shape = shape_for report check order in
      let n = block_octets octets check in
      let new_sheet = t.new_sheet in
      let made = t.opening.1 in
      let p = payload octets check k in
      let same : block_length_of new_sheet ≡ n = ap block_length made.shape_is in
      let size : 8 * octets + check + 4 ≡ 8 * n = whole_octets new_sheet shape made.shape_is in
      let is : is_order order ≡ true = ordered new_sheet shape made.shape_is in
      let long = payload_long octets check k rate in
      let symbols : heard t.kept ≡ first_heard t.buffer p = heard_sent octets check p t.buffer t.kept long.1 t.sent in
      let takes = subst (λ xs. Takes hard_alphabet new_sheet sheet t.lent left 0 xs r) symbols t.taking in
      let room : 32 * n ≤ length t.lent =
      same_room n t.lent t.opened t.own (omega (arith, opened_room shape (length t.tally) t.opening.0, made.cleared.front.long)) in
      let passes : first_refusal (take_checks hard_alphabet (block_length_of new_sheet) (length t.lent) new_sheet.count 0 (first_heard t.buffer p)) ≡ None =
      heard_passes (block_length_of new_sheet) (length t.lent) new_sheet.count p t.buffer (omega (arith, new_sheet.shape.size.some)) (omega (arith, new_sheet.shape.size.few, new_sheet.shape.size.short)) (omega (arith, same)) (omega (arith, same)) (omega (arith, same)) made.none_taken in
      let performed = taken_all new_sheet sheet t.lent left 0 (first_heard t.buffer p) r passes takes in
      let lays = subst (λ x. Laid hard_alphabet counted x 0 (first_heard t.buffer p) t.lent left) same performed.1 in
      let zeros : (q : ℕ) (b : Bool) → q < 32 * n → entry_sums counted t.lent q b ≡ counted.zero =
      λ q b h. same_sums counted n t.lent t.opened t.own q b h ∙ made.cleared.zeros q b h in
      let count = heard_length t.buffer p in
      let total : new_sheet.count + length (first_heard t.buffer p) ≡ 8 * p = omega (arith, made.none_taken) in (
        performed.0 ∙ ap (λ m. Ok (record { total = m })) total,
        λ lent target target' scratch scratch' decoded own rooms decodes.
            found_sent report check k order t.before t.buffer rate is size t.encoding t.lent left lent zeros lays own sheet
            (shape_after shape t.tally t.opened t.lent left new_sheet sheet 0 (heard t.kept) r t.opening t.taking) target target' scratch scratch' decoded
            (same_room n lent left own (omega (arith, lays.front.long))) rooms decodes,
      )
