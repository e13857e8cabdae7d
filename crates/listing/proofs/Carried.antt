-- Carrying out acts, by what the calls of the sheet do. Assumes nothing.
use Rattle.std.proofs.Common.{◌≡◌, ℕ, suc, ◌+◌, ◌-◌, ◌*◌, ◌/◌, ◌%◌, ◌<◌, ◌≤◌, Bool, true, false, MatchBool, nat_lt, map, List, [], ◌∷◌, ◌++◌, length, length-append, get_or, take, drop, take-append-drop, Ok, Err, Some, None, Option, refl, sym, ap, ◌∙◌, subst, arith, rules}
use Rattle.std.proofs.Math.Seq.{drop-append_seam}
use Rattle.std.specs.Option.{option_map, unwrap_or}
use Rattle.std.proofs.lemmas.List.{drop-map, ext_get_or, get_or-drop, get_or-take, get_or_append_left, length-take-le}
use Rattle.std.proofs.lemmas.Bool.Decides.{nat_tests}
use Rattle.std.proofs.lemmas.Option.{none-some, same_Some}
use Rattle.std.proofs.lemmas.List.FromFn.{get_or-map-range_with_len, length-map-range_with_len}
use Rattle.block.specs.Bits.{bit_at, bits_of, filled, octet_of}
use Rattle.block.specs.Refusals.{first_refusal}
use Rattle.block.proofs.Laws.{octet_same}
use Rattle.code.specs.Columns.{order_r}
use Rattle.code.specs.Register.{after as after_bits, cleared, tail, with_tail}
use Rattle.code.specs.Shapes.{Shape, block_length, message_length, places, shape_of}
use Rattle.weighing.specs.Alphabets.{Alphabet}
use Rattle.weighing.specs.Scales.{Scale}
use Rattle.weighing.specs.declared.Weighing.{Ghosts}
use Rattle.search.specs.Found.{message_at}
use Rattle.search.specs.Scratch.{Scratch, UsesFront}
use Rattle.search.specs.Weights.{entry_sums, side}
use Rattle.search.specs.declared.Entry.{Entry}
use Rattle.sheet.specs.Books.{book_after, decoding, taking, unlawful, wiping}
use Rattle.sheet.specs.Calls.{Decodes, Opens, Takes, Wipes, block_length_of, open_case, open_checks, shape_of_sheet, take_case, take_checks}
use Rattle.sheet.specs.Runs.{Agrees, takes, wipes}
use Rattle.sheet.specs.declared.answers.Decoded.{Decoded}
use Rattle.sheet.specs.declared.answers.Taken.{Taken}
use Rattle.sheet.specs.declared.answers.Verdict.{Verdict}
use Rattle.sheet.specs.declared.refusals.OpenRefusal.{OpenRefusal}
use Rattle.sheet.specs.declared.refusals.TakeRefusal.{TakeRefusal}
use Rattle.sheet.specs.declared.refusals.TakeRefusal.TheVariants.{Symbol}
use Rattle.sheet.specs.declared.sheets.Sheet.{Sheet}
use Rattle.sheet.proofs.Keeping.{step_agrees, named_by_book, opened_agrees}
use Rattle.listing.specs.Buffers.{Buffers, NoDecode}
use Rattle.listing.specs.Carrying.{Bench, CarriesOut, IsInForce, Stands}
use Rattle.listing.specs.Captures.{Act, a_decode, a_take, a_wipe, an_open}
use Rattle.listing.specs.Faults.{ActFault, is_open}
use Rattle.listing.specs.InForce.{InForce, PlaceHolds, TallyHolds, force_after, opened, shape_r, start_of, sums_of}
use Rattle.listing.specs.Lines.{LineContent, decode_line, end_line, fault_line}
use Rattle.listing.specs.Outcomes.{ComesOf, act_checks, act_stops, decode_goes_on, goes_on, no_sheet, open_goes_on, stops, take_goes_on, wipe_goes_on}
use Rattle.listing.specs.declared.faults.Fault.{Fault}
use Rattle.listing.specs.declared.faults.Fault.TheVariants.{NoSheet}
use Rattle.listing.specs.declared.layouts.Layout.{Layout}

cast : {X Y : Type 0} → X ≡ Y → X → Y
cast e x = subst (λ Z. Z) e x

-- the octets that a decode leaves in front are those of the message named
named_octets : (octets bits n : ℕ) (after rest : List ℕ) → 8 * octets ≤ bits → octets ≤ n → after ≡ filled (with_tail (bits_of after bits)) n ++ rest
    → take octets after ≡ filled (bits_of after bits) octets
named_octets octets bits n after rest low within written =
    let mine = bits_of after bits in
    let all = with_tail mine in
    let octet_at : List Bool → ℕ → ℕ = λ m b. octet_of (λ i. get_or m (8 * b + i) false) in
    let long : length mine ≡ bits = length-map-range_with_len (bit_at after) 0 bits in
    let front : length (filled all n) ≡ n = length-map-range_with_len (octet_at all) 0 n in
    let enough : octets ≤ length after = omega (arith, ap length written ∙ length-append (filled all n) rest, front) in
    ext_get_or 0 (take octets after) (filled mine octets)
    (length-take-le octets after enough ∙ sym (length-map-range_with_len (octet_at mine) 0 octets))
    (λ k h.
    let small : k < octets = subst (λ x. k < x) (length-take-le octets after enough) h in
    get_or-take octets after k 0 small
    ∙ ap (λ xs. get_or xs k 0) written
    ∙ get_or_append_left (filled all n) rest 0 k (omega (arith, front))
    ∙ get_or-map-range_with_len (octet_at all) 0 n k k 0 (omega arith) (omega arith)
    ∙ octet_same _ (λ i. get_or mine (8 * k + i) false) (λ i eight. get_or_append_left mine (tail (after_bits cleared mine)) false (8 * k + i) (omega (arith, small, long)))
    ∙ sym (get_or-map-range_with_len (octet_at mine) 0 octets k k 0 small (omega arith)))

-- the first unlawful octet is one of those handed
within_step : {A : Type 0} (symbol : Option A) (more : Option ℕ) (n : ℕ) → ((i : ℕ) → more ≡ Some i → i < n)
    → (i : ℕ) → elim symbol [ None ↦ Some 0 | Some x ↦ option_map suc more ] ≡ Some i → i < suc n
within_step None more n within i e = omega (arith, same_Some 0 i e)
within_step (Some x) None n within i e = absurd (none-some i e)
within_step (Some x) (Some k) n within i e = omega (arith, same_Some (suc k) i e, within k refl)

module _ {A V : Type 0} (a : Alphabet A V) where
  unlawful_within : (octets : List ℕ) (i : ℕ) → unlawful a octets ≡ Some i → i < length octets
  unlawful_within [] i e = absurd (none-some i e)
  unlawful_within (x ∷ xs) i e = within_step (a.reads x) (unlawful a xs) (length xs) (unlawful_within xs) i e

  -- a take that is refused for a symbol has passed the test of its count
  counted_before : (n tally count start : ℕ) (octets : List ℕ) → first_refusal (take_checks a n tally count start octets) ≡ Some 9 → length octets ≤ 32 * n
  counted_before n tally count start octets e = search rules

  pub refused_within : (n tally count start : ℕ) (octets : List ℕ) (refusal : TakeRefusal)
      → first_refusal (take_checks a n tally count start octets) ≡ Some (take_case (unlawful a octets) refusal).number
      → (take_case (unlawful a octets) refusal).carries → (i : ℕ) → refusal ≡ Symbol i → i < 32 * n
  refused_within n tally count start octets refusal refuses carries i is =
      let named = subst (λ r. (take_case (unlawful a octets) r).carries) is carries in
      let nine = refuses ∙ ap (λ r. Some (take_case (unlawful a octets) r).number) is in
      omega (arith, unlawful_within octets i named, counted_before n tally count start octets nine)

  -- the tests of a take, by what the sheet in force is
  same_tests : (symbols : List ℕ) {n n' room room' count count' start start' : ℕ} {r : Option ℕ} → n ≡ n' → room ≡ room' → count ≡ count' → start ≡ start'
      → first_refusal (take_checks a n room count start symbols) ≡ r → first_refusal (take_checks a n' room' count' start' symbols) ≡ r
  same_tests symbols n room count start e = sym (λ i. first_refusal (take_checks a (n i) (room i) (count i) (start i) symbols)) ∙ e

-- both sides of a choice go on
either : (t : Bool) {P P' Q Q' : Type 0} → (P → P') → (Q → Q') → MatchBool t P Q → MatchBool t P' Q'
either true f g x = f x
either false f g x = g x

-- a place below k, or another
by_place : (p k : ℕ) (t : Bool) {P Q : Type 0} → nat_lt p k ≡ t → (p < k → P) → (k ≤ p → Q) → MatchBool t P Q
by_place p k true is below others = below (grind (arith, nat_tests, is))
by_place p k false is below others = others (grind (arith, nat_tests, is))

is_other : (p k : ℕ) (t : Bool) (P Q : Type 0) → nat_lt p k ≡ t → k ≤ p → MatchBool t P Q → Q
is_other p k true P Q is other x = absurd (let below : p < k = grind (arith, nat_tests, is) in omega (arith, below, other))
is_other p k false P Q is other x = x

module _ {V : Type 0} where
  -- what stands behind the front that is used
  entry_behind : (k : ℕ) (before after : List (Entry V)) → UsesFront k before after → (p : ℕ) → k ≤ p → (e : Entry V) → get_or after p e ≡ get_or before p e
  entry_behind k before after front p behind e =
      let is : k + (p - k) ≡ p = omega (arith, behind) in
      subst (λ q. get_or after q e ≡ get_or before q e) is
      (sym (get_or-drop k after (p - k) e) ∙ ap (λ xs. get_or xs (p - k) e) front.rest ∙ get_or-drop k before (p - k) e)

  sums_behind : (s : Scale V) (k : ℕ) (before after : List (Entry V)) → UsesFront k before after → (p : ℕ) → k ≤ p → (b : Bool) → entry_sums s after p b ≡ entry_sums s before p b
  unfolding entry_sums
  sums_behind s k before after front p behind b =
      let f : Entry V → s.Meaning = λ e. s.mean (side b e) in
      let is : k + (p - k) ≡ p = omega (arith, behind) in
      subst (λ q. get_or (map f after) q s.zero ≡ get_or (map f before) q s.zero) is
      (sym (get_or-drop k (map f after) (p - k) s.zero)
      ∙ ap (λ xs. get_or xs (p - k) s.zero) (drop-map f k after ∙ ap (map f) front.rest ∙ sym (drop-map f k before))
      ∙ get_or-drop k (map f before) (p - k) s.zero)

  module _ {A : Type 0} (a : Alphabet A V) (s : Scale V) where
    -- a place whose entry stays holds what it held
    place_stays : (sheets : List InForce) (lent before after : List (Entry V)) (p : ℕ) → ((e : Entry V) → get_or after p e ≡ get_or before p e)
        → ((b : Bool) → entry_sums s after p b ≡ entry_sums s before p b) → PlaceHolds a s sheets lent before p → PlaceHolds a s sheets lent after p
    place_stays [] lent before after p entries sums holds = λ e. entries e ∙ holds e
    place_stays (sheet ∷ earlier) lent before after p entries sums holds =
        either (nat_lt p (places sheet.shape)) (λ own b. sums b ∙ own b) (place_stays earlier lent before after p entries sums) holds

    -- a tally whose front a sheet has written, and which was as the earlier sheets have it behind that
    front_written : (sheet : InForce) (earlier : List InForce) (lent before after : List (Entry V)) → length before ≡ length lent
        → ((p : ℕ) → p < length lent → places sheet.shape ≤ p → PlaceHolds a s earlier lent before p)
        → UsesFront (places sheet.shape) before after
        → ((p : ℕ) (b : Bool) → p < places sheet.shape → entry_sums s after p b ≡ sums_of a s sheet p b)
        → TallyHolds a s (sheet ∷ earlier) lent after
    front_written sheet earlier lent before after long behind front own = record {
      long = front.long ∙ long;
      each = λ p h. by_place p (places sheet.shape) (nat_lt p (places sheet.shape)) refl (λ below b. own p b below)
          (λ other. place_stays earlier lent before after p (entry_behind (places sheet.shape) before after front p other)
          (sums_behind s (places sheet.shape) before after front p other) (behind p h other));
    }

    -- what the earlier sheets have of a tally
    earlier_hold : (sheet : InForce) (earlier : List InForce) (lent left : List (Entry V)) → TallyHolds a s (sheet ∷ earlier) lent left
        → (p : ℕ) → p < length lent → places sheet.shape ≤ p → PlaceHolds a s earlier lent left p
    earlier_hold sheet earlier lent left holds p h other = is_other p (places sheet.shape) (nat_lt p (places sheet.shape)) _ _ refl other (holds.each p h)

module _ {V : Type 0} where
  -- behind a decode's line, one was told
  decode_told : (told : List (LineContent V)) (r : ℕ) (weight : V) (verdict : Verdict) (octets : List ℕ) → NoDecode (told ++ decode_line r weight verdict octets ∷ []) → ⊥
  decode_told [] r weight verdict octets none = none
  decode_told (decode_line _ _ _ _ ∷ told) r weight verdict octets none = none
  decode_told (fault_line _ _ ∷ told) r weight verdict octets none = decode_told told r weight verdict octets none
  decode_told (end_line _ ∷ told) r weight verdict octets none = decode_told told r weight verdict octets none

-- what lies behind a part that is lent stays
pub front_used : {T : Type 0} (k : ℕ) (front all : List T) → k ≤ length all → length front ≡ length (take k all) → UsesFront k all (front ++ drop k all)
front_used k front all room long =
    let few : length front ≡ k = long ∙ length-take-le k all room in
    record {
      long = length-append front (drop k all) ∙ ap (λ n. n + length (drop k all)) long ∙ sym (length-append (take k all) (drop k all)) ∙ ap length (take-append-drop k all);
      rest = ap (λ n. drop n (front ++ drop k all)) (sym few) ∙ drop-append_seam front (drop k all);
    }

-- what lies behind the part that is used stays where all stays
rest_stays : {T : Type 0} {k : ℕ} {lent before after : List T} → after ≡ before → UsesFront k lent before → UsesFront k lent after
rest_stays {k} same uses = record { long = ap length same ∙ uses.long; rest = ap (drop k) same ∙ uses.rest }

module _ {W V A : Type 0} {g : Ghosts W V} (a : Alphabet A V) where
  -- what is in force where neither sheet nor tally has changed
  still_in_force : (before after : Bench g) → after.sheet ≡ before.sheet → after.next_start ≡ before.next_start → after.buffers.tally ≡ before.buffers.tally
      → (sheets : List InForce) → IsInForce a before sheets → IsInForce a after sheets
  still_in_force before after sheet next tally [] closed = sheet ∙ closed
  still_in_force before after sheet next tally (force ∷ earlier) (own, holds) = (
    own,
    record {
      sheet_is = sheet ∙ holds.sheet_is;
      next_is = next ∙ holds.next_is;
      agrees = subst (λ t. Agrees g a force.shape force.book (record { sheet = own; tally = t })) (sym tally) holds.agrees;
    },
  )

  -- a workspace that has not changed
  pub still_stands : (before after : Bench g) → after.sheet ≡ before.sheet → after.next_start ≡ before.next_start
      → after.buffers.tally ≡ before.buffers.tally → after.buffers.paths ≡ before.buffers.paths
      → (lent : Buffers V) (sheets : List InForce) (told : List (LineContent V)) → Stands a lent sheets told before → Stands a lent sheets told after
  still_stands before after sheet next tally paths lent sheets told stands = record {
    in_force = still_in_force before after sheet next tally sheets stands.in_force;
    buffers = record {
      tally = subst (TallyHolds a g.scale sheets lent.tally) (sym tally) stands.buffers.tally;
      paths = λ none. paths ∙ stands.buffers.paths none;
      rest = rest_stays paths stands.buffers.rest;
    };
  }

  -- an act that goes on with no line and leaves the path weights
  goes_on_silently : (before after : Bench g) (lent : Buffers V) (sheets behind : List InForce) (told : List (LineContent V))
      → Stands a lent sheets told before → after.buffers.paths ≡ before.buffers.paths → IsInForce a after behind → TallyHolds a g.scale behind lent.tally after.buffers.tally
      → Stands a lent behind told after
  goes_on_silently before after lent sheets behind told stands paths in_force tally =
      record { in_force = in_force; buffers = record { tally = tally; paths = λ none. paths ∙ stands.buffers.paths none; rest = rest_stays paths stands.buffers.rest } }

  pub open_done : (before after : Bench g) (at : Layout) (octets check : ℕ) (order : List ℕ) (sheet : Sheet W V g) → order ≡ order_r
      → after.sheet ≡ Some sheet → after.next_start ≡ 0 → after.buffers.paths ≡ before.buffers.paths
      → Opens (record { octets = octets; check = check; order = order }) before.buffers.tally after.buffers.tally (Ok sheet)
      → CarriesOut a at (an_open octets check) before after (Ok None)
  open_done before after at octets check order sheet is_r is next paths does =
      let opens : Opens (shape_r octets check) before.buffers.tally after.buffers.tally (Ok sheet) =
      subst (λ cs. Opens (record { octets = octets; check = check; order = cs }) before.buffers.tally after.buffers.tally (Ok sheet)) is_r does in
      let agrees = opened_agrees g a (shape_r octets check) before.buffers.tally (record { sheet = sheet; tally = after.buffers.tally }) opens in
      λ lent sheets told stands.
      let long = stands.buffers.tally.long in
      let force = opened octets check in (
        force ∷ sheets,
        open_goes_on (cast (λ i. first_refusal (open_checks (shape_r octets check) (long i)) ≡ None) opens.0),
        goes_on_silently before after lent sheets (force ∷ sheets) told stands paths
            (sheet, record { sheet_is = is; next_is = next; agrees = agrees })
            (front_written a g.scale force sheets lent.tally before.buffers.tally after.buffers.tally long
            (λ p h other. stands.buffers.tally.each p h) opens.1.cleared.front agrees.entries),
      )

  pub open_refused : (before after : Bench g) (at : Layout) (octets check : ℕ) (order : List ℕ) (refusal : OpenRefusal) (fault : Fault)
      → after.sheet ≡ before.sheet → after.next_start ≡ before.next_start → after.buffers.paths ≡ before.buffers.paths
      → Opens {W = W} {g = g} (record { octets = octets; check = check; order = order }) before.buffers.tally after.buffers.tally (Err refusal)
      → ActFault at (an_open octets check) None (open_case refusal).number fault
      → CarriesOut a at (an_open octets check) before after (Err fault)
  open_refused before after at octets check order refusal fault sheet next paths does is =
      λ lent sheets told stands. (
        act_stops (cast (λ i. first_refusal (open_checks (shape_r octets check) (stands.buffers.tally.long i)) ≡ Some (open_case refusal).number) does.0) is,
        still_stands before after sheet next does.2 paths lent sheets told stands,
      )

  -- an act that needs a sheet, where none is in force
  pub without_sheet : (before after : Bench g) (at : Layout) (act : Act)
      → after.sheet ≡ before.sheet → after.next_start ≡ before.next_start → after.buffers.tally ≡ before.buffers.tally → after.buffers.paths ≡ before.buffers.paths
      → ((room : ℕ) → act_checks a room [] act ≡ no_sheet) → is_open act ≡ false → before.sheet ≡ None
      → CarriesOut a at act before after (Err (NoSheet at.map))
  without_sheet before after at act sheet next tally paths tests needs none = told_of
    where
      told_of : (lent : Buffers V) (sheets : List InForce) (told : List (LineContent V)) → Stands a lent sheets told before
          → ComesOf a g.scale (length lent.tally) at sheets act (stops (NoSheet at.map)) × Stands a lent sheets told after
      told_of lent [] told stands =
          (act_stops (ap first_refusal (tests (length lent.tally))) (record { says_so = refl; carries = needs }), still_stands before after sheet next tally paths lent [] told stands)
      told_of lent (force ∷ earlier) told stands = let (own, holds) = stands.in_force in absurd (none-some own (sym none ∙ holds.sheet_is))

  -- An act on the sheet in force: what holds where the workspace's sheet is known to be this one.
  on_sheet : (before : Bench g) (sheet : Sheet W V g) → before.sheet ≡ Some sheet → (lent : Buffers V) (told : List (LineContent V)) → (P : List InForce → Type 0)
      → ((force : InForce) (earlier : List InForce) → Stands a lent (force ∷ earlier) told before → before.next_start ≡ force.next_start
      → Agrees g a force.shape force.book (record { sheet = sheet; tally = before.buffers.tally }) → P (force ∷ earlier))
      → (sheets : List InForce) → Stands a lent sheets told before → P sheets
  on_sheet before sheet is lent told P known [] stands = absurd (none-some sheet (sym stands.in_force ∙ is))
  on_sheet before sheet is lent told P known (force ∷ earlier) stands =
      let (own, holds) = stands.in_force in
      known force earlier stands holds.next_is
      (subst (λ x. Agrees g a force.shape force.book (record { sheet = x; tally = before.buffers.tally })) (same_Some own sheet (sym holds.sheet_is ∙ is)) holds.agrees)

  -- what comes of an act that goes on with these lines, and of one that a fault stops, by the sheets
  abbrev GoesOn : Buffers V → Layout → Act → (lines told : List (LineContent V)) → Bench g → List InForce → Type 0
  GoesOn lent at act lines told after sheets =
      (behind : List InForce) × ComesOf a g.scale (length lent.tally) at sheets act (goes_on lines behind) × Stands a lent behind told after

  abbrev Stops : Buffers V → Layout → Act → Fault → List (LineContent V) → Bench g → List InForce → Type 0
  Stops lent at act fault told after sheets = ComesOf a g.scale (length lent.tally) at sheets act (stops fault) × Stands a lent sheets told after

  pub take_done : (before after : Bench g) (at : Layout) (start : Option ℕ) (begin : ℕ) (symbols : List ℕ) (taken : Taken) (sheet sheet' : Sheet W V g)
      → before.sheet ≡ Some sheet → after.sheet ≡ Some sheet' → begin ≡ unwrap_or start before.next_start
      → after.next_start ≡ (begin + length symbols / 8) % (4 * block_length_of sheet') → after.buffers.paths ≡ before.buffers.paths
      → Takes a sheet sheet' before.buffers.tally after.buffers.tally begin symbols (Ok taken)
      → CarriesOut a at (a_take start symbols) before after (Ok None)
  take_done before after at start begin symbols taken sheet sheet' is is' from next paths does =
      λ lent sheets told. on_sheet before sheet is lent told (GoesOn lent at (a_take start symbols) [] told after) (λ force earlier stands same agrees.
      let n : block_length_of sheet ≡ block_length force.shape = ap block_length agrees.shape_is in
      let n' : block_length_of sheet' ≡ block_length force.shape = ap (λ x. block_length (shape_of x)) does.1.counts.shape_stays ∙ n in
      let begin_is : begin ≡ start_of force start = from ∙ ap (unwrap_or start) same in
      let moved : Agrees g a force.shape (book_after force.book (taking begin symbols)) (record { sheet = sheet'; tally = after.buffers.tally }) =
      step_agrees g a force.shape force.book (record { sheet = sheet; tally = before.buffers.tally }) (takes begin symbols before.buffers.tally after.buffers.tally (Ok taken))
      (record { sheet = sheet'; tally = after.buffers.tally }) agrees (does, (refl, refl)) in
      let behind : InForce = force_after force (taking (start_of force start) symbols) in
      let agrees' : Agrees g a force.shape behind.book (record { sheet = sheet'; tally = after.buffers.tally }) =
      subst (λ b. Agrees g a force.shape (book_after force.book (taking b symbols)) (record { sheet = sheet'; tally = after.buffers.tally })) begin_is moved in (
        behind ∷ earlier,
        take_goes_on (same_tests a symbols n stands.buffers.tally.long agrees.count_is begin_is does.0),
        goes_on_silently before after lent (force ∷ earlier) (behind ∷ earlier) told stands paths (
          sheet',
          record {
            sheet_is = is';
            next_is = next ∙ (λ i. (begin_is i + length symbols / 8) % (4 * n' i));
            agrees = agrees';
          },
        )
            (front_written a g.scale behind earlier lent.tally before.buffers.tally after.buffers.tally stands.buffers.tally.long
            (earlier_hold a g.scale force earlier lent.tally before.buffers.tally stands.buffers.tally)
            (subst (λ x. UsesFront (32 * x) before.buffers.tally after.buffers.tally) n does.1.lays.front) agrees'.entries),
      )) sheets

  pub take_refused : (before after : Bench g) (at : Layout) (start : Option ℕ) (begin : ℕ) (symbols : List ℕ) (refusal : TakeRefusal) (fault : Fault) (sheet sheet' : Sheet W V g)
      → before.sheet ≡ Some sheet → after.sheet ≡ Some sheet' → begin ≡ unwrap_or start before.next_start → after.next_start ≡ before.next_start → after.buffers.paths ≡ before.buffers.paths
      → Takes a sheet sheet' before.buffers.tally after.buffers.tally begin symbols (Err refusal)
      → ActFault at (a_take start symbols) (unlawful a symbols) (take_case (unlawful a symbols) refusal).number fault
      → CarriesOut a at (a_take start symbols) before after (Err fault)
  take_refused before after at start begin symbols refusal fault sheet sheet' is is' from next paths does fault_is =
      λ lent sheets told. on_sheet before sheet is lent told (Stops lent at (a_take start symbols) fault told after) (λ force earlier stands same agrees.
      let n : block_length_of sheet ≡ block_length force.shape = ap block_length agrees.shape_is in (
        act_stops (same_tests a symbols n stands.buffers.tally.long agrees.count_is (from ∙ ap (unwrap_or start) same) does.0) fault_is,
        still_stands before after (is' ∙ ap Some does.2.0 ∙ sym is) next does.2.1 paths lent (force ∷ earlier) told stands,
      )) sheets

  pub wipe_done : (before after : Bench g) (at : Layout) (sheet sheet' : Sheet W V g) → before.sheet ≡ Some sheet → after.sheet ≡ Some sheet' → after.next_start ≡ 0 → after.buffers.paths ≡ before.buffers.paths
      → Wipes sheet sheet' before.buffers.tally after.buffers.tally (Ok tt)
      → CarriesOut a at a_wipe before after (Ok None)
  wipe_done before after at sheet sheet' is is' next paths does =
      λ lent sheets told. on_sheet before sheet is lent told (GoesOn lent at a_wipe [] told after) (λ force earlier stands same agrees.
      let behind : InForce = force_after force wiping in
      let agrees' : Agrees g a force.shape behind.book (record { sheet = sheet'; tally = after.buffers.tally }) =
      step_agrees g a force.shape force.book (record { sheet = sheet; tally = before.buffers.tally }) (wipes before.buffers.tally after.buffers.tally (Ok tt))
      (record { sheet = sheet'; tally = after.buffers.tally }) agrees (does, (refl, refl)) in (
        behind ∷ earlier,
        wipe_goes_on refl,
        goes_on_silently before after lent (force ∷ earlier) (behind ∷ earlier) told stands paths
            (sheet', record { sheet_is = is'; next_is = next; agrees = agrees' })
            (front_written a g.scale behind earlier lent.tally before.buffers.tally after.buffers.tally stands.buffers.tally.long
            (earlier_hold a g.scale force earlier lent.tally before.buffers.tally stands.buffers.tally)
            (subst (λ (x : Shape). UsesFront (32 * block_length x) before.buffers.tally after.buffers.tally) agrees.shape_is does.1.1.front) agrees'.entries),
      )) sheets

  -- what a decode does that goes on with a line
  abbrev GoesOnWith : LineContent V → Layout → Bench g → Bench g → Type 0
  GoesOnWith line at before after =
      (lent : Buffers V) (sheets : List InForce) (told : List (LineContent V)) → Stands a lent sheets told before
      → GoesOn lent at a_decode (line ∷ []) (told ++ line ∷ []) after sheets

  pub decode_done : (before after : Bench g) (at : Layout) (sheet : Sheet W V g) (reported : List ℕ) (decoded : Decoded V) (target target' : List ℕ) (scratch scratch' : Scratch V)
      → before.sheet ≡ Some sheet → after.sheet ≡ Some sheet → after.next_start ≡ before.next_start → after.buffers.tally ≡ before.buffers.tally
      → UsesFront 32 before.buffers.paths after.buffers.paths
      → reported ≡ take (shape_of_sheet sheet).octets target'
      → Decodes sheet before.buffers.tally target target' scratch scratch' (Ok decoded)
      → GoesOnWith (decode_line at.record_number decoded.weight decoded.verdict reported) at before after
  decode_done before after at sheet reported decoded target target' scratch scratch' is is' next tally used read does =
      λ lent sheets told. let line = decode_line at.record_number decoded.weight decoded.verdict reported in
      on_sheet before sheet is lent told (GoesOn lent at a_decode (line ∷ []) (told ++ line ∷ []) after) (λ force earlier stands same agrees.
      let named = named_by_book g a force.shape force.book (record { sheet = sheet; tally = before.buffers.tally }) agrees target target' decoded
      (record { lent = before.buffers.tally; scratch = scratch; scratch' = scratch'; own = refl; performed = does }) in (
        force_after force decoding ∷ earlier,
        decode_goes_on refl (record {
          message = message_at force.shape target';
          long = length-map-range_with_len (bit_at target') 0 (message_length force.shape);
          weighs = named.names.weighs;
          nearest = named.names.nearest;
          verdict_is = named.verdict;
          octets_are =
              read
              ∙ ap (λ (x : Shape). take x.octets target') agrees.shape_is
              ∙ named_octets force.shape.octets (message_length force.shape) (block_length force.shape) target' _ (omega arith) (omega arith) named.names.written;
        }),
        record {
          in_force = still_in_force before after (is' ∙ sym is) next tally (force ∷ earlier) stands.in_force;
          buffers = record {
            tally = subst (TallyHolds a g.scale (force ∷ earlier) lent.tally) (sym tally) stands.buffers.tally;
            paths = λ none. absurd (decode_told told at.record_number decoded.weight decoded.verdict reported none);
            rest = record { long = used.long ∙ stands.buffers.rest.long; rest = used.rest ∙ stands.buffers.rest.rest };
          };
        },
      )) sheets
