-- The reader's places and acts are those of the format. Assumes nothing.
use Rattle.std.proofs.Common.{◌≡◌, ℕ, ◌+◌, ◌-◌, ◌*◌, ◌/◌, ◌%◌, ◌<◌, ◌≤◌, Bool, true, false, cond, not, ◌&&◌, ◌||◌, nat_le, nat_lt, List, [], ◌∷◌, ◌++◌, length, get_or, take, drop, flat_map, Some, None, Option, is_some, refl, sym, ap, ◌∙◌, subst, arith, add-zero, append_assoc, append-nil, length-append, length-drop, drop-drop, take-append-drop}
use Rattle.std.specs.List.{All}
use Rattle.std.specs.Prelude.{◌==◌, IfSome}
use Rattle.std.proofs.lemmas.Option.{none-some}
use Rattle.std.proofs.Math.Seq.{drop-append_seam, take-append_seam}
use Rattle.std.proofs.lemmas.Bool.{true≢false}
use Rattle.std.proofs.lemmas.Bool.Decides.{nat_tests}
use Rattle.std.proofs.lemmas.List.{drop_more, get_or-drop, length-take-le}
use Rattle.std.proofs.lemmas.List.Elements.{All-get_or}
use Rattle.block.specs.Bits.{bit, octet_of, value}
use Rattle.block.specs.Computed.{passes}
use Rattle.block.specs.Refusals.{first_refusal, if_refuse}
use Rattle.block.proofs.Computed.{below}
use Rattle.block.proofs.Octets.{bit_octet}
use Rattle.listing.specs.Captures.{Act, a_decode, a_take, a_wipe, act_if, an_open, has_decode, has_size, has_start, has_symbols, has_wipe, is_unknown, layout, letter_layout, next_layout, number_at, octet_at, record_checks}
use Rattle.listing.specs.Format.{ReadsAll, ReadsAs, ReadsTheFormat, Record, Size, StandsAt, Taking, if_there, map_of, record_octets, start_in, two_octets}
use Rattle.listing.specs.declared.layouts.Layout.{Layout}

-- ---- the map

-- the map of a record with these parts
abbrev map_with : Bool → Bool → Bool → Bool → Bool → ℕ
map_with a b c d e = value a + 2 * value b + 4 * value c + 8 * value d + 16 * value e

record Bits (map : ℕ) (a b c d e : Bool) : Type 0 where
  size : has_size map ≡ a
  start : has_start map ≡ b
  symbols : has_symbols map ≡ c
  decode : has_decode map ≡ d
  wipe : has_wipe map ≡ e

abbrev parts : Bool → Bool → Bool → Bool → Bool → ℕ → Bool
parts a b c d e i = get_or (a ∷ b ∷ c ∷ d ∷ e ∷ []) i false

as_octet : (a b c d e : Bool) → octet_of (parts a b c d e) ≡ map_with a b c d e
unfolding octet_of
as_octet a b c d e = omega arith

map_bits : (a b c d e : Bool) → Bits (map_with a b c d e) a b c d e
map_bits a b c d e =
    let at : (i : ℕ) → i < 8 → bit i (map_with a b c d e) ≡ parts a b c d e i =
    λ i h. ap (bit i) (sym (as_octet a b c d e)) ∙ bit_octet (parts a b c d e) i h in
    record { size = at 0 (omega arith); start = at 1 (omega arith); symbols = at 2 (omega arith); decode = at 3 (omega arith); wipe = at 4 (omega arith) }

-- a map below 32 is that of its bits
map_again : (map : ℕ) → map < 32 → map ≡ map_with (has_size map) (has_start map) (has_symbols map) (has_decode map) (has_wipe map)
map_again map h =
    grind (arith, nat_tests, below 32 (λ m. m == map_with (has_size m) (has_start m) (has_symbols m) (has_decode m) (has_wipe m)) refl map h)

value_low : (b : Bool) → value b ≤ 1
value_low true = omega arith
value_low false = omega arith

map_low : (a b c d e : Bool) → nat_le 32 (map_with a b c d e) ≡ false
map_low a b c d e =
    let small : map_with a b c d e < 32 = omega (arith, value_low a, value_low b, value_low c, value_low d, value_low e) in
    grind (arith, nat_tests, small)

-- ---- the fields as octets

abbrev size_before : Option Size → List ℕ → List ℕ
size_before size rest = if_there (λ size. two_octets size.octets) size ++ (if_there (λ size. size.check ∷ []) size ++ rest)

abbrev taking_before : Option Taking → List ℕ → List ℕ
taking_before taking rest =
    if_there two_octets (start_in taking)
    ++ (if_there (λ taking. two_octets (length taking.symbols)) taking ++ (if_there (λ taking. taking.symbols) taking ++ rest))

regrouped : (a b c d e rest : List ℕ) → (a ++ (b ++ (c ++ (d ++ (e ++ []))))) ++ rest ≡ a ++ (b ++ (c ++ (d ++ (e ++ rest))))
regrouped a b c d e rest = simp (append_assoc, append-nil) refl

size_long : (size : Option Size) (rest : List ℕ) → length (size_before size rest) ≡ cond (is_some size) 3 0 + length rest
size_long None rest = omega arith
size_long (Some size) rest = omega arith

start_long : (start : Option ℕ) (rest : List ℕ) → length (if_there two_octets start ++ rest) ≡ cond (is_some start) 2 0 + length rest
start_long None rest = omega arith
start_long (Some start) rest = omega arith

known_map : (taking : Option Taking) → is_some (start_in taking) && not (is_some taking) ≡ false
known_map None = refl
known_map (Some taking) = elim taking.start as (λ s. is_some s && false ≡ false) [ None ↦ refl | Some s ↦ refl ]

-- the map of a record is known: only a take has a start
map_known : (r : Record) → is_unknown (map_of r) ≡ false
map_known r =
    let bits = map_bits (is_some r.size) (is_some (start_in r.taking)) (is_some r.taking) r.decode r.wipe in
    (λ i. map_low (is_some r.size) (is_some (start_in r.taking)) (is_some r.taking) r.decode r.wipe i || (bits.start i && not (bits.symbols i))) ∙ known_map r.taking

-- where the fields begin that are there
at_each : {X : Type 0} (x : Option X) (P : X → Type 0) → ((y : X) → P y) → IfSome x P
at_each None P holds = tt
at_each (Some y) P holds = holds y

size_places : (size : Option Size) (place map : ℕ)
    → IfSome size (λ s. (place + 1 ≡ place + length ((map ∷ []) ++ [])) × (place + 3 ≡ place + length ((map ∷ []) ++ (if_there (λ size. two_octets size.octets) size ++ []))))
size_places None place map = tt
size_places (Some size) place map = (refl, refl)

taking_places : (size : Option Size) (taking : Option Taking) (place map count : ℕ) → count ≡ place + 1 + cond (is_some size) 3 0 + cond (is_some (start_in taking)) 2 0
    → IfSome taking (λ t. (count ≡ place + length ((map ∷ []) ++ size_before size (if_there two_octets (start_in taking) ++ [])))
    × (count + 2 ≡ place + length ((map ∷ []) ++ size_before size (if_there two_octets (start_in taking) ++ (if_there (λ taking. two_octets (length taking.symbols)) taking ++ [])))))
taking_places size None place map count is = tt
taking_places size (Some taking) place map count is = (
  omega (arith, is, size_long size (if_there two_octets taking.start ++ []), start_long taking.start []),
  omega (arith, is, size_long size (if_there two_octets taking.start ++ (two_octets (length taking.symbols) ++ [])), start_long taking.start (two_octets (length taking.symbols) ++ [])),
)

both_pass : (a b : Bool) → a ≡ false → b ≡ false → first_refusal (if_refuse a 12 ∷ if_refuse b 11 ∷ []) ≡ None
both_pass true b e f = absurd (true≢false e)
both_pass false true e f = absurd (true≢false f)
both_pass false false e f = refl

-- ---- what stands at a place

module _ (capture : List ℕ) where
  behind : (place : ℕ) (xs rest : List ℕ) → drop place capture ≡ xs ++ rest → drop (place + length xs) capture ≡ rest
  behind place xs rest stands = sym (drop-drop (length xs) place capture) ∙ ap (drop (length xs)) stands ∙ drop-append_seam xs rest

  octet_here : (place k : ℕ) (xs : List ℕ) → drop place capture ≡ xs → octet_at capture (place + k) ≡ get_or xs k 0
  octet_here place k xs stands = sym (get_or-drop place capture k 0) ∙ ap (λ ys. get_or ys k 0) stands

  first_here : (place x : ℕ) (rest : List ℕ) → drop place capture ≡ x ∷ rest → octet_at capture place ≡ x
  first_here place x rest stands = ap (octet_at capture) (sym (add-zero place)) ∙ octet_here place 0 (x ∷ rest) stands

  number_here : (place n : ℕ) (rest : List ℕ) → drop place capture ≡ two_octets n ++ rest → number_at capture place ≡ n
  number_here place n rest stands =
      let low = first_here place (n % 256) (n / 256 ∷ rest) stands in
      let high = octet_here place 1 (n % 256 ∷ n / 256 ∷ rest) stands in
      omega (arith, low, high)

  -- and what is known to stand where the capture goes on
  in_front : (place : ℕ) → place < length capture → drop place capture ≡ octet_at capture place ∷ drop (place + 1) capture
  in_front place h = drop_more capture place 0 h

  module _ (are : All (λ octet. octet < 256) capture) where
    number_in_front : (place : ℕ) → place + 2 ≤ length capture → drop place capture ≡ two_octets (number_at capture place) ++ drop (place + 2) capture
    number_in_front place h =
        let low = octet_at capture place in
        let high = octet_at capture (place + 1) in
        let small : low < 256 = All-get_or (λ octet. octet < 256) capture place 0 (omega arith) are in
        let split₁ : (low + 256 * high) % 256 ≡ low = omega (arith, small) in
        let split₂ : (low + 256 * high) / 256 ≡ high = omega (arith, small) in
        let more : place + 1 + 1 ≡ place + 2 = omega arith in
        in_front place (omega arith)
        ∙ ap (λ xs. low ∷ xs) (in_front (place + 1) (omega arith))
        ∙ ap (λ p. low ∷ high ∷ drop p capture) more
        ∙ sym (ap (λ x. x ∷ (low + 256 * high) / 256 ∷ drop (place + 2) capture) split₁ ∙ ap (λ x. low ∷ x ∷ drop (place + 2) capture) split₂)

  -- ---- the size

  record Sized (place check : ℕ) (size : Option Size) (rest : List ℕ) : Type 0 where
    opens : act_if (is_some size) (an_open (number_at capture place) (octet_at capture check)) ≡ if_there (λ size. an_open size.octets size.check ∷ []) size
    goes : drop (place + cond (is_some size) 3 0) capture ≡ rest

  sized : (place check : ℕ) → check ≡ place + 2 → (size : Option Size) (rest : List ℕ) → drop place capture ≡ size_before size rest → Sized place check size rest
  sized place check behind-two None rest stands = record { opens = refl; goes = ap (λ p. drop p capture) (add-zero place) ∙ stands }
  sized place check behind-two (Some size) rest stands =
      let octets = number_here place size.octets (size.check ∷ rest) stands in
      let third = ap (octet_at capture) behind-two ∙ octet_here place 2 (size_before (Some size) rest) stands in
      record {
        opens = λ i. an_open (octets i) (third i) ∷ [];
        goes = behind place (size.octets % 256 ∷ size.octets / 256 ∷ size.check ∷ []) rest stands;
      }

  -- ---- the start, the count and the symbols

  -- where the record ends, and the act that it asks for, by which fields it has
  abbrev ended : ℕ → Bool → Bool → ℕ
  ended start b c = let count = start + cond b 2 0 in cond c (count + 2 + number_at capture count) start

  abbrev taken_act : ℕ → Bool → Bool → List Act
  taken_act start b c =
      let count = start + cond b 2 0 in
      act_if c (a_take (cond b (Some (number_at capture start)) None) (take (number_at capture count) (drop (count + 2) capture)))

  record Taken (start : ℕ) (taking : Option Taking) : Type 0 where
    takes : taken_act start (is_some (start_in taking)) (is_some taking) ≡ if_there (λ taking. a_take taking.start taking.symbols ∷ []) taking
    ends : ended start (is_some (start_in taking)) (is_some taking) ≡ start + length (taking_before taking [])

  counted : (count : ℕ) (symbols rest : List ℕ) → drop count capture ≡ two_octets (length symbols) ++ (symbols ++ rest)
      → (number_at capture count ≡ length symbols) × (take (number_at capture count) (drop (count + 2) capture) ≡ symbols)
  counted count symbols rest stands =
      let number = number_here count (length symbols) (symbols ++ rest) stands in
      let goes = behind count (two_octets (length symbols)) (symbols ++ rest) stands in
      (number, (λ i. take (number i) (goes i)) ∙ take-append_seam symbols rest)

  taken_from : (start : ℕ) (own : Option ℕ) (symbols rest : List ℕ) → drop start capture ≡ taking_before (Some (record { start = own; symbols = symbols })) rest
      → Taken start (Some (record { start = own; symbols = symbols }))
  taken_from start None symbols rest stands =
      let known = counted (start + 0) symbols rest (ap (λ p. drop p capture) (add-zero start) ∙ stands) in
      record {
        takes = λ i. a_take None (known.1 i) ∷ [];
        ends = omega (arith, known.0, length-append symbols []);
      }
  taken_from start (Some own) symbols rest stands =
      let number = number_here start own (two_octets (length symbols) ++ (symbols ++ rest)) stands in
      let known = counted (start + 2) symbols rest (behind start (two_octets own) (two_octets (length symbols) ++ (symbols ++ rest)) stands) in
      record {
        takes = λ i. a_take (Some (number i)) (known.1 i) ∷ [];
        ends = omega (arith, known.0, length-append symbols []);
      }

  taken : (start : ℕ) (taking : Option Taking) (rest : List ℕ) → drop start capture ≡ taking_before taking rest → Taken start taking
  taken start None rest stands = record { takes = refl; ends = sym (add-zero start) }
  taken start (Some taking) rest stands = taken_from start taking.start taking.symbols rest stands

  -- ---- a record that stands is read

  module _ (number place : ℕ) where
    abbrev asked : Bool → Bool → Bool → Bool → Bool → List Act
    asked a b c d e =
        act_if a (an_open (number_at capture (place + 1)) (octet_at capture (place + 3)))
        ++ taken_act (place + 1 + cond a 3 0) b c ++ act_if d a_decode ++ act_if e a_wipe

    read : (r : Record) (rest : List ℕ) → drop place capture ≡ record_octets r ++ rest → ReadsAs r capture number place (layout capture number place)
    read r rest stands =
        let size = is_some r.size in
        let start = is_some (start_in r.taking) in
        let symbols = is_some r.taking in
        let bits = map_bits size start symbols r.decode r.wipe in
        let behind-size = taking_before r.taking rest in
        let all : drop place capture ≡ map_of r ∷ size_before r.size behind-size = stands ∙ ap (λ xs. map_of r ∷ xs)
        (regrouped (if_there (λ size. two_octets size.octets) r.size) (if_there (λ size. size.check ∷ []) r.size) (if_there two_octets (start_in r.taking)) (if_there (λ taking. two_octets (length taking.symbols)) r.taking) (if_there (λ taking. taking.symbols) r.taking) rest) in
        let map_is : octet_at capture place ≡ map_of r = first_here place (map_of r) (size_before r.size behind-size) all in
        let size_is : has_size (octet_at capture place) ≡ size = ap has_size map_is ∙ bits.size in
        let start_is : has_start (octet_at capture place) ≡ start = ap has_start map_is ∙ bits.start in
        let symbols_is : has_symbols (octet_at capture place) ≡ symbols = ap has_symbols map_is ∙ bits.symbols in
        let decode_is : has_decode (octet_at capture place) ≡ r.decode = ap has_decode map_is ∙ bits.decode in
        let wipe_is : has_wipe (octet_at capture place) ≡ r.wipe = ap has_wipe map_is ∙ bits.wipe in
        let opened = sized (place + 1) (place + 3) (omega arith) r.size behind-size (behind place (map_of r ∷ []) (size_before r.size behind-size) all) in
        let took = taken (place + 1 + cond size 3 0) r.taking rest opened.goes in
        let ends : (layout capture number place).end ≡ place + length (record_octets r) =
        (λ i. ended (place + 1 + cond (size_is i) 3 0) (start_is i) (symbols_is i)) ∙ took.ends ∙ omega (arith, size_long r.size (taking_before r.taking [])) in
        let long : length capture - place ≡ length (record_octets r) + length rest = sym (length-drop place capture) ∙ ap length stands ∙ length-append (record_octets r) rest in
        let known : is_unknown (octet_at capture place) ≡ false = ap is_unknown map_is ∙ map_known r in
        record {
          number_is = refl;
          lawful = both_pass _ _ known (grind (arith, nat_tests, ends, long));
          end = ends;
          acts_are = (λ i. asked (size_is i) (start_is i) (symbols_is i) (decode_is i) (wipe_is i))
              ∙ (λ i. opened.opens i ++ took.takes i ++ act_if r.decode a_decode ++ act_if r.wipe a_wipe);
          map = sym (add-zero place);
          size = size_places r.size place (map_of r);
          start = at_each (start_in r.taking) _ (λ own. omega (arith, ap {B = ℕ} (λ b. cond b 3 0) size_is, size_long r.size []));
          taking = taking_places r.size r.taking place (map_of r) _ (omega (arith, ap {B = ℕ} (λ b. cond b 3 0) size_is, ap {B = ℕ} (λ b. cond b 2 0) start_is));
        }

-- ---- a record that is read stands there

neither : (a b : Bool) → a || b ≡ false → (a ≡ false) × (b ≡ false)
neither true b e = absurd (true≢false e)
neither false b e = (refl, e)

passed : (a b : Bool) → first_refusal (if_refuse a 12 ∷ if_refuse b 11 ∷ []) ≡ None → (a ≡ false) × (b ≡ false)
passed true b e = absurd (none-some 12 (sym e))
passed false true e = absurd (none-some 11 (sym e))
passed false false e = (refl, refl)

there : {X : Type 0} (a : Bool) (x : X) → is_some (cond a (Some x) None) ≡ a
there true x = refl
there false x = refl

module _ (capture : List ℕ) (are : All (λ octet. octet < 256) capture) where
  -- what is read at a place, by which fields there are
  abbrev size_read : ℕ → Size
  size_read place = record { octets = number_at capture (place + 1); check = octet_at capture (place + 3) }

  abbrev taking_read : ℕ → Bool → Taking
  taking_read start b =
      let count = start + cond b 2 0 in
      record { start = cond b (Some (number_at capture start)) None; symbols = take (number_at capture count) (drop (count + 2) capture) }

  abbrev size_at : ℕ → Bool → Option Size
  size_at place a = cond a (Some (size_read place)) None

  abbrev taking_at : ℕ → Bool → Bool → Option Taking
  taking_at start b c = cond c (Some (taking_read start b)) None

  own_start : (start : ℕ) (b c : Bool) → b && not c ≡ false → is_some (start_in (taking_at start b c)) ≡ b
  own_start start true true e = refl
  own_start start true false e = absurd (true≢false e)
  own_start start false true e = refl
  own_start start false false e = refl

  size_stands : (place : ℕ) (a : Bool) → place + 1 + cond a 3 0 ≤ length capture
      → drop (place + 1) capture ≡ size_before (size_at place a) (drop (place + 1 + cond a 3 0) capture)
  size_stands place false within = ap (λ p. drop p capture) (sym (add-zero (place + 1)))
  size_stands place true within =
      number_in_front capture are (place + 1) (omega (arith, within))
      ∙ ap (λ xs. two_octets (number_at capture (place + 1)) ++ xs) (ap (λ p. drop p capture) (omega arith) ∙ in_front capture (place + 3) (omega (arith, within)) ∙ ap (λ p. octet_at capture (place + 3) ∷ drop p capture) (omega arith))

  counted_stands : (count : ℕ) → count + 2 + number_at capture count ≤ length capture
      → let symbols = take (number_at capture count) (drop (count + 2) capture) in
      drop count capture ≡ two_octets (length symbols) ++ (symbols ++ drop (count + 2 + number_at capture count) capture)
  counted_stands count within =
      let n = number_at capture count in
      let symbols = take n (drop (count + 2) capture) in
      let long : length symbols ≡ n = length-take-le n (drop (count + 2) capture) (omega (arith, within, length-drop (count + 2) capture)) in
      number_in_front capture are count (omega (arith, within))
      ∙ ap (λ xs. two_octets n ++ xs) (sym (take-append-drop n (drop (count + 2) capture)) ∙ ap (λ xs. symbols ++ xs) (drop-drop n (count + 2) capture))
      ∙ ap (λ k. two_octets k ++ (symbols ++ drop (count + 2 + n) capture)) (sym long)

  taking_stands : (start : ℕ) (b c : Bool) → b && not c ≡ false → ended capture start b c ≤ length capture
      → drop start capture ≡ taking_before (taking_at start b c) (drop (ended capture start b c) capture)
  taking_stands start false false e within = refl
  taking_stands start true false e within = absurd (true≢false e)
  taking_stands start false true e within = ap (λ p. drop p capture) (sym (add-zero start)) ∙ counted_stands (start + 0) within
  taking_stands start true true e within =
      number_in_front capture are start (omega (arith, within)) ∙ ap (λ xs. two_octets (number_at capture start) ++ xs) (counted_stands (start + 2) within)

  ends_behind : (start : ℕ) (b c : Bool) → start ≤ ended capture start b c
  ends_behind start b false = omega arith
  ends_behind start b true = omega arith

  record_stands : (place : ℕ) (a b c d e : Bool) → octet_at capture place ≡ map_with a b c d e → b && not c ≡ false
      → ended capture (place + 1 + cond a 3 0) b c ≤ length capture → (r : Record) × StandsAt r capture place
  record_stands place a b c d e map_is known within =
      let start = place + 1 + cond a 3 0 in
      let size = size_at place a in
      let taking = taking_at start b c in
      let r : Record = record { size = size; taking = taking; decode = d; wipe = e } in
      let rest = drop (ended capture start b c) capture in
      let far = ends_behind start b c in
      let map_again : octet_at capture place ≡ map_of r =
      map_is ∙ sym (λ i. map_with (there a (size_read place) i) (own_start start b c known i) (there c (taking_read start b) i) d e) in
      let fields_stand : drop (place + 1) capture ≡ size_before size (taking_before taking rest) =
      size_stands place a (omega (arith, far, within)) ∙ ap (size_before size) (taking_stands start b c known within) in (
        r,
        (
          rest,
          in_front capture place (omega (arith, far, within))
              ∙ (λ i. map_again i ∷ fields_stand i)
              ∙ ap (λ xs. map_of r ∷ xs) (sym (regrouped (if_there (λ size. two_octets size.octets) size) (if_there (λ size. size.check ∷ []) size) (if_there two_octets (start_in taking)) (if_there (λ taking. two_octets (length taking.symbols)) taking) (if_there (λ taking. taking.symbols) taking) rest)),
        ),
      )

  stands_where_read : (number place : ℕ) → first_refusal (record_checks capture (layout capture number place)) ≡ None → (r : Record) × StandsAt r capture place
  stands_where_read number place passes =
      let map = octet_at capture place in
      let both = passed _ _ passes in
      let known = neither (nat_le 32 map) (has_start map && not (has_symbols map)) both.0 in
      let small : map < 32 = grind (arith, nat_tests, known.0) in
      let within : (layout capture number place).end ≤ length capture = grind (arith, nat_tests, both.1) in
      record_stands place (has_size map) (has_start map) (has_symbols map) (has_decode map) (has_wipe map) (map_again map small) known.1 within

-- ---- records one behind another

module _ (capture : List ℕ) where
  all_read : (records : List Record) (number : ℕ) (at : Layout) → at.record_number + 1 ≡ number → drop at.end capture ≡ flat_map record_octets records → at.end ≤ length capture → ReadsAll capture number at records
  all_read [] number at numbered stands within = omega (arith, sym (length-drop at.end capture) ∙ ap length stands, within)
  all_read (r ∷ more) number at numbered stands within =
      let one = read capture (at.record_number + 1) at.end r (flat_map record_octets more) stands in
      let goes : drop (next_layout capture at).end capture ≡ flat_map record_octets more =
      ap (λ p. drop p capture) one.end ∙ behind capture at.end (record_octets r) (flat_map record_octets more) stands in
      let next = next_layout capture at in
      let fits = (passed (is_unknown (octet_at capture at.end)) (nat_lt (length capture) next.end) one.lawful).1 in
      (subst (λ n. ReadsAs r capture n at.end (next_layout capture at)) numbered one, all_read more (number + 1) next (ap (λ n. n + 1) numbered) goes (grind (arith, nat_tests, fits)))

pub reads_the_format : ReadsTheFormat
reads_the_format = record {
  each = λ r capture number place stands. read capture number place r stands.0 stands.1;
  only = λ capture number place are passes. stands_where_read capture are number place passes;
  all = λ letter records. all_read (letter ∷ flat_map record_octets records) records 1 letter_layout refl refl (omega arith);
}
