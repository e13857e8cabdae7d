-- A capture and its records. Assumes nothing.
use Rattle.std.specs.Prelude.{ℕ, ◌+◌, ◌*◌, Bool, false, cond, not, ◌&&◌, ◌||◌, List, [], ◌∷◌, ◌++◌}
use Rattle.std.specs.Prelude.{length, take, drop, Some, None, Option, nat_le, nat_lt, ◌==◌}
use Rattle.std.specs.Prelude.{slice_index_or}
use Rattle.block.specs.Bits.{bit}
use Rattle.block.specs.Refusals.{Check, first_refusal, if_refuse}
use Rattle.listing.specs.declared.acts.Act.{Act as ActInCode}
use Rattle.listing.specs.declared.acts.Act.TheVariants.{Open, Take, Decode, Wipe}
use Rattle.listing.specs.declared.acts.Acts.{Acts}
use Rattle.listing.specs.declared.layouts.Layout.{Layout}

-- a capture has at most this many octets
abbrev pub most_capture_octets : ℕ
most_capture_octets = 32768

-- no field of a record begins behind this place: the last field, the symbols, begins at most 8
-- octets behind the map
abbrev pub most_field_place : ℕ
most_field_place = most_capture_octets + 8

-- the letters of the readings: H, S and W
abbrev pub hard_letter : ℕ
hard_letter = 72

abbrev pub soft_letter : ℕ
soft_letter = 83

abbrev pub worst_letter : ℕ
worst_letter = 87

abbrev pub letters : List ℕ
letters = hard_letter ∷ soft_letter ∷ worst_letter ∷ []

-- a capture that begins with this letter
abbrev pub is_letter : ℕ → List ℕ → Bool
is_letter letter [] = false
is_letter letter (first ∷ rest) = first == letter

-- a capture that begins with the letter of a reading
abbrev pub is_known : List ℕ → Bool
is_known capture =
    is_letter hard_letter capture
    || (is_letter soft_letter capture || is_letter worst_letter capture)

-- a capture, not too long, that begins with the letter of another reading
abbrev pub is_of_another : ℕ → List ℕ → Bool
is_of_another letter capture =
    nat_le (length capture) most_capture_octets
    && (not (is_letter letter capture) && is_known capture)

-- the octet at a place, and 0 behind the end
abbrev pub octet_at : List ℕ → ℕ → ℕ
octet_at capture place = slice_index_or capture place 0

-- the number of two octets that begins at a place, the low octet first
abbrev pub number_at : List ℕ → ℕ → ℕ
number_at capture place = octet_at capture place + 256 * octet_at capture (place + 1)

-- A record begins with its map, whose bits say what follows: a size (of value 1), a start (2), a
-- count with symbols (4). Those of value 8 and 16 ask for a decode and a wipe, which have no
-- octets.
abbrev pub has_size : ℕ → Bool
has_size = bit 0

abbrev pub has_start : ℕ → Bool
has_start = bit 1

abbrev pub has_symbols : ℕ → Bool
has_symbols = bit 2

abbrev pub has_decode : ℕ → Bool
has_decode = bit 3

abbrev pub has_wipe : ℕ → Bool
has_wipe = bit 4

-- a map with a bit that stands for nothing, or with a start and no symbols
abbrev pub is_unknown : ℕ → Bool
is_unknown map = nat_le 32 map || (has_start map && not (has_symbols map))

-- Where the fields of the record with this number stand, from this place on: one behind another,
-- and a field that is absent takes no room.
abbrev pub layout : List ℕ → ℕ → ℕ → Layout
layout capture record-number place =
    let map = octet_at capture place in
    let start = place + 1 + cond (has_size map) 3 0 in
    let count = start + cond (has_start map) 2 0 in
    record {
      record_number = record-number;
      map = place;
      octets = place + 1;
      check = place + 3;
      start = start;
      count = count;
      symbols = count + 2;
      end = cond (has_symbols map) (count + 2 + number_at capture count) start;
    }

-- the letter stands before the records: the first begins at place 1
abbrev pub letter_layout : Layout
letter_layout = record {
  record_number = 0;
  map = 0;
  octets = 0;
  check = 0;
  start = 0;
  count = 0;
  symbols = 0;
  end = 1;
}

-- the layout of the record behind one
abbrev pub next_layout : List ℕ → Layout → Layout
next_layout capture at = layout capture (at.record_number + 1) at.end

-- What a record is tested for before it is read: first its map, and then whether it would end
-- behind the capture's end.
abbrev pub record_checks : List ℕ → Layout → List Check
record_checks capture at =
    if_refuse (is_unknown (octet_at capture at.map)) 12
    ∷ if_refuse (nat_lt (length capture) at.end) 11
    ∷ []

-- the number of the first test that the record behind one fails
abbrev pub next_refusal : List ℕ → Layout → Option ℕ
next_refusal capture at = first_refusal (record_checks capture (next_layout capture at))

-- an act that a record asks for; a take without a start field has no start
pub data Act : Type 0 where
  an_open : (octets check : ℕ) → Act
  a_take : (start : Option ℕ) (symbols : List ℕ) → Act
  a_decode : Act
  a_wipe : Act

-- each case of the code's act, and the values that it carries
abbrev pub act_of : ActInCode → Act
act_of (Open octets check) = an_open octets check
act_of (Take start symbols) = a_take start symbols.now
act_of Decode = a_decode
act_of Wipe = a_wipe

abbrev pub act_if : Bool → Act → List Act
act_if b act = cond b (act ∷ []) []

-- the start that a record gives to its take, if it has the field, and the symbols
abbrev pub start_field : List ℕ → Layout → Option ℕ
start_field capture at =
    cond (has_start (octet_at capture at.map)) (Some (number_at capture at.start)) None

abbrev pub symbols_field : List ℕ → Layout → List ℕ
symbols_field capture at = take (number_at capture at.count) (drop at.symbols capture)

-- the acts of a record, in the order in which they run
abbrev pub acts : List ℕ → Layout → List Act
acts capture at =
    let map = octet_at capture at.map in
    act_if (has_size map) (an_open (number_at capture at.octets) (octet_at capture at.check))
    ++ act_if (has_symbols map) (a_take (start_field capture at) (symbols_field capture at))
    ++ act_if (has_decode map) a_decode
    ++ act_if (has_wipe map) a_wipe

-- those of the record behind one
abbrev pub next_acts : List ℕ → Layout → List Act
next_acts capture at = acts capture (next_layout capture at)

abbrev pub one_left : Option ActInCode → List Act
one_left None = []
one_left (Some act) = act_of act ∷ []

-- the acts that are still to be carried out
abbrev pub acts_left : Acts → List Act
acts_left acts =
    one_left acts.open ++ one_left acts.take ++ one_left acts.decode ++ one_left acts.wipe
