-- What comes of an act of a record. It goes by the sheet in force, the first of those that were
-- opened. Assumes nothing.
use Rattle.std.specs.Prelude.{◌≡◌, ℕ, Bool, true, List, [], ◌∷◌, length, Some, None, Option}
use Rattle.block.specs.Bits.{filled}
use Rattle.block.specs.Refusals.{Check, first_refusal, if_refuse}
use Rattle.code.specs.Shapes.{block_length, message_length}
use Rattle.weighing.specs.Alphabets.{Alphabet}
use Rattle.weighing.specs.Scales.{Scale}
use Rattle.search.specs.Weights.{Nearest, weight_of}
use Rattle.sheet.specs.Books.{decoding, taking, unlawful, wiping}
use Rattle.sheet.specs.Calls.{open_checks, take_checks}
use Rattle.sheet.specs.Verdicts.{IsVerdict}
use Rattle.sheet.specs.declared.answers.Verdict.{Verdict}
use Rattle.listing.specs.Captures.{Act, a_decode, a_take, a_wipe, an_open}
use Rattle.listing.specs.Faults.{ActFault}
use Rattle.listing.specs.InForce.{InForce, force_after, opened, shape_r, start_of, sums_of}
use Rattle.listing.specs.Lines.{LineContent, decode_line}
use Rattle.listing.specs.declared.faults.Fault.{Fault}
use Rattle.listing.specs.declared.layouts.Layout.{Layout}

-- An act is performed and its record goes on, with the lines of the act and the sheets as they are
-- behind it; or a fault stops the record.
pub data Outcome (V : Type 0) : Type 0 where
  goes_on : (lines : List (LineContent V)) (behind : List InForce) → Outcome V
  stops : (fault : Fault) → Outcome V

-- the test of an act that needs a sheet, where none is in force
abbrev pub no_sheet : List Check
no_sheet = if_refuse true 13 ∷ []

module _ {A V : Type 0} (a : Alphabet A V) where
  -- the index of the first symbol of an act that is unlawful
  abbrev pub first_unlawful : Act → Option ℕ
  first_unlawful (an_open octets check) = None
  first_unlawful (a_take start symbols) = unlawful a symbols
  first_unlawful a_decode = None
  first_unlawful a_wipe = None

  -- What an act is tested for, over a tally of so many places: what the sheet's call is tested
  -- for, and 13 where there is no sheet. A sheet that was opened has room for its decodes and
  -- wipes.
  abbrev pub act_checks : ℕ → List InForce → Act → List Check
  act_checks room sheets (an_open octets check) = open_checks (shape_r octets check) room
  act_checks room (sheet ∷ earlier) (a_take start symbols) =
      take_checks a (block_length sheet.shape) room sheet.book.count (start_of sheet start) symbols
  act_checks room (sheet ∷ earlier) a_decode = []
  act_checks room (sheet ∷ earlier) a_wipe = []
  act_checks room [] (a_take start symbols) = no_sheet
  act_checks room [] a_decode = no_sheet
  act_checks room [] a_wipe = no_sheet

  -- an act that passes its tests
  abbrev pub Passes : ℕ → List InForce → Act → Type 0
  Passes room sheets act = first_refusal (act_checks room sheets act) ≡ None

  module _ (s : Scale V) where
    -- A decode tells of a message of the sheet's shape: its weight by the book, the verdict on its
    -- check, and its T octets; and no message of that shape weighs less by the book. Among
    -- messages of equal weight the choice is free.
    pub record TellsNearest (sheet : InForce) (weight : V) (verdict : Verdict) (octets : List ℕ)
        : Type 0 where
      pub message : List Bool
      pub long : length message ≡ message_length sheet.shape
      pub weighs : s.mean weight ≡ weight_of s sheet.shape (sums_of a s sheet) message
      pub nearest : Nearest s sheet.shape (sums_of a s sheet) message
      pub verdict_is : IsVerdict sheet.shape message verdict
      pub octets_are : octets ≡ filled message sheet.shape.octets

    -- What comes of an act of the record with this layout, where these sheets were opened: it
    -- passes its tests, tells its lines, and opens a sheet or changes the one in force; or the
    -- first test that fails gives the fault.
    pub data ComesOf (room : ℕ) (at : Layout) : List InForce → Act → Outcome V → Type 0 where
      open_goes_on : {sheets : List InForce} {octets check : ℕ}
          → Passes room sheets (an_open octets check)
          → ComesOf room at sheets (an_open octets check)
          (goes_on [] (opened octets check ∷ sheets))
      take_goes_on : {sheet : InForce} {earlier : List InForce} {start : Option ℕ}
          {symbols : List ℕ}
          → Passes room (sheet ∷ earlier) (a_take start symbols)
          → ComesOf room at (sheet ∷ earlier) (a_take start symbols)
          (goes_on [] (force_after sheet (taking (start_of sheet start) symbols) ∷ earlier))
      decode_goes_on : {sheet : InForce} {earlier : List InForce} {weight : V} {verdict : Verdict}
          {octets : List ℕ}
          → Passes room (sheet ∷ earlier) a_decode → TellsNearest sheet weight verdict octets
          → ComesOf room at (sheet ∷ earlier) a_decode
          (goes_on (decode_line at.record_number weight verdict octets ∷ [])
          (force_after sheet decoding ∷ earlier))
      wipe_goes_on : {sheet : InForce} {earlier : List InForce}
          → Passes room (sheet ∷ earlier) a_wipe
          → ComesOf room at (sheet ∷ earlier) a_wipe
          (goes_on [] (force_after sheet wiping ∷ earlier))
      act_stops : {sheets : List InForce} {act : Act} {number : ℕ} {fault : Fault}
          → first_refusal (act_checks room sheets act) ≡ Some number
          → ActFault at act (first_unlawful act) number fault
          → ComesOf room at sheets act (stops fault)
