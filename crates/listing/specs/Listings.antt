-- The listing of a capture: which lines tell it, and which sheets are opened. It goes by the books
-- of the sheets, which are kept from what the acts hand to them. Assumes nothing.
use Rattle.std.specs.Prelude.{◌≡◌, ℕ, ◌+◌, ◌<◌, ◌≤◌, true, false, List, [], ◌∷◌, ◌++◌, length}
use Rattle.std.specs.Prelude.{Some, None}
use Rattle.weighing.specs.Alphabets.{Alphabet}
use Rattle.weighing.specs.Scales.{Scale}
use Rattle.listing.specs.Captures.{Act, is_letter, letter_layout, most_capture_octets, next_acts}
use Rattle.listing.specs.Captures.{next_layout, next_refusal}
use Rattle.listing.specs.Faults.{record_fault}
use Rattle.listing.specs.InForce.{InForce}
use Rattle.listing.specs.Lines.{LineContent, end_line, fault_line}
use Rattle.listing.specs.Outcomes.{ComesOf, goes_on, stops}
use Rattle.listing.specs.declared.faults.Fault.{Fault}
use Rattle.listing.specs.declared.faults.Fault.TheVariants.{Letter, TooLong}
use Rattle.listing.specs.declared.layouts.Layout.{Layout}

-- a capture that is read by the reading with this letter, over a tally of so many places
module _ {A V : Type 0} (a : Alphabet A V) (s : Scale V) (room letter : ℕ) (capture : List ℕ) where
  -- How far the records are read: the record with this layout was read last, these of its acts are
  -- still to run, these sheets were opened, and these lines told. Reading begins behind the letter,
  -- with no sheet. A record is read where the acts of the one before it are done, and passes its
  -- tests. Its acts run one after another; where a fault stops one, the others are skipped.
  pub data ReadSoFar : Layout → List Act → List InForce → List (LineContent V) → Type 0 where
    letter_read : length capture ≤ most_capture_octets → is_letter letter capture ≡ true
        → ReadSoFar letter_layout [] [] []
    record_read : {at : Layout} {sheets : List InForce} {told : List (LineContent V)}
        → ReadSoFar at [] sheets told → at.end < length capture → next_refusal capture at ≡ None
        → ReadSoFar (next_layout capture at) (next_acts capture at) sheets told
    act_went_on : {at : Layout} {act : Act} {left : List Act} {sheets behind : List InForce}
        {told lines : List (LineContent V)}
        → ReadSoFar at (act ∷ left) sheets told
        → ComesOf a s room at sheets act (goes_on lines behind)
        → ReadSoFar at left behind (told ++ lines)
    act_stopped : {at : Layout} {act : Act} {left : List Act} {sheets : List InForce}
        {told : List (LineContent V)} {fault : Fault}
        → ReadSoFar at (act ∷ left) sheets told → ComesOf a s room at sheets act (stops fault)
        → ReadSoFar at [] sheets (told ++ fault_line at.record_number fault ∷ [])

  -- How a listing ends, behind the lines told of its records: of a capture that is too long, and of
  -- one without the letter, nothing else is told; reading ends at the capture's end, or is stopped
  -- by a record that does not pass its tests.
  pub data EndsWith : List InForce → (told ending : List (LineContent V)) → Type 0 where
    too_long : most_capture_octets < length capture → EndsWith [] [] (fault_line 0 TooLong ∷ [])
    no_letter : length capture ≤ most_capture_octets → is_letter letter capture ≡ false
        → EndsWith [] [] (fault_line 0 Letter ∷ end_line 0 ∷ [])
    all_read : {at : Layout} {sheets : List InForce} {told : List (LineContent V)}
        → ReadSoFar at [] sheets told → length capture ≤ at.end
        → EndsWith sheets told (end_line at.record_number ∷ [])
    reading_stopped : {at : Layout} {sheets : List InForce} {told : List (LineContent V)}
        {number : ℕ}
        → ReadSoFar at [] sheets told → at.end < length capture
        → next_refusal capture at ≡ Some number
        → EndsWith sheets told (fault_line (at.record_number + 1) (record_fault at.end number)
        ∷ end_line at.record_number ∷ [])

  -- a whole listing, and the sheets that were opened in it
  pub data IsListing : List InForce → List (LineContent V) → Type 0 where
    listing : {sheets : List InForce} {told ending : List (LineContent V)}
        → EndsWith sheets told ending → IsListing sheets (told ++ ending)

  -- The first lines of a listing, when the last of them is just told, and the sheets that were
  -- opened by then: no act behind the line has run.
  pub data BeginsListing : List InForce → List (LineContent V) → Type 0 where
    nothing_told : BeginsListing [] []
    act_told : {at : Layout} {act : Act} {left : List Act} {sheets behind : List InForce}
        {told : List (LineContent V)} {line : LineContent V}
        → ReadSoFar at (act ∷ left) sheets told
        → ComesOf a s room at sheets act (goes_on (line ∷ []) behind)
        → BeginsListing behind (told ++ line ∷ [])
    fault_told : {at : Layout} {act : Act} {left : List Act} {sheets : List InForce}
        {told : List (LineContent V)} {fault : Fault}
        → ReadSoFar at (act ∷ left) sheets told → ComesOf a s room at sheets act (stops fault)
        → BeginsListing sheets (told ++ fault_line at.record_number fault ∷ [])
    ending_told : {sheets : List InForce} {told : List (LineContent V)}
        (first : List (LineContent V)) (line : LineContent V) (rest : List (LineContent V))
        → EndsWith sheets told (first ++ line ∷ rest)
        → BeginsListing sheets (told ++ (first ++ line ∷ []))
