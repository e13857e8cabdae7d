-- What each fault says: its layer, its place and its number. Assumes nothing.
use Rattle.std.specs.Prelude.{◌≡◌, ℕ, ◌+◌, Bool, true, false, cond, ◌||◌, List, Some, None, Option}
use Rattle.std.specs.Prelude.{Result, MatchResult, ◌==◌}
use Rattle.std.specs.Option.{unwrap_or}
use Rattle.listing.specs.Captures.{Act, a_decode, a_take, a_wipe, an_open, most_capture_octets}
use Rattle.listing.specs.Captures.{next_layout, next_refusal}
use Rattle.listing.specs.declared.faults.Fault.{Fault}
use Rattle.listing.specs.declared.faults.Fault.TheVariants.{TooLong, Letter, Unknown, CutShort}
use Rattle.listing.specs.declared.faults.Fault.TheVariants.{NoSheet, Open, Take}
use Rattle.listing.specs.declared.faults.Layer.{Layer}
use Rattle.listing.specs.declared.faults.Layer.TheVariants.{Listing, Sheet, Reading}
use Rattle.listing.specs.declared.layouts.Layout.{Layout}
use Rattle.sheet.specs.Calls.{open_case, take_case}

-- the layer, the place in the capture, and the number of a refusal
pub record Says : Type 0 where
  pub layer : Layer
  pub place : ℕ
  pub number : ℕ

-- 11, 12 and 13 are the listing's own; 9 comes from the reading, and all others from the sheet
abbrev pub layer_of : ℕ → Layer
layer_of number =
    cond (number == 9) Reading (cond (number == 11 || (number == 12 || number == 13)) Listing Sheet)

-- where the field begins that a refusal is about; `first` is the index of the first symbol that is
-- unlawful
abbrev pub field_place : Layout → Option ℕ → ℕ → ℕ
field_place at first number =
    cond (number == 1 || number == 6) at.octets
    (cond (number == 2) at.check
    (cond (number == 7) at.start
    (cond (number == 8 || number == 10) at.count
    (cond (number == 9) (at.symbols + unwrap_or first 0) at.map))))

-- a refusal with this number, of the record with this layout
abbrev pub says : Layout → Option ℕ → ℕ → Says
says at first number =
    record { layer = layer_of number; place = field_place at first number; number = number }

-- a refusal of the listing's own
abbrev pub listing_says : ℕ → ℕ → Says
listing_says place number = record { layer = Listing; place = place; number = number }

-- each case of a fault, and what it says
abbrev pub fault_says : Fault → Says
fault_says TooLong = listing_says most_capture_octets 11
fault_says Letter = listing_says 0 12
fault_says (Unknown place) = listing_says place 12
fault_says (CutShort place) = listing_says place 11
fault_says (NoSheet place) = listing_says place 13
fault_says (Open place refusal) =
    record { layer = Sheet; place = place; number = (open_case refusal).number }
fault_says (Take place refusal) =
    let number = (take_case None refusal).number in
    record { layer = layer_of number; place = place; number = number }

-- the fault of a record that is not read: 12 for its map, or 11 for its end
abbrev pub record_fault : ℕ → ℕ → Fault
record_fault place number = cond (number == 12) (Unknown place) (CutShort place)

-- Reading the record behind one: it passes its tests and has its layout, or the first test that
-- fails gives the fault.
abbrev pub Reads : List ℕ → Layout → Result Layout Fault → Type 0
Reads capture before r =
    MatchResult r (λ at. (next_refusal capture before ≡ None) × (at ≡ next_layout capture before))
    (λ fault. (next_refusal capture before ≡ Some (fault_says fault).number)
    × (fault ≡ record_fault before.end (fault_says fault).number))

abbrev pub is_open : Act → Bool
is_open (an_open octets check) = true
is_open (a_take start symbols) = false
is_open a_decode = false
is_open a_wipe = false

abbrev pub is_take : Act → Bool
is_take (an_open octets check) = false
is_take (a_take start symbols) = true
is_take a_decode = false
is_take a_wipe = false

-- What the case of a refused act's fault may be, and what it carries: a refused opening or take is
-- its own act's, and carries what the sheet's refusal may carry; any act but an opening may lack a
-- sheet.
abbrev pub fault_carries : Act → Option ℕ → Fault → Type 0
fault_carries act first (Open place refusal) = is_open act ≡ true
fault_carries act first (Take place refusal) =
    (is_take act ≡ true) × (take_case first refusal).carries
fault_carries act first (NoSheet place) = is_open act ≡ false
fault_carries act first TooLong = ⊥
fault_carries act first Letter = ⊥
fault_carries act first (Unknown place) = ⊥
fault_carries act first (CutShort place) = ⊥

-- the fault of an act that is refused by a number, in a record with this layout
pub record ActFault (at : Layout) (act : Act) (first : Option ℕ) (number : ℕ) (fault : Fault)
    : Type 0 where
  pub says_so : fault_says fault ≡ says at first number
  pub carries : fault_carries act first fault
