-- The format of a record, as one who writes it needs it: what a record says, and its octets. That
-- the reader's places and acts are those of the format is the theorem `ReadsTheFormat`. Assumes
-- nothing.
use Rattle.std.specs.Prelude.{◌≡◌, ℕ, ◌+◌, ◌*◌, ◌<◌, ◌/◌, ◌%◌, Bool, List, [], ◌∷◌, ◌++◌, length}
use Rattle.std.specs.Prelude.{take, drop, flat_map, Some, None, Option, IfSome, is_some}
use Rattle.std.specs.List.{All, concat}
use Rattle.block.specs.Bits.{value}
use Rattle.block.specs.Refusals.{first_refusal}
use Rattle.listing.specs.Captures.{Act, a_decode, a_take, a_wipe, act_if, acts, an_open, layout}
use Rattle.listing.specs.Captures.{letter_layout, next_layout, record_checks}
use Rattle.listing.specs.declared.layouts.Layout.{Layout}

-- what an opening needs: T and L
pub record Size : Type 0 where
  pub octets : ℕ
  pub check : ℕ

-- what a take needs: only it may have a start
pub record Taking : Type 0 where
  pub start : Option ℕ
  pub symbols : List ℕ

-- a record
pub record Record : Type 0 where
  pub size : Option Size
  pub taking : Option Taking
  pub decode : Bool
  pub wipe : Bool

abbrev pub start_in : Option Taking → Option ℕ
start_in None = None
start_in (Some taking) = taking.start

-- its map: the sum of the values that stand for what it has
abbrev pub map_of : Record → ℕ
map_of r =
    value (is_some r.size) + 2 * value (is_some (start_in r.taking))
    + 4 * value (is_some r.taking) + 8 * value r.decode + 16 * value r.wipe

-- a number in two octets, the low octet first
abbrev pub two_octets : ℕ → List ℕ
two_octets n = n % 256 ∷ n / 256 ∷ []

-- what a part gives that may be absent: nothing where it is
abbrev pub if_there : {X Y : Type 0} → (X → List Y) → Option X → List Y
if_there gives None = []
if_there gives (Some x) = gives x

-- the fields of a record as octets, in the order in which they stand; one that is absent has none
abbrev pub fields : Record → List (List ℕ)
fields r =
    (map_of r ∷ [])
    ∷ if_there (λ size. two_octets size.octets) r.size
    ∷ if_there (λ size. size.check ∷ []) r.size
    ∷ if_there two_octets (start_in r.taking)
    ∷ if_there (λ taking. two_octets (length taking.symbols)) r.taking
    ∷ if_there (λ taking. taking.symbols) r.taking
    ∷ []

-- its octets: the fields joined, with nothing between them
abbrev pub record_octets : Record → List ℕ
record_octets r = concat (fields r)

-- where a field of a record at this place begins: behind the fields in front of it
abbrev pub begins : Record → ℕ → ℕ → ℕ
begins r place k = place + length (concat (take k (fields r)))

-- what a record asks for, in the order in which it runs
abbrev pub asks : Record → List Act
asks r =
    if_there (λ size. an_open size.octets size.check ∷ []) r.size
    ++ if_there (λ taking. a_take taking.start taking.symbols ∷ []) r.taking
    ++ act_if r.decode a_decode ++ act_if r.wipe a_wipe

-- a record's octets stand at this place of a capture
abbrev pub StandsAt : Record → List ℕ → ℕ → Type 0
StandsAt r capture place = (rest : List ℕ) × (drop place capture ≡ record_octets r ++ rest)

-- The record with this number is read as it was written: its layout is lawful, it ends where the
-- record ends, its acts are those that the record asks for, and each field that is there begins
-- where the record has it.
pub record ReadsAs (r : Record) (capture : List ℕ) (number place : ℕ) (at : Layout) : Type 0 where
  pub number_is : at.record_number ≡ number
  pub lawful : first_refusal (record_checks capture at) ≡ None
  pub end : at.end ≡ place + length (record_octets r)
  pub acts_are : acts capture at ≡ asks r
  pub map : at.map ≡ begins r place 0
  pub size : IfSome r.size (λ size. (at.octets ≡ begins r place 1) × (at.check ≡ begins r place 2))
  pub start : IfSome (start_in r.taking) (λ start. at.start ≡ begins r place 3)
  pub taking : IfSome r.taking
      (λ taking. (at.count ≡ begins r place 4) × (at.symbols ≡ begins r place 5))

-- records that are read one behind another, from the one with this number, which stands behind
-- this layout, to the capture's end
abbrev pub ReadsAll : List ℕ → ℕ → Layout → List Record → Type 0
ReadsAll capture number at [] = at.end ≡ length capture
ReadsAll capture number at (r ∷ more) =
    ReadsAs r capture number at.end (next_layout capture at)
    × ReadsAll capture (number + 1) (next_layout capture at) more

-- Wherever a record's octets stand in a capture, that record is read there; a record is read only
-- where one stands; and a capture that is written as a letter and records, joined, is read as
-- those records, counted from 1.
pub record ReadsTheFormat : Type 0 where
  pub each : (r : Record) (capture : List ℕ) (number place : ℕ) → StandsAt r capture place
      → ReadsAs r capture number place (layout capture number place)
  pub only : (capture : List ℕ) (number place : ℕ) → All (λ octet. octet < 256) capture
      → first_refusal (record_checks capture (layout capture number place)) ≡ None
      → (r : Record) × StandsAt r capture place
  pub all : (letter : ℕ) (records : List Record)
      → ReadsAll (letter ∷ flat_map record_octets records) 1 letter_layout records
