-- The sheets that were opened, by the rules alone: what each was opened for, and what its acts
-- handed to it. They stand in a list, the one in force first: an opening puts a sheet in front,
-- acts change the first, and those behind it stay as they were. Assumes nothing.
use Rattle.std.specs.Prelude.{◌≡◌, ℕ, ◌+◌, ◌*◌, ◌/◌, ◌%◌, ◌<◌, Bool, List, [], ◌∷◌, length, Option}
use Rattle.std.specs.Prelude.{MatchBool, nat_lt, slice_index_or}
use Rattle.std.specs.Option.{unwrap_or}
use Rattle.code.specs.Columns.{order_r}
use Rattle.code.specs.Shapes.{Shape, block_length, places}
use Rattle.weighing.specs.Alphabets.{Alphabet}
use Rattle.weighing.specs.Scales.{Scale}
use Rattle.search.specs.Weights.{Sums, entry_sums}
use Rattle.search.specs.declared.Entry.{Entry}
use Rattle.sheet.specs.Books.{Asked, Book, book_after, book_sums, decoding, empty, taking, wiping}

-- A sheet that is in force, or was until the next was opened: the shape that it was opened for, its
-- book, and the octet at which a take with no start field begins.
pub record InForce : Type 0 where
  pub shape : Shape
  pub book : Book
  pub next_start : ℕ

-- the shape of a sheet for reports of T octets with a check of L bits: each has order R
abbrev pub shape_r : ℕ → ℕ → Shape
shape_r octets check = record { octets = octets; check = check; order = order_r }

-- an opening puts a sheet with an empty book in force
abbrev pub opened : ℕ → ℕ → InForce
opened octets check = record { shape = shape_r octets check; book = empty; next_start = 0 }

-- where a take begins: at its own start, or else where the last take ended
abbrev pub start_of : InForce → Option ℕ → ℕ
start_of sheet start = unwrap_or start sheet.next_start

-- Where the next take begins once a call is performed: behind a take, at octet 0 again behind the
-- buffer's last; and at octet 0 behind a wipe.
abbrev pub next_start_after : InForce → Asked → ℕ
next_start_after sheet (taking start octets) =
    (start + length octets / 8) % (4 * block_length sheet.shape)
next_start_after sheet decoding = sheet.next_start
next_start_after sheet wiping = 0

-- what a performed call leaves in force
abbrev pub force_after : InForce → Asked → InForce
force_after sheet asked = record {
  shape = sheet.shape;
  book = book_after sheet.book asked;
  next_start = next_start_after sheet asked;
}

module _ {A V : Type 0} (a : Alphabet A V) (s : Scale V) where
  -- the sums of its places, by its book
  abbrev pub sums_of : InForce → Sums s
  sums_of sheet = book_sums a s (places sheet.shape) sheet.book

  -- What a place of the tally holds: the sums by the book of the sheet that was opened last of
  -- those that have this place; and where none has, what it held as it was lent.
  abbrev pub PlaceHolds : List InForce → (lent left : List (Entry V)) → ℕ → Type 0
  PlaceHolds [] lent left p = (e : Entry V) → slice_index_or left p e ≡ slice_index_or lent p e
  PlaceHolds (sheet ∷ earlier) lent left p =
      MatchBool (nat_lt p (places sheet.shape))
      ((b : Bool) → entry_sums s left p b ≡ sums_of sheet p b) (PlaceHolds earlier lent left p)

  -- what a tally holds, where these sheets were opened over it
  pub record TallyHolds (sheets : List InForce) (lent left : List (Entry V)) : Type 0 where
    pub long : length left ≡ length lent
    pub each : (p : ℕ) → p < length lent → PlaceHolds sheets lent left p
