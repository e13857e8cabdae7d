-- Whole runs of a sheet, as data: it is opened over a tally, and takes, decodes and wipes then
-- follow, performed or refused in any mix. Each step is what the call's contract says, and the book
-- is moved by what the call was handed. Assumes nothing.
use Rattle.std.specs.Prelude.{◌≡◌, ℕ, ◌*◌, ◌<◌, ◌≤◌, Bool, List, [], ◌∷◌, fold, length, take, Ok}
use Rattle.std.specs.Prelude.{Err, Result}
use Rattle.code.specs.Shapes.{Shape, places}
use Rattle.weighing.specs.Alphabets.{Alphabet}
use Rattle.weighing.specs.declared.Weighing.{Ghosts}
use Rattle.search.specs.Scratch.{Scratch}
use Rattle.search.specs.Weights.{entry_sums}
use Rattle.search.specs.declared.Entry.{Entry}
use Rattle.search.specs.declared.refusal.FindRefusal.{FindRefusal}
use Rattle.sheet.specs.Books.{Asked, Book, book_after, book_sums, decoding, empty, taking, wiping}
use Rattle.sheet.specs.Calls.{Decodes, Opens, Takes, Wipes, block_length_of, shape_of_sheet}
use Rattle.sheet.specs.declared.answers.Decoded.{Decoded}
use Rattle.sheet.specs.declared.answers.Taken.{Taken}
use Rattle.sheet.specs.declared.refusals.TakeRefusal.{TakeRefusal}
use Rattle.sheet.specs.declared.refusals.WipeRefusal.{WipeRefusal}
use Rattle.sheet.specs.declared.sheets.Sheet.{Sheet}

-- A call of a sheet: what it was handed and lent, what it left of the loans, and what it answered.
pub data Call (V : Type 0) : Type 0 where
  takes : (start : ℕ) (octets : List ℕ) (lent left : List (Entry V))
      → Result Taken TakeRefusal → Call V
  decodes : (lent : List (Entry V)) (target target' : List ℕ) (scratch scratch' : Scratch V)
      → Result (Decoded V) FindRefusal → Call V
  wipes : (lent left : List (Entry V)) → Result (Unit {0}) WipeRefusal → Call V

-- what the book is after a call that asked for this, by whether it was performed
abbrev pub book_by : {A E : Type 0} → Book → Asked → Result A E → Book
book_by book asked (Ok x) = book_after book asked
book_by book asked (Err e) = book

module _ {V : Type 0} where
  -- a call moves the book by what it asked for and by whether it was performed
  abbrev pub book_behind : Book → Call V → Book
  book_behind book (takes start octets lent left r) = book_by book (taking start octets) r
  book_behind book (decodes lent target target' scratch scratch' r) = book_by book decoding r
  book_behind book (wipes lent left r) = book_by book wiping r

  -- the book of a run with these calls, since its opening
  abbrev pub book_of : List (Call V) → Book
  book_of calls = fold book_behind empty calls

  -- a call that is no performed wipe
  abbrev pub IsNoWipe : Call V → Type 0
  IsNoWipe (takes start octets lent left r) = Unit {0}
  IsNoWipe (decodes lent target target' scratch scratch' r) = Unit {0}
  IsNoWipe (wipes lent left (Ok x)) = ⊥
  IsNoWipe (wipes lent left (Err e)) = Unit {0}

  -- no performed wipe is among the calls
  abbrev pub NoWipe : List (Call V) → Type 0
  NoWipe [] = Unit {0}
  NoWipe (call ∷ calls) = IsNoWipe call × NoWipe calls

  -- two tallies with the same entries at the block's places, whatever stands behind them
  abbrev pub SamePlaces : ℕ → List (Entry V) → List (Entry V) → Type 0
  SamePlaces n lent tally = take (32 * n) lent ≡ take (32 * n) tally

  -- A performed call was lent the entries of the sheet's own tally, and what it left there is the
  -- sheet's tally from then on. A refused call may have been lent any tally, one that is short
  -- among them, and the sheet's own stays.
  abbrev pub OwnTally : {A E : Type 0} → ℕ → Result A E → (lent left tally tally' : List (Entry V))
      → Type 0
  OwnTally n (Ok x) lent left tally tally' = SamePlaces n lent tally × (left ≡ tally')
  OwnTally n (Err e) lent left tally tally' = tally' ≡ tally

-- how a sheet stands: the sheet itself and its tally
pub record Standing {W V : Type 0} (g : Ghosts W V) : Type 0 where
  pub sheet : Sheet W V g
  pub tally : List (Entry V)

module _ {W V A : Type 0} (g : Ghosts W V) (a : Alphabet A V) where
  -- what a call does to a sheet that stands so, by the call's contract
  abbrev pub RunStep : Standing g → Call V → Standing g → Type 0
  RunStep before (takes start octets lent left r) after =
      Takes a before.sheet after.sheet lent left start octets r
      × OwnTally (block_length_of before.sheet) r lent left before.tally after.tally
  RunStep before (decodes lent target target' scratch scratch' r) after =
      Decodes before.sheet lent target target' scratch scratch' r
      × OwnTally (block_length_of before.sheet) r lent lent before.tally after.tally
      × (after.sheet ≡ before.sheet)
  RunStep before (wipes lent left r) after =
      Wipes before.sheet after.sheet lent left r
      × OwnTally (block_length_of before.sheet) r lent left before.tally after.tally

  -- calls one after another
  abbrev pub RunSteps : Standing g → List (Call V) → Standing g → Type 0
  RunSteps from [] to = to ≡ from
  RunSteps from (call ∷ calls) to =
      (next : Standing g) × RunStep from call next × RunSteps next calls to

  -- a run begins at the call that opens the sheet for a shape, on any tally, and then makes these
  -- calls
  pub record Run (shape : Shape) (calls : List (Call V)) (to : Standing g) : Type 0 where
    pub tally : List (Entry V)
    pub first : Standing g
    pub opening : Opens shape tally first.tally (Ok first.sheet)
    pub went : RunSteps first calls to

  -- A sheet agrees with a book: it is of this shape, its tally has an entry for each place, each
  -- place's entry is that place's two sums in the book, and its count is the book's.
  pub record Agrees (shape : Shape) (book : Book) (st : Standing g) : Type 0 where
    pub shape_is : shape_of_sheet st.sheet ≡ shape
    pub room : places shape ≤ length st.tally
    pub entries : (p : ℕ) (b : Bool) → p < places shape
        → entry_sums g.scale st.tally p b ≡ book_sums a g.scale (places shape) book p b
    pub count_is : st.sheet.count ≡ book.count

  -- A performed decode of a sheet as it stands, lent whatever buffers: what it left in the target,
  -- and what it answered.
  pub record DecodedAt (st : Standing g) (target target' : List ℕ) (decoded : Decoded V)
      : Type 0 where
    pub lent : List (Entry V)
    pub scratch : Scratch V
    pub scratch' : Scratch V
    pub own : SamePlaces (block_length_of st.sheet) lent st.tally
    pub performed : Decodes st.sheet lent target target' scratch scratch' (Ok decoded)
