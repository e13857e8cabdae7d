-- The theorem on whole runs. Assumes nothing.
use Rattle.std.specs.Prelude.{◌≡◌, ℕ, List, Ok}
use Rattle.code.specs.Shapes.{Shape, places}
use Rattle.weighing.specs.Alphabets.{Alphabet}
use Rattle.weighing.specs.declared.Weighing.{Ghosts}
use Rattle.search.specs.declared.Entry.{Entry}
use Rattle.sender.specs.Sendings.{SendsInRounds}
use Rattle.sheet.specs.Books.{Book, book_after, book_sums, taking}
use Rattle.sheet.specs.Calls.{NamesNearest, Takes}
use Rattle.sheet.specs.Runs.{Agrees, Call, DecodedAt, NoWipe, Run, Standing, RunSteps, book_of}
use Rattle.sheet.specs.declared.answers.Decoded.{Decoded}
use Rattle.sheet.specs.declared.answers.Taken.{Taken}
use Rattle.sheet.specs.declared.sheets.Sheet.{Sheet}

module _ {W V A : Type 0} (g : Ghosts W V) (a : Alphabet A V) where
  -- What holds of a sheet at every point of a run that opened it for this shape, with this book.
  -- The sheet agrees with the book. A performed take answers the book's count behind it. A
  -- performed decode names a message, answers exactly its weight by the book, and every other
  -- message of the shape weighs at least as much by the book.
  pub record ByTheBook (shape : Shape) (book : Book) (st : Standing g) : Type 0 where
    pub agrees : Agrees g a shape book st
    pub take_answers : (lent left : List (Entry V)) (start : ℕ) (octets : List ℕ)
        (sheet : Sheet W V g) (taken : Taken)
        → Takes a st.sheet sheet lent left start octets (Ok taken)
        → taken.total ≡ (book_after book (taking start octets)).count
    pub decode_names : (target target' : List ℕ) (decoded : Decoded V)
        → DecodedAt g a st target target' decoded
        → (let sums = book_sums a g.scale (places shape) book in
        NamesNearest g.scale shape sums target target' decoded)

  abbrev pub TallyPart : Type 0
  TallyPart =
      (shape : Shape) (calls : List (Call V)) (st : Standing g) → Run g a shape calls st
      → ByTheBook shape (book_of calls) st

  -- From one performed decode to a later one with no performed wipe between, the weight does not
  -- fall.
  abbrev pub GrowthPart : Type 0
  GrowthPart =
      (shape : Shape) (calls between : List (Call V)) (first later : Standing g)
      → Run g a shape calls first → RunSteps g a first between later → NoWipe between
      → (target₁ target₁' target₂ target₂' : List ℕ) (decoded₁ decoded₂ : Decoded V)
      → DecodedAt g a first target₁ target₁' decoded₁
      → DecodedAt g a later target₂ target₂' decoded₂
      → g.scale.atmost (g.scale.mean decoded₁.weight) (g.scale.mean decoded₂.weight)

  -- The theorem: the tally by its book, the growth of the weight, and the sender's octets in
  -- rounds.
  abbrev pub NearestMessage : Type 0
  NearestMessage = TallyPart × GrowthPart × SendsInRounds
