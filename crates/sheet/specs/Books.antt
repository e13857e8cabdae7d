-- The book of a sheet: what its calls were handed that stays with it. Assumes nothing.
use Rattle.std.specs.Prelude.{ℕ, suc, ◌+◌, ◌*◌, ◌%◌, Bool, cond, List, [], ◌∷◌, ◌++◌, length, Some}
use Rattle.std.specs.Prelude.{None, Option, ◌==◌}
use Rattle.std.specs.Prelude.{fold}
use Rattle.std.specs.Option.{option_map}
use Rattle.weighing.specs.Alphabets.{Alphabet}
use Rattle.weighing.specs.Scales.{Scale}
use Rattle.search.specs.Weights.{Sums}

-- a sheet takes at most this many symbols between two wipes
abbrev pub most_symbols : ℕ
most_symbols = 1048576

-- What a performed call brings to the book: a take the octet at which it starts, and its octets, of
-- which each is read as one symbol.
pub data Event : Type 0 where
  taken : (start : ℕ) (octets : List ℕ) → Event

-- how many symbols came with an event
abbrev pub symbols_in : Event → ℕ
symbols_in (taken start octets) = length octets

-- The book lists the events since the opening or the last wipe, oldest first. The count is how many
-- symbols were taken.
pub record Book : Type 0 where
  pub events : List Event
  pub count : ℕ

abbrev pub empty : Book
empty = record { events = []; count = 0 }

-- an event is added behind the others, and its symbols to the count
abbrev pub noted : Book → Event → Book
noted book event = record {
  events = book.events ++ event ∷ [];
  count = book.count + symbols_in event;
}

-- what a call of a sheet asks for, with what it is handed
pub data Asked : Type 0 where
  taking : (start : ℕ) (octets : List ℕ) → Asked
  decoding : Asked
  wiping : Asked

-- what a performed call makes of the book; a refused one changes nothing in it
abbrev pub book_after : Book → Asked → Book
book_after book (taking start octets) = noted book (taken start octets)
book_after book decoding = book
book_after book wiping = empty

module _ {A V : Type 0} (a : Alphabet A V) where
  -- the index of the first octet that reads as none
  abbrev pub unlawful : List ℕ → Option ℕ
  unlawful [] = None
  unlawful (x ∷ xs) =
      elim (a.reads x) [ None ↦ Some 0 | Some symbol ↦ option_map suc (unlawful xs) ]

  -- The symbols that octets read as, each with its place: the first goes to place p, and behind the
  -- last place comes the first.
  abbrev pub laid : ℕ → ℕ → List ℕ → List (ℕ × A)
  laid places p [] = []
  laid places p (x ∷ xs) =
      let more = laid places (suc p) xs in
      elim (a.reads x) [ None ↦ more | Some symbol ↦ (p % places, symbol) ∷ more ]

  module _ (s : Scale V) where
    -- the weights against bit b of the symbols at place p, added behind w in their order
    abbrev pub sum_behind : s.Meaning → ℕ → Bool → List (ℕ × A) → s.Meaning
    sum_behind w p b [] = w
    sum_behind w p b (x ∷ xs) =
        sum_behind (cond (x.0 == p) (s.plus w (s.mean (a.against x.1 b))) w) p b xs

    -- what an event makes of a place's sum against a bit: a take adds behind it
    abbrev pub sum_after : ℕ → s.Meaning → ℕ → Bool → Event → s.Meaning
    sum_after places w p b (taken start octets) = sum_behind w p b (laid places (8 * start) octets)

    -- a place's sum against a bit by the book: from zero, event by event, oldest first
    unfoldable pub book_sums : ℕ → Book → Sums s
    book_sums places book p b = fold (λ w e. sum_after places w p b e) s.zero book.events
