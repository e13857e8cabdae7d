-- What is read of an input, by what its reader has left, and what is written of it. Assumes
-- nothing.
use Rattle.std.specs.Prelude.{ℕ, ◌≡◌, ◌≢◌, ◌+◌, ◌<◌, ◌≤◌, ⊤, List, length, replicate, take}
use Rattle.std.specs.Prelude.{Ok, Option}
use Rattle.std.specs.Io.KnownBytes.{Consumes, IsAtEnd, Keeps}
use Rattle.std.specs.declared.io.ErrorKind.{ErrorKind}
use Rattle.std.specs.declared.io.ErrorKind.TheVariants.{Interrupted}
use Rattle.search.specs.declared.Entry.{Entry}
use Rattle.listing.specs.Captures.{most_capture_octets}
use Rattle.listing.specs.Whole.{WritesByLetter}

-- the places of each tally over which the programs list, so that a block has up to 56 octets
abbrev pub program_places : ℕ
program_places = 1792

-- One read: so many octets came, they were the reader's next and stand at the buffer's front, and
-- none come only at the reader's end, or where the buffer has no room.
pub record ReadsOn (before after : Option (List ℕ)) (buffer : List ℕ) (octets : ℕ) : Type 0 where
  pub within : octets ≤ length buffer
  pub comes : Consumes before after (take octets buffer)
  pub at_end : octets ≡ 0 → 0 < length buffer → IsAtEnd after

-- So many octets came: they were the reader's next, they stand at the buffer's front, and only the
-- reader's end leaves the buffer unfilled.
pub record Fills (before after : Option (List ℕ)) (buffer : List ℕ) (octets : ℕ) : Type 0 where
  pub within : octets ≤ length buffer
  pub comes : Consumes before after (take octets buffer)
  pub at_end : octets < length buffer → IsAtEnd after

-- Reading failed, and not by an interruption: some octets had come, no more than there was room
-- for.
pub record FailsToFill (room : ℕ) (before after : Option (List ℕ)) (kind : ErrorKind) : Type 0
  where
    pub octets : List ℕ
    pub comes : Consumes before after octets
    pub few : length octets ≤ room
    pub other : kind ≢ Interrupted

-- one octet more than a capture may have: by it one that is too long is known
abbrev pub most_input_octets : ℕ
most_input_octets = most_capture_octets + 1

-- what is taken of an input: so many octets, or fewer up to its end
pub record TakesInput (before after : Option (List ℕ)) : Type 0 where
  pub octets : List ℕ
  pub comes : Consumes before after octets
  pub few : length octets ≤ most_input_octets
  pub at_end : length octets < most_input_octets → IsAtEnd after

-- a tally of the programs, as they begin
abbrev pub cleared_tally : List (Entry ℕ)
cleared_tally = replicate program_places (record { zero = 0; one = 0 })

-- What is written of an input that held this capture: its listing, by its letter, over the tallies
-- of the programs.
pub record ListsInput (capture : List ℕ) (before after : Option (List ℕ)) : Type 0 where
  pub sums : List (Entry ℕ)
  pub largest : List (Entry ℕ)
  pub written : WritesByLetter capture before after {E = ⊤} (Ok tt)
      cleared_tally sums cleared_tally largest

module _ (before after held held' : Option (List ℕ)) where
  -- an input was taken, and what is written is the listing of what was taken
  pub record ListsWhatCame : Type 0 where
    pub takes : TakesInput before after
    pub written : ListsInput takes.octets held held'

  -- Which error is answered: one of the input, and nothing is written; or, of an input that was
  -- taken, one of the output.
  pub data FailsToList (kind : ErrorKind) : Type 0 where
    at_input : FailsToFill most_input_octets before after kind → Keeps held held'
        → FailsToList kind
    at_output : TakesInput before after → FailsToList kind
