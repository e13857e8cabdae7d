-- Sendings of one buffer: a sender is made, and passages then begin, copy, and are confirmed, given
-- up or leaked. Each step is what the call's contract says; a leak is no call, and leaves the
-- cursor as the copies did. Assumes nothing.
use Rattle.std.specs.Prelude.{◌≡◌, ℕ, ◌+◌, ◌%◌, ◌<◌, List, [], ◌∷◌, ◌++◌, length, take, Ok, Err}
use Rattle.std.specs.Prelude.{slice_index, Result}
use Rattle.sender.specs.declared.senders.Sender.{Sender}
use Rattle.sender.specs.declared.passages.PassageRefusal.{PassageRefusal}
use Rattle.sender.specs.Passages.{Begins, Confirms, Copies, GivesUp, Guard, Leaks, MakesSender}
use Rattle.sender.specs.Passages.{round_of}

-- what a copy wrote, and how many octets it was asked for; a refused copy wrote nothing and does
-- not count
abbrev pub written : Result Unit PassageRefusal → ℕ → List ℕ → List ℕ
written (Ok _) count target = take count target
written (Err _) count target = []

abbrev pub asked_of : Result Unit PassageRefusal → ℕ → ℕ
asked_of (Ok _) count = count
asked_of (Err _) count = 0

-- A performed copy was handed the round of the sending's buffer, whatever lay behind it. A refused
-- copy may have been handed any buffer, one that is short among them.
abbrev pub OwnBuffer : ℕ → Result Unit PassageRefusal → List ℕ → List ℕ → Type 0
OwnBuffer round (Ok _) handed buffer = take round handed ≡ take round buffer
OwnBuffer round (Err _) handed buffer = Unit {0}

-- Copies on the passage g, one after another, into any targets: where the passage then stands, what
-- they wrote in all, and how many octets they were asked for.
pub data CopiesInTurn (buffer : List ℕ) (g : Guard) : Guard → List ℕ → ℕ → Type 0 where
  none : CopiesInTurn buffer g g [] 0
  next : {h : Guard} {wrote : List ℕ} {asked : ℕ} → CopiesInTurn buffer g h wrote asked
      → (handed target target' : List ℕ) (count : ℕ) (h' : Guard) (r : Result Unit PassageRefusal)
      → Copies handed target target' count h h' r → OwnBuffer h.round r handed buffer
      → CopiesInTurn buffer g h' (wrote ++ written r count target') (asked + asked_of r count)

-- A passage of a sender for T and L that stands at `cursor`: what its copies wrote and were asked
-- for, and the passage h that they leave.
pub record PassageFrom (octets check : ℕ) (buffer : List ℕ) (cursor : ℕ)
    (wrote : List ℕ) (asked : ℕ) (h : Guard) : Type 0 where
  pub g : Guard
  pub begun : Begins octets check cursor g
  pub copied : CopiesInTurn buffer g h wrote asked

-- A sender for T and L that has come to stand at `cursor`: the octets that its confirmed passages
-- copied, joined in order, and how many octets those passages were asked for.
pub data Sending (octets check : ℕ) (buffer : List ℕ) : ℕ → List ℕ → ℕ → Type 0 where
  made : (s : Sender) → MakesSender octets check (Ok s) → Sending octets check buffer s.cursor [] 0
  confirmed : {cursor : ℕ} {kept wrote : List ℕ} {asked more : ℕ} {h : Guard}
      → Sending octets check buffer cursor kept asked
      → PassageFrom octets check buffer cursor wrote more h
      → (cursor' : ℕ) → Confirms h cursor'
      → Sending octets check buffer cursor' (kept ++ wrote) (asked + more)
  given_up : {cursor : ℕ} {kept wrote : List ℕ} {asked more : ℕ} {h : Guard}
      → Sending octets check buffer cursor kept asked
      → PassageFrom octets check buffer cursor wrote more h
      → (cursor' : ℕ) → GivesUp h cursor'
      → Sending octets check buffer cursor' kept asked
  leaked : {cursor : ℕ} {kept wrote : List ℕ} {asked more : ℕ} {h : Guard}
      → Sending octets check buffer cursor kept asked
      → PassageFrom octets check buffer cursor wrote more h
      → (cursor' : ℕ) → Leaks h cursor'
      → Sending octets check buffer cursor' kept asked

-- what each confirmed passage of a sending was asked for, in their order
abbrev pub asked_each : {octets check : ℕ} {buffer : List ℕ} {cursor : ℕ} {kept : List ℕ}
    → {asked : ℕ} → Sending octets check buffer cursor kept asked → List ℕ
asked_each (made s m) = []
asked_each (confirmed {more} sending p cursor' c) = asked_each sending ++ more ∷ []
asked_each (given_up sending p cursor' g) = asked_each sending
asked_each (leaked sending p cursor' l) = asked_each sending

-- The confirmed octets are as many as the confirmed passages were asked for, they are the buffer's
-- octets in rounds, and the sender stands behind them.
pub record InRounds (octets check : ℕ) (buffer : List ℕ)
    (cursor : ℕ) (kept : List ℕ) (asked : ℕ) : Type 0 where
  pub many : length kept ≡ asked
  pub rounds : (j : ℕ) → j < length kept
      → slice_index kept j ≡ slice_index buffer (j % round_of octets check)
  pub stands : cursor ≡ asked % round_of octets check

-- so it is after every sending
abbrev pub SendsInRounds : Type 0
SendsInRounds =
    (octets check : ℕ) (buffer : List ℕ) (cursor : ℕ) (kept : List ℕ) (asked : ℕ)
    → Sending octets check buffer cursor kept asked → InRounds octets check buffer cursor kept asked
