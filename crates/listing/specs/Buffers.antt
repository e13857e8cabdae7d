-- The buffers that a listing is lent, and what they hold then. Assumes nothing.
use Rattle.std.specs.Prelude.{◌≡◌, List, [], ◌∷◌, Option, ⊤}
use Rattle.std.specs.Borrow.{GName}
use Rattle.weighing.specs.Alphabets.{Alphabet}
use Rattle.weighing.specs.Scales.{Scale}
use Rattle.search.specs.Scratch.{UsesFront}
use Rattle.search.specs.declared.Entry.{Entry}
use Rattle.listing.specs.InForce.{InForce, TallyHolds}
use Rattle.listing.specs.Lines.{LineContent, decode_line, end_line, fault_line}
use Rattle.listing.specs.declared.buffers.Buffers.{Buffers as BuffersInCode}

-- What stands in the buffers.
pub record Buffers (V : Type 0) : Type 0 where
  pub tally : List (Entry V)
  pub paths : List (Option V)

-- Which loans they are.
pub record Loans : Type 0 where
  pub tally : GName
  pub paths : GName

-- Each loan is the one that it was.
pub record SameLoans (before after : Loans) : Type 0 where
  pub tally : after.tally ≡ before.tally
  pub paths : after.paths ≡ before.paths

module _ {V : Type 0} where
  -- what stands in the code's loans
  abbrev pub contents : BuffersInCode V → Buffers V
  contents buffers = record { tally = buffers.tally.now; paths = buffers.paths.now }

  -- and which they are
  abbrev pub loans : BuffersInCode V → Loans
  loans buffers = record { tally = buffers.tally.ghost_name; paths = buffers.paths.ghost_name }

  -- no decode is among these lines
  abbrev pub NoDecode : List (LineContent V) → Type 0
  NoDecode [] = ⊤
  NoDecode (decode_line r weight verdict octets ∷ more) = ⊥
  NoDecode (fault_line r fault ∷ more) = NoDecode more
  NoDecode (end_line r ∷ more) = NoDecode more

-- What the buffers hold, where these sheets were opened and these lines told: the tally is as the
-- sheets have it; the path weights are as they were lent unless a decode was made, and behind the
-- first 32 always.
pub record BuffersHold {A V : Type 0} (a : Alphabet A V) (s : Scale V) (sheets : List InForce)
    (told : List (LineContent V)) (lent left : Buffers V) : Type 0 where
  pub tally : TallyHolds a s sheets lent.tally left.tally
  pub paths : NoDecode told → left.paths ≡ lent.paths
  pub rest : UsesFront 32 lent.paths left.paths
