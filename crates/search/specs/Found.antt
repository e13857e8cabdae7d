-- What the search answers, and what it leaves in the buffers that it is lent. Assumes nothing.
use Rattle.std.specs.Prelude.{◌≡◌, ℕ, ◌*◌, ◌||◌, List, [], ◌∷◌, ◌++◌, length, drop, Bool, Decides}
use Rattle.std.specs.Prelude.{Result, nat_lt}
use Rattle.block.specs.Bits.{bits_of, filled}
use Rattle.block.specs.Checks.{CheckFits}
use Rattle.block.specs.Refusals.{Case, Check, Performs, if_refuse, numbered}
use Rattle.code.specs.Register.{with_tail}
use Rattle.code.specs.Shapes.{Shape, block_length, message_length}
use Rattle.weighing.specs.Scales.{Scale}
use Rattle.search.specs.Scratch.{Scratch, UsesScratch}
use Rattle.search.specs.Weights.{Nearest, Sums, entry_sums, weight_of}
use Rattle.search.specs.declared.Entry.{Entry}
use Rattle.search.specs.declared.refusal.FindRefusal.{FindRefusal}
use Rattle.search.specs.declared.refusal.FindRefusal.TheVariants.{Short}
use Rattle.search.specs.declared.Found.{Found}

-- the case of the refusal of a search
abbrev pub find_case : FindRefusal → Case
find_case Short = numbered 6

-- the scratch is short for a block of n octets
abbrev pub scratch_short : {V : Type 0} → ℕ → Scratch V → Bool
scratch_short n scratch =
    nat_lt (length scratch.survivors) (8 * n) || nat_lt (length scratch.paths) 32

-- 6 where the tally, the target or the scratch is short
abbrev pub find_checks : {V : Type 0} → ℕ → (tally target : ℕ) → Scratch V → List Check
find_checks n tally target scratch =
    if_refuse (nat_lt tally (32 * n) || (nat_lt target n || scratch_short n scratch)) 6 ∷ []

-- the message at the front of octets
abbrev pub message_at : Shape → List ℕ → List Bool
message_at shape octets = bits_of octets (message_length shape)

module _ {V : Type 0} (s : Scale V) (shape : Shape) (sums : Sums s) (before after : List ℕ) where
  -- The message that is named stands, with its tail, in the target's first N octets, and the rest
  -- of the target stays. `least` is that message's weight, and no message of the shape weighs less.
  -- Among messages of equal weight the choice is free.
  pub record Names (least : V) : Type 0 where
    pub written :
        after
        ≡ filled (with_tail (message_at shape after)) (block_length shape)
        ++ drop (block_length shape) before
    pub weighs : s.mean least ≡ weight_of s shape sums (message_at shape after)
    pub nearest : Nearest s shape sums (message_at shape after)

  -- What is found: the weight of the message that is named, and whether that message's check fits.
  pub record FindsNearest (found : Found V) : Type 0 where
    pub names : Names found.weight
    pub verdict :
        Decides found.check_fits (CheckFits shape.octets shape.check (message_at shape after))

-- What the search does. A refused one leaves all as it was.
abbrev pub Finds : {V : Type 0} (s : Scale V) → Shape → List (Entry V) → (target target' : List ℕ)
    → (scratch scratch' : Scratch V) → Result (Found V) FindRefusal → Type 0
Finds s shape tally target target' scratch scratch' r =
    Performs (find_checks (block_length shape) (length tally) (length target) scratch) find_case
    (λ found. FindsNearest s shape (entry_sums s tally) target target' found
    × UsesScratch (block_length shape) scratch scratch')
    ((target' ≡ target) × (scratch' ≡ scratch))
    r
