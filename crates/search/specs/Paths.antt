-- Paths through the trellis, as the search goes: nothing here is part of what the search promises.
-- A path is a row of bits with the latest first, so that one bit more is `∷`. Assumes nothing.
use Rattle.std.specs.Prelude.{◌≡◌, ℕ, zero, suc, ◌+◌, ◌*◌, ◌%◌, ◌<◌, Bool, List, [], ◌∷◌, reverse}
use Rattle.std.specs.Prelude.{length, take, Some, None, Option, IsSome, MatchOption, slice_index}
use Rattle.std.specs.Prelude.{slice_index_or}
use Rattle.std.specs.Option.{option_map}
use Rattle.block.specs.Bits.{bit, value}
use Rattle.code.specs.Register.{Cells, ◌⊕◌, cells_of, cleared, feedback, next, outputs, state_of}
use Rattle.code.specs.Register.{with_tail}
use Rattle.code.specs.declared.registers.Outputs.{Outputs}
use Rattle.weighing.specs.Scales.{Scale}
use Rattle.search.specs.Weights.{Sums, part, weight}

-- the cells at the end of a path
abbrev pub ends : List Bool → Cells
ends [] = cleared
ends (u ∷ us) = next (ends us) u

-- these four cells
abbrev pub four_cells : Bool → Bool → Bool → Bool → Cells
four_cells a b c d = record { m1 = a; m2 = b; m3 = c; m4 = d }

-- the two predecessors of state k, even and odd
unfoldable pub predecessor : Bool → ℕ → ℕ
predecessor odd k = 2 * k % 16 + value odd

-- the bit that leads from state p to state k
unfoldable pub input : ℕ → ℕ → Bool
input p k = bit 3 k ⊕ feedback (cells_of p)

-- the predecessor of state k that a word of survivors names by its bit k
abbrev pub named_predecessor : ℕ → ℕ → ℕ
named_predecessor word k = predecessor (bit k word) k

-- the path that survivors give to state k after t steps, by word t of the last of them
abbrev pub survivor_path : List ℕ → ℕ → ℕ → List Bool
survivor_path survivors zero k = []
survivor_path survivors (suc t) k =
    input (named_predecessor (slice_index survivors t) k) k
    ∷ survivor_path survivors t (named_predecessor (slice_index survivors t) k)

-- and the state in which that path starts
abbrev pub survivor_start : List ℕ → ℕ → ℕ → ℕ
survivor_start survivors zero k = k
survivor_start survivors (suc t) k =
    survivor_start survivors t (named_predecessor (slice_index survivors t) k)

-- the bits of the path to state k in their order: all that the words of survivors give
abbrev pub traceback : List ℕ → ℕ → List Bool
traceback survivors k = reverse (survivor_path survivors (length survivors) k)

-- the path weight of state k, if it is reached
abbrev pub path_at : {V : Type 0} → List (Option V) → ℕ → Option V
path_at paths k = slice_index_or paths k None

-- each state is reached
abbrev pub AllReached : {V : Type 0} → List (Option V) → Type 0
AllReached paths = (k : ℕ) → k < 16 → IsSome (path_at paths k)

module _ {V : Type 0} (s : Scale V) where
  -- a path weight that is absent is heavier than every other
  abbrev pub Lighter : Option s.Meaning → Option s.Meaning → Type 0
  Lighter a None = Unit {0}
  Lighter None (Some b) = ⊥
  Lighter (Some a) (Some b) = s.atmost a b

  -- a path weight with a branch weight behind it
  abbrev pub behind : Option s.Meaning → s.Meaning → Option s.Meaning
  behind a c = option_map (λ w. s.plus w c) a

  -- what the path weights of the sixteen states mean
  abbrev pub path_meaning : List (Option V) → ℕ → Option s.Meaning
  path_meaning paths k = option_map s.mean (path_at paths k)

  module _ (order : List ℕ) (n : ℕ) (sums : Sums s) where
    -- the weight of the branch of step t with these outputs
    abbrev pub branch_weight : ℕ → Outputs → s.Meaning
    branch_weight t v =
        let p : ℕ → s.Meaning = part s order n sums t v in
        s.plus (s.plus (s.plus (p 1) (p 2)) (p 3)) (p 4)

    -- the weight of a path
    abbrev pub path_weight : List Bool → s.Meaning
    path_weight [] = s.zero
    path_weight (u ∷ us) = s.plus (path_weight us) (branch_weight (length us) (outputs (ends us) u))

    -- a path that leads to state k and weighs w
    abbrev pub IsPath : List Bool → ℕ → s.Meaning → Type 0
    IsPath us k w = (state_of (ends us) ≡ k) × (w ≡ path_weight us)

    -- Of the paths of t steps to state k none weighs less than w, and the survivors give one that
    -- weighs just that; there is no such path where w is absent.
    pub record Lightest (survivors : List ℕ) (t k : ℕ) (w : Option s.Meaning) : Type 0 where
      pub every :
          (us : List Bool) → length us ≡ t → state_of (ends us) ≡ k
          → Lighter w (Some (path_weight us))
      pub held : MatchOption w (Unit {0}) (IsPath (survivor_path survivors t k) k)

    -- After t steps each path weight is the lightest to its state.
    abbrev pub Best : List ℕ → (ℕ → Option s.Meaning) → ℕ → Type 0
    Best survivors paths t = (k : ℕ) → k < 16 → Lightest survivors t k (paths k)

    -- All the bits of a path to state 0 are a message with its tail, of weight w, and no message of
    -- as many bits weighs less.
    pub record Traced (all : List Bool) (bits : ℕ) (w : s.Meaning) : Type 0 where
      pub whole : all ≡ with_tail (take bits all)
      pub weighs : w ≡ weight s order n sums (take bits all)
      pub least :
          (other : List Bool) → length other ≡ bits → s.atmost w (weight s order n sums other)
