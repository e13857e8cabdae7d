-- The buffers that a search is lent, and what it leaves of them. Assumes nothing.
use Rattle.std.specs.Prelude.{◌≡◌, ℕ, ◌*◌, List, length, drop, Option}
use Rattle.search.specs.declared.scratch.Scratch.{Scratch as ScratchInCode}

-- What stands in the buffers.
pub record Scratch (V : Type 0) : Type 0 where
  pub survivors : List ℕ
  pub paths : List (Option V)

-- these words of survivors and these path weights
abbrev pub scratch_of : {V : Type 0} → List ℕ → List (Option V) → Scratch V
scratch_of survivors paths = record { survivors = survivors; paths = paths }

-- what stands in the code's loans
abbrev pub contents : {V : Type 0} → ScratchInCode V → Scratch V
contents scratch = scratch_of scratch.survivors.now scratch.paths.now

-- Each loan is the one that it was.
pub record SameLoans {V : Type 0} (before after : ScratchInCode V) : Type 0 where
  pub survivors : after.survivors.ghost_name ≡ before.survivors.ghost_name
  pub paths : after.paths.ghost_name ≡ before.paths.ghost_name

-- A lent buffer of which the first k places are used: its length and what lies behind them stay.
pub record UsesFront {A : Type 0} (k : ℕ) (before after : List A) : Type 0 where
  pub long : length after ≡ length before
  pub rest : drop k after ≡ drop k before

-- What a search of a block of n octets leaves of them: anything in the parts that it uses.
pub record UsesScratch {V : Type 0} (n : ℕ) (before after : Scratch V) : Type 0 where
  pub survivors : UsesFront (8 * n) before.survivors after.survivors
  pub paths : UsesFront 32 before.paths after.paths
