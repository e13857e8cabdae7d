-- Add, compare, select: a step of the trellis. Nothing here is part of what the search promises.
-- Assumes nothing.
use Rattle.std.specs.Prelude.{◌≡◌, ℕ, Bool, Option}
use Rattle.code.specs.Register.{cells_of, outputs}
use Rattle.code.specs.declared.registers.Outputs.{Outputs}
use Rattle.weighing.specs.Scales.{Scale}
use Rattle.weighing.specs.declared.Weighing.{Ghosts}
use Rattle.search.specs.Paths.{Lighter, behind, input, path_meaning, predecessor}
use Rattle.search.specs.Quads.{branch_meaning, reached_meaning}
use Rattle.search.specs.declared.trellis_step.TrellisStep.{TrellisStep as TrellisStepInCode}
use Rattle.search.specs.declared.warm_up.WarmUpStep.{WarmUpStep}

-- A step: the weight of each branch by its outputs, and the path weights before it by their states.
pub record TrellisStep {V : Type 0} (s : Scale V) : Type 0 where
  pub branch : Outputs → s.Meaning
  pub before : ℕ → Option s.Meaning

-- the step in code once each state is reached, and that of the warm-up
abbrev pub trellis_step_of : {W V : Type 0} (s : Scale V) → TrellisStepInCode W V → TrellisStep s
trellis_step_of s step =
    record { branch = branch_meaning s step.branches; before = reached_meaning s step.paths }

abbrev pub warm_up_step_of : {W V : Type 0} {g : Ghosts W V} → WarmUpStep W V g
    → TrellisStep g.scale
warm_up_step_of {g = g} step = record {
  branch = branch_meaning g.scale step.branches;
  before = path_meaning g.scale step.paths.now;
}

module _ {V : Type 0} {s : Scale V} (step : TrellisStep s) where
  -- the path weight that comes to state k through its even or its odd predecessor
  unfoldable pub through : Bool → ℕ → Option s.Meaning
  through odd k =
      behind s (step.before (predecessor odd k))
      (step.branch (outputs (cells_of (predecessor odd k)) (input (predecessor odd k) k)))

  -- The survivor of state k: its weight comes through the predecessor that is named, and is the
  -- lighter of both.
  pub record Survives (weight : Option s.Meaning) (odd : Bool) (k : ℕ) : Type 0 where
    pub is : weight ≡ through odd k
    pub least : (other : Bool) → Lighter s weight (through other k)
