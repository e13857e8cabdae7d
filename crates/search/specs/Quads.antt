-- Values for each number of two bits and of four, and what the weights among them mean. Nothing
-- here is part of what the search promises. Assumes nothing.
use Rattle.std.specs.Prelude.{ℕ, Bool, cond, Some, Option}
use Rattle.code.specs.Register.{Cells, cells_of}
use Rattle.code.specs.declared.registers.Outputs.{Outputs}
use Rattle.weighing.specs.Scales.{Scale}
use Rattle.search.specs.declared.quads.Quad.{Quad}

-- the value for a number of two bits, and those for four cells and for four outputs
abbrev pub quad_at : {A : Type 0} → Bool → Bool → Quad A → A
quad_at high low all = cond high (cond low all.three all.two) (cond low all.one all.zero)

abbrev pub at_cells : {A : Type 0} → Quad (Quad A) → Cells → A
at_cells all m = quad_at m.m3 m.m4 (quad_at m.m1 m.m2 all)

abbrev pub at_outputs : {A : Type 0} → Quad (Quad A) → Outputs → A
at_outputs all v = quad_at v.v3 v.v4 (quad_at v.v1 v.v2 all)

module _ {V : Type 0} (s : Scale V) where
  -- what the path weights of the sixteen states mean, where each state is reached
  abbrev pub reached_meaning : Quad (Quad V) → ℕ → Option s.Meaning
  reached_meaning paths k = Some (s.mean (at_cells paths (cells_of k)))

  -- what the branch weights of a step by its outputs mean
  abbrev pub branch_meaning : Quad (Quad V) → Outputs → s.Meaning
  branch_meaning weights v = s.mean (at_outputs weights v)
