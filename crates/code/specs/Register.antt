-- The shift register of the code, by its rule. Assumes nothing.
use Rattle.std.specs.Prelude.{ℕ, zero, suc, ◌+◌, ◌*◌, Bool, true, false, not, ◌&&◌, List, [], ◌∷◌}
use Rattle.std.specs.Prelude.{◌++◌, fold, ◌==◌, slice_index_or}
use Rattle.std.specs.Bool.{beq}
use Rattle.block.specs.Bits.{bit, value}
use Rattle.block.specs.Computed.{passes}
use Rattle.code.specs.declared.registers.Outputs.{Outputs}
use Rattle.code.specs.declared.registers.Register.{Register}
use Rattle.code.specs.declared.trellis.Step.{Step}

infixr 65 ◌⊕◌
-- the sum modulo 2
abbrev pub ◌⊕◌ : Bool → Bool → Bool
true ⊕ b = not b
false ⊕ b = b

-- the four cells m1 to m4
pub record Cells : Type 0 where
  pub m1 : Bool
  pub m2 : Bool
  pub m3 : Bool
  pub m4 : Bool

-- a register begins with every cell 0
abbrev pub cleared : Cells
cleared = record { m1 = false; m2 = false; m3 = false; m4 = false }

abbrev pub feedback : Cells → Bool
feedback m = m.m4 ⊕ m.m2 ⊕ m.m1

-- what the register answers to the bit u
abbrev pub outputs : Cells → Bool → Outputs
outputs m u = record {
  v1 = u;
  v2 = m.m3 ⊕ m.m2 ⊕ m.m1 ⊕ u;
  v3 = m.m3 ⊕ m.m1 ⊕ u;
  v4 = m.m3 ⊕ m.m2 ⊕ u;
}

-- the cells after the bit u
abbrev pub next : Cells → Bool → Cells
next m u = record { m1 = u ⊕ feedback m; m2 = m.m1; m3 = m.m2; m4 = m.m3 }

-- a state's number: m1 counts 8, m2 4, m3 2 and m4 1
abbrev pub state_of : Cells → ℕ
state_of m = 8 * value m.m1 + 4 * value m.m2 + 2 * value m.m3 + value m.m4

abbrev pub cells_of : ℕ → Cells
cells_of s = record { m1 = bit 3 s; m2 = bit 2 s; m3 = bit 1 s; m4 = bit 0 s }

abbrev pub cells : Register → Cells
cells r = cells_of r.state

-- the cells after a row of bits
abbrev pub after : Cells → List Bool → Cells
after m bits = fold next m bits

-- what the register answers to each of a row of bits
abbrev pub trace : Cells → List Bool → List Outputs
trace m [] = []
trace m (u ∷ us) = outputs m u ∷ trace (next m u) us

-- n bits, each the feedback of its moment
abbrev pub closing : ℕ → Cells → List Bool
closing zero m = []
closing (suc n) m = feedback m ∷ closing n (next m (feedback m))

-- the four tail bits, after which every cell is 0
abbrev pub tail : Cells → List Bool
tail m = closing 4 m

-- a message's bits and its tail, which is fixed by them
abbrev pub with_tail : List Bool → List Bool
with_tail message = message ++ tail (after cleared message)

-- the outputs of all steps of a message
abbrev pub coded : List Bool → List Outputs
coded message = trace cleared (with_tail message)

abbrev pub same_outputs : Outputs → Outputs → Bool
same_outputs x y =
    beq x.v1 y.v1 && (beq x.v2 y.v2 && (beq x.v3 y.v3 && beq x.v4 y.v4))

-- an entry of a table of steps is the register's step from state s at the bit u
abbrev pub is_step : Step → ℕ → Bool → Bool
is_step x s u =
    same_outputs x.outputs (outputs (cells_of s) u) && x.next == state_of (next (cells_of s) u)

-- what stands where a table has no entry
abbrev pub silent : Step
silent = record { outputs = record { v1 = false; v2 = false; v3 = false; v4 = false }; next = 0 }

abbrev pub both_steps : List Step → ℕ → Bool
both_steps table s =
    is_step (slice_index_or table (2 * s + 0) silent) s false
    && is_step (slice_index_or table (2 * s + 1) silent) s true

-- entry 2 * s + u of a table is the step from state s at the bit u, for each of the 16 states
unfoldable pub follows_rule : List Step → Bool
follows_rule table = passes 16 (both_steps table)
