-- The rule of the table of steps, by one test that is computed over all of them. Assumes nothing.
use Rattle.std.proofs.Common.{◌≡◌, ℕ, ◌+◌, ◌*◌, ◌%◌, ◌<◌, Bool, true, false, ◌&&◌, List, get_or, refl}
use mathlib.Core.Bool.{beq}
use mir.Val.{bool_byte}
use Rattle.std.proofs.lemmas.Bool.{and_parts, eqb-true}
use Rattle.block.proofs.Bools.{same_is}
use Rattle.block.proofs.Computed.{below}
use Rattle.code.specs.Register.{Cells, cells_of, state_of, next, outputs, same_outputs, is_step, both_steps, follows_rule, silent}
use Rattle.code.specs.declared.registers.Outputs.{Outputs}
use Rattle.code.specs.declared.trellis.Step.{Step}

same_outputs_is : (x y : Outputs) → same_outputs x y ≡ true → x ≡ y
same_outputs_is x y e =
    let a = and_parts _ _ e in
    let b = and_parts _ _ a.1 in
    let c = and_parts _ _ b.1 in
    let p = same_is _ _ a.0 in
    let q = same_is _ _ b.0 in
    let r = same_is _ _ c.0 in
    let s = same_is _ _ c.1 in
    λ i. record { v1 = p i; v2 = q i; v3 = r i; v4 = s i }

-- what a table that follows the rule holds
module _ (table : List Step) (test : follows_rule table ≡ true) (s : ℕ) (h : s < 16) where
  entry : (u : Bool) → is_step (get_or table (2 * s + bool_byte u) silent) s u ≡ true
  unfolding follows_rule
  entry true = (and_parts (is_step (get_or table (2 * s + 0) silent) s false) _ (below 16 (both_steps table) test s h)).1
  entry false = (and_parts _ (is_step (get_or table (2 * s + 1) silent) s true) (below 16 (both_steps table) test s h)).0

  pub table_outputs : (u : Bool) → (get_or table (2 * s + bool_byte u) silent).outputs ≡ outputs (cells_of s) u
  table_outputs u = same_outputs_is _ _ (and_parts _ _ (entry u)).0

  pub table_next : (u : Bool) → (get_or table (2 * s + bool_byte u) silent).next ≡ state_of (next (cells_of s) u)
  table_next u = eqb-true _ _ (and_parts _ _ (entry u)).1

-- a state's number tells its cells
from_number : (a b c d : Bool) → let m : Cells = record { m1 = a; m2 = b; m3 = c; m4 = d } in cells_of (state_of m) ≡ m
from_number false false false false = refl
from_number false false false true = refl
from_number false false true false = refl
from_number false false true true = refl
from_number false true false false = refl
from_number false true false true = refl
from_number false true true false = refl
from_number false true true true = refl
from_number true false false false = refl
from_number true false false true = refl
from_number true false true false = refl
from_number true false true true = refl
from_number true true false false = refl
from_number true true false true = refl
from_number true true true false = refl
from_number true true true true = refl

pub cells_state : (m : Cells) → cells_of (state_of m) ≡ m
cells_state m = from_number m.m1 m.m2 m.m3 m.m4

same_cells : Cells → Cells → Bool
same_cells x y = beq x.m1 y.m1 && (beq x.m2 y.m2 && (beq x.m3 y.m3 && beq x.m4 y.m4))

same_cells_is : (x y : Cells) → same_cells x y ≡ true → x ≡ y
unfolding same_cells
same_cells_is x y e =
    let a = and_parts _ _ e in
    let b = and_parts _ _ a.1 in
    let c = and_parts _ _ b.1 in
    let p = same_is _ _ a.0 in
    let q = same_is _ _ b.0 in
    let r = same_is _ _ c.0 in
    let s = same_is _ _ c.1 in
    λ i. record { m1 = p i; m2 = q i; m3 = r i; m4 = s i }

-- the cells of an octet are those of its low four bits
pub low_cells : (s : ℕ) → s < 256 → cells_of (s % 16) ≡ cells_of s
unfolding same_cells
low_cells s h = same_cells_is _ _ (below 256 (λ k. same_cells (cells_of (k % 16)) (cells_of k)) refl s h)
