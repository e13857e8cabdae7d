-- Facts of the sixteen states, each by one computed test. Assumes nothing.
use Rattle.std.proofs.Common.{◌≡◌, ℕ, zero, suc, ◌<◌, Bool, true, false, ◌&&◌, eqb, List, ◌∷◌, length, get_or, sym, refl, ap, ◌∙◌, arith}
use mathlib.Core.Bool.{beq}
use Rattle.std.proofs.lemmas.Bool.{and_parts, eqb-true}
use Rattle.std.proofs.lemmas.List.{length-reverse}
use Rattle.block.specs.Bits.{bit, value}
use Rattle.block.proofs.Bools.{same_is}
use Rattle.block.proofs.Computed.{below}
use Rattle.code.specs.Register.{Cells, cells_of, next, state_of}
use Rattle.code.proofs.Steps.{cells_state}
use Rattle.search.specs.Paths.{input, named_predecessor, predecessor, survivor_path, traceback}

pub value_small : (b : Bool) → value b < 2
value_small true = omega arith
value_small false = omega arith

pub state_small : (m : Cells) → state_of m < 16
state_small m = omega (arith, value_small m.m1, value_small m.m2, value_small m.m3, value_small m.m4)

pub predecessor_small : (odd : Bool) (s : ℕ) → predecessor odd s < 16
unfolding predecessor
predecessor_small odd s = omega (arith, value_small odd)

-- the cells of a state tell its number
pub state_cells : (k : ℕ) → k < 16 → state_of (cells_of k) ≡ k
state_cells k h = eqb-true _ _ (below 16 (λ j. eqb (state_of (cells_of j)) j) refl k h)

-- each bit leads from the predecessor to the state
abbrev leads_test : Bool → ℕ → Bool
leads_test odd s = eqb (state_of (next (cells_of (predecessor odd s)) (input (predecessor odd s) s))) s

pub leads : (odd : Bool) (s : ℕ) → s < 16 → state_of (next (cells_of (predecessor odd s)) (input (predecessor odd s) s)) ≡ s
unfolding predecessor input
leads true s h = eqb-true _ _ (below 16 (leads_test true) refl s h)
leads false s h = eqb-true _ _ (below 16 (leads_test false) refl s h)

-- every step comes from one of the two predecessors, by its input
abbrev comes_test : Bool → ℕ → Bool
comes_test u p =
    eqb p (predecessor (bit 0 p) (state_of (next (cells_of p) u))) && beq u (input p (state_of (next (cells_of p) u)))

abbrev Comes : Bool → ℕ → Type 0
Comes u p = (p ≡ predecessor (bit 0 p) (state_of (next (cells_of p) u))) × (u ≡ input p (state_of (next (cells_of p) u)))

comes_at : (u : Bool) (p : ℕ) → comes_test u p ≡ true → Comes u p
comes_at u p t = let parts = and_parts _ _ t in (eqb-true _ _ parts.0, same_is _ _ parts.1)

comes : (u : Bool) (p : ℕ) → p < 16 → Comes u p
unfolding predecessor input
comes true p h = comes_at true p (below 16 (comes_test true) refl p h)
comes false p h = comes_at false p (below 16 (comes_test false) refl p h)

-- the same of the cells themselves
pub came_from : (m : Cells) (u : Bool) → (predecessor (bit 0 (state_of m)) (state_of (next m u)) ≡ state_of m) × (input (state_of m) (state_of (next m u)) ≡ u)
came_from m u =
    let c = comes u (state_of m) (state_small m) in
    let same = cells_state m in (
      sym (c.0 ∙ ap (λ x. predecessor (bit 0 (state_of m)) (state_of (next x u))) same),
      sym (c.1 ∙ ap (λ x. input (state_of m) (state_of (next x u))) same),
    )

-- a path that survivors give has as many bits as steps
pub length-survivor_path : (survivors : List ℕ) (t s : ℕ) → length (survivor_path survivors t s) ≡ t
length-survivor_path survivors zero s = refl
length-survivor_path survivors (suc t) s = ap suc (length-survivor_path survivors t _)

-- and so does it in the order of its bits
pub length-traceback : (survivors : List ℕ) (k : ℕ) → length (traceback survivors k) ≡ length survivors
length-traceback survivors k = length-reverse (survivor_path survivors (length survivors) k) ∙ length-survivor_path survivors (length survivors) k

-- it hangs on the words of those steps alone
pub survivor_path-same : (xs ys : List ℕ) (t k : ℕ) → ((j : ℕ) → j < t → get_or xs j 0 ≡ get_or ys j 0) → survivor_path xs t k ≡ survivor_path ys t k
survivor_path-same xs ys zero k same = refl
survivor_path-same xs ys (suc t) k same =
    ap (λ w. input (named_predecessor w k) k ∷ survivor_path xs t (named_predecessor w k)) (same t (omega arith))
    ∙ ap (λ rest. input (named_predecessor (get_or ys t 0) k) k ∷ rest) (survivor_path-same xs ys t _ (λ j h. same j (omega arith)))
