-- A message weighs at least as much where each place does. Assumes nothing.
use Rattle.std.proofs.Common.{◌≡◌, ℕ, zero, suc, ◌+◌, ◌-◌, ◌*◌, ◌/◌, ◌%◌, ◌<◌, ◌≤◌, Bool, true, false, cond, eqb, List, [], ◌∷◌, length, sym, subst, arith, lit≤}
use Rattle.std.proofs.lemmas.Bool.{ne_eqb}
use Rattle.code.specs.Columns.{index_of, is_order}
use Rattle.code.specs.Places.{output, place_of}
use Rattle.code.specs.Register.{cleared, coded, with_tail}
use Rattle.code.specs.declared.registers.Outputs.{Outputs}
use Rattle.code.proofs.Runs.{trace_length}
use Rattle.weighing.specs.Scales.{Scale}
use Rattle.search.specs.Weights.{Sums, added, part, weight}
use Rattle.search.proofs.Bridge.{with_tail_length}
use Rattle.search.proofs.Orders.{reflexive}
use Rattle.search.proofs.Placing.{column_ends}

-- each output of a step stands within the buffer
pub place_small : (order : List ℕ) → is_order order ≡ true → (n o t : ℕ) → 1 ≤ o → o ≤ 4 → t < 8 * n → place_of order n o t < 32 * n
unfolding place_of
place_small order is n zero t low high h = elim low [ ]
place_small order is n (suc zero) t low high h = omega arith
place_small order is n (suc (suc o)) t low high h =
    let a = 8 * (suc (suc o) - 2) + t % 8 in
    let later : eqb (suc (suc o)) 1 ≡ false = ne_eqb _ 1 (λ e. omega arith) in
    let within = column_ends order is n a (omega arith) in
    subst (λ b. cond b t (8 * n + n * index_of a order + t / 8) < 32 * n) (sym later) (omega arith)

module _ {V : Type 0} (s : Scale V) (order : List ℕ) (is : is_order order ≡ true) (n : ℕ) (few more : Sums s)
    (grows : (p : ℕ) (b : Bool) → p < 32 * n → s.atmost (few p b) (more p b)) where
  part_grows : (t : ℕ) (v : Outputs) (o : ℕ) → 1 ≤ o → o ≤ 4 → t < 8 * n → s.atmost (part s order n few t v o) (part s order n more t v o)
  unfolding part
  part_grows t v o low high h = grows (place_of order n o t) (output o v) (place_small order is n o t low high h)

  -- a sum grows with both its parts
  plus_grows : (a b c d : s.Meaning) → s.atmost a b → s.atmost c d → s.atmost (s.plus a c) (s.plus b d)
  plus_grows a b c d p q = s.laws.transitive _ (s.plus b c) _ (s.laws.monotone_left a b c p) (s.laws.monotone_right c d b q)

  added_grows : (vs : List Outputs) (w x : s.Meaning) (t : ℕ) → s.atmost w x → t + length vs ≤ 8 * n → s.atmost (added s order n few w t vs) (added s order n more x t vs)
  added_grows [] w x t le h = le
  added_grows (v ∷ vs) w x t le h =
      let in_steps : t < 8 * n = omega arith in
      let step = part_grows t v in
      added_grows vs _ _ (suc t)
      (plus_grows _ _ _ _ (plus_grows _ _ _ _ (plus_grows _ _ _ _ (plus_grows _ _ _ _ le (step 1 (lit≤ tt) (lit≤ tt) in_steps)) (step 2 (lit≤ tt) (lit≤ tt) in_steps)) (step 3 (lit≤ tt) (lit≤ tt) in_steps)) (step 4 (lit≤ tt) (lit≤ tt) in_steps))
      (omega arith)

  pub weight_grows : (message : List Bool) → length message + 4 ≤ 8 * n → s.atmost (weight s order n few message) (weight s order n more message)
  unfolding weight
  weight_grows message h = added_grows (coded message) s.zero s.zero 0 (reflexive s s.zero) (omega (arith, trace_length cleared (with_tail message), with_tail_length message))

-- so where each place weighs the same, each message does
pub weight_same : {V : Type 0} (s : Scale V) (order : List ℕ) → is_order order ≡ true → (n : ℕ) (one other : Sums s)
    → ((p : ℕ) (b : Bool) → p < 32 * n → one p b ≡ other p b) → (message : List Bool) → length message + 4 ≤ 8 * n
    → weight s order n one message ≡ weight s order n other message
weight_same s order is n one other same message h =
    s.laws.antisymmetric _ _
    (weight_grows s order is n one other (λ p b l. subst (s.atmost (one p b)) (same p b l) (reflexive s (one p b))) message h)
    (weight_grows s order is n other one (λ p b l. subst (s.atmost (other p b)) (sym (same p b l)) (reflexive s (other p b))) message h)
