-- A message weighs nothing just where none of its parts does. Assumes nothing.
use Rattle.std.proofs.Common.{◌≡◌, ℕ, zero, suc, ◌+◌, ◌<◌, ◌≤◌, List, [], ◌∷◌, length, get_or, refl, ap, ◌∙◌, not-suc-le-zero, add-zero, zero-add, arith, lit≤}
use Rattle.code.specs.Register.{silent}
use Rattle.code.specs.declared.registers.Outputs.{Outputs}
use Rattle.weighing.specs.Scales.{Scale}
use Rattle.search.specs.Weights.{Sums, added, part}
use Rattle.search.proofs.Orders.{reflexive}

module _ {V : Type 0} (s : Scale V) (order : List ℕ) (n : ℕ) (sums : Sums s) where
  -- nothing is lighter than zero
  pub zero_least : (a : s.Meaning) → s.atmost s.zero a
  zero_least a = rw (s.laws.zero_left a) at (s.laws.first_within s.zero a)

  pub only_zero : (a : s.Meaning) → s.atmost a s.zero → a ≡ s.zero
  only_zero a h = s.laws.antisymmetric a s.zero h (zero_least a)

  abbrev step : s.Meaning → ℕ → Outputs → s.Meaning
  step w t v = s.plus (s.plus (s.plus (s.plus w (part s order n sums t v 1)) (part s order n sums t v 2)) (part s order n sums t v 3)) (part s order n sums t v 4)

  no_weight : (a : s.Meaning) → a ≡ s.zero → (w : s.Meaning) → s.plus w a ≡ w
  no_weight a e w = cc (s.laws.zero_right w)

  -- where no part weighs anything, nothing is added
  pub added_none : (vs : List Outputs) (w : s.Meaning) (t : ℕ)
      → ((i : ℕ) → i < length vs → (o : ℕ) → 1 ≤ o → o ≤ 4 → part s order n sums (t + i) (get_or vs i silent.outputs) o ≡ s.zero)
      → added s order n sums w t vs ≡ w
  added_none [] w t none = refl
  added_none (v ∷ vs) w t none =
      let here : (o : ℕ) → 1 ≤ o → o ≤ 4 → part s order n sums t v o ≡ s.zero = λ o low high. cc (add-zero t, none 0 (omega arith) o low high) in
      let same : step w t v ≡ w =
      no_weight _ (here 4 (lit≤ tt) (lit≤ tt)) _ ∙ no_weight _ (here 3 (lit≤ tt) (lit≤ tt)) _ ∙ no_weight _ (here 2 (lit≤ tt) (lit≤ tt)) _ ∙ no_weight _ (here 1 (lit≤ tt) (lit≤ tt)) w in
      ap (λ x. added s order n sums x (suc t) vs) same
      ∙ added_none vs w (suc t) (λ i h o low high. let on : t + suc i ≡ suc t + i = omega arith in cc (none (suc i) (omega arith) o low high))

  -- the first part of a step is within the step
  within_step : (w : s.Meaning) (t : ℕ) (v : Outputs) → s.atmost (s.plus w (part s order n sums t v 1)) (step w t v)
  within_step w t v = s.laws.transitive _ _ _ (s.laws.first_within _ _) (s.laws.transitive _ _ _ (s.laws.first_within _ _) (s.laws.first_within _ _))

  -- what is added to is within what comes of it
  within : (vs : List Outputs) (w : s.Meaning) (t : ℕ) → s.atmost w (added s order n sums w t vs)
  within [] w t = reflexive s w
  within (v ∷ vs) w t =
      let trans = s.laws.transitive in
      trans w (step w t v) _ (trans _ _ _ (s.laws.first_within _ _) (within_step w t v)) (within vs (step w t v) (suc t))

  -- and so is output 1 of each step
  first_within : (vs : List Outputs) (w : s.Meaning) (t i : ℕ) → i < length vs → s.atmost (part s order n sums (t + i) (get_or vs i silent.outputs) 1) (added s order n sums w t vs)
  first_within [] w t i h = absurd (not-suc-le-zero h)
  first_within (v ∷ vs) w t zero h =
      let trans = s.laws.transitive in
      rw (add-zero t) (trans _ (step w t v) _ (trans _ _ _ (s.laws.second_within w _) (within_step w t v)) (within vs (step w t v) (suc t)))
  first_within (v ∷ vs) w t (suc i) h =
      let on : suc t + i ≡ t + suc i = omega arith in
      rw on at (first_within vs (step w t v) (suc t) i (omega arith))

  -- so where the whole weighs nothing, neither does output 1 of any step
  pub first_zero : (vs : List Outputs) (i : ℕ) → i < length vs → added s order n sums s.zero 0 vs ≡ s.zero → part s order n sums i (get_or vs i silent.outputs) 1 ≡ s.zero
  first_zero vs i h none =
      only_zero _ (rw (zero-add i, none) at (first_within vs s.zero 0 i h))
