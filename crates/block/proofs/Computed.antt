-- A rule that holds at every number below n, by one test that is computed. Assumes nothing.
use Rattle.std.proofs.Common.{◌≡◌, ℕ, zero, suc, ◌<◌, Bool, true, subst, inl, inr, not-suc-le-zero, arith}
use Rattle.block.specs.Computed.{passes}
use Rattle.std.proofs.lemmas.Bool.{cases_eq, and_parts}

pub below : (n : ℕ) (f : ℕ → Bool) → passes n f ≡ true → (k : ℕ) → k < n → f k ≡ true
below zero f t k h = absurd (not-suc-le-zero h)
below (suc n) f t k h =
    elim (cases_eq n k) [
      | inl e ↦ subst (λ (m : ℕ). f m ≡ true) e (and_parts (f n) (passes n f) t).0
      | inr d ↦ below n f (and_parts (f n) (passes n f) t).1 k (omega arith)
    ]
