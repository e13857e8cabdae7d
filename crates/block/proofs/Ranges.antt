-- What a library method over a range of numbers says of each number in it. Assumes nothing.
use Rattle.std.proofs.Common.{◌+◌, ◌≡◌, ℕ, ◌<◌, Bool, true, false, length, get_or, Decides, MatchBool, refl, arith, subst, sym, ◌∙◌, zero, suc, ◌≤◌, List, Option, inl, inr}
use denote.Param.Members.{Mut}
use Rattle.std.specs.Array.{IsFromFnResult, IsFromFnResultFrom}
use Rattle.std.specs.Fn.{Called}
use Rattle.std.proofs.iter.Yields.{nat_range_steps}
use Rattle.std.specs.Iterator.{YieldsThen}
use Rattle.std.specs.List.{AllWithin, FoldsTo, HoldsAt, range_with_len}
use Rattle.std.specs.Option.{MatchOption}
use Rattle.std.specs.declared.ops.Range.{Range}
use Rattle.std.proofs.lemmas.Bool.{cases_eq, false≢true}
use Rattle.std.proofs.lemmas.Iterator.{YieldsList-from_range, cases_from_all}
use Rattle.std.proofs.lemmas.List.FromFn.{get_or-range_with_len, length-range_with_len}

there : (n i : ℕ) → i < n → get_or (range_with_len 0 n) i 0 ≡ i
there n i h = get_or-range_with_len 0 n i 0 h ∙ omega arith

decided : (r : Bool) (n : ℕ) (P : ℕ → Type 0)
    → MatchBool r (AllWithin P (range_with_len 0 n) 0 (length (range_with_len 0 n))) ((k : ℕ) × (k < length (range_with_len 0 n)) × HoldsAt (λ i. P i → ⊥) (range_with_len 0 n) k)
    → Decides r ((i : ℕ) → i < n → P i)
decided true n P each = (
  λ _ i h. subst P (there n i h) (each i 0 (omega arith) (omega (arith, length-range_with_len 0 n))),
  λ _. refl,
)
decided false n P some =
    let h : some.0 < n = omega (arith, length-range_with_len 0 n, some.1) in (
      λ e. absurd (false≢true e),
      λ all. absurd (some.2 0 (subst P (sym (there n some.0 h)) (all some.0 h))),
    )

-- `all` over the numbers below n, by its clause `ran`, where each answer of its test says P of the number or denies it
pub decides_below : {F : Type 0} {g : Mut F (ℕ × Unit {0}) Bool} {s : Range ℕ} (u : Range ℕ) (f : F) (r : Bool) (n : ℕ) (P : ℕ → Type 0)
    → s ≡ record { start = 0; end = n }
    → (xs : List ℕ) × (o : Option ℕ) × (j : F) × YieldsThen nat_range_steps s xs o u × FoldsTo (λ p x q. Called g p (x, tt) true q) f xs j
    × MatchOption o (r ≡ true) (λ x. (r ≡ false) × ((h : F) × Called g j (x, tt) false h))
    → ((x : ℕ) (q : F) → Called g f (x, tt) true q → (q ≡ f) × P x) → ((x : ℕ) (q : F) → Called g f (x, tt) false q → P x → ⊥)
    → Decides r ((i : ℕ) → i < n → P i)
decides_below u f r n P whole ran holds fails =
    decided r n P (cases_from_all u f r P (λ i. P i → ⊥) ran (YieldsList-from_range 0 n n whole (omega arith)) holds fails)

-- what `from_fn` gives, where its closure stays as it is and computes h
module _ {F B : Type 0} (g : Mut F (ℕ × Unit {0}) B) (f : F) (ys : List B) (h : ℕ → B) (d : B) where
  abbrev pub Computes : Type 0
  Computes = (i : ℕ) (r : B) (q : F) → Called g f (i, tt) r q → (q ≡ f) × (r ≡ h i)

  made : Computes → (m i : ℕ) → IsFromFnResultFrom g f ys i m → (k : ℕ) → i ≤ k → k < i + m → get_or ys k d ≡ h k
  made same zero i each k low high = absurd (omega arith)
  made same (suc m) i each k low high =
      let call = same i each.1 each.0 each.3 in
      elim (cases_eq i k) [
        | inl e ↦ subst (λ j. get_or ys j d ≡ h j) e (each.2.1 d ∙ call.1)
        | inr other ↦ made same m (i + 1) (subst (λ p. IsFromFnResultFrom g p ys (i + 1) m) call.0 each.4) k (omega arith) (omega arith)
      ]

  pub from_fn_at : (n : ℕ) → IsFromFnResult g f ys n → Computes → (i : ℕ) → i < n → get_or ys i d ≡ h i
  from_fn_at n all same i l = made same n 0 all.each i (omega arith) (omega arith)
