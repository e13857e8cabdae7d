-- The sums of bits that are heard once each, in the order of their places. Assumes nothing.
use Rattle.std.proofs.Common.{◌≡◌, ℕ, zero, suc, ◌+◌, ◌%◌, ◌<◌, ◌≤◌, Bool, true, false, cond, eqb, ◌⊎◌, List, ◌∷◌, map, refl, ap, ◌∙◌, inl, inr, mod-eq_of_lt, add-one, arith}
use Rattle.std.specs.List.{range_with_len}
use Rattle.std.proofs.lemmas.Bool.{cases_eq, eq-eqb, ne_eqb}
use Rattle.block.specs.Bits.{value}
use Rattle.weighing.specs.Hard.{hard_alphabet, hard_weight}
use Rattle.weighing.specs.Scales.{counted}
use Rattle.weighing.specs.declared.hard.HardSymbol.TheVariants.{Bit}
use Rattle.sheet.specs.Books.{laid, sum_behind}

abbrev Weight : Type 0
Weight = counted.Meaning

-- what a bit that came weighs against a bit
abbrev pub weighs : Bool → Bool → Weight
weighs came b = counted.mean (hard_weight (Bit came) b)

-- a bit against itself weighs nothing, and only against itself
pub weighs_own : (b : Bool) → weighs b b ≡ counted.zero
weighs_own true = refl
weighs_own false = refl

one_not_zero : counted.mean 1 ≡ counted.zero → ⊥
one_not_zero e = let n : ◌≡◌ {A = ℕ} 1 0 = ap (λ (x : Weight). x.value) e in omega arith

pub own_weighs : (came b : Bool) → weighs came b ≡ counted.zero → b ≡ came
own_weighs true true e = refl
own_weighs true false e = absurd (one_not_zero e)
own_weighs false true e = absurd (one_not_zero e)
own_weighs false false e = refl

laid_bit : (places q : ℕ) (b : Bool) (xs : List ℕ) → laid hard_alphabet places q (value b ∷ xs) ≡ (q % places, Bit b) ∷ laid hard_alphabet places (suc q) xs
laid_bit places q true xs = refl
laid_bit places q false xs = refl

module _ (places : ℕ) (f : ℕ → Bool) (p : ℕ) (b : Bool) where
  -- the symbols of the places from q on, m of them
  abbrev symbols : ℕ → ℕ → List ℕ
  symbols q m = map value (map f (range_with_len q m))

  abbrev sum : Weight → ℕ → ℕ → Weight
  sum w q m = sum_behind hard_alphabet counted w p b (laid hard_alphabet places q (symbols q m))

  -- one symbol, and then the rest
  sum_more : (w : Weight) (q m : ℕ) → q < places → sum w q (suc m) ≡ sum (cond (eqb q p) (counted.plus w (weighs (f q) b)) w) (suc q) m
  sum_more w q m h =
      ap (sum_behind hard_alphabet counted w p b) (laid_bit places q (f q) (map value (map f (range_with_len (q + 1) m))))
      ∙ (λ i. sum_behind hard_alphabet counted (cond (eqb (mod-eq_of_lt h i) p) (counted.plus w (weighs (f q) b)) w) p b (laid hard_alphabet places (suc q) (map value (map f (range_with_len (add-one q i) m)))))

  -- a place that is not among them keeps its weight
  pub sum_miss : (m : ℕ) (w : Weight) (q : ℕ) → q + m ≤ places → (p < q) ⊎ (q + m ≤ p) → sum w q m ≡ w
  sum_miss zero w q h out = refl
  sum_miss (suc m) w q h out =
      let apart : q ≡ p → ⊥ = λ e. elim out [ inl x ↦ omega arith | inr x ↦ omega arith ] in
      let next : (p < suc q) ⊎ (suc q + m ≤ p) = elim out [ inl x ↦ inl (omega arith) | inr x ↦ inr (omega arith) ] in
      cc (sum_more w q m (omega arith), ne_eqb q p apart, sum_miss m w (suc q) (omega arith) next)

  -- one that is among them has its own symbol added
  pub sum_hit : (m : ℕ) (w : Weight) (q : ℕ) → q + m ≤ places → q ≤ p → p < q + m → sum w q m ≡ counted.plus w (weighs (f p) b)
  sum_hit zero w q h low high = absurd (omega arith)
  sum_hit (suc m) w q h low high =
      elim (cases_eq q p) [
        | inl e ↦ cc (sum_more w q m (omega arith), eq-eqb q p e, sum_miss m (counted.plus w (weighs (f q) b)) (suc q) (omega arith) (inl (omega arith)))
        | inr d ↦ cc (sum_more w q m (omega arith), ne_eqb q p d, sum_hit m w (suc q) (omega arith) (omega arith) (omega arith))
      ]
