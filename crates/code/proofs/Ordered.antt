-- Laws of column orders. Assumes nothing.
use Rattle.std.proofs.Common.{Bool, Decides, MatchBool, ◌≡◌, ℕ, zero, suc, ◌+◌, ◌<◌, ◌≤◌, true, false, cond, ◌&&◌, eqb, ltb, List, [], ◌∷◌, length, get_or, sym, refl, ap, ◌∙◌, inl, inr, suc-le-suc, zero-le, le_of_suc-le-suc, not-suc-le-zero, one-add, arith}
use Rattle.std.proofs.lemmas.Bool.{eq-eqb, ne_eqb, eqb-true, ltb-true, lt-ltb, and_parts, and_from, cases_eq, cases_Bool}
use Rattle.std.specs.List.{AllWithin, HoldsAt}
use Rattle.code.specs.Columns.{all_below, count_of, each_once, index_of, is_order}

pub count_here : (a c : ℕ) (cs : List ℕ) → c ≡ a → count_of a (c ∷ cs) ≡ 1 + count_of a cs
count_here a c cs e = ap (λ b. cond b 1 0 + count_of a cs) (eq-eqb c a e)

pub count_not_here : (a c : ℕ) (cs : List ℕ) → (c ≡ a → ⊥) → count_of a (c ∷ cs) ≡ 0 + count_of a cs
count_not_here a c cs d = ap (λ b. cond b 1 0 + count_of a cs) (ne_eqb c a d)

pub index_here : (a c : ℕ) (cs : List ℕ) → c ≡ a → index_of a (c ∷ cs) ≡ 0
index_here a c cs e = ap (λ b. cond b 0 (1 + index_of a cs)) (eq-eqb c a e)

pub index_later : (a c : ℕ) (cs : List ℕ) → (c ≡ a → ⊥) → index_of a (c ∷ cs) ≡ 1 + index_of a cs
index_later a c cs d = ap (λ b. cond b 0 (1 + index_of a cs)) (ne_eqb c a d)

-- a column that is counted stands at its index
pub counted_index : (a : ℕ) (cs : List ℕ) → 0 < count_of a cs → (index_of a cs < length cs) × (get_or cs (index_of a cs) 0 ≡ a)
counted_index a [] h = absurd (not-suc-le-zero h)
counted_index a (c ∷ cs) h =
    elim (cases_eq c a) [
      | inl e ↦ (omega (arith, index_here a c cs e), ap (λ i. get_or (c ∷ cs) i 0) (index_here a c cs e) ∙ e)
      | inr d ↦
          let later = index_later a c cs d in
          let rest = counted_index a cs (omega (arith, count_not_here a c cs d)) in
          (omega (arith, later, rest.0), ap (λ i. get_or (c ∷ cs) i 0) (later ∙ one-add (index_of a cs)) ∙ rest.1)
    ]

pub each_once_at : (n : ℕ) (cs : List ℕ) → each_once n cs ≡ true → (a : ℕ) → a < n → count_of a cs ≡ 1
each_once_at zero cs all a h = absurd (not-suc-le-zero h)
each_once_at (suc n) cs all a h =
    let parts = and_parts (eqb (count_of n cs) 1) (each_once n cs) all in
    elim (cases_eq n a) [
      | inl e ↦ sym (ap (λ m. count_of m cs) e) ∙ eqb-true _ _ parts.0
      | inr d ↦ each_once_at n cs parts.1 a (omega arith)
    ]

pub each_once_since : (n : ℕ) (cs : List ℕ) → ((a : ℕ) → a < n → count_of a cs ≡ 1) → each_once n cs ≡ true
each_once_since zero cs all = refl
each_once_since (suc n) cs all = and_from _ _ (eq-eqb _ _ (all n (omega arith))) (each_once_since n cs (λ a h. all a (omega arith)))

-- a test that decides whether each number below n stands in the list once
pub each_once_is : (n : ℕ) (cs : List ℕ) (r : Bool) → Decides r ((a : ℕ) → a < n → count_of a cs ≡ 1) → r ≡ each_once n cs
each_once_is n cs true d = sym (each_once_since n cs (d.0 refl))
each_once_is n cs false d =
    elim (cases_Bool (each_once n cs)) [
      | inl all ↦ d.1 (each_once_at n cs all) ∙ sym all
      | inr not ↦ sym not
    ]

pub all_below_more : (n c : ℕ) (cs : List ℕ) → all_below n (c ∷ cs) ≡ true → (c < n) × (all_below n cs ≡ true)
all_below_more n c cs h =
    let parts = and_parts (ltb c n) (all_below n cs) h in
    (ltb-true c n parts.0, parts.1)

pub all_below_at : (n : ℕ) (cs : List ℕ) → all_below n cs ≡ true → (i : ℕ) → i < length cs → get_or cs i 0 < n
all_below_at n [] all i h = absurd (not-suc-le-zero h)
all_below_at n (c ∷ cs) all zero h = (all_below_more n c cs all).0
all_below_at n (c ∷ cs) all (suc i) h = all_below_at n cs (all_below_more n c cs all).1 i (le_of_suc-le-suc h)

pub all_below_since : (n : ℕ) (cs : List ℕ) → ((i : ℕ) → i < length cs → get_or cs i 0 < n) → all_below n cs ≡ true
all_below_since n [] each = refl
all_below_since n (c ∷ cs) each =
    and_from _ _ (lt-ltb c n (each 0 (suc-le-suc zero-le))) (all_below_since n cs (λ i h. each (suc i) (suc-le-suc h)))

-- a test of each number of the list
pub all_below_is : (n : ℕ) (cs : List ℕ) (r : Bool) → MatchBool r (AllWithin (λ x. x < n) cs 0 (length cs)) ((k : ℕ) × (k < length cs) × HoldsAt (λ x. n ≤ x) cs k) → r ≡ all_below n cs
all_below_is n cs true each = sym (all_below_since n cs (λ i h. each i 0 zero-le h))
all_below_is n cs false some =
    elim (cases_Bool (all_below n cs)) [
      | inl all ↦ absurd (let small = all_below_at n cs all some.0 some.1 in let big = some.2 0 in omega arith)
      | inr not ↦ sym not
    ]

-- an order has 24 columns, each below 24, and each number below 24 once
module _ (cs : List ℕ) (h : is_order cs ≡ true) where
  parts : (eqb (length cs) 24 ≡ true) × ((all_below 24 cs && each_once 24 cs) ≡ true)
  unfolding is_order
  parts = and_parts (eqb (length cs) 24) (all_below 24 cs && each_once 24 cs) h

  pub order_length : length cs ≡ 24
  order_length = eqb-true _ _ parts.0

  pub order_once : (a : ℕ) → a < 24 → count_of a cs ≡ 1
  order_once = each_once_at 24 cs (and_parts _ (each_once 24 cs) parts.1).1

  -- each column stands at an index below 24
  pub order_index : (a : ℕ) → a < 24 → (index_of a cs < 24) × (get_or cs (index_of a cs) 0 ≡ a)
  order_index a l =
      let found = counted_index a cs (omega (arith, order_once a l)) in
      (omega (arith, found.0, order_length), found.1)

-- what lists no 24 numbers is no order
pub not_order : (cs : List ℕ) → (length cs ≡ 24 → ⊥) → is_order cs ≡ false
not_order cs d =
    elim (cases_Bool (is_order cs)) [
      | inl all ↦ absurd (d (order_length cs all))
      | inr not ↦ not
    ]
