-- Laying one octet more, and laying in two rows. Assumes nothing.
use Rattle.std.proofs.Common.{◌≡◌, ℕ, suc, ◌+◌, ◌-◌, ◌%◌, ◌<◌, min, Bool, true, false, cond, eqb, inl, inr, List, [], ◌∷◌, ◌++◌, length, get_or, take, drop, set, Some, None, Option, sym, refl, ap, ◌∙◌, add-zero, le_of_lt, arith}
use Rattle.std.proofs.Math.ListN.{drop_of_length-le}
use Rattle.std.proofs.Math.Nat.{add-mod_left, min-eq_left, min-eq_right}
use Rattle.std.proofs.lemmas.List.{append_assoc, at_drop_more, length-set, length-take-le, take-append-drop}
use Rattle.std.proofs.lemmas.Bool.{cases_lt, eqb-true}
use Rattle.weighing.specs.Alphabets.{Alphabet}
use Rattle.weighing.specs.Scales.{Scale}
use Rattle.search.specs.Weights.{entry_sums, side}
use Rattle.search.specs.declared.Entry.{Entry}
use Rattle.sheet.specs.Books.{laid, sum_behind}
use Rattle.sheet.specs.Laying.{LaysOn, laid_on}
use Rattle.sheet.proofs.Sums.{sums_set, sums_there}

module _ {A V : Type 0} (a : Alphabet A V) where
  -- what one octet lays at a place, by what it reads as
  abbrev one_at : ℕ → Option A → List (ℕ × A)
  one_at place o = elim o [ None ↦ [] | Some symbol ↦ (place, symbol) ∷ [] ]

  one_by : (o : Option A) (q : ℕ) (rest : List (ℕ × A)) → elim o [ None ↦ rest | Some symbol ↦ (q, symbol) ∷ rest ] ≡ one_at q o ++ rest
  one_by None q rest = refl
  one_by (Some symbol) q rest = refl

  laid_one : (places k x : ℕ) (xs : List ℕ) → laid a places k (x ∷ xs) ≡ one_at (k % places) (a.reads x) ++ laid a places (suc k) xs
  laid_one places k x xs = one_by (a.reads x) (k % places) (laid a places (suc k) xs)

  -- octets of two lists, one behind the other
  laid_append : (places k : ℕ) (xs ys : List ℕ) → laid a places k (xs ++ ys) ≡ laid a places k xs ++ laid a places (k + length xs) ys
  laid_append places k [] ys = ap (λ n. laid a places n ys) (sym (add-zero k))
  laid_append places k (x ∷ xs) ys =
      let on : suc k + length xs ≡ k + length (x ∷ xs) = omega arith in
      let here = one_at (k % places) (a.reads x) in
      laid_one places k x (xs ++ ys)
      ∙ ap (λ more. here ++ more) (laid_append places (suc k) xs ys ∙ ap (λ n. laid a places (suc k) xs ++ laid a places n ys) on)
      ∙ sym (append_assoc here (laid a places (suc k) xs) (laid a places (k + length (x ∷ xs)) ys))
      ∙ ap (λ front. front ++ laid a places (k + length (x ∷ xs)) ys) (sym (laid_one places k x xs))

  -- a round later the places are the same
  laid_round : (places k : ℕ) (xs : List ℕ) → laid a places (places + k) xs ≡ laid a places k xs
  laid_round places k [] = refl
  laid_round places k (x ∷ xs) =
      let on : suc (places + k) ≡ places + suc k = omega arith in
      let later = ap (λ n. laid a places n xs) on ∙ laid_round places (suc k) xs in
      laid_one places (places + k) x xs ∙ (λ i. one_at (add-mod_left places k i) (a.reads x) ++ later i) ∙ sym (laid_one places k x xs)

  -- what is left behind the last place begins at the first
  starts_over : (places first m : ℕ) (octets : List ℕ) → first < places → m ≡ min (length octets) (places - first)
      → laid a places (first + length (take m octets)) (drop m octets) ≡ laid a places 0 (drop m octets)
  starts_over places first m octets within least =
      elim (cases_lt (length octets) (places - first)) [
        | inl h ↦
            let all = least ∙ min-eq_left (le_of_lt h) in
            let none = drop_of_length-le octets (omega (arith, all)) in
            ap (laid a places (first + length (take m octets))) none ∙ sym (ap (laid a places 0) none)
        | inr h ↦
            let some = least ∙ min-eq_right h in
            let taken = length-take-le m octets (omega (arith, some, h)) in
            let there : first + length (take m octets) ≡ places + 0 = omega (arith, taken, some, within) in
            ap (λ n. laid a places n (drop m octets)) there ∙ laid_round places 0 (drop m octets)
      ]

  module _ (s : Scale V) where
    -- more symbols are added behind those before
    pub sum_append : (w : s.Meaning) (p : ℕ) (b : Bool) (xs ys : List (ℕ × A))
        → sum_behind a s w p b (xs ++ ys) ≡ sum_behind a s (sum_behind a s w p b xs) p b ys
    sum_append w p b [] ys = refl
    sum_append w p b (x ∷ xs) ys = sum_append (cond (eqb x.0 p) (s.plus w (s.mean (a.against x.1 b))) w) p b xs ys

    -- a weight at the place that is written, by whether it is the place asked for
    there : (t : Bool) (w here : s.Meaning) (place p : ℕ) (b : Bool) (o : Option A) → (t ≡ true → here ≡ w) → t ≡ eqb place p
        → cond t (laid_on a s here b o) w ≡ sum_behind a s w p b (one_at place o)
    there true w here place p b None same e = same refl
    there false w here place p b None same e = refl
    there true w here place p b (Some symbol) same e = ap (λ v. s.plus v (s.mean (a.against symbol b))) (same refl) ∙ ap (λ t. cond t (s.plus w (s.mean (a.against symbol b))) w) e
    there false w here place p b (Some symbol) same e = ap (λ t. cond t (s.plus w (s.mean (a.against symbol b))) w) e

    -- an octet is laid at a place
    lays_at : (tally : List (Entry V)) (place x : ℕ) (entry d : Entry V) → place < length tally
        → ((b : Bool) → s.mean (side b entry) ≡ laid_on a s (s.mean (side b (get_or tally place d))) b (a.reads x))
        → (p : ℕ) (b : Bool) → entry_sums s (set tally place entry) p b ≡ sum_behind a s (entry_sums s tally p b) p b (one_at place (a.reads x))
    lays_at tally place x entry d h laying p b =
        sums_set s tally place entry h p b
        ∙ ap (λ w. cond (eqb place p) w (entry_sums s tally p b)) (laying b ∙ ap (λ w. laid_on a s w b (a.reads x)) (sums_there s tally place d h b))
        ∙ there (eqb place p) (entry_sums s tally p b) (entry_sums s tally place b) place p b (a.reads x) (λ e. ap (λ k. entry_sums s tally k b) (eqb-true place p e)) refl

    -- After the first i octets: what is left, laid from here on, gives the sums that all give from the start.
    pub record Laying (first : ℕ) (octets : List ℕ) (before : List (Entry V)) (i : ℕ) (tally : List (Entry V)) : Type 0 where
      pub long : length tally ≡ length before
      pub sums : (p : ℕ) (b : Bool)
          → sum_behind a s (entry_sums s tally p b) p b (laid a (length before) (first + i) (drop i octets))
          ≡ sum_behind a s (entry_sums s before p b) p b (laid a (length before) first octets)

    module _ (first : ℕ) (octets : List ℕ) (before : List (Entry V)) where
      pub laying_more : (i place : ℕ) (tally : List (Entry V)) (entry d : Entry V) → i < length octets → Laying first octets before i tally
          → place < length tally → place ≡ (first + i) % length before
          → ((b : Bool) → s.mean (side b entry) ≡ laid_on a s (s.mean (side b (get_or tally place d))) b (a.reads (get_or octets i 0)))
          → Laying first octets before (i + 1) (set tally place entry)
      laying_more i place tally entry d h so within at laying =
          let places = length before in
          let k = first + i in
          let on : suc k ≡ first + (i + 1) = omega arith in
          record {
            long = length-set tally place entry ∙ so.long;
            sums = λ p b.
                let x = get_or octets i 0 in
                let xs = drop (i + 1) octets in
                let w = entry_sums s tally p b in
                let left = laid a places (suc k) xs in
                ap (λ m. sum_behind a s (entry_sums s (set tally place entry) p b) p b (laid a places m xs)) (sym on)
                ∙ ap (λ v. sum_behind a s v p b left) (lays_at tally place x entry d within laying p b)
                ∙ ap (λ q. sum_behind a s (sum_behind a s w p b (one_at q (a.reads x))) p b left) at
                ∙ sym (sum_append w p b (one_at (k % places) (a.reads x)) left)
                ∙ sym (ap (sum_behind a s w p b) (laid_one places k x xs))
                ∙ sym (at_drop_more (λ ys. sum_behind a s w p b (laid a places k ys)) octets i 0 h)
                ∙ so.sums p b;
          }

    -- octets that are laid in two rows: up to the last place, and from the first on
    pub two_rows : (first m : ℕ) (octets : List ℕ) (before mid after : List (Entry V))
        → first < length before → m ≡ min (length octets) (length before - first) → length mid ≡ length before
        → LaysOn a s first (take m octets) before mid → LaysOn a s 0 (drop m octets) mid after → LaysOn a s first octets before after
    two_rows first m octets before mid after within least long ahead over p b =
        let places = length before in
        let front = laid a places first (take m octets) in
        let back = laid a places 0 (drop m octets) in
        let joined : front ++ back ≡ laid a places first octets =
        ap (λ xs. front ++ xs) (sym (starts_over places first m octets within least))
        ∙ sym (laid_append places first (take m octets) (drop m octets)) ∙ ap (laid a places first) (take-append-drop m octets) in
        over p b
        ∙ ap (λ n. sum_behind a s (entry_sums s mid p b) p b (laid a n 0 (drop m octets))) long
        ∙ ap (λ w. sum_behind a s w p b back) (ahead p b)
        ∙ sym (sum_append (entry_sums s before p b) p b front back)
        ∙ ap (sum_behind a s (entry_sums s before p b) p b) joined
