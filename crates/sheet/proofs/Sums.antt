-- The sums that entries mean, after a write and over a row of places. Assumes nothing.
use Rattle.std.proofs.Common.{◌≡◌, ℕ, zero, suc, ◌*◌, ◌<◌, ◌≤◌, Bool, cond, eqb, List, [], ◌∷◌, ◌++◌, map, length, get_or, take, drop, set, not-suc-le-zero, le_of_suc-le-suc, length-take-le, subst, sym, ap, ◌∙◌, inl, inr, arith}
use Rattle.std.proofs.lemmas.List.{get_or-map, get_or-set_other, get_or-set_same, get_or_append_left, length-map, map-append, map-set, take-append-drop}
use Rattle.std.proofs.lemmas.Bool.{cases_eq, cond-false, cond-true, eq-eqb, ne_eqb}
use Rattle.std.specs.List.{FoldsTo}
use Rattle.weighing.specs.Alphabets.{Alphabet}
use Rattle.weighing.specs.Scales.{Scale}
use Rattle.search.specs.Scratch.{UsesFront}
use Rattle.search.specs.Weights.{entry_sums, side}
use Rattle.search.specs.declared.Entry.{Entry}
use Rattle.search.proofs.Fronts.{front_of}
use Rattle.sheet.specs.Books.{laid, sum_behind}
use Rattle.sheet.specs.Calls.{Cleared, Laid}

-- what stands in a list after a write
get_d_set : {X : Type 0} (xs : List X) (i p : ℕ) (x d : X) → i < length xs → get_or (set xs i x) p d ≡ cond (eqb i p) x (get_or xs p d)
get_d_set xs i p x d h =
    elim (cases_eq p i) [
      | inl e ↦ ap (λ k. get_or (set xs i x) k d) e ∙ get_or-set_same xs i x d h ∙ sym (cond-true (eqb i p) x (get_or xs p d) (eq-eqb i p (sym e)))
      | inr other ↦ get_or-set_other xs i p x d other ∙ sym (cond-false (eqb i p) x (get_or xs p d) (ne_eqb i p (λ e. other (sym e))))
    ]

module _ {V : Type 0} (s : Scale V) where
  pub sums_set : (tally : List (Entry V)) (place : ℕ) (entry : Entry V) → place < length tally
      → (p : ℕ) (b : Bool) → entry_sums s (set tally place entry) p b ≡ cond (eqb place p) (s.mean (side b entry)) (entry_sums s tally p b)
  unfolding entry_sums
  sums_set tally place entry h p b =
      let f : Entry V → s.Meaning = λ e. s.mean (side b e) in
      ap (λ xs. get_or xs p s.zero) (map-set f tally place entry)
      ∙ get_d_set (map f tally) place p (f entry) s.zero (omega (arith, length-map tally f))

  -- the sums at the place of an entry are what it means
  pub sums_there : (tally : List (Entry V)) (place : ℕ) (d : Entry V) → place < length tally → (b : Bool) → s.mean (side b (get_or tally place d)) ≡ entry_sums s tally place b
  unfolding entry_sums
  sums_there tally place d h b = sym (get_or-map (λ e. s.mean (side b e)) tally place d s.zero h)

  -- and those of the front of a tally are its front's
  pub sums_front : (front back : List (Entry V)) (p : ℕ) (b : Bool) → p < length front → entry_sums s (front ++ back) p b ≡ entry_sums s front p b
  unfolding entry_sums
  sums_front front back p b h =
      let f : Entry V → s.Meaning = λ e. s.mean (side b e) in
      ap (λ xs. get_or xs p s.zero) (map-append f front back)
      ∙ get_or_append_left (map f front) (map f back) s.zero p (omega (arith, length-map front f))

  -- entries that a filling closure gives, each of which means zero
  pub sums_filled : {F : Type 0} (R : F → Entry V → F → Type 0) (f last : F) (tally : List (Entry V)) → FoldsTo R f tally last
      → ((f : F) (e : Entry V) (g : F) → R f e g → (b : Bool) → s.mean (side b e) ≡ s.zero) → (p : ℕ) (b : Bool) → p < length tally → entry_sums s tally p b ≡ s.zero
  unfolding entry_sums
  sums_filled R f last [] folds each p b h = absurd (not-suc-le-zero h)
  sums_filled R f last (e ∷ es) folds each zero b h = each f e folds.0 folds.1 b
  sums_filled R f last (e ∷ es) folds each (suc p) b h = sums_filled R folds.0 last es folds.2 each p b (le_of_suc-le-suc h)

  -- a tally whose front, the k places of a block of m octets, is cleared or laid on, and whose rest stays
  module _ (k m : ℕ) (is : k ≡ 32 * m) (before front : List (Entry V)) (whole : k ≤ length before) (long : length front ≡ length (take k before)) where
    abbrev after : List (Entry V)
    after = front ++ drop k before

    many : length (take k before) ≡ 32 * m
    many = length-take-le k before whole ∙ is

    stays : UsesFront (32 * m) before after
    stays = subst (λ j. UsesFront j before after) is (front_of k before front (long ∙ length-take-le k before whole) whole)

    pub cleared_front : ((p : ℕ) (b : Bool) → p < length (take k before) → entry_sums s front p b ≡ s.zero) → Cleared s m before after
    cleared_front zeros = record {
      zeros = λ p b h. sums_front front (drop k before) p b (omega (arith, long, many)) ∙ zeros p b (omega (arith, many));
      front = stays;
    }

    pub laid_front : {A : Type 0} (a : Alphabet A V) (start : ℕ) (octets : List ℕ)
        → ((p : ℕ) (b : Bool) → entry_sums s front p b ≡ sum_behind a s (entry_sums s (take k before) p b) p b (laid a (length (take k before)) (8 * start) octets))
        → Laid a s m start octets before after
    laid_front a start octets sums = record {
      sums = λ p b h.
          let own : entry_sums s (take k before) p b ≡ entry_sums s before p b =
          sym (sums_front (take k before) (drop k before) p b (omega (arith, many))) ∙ ap (λ xs. entry_sums s xs p b) (take-append-drop k before) in
          sums_front front (drop k before) p b (omega (arith, long, many)) ∙ sums p b
          ∙ (λ i. sum_behind a s (own i) p b (laid a (many i) (8 * start) octets));
      front = stays;
    }
