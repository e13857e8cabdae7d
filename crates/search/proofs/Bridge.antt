-- From paths with the latest bit first to messages with the first bit first. Assumes nothing.
use Rattle.std.proofs.Common.{◌≡◌, ℕ, suc, ◌+◌, Bool, true, false, List, [], ◌∷◌, ◌++◌, reverse, length, take, drop, sym, refl, ap, ◌∙◌, arith}
use mathlib.Core.List.{reverse_aux}
use Rattle.std.proofs.lemmas.List.{length-append, length-drop, take-append-drop}
use Rattle.code.specs.Register.{Cells, ◌⊕◌, after, cleared, closing, feedback, next, tail, trace, with_tail}
use Rattle.code.proofs.Runs.{after_append}
use Rattle.weighing.specs.Scales.{Scale}
use Rattle.search.specs.Weights.{Sums, added, weight}
use Rattle.search.specs.Paths.{ends, path_weight}
use Rattle.search.proofs.Orders.{regroup}

pub after_ends : (us acc : List Bool) → after (ends acc) us ≡ ends (reverse_aux us acc)
after_ends [] acc = refl
after_ends (u ∷ us) acc = after_ends us (u ∷ acc)

sum_false : (a b : Bool) → a ⊕ b ≡ false → a ≡ b
sum_false true true e = refl
sum_false true false e = e
sum_false false true e = sym e
sum_false false false e = refl

sum_self : (a : Bool) → a ⊕ a ≡ false
sum_self true = refl
sum_self false = refl

-- bits that are each the feedback of their moment are those that closing feeds
abbrev Follows : Cells → List Bool → Type 0
Follows m [] = Unit {0}
Follows m (u ∷ us) = (u ≡ feedback m) × Follows (next m u) us

is_closing : (m : Cells) (us : List Bool) → Follows m us → us ≡ closing (length us) m
is_closing m [] f = refl
is_closing m (u ∷ us) f =
    ap (λ rest. u ∷ rest) (is_closing (next m u) us f.1) ∙ ap (λ x. x ∷ closing (length us) (next m x)) f.0

-- four bits after which every cell is 0 are the tail
closes : (m : Cells) (us : List Bool) → length us ≡ 4 → after m us ≡ cleared → us ≡ tail m
closes m [] l e = absurd (omega arith)
closes m (a ∷ []) l e = absurd (omega arith)
closes m (a ∷ b ∷ []) l e = absurd (omega arith)
closes m (a ∷ b ∷ c ∷ []) l e = absurd (omega arith)
closes m (a ∷ b ∷ c ∷ d ∷ x ∷ us) l e = absurd (omega arith)
closes m (a ∷ b ∷ c ∷ d ∷ []) l e =
    is_closing m (a ∷ b ∷ c ∷ d ∷ []) (
      sum_false a _ (ap (λ (x : Cells). x.m4) e),
      (sum_false b _ (ap (λ (x : Cells). x.m3) e), (sum_false c _ (ap (λ (x : Cells). x.m2) e), (sum_false d _ (ap (λ (x : Cells). x.m1) e), tt))),
    )

-- and the tail clears every cell
clears : (m : Cells) → after m (tail m) ≡ cleared
clears m i =
    let m1 = next m (feedback m) in
    let m2 = next m1 (feedback m1) in
    let m3 = next m2 (feedback m2) in
    record { m1 = sum_self (feedback m3) i; m2 = sum_self (feedback m2) i; m3 = sum_self (feedback m1) i; m4 = sum_self (feedback m) i }

-- bits from cleared cells that end so are a message with its tail
pub is_with_tail : (bits : ℕ) (us : List Bool) → length us ≡ bits + 4 → after cleared us ≡ cleared → us ≡ with_tail (take bits us)
is_with_tail bits us long clear =
    let halves : take bits us ++ drop bits us ≡ us = take-append-drop bits us in
    let rest : after (after cleared (take bits us)) (drop bits us) ≡ cleared = sym (after_append cleared (take bits us) (drop bits us)) ∙ ap (after cleared) halves ∙ clear in
    sym halves ∙ ap (λ xs. take bits us ++ xs) (closes (after cleared (take bits us)) (drop bits us) (length-drop bits us ∙ (omega arith)) rest)

pub with_tail_clears : (message : List Bool) → after cleared (with_tail message) ≡ cleared
with_tail_clears message = after_append cleared message (tail (after cleared message)) ∙ clears (after cleared message)

pub with_tail_length : (message : List Bool) → length (with_tail message) ≡ length message + 4
with_tail_length message = length-append message (tail (after cleared message))

module _ {V : Type 0} (s : Scale V) (order : List ℕ) (n : ℕ) (sums : Sums s) where
  added_path : (us acc : List Bool) → added s order n sums (path_weight s order n sums acc) (length acc) (trace (ends acc) us) ≡ path_weight s order n sums (reverse_aux us acc)
  added_path [] acc = refl
  added_path (u ∷ us) acc =
      ap (λ w. added s order n sums w (suc (length acc)) (trace (next (ends acc) u) us)) (regroup s _ _ _ _ _) ∙ added_path us (u ∷ acc)

  pub weight_path : (message : List Bool) → weight s order n sums message ≡ path_weight s order n sums (reverse (with_tail message))
  unfolding weight
  weight_path message = added_path (with_tail message) []
