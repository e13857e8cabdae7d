-- A copy goes in two pieces: up to the round's end, and from its beginning. Assumes nothing.
use Rattle.std.proofs.Common.{◌≡◌, ℕ, ◌+◌, ◌-◌, ◌%◌, ◌<◌, ◌≤◌, inl, inr, List, ◌++◌, length, get_or, take, drop, min, sym, ap, ◌∙◌, subst, refl, mod-eq_of_lt, le_of_lt, arith}
use Rattle.std.proofs.Math.Nat.{min-eq_left, min-eq_right, min-le_right, mod-add-mod, mod-eq-sub-mod}
use Rattle.std.proofs.lemmas.Bool.{cases_lt}
use Rattle.std.proofs.lemmas.List.{get_or-append_right, get_or-drop, get_or-take, get_or_append_left, length-append, length-drop, length-take-le}
use Rattle.std.proofs.lemmas.List.FromFn.{fill_by_all}
use Rattle.std.proofs.lemmas.Nat.{mod_below}
use Rattle.sender.specs.Passages.{sent}

-- `first` is an octet of the round, and m octets up to its end are all that are asked for, or all there are
module _ (round : List ℕ) (start first m n count : ℕ) (is : start % length round ≡ first) (below : first < length round)
    (within : count ≤ length round) (split : m + n ≡ count) (reach : first + m ≤ length round) (ended : m < count → first + m ≡ length round) where
  abbrev ahead : List ℕ
  ahead = take m (drop first round)

  ahead_length : length ahead ≡ m
  ahead_length = length-take-le m (drop first round) (let l = length-drop first round in omega (arith, l, reach))

  over_length : length (take n round) ≡ n
  over_length = length-take-le n round (omega (arith, within, split))

  -- where octet k of the copy comes from
  stands : (k : ℕ) → (first + k) % length round ≡ (start + k) % length round
  stands k = ap (λ p. (p + k) % length round) (sym is) ∙ mod-add-mod start (length round) k

  before_end : (k : ℕ) → k < m → get_or (ahead ++ take n round) k 0 ≡ get_or round ((start + k) % length round) 0
  before_end k h =
      get_or_append_left ahead (take n round) 0 k (omega (arith, ahead_length, h))
      ∙ get_or-take m (drop first round) k 0 h
      ∙ get_or-drop first round k 0
      ∙ ap (λ p. get_or round p 0) (sym (mod-eq_of_lt (omega (arith, reach, h))) ∙ stands k)

  behind_end : (k : ℕ) → m ≤ k → k < count → get_or (ahead ++ take n round) k 0 ≡ get_or round ((start + k) % length round) 0
  behind_end k h l =
      let full : first + m ≡ length round = ended (omega (arith, h, l)) in
      let over : length round ≤ first + k = omega (arith, full, h) in
      let left : first + k - length round < length round = omega (arith, below, within, l) in
      let same : k - m ≡ first + k - length round = omega (arith, full, h) in
      get_or-append_right ahead (take n round) m k 0 ahead_length h
      ∙ get_or-take n round (k - m) 0 (omega (arith, split, h, l))
      ∙ ap (λ p. get_or round p 0) (same ∙ sym (mod-eq_of_lt left) ∙ sym (mod-eq-sub-mod over) ∙ stands k)

  pub pieces : ahead ++ take n round ≡ sent round (length round) start count
  pieces =
      fill_by_all (λ k. get_or round ((start + k) % length round) 0) (ahead ++ take n round) count 0
      (length-append ahead (take n round) ∙ omega (arith, ahead_length, over_length, split))
      (λ k l. elim (cases_lt k m) [
        | inl h ↦ before_end k h
        | inr h ↦ behind_end k h l
      ])

pub two_pieces : (round : List ℕ) (start m n count : ℕ) → 1 ≤ length round → count ≤ length round → m + n ≡ count
    → m ≡ min count (length round - start % length round)
    → take m (drop (start % length round) round) ++ take n round ≡ sent round (length round) start count
two_pieces round start m n count some within split least =
    let long = length round in
    let first = start % long in
    let below : first < long = mod_below start long some in
    let most : m ≤ long - first = subst (λ k. k ≤ long - first) (sym least) (min-le_right count (long - first)) in
    pieces round start first m n count refl below within split (omega (arith, most, below))
    (λ h. elim (cases_lt count (long - first)) [
      | inl s ↦ absurd (let e = least ∙ min-eq_left (le_of_lt s) in omega (arith, e, h))
      | inr s ↦ let e = least ∙ min-eq_right s in omega (arith, e, below)
    ])
