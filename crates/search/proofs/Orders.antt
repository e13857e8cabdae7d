-- What the laws of a scale give of path weights, absent ones among them. Assumes nothing.
use Rattle.std.proofs.Common.{◌≡◌, Some, None, Option, ap, ◌∙◌, inl, inr}
use Rattle.weighing.specs.Scales.{Scale}
use Rattle.search.specs.Paths.{Lighter, behind}

module _ {V : Type 0} (s : Scale V) where
  pub reflexive : (a : s.Meaning) → s.atmost a a
  reflexive a = elim (s.laws.total a a) [ inl h ↦ h | inr h ↦ h ]

  pub lighter_trans : (a b c : Option s.Meaning) → Lighter s a b → Lighter s b c → Lighter s a c
  lighter_trans a b None p q = tt
  lighter_trans a None (Some c) p q = absurd q
  lighter_trans None (Some b) (Some c) p q = absurd p
  lighter_trans (Some a) (Some b) (Some c) p q = s.laws.transitive a b c p q

  -- a step's weight behind both keeps their order
  pub lighter_behind : (a b : Option s.Meaning) (c : s.Meaning) → Lighter s a b → Lighter s (behind s a c) (behind s b c)
  lighter_behind a None c p = tt
  lighter_behind None (Some b) c p = absurd p
  lighter_behind (Some a) (Some b) c p = s.laws.monotone_left a b c p

  -- four sums behind w are the four summed first, behind w
  pub regroup : (w a b c d : s.Meaning) → s.plus (s.plus (s.plus (s.plus w a) b) c) d ≡ s.plus w (s.plus (s.plus (s.plus a b) c) d)
  regroup w a b c d =
      let assoc = s.laws.associative in
      ap (λ x. s.plus (s.plus x c) d) (assoc w a b) ∙ ap (λ x. s.plus x d) (assoc w (s.plus a b) c) ∙ assoc w (s.plus (s.plus a b) c) d
