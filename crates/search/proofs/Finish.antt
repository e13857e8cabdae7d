-- The end of the search: the message that the survivors give is nearest. Assumes nothing.
use Rattle.std.proofs.Common.{◌≡◌, ℕ, zero, suc, ◌+◌, ◌-◌, ◌<◌, ◌≤◌, IsSome, refl, arith, Bool, false, ◌&&◌, eqb, List, [], ◌∷◌, ◌++◌, reverse, length, take, Some, None, Option, sym, ap, ◌∙◌, subst}
use Rattle.std.proofs.lemmas.Bool.{and_parts, eqb-true}
use Rattle.std.specs.Option.{option_map}
use Rattle.std.proofs.lemmas.List.{length-reverse, reverse-reverse}
use Rattle.block.proofs.Computed.{below}
use Rattle.code.specs.Register.{cells_of, cleared, next, state_of, with_tail}
use Rattle.code.proofs.Steps.{cells_state}
use Rattle.weighing.specs.Scales.{Scale}
use Rattle.search.specs.Weights.{Sums, weight}
use Rattle.search.specs.Paths.{Lightest, Traced, ends, input, path_weight, predecessor, survivor_path, survivor_start, traceback}
use Rattle.search.proofs.Bridge.{after_ends, is_with_tail, weight_path, with_tail_clears, with_tail_length}
use Rattle.search.proofs.Traces.{split}
use Rattle.search.proofs.Trellis.{length-survivor_path}

-- Behind bits after which every cell is 0, a path ends as it does alone.
ends_behind : (us vs : List Bool) → ends vs ≡ cleared → ends (us ++ vs) ≡ ends us
ends_behind [] vs e = e
ends_behind (u ∷ us) vs e = ap (λ m. next m u) (ends_behind us vs e)

-- The path that no survivors give stays in state 0 once it is there, and four steps lead from there to each state.
still : (t : ℕ) → ends (survivor_path [] t 0) ≡ cleared
unfolding predecessor input
still zero = refl
still (suc t) = ap (λ m. next m false) (still t)

four_steps_test : ℕ → Bool
four_steps_test k = eqb (survivor_start [] 4 k) 0 && eqb (state_of (ends (survivor_path [] 4 k))) k

leads_to : (m k : ℕ) → k < 16 → state_of (ends (survivor_path [] (m + 4) k)) ≡ k
unfolding predecessor input four_steps_test
leads_to m k h =
    let tests = and_parts _ _ (below 16 four_steps_test refl k h) in
    let begins : ends (survivor_path [] m (survivor_start [] 4 k)) ≡ cleared = ap (λ j. ends (survivor_path [] m j)) (eqb-true _ _ tests.0) ∙ still m in
    ap (λ us. state_of (ends us)) (split [] [] m 4 k (λ i l. refl))
    ∙ ap state_of (ends_behind (survivor_path [] 4 k) (survivor_path [] m (survivor_start [] 4 k)) begins)
    ∙ eqb-true _ _ tests.1

-- the path of a message with its tail, the latest bit first
abbrev path_of : List Bool → List Bool
path_of message = reverse (with_tail message)

path_ends : (message : List Bool) → state_of (ends (path_of message)) ≡ 0
path_ends message = ap state_of (sym (after_ends (with_tail message) _) ∙ with_tail_clears message)

path_length : (bits : ℕ) (message : List Bool) → length message ≡ bits → length (path_of message) ≡ bits + 4
path_length bits message e = length-reverse (with_tail message) ∙ with_tail_length message ∙ ap (λ x. x + 4) e

module _ {V : Type 0} (s : Scale V) (order : List ℕ) (n : ℕ) (sums : Sums s) (survivors : List ℕ) where
  -- so after four steps and more each state is reached
  pub reached : (t k : ℕ) (paths : Option V) → 4 ≤ t → k < 16 → Lightest s order n sums survivors t k (option_map s.mean paths) → IsSome paths
  reached t k None late small lightest =
      let whole : t - 4 + 4 ≡ t = omega arith in
      absurd (lightest.every (survivor_path [] t k) (length-survivor_path [] t k) (subst (λ m. state_of (ends (survivor_path [] m k)) ≡ k) whole (leads_to (t - 4) k small)))
  reached t k (Some w) late small lightest = refl

  module _ (w : s.Meaning) (lightest : Lightest s order n sums survivors (length survivors) 0 (Some w)) (bits : ℕ) (long : bits + 4 ≡ length survivors) where
    abbrev path : List Bool
    path = survivor_path survivors (length survivors) 0

    abbrev named : List Bool
    named = take bits (traceback survivors 0)

    is_whole : traceback survivors 0 ≡ with_tail named
    is_whole =
        is_with_tail bits (traceback survivors 0) (length-reverse path ∙ length-survivor_path survivors (length survivors) 0 ∙ sym long)
        (after_ends (traceback survivors 0) _ ∙ ap ends (reverse-reverse path) ∙ sym (cells_state (ends path)) ∙ ap cells_of lightest.held.0)

    named_weight : w ≡ weight s order n sums named
    named_weight =
        lightest.held.1 ∙ ap (path_weight s order n sums) (sym (reverse-reverse path) ∙ ap reverse is_whole) ∙ sym (weight_path s order n sums named)

    -- each message is at least as heavy
    least : (other : List Bool) → length other ≡ bits → s.atmost w (weight s order n sums other)
    least other e = subst (s.atmost w) (sym (weight_path s order n sums other)) (lightest.every (path_of other) (path_length bits other e ∙ long) (path_ends other))

    is_traced : Traced s order n sums (traceback survivors 0) bits w
    is_traced = record {
      whole = is_whole;
      weighs = named_weight;
      least = least;
    }

  pub traced : (ended : Option V) (w : V) → Lightest s order n sums survivors (length survivors) 0 (option_map s.mean ended) → ended ≡ Some w
      → (bits : ℕ) → bits + 4 ≡ length survivors → Traced s order n sums (traceback survivors 0) bits (s.mean w)
  traced ended w lightest is =
      is_traced (s.mean w) (subst (λ x. Lightest s order n sums survivors (length survivors) 0 (option_map s.mean x)) is lightest)
