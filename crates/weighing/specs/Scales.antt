-- A weighing says how weights add and compare. Here is what weights mean, the laws that their
-- meanings keep, and the two scales of this crate. Assumes nothing.
use Rattle.std.specs.Prelude.{◌≡◌, ℕ, ◌+◌, ◌≤◌, min, max, ◌⊎◌}
use Rattle.std.proofs.Common.{inl, inr, arith}
use mathlib.Core.HLevel.{is_prop→PathP}
use Rattle.std.proofs.Math.Bridge.{le_prop}
use Rattle.std.proofs.Math.Decide.{dec_le}

-- What every weighing keeps: an order of all meanings, and an addition that respects it and never
-- makes lighter.
pub record Laws {M : Type 0} (zero : M) (plus : M → M → M) (atmost : M → M → Type 0) : Type 0 where
  pub total : (a b : M) → atmost a b ⊎ atmost b a
  pub transitive : (a b c : M) → atmost a b → atmost b c → atmost a c
  pub antisymmetric : (a b : M) → atmost a b → atmost b a → a ≡ b
  pub associative : (a b c : M) → plus (plus a b) c ≡ plus a (plus b c)
  pub zero_left : (a : M) → plus zero a ≡ a
  pub zero_right : (a : M) → plus a zero ≡ a
  pub monotone_left : (a b c : M) → atmost a b → atmost (plus a c) (plus b c)
  pub monotone_right : (a b c : M) → atmost a b → atmost (plus c a) (plus c b)
  pub first_within : (a c : M) → atmost a (plus a c)
  pub second_within : (a c : M) → atmost c (plus a c)

-- A scale says what weights of type V mean; weights with one meaning count as equal.
pub record Scale (V : Type 0) : Type 1 where
  pub Meaning : Type 0
  pub mean : V → Meaning
  pub zero : Meaning
  pub plus : Meaning → Meaning → Meaning
  pub atmost : Meaning → Meaning → Type 0
  pub laws : Laws zero plus atmost

-- of two numbers one is at most the other
either_way : (a b : ℕ) → (a ≤ b) ⊎ (b ≤ a)
either_way a b = elim (dec_le a b) [ yes h ↦ inl h | no h ↦ inr (omega arith) ]

-- a number from 0 to cap
pub record Upto (cap : ℕ) : Type 0 where
  pub value : ℕ
  pub within : value ≤ cap

-- two of these are equal if their numbers are
pub same_upto : {cap : ℕ} (a b : Upto cap) → a.value ≡ b.value → a ≡ b
same_upto {cap} a b e j = record {
  value = e j;
  within = is_prop→PathP (λ k. e k ≤ cap) (λ k. le_prop) a.within b.within j;
}

-- n, or cap if n is above it
abbrev pub capped : (cap : ℕ) → ℕ → Upto cap
capped cap n = record { value = min n cap; within = omega arith }

-- the heaviest weight that is counted
abbrev pub heaviest : ℕ
heaviest = 4294967295

pub counted_laws : Laws (capped heaviest 0) (λ a b. capped heaviest (a.value + b.value))
    (λ a b. a.value ≤ b.value)
counted_laws = record {
  total = λ a b. either_way a.value b.value;
  transitive = λ a b c p q. omega arith;
  antisymmetric = λ a b p q. same_upto a b (omega arith);
  associative = λ a b c. same_upto _ _ (omega arith);
  zero_left = λ a. same_upto _ _ (omega arith);
  zero_right = λ a. same_upto _ _ (omega arith);
  monotone_left = λ a b c p. omega arith;
  monotone_right = λ a b c p. omega arith;
  first_within = λ a c. omega arith;
  second_within = λ a c. omega arith;
}

-- Weights that are counted up: the sum is that of the numbers, and stops at the heaviest.
abbrev pub counted : Scale ℕ
counted = record {
  Meaning = Upto heaviest;
  mean = capped heaviest;
  zero = capped heaviest 0;
  plus = λ a b. capped heaviest (a.value + b.value);
  atmost = λ a b. a.value ≤ b.value;
  laws = counted_laws;
}

pub largest_laws : Laws 0 max ◌≤◌
largest_laws = record {
  total = either_way;
  transitive = λ a b c p q. omega arith;
  antisymmetric = λ a b p q. omega arith;
  associative = λ a b c. omega arith;
  zero_left = λ a. omega arith;
  zero_right = λ a. omega arith;
  monotone_left = λ a b c p. omega arith;
  monotone_right = λ a b c p. omega arith;
  first_within = λ a c. omega arith;
  second_within = λ a c. omega arith;
}

-- Weights of which the largest counts: the sum of two is the larger.
abbrev pub largest : Scale ℕ
largest = record {
  Meaning = ℕ;
  mean = λ n. n;
  zero = 0;
  plus = max;
  atmost = ◌≤◌;
  laws = largest_laws;
}
