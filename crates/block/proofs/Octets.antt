-- The bits of an octet that is made of eight bits. Assumes nothing.
use Rattle.std.proofs.Common.{◌≡◌, ℕ, ◌+◌, ◌*◌, ◌/◌, ◌%◌, ◌<◌, Bool, true, false, ◌&&◌, List, [], ◌∷◌, ◌++◌, get_or, refl, ap, ◌∙◌, arith}
use mathlib.Core.Bool.{beq}
use Rattle.std.proofs.lemmas.List.FromFn.{get_or-map-range_with_len, length-map-range_with_len}
use Rattle.std.proofs.lemmas.List.{get_or_append_left}
use Rattle.std.proofs.lemmas.Bool.{and_parts}
use Rattle.block.specs.Bits.{bit, bit_at, filled, octet_of, octets_of}
use Rattle.block.specs.Computed.{passes}
use Rattle.block.proofs.Bools.{same_is}
use Rattle.block.proofs.Computed.{below}

-- a test at both bits
abbrev both : (Bool → Bool) → Bool
both f = f true && f false

both_at : (f : Bool → Bool) → both f ≡ true → (b : Bool) → f b ≡ true
both_at f t true = (and_parts (f true) (f false) t).0
both_at f t false = (and_parts (f true) (f false) t).1

-- the i-th of eight bits
abbrev pick : Bool → Bool → Bool → Bool → Bool → Bool → Bool → Bool → ℕ → Bool
pick a b c d e f g h i = get_or (a ∷ b ∷ c ∷ d ∷ e ∷ f ∷ g ∷ h ∷ []) i false

abbrev whole : Bool → Bool → Bool → Bool → Bool → Bool → Bool → Bool → Bool
whole a b c d e f g h = passes 8 (λ i. beq (bit i (octet_of (pick a b c d e f g h))) (pick a b c d e f g h i))

all_whole : (a b c d e f g h : Bool) → whole a b c d e f g h ≡ true
unfolding octet_of
all_whole a b c d e f g h =
    let s1 = both_at (λ a. both (λ b. both (λ c. both (λ d. both (λ e. both (λ f. both (λ g. both (λ h. whole a b c d e f g h)))))))) refl a in
    let s2 = both_at (λ b. both (λ c. both (λ d. both (λ e. both (λ f. both (λ g. both (λ h. whole a b c d e f g h))))))) s1 b in
    let s3 = both_at (λ c. both (λ d. both (λ e. both (λ f. both (λ g. both (λ h. whole a b c d e f g h)))))) s2 c in
    let s4 = both_at (λ d. both (λ e. both (λ f. both (λ g. both (λ h. whole a b c d e f g h))))) s3 d in
    let s5 = both_at (λ e. both (λ f. both (λ g. both (λ h. whole a b c d e f g h)))) s4 e in
    let s6 = both_at (λ f. both (λ g. both (λ h. whole a b c d e f g h))) s5 f in
    let s7 = both_at (λ g. both (λ h. whole a b c d e f g h)) s6 g in
    both_at (λ h. whole a b c d e f g h) s7 h

pub bit_octet : (f : ℕ → Bool) (i : ℕ) → i < 8 → bit i (octet_of f) ≡ f i
unfolding octet_of
bit_octet f i h =
    same_is _ _ (below 8 (λ k. beq (bit k (octet_of f)) (f k)) (all_whole (f 0) (f 1) (f 2) (f 3) (f 4) (f 5) (f 6) (f 7)) i h)

-- the bits of octets that a function, or a list of bits, fills
pub bit_at_octets : (f : ℕ → Bool) (n : ℕ) (rest : List ℕ) (p : ℕ) → p < 8 * n → bit_at (octets_of f n ++ rest) p ≡ f p
unfolding bit_at
bit_at_octets f n rest p h =
    let g : ℕ → ℕ = λ b. octet_of (λ i. f (8 * b + i)) in
    let inside : p / 8 < n = omega arith in
    let long = length-map-range_with_len g 0 n in
    let there : get_or (octets_of f n ++ rest) (p / 8) 0 ≡ g (p / 8) =
    get_or_append_left (octets_of f n) rest 0 (p / 8) (omega (arith, long)) ∙ get_or-map-range_with_len g 0 n (p / 8) (p / 8) 0 inside (omega arith) in
    let split : 8 * (p / 8) + p % 8 ≡ p = omega arith in
    ap (bit (p % 8)) there ∙ bit_octet (λ i. f (8 * (p / 8) + i)) (p % 8) (omega arith) ∙ ap f split

pub bit_at_filled : (bits : List Bool) (n : ℕ) (rest : List ℕ) (p : ℕ) → p < 8 * n → bit_at (filled bits n ++ rest) p ≡ get_or bits p false
bit_at_filled bits n rest p h = bit_at_octets (λ p. get_or bits p false) n rest p h
