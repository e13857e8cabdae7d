-- Laws of bits, checks and payload lengths. Assumes nothing.
use Rattle.std.proofs.Common.{rules, MatchOption, Option, Some, None, ◌≡◌, ℕ, zero, suc, ◌+◌, ◌*◌, ◌/◌, ◌%◌, ◌^◌, ◌<◌, ◌≤◌, Bool, true, false, cond, not, ◌||◌, eqb, List, [], ◌∷◌, get_or, take, fold, sym, refl, ap, ◌∙◌, inl, inr, mul-le-mul_right, add-mul, zero-mul, arith, lit<, pow_mono}
use native.Mathlib.Nat.{div-eq_of_lt}
use lib.Bits.{bit_xor}
use Rattle.std.proofs.lemmas.List.FromFn.{get_or-map-range_with_len, map-range_with_len_more, take-map-range_with_len}
use Rattle.std.proofs.lemmas.List.Sums.{fold_push}
use Rattle.std.proofs.lemmas.Nat.{shr_split, shr_below, xor_shr, xor_lt, pow_pos, pow-add, mod_below}
use Rattle.std.proofs.lemmas.Bool.{cond_both, eqb-true, eqb-false, eq-eqb, or_cases, or_left, or_right, or_from, ne_eqb, not-true, cases_order, cases_eq}
use Rattle.block.specs.Bits.{bit, bit_at, bits_of, octet_of, value}
use Rattle.block.specs.Checks.{CheckFits, check_of, extended, polynomial, reduced, term}
use Rattle.block.specs.Sizes.{OnlySize, payload, some_size, block_octets}
use Rattle.block.proofs.Computed.{below}

-- a number below 2 ^ i has no bit i
pub bit_high : (i x : ℕ) → x < 2 ^ i → bit i x ≡ false
bit_high i x h = ap (λ n. eqb (n % 2) 1) (div-eq_of_lt h)

-- no bit of 0 is set
pub bit_zero : (i : ℕ) → bit i 0 ≡ false
bit_zero i = bit_high i 0 (pow_pos i)

-- a number of k bits has no bit i from k on
pub bit_past : (k i x : ℕ) → x < 2 ^ k → k ≤ i → bit i x ≡ false
bit_past k i x h m = bit_high i x (let p : 2 ^ k ≤ 2 ^ i = pow_mono m in omega arith)

no_quotient : (x k : ℕ) → x / 2 ^ k ≡ 0 → x < 2 ^ k
no_quotient x k e =
    let s : x / 2 ^ k * 2 ^ k + x % 2 ^ k ≡ x = shr_split x k in
    let z : x / 2 ^ k * 2 ^ k ≡ 0 = ap (λ n. n * 2 ^ k) e ∙ zero-mul (2 ^ k) in
    omega (arith, mod_below x (2 ^ k) (pow_pos k))

-- the polynomial of a permitted length has x^L as its highest term
polynomial_top : (check : ℕ) → check % 8 ≡ 4 → check < 32 → polynomial check / 2 ^ check ≡ 1
polynomial_top check r h =
    elim (or_cases _ _ (below 32 (λ k. not (eqb (k % 8) 4) || eqb (polynomial k / 2 ^ k) 1) refl check h)) [
      | inl n ↦ absurd (eqb-false _ _ (not-true _ n) r)
      | inr e ↦ eqb-true _ _ e
    ]

-- what is left of a sum of degree at most L has a degree below L
pub reduced_below : (check p : ℕ) → check % 8 ≡ 4 → check < 32 → p < 2 ^ (1 + check) → reduced check p < 2 ^ check
reduced_below check p r h b =
    let q : p / 2 ^ check < 2 ^ 1 = shr_below p 1 check b in
    cond_both (bit check p) (bit_xor p (polynomial check)) p (λ x. x < 2 ^ check)
    (λ e.
    let one : p / 2 ^ check ≡ 1 = omega (arith, eqb-true _ _ e) in
    no_quotient _ check (xor_shr p (polynomial check) check ∙ ap (λ n. bit_xor n (polynomial check / 2 ^ check)) one ∙ ap (bit_xor 1) (polynomial_top check r h)))
    (λ e. no_quotient p check (omega (arith, eqb-false _ _ e)))

-- one more bit leaves a check of degree below L
pub extended_below : (check r : ℕ) (b : Bool) → check % 8 ≡ 4 → check < 32 → r < 2 ^ check → extended check r b < 2 ^ check
unfolding extended
extended_below check r b odd short h =
    let top : 2 ^ (1 + check) ≡ 2 * 2 ^ check = pow-add 2 1 check in
    reduced_below check _ odd short
    (xor_lt (1 + check) (2 * r) (cond b (2 ^ check) 0) (omega arith) (cond_both b (2 ^ check) 0 (λ x. x < 2 ^ (1 + check)) (λ _. omega (arith, pow_pos check)) (λ _. pow_pos (1 + check))))

-- a longer message has a longer payload
pub payload_grows : (a b check k : ℕ) → a < b → payload a check k < payload b check k
payload_grows a b check k h =
    let more : (block_octets a check + 1) * (8 + k) ≤ block_octets b check * (8 + k) = mul-le-mul_right _ (omega arith) in
    let next : (block_octets a check + 1) * (8 + k) ≡ block_octets a check * (8 + k) + 1 * (8 + k) = add-mul _ _ _ in
    omega arith

-- so one message length at most has a given payload
pub payload_alone : (a b check k : ℕ) → payload a check k ≡ payload b check k → a ≡ b
payload_alone a b check k e =
    elim (cases_order a b) [
      | inl same ↦ same
      | inr apart ↦ elim apart [
        | inl less ↦ absurd (let g = payload_grows a b check k less in omega arith)
        | inr more ↦ absurd (let g = payload_grows b a check k more in omega arith)
      ]
    ]

-- a length that has the payload is found
pub some_size_at : (n t p check k : ℕ) → 1 ≤ t → t ≤ n → payload t check k ≡ p → some_size n p check k ≡ true
unfolding some_size
some_size_at zero t p check k low high e = absurd (omega arith)
some_size_at (suc n) t p check k low high e =
    elim (cases_eq t (suc n)) [
      | inl same ↦ or_left _ _ (eq-eqb _ _ (sym (ap (λ m. payload m check k) same) ∙ e))
      | inr other ↦ or_right _ _ (some_size_at n t p check k low (omega arith) e)
    ]

-- where no length up to n has the payload, none is found
no_size : (n p check k : ℕ) → ((t : ℕ) → 1 ≤ t → t ≤ n → payload t check k ≡ p → ⊥) → some_size n p check k ≡ false
unfolding some_size
no_size zero p check k none = refl
no_size (suc n) p check k none = or_from _ _ (ne_eqb _ _ (none (suc n) (omega arith) (omega arith))) (no_size n p check k (λ t low high. none t low (omega arith)))

-- a length from 1 to 512 that has the payload is the only one, and where none has it none is found
pub only_size : (r : Option ℕ) (p check k : ℕ)
    → MatchOption r ((t : ℕ) → 1 ≤ t → t < 513 → payload t check k ≡ p → ⊥) (λ t. (1 ≤ t) × (t < 513) × (payload t check k ≡ p))
    → MatchOption r (some_size 512 p check k ≡ false) (λ t. (some_size 512 p check k ≡ true) × OnlySize p check k t)
only_size None p check k none = no_size 512 p check k (λ t low high. none t low (omega arith))
only_size (Some t) p check k found = (
  some_size_at 512 t p check k found.0 (omega (arith, found)) found.2,
  record { within = search rules; fits = found.2; alone = λ other f. payload_alone other t check k (f ∙ sym found.2) },
)

-- a fold over the bits of octets, one bit further on
pub folded_bits_more : {A : Type 0} (f : A → Bool → A) (a : A) (octets : List ℕ) (p : ℕ) → fold f a (bits_of octets (p + 1)) ≡ f (fold f a (bits_of octets p)) (bit_at octets p)
folded_bits_more f a octets p =
    ap (fold f a) (map-range_with_len_more (bit_at octets) 0 p p (omega arith)) ∙ fold_push f a (bits_of octets p) (bit_at octets p)

-- bit k of an octet that stands alone
pub bit_alone : (o k : ℕ) → k < 8 → bit_at (o ∷ []) k ≡ bit k o
unfolding bit_at
bit_alone o k h =
    let low : k % 8 ≡ k = omega arith in
    let first : k / 8 ≡ 0 = omega arith in
    λ i. bit (low i) (get_or (o ∷ []) (first i) 0)

-- bit k of octet b, by that octet alone
pub bit_in_octet : (octets : List ℕ) (b k : ℕ) → k < 8 → bit_at octets (8 * b + k) ≡ bit_at (get_or octets b 0 ∷ []) k
unfolding bit_at
bit_in_octet octets b k h =
    let low : (8 * b + k) % 8 ≡ k = omega arith in
    let there : (8 * b + k) / 8 ≡ b = omega arith in
    (λ i. bit (low i) (get_or octets (there i) 0)) ∙ sym (bit_alone (get_or octets b 0) k h)

-- a fold over the bits of octets, k bits of one octet further on
pub folded_octet : {A : Type 0} (f : A → Bool → A) (a : A) (octets : List ℕ) (b k : ℕ) → k ≤ 8
    → fold f (fold f a (bits_of octets (8 * b))) (bits_of (get_or octets b 0 ∷ []) k) ≡ fold f a (bits_of octets (8 * b + k))
folded_octet f a octets b zero h =
    let same : 8 * b ≡ 8 * b + 0 = omega arith in
    ap (λ n. fold f a (bits_of octets n)) same
folded_octet f a octets b (suc k) h =
    let start = fold f a (bits_of octets (8 * b)) in
    let here = get_or octets b 0 ∷ [] in
    let one : suc k ≡ k + 1 = omega arith in
    let next : 8 * b + k + 1 ≡ 8 * b + suc k = omega arith in
    ap (λ n. fold f start (bits_of here n)) one
    ∙ folded_bits_more f start here k
    ∙ (λ i. f (folded_octet f a octets b k (omega arith) i) (sym (bit_in_octet octets b k (omega arith)) i))
    ∙ sym (folded_bits_more f a octets (8 * b + k))
    ∙ ap (λ n. fold f a (bits_of octets n)) next

-- an octet is fixed by its eight bits
pub octet_same : (f g : ℕ → Bool) → ((i : ℕ) → i < 8 → f i ≡ g i) → octet_of f ≡ octet_of g
unfolding octet_of
octet_same f g e =
    let p : (i : ℕ) → i < 8 → value (f i) ≡ value (g i) = λ i h. ap value (e i h) in
    omega (arith, p 0 (lit< tt), p 1 (lit< tt), p 2 (lit< tt), p 3 (lit< tt), p 4 (lit< tt), p 5 (lit< tt), p 6 (lit< tt), p 7 (lit< tt))

-- whether a check fits, read off the octets that hold message and check
module _ (octets : List ℕ) (size check : ℕ) where
  abbrev message : List Bool
  message = bits_of octets (8 * size + check)

  abbrev field : ℕ
  field = check_of check (bits_of octets (8 * size))

  abbrev pub FitsAt : ℕ → Type 0
  FitsAt i = bit_at octets (8 * size + i) ≡ term check field i

  own : take (8 * size) message ≡ bits_of octets (8 * size)
  own = take-map-range_with_len (bit_at octets) 0 (8 * size + check) (8 * size) (omega arith)

  bit_there : (i : ℕ) → i < check → get_or message (8 * size + i) false ≡ bit_at octets (8 * size + i)
  bit_there i h = get_or-map-range_with_len (bit_at octets) 0 (8 * size + check) (8 * size + i) (8 * size + i) false (omega arith) (omega arith)

  pub fits_since : ((i : ℕ) → i < check → FitsAt i) → CheckFits size check message
  unfolding CheckFits
  fits_since all i h = bit_there i h ∙ all i h ∙ sym (ap (λ bits. term check (check_of check bits) i) own)

  pub fits_at : CheckFits size check message → (i : ℕ) → i < check → FitsAt i
  unfolding CheckFits
  fits_at fits i h = sym (bit_there i h) ∙ fits i h ∙ ap (λ bits. term check (check_of check bits) i) own
