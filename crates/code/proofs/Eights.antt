-- Eight steps at once, by tests that are computed over all states and octets. Assumes nothing.
use Rattle.std.proofs.Common.{◌≡◌, ℕ, ◌+◌, ◌*◌, ◌/◌, ◌%◌, ◌<◌, Bool, true, ◌&&◌, eqb, refl, ap, ◌∙◌}
use lib.Bits.{bit_xor}
use Rattle.std.proofs.lemmas.Bool.{and_parts, eqb-true}
use Rattle.block.specs.Bits.{bit_at, octet_of}
use Rattle.block.specs.Computed.{passes}
use Rattle.block.proofs.Computed.{below}
use Rattle.code.specs.Register.{after, cells_of, state_of, trace}
use Rattle.code.specs.Rows.{came, octet_bits, steps_row}
use Rattle.code.specs.declared.rows.Row.{Row}
use Rattle.code.proofs.Steps.{cells_state}

-- what comes into m1, as the code works it out
abbrev started : ℕ → ℕ → ℕ
started s x = bit_xor (bit_xor (bit_xor x s) (s / 4)) (s / 8)

abbrev by_two : ℕ → ℕ
by_two a = bit_xor (bit_xor (bit_xor a (2 * a)) (4 * a)) (16 * a) % 256

abbrev by_four : ℕ → ℕ
by_four a = bit_xor (bit_xor a (4 * a)) (16 * a) % 256

abbrev pub worked_out : ℕ → ℕ → ℕ
worked_out s x = let a = by_four (by_two (started s x)) in bit_xor a (16 * a) % 256

abbrev right : ℕ → ℕ → Bool
right s x = eqb (worked_out s x) (came s x)

all_right : passes 16 (λ s. passes 256 (right s)) ≡ true
unfolding octet_of bit_at
all_right = refl

pub came_is : (s x : ℕ) → s < 16 → x < 256 → worked_out s x ≡ came s x
came_is s x h l = eqb-true _ _ (below 256 (right s) (below 16 (λ s. passes 256 (right s)) all_right s h) x l)

-- the row of an octet, as the code works it out from the state and what comes into m1
abbrev pub made : ℕ → ℕ → ℕ → Row
made s m x =
    let w = s + 16 * m in record {
      v1 = x;
      v2 = bit_xor x (bit_xor (bit_xor (w / 2) (w / 4)) (w / 8) % 256);
      v3 = bit_xor x (bit_xor (w / 2) (w / 8) % 256);
      v4 = bit_xor x (bit_xor (w / 2) (w / 4) % 256);
    }

same_row : Row → Row → Bool
same_row a b = eqb a.v1 b.v1 && (eqb a.v2 b.v2 && (eqb a.v3 b.v3 && eqb a.v4 b.v4))

same_row_is : (a b : Row) → same_row a b ≡ true → a ≡ b
unfolding same_row
same_row_is a b e =
    let one = and_parts _ _ e in
    let two = and_parts _ _ one.1 in
    let three = and_parts _ _ two.1 in
    let p = eqb-true a.v1 b.v1 one.0 in
    let q = eqb-true a.v2 b.v2 two.0 in
    let r = eqb-true a.v3 b.v3 three.0 in
    let s = eqb-true a.v4 b.v4 three.1 in
    λ i. record { v1 = p i; v2 = q i; v3 = r i; v4 = s i }

-- the row, and the state after it
abbrev both_right : ℕ → ℕ → Bool
both_right s x =
    let run = octet_bits x in
    same_row (made s (came s x) x) (steps_row (trace (cells_of s) run) 0) && eqb ((s + 16 * came s x) / 256) (state_of (after (cells_of s) run))

all_both_right : passes 16 (λ s. passes 256 (both_right s)) ≡ true
unfolding same_row octet_of bit_at
all_both_right = refl

both_at : (s x : ℕ) → s < 16 → x < 256 → both_right s x ≡ true
both_at s x h l = below 256 (both_right s) (below 16 (λ s. passes 256 (both_right s)) all_both_right s h) x l

pub row_is : (s x : ℕ) → s < 16 → x < 256 → made s (came s x) x ≡ steps_row (trace (cells_of s) (octet_bits x)) 0
row_is s x h l = same_row_is _ _ (and_parts _ _ (both_at s x h l)).0

pub cells_are : (s x : ℕ) → s < 16 → x < 256 → cells_of ((s + 16 * came s x) / 256) ≡ after (cells_of s) (octet_bits x)
cells_are s x h l = ap cells_of (eqb-true _ _ (and_parts _ _ (both_at s x h l)).1) ∙ cells_state (after (cells_of s) (octet_bits x))
