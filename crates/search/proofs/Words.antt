-- A word of survivors is built from its lowest bit up. Assumes nothing.
use Rattle.std.proofs.Common.{◌≡◌, ℕ, ◌+◌, ◌-◌, ◌*◌, ◌%◌, ◌^◌, ◌<◌, Bool, true, false, bit_or, eqb, refl, ap, ◌∙◌, arith}
use mir.Val.{bool_byte}
use Rattle.std.specs.Int.{bit_at}
use Rattle.std.proofs.lemmas.Nat.{or_comm, or_shifted, pow-add, shl_whole}
use Rattle.std.proofs.lemmas.Nat.Bits.{bit_at_cat_high, bit_at_cat_low}
use Rattle.block.specs.Bits.{bit}

byte_small : (b : Bool) → bool_byte b < 2 ^ 1
byte_small true = omega arith
byte_small false = omega arith

byte_bit : (b : Bool) → bit 0 (bool_byte b) ≡ b
byte_bit true = refl
byte_bit false = refl

in_front : (b : Bool) (p w : ℕ) → w < p → bool_byte b * p + w < 2 * p
in_front true p w h = omega arith
in_front false p w h = omega arith

-- a word of k bits with one more in front of them
abbrev pub longer : ℕ → ℕ → Bool → ℕ
longer w k b = bit_or w (bool_byte b * 2 ^ k % 2 ^ 16)

module _ (w k : ℕ) (b : Bool) (room : k < 16) (below : w < 2 ^ k) where
  joined : longer w k b ≡ bool_byte b * 2 ^ k + w
  joined =
      ap (bit_or w) (shl_whole (bool_byte b) 1 k 16 (byte_small b) (omega arith)) ∙ or_comm w (bool_byte b * 2 ^ k)
      ∙ or_shifted (bool_byte b) k w below

  pub longer_below : longer w k b < 2 ^ (k + 1)
  longer_below = omega (arith, joined, in_front b (2 ^ k) w below, pow-add 2 k 1)

  pub bit_new : bit k (longer w k b) ≡ b
  bit_new =
      let none : k - k ≡ 0 = omega arith in
      ap (λ x. eqb x 1) (ap (λ x. bit_at x k) joined ∙ bit_at_cat_high (bool_byte b) k w k below (omega arith) ∙ ap (bit_at (bool_byte b)) none) ∙ byte_bit b

  pub bit_old : (i : ℕ) → i < k → bit i (longer w k b) ≡ bit i w
  bit_old i h = ap (λ x. eqb x 1) (ap (λ x. bit_at x i) joined ∙ bit_at_cat_low (bool_byte b) k w i h)
