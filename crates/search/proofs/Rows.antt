-- Sixteen states in four rows of four. Assumes nothing.
use Rattle.std.proofs.Common.{◌≡◌, ℕ, ◌+◌, ◌-◌, ◌*◌, ◌^◌, ◌<◌, Bool, true, false, eqb, ap, ◌∙◌, arith}
use Rattle.std.specs.Int.{bit_at}
use Rattle.std.proofs.lemmas.Nat.Bits.{bit_at_cat_high, bit_at_cat_low}
use Rattle.block.specs.Bits.{bit, value}
use Rattle.code.specs.Register.{Cells, state_of}
use Rattle.search.proofs.Trellis.{value_small}
use Rattle.search.specs.Quads.{quad_at}
use Rattle.search.specs.declared.quads.Quad.{Quad}

-- what holds of each row
pub each_row : (P : Bool → Bool → Type 0) → P false false → P false true → P true false → P true true → (a b : Bool) → P a b
each_row P p q r s false false = p
each_row P p q r s false true = q
each_row P p q r s true false = r
each_row P p q r s true true = s

-- the bits of a row, and those above it
row_bit : (above row i : ℕ) → i < 4 → bit i (above * 2 ^ 4 + row) ≡ bit i row
row_bit above row i h = ap (λ x. eqb x 1) (bit_at_cat_low above 4 row i h)

above_bit : (above row i : ℕ) → row < 16 → bit (4 + i) (above * 2 ^ 4 + row) ≡ bit i above
above_bit above row i h =
    let down : 4 + i - 4 ≡ i = omega arith in
    ap (λ x. eqb x 1) (bit_at_cat_high above 4 row (4 + i) h (omega arith) ∙ ap (bit_at above) down)

-- a word of four rows
module _ (zero one two three : ℕ) (h0 : zero < 16) (h1 : one < 16) (h2 : two < 16) where
  abbrev word : ℕ
  word = zero + 16 * one + 256 * two + 4096 * three

  in_rows : word ≡ ((three * 2 ^ 4 + two) * 2 ^ 4 + one) * 2 ^ 4 + zero
  in_rows = omega arith

  row_of : (a b : Bool) (i : ℕ) → i < 4 → bit (8 * value a + 4 * value b + i) word ≡ bit i (quad_at a b (record { zero = zero; one = one; two = two; three = three }))
  row_of false false i h =
      let at : 8 * value false + 4 * value false + i ≡ i = omega arith in
      (λ j. bit (at j) (in_rows j)) ∙ row_bit _ zero i h
  row_of false true i h =
      let at : 8 * value false + 4 * value true + i ≡ 4 + i = omega arith in
      (λ j. bit (at j) (in_rows j)) ∙ above_bit _ zero i h0 ∙ row_bit _ one i h
  row_of true false i h =
      let at : 8 * value true + 4 * value false + i ≡ 4 + (4 + i) = omega arith in
      (λ j. bit (at j) (in_rows j)) ∙ above_bit _ zero (4 + i) h0 ∙ above_bit _ one i h1 ∙ row_bit three two i h
  row_of true true i h =
      let at : 8 * value true + 4 * value true + i ≡ 4 + (4 + (4 + i)) = omega arith in
      (λ j. bit (at j) (in_rows j)) ∙ above_bit _ zero (4 + (4 + i)) h0 ∙ above_bit _ one (4 + i) h1 ∙ above_bit three two i h2

pub rows_bit : (rows : Quad ℕ) → rows.zero < 16 → rows.one < 16 → rows.two < 16 → (m : Cells)
    → bit (state_of m) (rows.zero + 16 * rows.one + 256 * rows.two + 4096 * rows.three) ≡ bit (2 * value m.m3 + value m.m4) (quad_at m.m1 m.m2 rows)
rows_bit rows h0 h1 h2 m =
    let i = 2 * value m.m3 + value m.m4 in
    let place : state_of m ≡ 8 * value m.m1 + 4 * value m.m2 + i = omega arith in
    ap (λ k. bit k (rows.zero + 16 * rows.one + 256 * rows.two + 4096 * rows.three)) place
    ∙ row_of rows.zero rows.one rows.two rows.three h0 h1 h2 m.m1 m.m2 i (omega (arith, value_small m.m3, value_small m.m4))
