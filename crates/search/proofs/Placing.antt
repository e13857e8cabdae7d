-- Where the outputs of a step stand. Assumes nothing.
use Rattle.std.proofs.Common.{◌≡◌, true, ℕ, ◌+◌, ◌-◌, ◌*◌, ◌/◌, ◌%◌, ◌<◌, ◌≤◌, cond, List, get_or, sym, ap, ◌∙◌, mul-le-mul_left, mul-add, arith}
use lib.Bits.{bit_and}
use Rattle.std.proofs.lemmas.Nat.{and_mask}
use Rattle.std.proofs.lemmas.Bool.{ne_eqb}
use Rattle.code.specs.Columns.{index_of, is_order}
use Rattle.code.proofs.Ordered.{order_index}
use Rattle.code.specs.Places.{place_of}
use Rattle.search.specs.Places.{ColumnPlaces}

-- each column ends within the buffer
pub column_ends : (order : List ℕ) → is_order order ≡ true → (n a : ℕ) → a < 24 → 8 * n + n * index_of a order + n ≤ 32 * n
column_ends order is n a h =
    let i = index_of a order in
    let most : n * (i + 1) ≤ n * 24 = mul-le-mul_left n (omega (arith, (order_index order is a h).0)) in
    let split : n * (i + 1) ≡ n * i + n * 1 = mul-add n i 1 in
    omega arith

pub output_place : (order places : List ℕ) (n band t : ℕ) → band < 3 → ColumnPlaces order n places
    → get_or places (8 * band + bit_and t 7) 0 + t / 8 ≡ place_of order n (band + 2) t
unfolding place_of
output_place order places n band t few columns =
    let low : bit_and t 7 ≡ t % 8 = and_mask t 3 in
    let same : band + 2 - 2 ≡ band = omega arith in
    ap (λ c. get_or places (8 * band + c) 0 + t / 8) low
    ∙ ap (λ p. p + t / 8) (columns (8 * band + t % 8) (omega arith))
    ∙ ap (λ b. 8 * n + n * index_of (8 * b + t % 8) order + t / 8) (sym same)
    ∙ sym (ap (λ b. cond b t (8 * n + n * index_of (8 * (band + 2 - 2) + t % 8) order + t / 8)) (ne_eqb (band + 2) 1 (λ e. omega arith)))
