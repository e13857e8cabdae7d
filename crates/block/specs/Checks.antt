-- The check field: a remainder of polynomials over the two-element field. A polynomial is a number
-- whose bit j is the coefficient of x^j; their sum is `bit_xor`, and x times p is 2 * p.
-- Assumes nothing.
use Rattle.std.specs.Prelude.{◌≡◌, ℕ, ◌+◌, ◌-◌, ◌*◌, ◌^◌, ◌<◌, Bool, false, cond, List, map, take}
use Rattle.std.specs.Prelude.{fold, ◌==◌, bit_xor, nat_lt, slice_index_or}
use Rattle.std.specs.List.{range_with_len}
use Rattle.block.specs.Bits.{bit, bit_at, bits_of}

-- x^4+x^3+x^2+1; x^12+x^11+x^3+x^2+x+1; x^20+x^19+x^6+x^5+x^3+1; x^28+x^27+x^6+x^5+x^3+1
abbrev pub polynomial : ℕ → ℕ
polynomial check =
    cond (check == 4) 0b1_1101
    (cond (check == 12) 0b1_1000_0000_1111
    (cond (check == 20) 0b1_1000_0000_0000_0110_1001 0b1_1000_0000_0000_0000_0000_0110_1001))

-- p, of degree at most L, modulo the polynomial of degree L
abbrev pub reduced : ℕ → ℕ → ℕ
reduced check p = cond (bit check p) (bit_xor p (polynomial check)) p

-- r being the check of bits m, that of m followed by bit b is (r·x + b·x^L) modulo the polynomial
unfoldable pub extended : ℕ → ℕ → Bool → ℕ
extended check r b = reduced check (bit_xor (2 * r) (cond b (2 ^ check) 0))

-- the check of no bits is 0
abbrev pub check_of : ℕ → List Bool → ℕ
check_of check bits = fold (extended check) 0 bits

-- term i of a check field of L bits, in the order of coding: the highest term of the check first
abbrev pub term : ℕ → ℕ → ℕ → Bool
term check field i = bit (check - 1 - i) field

-- A message is 8 * T + L bits, and its check fits where the L last are the check of those before.
unfoldable pub CheckFits : ℕ → ℕ → List Bool → Type 0
CheckFits octets check message =
    (i : ℕ) → i < check
    → slice_index_or message (8 * octets + i) false
    ≡ term check (check_of check (take (8 * octets) message)) i

-- the check of the message at the front of a row of octets fits
abbrev pub FrontFits : List ℕ → ℕ → ℕ → Type 0
FrontFits row octets check = CheckFits octets check (bits_of row (8 * octets + check))

-- the check of the report at the front of a row of octets
abbrev pub report_check : List ℕ → ℕ → ℕ → ℕ
report_check row octets check = check_of check (bits_of row (8 * octets))

-- bit t of the message that a report of T octets is coded as: its own bits, then its check
abbrev pub report_bit : List ℕ → ℕ → ℕ → ℕ → Bool
report_bit report octets check t =
    cond (nat_lt t (8 * octets)) (bit_at report t)
    (term check (report_check report octets check) (t - 8 * octets))

abbrev pub report_message : List ℕ → ℕ → ℕ → List Bool
report_message report octets check =
    map (report_bit report octets check) (range_with_len 0 (8 * octets + check))
