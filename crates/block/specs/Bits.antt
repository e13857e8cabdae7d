-- Octets as bits. In an octet, bit 1 has value 1, bit 8 has value 128, and bit 1 goes first.
-- Bits are counted from 0 here, so bit 0 of a number is the octet's bit 1. Assumes nothing.
use Rattle.std.specs.Prelude.{ℕ, ◌+◌, ◌*◌, ◌/◌, ◌%◌, ◌^◌, Bool, false, cond, List, map, ◌==◌}
use Rattle.std.specs.Prelude.{slice_index, slice_index_or}
use Rattle.std.specs.List.{range_with_len}

-- bit i of a number has the value 2 ^ i
abbrev pub bit : ℕ → ℕ → Bool
bit i x = x / 2 ^ i % 2 == 1

-- bit p of a row of octets, first octet first; behind the last octet every bit is 0
unfoldable pub bit_at : List ℕ → ℕ → Bool
bit_at octets p = bit (p % 8) (slice_index octets (p / 8))

-- the first n bits of a row of octets
abbrev pub bits_of : List ℕ → ℕ → List Bool
bits_of octets n = map (bit_at octets) (range_with_len 0 n)

-- a bit as a number
abbrev pub value : Bool → ℕ
value b = cond b 1 0

-- the octet whose bit i is f i
unfoldable pub octet_of : (ℕ → Bool) → ℕ
octet_of f =
    value (f 0) + 2 * value (f 1) + 4 * value (f 2) + 8 * value (f 3)
    + 16 * value (f 4) + 32 * value (f 5) + 64 * value (f 6) + 128 * value (f 7)

-- the n octets whose bit p, counted through all of them, is f p
abbrev pub octets_of : (ℕ → Bool) → ℕ → List ℕ
octets_of f n = map (λ b. octet_of (λ i. f (8 * b + i))) (range_with_len 0 n)

-- the n octets that a list of bits fills, 0 behind its end
abbrev pub filled : List Bool → ℕ → List ℕ
filled bits n = octets_of (λ p. slice_index_or bits p false) n
