-- A block by the octets of its outputs: how the code goes about it. No promise of a public call
-- rests on this. Assumes nothing.
use Rattle.std.specs.Prelude.{◌≡◌, ℕ, ◌+◌, ◌*◌, ◌/◌, ◌%◌, ◌<◌, ◌≤◌, Bool, cond, List, [], ◌∷◌}
use Rattle.std.specs.Prelude.{length, map, take, ◌==◌, slice_index, slice_index_or}
use Rattle.std.specs.List.{range_with_len}
use Rattle.block.specs.Bits.{bit, bits_of, octet_of}
use Rattle.code.specs.Places.{output}
use Rattle.code.specs.Register.{after, cells_of, silent}
use Rattle.code.specs.declared.registers.Outputs.{Outputs}
use Rattle.code.specs.declared.rows.Row.{Row}

-- the first t bits that f gives
abbrev pub first : (ℕ → Bool) → ℕ → List Bool
first f t = map f (range_with_len 0 t)

-- the bits of an octet
abbrev pub octet_bits : ℕ → List Bool
octet_bits x = bits_of (x ∷ []) 8

-- what comes into m1 at each step of an octet from a state, as an octet
abbrev pub came : ℕ → ℕ → ℕ
came s x = octet_of (λ i. (after (cells_of s) (take (i + 1) (octet_bits x))).m1)

-- output o of the eight steps of octet b, as an octet
abbrev pub row_octet : ℕ → List Outputs → ℕ → ℕ
row_octet o steps b = octet_of (λ i. output o (slice_index_or steps (8 * b + i) silent.outputs))

-- the outputs of the eight steps of octet b
abbrev pub steps_row : List Outputs → ℕ → Row
steps_row steps b = record {
  v1 = row_octet 1 steps b;
  v2 = row_octet 2 steps b;
  v3 = row_octet 3 steps b;
  v4 = row_octet 4 steps b;
}

-- what stands where there is no row
abbrev pub blank : Row
blank = record { v1 = 0; v2 = 0; v3 = 0; v4 = 0 }

-- the first n rows are those of the steps
unfoldable pub AreRows : List Outputs → ℕ → List Row → Type 0
AreRows steps n rows = (b : ℕ) → b < n → slice_index_or rows b blank ≡ steps_row steps b

-- output 1, 2, 3 or 4 of a row
abbrev pub row_output : ℕ → Row → ℕ
row_output o r = cond (o == 1) r.v1 (cond (o == 2) r.v2 (cond (o == 3) r.v3 r.v4))

-- output o of row b
abbrev pub output_octet : ℕ → List Row → ℕ → ℕ
output_octet o rows b = row_output o (slice_index_or rows b blank)

-- the first n octets of a band are output o of the rows
abbrev pub IsBand : ℕ → ℕ → List Row → List ℕ → Type 0
IsBand o n rows band =
    (n ≤ length band) × ((b : ℕ) → b < n → slice_index band b ≡ output_octet o rows b)

-- the bit in a row of a column
abbrev pub cell : List Row → ℕ → ℕ → Bool
cell rows column row = bit (column % 8) (output_octet (column / 8 + 2) rows row)
