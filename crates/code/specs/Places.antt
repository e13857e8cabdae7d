-- Where each coded bit stands in the buffer. N is the octets of a block, so the block has 8 * N
-- steps and the buffer 32 * N places in 4 * N octets; place 8 * b + i is bit i + 1 of octet b.
-- Assumes nothing.
use Rattle.std.specs.Prelude.{ℕ, ◌+◌, ◌-◌, ◌*◌, ◌/◌, ◌%◌, Bool, cond, List, ◌==◌, nat_lt}
use Rattle.std.specs.Prelude.{slice_index, slice_index_or}
use Rattle.block.specs.Bits.{octets_of}
use Rattle.code.specs.Columns.{index_of}
use Rattle.code.specs.Register.{silent}
use Rattle.code.specs.declared.registers.Outputs.{Outputs}

-- Behind the 8 * N places of output 1 stand the columns in their order, N rows each.
abbrev pub column_at : List ℕ → ℕ → ℕ → ℕ
column_at order n p = slice_index order ((p - 8 * n) / n)

abbrev pub row_at : ℕ → ℕ → ℕ
row_at n p = (p - 8 * n) % n

-- column a belongs to output a div 8 + 2, and its row i holds step 8 * i + (a mod 8)
abbrev pub output_at : List ℕ → ℕ → ℕ → ℕ
output_at order n p = cond (nat_lt p (8 * n)) 1 (column_at order n p / 8 + 2)

abbrev pub step_at : List ℕ → ℕ → ℕ → ℕ
step_at order n p = cond (nat_lt p (8 * n)) p (8 * row_at n p + column_at order n p % 8)

-- output 1, 2, 3 or 4 of a step
abbrev pub output : ℕ → Outputs → Bool
output o v = cond (o == 1) v.v1 (cond (o == 2) v.v2 (cond (o == 3) v.v3 v.v4))

-- the bit at place p, where `steps` are the outputs of a block's steps
unfoldable pub place_bit : List ℕ → ℕ → List Outputs → ℕ → Bool
place_bit order n steps p =
    output (output_at order n p) (slice_index_or steps (step_at order n p) silent.outputs)

-- the buffer of a block
abbrev pub buffer_of : List ℕ → ℕ → List Outputs → List ℕ
buffer_of order n steps = octets_of (place_bit order n steps) (4 * n)

-- the place of output o at step t
unfoldable pub place_of : List ℕ → ℕ → ℕ → ℕ → ℕ
place_of order n o t = cond (o == 1) t (8 * n + n * index_of (8 * (o - 2) + t % 8) order + t / 8)
