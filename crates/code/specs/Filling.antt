-- The buffer of a coded block, octet by octet: how the code goes about it. No promise of a public
-- call rests on this. Assumes nothing.
use Rattle.std.specs.Prelude.{◌≡◌, ℕ, ◌+◌, ◌-◌, ◌*◌, ◌/◌, ◌%◌, ◌<◌, Bool, cond, List}
use Rattle.std.specs.Prelude.{nat_lt, slice_index, slice_index_or}
use Rattle.block.specs.Bits.{octet_of}
use Rattle.code.specs.Rows.{blank, cell}
use Rattle.code.specs.declared.buffer.CodedBlock.{CodedBlock}

-- the bit at place q behind output 1
abbrev pub column_bit : CodedBlock → ℕ → Bool
column_bit block q =
    cell block.rows.now (slice_index block.order.now.columns (q / block.n)) (q % block.n)

-- an octet of the buffer that lies behind output 1
abbrev pub behind_octet : CodedBlock → ℕ → ℕ
behind_octet block b = octet_of (λ i. column_bit block (8 * b + i - 8 * block.n))

-- octet b of the buffer
unfoldable pub buffer_octet : CodedBlock → ℕ → ℕ
buffer_octet block b =
    cond (nat_lt b block.n) (slice_index_or block.rows.now b blank).v1 (behind_octet block b)

-- the first t octets of the buffer are there
unfoldable pub Filled : CodedBlock → ℕ → List ℕ → Type 0
Filled block t buffer = (b : ℕ) → b < t → slice_index buffer b ≡ buffer_octet block b
