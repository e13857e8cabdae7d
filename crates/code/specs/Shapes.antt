-- The shape of a block, and the lengths that follow from it. Assumes nothing.
use Rattle.std.specs.Prelude.{ℕ, ◌+◌, ◌*◌, List}
use Rattle.block.specs.Sizes.{block_octets}
use Rattle.block.specs.declared.sizes.Size.{Size}
use Rattle.code.specs.declared.orders.Order.{Order}
use Rattle.code.specs.declared.shapes.Shape.{Shape as ShapeInCode}

-- T, the octets of the report; L, the bits of its check; and the order of the columns.
pub record Shape : Type 0 where
  pub octets : ℕ
  pub check : ℕ
  pub order : List ℕ

-- the shape of blocks of this size in this order, and the one that the code's struct holds
abbrev pub shape_with : Size → Order → Shape
shape_with size order =
    record { octets = size.octets; check = size.check; order = order.columns }

abbrev pub shape_of : ShapeInCode → Shape
shape_of s = shape_with s.size s.order

-- N: the octets of the block
abbrev pub block_length : Shape → ℕ
block_length shape = block_octets shape.octets shape.check

-- the places of its buffer, 32 * N
abbrev pub places : Shape → ℕ
places shape = 32 * block_length shape

-- the bits of a message, 8 * T + L
abbrev pub message_length : Shape → ℕ
message_length shape = 8 * shape.octets + shape.check
