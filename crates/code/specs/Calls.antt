-- Which call of the code refuses what, in the order of the checks, and what a performed one leaves.
-- Assumes nothing.
use Rattle.std.specs.Prelude.{◌≡◌, ℕ, ◌+◌, ◌*◌, ◌<◌, false, not, List, [], ◌∷◌, ◌++◌, length, take}
use Rattle.std.specs.Prelude.{drop, Decides, Result, nat_lt, slice_index_or}
use Rattle.block.specs.Bits.{bit_at, bits_of}
use Rattle.block.specs.Checks.{FrontFits, report_message}
use Rattle.block.specs.Refusals.{Case, Check, if_refuse, numbered, Performs}
use Rattle.block.specs.Sizes.{block_octets, size_checks, size_case}
use Rattle.code.specs.Columns.{is_order}
use Rattle.code.specs.Places.{buffer_of}
use Rattle.code.specs.Register.{after, cleared, coded, tail}
use Rattle.code.specs.Shapes.{Shape, block_length}
use Rattle.code.specs.declared.orders.OrderRefusal.{OrderRefusal}
use Rattle.code.specs.declared.orders.OrderRefusal.TheVariants.{Columns}
use Rattle.code.specs.declared.encode.EncodeRefusal.{EncodeRefusal}
use Rattle.code.specs.declared.encode.EncodeRefusal.TheVariants.{Size as encode_size, Buffer}
use Rattle.code.specs.declared.peek.PeekRefusal.{PeekRefusal}
use Rattle.code.specs.declared.peek.PeekRefusal.TheVariants.{Size as peek_size, Received, Target}
use Rattle.code.specs.declared.peek.Peeked.{Peeked}

-- the case of the refusal of an order
abbrev pub order_case : OrderRefusal → Case
order_case Columns = numbered 4

abbrev pub order_checks : List ℕ → List Check
order_checks numbers = if_refuse (not (is_order numbers)) 4 ∷ []

abbrev pub encode_case : EncodeRefusal → Case
encode_case (encode_size e) = size_case e
encode_case Buffer = numbered 6

-- a report of T octets, a check of L bits, and a buffer of so many octets
abbrev pub encode_checks : ℕ → ℕ → ℕ → List Check
encode_checks octets check room =
    size_checks octets check ++ (if_refuse (nat_lt room (4 * block_octets octets check)) 6 ∷ [])

-- the 4 * N octets of a block of this shape whose report stands at the front of a row of octets
abbrev pub encoded_as : Shape → List ℕ → List ℕ
encoded_as shape row =
    buffer_of shape.order (block_length shape) (coded (report_message row shape.octets shape.check))

-- the 4 * N octets that a report is encoded to
abbrev pub encoded : List ℕ → ℕ → List ℕ → List ℕ
encoded report check order =
    encoded_as (record { octets = length report; check = check; order = order }) report

-- An encoded report is the buffer's first 4 * N octets, and the rest stays.
abbrev pub Encodes : List ℕ → ℕ → List ℕ → List ℕ → List ℕ
    → Result (Unit {0}) EncodeRefusal → Type 0
Encodes report check order before after r =
    let room = 4 * block_octets (length report) check in
    Performs (encode_checks (length report) check (length before)) encode_case
    (λ _. after ≡ encoded report check order ++ drop room before) (after ≡ before) r

abbrev pub peek_case : PeekRefusal → Case
peek_case (peek_size e) = size_case e
peek_case Received = numbered 5
peek_case Target = numbered 6

abbrev pub peek_checks : ℕ → ℕ → ℕ → ℕ → List Check
peek_checks octets check came room =
    size_checks octets check
    ++ (if_refuse (nat_lt came (block_octets octets check)) 5
    ∷ if_refuse (nat_lt room octets) 6 ∷ [])

-- the four bits behind a message's are its tail
abbrev pub TailFits : List ℕ → ℕ → Type 0
TailFits received bits =
    let due = tail (after cleared (bits_of received bits)) in
    (i : ℕ) → i < 4 → bit_at received (bits + i) ≡ slice_index_or due i false

-- A report that is read directly is the octets of output 1 as they came; the answer tells whether
-- check and tail fit.
abbrev pub Peeks : List ℕ → ℕ → ℕ → List ℕ → List ℕ → Result Peeked PeekRefusal → Type 0
Peeks received octets check before after r =
    Performs (peek_checks octets check (length received) (length before)) peek_case
    (λ p. Decides p.check_fits (FrontFits received octets check)
    × Decides p.tail_fits (TailFits received (8 * octets + check))
    × (after ≡ take octets received ++ drop octets before))
    (after ≡ before) r
