-- The worked figures, and what each says of the rules: by the definitions that the contracts of the
-- calls cite. Assumes nothing.
use Rattle.std.specs.Prelude.{◌≡◌, ℕ, ◌-◌, true, List, [], ◌∷◌, length, drop, Some, None}
use Rattle.block.specs.Bits.{bit, bits_of}
use Rattle.block.specs.Checks.{check_of}
use Rattle.block.specs.Refusals.{first_refusal}
use Rattle.block.specs.Sizes.{OnlySize, back_checks, payload, plan_checks, size_checks}
use Rattle.code.specs.Calls.{encode_checks, encoded}
use Rattle.code.specs.Columns.{order_r}
use Rattle.code.specs.Register.{coded}
use Rattle.code.specs.declared.registers.Outputs.{Outputs}
use Rattle.sender.specs.Sendings.{Sending, asked_each}
use Rattle.figures.specs.declared.Figure.{Figure}
use Rattle.figures.specs.declared.Figure.TheVariants.{Closing, Check, Buffer, Passages, Payload}
use Rattle.figures.specs.declared.Figure.TheVariants.{Back, BackRefused}

-- the octets of a report's buffer, in order R
abbrev pub buffer_r : ℕ → ℕ → List ℕ
buffer_r report check = encoded (report ∷ []) check order_r

-- The octets that a sending over this buffer has confirmed, for a report of one octet, where its
-- confirmed passages were asked for so many octets each.
pub record Confirmed (check : ℕ) (buffer counts kept : List ℕ) : Type 0 where
  pub cursor : ℕ
  pub asked : ℕ
  pub sending : Sending 1 check buffer cursor kept asked
  pub passages : asked_each sending ≡ counts

-- the last three octets
abbrev pub last_three : List ℕ → List ℕ
last_three octets = drop (length octets - 3) octets

-- What a figure says. Of passages: there is a sending with these, and after every such sending the
-- confirmed octets end so, whatever passages were given up or leaked between.
abbrev pub Holds : Figure → Type 0
Holds (Closing bit outputs) = coded (bit ∷ []) ≡ outputs
Holds (Check report check field) =
    (first_refusal (size_checks 1 check) ≡ None)
    × (check_of check (bits_of (report ∷ []) 8) ≡ field)
Holds (Buffer report check buffer) =
    (first_refusal (encode_checks 1 check (length buffer)) ≡ None)
    × (buffer_r report check ≡ buffer)
Holds (Passages report check counts last) =
    let Kept = Confirmed check (buffer_r report check) counts in
    ((kept : List ℕ) × Kept kept) × ((kept : List ℕ) → Kept kept → last_three kept ≡ last)
Holds (Payload octets check k p) =
    (first_refusal (plan_checks octets check k) ≡ None) × (payload octets check k ≡ p)
Holds (Back p check k octets) =
    (first_refusal (back_checks p check k) ≡ None) × OnlySize p check k octets
Holds (BackRefused p check k refusal) = first_refusal (back_checks p check k) ≡ Some refusal

-- four outputs as one number, output 1 highest
abbrev pub outputs_of : ℕ → Outputs
outputs_of v = record { v1 = bit 3 v; v2 = bit 2 v; v3 = bit 1 v; v4 = bit 0 v }

-- the table
abbrev pub worked : List Figure
worked =
    Closing true (outputs_of 0b1111 ∷ outputs_of 0b1001 ∷ outputs_of 0b1010
    ∷ outputs_of 0b0111 ∷ outputs_of 0b1111 ∷ [])
    ∷ Check 0x80 4 0b1101 ∷ Check 0x01 4 0b1101 ∷ Check 0x81 4 0b0000
    ∷ Check 0x80 12 0b1000_0000_1111
    ∷ Buffer 0x80 4 (0x80 ∷ 0x0b ∷ 0x20 ∷ 0x60 ∷ 0x20 ∷ 0x62 ∷ 0x22 ∷ 0x60 ∷ [])
    ∷ Passages 0x80 4 (4 ∷ 3 ∷ 3 ∷ []) (0x60 ∷ 0x80 ∷ 0x0b ∷ [])
    ∷ Payload 1 4 5 4 ∷ Payload 1 4 16 6 ∷ Payload 47 20 2 63 ∷ Payload 512 28 24 2064
    ∷ Back 5 4 2 3 ∷ BackRefused 6 4 2 5
    ∷ []

-- the rules give every figure of a table
abbrev pub AllHold : List Figure → Type 0
AllHold [] = Unit {0}
AllHold (figure ∷ figures) = Holds figure × AllHold figures
