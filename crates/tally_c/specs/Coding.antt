-- Encoding and sending, and what C is told of them. Assumes nothing.
use Rattle.std.specs.Prelude.{◌≡◌, ℕ, List, ◌++◌, length, Ok, Result}
use Rattle.block.specs.Refusals.{Check, Performs}
use Rattle.block.specs.Sizes.{size_checks}
use Rattle.code.specs.Calls.{Encodes, encode_checks, order_checks}
use Rattle.sender.specs.Passages.{Begins, Confirms, Copies, Guard, copy_checks, passage_case}
use Rattle.sender.specs.Passages.{round_of}
use Rattle.sender.specs.declared.passages.PassageRefusal.{PassageRefusal}
use Rattle.tally_c.specs.Numbers.{Numbered}

-- The column order is tested first, and then all that encode tests; what is performed is an encode
-- in that order.
abbrev pub TellsEncoded : List ℕ → List ℕ → ℕ → List ℕ → List ℕ → ℕ → Type 0
TellsEncoded columns report check before after number =
    Numbered (order_checks columns ++ encode_checks (length report) check (length before)) number
    (Encodes report check columns before after (Ok tt)) (after ≡ before)

module _ (octets check cursor cursor' : ℕ) (buffer target target' : List ℕ) (count : ℕ) where
  -- A payload: a passage begins at the cursor, its copy is performed and moves it on, and it is
  -- confirmed.
  pub record Sent : Type 0 where
    pub begun : Guard
    pub moved : Guard
    pub begins : Begins octets check cursor begun
    pub copies : Copies buffer target target' count begun moved (Ok tt)
    pub confirms : Confirms moved cursor'

  -- and what a refusal leaves: all as it was
  abbrev pub Unsent : Type 0
  Unsent = (target' ≡ target) × (cursor' ≡ cursor)

  abbrev pub payload_checks : List Check
  payload_checks = copy_checks (round_of octets check) (length buffer) (length target) count

  -- A passage that is confirmed if its copy is performed.
  abbrev pub Sends : Result (Unit {0}) PassageRefusal → Type 0
  Sends r = Performs payload_checks passage_case (λ _. Sent) Unsent r

  -- The size is tested first, and then all that a copy tests.
  abbrev pub TellsSent : ℕ → Type 0
  TellsSent number = Numbered (size_checks octets check ++ payload_checks) number Sent Unsent
