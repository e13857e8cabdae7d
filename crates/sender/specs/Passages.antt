-- What the calls of a sender and its passages do. Assumes nothing.
use Rattle.std.specs.Prelude.{◌≡◌, ℕ, ◌+◌, ◌*◌, ◌%◌, ◌||◌, List, [], ◌∷◌, ◌++◌, map, length, drop}
use Rattle.std.specs.Prelude.{Result, ◌==◌, nat_lt, slice_index}
use Rattle.std.specs.List.{range_with_len}
use Rattle.block.specs.Refusals.{Case, Check, if_refuse, numbered, Performs, Answers}
use Rattle.block.specs.Sizes.{block_octets, size_checks, size_case}
use Rattle.block.specs.declared.sizes.SizeRefusal.{SizeRefusal}
use Rattle.sender.specs.declared.passages.Passage.{Passage}
use Rattle.sender.specs.declared.senders.Sender.{Sender}
use Rattle.sender.specs.declared.passages.PassageRefusal.{PassageRefusal}
use Rattle.sender.specs.declared.passages.PassageRefusal.TheVariants.{Count, Short}

-- the cases of the refusal of a copy
abbrev pub passage_case : PassageRefusal → Case
passage_case Count = numbered 8
passage_case Short = numbered 6

-- a round is the 4 * N octets of the buffer
abbrev pub round_of : ℕ → ℕ → ℕ
round_of octets check = 4 * block_octets octets check

-- the `count` octets from octet `start` on, where octet 0 comes again after a round's last
abbrev pub sent : List ℕ → ℕ → ℕ → ℕ → List ℕ
sent buffer round start count =
    map (λ i. slice_index buffer ((start + i) % round)) (range_with_len 0 count)

-- a passage: the sender's cursor as it is, what it was when the passage began, where the passage
-- has come to, and the octets of a round
pub record Guard : Type 0 where
  pub cursor : ℕ
  pub before : ℕ
  pub standing : ℕ
  pub round : ℕ

abbrev pub held : Passage → Guard
held p =
    record { cursor = p.cursor.now; before = p.before; standing = p.standing; round = p.round }

-- A sender is made for a size, and stands at octet 0.
abbrev pub MakesSender : ℕ → ℕ → Result Sender SizeRefusal → Type 0
MakesSender octets check r =
    Answers (size_checks octets check) size_case
    (λ s. (s.size.octets ≡ octets) × (s.size.check ≡ check) × (s.cursor ≡ 0)) r

-- A passage begins where the sender stands, and leaves it there.
abbrev pub Begins : ℕ → ℕ → ℕ → Guard → Type 0
Begins octets check cursor g =
    g ≡ record {
      cursor = cursor;
      before = cursor;
      standing = cursor;
      round = round_of octets check;
    }

-- a copy has 1 to 4 * N octets; the buffer has a whole round, and the target room for the copy
abbrev pub copy_checks : ℕ → ℕ → ℕ → ℕ → List Check
copy_checks round given room count =
    if_refuse (count == 0 || nat_lt round count) 8
    ∷ if_refuse (nat_lt given round || nat_lt room count) 6 ∷ []

-- the passage `count` octets on: its own standing moves, and the sender's cursor stays
abbrev pub onward : Guard → ℕ → Guard
onward g count = record g { standing = (g.standing + count) % g.round }

-- A copy fills the target's front with the next octets, and moves on; a refused one changes
-- nothing.
abbrev pub Copies : List ℕ → List ℕ → List ℕ → ℕ → Guard → Guard
    → Result Unit PassageRefusal → Type 0
Copies buffer target target' count g g' r =
    Performs (copy_checks g.round (length buffer) (length target) count) passage_case
    (λ _. (target' ≡ sent buffer g.round g.standing count ++ drop count target)
    × (g' ≡ onward g count))
    ((target' ≡ target) × (g' ≡ g)) r

-- Where a passage leaves its sender: confirmed, where it has come to; given up, where it began; and
-- leaked, without an end, with the cursor as it is.
abbrev pub Confirms : Guard → ℕ → Type 0
Confirms g cursor = cursor ≡ g.standing

abbrev pub GivesUp : Guard → ℕ → Type 0
GivesUp g cursor = cursor ≡ g.before

abbrev pub Leaks : Guard → ℕ → Type 0
Leaks g cursor = cursor ≡ g.cursor
