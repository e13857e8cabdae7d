-- Each figure of the table, by computing. Assumes nothing.
use Rattle.std.proofs.Common.{◌≡◌, ℕ, ◌+◌, ◌%◌, List, [], ◌∷◌, ◌++◌, length, sum, drop, take, replicate, None, Ok, refl, ap, ◌∙◌, zero-add, arith, lit≤}
use Rattle.block.specs.Bits.{bit_at, octet_of}
use Rattle.block.specs.Checks.{extended}
use Rattle.block.specs.Refusals.{first_refusal}
use Rattle.block.specs.Sizes.{OnlySize, some_size}
use Rattle.code.specs.Places.{place_bit}
use Rattle.sender.specs.Passages.{Guard, copy_checks, onward, sent}
use Rattle.sender.specs.Sendings.{confirmed, made, next, none}
use Rattle.sender.specs.declared.senders.Sender.{Sender}
use Rattle.sender.proofs.Rounds.{asked_sum, sending_sent}
use Rattle.figures.specs.Figures.{AllHold, Confirmed, Holds, buffer_r, last_three, worked}
use Rattle.figures.specs.declared.Figure.TheVariants.{Passages}

-- a payload of five octets, with a check of four bits and two further columns, has a report of three octets alone
only_three : OnlySize 5 4 2 3
only_three = record { within = refl; fits = refl; alone = λ other e. omega (arith, e) }

-- a sender as it is made for a report of one octet and a check of four bits
abbrev smallest : Sender
smallest = record { size = record { octets = 1; check = 4; some = lit≤ tt; few = lit≤ tt; odd_half = refl; short = lit≤ tt }; cursor = 0 }

-- a target for a copy
abbrev target_of : ℕ → List ℕ
target_of count = replicate count 0

module _ (buffer : List ℕ) where
  -- a sending that has made no passage
  unsent : Confirmed 4 buffer [] []
  unsent = record { cursor = 0; asked = 0; sending = made smallest (refl, (refl, refl, refl)); passages = refl }

  -- and one more passage of one copy, which is confirmed
  more : (count : ℕ) → first_refusal (copy_checks 8 (length buffer) (length (target_of count)) count) ≡ None → (counts : List ℕ)
      → (kept : List ℕ) × Confirmed 4 buffer counts kept → (kept : List ℕ) × Confirmed 4 buffer (counts ++ count ∷ []) kept
  more count passes counts (kept, c) =
      let g : Guard = record { cursor = c.cursor; before = c.cursor; standing = c.cursor; round = 8 } in
      let target = target_of count in
      let target' = sent buffer 8 c.cursor count ++ drop count target in (
        kept ++ take count target',
        record {
          cursor = (c.cursor + count) % 8;
          asked = c.asked + (0 + count);
          sending = confirmed c.sending (record { g = g; begun = refl; copied = next none buffer target target' count (onward g count) (Ok tt) (passes, (refl, refl)) refl }) ((c.cursor + count) % 8) refl;
          passages = λ i. c.passages i ++ zero-add count i ∷ [];
        },
      )

  -- what confirmed passages of four, three and three octets kept
  kept_so : (kept : List ℕ) → Confirmed 4 buffer (4 ∷ 3 ∷ 3 ∷ []) kept → kept ≡ sent buffer 8 0 10
  kept_so kept c = sending_sent 1 4 buffer c.cursor kept c.asked c.sending ∙ ap (sent buffer 8 0) (asked_sum c.sending ∙ ap sum c.passages)

passages : Holds (Passages 0x80 4 (4 ∷ 3 ∷ 3 ∷ []) (0x60 ∷ 0x80 ∷ 0x0b ∷ []))
unfolding bit_at octet_of extended place_bit
passages =
    let buffer = buffer_r 0x80 4 in (
      more buffer 3 refl (4 ∷ 3 ∷ []) (more buffer 3 refl (4 ∷ []) (more buffer 4 refl [] ([], unsent buffer))),
      λ kept c. ap last_three (kept_so buffer kept c),
    )

pub all_hold : AllHold worked
unfolding bit_at octet_of extended place_bit some_size
all_hold = (
  refl,
  (
    (refl, refl),
    (
      (refl, refl),
      (
        (refl, refl),
        (
          (refl, refl),
          (
            (refl, refl),
            (
              passages,
              (
                (refl, refl),
                (
                  (refl, refl),
                  ((refl, refl), ((refl, refl), ((refl, only_three), (refl, tt)))),
                ),
              ),
            ),
          ),
        ),
      ),
    ),
  ),
)
