-- What the row of a hearing's checks comes to. Assumes nothing.
use Rattle.std.proofs.Common.{◌≡◌, ℕ, ◌*◌, List, [], ◌∷◌, ◌++◌, length, rules}
use Rattle.std.specs.Prelude.{is_some, nat_le, nat_lt}
use Rattle.block.specs.Refusals.{first_refusal, if_refuse}
use Rattle.block.specs.Sizes.{most_places, size_checks}
use Rattle.code.specs.Calls.{order_checks}
use Rattle.code.specs.Shapes.{Shape, block_length}
use Rattle.weighing.specs.Alphabets.{Alphabet}
use Rattle.sheet.specs.Books.{unlawful}
use Rattle.sheet.specs.Calls.{count_refused}
use Rattle.tally_c.specs.Hearing.{hear_checks, own_scratch}

-- The row is 4, 1, 2, 7, 8, 9, and 6 for the target, as the header lists them: the call's own tally and scratch are never short, and no
-- single take is too much.
pub told_checks : {A : Type 0} (a : Alphabet A ℕ) (shape : Shape) (start : ℕ) (symbols : List ℕ) (room : ℕ)
    → first_refusal (hear_checks a shape start symbols most_places room own_scratch)
    ≡ first_refusal (order_checks shape.order ++ (size_checks shape.octets shape.check ++ (
    if_refuse (nat_le (4 * block_length shape) start) 7
    ∷ if_refuse (count_refused (block_length shape) (length symbols)) 8
    ∷ if_refuse (is_some (unlawful a symbols)) 9
    ∷ if_refuse (nat_lt room (block_length shape)) 6 ∷ [])))
told_checks a shape start symbols room = search rules
