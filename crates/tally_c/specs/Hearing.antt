-- Naming the nearest message in one call, and what C is told of it. Assumes nothing.
use Rattle.std.specs.Prelude.{◌≡◌, ℕ, false, cond, List, ◌++◌, length, replicate, Some, None}
use Rattle.std.specs.Prelude.{Option, Result, MatchResult}
use Rattle.block.specs.Refusals.{Case, Check, Performs}
use Rattle.block.specs.Sizes.{most_places, most_steps}
use Rattle.code.specs.Calls.{order_case, order_checks}
use Rattle.code.specs.Shapes.{Shape, block_length, places}
use Rattle.weighing.specs.Alphabets.{Alphabet}
use Rattle.weighing.specs.Scales.{Scale}
use Rattle.search.specs.Found.{find_case, find_checks}
use Rattle.search.specs.Scratch.{Scratch, scratch_of}
use Rattle.search.specs.Weights.{Sums}
use Rattle.search.specs.declared.Entry.{Entry}
use Rattle.sheet.specs.Books.{book_after, book_sums, empty, taking, unlawful}
use Rattle.sheet.specs.Calls.{NamesNearest, open_case, open_checks, take_case, take_checks}
use Rattle.sheet.specs.declared.answers.Decoded.{Decoded}
use Rattle.sheet.specs.declared.answers.Verdict.TheVariants.{Fits, DoesNotFit}
use Rattle.sheet.specs.declared.refusals.TakeRefusal.TheVariants.{Symbol}
use Rattle.tally_c.specs.declared.TallyHeard.{TallyHeard}
use Rattle.tally_c.specs.declared.refusals.HearRefusal.{HearRefusal}
use Rattle.tally_c.specs.declared.refusals.HearRefusal.TheVariants.{Order, Open, Take, Find}
use Rattle.tally_c.specs.Numbers.{Numbered}

-- the cases of a refusal: those of the call that refuses
abbrev pub hear_case : Option ℕ → HearRefusal → Case
hear_case first (Order e) = order_case e
hear_case first (Open e) = open_case e
hear_case first (Take e) = take_case first e
hear_case first (Find e) = find_case e

-- the index of a symbol that a refusal carries, and 0 where it carries none
abbrev pub symbol_index : HearRefusal → ℕ
symbol_index (Take (Symbol index)) = index
symbol_index (Order e) = 0
symbol_index (Open e) = 0
symbol_index (Take e) = 0
symbol_index (Find e) = 0

-- the scratch that each call keeps for itself, long enough for the longest block
abbrev pub own_scratch : Scratch ℕ
own_scratch = scratch_of (replicate most_steps 0) (replicate 32 None)

module _ {A V : Type 0} (a : Alphabet A V) where
  -- The column order is tested first, and then all that the calls of a sheet test: its opening over
  -- so many entries, the take, which is its first, and the decode.
  abbrev pub hear_checks : Shape → ℕ → List ℕ → (entries room : ℕ) → Scratch V → List Check
  hear_checks shape start symbols entries room scratch =
      let n = block_length shape in
      order_checks shape.order
      ++ (open_checks shape entries
      ++ (take_checks a n entries 0 start symbols ++ find_checks n entries room scratch))

  module _ (s : Scale V) (shape : Shape) (start : ℕ) (symbols : List ℕ) where
    -- the sums by the book of a sheet that takes these symbols alone
    abbrev pub heard_sums : Sums s
    heard_sums = book_sums a s (places shape) (book_after empty (taking start symbols))

    -- Hearing symbols from an octet on, over lent buffers: by that book the message that is named
    -- is nearest.
    abbrev pub Hears : List (Entry V) → Scratch V → List ℕ → List ℕ
        → Result (Decoded V) HearRefusal → Type 0
    Hears tally scratch target target' r =
        Performs (hear_checks shape start symbols (length tally) (length target) scratch)
        (hear_case (unlawful a symbols))
        (NamesNearest s shape heard_sums target target') (target' ≡ target) r

-- what C is told of a decode: its weight, and its verdict as a truth value
abbrev pub told_decode : TallyHeard → Decoded ℕ
told_decode heard = record {
  weight = heard.weight;
  verdict = cond heard.check_fits Fits DoesNotFit;
}

-- what is told of a refusal
abbrev pub told_refusal : Option ℕ → HearRefusal → TallyHeard
told_refusal first e = record {
  index = symbol_index e;
  weight = 0;
  refusal = (hear_case first e).number;
  check_fits = false;
}

-- what is told of a result
abbrev pub ShowsHeard : Result (Decoded ℕ) HearRefusal → TallyHeard → Type 0
ShowsHeard r heard =
    MatchResult r
    (λ decoded. (heard.refusal ≡ 0) × (heard.index ≡ 0) × (told_decode heard ≡ decoded))
    (λ e. (first : Option ℕ) → heard ≡ told_refusal first e)

-- What is told beside a refusal's number: with 9 the index of the first octet that reads as none,
-- and nothing else.
pub record WithRefusal {A V : Type 0} (a : Alphabet A V) (symbols : List ℕ) (heard : TallyHeard)
    : Type 0 where
  pub of_symbol : heard.refusal ≡ 9 → unlawful a symbols ≡ Some heard.index
  pub of_none : (heard.refusal ≡ 9 → ⊥) → heard.index ≡ 0
  pub no_weight : heard.weight ≡ 0
  pub no_verdict : heard.check_fits ≡ false

-- What C is told, and what the target then holds. The call's own tally has an entry for each place
-- of the longest block.
abbrev pub TellsHeard : {A : Type 0} → Alphabet A ℕ → Scale ℕ → Shape → ℕ → List ℕ → List ℕ → List ℕ
    → TallyHeard → Type 0
TellsHeard a s shape start symbols target target' heard =
    Numbered (hear_checks a shape start symbols most_places (length target) own_scratch)
    heard.refusal
    ((heard.index ≡ 0)
    × NamesNearest s shape (heard_sums a s shape start symbols) target target' (told_decode heard))
    (WithRefusal a symbols heard × (target' ≡ target))
