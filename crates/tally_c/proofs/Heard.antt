-- An opening, a take and a decode, one after another, and what they make of one call. Assumes nothing.
use Rattle.std.proofs.Common.{◌≡◌, ℕ, true, List, length, MatchResult, Ok, Err, None, Option, Result, refl, sym, ◌∙◌, subst, ap, rules}
use Rattle.block.specs.Refusals.{first_refusal}
use Rattle.code.specs.Columns.{is_order}
use Rattle.code.specs.Shapes.{Shape, block_length, shape_of}
use Rattle.weighing.specs.Alphabets.{Alphabet}
use Rattle.weighing.specs.declared.Weighing.{Ghosts}
use Rattle.search.specs.Found.{find_checks}
use Rattle.search.specs.Scratch.{Scratch}
use Rattle.search.specs.declared.Entry.{Entry}
use Rattle.search.specs.declared.refusal.FindRefusal.{FindRefusal}
use Rattle.sheet.specs.Books.{empty}
use Rattle.sheet.specs.Calls.{Decodes, NamesNearest, Opens, Takes, block_length_of, open_checks, shape_of_sheet, take_checks}
use Rattle.sheet.specs.Runs.{Standing, book_behind, takes}
use Rattle.sheet.specs.declared.answers.Decoded.{Decoded}
use Rattle.sheet.specs.declared.answers.Taken.{Taken}
use Rattle.sheet.specs.declared.sheets.Sheet.{Sheet}
use Rattle.sheet.proofs.Keeping.{step_agrees, named_by_book, opened_agrees}
use Rattle.tally_c.specs.Hearing.{Hears, hear_checks, heard_sums}
use Rattle.tally_c.specs.declared.refusals.HearRefusal.{HearRefusal}
use Rattle.tally_c.specs.declared.refusals.HearRefusal.TheVariants.{Find}

-- where order, opening and take pass, all that is left to test is what the decode tests
only_decode : {A V : Type 0} (a : Alphabet A V) (shape : Shape) (entries start : ℕ) (symbols : List ℕ) (room : ℕ) (scratch : Scratch V)
    → is_order shape.order ≡ true → first_refusal (open_checks shape entries) ≡ None
    → first_refusal (take_checks a (block_length shape) entries 0 start symbols) ≡ None
    → first_refusal (hear_checks a shape start symbols entries room scratch) ≡ first_refusal (find_checks (block_length shape) entries room scratch)
only_decode a shape entries start symbols room scratch order opens taken = search rules

module _ {W V A : Type 0} {g : Ghosts W V} (a : Alphabet A V) (shape : Shape) (start : ℕ) (symbols : List ℕ)
    {tally₀ tally₁ tally₂ : List (Entry V)} {sheet sheet' : Sheet W V g} {taken : Taken}
    (opening : Opens shape tally₀ tally₁ (Ok sheet)) (taking : Takes a sheet sheet' tally₁ tally₂ start symbols (Ok taken)) where
  -- the sheet that has taken them is of the shape asked for
  same_shape : shape_of_sheet sheet' ≡ shape
  same_shape = ap shape_of taking.1.counts.shape_stays ∙ opening.1.shape_is

  -- the take is tested by the shape asked for, over the tally handed, and is the first
  take_passes : first_refusal (take_checks a (block_length shape) (length tally₀) 0 start symbols) ≡ None
  take_passes =
      let shaped = subst (λ (x : Shape). first_refusal (take_checks a (block_length x) (length tally₁) sheet.count start symbols) ≡ None) opening.1.shape_is taking.0 in
      let first = subst (λ count. first_refusal (take_checks a (block_length shape) (length tally₁) count start symbols) ≡ None) opening.1.none_taken shaped in
      subst (λ entries. first_refusal (take_checks a (block_length shape) entries 0 start symbols) ≡ None) opening.1.cleared.front.long first

  -- and what the call tests is then what the decode tests
  decode_left : (room : ℕ) (scratch : Scratch V) (found : Option ℕ) → is_order shape.order ≡ true
      → first_refusal (find_checks (block_length_of sheet') (length tally₂) room scratch) ≡ found
      → first_refusal (hear_checks a shape start symbols (length tally₀) room scratch) ≡ found
  decode_left room scratch found order e =
      let shaped = subst (λ (x : Shape). first_refusal (find_checks (block_length x) (length tally₂) room scratch) ≡ found) same_shape e in
      let long : length tally₂ ≡ length tally₀ = taking.1.lays.front.long ∙ opening.1.cleared.front.long in
      only_decode a shape (length tally₀) start symbols room scratch order opening.0 take_passes
      ∙ subst (λ entries. first_refusal (find_checks (block_length shape) entries room scratch) ≡ found) long shaped

  module _ (target target' : List ℕ) (scratch scratch' : Scratch V) where
    -- a performed decode names a nearest message by the book of the run that the three calls make
    names_heard : (decoded : Decoded V) → Decodes sheet' tally₂ target target' scratch scratch' (Ok decoded)
        → NamesNearest g.scale shape (heard_sums a g.scale shape start symbols) target target' decoded
    names_heard decoded decoding =
        let first : Standing g = record { sheet = sheet; tally = tally₁ } in
        let second : Standing g = record { sheet = sheet'; tally = tally₂ } in
        let call = takes start symbols tally₁ tally₂ (Ok taken) in
        let agrees = step_agrees g a shape empty first call second (opened_agrees g a shape tally₀ first opening) (taking, (refl, refl)) in
        named_by_book g a shape (book_behind empty call) second agrees target target' decoded
        (record { lent = tally₂; scratch = scratch; scratch' = scratch'; own = refl; performed = decoding })

    -- a decode that is performed or refused
    pub heard : (r : Result (Decoded V) FindRefusal) (mapped : Result (Decoded V) HearRefusal)
        → is_order shape.order ≡ true
        → Decodes sheet' tally₂ target target' scratch scratch' r
        → MatchResult r (λ decoded. mapped ≡ Ok decoded) (λ e. mapped ≡ Err (Find e))
        → Hears a g.scale shape start symbols tally₀ scratch target target' mapped
    heard (Ok decoded) mapped order decoding is =
        subst (Hears a g.scale shape start symbols tally₀ scratch target target') (sym is)
        (decode_left (length target) scratch None order decoding.0, names_heard decoded decoding)
    heard (Err e) mapped order decoding is =
        subst (Hears a g.scale shape start symbols tally₀ scratch target target') (sym is)
        (decode_left (length target) scratch _ order decoding.0, decoding.1, decoding.2.0)
