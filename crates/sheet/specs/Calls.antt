-- What each call of a sheet does, and which refuses what. N is the octets of a block. Assumes
-- nothing.
use Rattle.std.specs.Prelude.{◌≡◌, ℕ, ◌+◌, ◌*◌, ◌%◌, ◌<◌, Bool, not, ◌||◌, List, [], ◌∷◌, ◌++◌}
use Rattle.std.specs.Prelude.{length, is_some, Some, Option, Result, ◌==◌, nat_le, nat_lt}
use Rattle.block.specs.Refusals.{Case, Check, Performs, if_refuse, numbered}
use Rattle.block.specs.Sizes.{size_case, size_checks}
use Rattle.code.specs.Shapes.{Shape, block_length, shape_of}
use Rattle.weighing.specs.Alphabets.{Alphabet}
use Rattle.weighing.specs.Scales.{Scale}
use Rattle.weighing.specs.declared.Weighing.{Ghosts}
use Rattle.search.specs.Found.{Names, find_case, find_checks, message_at}
use Rattle.search.specs.Scratch.{Scratch, UsesFront, UsesScratch}
use Rattle.search.specs.Weights.{Sums, entry_sums}
use Rattle.search.specs.declared.Entry.{Entry}
use Rattle.search.specs.declared.refusal.FindRefusal.{FindRefusal}
use Rattle.sheet.specs.Books.{laid, most_symbols, sum_behind, unlawful}
use Rattle.sheet.specs.Verdicts.{IsVerdict}
use Rattle.sheet.specs.declared.answers.Decoded.{Decoded}
use Rattle.sheet.specs.declared.answers.Taken.{Taken}
use Rattle.sheet.specs.declared.sheets.Sheet.{Sheet}
use Rattle.sheet.specs.declared.refusals.OpenRefusal.{OpenRefusal}
use Rattle.sheet.specs.declared.refusals.OpenRefusal.TheVariants.{Size, Tally as short_to_open}
use Rattle.sheet.specs.declared.refusals.WipeRefusal.{WipeRefusal}
use Rattle.sheet.specs.declared.refusals.WipeRefusal.TheVariants.{Tally as short_to_wipe}
use Rattle.sheet.specs.declared.refusals.TakeRefusal.{TakeRefusal}
use Rattle.sheet.specs.declared.refusals.TakeRefusal.TheVariants.{Tally, Start, Count, Full, Symbol}

-- the cases of the refusal of an opening, where one for the size has that refusal's own case
abbrev pub open_case : OpenRefusal → Case
open_case (Size e) = size_case e
open_case short_to_open = numbered 6

abbrev pub wipe_case : WipeRefusal → Case
wipe_case short_to_wipe = numbered 6

-- The cases of the refusal of a take. Of the octets that are no symbols one is named, by its index:
-- `first`, that of the first octet that reads as none.
abbrev pub take_case : Option ℕ → TakeRefusal → Case
take_case first Tally = numbered 6
take_case first Start = numbered 7
take_case first Count = numbered 8
take_case first Full = numbered 10
take_case first (Symbol index) = record { number = 9; carries = first ≡ Some index }

-- a tally of under 32 * N entries
abbrev pub tally_short : ℕ → ℕ → Bool
tally_short n entries = nat_lt entries (32 * n)

abbrev pub open_checks : Shape → ℕ → List Check
open_checks shape entries =
    size_checks shape.octets shape.check
    ++ (if_refuse (tally_short (block_length shape) entries) 6 ∷ [])

abbrev pub wipe_checks : ℕ → ℕ → List Check
wipe_checks n entries = if_refuse (tally_short n entries) 6 ∷ []

-- a number of symbols that is refused: they come in eights, from 8 to 32 * N of them
abbrev pub count_refused : ℕ → ℕ → Bool
count_refused n symbols = symbols == 0 || (not (symbols % 8 == 0) || nat_lt (32 * n) symbols)

-- In their order: the tally, the start, how many symbols come, how many will then have been taken,
-- and the symbols themselves.
abbrev pub take_checks : {A V : Type 0} → Alphabet A V → ℕ → ℕ → ℕ → ℕ → List ℕ → List Check
take_checks a n entries count start octets =
    if_refuse (tally_short n entries) 6
    ∷ if_refuse (nat_le (4 * n) start) 7
    ∷ if_refuse (count_refused n (length octets)) 8
    ∷ if_refuse (nat_lt most_symbols (count + length octets)) 10
    ∷ if_refuse (is_some (unlawful a octets)) 9
    ∷ []

-- the entries of a block's places mean zero against both bits, and those behind stay
pub record Cleared {V : Type 0} (s : Scale V) (n : ℕ) (before after : List (Entry V)) : Type 0 where
  pub zeros : (p : ℕ) (b : Bool) → p < 32 * n → entry_sums s after p b ≡ s.zero
  pub front : UsesFront (32 * n) before after

-- Symbol i of a take goes to place (8 * start + i) mod (32 * N): behind what that place's entry
-- holds against each bit, the symbol's weight against it is added; the entries behind the block's
-- places stay.
pub record Laid {A V : Type 0} (a : Alphabet A V) (s : Scale V) (n start : ℕ) (octets : List ℕ)
    (before after : List (Entry V)) : Type 0 where
  pub sums : (p : ℕ) (b : Bool) → p < 32 * n
      → entry_sums s after p b
      ≡ sum_behind a s (entry_sums s before p b) p b (laid a (32 * n) (8 * start) octets)
  pub front : UsesFront (32 * n) before after

-- What a decode answers of the message that it names: its weight, and the verdict on it.
pub record NamesNearest {V : Type 0} (s : Scale V) (shape : Shape) (sums : Sums s)
    (target target' : List ℕ) (decoded : Decoded V) : Type 0 where
  pub names : Names s shape sums target target' decoded.weight
  pub verdict : IsVerdict shape (message_at shape target') decoded.verdict

module _ {W V : Type 0} {g : Ghosts W V} where
  -- the shape of a sheet's block
  abbrev pub shape_of_sheet : Sheet W V g → Shape
  shape_of_sheet sheet = shape_of sheet.shape

  -- and its N
  abbrev pub block_length_of : Sheet W V g → ℕ
  block_length_of sheet = block_length (shape_of_sheet sheet)

  -- the sheet before, but with this count
  pub record Counts (count : ℕ) (before after : Sheet W V g) : Type 0 where
    pub shape_stays : after.shape ≡ before.shape
    pub count_is : after.count ≡ count

  -- A sheet as it is opened: of the shape handed, with no symbol taken, and the entries of its
  -- places cleared.
  pub record Opened (shape : Shape) (tally tally' : List (Entry V)) (sheet : Sheet W V g)
      : Type 0 where
    pub shape_is : shape_of_sheet sheet ≡ shape
    pub none_taken : sheet.count ≡ 0
    pub cleared : Cleared g.scale (block_length shape) tally tally'

  -- Opening a sheet for a shape.
  abbrev pub Opens : Shape → List (Entry V) → List (Entry V)
      → Result (Sheet W V g) OpenRefusal → Type 0
  Opens shape tally tally' r =
      Performs (open_checks shape (length tally)) open_case (Opened shape tally tally')
      (tally' ≡ tally) r

  -- Wiping a sheet: entries and count are set to zero.
  abbrev pub Wipes : Sheet W V g → Sheet W V g → List (Entry V) → List (Entry V)
      → Result (Unit {0}) WipeRefusal → Type 0
  Wipes sheet sheet' tally tally' r =
      Performs (wipe_checks (block_length_of sheet) (length tally)) wipe_case
      (λ _. Counts 0 sheet sheet' × Cleared g.scale (block_length_of sheet) tally tally')
      ((sheet' ≡ sheet) × (tally' ≡ tally)) r

  -- What a performed take answers and leaves: how many symbols were taken since the opening or the
  -- last wipe, the sheet with that count, and the symbols laid.
  pub record TakesIn {A : Type 0} (a : Alphabet A V) (sheet sheet' : Sheet W V g)
      (tally tally' : List (Entry V)) (start : ℕ) (octets : List ℕ) (taken : Taken) : Type 0 where
    pub total_is : taken.total ≡ sheet.count + length octets
    pub counts : Counts taken.total sheet sheet'
    pub lays : Laid a g.scale (block_length_of sheet) start octets tally tally'

  -- Taking symbols onto a sheet.
  abbrev pub Takes : {A : Type 0} → Alphabet A V → Sheet W V g → Sheet W V g
      → List (Entry V) → List (Entry V) → ℕ → List ℕ → Result Taken TakeRefusal → Type 0
  Takes a sheet sheet' tally tally' start octets r =
      Performs (take_checks a (block_length_of sheet) (length tally) sheet.count start octets)
      (take_case (unlawful a octets)) (TakesIn a sheet sheet' tally tally' start octets)
      ((sheet' ≡ sheet) × (tally' ≡ tally)) r

  -- Decoding a sheet: a nearest message of its shape is named. Sheet and tally are only read.
  abbrev pub Decodes : Sheet W V g → List (Entry V) → List ℕ → List ℕ → Scratch V → Scratch V
      → Result (Decoded V) FindRefusal → Type 0
  Decodes sheet tally target target' scratch scratch' r =
      let n = block_length_of sheet in
      let sums = entry_sums g.scale tally in
      Performs (find_checks n (length tally) (length target) scratch) find_case
      (λ decoded. NamesNearest g.scale (shape_of_sheet sheet) sums target target' decoded
      × UsesScratch n scratch scratch')
      ((target' ≡ target) × (scratch' ≡ scratch)) r
