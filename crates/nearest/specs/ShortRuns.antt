-- A short run of a sheet that one call makes. Assumes nothing.
use Rattle.std.specs.Prelude.{◌≡◌, ℕ, List, [], ◌∷◌, length, Ok, Result}
use Rattle.block.specs.Refusals.{Performs}
use Rattle.code.specs.Columns.{order_r}
use Rattle.code.specs.Shapes.{Shape}
use Rattle.weighing.specs.Alphabets.{Alphabet}
use Rattle.weighing.specs.declared.Weighing.{Ghosts}
use Rattle.search.specs.Scratch.{Scratch}
use Rattle.search.specs.declared.Entry.{Entry}
use Rattle.sheet.specs.Calls.{Decodes, Opens, Takes, open_case, open_checks}
use Rattle.sheet.specs.Runs.{Call, Run, decodes, takes}
use Rattle.sheet.specs.declared.refusals.OpenRefusal.{OpenRefusal}
use Rattle.sheet.specs.declared.sheets.Sheet.{Sheet}
use Rattle.nearest.specs.declared.runs.ShortRun.{ShortRun}

-- a report of one octet with a check of four bits, in order R
abbrev pub smallest : Shape
smallest = record { octets = 1; check = 4; order = order_r }

-- what a short run is lent: the tally, the target and the scratch of its decode
pub record Lent (V : Type 0) : Type 0 where
  pub tally : List (Entry V)
  pub target : List ℕ
  pub scratch : Scratch V

abbrev pub loans : {V : Type 0} → List (Entry V) → List ℕ → Scratch V → Lent V
loans tally target scratch = record { tally = tally; target = target; scratch = scratch }

module _ {W V A : Type 0} (g : Ghosts W V) (a : Alphabet A V) (start : ℕ) (octets : List ℕ)
    (before after : Lent V) where
  -- the two calls behind the opening, the take on the tally that the opening left
  abbrev pub two_calls : List (Entry V) → ShortRun W A V g → List (Call V)
  two_calls opened run =
      takes start octets opened after.tally run.taken
      ∷ decodes after.tally before.target after.target before.scratch after.scratch run.decoded ∷ []

  -- An opening, a take and a decode, one after another: what each did, and the run that they make.
  pub record ThreeCalls (run : ShortRun W A V g) : Type 0 where
    pub opened : List (Entry V)
    pub new_sheet : Sheet W V g
    pub opening : Opens smallest before.tally opened (Ok new_sheet)
    pub taking : Takes a new_sheet run.sheet opened after.tally start octets run.taken
    pub decoding : Decodes run.sheet after.tally before.target after.target
        before.scratch after.scratch run.decoded
    pub makes : Run g a smallest (two_calls opened run)
        (record { sheet = run.sheet; tally = after.tally })

  -- Making these three calls: where the opening is refused no other is made, and all is as it was.
  abbrev pub MakesShortRun : Result (ShortRun W A V g) OpenRefusal → Type 0
  MakesShortRun r =
      Performs (open_checks smallest (length before.tally)) open_case ThreeCalls (after ≡ before) r
