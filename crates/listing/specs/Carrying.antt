-- What carrying out an act does to the workspace. Assumes nothing.
use Rattle.std.specs.Prelude.{◌≡◌, ℕ, ◌≤◌, List, [], ◌∷◌, ◌++◌, length, Some, None, Option, Result}
use Rattle.std.specs.Prelude.{MatchResult}
use Rattle.std.specs.Option.{ForSome}
use Rattle.code.specs.Shapes.{places}
use Rattle.weighing.specs.Alphabets.{Alphabet}
use Rattle.weighing.specs.declared.Weighing.{Ghosts}
use Rattle.search.specs.declared.Entry.{Entry}
use Rattle.sheet.specs.Calls.{shape_of_sheet}
use Rattle.sheet.specs.Runs.{Agrees, Standing}
use Rattle.sheet.specs.declared.sheets.Sheet.{Sheet}
use Rattle.listing.specs.Buffers.{Buffers, BuffersHold}
use Rattle.listing.specs.Captures.{Act}
use Rattle.listing.specs.InForce.{InForce}
use Rattle.listing.specs.Lines.{LineContent, answered, content}
use Rattle.listing.specs.Outcomes.{ComesOf, goes_on, stops}
use Rattle.listing.specs.declared.faults.Fault.{Fault}
use Rattle.listing.specs.declared.layouts.Layout.{Layout}
use Rattle.listing.specs.declared.lines.Line.{Line}
use Rattle.listing.specs.declared.workspaces.Workspace.{Workspace}

-- lines that were told, and behind them what is answered: a line or none
abbrev pub and_then : {V : Type 0} → List (LineContent V) → Option (Line V) → List (LineContent V)
and_then told None = told
and_then told (Some line) = told ++ content line ∷ []

-- A workspace, with what stands in the buffers that it is lent.
pub record Bench {W V : Type 0} (g : Ghosts W V) : Type 0 where
  pub sheet : Option (Sheet W V g)
  pub next_start : ℕ
  pub buffers : Buffers V

module _ {W V : Type 0} {g : Ghosts W V} where
  -- the code's workspace, with a tally and path weights
  abbrev pub bench : Workspace W V g → List (Entry V) → List (Option V) → Bench g
  bench workspace tally paths = record {
    sheet = workspace.sheet;
    next_start = workspace.next_start;
    buffers = record { tally = tally; paths = paths };
  }

  -- a tally with an entry for each place of the sheet in force
  abbrev pub HasRoom : Workspace W V g → List (Entry V) → Type 0
  HasRoom workspace tally =
      ForSome workspace.sheet (λ sheet. places (shape_of_sheet sheet) ≤ length tally)

  -- a sheet, and the tally of a workspace
  abbrev pub standing : Bench g → Sheet W V g → Standing g
  standing workspace sheet = record { sheet = sheet; tally = workspace.buffers.tally }

module _ {W V A : Type 0} {g : Ghosts W V} (a : Alphabet A V) where
  -- A workspace with a sheet in force: its sheet and its tally agree with the book.
  pub record HasInForce (workspace : Bench g) (force : InForce) (sheet : Sheet W V g)
      : Type 0 where
    pub sheet_is : workspace.sheet ≡ Some sheet
    pub next_is : workspace.next_start ≡ force.next_start
    pub agrees : Agrees g a force.shape force.book (standing workspace sheet)

  -- a workspace, and what is in force where these sheets were opened
  abbrev pub IsInForce : Bench g → List InForce → Type 0
  IsInForce workspace [] = workspace.sheet ≡ None
  IsInForce workspace (force ∷ earlier) = (sheet : Sheet W V g) × HasInForce workspace force sheet

  -- a workspace as it stands, where it was lent these buffers, these sheets were opened, and these
  -- lines told
  pub record Stands (lent : Buffers V) (sheets : List InForce) (told : List (LineContent V))
      (workspace : Bench g) : Type 0 where
    pub in_force : IsInForce workspace sheets
    pub buffers : BuffersHold a g.scale sheets told lent workspace.buffers

  -- What carrying out an act does: what comes of it by the rules, its line if it has one or its
  -- fault, is what is answered; and the workspace then stands as the rules say.
  abbrev pub CarriesOut : Layout → Act → Bench g → Bench g
      → Result (Option (Line V)) Fault → Type 0
  CarriesOut at act before after r =
      (lent : Buffers V) (sheets : List InForce) (told : List (LineContent V))
      → Stands lent sheets told before
      → let Comes = ComesOf a g.scale (length lent.tally) at sheets act in
      MatchResult r
      (λ line. (behind : List InForce) × Comes (goes_on (answered line) behind)
      × Stands lent behind (and_then told line) after)
      (λ fault. Comes (stops fault) × Stands lent sheets told after)
