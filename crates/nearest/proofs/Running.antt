-- A run by an opening, a take and a decode. Assumes nothing.
use Rattle.std.proofs.Common.{◌≡◌, ℕ, List, Ok, Err, Result, refl, subst}
use Rattle.code.specs.Columns.{order_r}
use Rattle.weighing.specs.Alphabets.{Alphabet}
use Rattle.weighing.specs.declared.Weighing.{Ghosts}
use Rattle.search.specs.declared.Entry.{Entry}
use Rattle.sheet.specs.Calls.{Decodes, Opens, Takes, block_length_of}
use Rattle.sheet.specs.Runs.{OwnTally}
use Rattle.sheet.specs.declared.answers.Taken.{Taken}
use Rattle.sheet.specs.declared.refusals.TakeRefusal.{TakeRefusal}
use Rattle.sheet.specs.declared.sheets.Sheet.{Sheet}
use Rattle.nearest.specs.ShortRuns.{Lent, ThreeCalls}
use Rattle.nearest.specs.declared.runs.ShortRun.{ShortRun}

-- a call that reads the sheet's own tally
read_own : {V A E : Type 0} (n : ℕ) (r : Result A E) (tally : List (Entry V)) → OwnTally n r tally tally tally tally
read_own n (Ok x) tally = (refl, refl)
read_own n (Err e) tally = refl

module _ {W V A : Type 0} (g : Ghosts W V) (a : Alphabet A V) where
  -- a take on the sheet's own tally
  took : (before after : Sheet W V g) (tally tally' : List (Entry V)) (start : ℕ) (octets : List ℕ) (r : Result Taken TakeRefusal)
      → Takes a before after tally tally' start octets r → OwnTally (block_length_of before) r tally tally' tally tally'
  took before after tally tally' start octets (Ok taken) takes = (refl, refl)
  took before after tally tally' start octets (Err e) takes = takes.2.1

  pub three_calls : (start : ℕ) (octets : List ℕ) (before after : Lent V) (run : ShortRun W A V g) (columns : List ℕ) (opened : List (Entry V)) (sheet : Sheet W V g)
      → columns ≡ order_r → Opens (record { octets = 1; check = 4; order = columns }) before.tally opened (Ok sheet)
      → Takes a sheet run.sheet opened after.tally start octets run.taken
      → Decodes run.sheet after.tally before.target after.target before.scratch after.scratch run.decoded
      → ThreeCalls g a start octets before after run
  three_calls start octets before after run columns opened sheet same opens takes decodes =
      let opening = subst (λ cs. Opens (record { octets = 1; check = 4; order = cs }) before.tally opened (Ok sheet)) same opens in
      record {
        opened = opened;
        new_sheet = sheet;
        opening = opening;
        taking = takes;
        decoding = decodes;
        makes = record {
          tally = before.tally;
          first = record { sheet = sheet; tally = opened };
          opening = opening;
          went = (
            record { sheet = run.sheet; tally = after.tally },
            (takes, took sheet run.sheet opened after.tally start octets run.taken takes),
            (
              record { sheet = run.sheet; tally = after.tally },
              (decodes, read_own (block_length_of run.sheet) run.decoded after.tally, refl),
              refl,
            ),
          );
        };
      }
