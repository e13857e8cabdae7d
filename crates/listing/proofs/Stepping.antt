-- What each step of a listing tells, and how the lines stand then. Assumes nothing.
use Rattle.std.proofs.Common.{◌≡◌, ℕ, ◌+◌, ◌<◌, ◌≤◌, List, [], ◌∷◌, ◌++◌, length, Ok, Err, Some, None, Option, refl, sym, ap, ◌∙◌, subst, append_assoc, append-nil}
use Rattle.weighing.specs.Alphabets.{Alphabet}
use Rattle.weighing.specs.Scales.{Scale}
use Rattle.weighing.specs.declared.Weighing.{Ghosts}
use Rattle.listing.specs.Buffers.{Buffers, NoDecode}
use Rattle.listing.specs.Captures.{Act, acts, acts_left, next_acts, next_layout, next_refusal}
use Rattle.listing.specs.Carrying.{Bench, CarriesOut, Stands, and_then}
use Rattle.listing.specs.Faults.{fault_says, record_fault}
use Rattle.listing.specs.InForce.{InForce}
use Rattle.listing.specs.Lines.{LineContent, answered, content, decode_line, end_line, fault_line}
use Rattle.listing.specs.Listings.{BeginsListing, EndsWith, ReadSoFar, act_stopped, act_told, act_went_on, all_read, ending_told, fault_told, reading_stopped, record_read}
use Rattle.listing.specs.Outcomes.{ComesOf, goes_on}
use Rattle.listing.specs.Telling.{CarriesOn, HasTold, HasToldBefore, InEnding, Position, ReadsOn, StageIs, StepsOn, at_work}
use Rattle.listing.specs.declared.faults.Fault.{Fault}
use Rattle.listing.specs.declared.lines.Line.{Line}
use Rattle.listing.specs.declared.lines.Line.TheVariants.{End, Fault as Faulty}
use Rattle.listing.specs.declared.telling.Stage.{Stage}
use Rattle.listing.specs.declared.telling.Stage.TheVariants.{Ended, Reading, Stopped}

cast : {X Y : Type 0} → X ≡ Y → X → Y
cast e x = subst (λ Z. Z) e x

module _ {V : Type 0} where
  -- where no decode is among lines, none is among the first of them
  pub no_decode_before : (xs ys : List (LineContent V)) → NoDecode (xs ++ ys) → NoDecode xs
  no_decode_before [] ys none = tt
  no_decode_before (decode_line r weight verdict octets ∷ xs) ys none = none
  no_decode_before (fault_line r fault ∷ xs) ys none = no_decode_before xs ys none
  no_decode_before (end_line r ∷ xs) ys none = no_decode_before xs ys none

  told_then : (told : List (LineContent V)) (line : Option (Line V)) → told ++ answered line ≡ and_then told line
  told_then told None = append-nil told
  told_then told (Some line) = refl

module _ {A V : Type 0} (a : Alphabet A V) (s : Scale V) where
  -- one line more of an ending
  pub one_more : (room letter : ℕ) (capture : List ℕ) (sheets : List InForce) (told left : List (LineContent V)) (line : LineContent V)
      → InEnding a s room letter capture sheets told (line ∷ left)
      → InEnding a s room letter capture sheets (told ++ line ∷ []) left × BeginsListing a s room letter capture sheets (told ++ line ∷ [])
  one_more room letter capture sheets told left line ending =
      let all : told ++ line ∷ [] ≡ ending.records ++ (ending.first ++ line ∷ []) =
      ap (λ xs. xs ++ line ∷ []) ending.all ∙ append_assoc ending.records ending.first (line ∷ []) in (
        record {
          records = ending.records;
          first = ending.first ++ line ∷ [];
          ends = subst (EndsWith a s room letter capture sheets ending.records) (sym (append_assoc ending.first (line ∷ []) left)) ending.ends;
          all = all;
        },
        subst (BeginsListing a s room letter capture sheets) (sym all) (ending_told ending.first line left ending.ends),
      )

  -- an ending of which nothing is told yet
  pub at_ending : (room letter : ℕ) (capture : List ℕ) (sheets : List InForce) (told ending : List (LineContent V))
      → EndsWith a s room letter capture sheets told ending → InEnding a s room letter capture sheets told ending
  at_ending room letter capture sheets told ending ends = record { records = told; first = []; ends = ends; all = sym (append-nil told) }

module _ {W V A : Type 0} {g : Ghosts W V} (a : Alphabet A V) where
  -- a workspace stands as it did when more is told
  pub stands_then : (lent : Buffers V) (sheets : List InForce) (told : List (LineContent V)) (line : Option (Line V)) (workspace : Bench g)
      → Stands a lent sheets told workspace → Stands a lent sheets (and_then told line) workspace
  stands_then lent sheets told None workspace stands = stands
  stands_then lent sheets told (Some line) workspace stands = record {
    in_force = stands.in_force;
    buffers = record {
      tally = stands.buffers.tally;
      paths = λ none. stands.buffers.paths (no_decode_before told (content line ∷ []) none);
      rest = stands.buffers.rest;
    };
  }

  -- a step that leaves the workspace: what it makes of the stage is all
  at_stage : (letter : ℕ) (capture : List ℕ) (lent : Buffers V) (told : List (LineContent V)) (line : Option (Line V)) (before after : Position g) (stage stage' : Stage)
      → before.progress.stage ≡ stage → after.progress.stage ≡ stage' → at_work after ≡ at_work before → (has : HasTold a letter capture lent told before)
      → (StageIs a (length lent.tally) letter capture before.progress stage has.sheets told
      → StageIs a (length lent.tally) letter capture after.progress stage' has.sheets (and_then told line))
      → HasTold a letter capture lent (and_then told line) after
  at_stage letter capture lent told line before after stage stage' is is' workspace has step =
      let room = length lent.tally in
      record {
        sheets = has.sheets;
        stage_is = subst (λ x. StageIs a room letter capture after.progress x has.sheets (and_then told line)) (sym is')
            (step (subst (λ x. StageIs a room letter capture before.progress x has.sheets told) is has.stage_is));
        stands = subst (Stands a lent has.sheets (and_then told line)) (sym workspace) (stands_then lent has.sheets told line (at_work before) has.stands);
      }

  pub told_by : (before after : Position g) (stage stage' : Stage) (line : Line V) → before.progress.stage ≡ stage → after.progress.stage ≡ stage'
      → at_work after ≡ at_work before
      → ((room letter : ℕ) (capture : List ℕ) (sheets : List InForce) (told : List (LineContent V)) → StageIs a room letter capture before.progress stage sheets told
      → StageIs a room letter capture after.progress stage' sheets (told ++ content line ∷ []) × BeginsListing a g.scale room letter capture sheets (told ++ content line ∷ []))
      → StepsOn a before (Some line) after
  unfolding at_stage
  told_by before after stage stage' line is is' workspace step letter capture lent told has =
      let room = length lent.tally in record {
        has = at_stage letter capture lent told (Some line) before after stage stage' is is' workspace has (λ at. (step room letter capture has.sheets told at).0);
        begins = (step room letter capture has.sheets told (subst (λ x. StageIs a room letter capture before.progress x has.sheets told) is has.stage_is)).1;
      }

  pub ended_told : (before after : Position g) → before.progress.stage ≡ Reading → acts_left before.progress.acts ≡ [] → length before.progress.capture.now ≤ before.progress.at.end
      → at_work after ≡ at_work before → after.progress.stage ≡ Ended
      → StepsOn a before (Some (End before.progress.at.record_number)) after
  ended_told before after stage none done workspace stage' =
      told_by before after Reading Ended (End before.progress.at.record_number) stage stage' workspace
      (λ room letter capture sheets told reads. one_more a g.scale room letter capture sheets told [] (end_line before.progress.at.record_number)
      (at_ending a g.scale room letter capture sheets told _
      (all_read (subst (λ x. ReadSoFar a g.scale room letter capture before.progress.at x sheets told) none reads.read) (subst (λ c. length c ≤ before.progress.at.end) reads.same done))))

  pub stopped_told : (before after : Position g) (fault : Fault) → before.progress.stage ≡ Reading → acts_left before.progress.acts ≡ [] → before.progress.at.end < length before.progress.capture.now
      → next_refusal before.progress.capture.now before.progress.at ≡ Some (fault_says fault).number
      → fault ≡ record_fault before.progress.at.end (fault_says fault).number
      → at_work after ≡ at_work before → after.progress.at ≡ before.progress.at → after.progress.stage ≡ Stopped
      → StepsOn a before (Some (Faulty (before.progress.at.record_number + 1) fault)) after
  stopped_told before after fault stage none more refuses is workspace at stage' =
      told_by before after Reading Stopped (Faulty (before.progress.at.record_number + 1) fault) stage stage' workspace
      (λ room letter capture sheets told reads.
      let r = before.progress.at.record_number in
      one_more a g.scale room letter capture sheets told (end_line after.progress.at.record_number ∷ []) (fault_line (r + 1) fault)
      (at_ending a g.scale room letter capture sheets told _
      (cast (λ i. EndsWith a g.scale room letter capture sheets told (fault_line (r + 1) (sym is i) ∷ end_line (sym at i).record_number ∷ []))
      (reading_stopped (subst (λ x. ReadSoFar a g.scale room letter capture before.progress.at x sheets told) none reads.read)
      (subst (λ c. before.progress.at.end < length c) reads.same more)
      (subst (λ c. next_refusal c before.progress.at ≡ Some (fault_says fault).number) reads.same refuses)))))

  pub begun : (before after : Position g) → before.progress.stage ≡ Reading → acts_left before.progress.acts ≡ [] → before.progress.at.end < length before.progress.capture.now
      → next_refusal before.progress.capture.now before.progress.at ≡ None
      → after.progress.at ≡ next_layout before.progress.capture.now before.progress.at → acts_left after.progress.acts ≡ acts after.progress.capture.now after.progress.at
      → after.progress.capture ≡ before.progress.capture → at_work after ≡ at_work before → after.progress.stage ≡ Reading
      → StepsOn a before None after
  begun before after stage none more passes at left_are capture_is workspace stage' letter capture lent told has =
      let acts_are : acts_left after.progress.acts ≡ next_acts before.progress.capture.now before.progress.at = left_are ∙ (λ j. acts ((capture_is j).now) (at j)) in
      at_stage letter capture lent told None before after Reading Reading stage stage' workspace has
      (λ reads. record {
        same = ap (λ c. c.now) capture_is ∙ reads.same;
        read = cast (λ i. ReadSoFar a g.scale (length lent.tally) letter capture (sym (at ∙ ap (λ c. next_layout c before.progress.at) reads.same) i)
            (sym (acts_are ∙ ap (λ c. next_acts c before.progress.at) reads.same) i) has.sheets told)
            (record_read (subst (λ x. ReadSoFar a g.scale (length lent.tally) letter capture before.progress.at x has.sheets told) none reads.read)
            (subst (λ c. before.progress.at.end < length c) reads.same more)
            (subst (λ c. next_refusal c before.progress.at ≡ None) reads.same passes));
      })

  -- an act that was carried out
  went_on : (letter : ℕ) (capture : List ℕ) (lent : Buffers V) (told : List (LineContent V)) (line : Option (Line V)) (before after : Position g) (act : Act)
      → (has : HasToldBefore a letter capture lent told before (act ∷ acts_left before.progress.acts))
      → (done : (behind : List InForce) × ComesOf a g.scale (length lent.tally) before.progress.at has.sheets act (goes_on (answered line) behind) × Stands a lent behind (and_then told line) (at_work after))
      → after.progress.capture ≡ before.progress.capture → after.progress.at ≡ before.progress.at → after.progress.acts ≡ before.progress.acts → after.progress.stage ≡ Reading
      → HasTold a letter capture lent (and_then told line) after
  went_on letter capture lent told line before after act has done capture_is at acts_are stage' =
      let room = length lent.tally in
      record {
        sheets = done.0;
        stage_is = subst (λ x. StageIs a room letter capture after.progress x done.0 (and_then told line)) (sym stage') (record {
          same = ap (λ c. c.now) capture_is ∙ has.reads.same;
          read = cast (λ i. ReadSoFar a g.scale room letter capture (sym at i) (acts_left (sym acts_are i)) done.0 (told_then told line i))
              (act_went_on has.reads.read done.1);
        });
        stands = done.2;
      }

  pub carried : (before after : Position g) (act : Act) (line : Option (Line V))
      → CarriesOut a before.progress.at act (at_work before) (at_work after) (Ok line)
      → after.progress.capture ≡ before.progress.capture → after.progress.at ≡ before.progress.at → after.progress.acts ≡ before.progress.acts → after.progress.stage ≡ Reading
      → CarriesOn a act before line after
  unfolding went_on
  carried before after act None does capture_is at acts_are stage' letter capture lent told has =
      went_on letter capture lent told None before after act has (does lent has.sheets told has.stands) capture_is at acts_are stage'
  carried before after act (Some line) does capture_is at acts_are stage' letter capture lent told has =
      let done = does lent has.sheets told has.stands in record {
        has = went_on letter capture lent told (Some line) before after act has done capture_is at acts_are stage';
        begins = act_told has.reads.read done.1;
      }

  pub skipped : (before after : Position g) (act : Act) (fault : Fault)
      → CarriesOut a before.progress.at act (at_work before) (at_work after) (Err fault)
      → after.progress.capture ≡ before.progress.capture → after.progress.at ≡ before.progress.at → acts_left after.progress.acts ≡ [] → after.progress.stage ≡ Reading
      → CarriesOn a act before (Some (Faulty before.progress.at.record_number fault)) after
  skipped before after act fault does capture_is at none stage' letter capture lent told has =
      let room = length lent.tally in
      let met = does lent has.sheets told has.stands in
      let line = Some (Faulty before.progress.at.record_number fault) in
      record {
        has = record {
          sheets = has.sheets;
          stage_is = subst (λ x. StageIs a room letter capture after.progress x has.sheets (and_then told line)) (sym stage') (record {
            same = ap (λ c. c.now) capture_is ∙ has.reads.same;
            read = cast (λ i. ReadSoFar a g.scale room letter capture (sym at i) (sym none i) has.sheets (and_then told line))
                (act_stopped has.reads.read met.0);
          });
          stands = stands_then lent has.sheets told line (at_work after) met.1;
        };
        begins = fault_told has.reads.read met.0;
      }

  -- a step that takes the next act and carries it out
  pub stepped : (before between after : Position g) (act : Act) (line : Option (Line V)) → before.progress.stage ≡ Reading
      → acts_left before.progress.acts ≡ act ∷ acts_left between.progress.acts
      → between.progress.capture ≡ before.progress.capture → at_work between ≡ at_work before → between.progress.at ≡ before.progress.at
      → CarriesOn a act between line after → StepsOn a before line after
  stepped before between after act line stage next capture_is workspace at carries letter capture lent told has =
      let room = length lent.tally in
      let reads : ReadsOn a room letter capture before.progress (acts_left before.progress.acts) has.sheets told =
      subst (λ x. StageIs a room letter capture before.progress x has.sheets told) stage has.stage_is in
      carries letter capture lent told (record {
        sheets = has.sheets;
        reads = record {
          same = ap (λ c. c.now) capture_is ∙ reads.same;
          read = cast (λ i. ReadSoFar a g.scale room letter capture (sym at i) (next i) has.sheets told) reads.read;
        };
        stands = subst (Stands a lent has.sheets told) (sym workspace) has.stands;
      })
