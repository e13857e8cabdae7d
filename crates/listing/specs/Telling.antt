-- How far a listing is told, and what the next line is. Assumes nothing.
use Rattle.std.specs.Prelude.{◌≡◌, ℕ, ◌+◌, ◌-◌, ◌*◌, ◌≤◌, true, false, cond, List, [], ◌∷◌, ◌++◌}
use Rattle.std.specs.Prelude.{length, Some, None, Option, nat_lt}
use Rattle.weighing.specs.Alphabets.{Alphabet}
use Rattle.weighing.specs.Scales.{Scale}
use Rattle.weighing.specs.declared.Weighing.{Ghosts}
use Rattle.search.specs.declared.Entry.{Entry}
use Rattle.listing.specs.Buffers.{Buffers}
use Rattle.listing.specs.Captures.{Act, acts_left, is_letter, is_of_another, letter_layout}
use Rattle.listing.specs.Captures.{most_capture_octets}
use Rattle.listing.specs.Carrying.{Bench, Stands, bench}
use Rattle.listing.specs.InForce.{InForce}
use Rattle.listing.specs.Lines.{LineContent, content, end_line, fault_line}
use Rattle.listing.specs.Listings.{BeginsListing, EndsWith, ReadSoFar}
use Rattle.listing.specs.declared.faults.Fault.TheVariants.{Letter, TooLong as too_long}
use Rattle.listing.specs.declared.lines.Line.{Line}
use Rattle.listing.specs.declared.telling.Progress.{Progress}
use Rattle.listing.specs.declared.telling.Stage.{Stage}
use Rattle.listing.specs.declared.telling.Stage.TheVariants.{TooLong, NoLetter, Reading, Stopped}
use Rattle.listing.specs.declared.telling.Stage.TheVariants.{Ended}

-- at least as many steps as are left, by the stage and by how many steps the records may still take
abbrev pub steps_left : Stage → ℕ → ℕ
steps_left TooLong more = 1
steps_left NoLetter more = 2
steps_left Reading more = more + 2
steps_left Stopped more = 1
steps_left Ended more = 0

-- the stage at which the listing of a capture begins
abbrev pub IsFirstStage : ℕ → List ℕ → Option Stage → Type 0
IsFirstStage letter capture None = is_of_another letter capture ≡ true
IsFirstStage letter capture (Some stage) =
    (is_of_another letter capture ≡ false)
    × (stage ≡ cond (nat_lt most_capture_octets (length capture)) TooLong
    (cond (is_letter letter capture) Reading NoLetter))

-- a record has at most four acts, and takes a step to begin
abbrev pub steps_to_go : {W V : Type 0} {g : Ghosts W V} → Progress W V g → ℕ
steps_to_go progress =
    steps_left progress.stage
    (5 * (length progress.capture.now - progress.at.end) + length (acts_left progress.acts))

-- How far the lines are told, with what stands in the buffers that a step is lent.
pub record Position {W V : Type 0} (g : Ghosts W V) : Type 0 where
  pub progress : Progress W V g
  pub buffers : Buffers V

module _ {W V : Type 0} {g : Ghosts W V} where
  abbrev pub position : Progress W V g → List (Entry V) → List (Option V) → Position g
  position progress tally paths =
      record { progress = progress; buffers = record { tally = tally; paths = paths } }

  -- the workspace there, with its buffers
  abbrev pub at_work : Position g → Bench g
  at_work there = bench there.progress.workspace there.buffers.tally there.buffers.paths

  -- the start of the lines: nothing is read of a capture that is too long
  pub record AtStart (capture : List ℕ) (stage : Stage) (progress : Progress W V g) : Type 0 where
    pub stage_is : progress.stage ≡ stage
    pub same : length capture ≤ most_capture_octets → progress.capture.now ≡ capture
    pub at_is : progress.at ≡ letter_layout
    pub none_left : acts_left progress.acts ≡ []
    pub closed : progress.workspace.sheet ≡ None

-- a listing in its ending, of which these lines are left
pub record InEnding {A V : Type 0} (a : Alphabet A V) (s : Scale V) (room letter : ℕ)
    (capture : List ℕ) (sheets : List InForce) (told left : List (LineContent V)) : Type 0 where
  pub records : List (LineContent V)
  pub first : List (LineContent V)
  pub ends : EndsWith a s room letter capture sheets records (first ++ left)
  pub all : told ≡ records ++ first

module _ {W V A : Type 0} {g : Ghosts W V} (a : Alphabet A V) where
  module _ (room letter : ℕ) (capture : List ℕ) (progress : Progress W V g) where
    -- the records of the capture are read, with these acts of the last one still to run
    pub record ReadsOn (left : List Act) (sheets : List InForce) (told : List (LineContent V))
        : Type 0 where
      pub same : progress.capture.now ≡ capture
      pub read : ReadSoFar a g.scale room letter capture progress.at left sheets told

    -- what each stage means
    abbrev pub StageIs : Stage → List InForce → List (LineContent V) → Type 0
    StageIs stage sheets told =
        let Ends : List (LineContent V) → Type 0 =
        InEnding a g.scale room letter capture sheets told in
        elim stage [
          | TooLong ↦ Ends (fault_line 0 too_long ∷ [])
          | NoLetter ↦ Ends (fault_line 0 Letter ∷ end_line progress.at.record_number ∷ [])
          | Reading ↦ ReadsOn (acts_left progress.acts) sheets told
          | Stopped ↦ Ends (end_line progress.at.record_number ∷ [])
          | Ended ↦ Ends []
        ]

  module _ (letter : ℕ) (capture : List ℕ) (lent : Buffers V) (told : List (LineContent V))
      (there : Position g) where
    -- these buffers were lent, and this is told of the capture
    pub record HasTold : Type 0 where
      pub sheets : List InForce
      pub stage_is :
          StageIs (length lent.tally) letter capture there.progress there.progress.stage sheets told
      pub stands : Stands a lent sheets told (at_work there)

    -- the same, with these acts of the last record still to run
    pub record HasToldBefore (acts : List Act) : Type 0 where
      pub sheets : List InForce
      pub reads : ReadsOn (length lent.tally) letter capture there.progress acts sheets told
      pub stands : Stands a lent sheets told (at_work there)

  -- the same, when the last line is just told
  pub record HasJustTold (letter : ℕ) (capture : List ℕ) (lent : Buffers V)
      (told : List (LineContent V)) (there : Position g) : Type 0 where
    pub has : HasTold letter capture lent told there
    pub begins : BeginsListing a g.scale (length lent.tally) letter capture has.sheets told

  -- behind a step that tells a line or none
  abbrev pub Told : ℕ → List ℕ → Buffers V → List (LineContent V) → Option (Line V) → Position g
      → Type 0
  Told letter capture lent told None there = HasTold letter capture lent told there
  Told letter capture lent told (Some line) there =
      HasJustTold letter capture lent (told ++ content line ∷ []) there

  -- a step: it tells a line or none, behind what was told
  abbrev pub StepsOn : Position g → Option (Line V) → Position g → Type 0
  StepsOn before line after =
      (letter : ℕ) (capture : List ℕ) (lent : Buffers V) (told : List (LineContent V))
      → HasTold letter capture lent told before → Told letter capture lent told line after

  -- a step that carries out an act, which stood before those that are left
  abbrev pub CarriesOn : Act → Position g → Option (Line V) → Position g → Type 0
  CarriesOn act before line after =
      (letter : ℕ) (capture : List ℕ) (lent : Buffers V) (told : List (LineContent V))
      → HasToldBefore letter capture lent told before (act ∷ acts_left before.progress.acts)
      → Told letter capture lent told line after

  -- What the next line is: one behind those told; or none where nothing is left to tell, and then
  -- there is none again, and all stays as it is.
  pub record Gives (before : Position g) (line : Option (Line V)) (after : Position g)
      : Type 0 where
    pub tells : StepsOn before line after
    pub ends : line ≡ None → (after.progress.stage ≡ Ended) × (after ≡ before)
    pub rests : before.progress.stage ≡ Ended → line ≡ None
