-- The lines that are told from the start are those of a listing. Assumes nothing.
use Rattle.std.proofs.Common.{◌≡◌, ℕ, ◌≤◌, Bool, true, false, cond, nat_lt, List, [], ◌∷◌, ◌++◌, map, length, refl, sym, ap, ◌∙◌, subst, arith, append_assoc, append-nil}
use Rattle.std.specs.Iterator.{Yields}
use Rattle.std.proofs.lemmas.Bool.Decides.{nat_tests}
use Rattle.weighing.specs.Alphabets.{Alphabet}
use Rattle.weighing.specs.Scales.{Scale}
use Rattle.weighing.specs.declared.Weighing.{Ghosts}
use Rattle.listing.specs.Buffers.{Buffers}
use Rattle.listing.specs.Captures.{acts_left, is_letter, letter_layout, most_capture_octets}
use Rattle.listing.specs.InForce.{InForce}
use Rattle.listing.specs.Lines.{LineContent, content, end_line, fault_line}
use Rattle.listing.specs.Listings.{EndsWith, IsListing, ReadSoFar, letter_read, listing, no_letter, nothing_told, too_long}
use Rattle.listing.specs.Telling.{AtStart, HasJustTold, HasTold, InEnding, Position, StageIs}
use Rattle.listing.specs.Whole.{AreListed, LinesGive, WasBegun, WasListed, held, standing_at}
use Rattle.listing.specs.declared.faults.Fault.TheVariants.{Letter}
use Rattle.listing.specs.declared.layouts.Layout.{Layout}
use Rattle.listing.specs.declared.lines.Line.{Line}
use Rattle.listing.specs.declared.telling.Lines.{Lines}
use Rattle.listing.specs.declared.telling.Progress.{Progress}
use Rattle.listing.specs.declared.telling.Stage.{Stage}
use Rattle.listing.specs.declared.telling.Stage.TheVariants.{Ended, NoLetter, Reading, TooLong}

module _ {A V : Type 0} (a : Alphabet A V) (s : Scale V) (room letter : ℕ) (capture : List ℕ) where
  -- a listing in its ending is whole where nothing is left
  ending_is_whole : (sheets : List InForce) (told : List (LineContent V)) → InEnding a s room letter capture sheets told []
      → IsListing a s room letter capture sheets told
  ending_is_whole sheets told ending =
      subst (IsListing a s room letter capture sheets) (sym ending.all)
      (listing (subst (EndsWith a s room letter capture sheets ending.records) (append-nil ending.first) ending.ends))

module _ {W V A : Type 0} {g : Ghosts W V} (a : Alphabet A V) (letter : ℕ) (capture : List ℕ) (lent : Buffers V) where
  pub was_begun : (told : List (LineContent V)) (there : Position g) → HasJustTold a letter capture lent told there
      → WasBegun a g.scale letter capture lent there.buffers told
  was_begun told there just = record { sheets = just.has.sheets; lines_are = just.begins; buffers_hold = just.has.stands.buffers }

  pub was_listed : (told : List (LineContent V)) (there : Position g) → there.progress.stage ≡ Ended → HasTold a letter capture lent told there
      → WasListed a g.scale letter capture lent there.buffers told
  was_listed told there ended has = record {
    sheets = has.sheets;
    lines_are = ending_is_whole a g.scale (length lent.tally) letter capture has.sheets told (subst (λ x. StageIs a (length lent.tally) letter capture there.progress x has.sheets told) ended has.stage_is);
    buffers_hold = has.stands.buffers;
  }

  -- the lines that `next` answers are told behind those before
  just_told : (lines at : Lines W V g) (before : List (LineContent V)) (told : List (Line V)) → HasJustTold a letter capture lent before (standing_at lines)
      → Yields (LinesGive a) lines told at → HasJustTold a letter capture lent (before ++ map content told) (standing_at at)
  just_told lines at before [] just same =
      subst (λ xs. HasJustTold a letter capture lent xs (standing_at at)) (sym (append-nil before)) (subst (λ x. HasJustTold a letter capture lent before (standing_at x)) same just)
  just_told lines at before (line ∷ more) just (next, gives, rest) =
      subst (λ xs. HasJustTold a letter capture lent xs (standing_at at)) (append_assoc before (content line ∷ []) (map content more))
      (just_told next at (before ++ content line ∷ []) more (gives.gives.tells letter capture lent before just.has) rest)

  are_listed : (lines : Lines W V g) → HasJustTold a letter capture lent [] (standing_at lines) → AreListed a letter capture lent (LinesGive a) lines
  are_listed lines just = record {
    so_far = λ told at yields. was_begun (map content told) (standing_at at) (just_told lines at [] told just yields);
    at_last = λ told end (at, yields, gives).
        was_listed (map content told) (standing_at end) (gives.gives.ends refl).0 (gives.gives.tells letter capture lent (map content told) (just_told lines at [] told just yields).has);
    stays = λ told at after yields gives. (gives.gives.ends refl).1;
    rests = λ told end from after line (at, yields, gives) same again.
        let none = again.gives.rests (ap (λ (x : Position g). x.progress.stage) same ∙ (gives.gives.ends refl).0) in
        (none, (again.gives.ends none).1 ∙ same);
  }

  -- the stage at the start
  starts_at : (long known : Bool) (progress : Progress W V g) → nat_lt most_capture_octets (length capture) ≡ long → is_letter letter capture ≡ known
      → (length capture ≤ most_capture_octets → progress.capture.now ≡ capture)
      → progress.at ≡ letter_layout → acts_left progress.acts ≡ []
      → StageIs a (length lent.tally) letter capture progress (cond long TooLong (cond known Reading NoLetter)) [] []
  starts_at true known progress is_long is_known same at none =
      record { records = []; first = []; ends = too_long (grind (arith, nat_tests, is_long)); all = refl }
  starts_at false false progress is_long is_known same at none = record {
    records = [];
    first = [];
    ends = subst (λ (x : Layout). EndsWith a g.scale (length lent.tally) letter capture [] [] (fault_line 0 Letter ∷ end_line x.record_number ∷ [])) (sym at) (no_letter (grind (arith, nat_tests, is_long)) is_known);
    all = refl;
  }
  starts_at false true progress is_long is_known same at none =
      let short : length capture ≤ most_capture_octets = grind (arith, nat_tests, is_long) in
      record {
        same = same short;
        read = subst (λ x. ReadSoFar a g.scale (length lent.tally) letter capture progress.at x [] []) (sym none)
            (subst (λ x. ReadSoFar a g.scale (length lent.tally) letter capture x [] [] []) (sym at) (letter_read short is_known));
      }

  -- lines that were lent these buffers, at the start
  pub starts : (stage : Stage) (progress : Progress W V g) → AtStart capture stage progress
      → stage ≡ cond (nat_lt most_capture_octets (length capture)) TooLong (cond (is_letter letter capture) Reading NoLetter)
      → HasTold a letter capture lent [] (record { progress = progress; buffers = lent })
  starts stage progress start is = record {
    sheets = [];
    stage_is = subst (λ x. StageIs a (length lent.tally) letter capture progress x [] []) (sym (start.stage_is ∙ is)) (starts_at _ _ progress refl refl start.same start.at_is start.none_left);
    stands = record {
      in_force = start.closed;
      buffers = record { tally = record { long = refl; each = λ p h e. refl }; paths = λ none. refl; rest = record { long = refl; rest = refl } };
    };
  }

  pub listed : (stage : Stage) (lines : Lines W V g) → held lines ≡ lent → AtStart capture stage lines.progress
      → stage ≡ cond (nat_lt most_capture_octets (length capture)) TooLong (cond (is_letter letter capture) Reading NoLetter)
      → AreListed a letter capture lent (LinesGive a) lines
  unfolding starts
  listed stage lines held_is start is =
      are_listed lines (subst (λ b. HasJustTold a letter capture lent [] (record { progress = lines.progress; buffers = b })) (sym held_is)
      (record { has = starts stage lines.progress start is; begins = nothing_told }))
