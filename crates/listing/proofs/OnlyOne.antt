-- Two listings of one capture are alike, and open the same sheets. Assumes nothing.
use Rattle.std.proofs.Common.{◌≡◌, ℕ, ◌+◌, ◌<◌, ◌≤◌, true, false, List, [], ◌∷◌, ◌++◌, length, Some, None, refl, sym, ap, ◌∙◌, subst, arith, append_assoc, true≢false}
use Rattle.std.specs.List.{AllZip}
use Rattle.std.proofs.lemmas.Option.{none-some, same_Some}
use Rattle.block.specs.Refusals.{first_refusal}
use Rattle.weighing.specs.Alphabets.{Alphabet}
use Rattle.weighing.specs.Scales.{Scale}
use Rattle.sheet.specs.declared.answers.Verdict.{Verdict}
use Rattle.listing.specs.Captures.{Act, is_letter, letter_layout, most_capture_octets, next_acts, next_layout, next_refusal}
use Rattle.listing.specs.Faults.{fault_says, record_fault, says}
use Rattle.listing.specs.InForce.{InForce}
use Rattle.listing.specs.Lines.{LineContent, end_line, fault_line}
use Rattle.listing.specs.Listings.{BeginsListing, EndsWith, IsListing, ReadSoFar, act_stopped, act_told, ending_told, fault_told, nothing_told, act_went_on, all_read, letter_read, listing, no_letter, reading_stopped, record_read, too_long}
use Rattle.listing.specs.Outcomes.{ComesOf, Passes, TellsNearest, act_checks, act_stops, decode_goes_on, first_unlawful, goes_on, open_goes_on, stops, take_goes_on, wipe_goes_on}
use Rattle.listing.specs.Whole.{Alike, AlikeTheFirst, OneListing, decodes_alike, ends_alike, faults_alike}
use Rattle.listing.specs.declared.faults.Fault.{Fault}
use Rattle.listing.specs.declared.faults.Fault.TheVariants.{Letter, TooLong}
use Rattle.listing.specs.declared.layouts.Layout.{Layout}

module _ {A V : Type 0} (a : Alphabet A V) (s : Scale V) where
  abbrev Same : List (LineContent V) → List (LineContent V) → Type 0
  Same = AllZip (Alike s)

  -- two least weights are one
  least_is_one : (sheet : InForce) (w₁ w₂ : V) (v₁ v₂ : Verdict) (o₁ o₂ : List ℕ) → TellsNearest a s sheet w₁ v₁ o₁ → TellsNearest a s sheet w₂ v₂ o₂ → s.mean w₁ ≡ s.mean w₂
  least_is_one sheet w₁ w₂ v₁ v₂ o₁ o₂ one two =
      one.weighs ∙ s.laws.antisymmetric _ _ (one.nearest two.message two.long) (two.nearest one.message one.long) ∙ sym two.weighs

  joined : (first₁ first₂ rest₁ rest₂ : List (LineContent V)) → Same first₁ first₂ → Same rest₁ rest₂ → Same (first₁ ++ rest₁) (first₂ ++ rest₂)
  joined [] [] rest₁ rest₂ same more = more
  joined [] (y ∷ ys) rest₁ rest₂ same more = absurd same
  joined (x ∷ xs) [] rest₁ rest₂ same more = absurd same
  joined (x ∷ xs) (y ∷ ys) rest₁ rest₂ (one, same) more = (one, joined xs ys rest₁ rest₂ same more)

  module _ (room : ℕ) where
    -- an act that goes on has passed its tests
    passed : {at : Layout} {sheets : List InForce} {act : Act} {lines : List (LineContent V)} {behind : List InForce}
        → ComesOf a s room at sheets act (goes_on lines behind) → Passes a room sheets act
    passed (open_goes_on passes) = passes
    passed (take_goes_on passes) = passes
    passed (decode_goes_on passes tells) = passes
    passed (wipe_goes_on passes) = passes

    refused : {at : Layout} {sheets : List InForce} {act : Act} {fault : Fault}
        → ComesOf a s room at sheets act (stops fault) → (number : ℕ) × (first_refusal (act_checks a room sheets act) ≡ Some number)
    refused (act_stops {number = n} refuses is) = (n, refuses)

    -- one act goes on alike, and leaves the same sheets
    went_alike : {at : Layout} {sheets : List InForce} {act : Act} {lines₁ lines₂ : List (LineContent V)} {behind₁ behind₂ : List InForce}
        → ComesOf a s room at sheets act (goes_on lines₁ behind₁) → ComesOf a s room at sheets act (goes_on lines₂ behind₂) → (behind₂ ≡ behind₁) × Same lines₁ lines₂
    went_alike (open_goes_on passes) (open_goes_on passes') = (refl, tt)
    went_alike (take_goes_on passes) (take_goes_on passes') = (refl, tt)
    went_alike {at} (decode_goes_on {sheet} {weight = w₁} {verdict = v₁} {octets = o₁} passes one) (decode_goes_on {weight = w₂} {verdict = v₂} {octets = o₂} passes' two) =
        (refl, (decodes_alike at.record_number w₁ w₂ v₁ v₂ o₁ o₂ (least_is_one sheet w₁ w₂ v₁ v₂ o₁ o₂ one two), tt))
    went_alike (wipe_goes_on passes) (wipe_goes_on passes') = (refl, tt)

    -- and is stopped by faults that say the same
    stopped_alike : {at : Layout} {sheets : List InForce} {act : Act} {fault₁ fault₂ : Fault}
        → ComesOf a s room at sheets act (stops fault₁) → ComesOf a s room at sheets act (stops fault₂) → fault_says fault₁ ≡ fault_says fault₂
    stopped_alike {at} {act} (act_stops {number = n} refuses is) (act_stops {number = n'} refuses' is') =
        is.says_so ∙ ap (says at (first_unlawful a act)) (same_Some n n' (sym refuses ∙ refuses')) ∙ sym is'.says_so

    module _ (letter : ℕ) (capture : List ℕ) where
      -- What is told from a point on, and the sheets at last: a listing from the front, as `ReadSoFar` is one from the back.
      data Tells : Layout → List Act → (sheets last : List InForce) → List (LineContent V) → Type 0 where
        reads : {at : Layout} {sheets last : List InForce} {rest : List (LineContent V)} → at.end < length capture → next_refusal capture at ≡ None
            → Tells (next_layout capture at) (next_acts capture at) sheets last rest → Tells at [] sheets last rest
        goes : {at : Layout} {act : Act} {left : List Act} {sheets behind last : List InForce} {lines rest : List (LineContent V)}
            → ComesOf a s room at sheets act (goes_on lines behind) → Tells at left behind last rest → Tells at (act ∷ left) sheets last (lines ++ rest)
        skips : {at : Layout} {act : Act} {left : List Act} {sheets last : List InForce} {fault : Fault} {rest : List (LineContent V)}
            → ComesOf a s room at sheets act (stops fault) → Tells at [] sheets last rest → Tells at (act ∷ left) sheets last (fault_line at.record_number fault ∷ rest)
        stops_at : {at : Layout} {sheets : List InForce} {number : ℕ} → at.end < length capture → next_refusal capture at ≡ Some number
            → Tells at [] sheets sheets (fault_line (at.record_number + 1) (record_fault at.end number) ∷ end_line at.record_number ∷ [])
        ends_at : {at : Layout} {sheets : List InForce} → length capture ≤ at.end → Tells at [] sheets sheets (end_line at.record_number ∷ [])

      -- what was told so far, and what is told from there on
      from_start : {at : Layout} {left : List Act} {sheets last : List InForce} {told rest : List (LineContent V)}
          → ReadSoFar a s room letter capture at left sheets told → Tells at left sheets last rest → Tells letter_layout [] [] last (told ++ rest)
      from_start (letter_read short known) tells = tells
      from_start (record_read read more passes) tells = from_start read (reads more passes tells)
      from_start {last} {rest} (act_went_on {told} {lines} read comes) tells =
          subst (Tells letter_layout [] [] last) (sym (append_assoc told lines rest)) (from_start read (goes comes tells))
      from_start {at} {last} {rest} (act_stopped {told} {fault} read comes) tells =
          subst (Tells letter_layout [] [] last) (sym (append_assoc told (fault_line at.record_number fault ∷ []) rest)) (from_start read (skips comes tells))

      alike : {at : Layout} {left : List Act} {sheets last₁ last₂ : List InForce} {first second : List (LineContent V)}
          → Tells at left sheets last₁ first → Tells at left sheets last₂ second → (last₁ ≡ last₂) × Same first second
      alike (reads more passes one) (reads more' passes' two) = alike one two
      alike (reads more passes one) (stops_at {number = n} more' refuses) = absurd (none-some n (sym passes ∙ refuses))
      alike (reads more passes one) (ends_at done) = absurd (omega (arith, more, done))
      alike {at} {last₂} (goes {left} {lines = lines₁} {rest = rest₁} one more₁) (goes {lines = lines₂} {rest = rest₂} two more₂) =
          let here = went_alike one two in
          let later = alike more₁ (subst (λ f. Tells at left f last₂ rest₂) here.0 more₂) in
          (later.0, joined lines₁ lines₂ rest₁ rest₂ here.1 later.1)
      alike (goes one more) (skips two more') = let r = refused two in absurd (none-some r.0 (sym (passed one) ∙ r.1))
      alike (skips one more) (goes two more') = let r = refused one in absurd (none-some r.0 (sym (passed two) ∙ r.1))
      alike {at} (skips {fault = fault₁} one more₁) (skips {fault = fault₂} two more₂) =
          let later = alike more₁ more₂ in
          (later.0, (faults_alike at.record_number fault₁ fault₂ (stopped_alike one two), later.1))
      alike (stops_at {number = n} more refuses) (reads more' passes two) = absurd (none-some n (sym passes ∙ refuses))
      alike {at} (stops_at {number = n} more refuses) (stops_at {number = n'} more' refuses') =
          (refl, (faults_alike (at.record_number + 1) _ _ (ap (λ m. fault_says (record_fault at.end m)) (same_Some n n' (sym refuses ∙ refuses'))), (ends_alike at.record_number, tt)))
      alike (stops_at more refuses) (ends_at done) = absurd (omega (arith, more, done))
      alike (ends_at done) (reads more passes two) = absurd (omega (arith, more, done))
      alike (ends_at done) (stops_at more refuses) = absurd (omega (arith, more, done))
      alike {at} (ends_at done) (ends_at done') = (refl, (ends_alike at.record_number, tt))

      -- a listing with records, from the front; the others are one line, or two
      read_in : {at : Layout} {left : List Act} {sheets : List InForce} {told : List (LineContent V)}
          → ReadSoFar a s room letter capture at left sheets told → (length capture ≤ most_capture_octets) × (is_letter letter capture ≡ true)
      read_in (letter_read short known) = (short, known)
      read_in (record_read read more passes) = read_in read
      read_in (act_went_on read comes) = read_in read
      read_in (act_stopped read comes) = read_in read

      data Whole : List InForce → List (LineContent V) → Type 0 where
        of_too_long : most_capture_octets < length capture → Whole [] (fault_line 0 TooLong ∷ [])
        of_no_letter : length capture ≤ most_capture_octets → is_letter letter capture ≡ false → Whole [] (fault_line 0 Letter ∷ end_line 0 ∷ [])
        of_records : {last : List InForce} {lines : List (LineContent V)} → length capture ≤ most_capture_octets → is_letter letter capture ≡ true
            → Tells letter_layout [] [] last lines → Whole last lines

      whole : {sheets : List InForce} {told ending : List (LineContent V)} → EndsWith a s room letter capture sheets told ending → Whole sheets (told ++ ending)
      whole (too_long long) = of_too_long long
      whole (no_letter short unknown) = of_no_letter short unknown
      whole (all_read read done) = let known = read_in read in of_records known.0 known.1 (from_start read (ends_at done))
      whole (reading_stopped read more refuses) = let known = read_in read in of_records known.0 known.1 (from_start read (stops_at more refuses))

      both_whole : {last₁ last₂ : List InForce} {first second : List (LineContent V)} → Whole last₁ first → Whole last₂ second → (last₁ ≡ last₂) × Same first second
      both_whole (of_too_long long) (of_too_long long') = (refl, (faults_alike 0 TooLong TooLong refl, tt))
      both_whole (of_too_long long) (of_no_letter short unknown) = absurd (omega (arith, long, short))
      both_whole (of_too_long long) (of_records short known tells) = absurd (omega (arith, long, short))
      both_whole (of_no_letter short unknown) (of_too_long long) = absurd (omega (arith, long, short))
      both_whole (of_no_letter short unknown) (of_no_letter short' unknown') = (refl, (faults_alike 0 Letter Letter refl, (ends_alike 0, tt)))
      both_whole (of_no_letter short unknown) (of_records short' known tells) = absurd (true≢false (sym known ∙ unknown))
      both_whole (of_records short known tells) (of_too_long long) = absurd (omega (arith, long, short))
      both_whole (of_records short known tells) (of_no_letter short' unknown) = absurd (true≢false (sym known ∙ unknown))
      both_whole (of_records short known one) (of_records short' known' two) = alike one two

      -- What is told in a listing from where records are read, behind lines that are alike those told so far.
      record Ahead (at : Layout) (left : List Act) (sheets last : List InForce) (told all : List (LineContent V)) : Type 0 where
        front : List (LineContent V)
        rest : List (LineContent V)
        joins : all ≡ front ++ rest
        same : Same told front
        tells : Tells at left sheets last rest

      -- behind a point that is read on by an act
      on_from : {at : Layout} {left left' : List Act} {sheets sheets' last : List InForce} {told all : List (LineContent V)} (lines lines' rest' : List (LineContent V))
          → (ahead : Ahead at left sheets last told all) → ahead.rest ≡ lines' ++ rest' → Same lines lines' → Tells at left' sheets' last rest'
          → Ahead at left' sheets' last (told ++ lines) all
      on_from {told} lines lines' rest' ahead splits same tells = record {
        front = ahead.front ++ lines';
        rest = rest';
        joins = ahead.joins ∙ ap (λ xs. ahead.front ++ xs) splits ∙ sym (append_assoc ahead.front lines' rest');
        same = joined told ahead.front lines lines' ahead.same same;
        tells = tells;
      }

      read_on : {at : Layout} {sheets last : List InForce} {rest : List (LineContent V)} → at.end < length capture → next_refusal capture at ≡ None
          → Tells at [] sheets last rest → Tells (next_layout capture at) (next_acts capture at) sheets last rest
      read_on more passes (reads more' passes' tells) = tells
      read_on more passes (stops_at {number = n} more' refuses) = absurd (none-some n (sym passes ∙ refuses))
      read_on more passes (ends_at done) = absurd (omega (arith, more, done))

      -- what an act that went on tells, and what is told behind it
      record Went (at : Layout) (left : List Act) (behind last : List InForce) (lines rest : List (LineContent V)) : Type 0 where
        mine : List (LineContent V)
        others : List (LineContent V)
        splits : rest ≡ mine ++ others
        same : Same lines mine
        tells : Tells at left behind last others

      went : {at : Layout} {act : Act} {left : List Act} {sheets behind last : List InForce} {lines rest : List (LineContent V)}
          → ComesOf a s room at sheets act (goes_on lines behind) → Tells at (act ∷ left) sheets last rest → Went at left behind last lines rest
      went {at} {left} {last} comes (goes {lines = lines'} {rest = rest'} comes' tells) =
          let here = went_alike comes comes' in
          record { mine = lines'; others = rest'; splits = refl; same = here.1; tells = subst (λ f. Tells at left f last rest') here.0 tells }
      went comes (skips comes' tells) = let r = refused comes' in absurd (none-some r.0 (sym (passed comes) ∙ r.1))

      stopped : {at : Layout} {act : Act} {left : List Act} {sheets last : List InForce} {fault : Fault} {rest : List (LineContent V)}
          → ComesOf a s room at sheets act (stops fault) → Tells at (act ∷ left) sheets last rest → Went at [] sheets last (fault_line at.record_number fault ∷ []) rest
      stopped comes (goes comes' tells) = let r = refused comes in absurd (none-some r.0 (sym (passed comes') ∙ r.1))
      stopped {at} {fault} comes (skips {fault = fault'} {rest = rest'} comes' tells) = record {
        mine = fault_line at.record_number fault' ∷ [];
        others = rest';
        splits = refl;
        same = (faults_alike at.record_number fault fault' (stopped_alike comes comes'), tt);
        tells = tells;
      }

      ahead_of : {at : Layout} {left : List Act} {sheets last : List InForce} {told all : List (LineContent V)}
          → ReadSoFar a s room letter capture at left sheets told → Tells letter_layout [] [] last all → Ahead at left sheets last told all
      ahead_of {all} (letter_read short known) tells = record { front = []; rest = all; joins = refl; same = tt; tells = tells }
      ahead_of (record_read read more passes) tells =
          let here = ahead_of read tells in
          record { front = here.front; rest = here.rest; joins = here.joins; same = here.same; tells = read_on more passes here.tells }
      ahead_of (act_went_on {lines} read comes) tells =
          let here = ahead_of read tells in
          let on = went comes here.tells in
          on_from lines on.mine on.others here on.splits on.same on.tells
      ahead_of (act_stopped {at} {fault} read comes) tells =
          let here = ahead_of read tells in
          let on = stopped comes here.tells in
          on_from (fault_line at.record_number fault ∷ []) on.mine on.others here on.splits on.same on.tells

      read_first : {at : Layout} {left : List Act} {sheets last : List InForce} {told all : List (LineContent V)}
          → ReadSoFar a s room letter capture at left sheets told → Whole last all → AlikeTheFirst s told all
      read_first read (of_too_long long) = absurd (omega (arith, long, (read_in read).0))
      read_first read (of_no_letter short unknown) = absurd (true≢false (sym (read_in read).1 ∙ unknown))
      read_first read (of_records short known tells) =
          let here = ahead_of read tells in
          record { front = here.front; rest = here.rest; joined = here.joins; alike = here.same }

      -- lines that are alike all of others, in two parts
      first_part : (xs ys zs : List (LineContent V)) → Same (xs ++ ys) zs → AlikeTheFirst s xs zs
      first_part [] ys zs same = record { front = []; rest = zs; joined = refl; alike = tt }
      first_part (x ∷ xs) ys [] same = absurd same
      first_part (x ∷ xs) ys (z ∷ zs) (one, same) =
          let more = first_part xs ys zs same in
          record { front = z ∷ more.front; rest = more.rest; joined = ap (λ l. z ∷ l) more.joined; alike = (one, more.alike) }

      begun : {sheets last : List InForce} {first second : List (LineContent V)} → BeginsListing a s room letter capture sheets first → Whole last second → AlikeTheFirst s first second
      begun {second} nothing_told all = record { front = []; rest = second; joined = refl; alike = tt }
      begun (act_told read comes) all = read_first (act_went_on read comes) all
      begun (fault_told read comes) all = read_first (act_stopped read comes) all
      begun {second} (ending_told {told} first line rest ends) all =
          first_part (told ++ (first ++ line ∷ [])) rest second
          (subst (λ xs. Same xs second)
          (ap (λ xs. told ++ xs) (sym (append_assoc first (line ∷ []) rest)) ∙ sym (append_assoc told (first ++ line ∷ []) rest))
          (both_whole (whole ends) all).1)

pub one_listing : {A V : Type 0} (a : Alphabet A V) (s : Scale V) → OneListing a s
one_listing a s letter room capture sheets₁ sheets₂ first second (listing two) = (
  λ one. one_of a s letter room capture sheets₁ sheets₂ first one two,
  λ begins. begun a s room letter capture begins (whole a s room letter capture two),
)
  where
    one_of : {A V : Type 0} (a : Alphabet A V) (s : Scale V) (letter room : ℕ) (capture : List ℕ) (sheets₁ sheets₂ : List InForce) (first : List (LineContent V)) {told ending : List (LineContent V)}
        → IsListing a s room letter capture sheets₁ first → EndsWith a s room letter capture sheets₂ told ending → (sheets₁ ≡ sheets₂) × AllZip (Alike s) first (told ++ ending)
    one_of a s letter room capture sheets₁ sheets₂ first (listing one) two = both_whole a s room letter capture (whole a s room letter capture one) (whole a s room letter capture two)
