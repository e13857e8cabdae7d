-- Every call of a sheet keeps its tally as its book has it. Assumes nothing.
use Rattle.std.proofs.Common.{◌≡◌, ℕ, ◌+◌, ◌*◌, ◌<◌, ◌≤◌, Bool, true, List, [], ◌∷◌, fold, map, length, get_or, take, Ok, Err, None, Result, sym, refl, ap, ◌∙◌, subst, arith, rules}
use Rattle.std.proofs.lemmas.List.Sums.{fold-append}
use Rattle.std.proofs.lemmas.List.{get_or-take, length-take, take-map}
use Rattle.std.proofs.lemmas.List.FromFn.{length-map-range_with_len}
use Rattle.block.specs.Bits.{bit_at}
use Rattle.block.specs.Refusals.{first_refusal}
use Rattle.code.specs.Columns.{is_order}
use Rattle.code.specs.Shapes.{Shape, block_length, message_length, places, shape_of}
use Rattle.weighing.specs.Alphabets.{Alphabet}
use Rattle.weighing.specs.Scales.{Scale}
use Rattle.weighing.specs.declared.Weighing.{Ghosts}
use Rattle.search.specs.Found.{message_at}
use Rattle.search.specs.Weights.{entry_sums, side, weight_of}
use Rattle.search.specs.declared.Entry.{Entry}
use Rattle.search.specs.declared.refusal.FindRefusal.{FindRefusal}
use Rattle.search.proofs.Growth.{weight_same}
use Rattle.sheet.specs.Books.{Book, Event, book_sums, empty, noted, sum_after, taken}
use Rattle.sheet.specs.Calls.{Cleared, Laid, NamesNearest, Opens, block_length_of, open_checks, shape_of_sheet}
use Rattle.sheet.specs.Runs.{Agrees, Call, DecodedAt, RunStep, OwnTally, Run, SamePlaces, Standing, RunSteps, book_of, decodes, book_behind, takes, wipes}
use Rattle.sheet.specs.declared.answers.Decoded.{Decoded}
use Rattle.sheet.specs.declared.sheets.Sheet.{Sheet}

-- an opening is performed on a tally that has an entry for each place
pub opened_room : (shape : Shape) (tally : ℕ) → first_refusal (open_checks shape tally) ≡ None → places shape ≤ tally
opened_room shape tally e = search rules

module _ {V : Type 0} where
  -- the same entries at each place: there is room for them, and they mean the same sums
  pub same_room : (n : ℕ) (lent tally : List (Entry V)) → SamePlaces n lent tally → 32 * n ≤ length tally → 32 * n ≤ length lent
  same_room n lent tally same h = omega (arith, ap length same, length-take (32 * n) lent, length-take (32 * n) tally)

  pub same_sums : (s : Scale V) (n : ℕ) (lent tally : List (Entry V)) → SamePlaces n lent tally
      → (p : ℕ) (b : Bool) → p < 32 * n → entry_sums s lent p b ≡ entry_sums s tally p b
  unfolding entry_sums
  same_sums s n lent tally same p b h =
      let f : Entry V → s.Meaning = λ e. s.mean (side b e) in
      sym (get_or-take (32 * n) (map f lent) p s.zero h)
      ∙ ap (λ xs. get_or xs p s.zero) (take-map f (32 * n) lent ∙ ap (map f) same ∙ sym (take-map f (32 * n) tally))
      ∙ get_or-take (32 * n) (map f tally) p s.zero h

  -- a call that only reads what it is lent leaves the sheet's own entries
  pub own_stays : {A E : Type 0} (n : ℕ) (r : Result A E) (lent tally tally' : List (Entry V)) → OwnTally n r lent lent tally tally' → SamePlaces n tally' tally
  own_stays n (Ok x) lent tally tally' own = cc (own.0, own.1)
  own_stays n (Err e) lent tally tally' own = ap (take (32 * n)) own

module _ {W V : Type 0} {g : Ghosts W V} (sheet : Sheet W V g) where
  -- an order of which no value lacks a column, and steps that are whole octets
  pub ordered : (shape : Shape) → shape_of_sheet sheet ≡ shape → is_order shape.order ≡ true
  ordered shape is = subst (λ (x : Shape). is_order x.order ≡ true) is sheet.shape.order.each

  pub whole : (shape : Shape) → shape_of_sheet sheet ≡ shape → message_length shape + 4 ≡ 8 * block_length shape
  whole shape is =
      let own : message_length (shape_of_sheet sheet) + 4 ≡ 8 * block_length (shape_of_sheet sheet) = omega (arith, sheet.shape.size.odd_half) in
      subst (λ (x : Shape). message_length x + 4 ≡ 8 * block_length x) is own

module _ {A V : Type 0} (a : Alphabet A V) (s : Scale V) where
  -- a place's sum once an event is noted
  pub noted_sum : (places : ℕ) (book : Book) (event : Event) (p : ℕ) (b : Bool)
      → book_sums a s places (noted book event) p b ≡ sum_after a s places (book_sums a s places book p b) p b event
  unfolding book_sums
  noted_sum places book event p b = fold-append (λ w e. sum_after a s places w p b e) s.zero book.events (event ∷ [])

  pub empty_sum : (places p : ℕ) (b : Bool) → book_sums a s places empty p b ≡ s.zero
  unfolding book_sums
  empty_sum places p b = refl

module _ {W V A : Type 0} (g : Ghosts W V) (a : Alphabet A V) (shape : Shape) where
  abbrev n : ℕ
  n = block_length shape

  abbrev s : Scale V
  s = g.scale

  -- a call that changes nothing at the places
  same_agrees : (book : Book) (before after : Standing g) → Agrees g a shape book before → after.sheet ≡ before.sheet
      → SamePlaces (block_length_of before.sheet) after.tally before.tally → Agrees g a shape book after
  same_agrees book before after agrees sheet tally =
      let same : SamePlaces n after.tally before.tally = subst (λ (x : Shape). SamePlaces (block_length x) after.tally before.tally) agrees.shape_is tally in
      record {
        shape_is = ap (λ x. shape_of_sheet x) sheet ∙ agrees.shape_is;
        room = same_room n after.tally before.tally same agrees.room;
        entries = λ p b h. same_sums s n after.tally before.tally same p b h ∙ agrees.entries p b h;
        count_is = ap (λ (x : Sheet W V g). x.count) sheet ∙ agrees.count_is;
      }

  pub step_agrees : (book : Book) (before : Standing g) (call : Call V) (after : Standing g) → Agrees g a shape book before
      → RunStep g a before call after → Agrees g a shape (book_behind book call) after
  step_agrees book before (takes start octets lent left (Err e)) after agrees does =
      same_agrees book before after agrees does.0.2.0 (ap (take (32 * block_length_of before.sheet)) does.1)
  step_agrees book before (takes start octets lent left (Ok total)) after agrees does =
      let is = agrees.shape_is in
      let done = does.0.1 in
      let lays : Laid a s n start octets lent left = subst (λ (x : Shape). Laid a s (block_length x) start octets lent left) is done.lays in
      let same : SamePlaces n lent before.tally = subst (λ (x : Shape). SamePlaces (block_length x) lent before.tally) is does.1.0 in
      record {
        shape_is = ap (λ x. shape_of x) done.counts.shape_stays ∙ is;
        room = omega (arith, same_room n lent before.tally same agrees.room, lays.front.long, ap length does.1.1);
        entries = λ p b h.
            cc (does.1.1, lays.sums p b h, same_sums s n lent before.tally same p b h, agrees.entries p b h, noted_sum a s (places shape) book (taken start octets) p b);
        count_is = cc (done.counts.count_is, done.total_is, agrees.count_is);
      }
  step_agrees book before (decodes lent target target' scratch scratch' (Ok x)) after agrees does =
      same_agrees book before after agrees does.2 (own_stays {E = FindRefusal} (block_length_of before.sheet) (Ok x) lent before.tally after.tally does.1)
  step_agrees book before (decodes lent target target' scratch scratch' (Err e)) after agrees does =
      same_agrees book before after agrees does.2 (ap (take (32 * block_length_of before.sheet)) does.1)
  step_agrees book before (wipes lent left (Err e)) after agrees does =
      same_agrees book before after agrees does.0.2.0 (ap (take (32 * block_length_of before.sheet)) does.1)
  step_agrees book before (wipes lent left (Ok x)) after agrees does =
      let is = agrees.shape_is in
      let done = does.0.1 in
      let clears : Cleared s n lent left = subst (λ (x : Shape). Cleared s (block_length x) lent left) is done.1 in
      let same : SamePlaces n lent before.tally = subst (λ (x : Shape). SamePlaces (block_length x) lent before.tally) is does.1.0 in
      record {
        shape_is = ap (λ x. shape_of x) done.0.shape_stays ∙ is;
        room = omega (arith, same_room n lent before.tally same agrees.room, clears.front.long, ap length does.1.1);
        entries = λ p b h. cc (does.1.1, clears.zeros p b h, empty_sum a s (places shape) p b);
        count_is = done.0.count_is;
      }

  -- a sheet that is newly opened agrees with the empty book
  pub opened_agrees : (tally : List (Entry V)) (st : Standing g) → Opens shape tally st.tally (Ok st.sheet) → Agrees g a shape empty st
  opened_agrees tally st opens =
      let made = opens.1 in
      record {
        shape_is = made.shape_is;
        room = omega (arith, made.cleared.front.long, opened_room shape (length tally) opens.0);
        entries = λ p b h. made.cleared.zeros p b h ∙ sym (empty_sum a s (places shape) p b);
        count_is = made.none_taken;
      }

  -- so it does all along a run
  pub steps_agree : (book : Book) (from : Standing g) (calls : List (Call V)) (to : Standing g) → Agrees g a shape book from
      → RunSteps g a from calls to → Agrees g a shape (fold book_behind book calls) to
  steps_agree book from [] to agrees same = subst (Agrees g a shape book) (sym same) agrees
  steps_agree book from (call ∷ calls) to agrees went =
      steps_agree (book_behind book call) went.0 calls to (step_agrees book from call went.0 agrees went.1) went.2

  pub run_agrees : (calls : List (Call V)) (st : Standing g) → Run g a shape calls st → Agrees g a shape (book_of calls) st
  run_agrees calls st run = steps_agree empty run.first calls st (opened_agrees run.tally run.first run.opening) run.went

  -- a performed decode is one over entries that mean the book's sums
  pub named_at : (book : Book) (st : Standing g) → Agrees g a shape book st → (target target' : List ℕ) (decoded : Decoded V)
      → (d : DecodedAt g a st target target' decoded) → NamesNearest s shape (entry_sums s d.lent) target target' decoded
  named_at book st agrees target target' decoded d =
      subst (λ (x : Shape). NamesNearest s x (entry_sums s d.lent) target target' decoded) agrees.shape_is d.performed.1.0

  pub lent_sums : (book : Book) (st : Standing g) → Agrees g a shape book st → (lent : List (Entry V)) → SamePlaces (block_length_of st.sheet) lent st.tally
      → (p : ℕ) (b : Bool) → p < places shape → entry_sums s lent p b ≡ entry_sums s st.tally p b
  lent_sums book st agrees lent own =
      same_sums s n lent st.tally (subst (λ (x : Shape). SamePlaces (block_length x) lent st.tally) agrees.shape_is own)

  -- so it names a nearest message by the book
  pub named_by_book : (book : Book) (st : Standing g) → Agrees g a shape book st → (target target' : List ℕ) (decoded : Decoded V)
      → DecodedAt g a st target target' decoded → NamesNearest s shape (book_sums a s (places shape) book) target target' decoded
  named_by_book book st agrees target target' decoded d =
      let found = named_at book st agrees target target' decoded d in
      let bits = message_length shape in
      let mine = message_at shape target' in
      let sums = book_sums a s (places shape) book in
      let by_book : (p : ℕ) (b : Bool) → p < places shape → entry_sums s d.lent p b ≡ sums p b =
      λ p b h. lent_sums book st agrees d.lent d.own p b h ∙ agrees.entries p b h in
      let same : (m : List Bool) → length m ≡ bits → weight_of s shape (entry_sums s d.lent) m ≡ weight_of s shape sums m =
      λ m e. weight_same s shape.order (ordered st.sheet shape agrees.shape_is) n _ _ by_book m (omega (arith, e, whole st.sheet shape agrees.shape_is)) in
      let long : length mine ≡ bits = length-map-range_with_len (bit_at target') 0 bits in
      record {
        names = record {
          written = found.names.written;
          weighs = found.names.weighs ∙ same mine long;
          nearest = λ other e. subst (λ x. s.atmost x (weight_of s shape sums other)) (same mine long)
              (subst (s.atmost (weight_of s shape (entry_sums s d.lent) mine)) (same other e) (found.names.nearest other e));
        };
        verdict = found.verdict;
      }
