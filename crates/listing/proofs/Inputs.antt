-- What is listed of an input that goes on behind what was read of it. Assumes nothing.
use Rattle.std.proofs.Common.{◌≡◌, ℕ, ◌<◌, ◌≤◌, false, List, [], ◌∷◌, ◌++◌, length, take, Some, None, Option, Result, Ok, Err, sym, ap, ◌∙◌, subst, arith, append-nil, length-append}
use Rattle.std.specs.Prelude.{IfSome, MatchResult, OnOk, ⊤}
use Rattle.std.specs.Io.KnownBytes.{Appends, Consumes, IsAtEnd, Keeps}
use Rattle.std.proofs.KnownBytes.{Appends-kept}
use Rattle.std.proofs.lemmas.Bool.Decides.{nat_tests}
use Rattle.std.proofs.lemmas.List.{length-take-le}
use Rattle.weighing.specs.Alphabets.{Alphabet}
use Rattle.weighing.specs.Scales.{Scale}
use Rattle.search.specs.declared.Entry.{Entry}
use Rattle.listing.specs.Buffers.{Buffers}
use Rattle.listing.specs.Captures.{Act, is_of_another, most_capture_octets}
use Rattle.listing.specs.InForce.{InForce}
use Rattle.listing.specs.Inputs.{Fills, ListsInput, ListsWhatCame, cleared_tally, most_input_octets}
use Rattle.listing.specs.Lines.{LineContent, whole_text}
use Rattle.listing.specs.Listings.{EndsWith, IsListing, ReadSoFar, act_stopped, act_went_on, all_read, letter_read, listing, no_letter, reading_stopped, record_read, too_long}
use Rattle.listing.specs.Whole.{WritesByLetter, WritesWhole, by_hard, by_soft, by_worst, shown_number}
use Rattle.listing.specs.declared.layouts.Layout.{Layout}

no_others : (letter : ℕ) (capture : List ℕ) → most_capture_octets < length capture → is_of_another letter capture ≡ false
no_others letter capture long = grind (arith, nat_tests, long)

-- Records are read of a capture that is not too long, and of one that is too long there is one listing, whatever it holds.
module _ {A V : Type 0} (a : Alphabet A V) (s : Scale V) (room letter : ℕ) (first second : List ℕ) (long₁ : most_capture_octets < length first) (long₂ : most_capture_octets < length second) where
  none_read : {at : Layout} {left : List Act} {sheets : List InForce} {told : List (LineContent V)} → ReadSoFar a s room letter first at left sheets told → ⊥
  none_read (letter_read few known) = omega (arith, few, long₁)
  none_read (record_read read more passes) = none_read read
  none_read (act_went_on read comes) = none_read read
  none_read (act_stopped read comes) = none_read read

  ends_alike : {sheets : List InForce} {told ending : List (LineContent V)} → EndsWith a s room letter first sheets told ending → EndsWith a s room letter second sheets told ending
  ends_alike (too_long long) = too_long long₂
  ends_alike (no_letter few unknown) = absurd (omega (arith, few, long₁))
  ends_alike (all_read read end) = absurd (none_read read)
  ends_alike (reading_stopped read more refuses) = absurd (none_read read)

  listed_alike : {sheets : List InForce} {told : List (LineContent V)} → IsListing a s room letter first sheets told → IsListing a s room letter second sheets told
  listed_alike (listing ends) = listing (ends_alike ends)

module _ (first second : List ℕ) (long₁ : most_capture_octets < length first) (long₂ : most_capture_octets < length second) where
  written_alike : {A V : Type 0} (a : Alphabet A V) (s : Scale V) (letter : ℕ) (lent left : Buffers V) (shown : V → Option (List ℕ)) (before after : Option (List ℕ))
      → WritesWhole a s letter first lent left shown before after → WritesWhole a s letter second lent left shown before after
  written_alike a s letter lent left shown before after (mine, (told, was, text)) = (
    no_others letter second long₂,
    (
      told,
      record {
        sheets = was.sheets;
        lines_are = listed_alike a s (length lent.tally) letter first second long₁ long₂ was.lines_are;
        buffers_hold = was.buffers_hold;
      },
      text,
    ),
  )

  by_letter_alike : (before after : Option (List ℕ)) (sums sums' largest largest' : List (Entry ℕ))
      → WritesByLetter first before after {E = ⊤} (Ok tt) sums sums' largest largest' → WritesByLetter second before after {E = ⊤} (Ok tt) sums sums' largest largest'
  by_letter_alike before after sums sums' largest largest' (by_hard (paths, paths', w) same) = by_hard (paths, paths', written_alike _ _ _ _ _ shown_number before after w) same
  by_letter_alike before after sums sums' largest largest' (by_soft (paths, paths', w) same) = by_soft (paths, paths', written_alike _ _ _ _ _ shown_number before after w) same
  by_letter_alike before after sums sums' largest largest' (by_worst (paths, paths', w) same) = by_worst (paths, paths', written_alike _ _ _ _ _ shown_number before after w) same

  lists_alike : (before after : Option (List ℕ)) → ListsInput first before after → ListsInput second before after
  lists_alike before after lists =
      record { sums = lists.sums; largest = lists.largest; written = by_letter_alike before after cleared_tally lists.sums cleared_tally lists.largest lists.written }

-- what was read is the whole capture, or both are too long
all_listed : (octets : List ℕ) (held held' : Option (List ℕ)) → length octets ≤ most_input_octets → (capture rest : List ℕ) → capture ≡ octets ++ rest
    → (length octets < most_input_octets → rest ≡ []) → ListsInput octets held held' → ListsInput capture held held'
all_listed octets held held' few capture [] all end lists =
    subst (λ xs. ListsInput xs held held') (sym (all ∙ append-nil octets)) lists
all_listed octets held held' few capture (x ∷ xs) all end lists =
    let whole : most_capture_octets < length octets = grind (arith, end) in
    lists_alike octets capture whole (omega (arith, whole, ap length all, length-append octets (x ∷ xs))) held held' lists

whole_listed : (octets : List ℕ) (held held' : Option (List ℕ)) → length octets ≤ most_input_octets → (before after : Option (List ℕ)) → Consumes before after octets
    → (length octets < most_input_octets → IsAtEnd after)
    → ListsInput octets held held' → IfSome before (λ capture. ListsInput capture held held')
whole_listed octets held held' few None after comes end lists = tt
whole_listed octets held held' few (Some capture) None comes end lists = absurd comes
whole_listed octets held held' few (Some capture) (Some rest) comes end lists = all_listed octets held held' few capture rest comes end lists

-- an output that is flushed holds what was written
module _ (held held' flushed : Option (List ℕ)) (kept : Keeps held' flushed) where
  text_kept : (text : Option (List ℕ)) → IfSome text (Appends held held') → IfSome text (Appends held flushed)
  text_kept None appends = tt
  text_kept (Some xs) appends = Appends-kept held held' flushed xs appends kept

  written_kept : {A V : Type 0} (a : Alphabet A V) (s : Scale V) (letter : ℕ) (octets : List ℕ) (lent left : Buffers V) (shown : V → Option (List ℕ))
      → WritesWhole a s letter octets lent left shown held held' → WritesWhole a s letter octets lent left shown held flushed
  written_kept a s letter octets lent left shown (mine, (told, was, text)) = (mine, (told, was, text_kept (whole_text shown told) text))

  by_letter_kept : {E : Type 0} (r : Result (Unit {0}) E) → r ≡ Ok tt → (octets : List ℕ) (sums sums' largest largest' : List (Entry ℕ))
      → WritesByLetter octets held held' r sums sums' largest largest' → WritesByLetter octets held flushed {E = ⊤} (Ok tt) sums sums' largest largest'
  by_letter_kept (Err e) is octets sums sums' largest largest' w = absurd (subst (λ x. MatchResult x (λ _. ⊥) (λ _. ⊤)) is tt)
  by_letter_kept (Ok done) is octets sums sums' largest largest' (by_hard (paths, paths', w) same) = by_hard (paths, paths', written_kept _ _ _ octets _ _ shown_number w) same
  by_letter_kept (Ok done) is octets sums sums' largest largest' (by_soft (paths, paths', w) same) = by_soft (paths, paths', written_kept _ _ _ octets _ _ shown_number w) same
  by_letter_kept (Ok done) is octets sums sums' largest largest' (by_worst (paths, paths', w) same) = by_worst (paths, paths', written_kept _ _ _ octets _ _ shown_number w) same

pub on_ok : {E : Type 0} (P : Type 0) (r : Result (Unit {0}) E) → P → OnOk r P
on_ok P (Ok done) p = p
on_ok P (Err e) p = tt

-- what was read into a buffer of one octet more than a capture may have
module _ (before after : Option (List ℕ)) (buffer : List ℕ) (count : ℕ) (long : length buffer ≡ most_input_octets) (fills : Fills before after buffer count) where
  length_read : length (take count buffer) ≡ count
  length_read = length-take-le count buffer fills.within

  few_read : length (take count buffer) ≤ most_input_octets
  few_read = omega (arith, length_read, fills.within, long)

  at_end : length (take count buffer) < most_input_octets → IsAtEnd after
  at_end short = fills.at_end (omega (arith, length_read, short, long))

  module _ {E : Type 0} (r : Result (Unit {0}) E) (is : r ≡ Ok tt) (held held' flushed : Option (List ℕ)) (kept : Keeps held' flushed) (sums' largest' : List (Entry ℕ))
      (written : WritesByLetter (take count buffer) held held' r cleared_tally sums' cleared_tally largest') where
    what_came_listed : ListsInput (take count buffer) held flushed
    what_came_listed =
        record { sums = sums'; largest = largest'; written = by_letter_kept held held' flushed kept r is (take count buffer) cleared_tally sums' cleared_tally largest' written }

    pub lists_what_came : ListsWhatCame before after held flushed
    lists_what_came =
        record { takes = record { octets = take count buffer; comes = fills.comes; few = few_read; at_end = at_end }; written = what_came_listed }

    pub input_listed : IfSome before (λ capture. ListsInput capture held flushed)
    input_listed = whole_listed (take count buffer) held flushed few_read before after fills.comes at_end what_came_listed
