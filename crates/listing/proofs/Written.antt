-- The text of lines that are written one behind another. Assumes nothing.
use Rattle.std.proofs.Common.{◌≡◌, ℕ, List, [], ◌∷◌, ◌++◌, Bool, Some, None, Option, Ok, Err, Result, refl, sym, ap, ◌∙◌, subst, append_assoc, append-nil, true≢false}
use Rattle.std.specs.Prelude.{IfSome}
use Rattle.std.specs.Fmt.{with_newline, ◌++?◌}
use Rattle.std.specs.Io.KnownBytes.{Appends}
use Rattle.std.specs.Result.{IsErr}
use Rattle.weighing.specs.Alphabets.{Alphabet}
use Rattle.weighing.specs.Scales.{Scale}
use Rattle.search.specs.declared.Entry.{Entry}
use Rattle.listing.specs.Buffers.{Buffers}
use Rattle.listing.specs.Lines.{LineContent, text, whole_text}
use Rattle.listing.specs.Whole.{BreaksOff, WritesBy, WritesListing, shown_number}

-- what is appended twice is appended at once
appended : (first second third : Option (List ℕ)) (xs ys : List ℕ) → Appends first second xs → Appends second third ys → Appends first third (xs ++ ys)
appended None second third xs ys one two = tt
appended (Some a) None third xs ys one two = absurd one
appended (Some a) (Some b) None xs ys one two = absurd two
appended (Some a) (Some b) (Some c) xs ys one two = two ∙ ap (λ zs. zs ++ ys) one ∙ append_assoc a xs ys

-- the same of texts that may not be known
both_appended : (first second third : Option (List ℕ)) (xs ys : Option (List ℕ)) → IfSome xs (Appends first second) → IfSome ys (Appends second third) → IfSome (xs ++? ys) (Appends first third)
both_appended first second third None ys one two = tt
both_appended first second third (Some xs) None one two = tt
both_appended first second third (Some xs) (Some ys) one two = appended first second third xs ys one two

joined_assoc : (xs ys zs : Option (List ℕ)) → (xs ++? ys) ++? zs ≡ xs ++? (ys ++? zs)
joined_assoc None ys zs = refl
joined_assoc (Some x) None zs = refl
joined_assoc (Some x) (Some y) None = refl
joined_assoc (Some x) (Some y) (Some z) = ap Some (append_assoc x y z)

nothing_behind : (xs : Option (List ℕ)) → xs ++? Some [] ≡ xs
nothing_behind None = refl
nothing_behind (Some x) = ap Some (append-nil x)

nothing_before : (xs : Option (List ℕ)) → Some [] ++? xs ≡ xs
nothing_before None = refl
nothing_before (Some x) = refl

pub nothing_appended : (known : Option (List ℕ)) → Appends known known []
nothing_appended None = tt
nothing_appended (Some xs) = sym (append-nil xs)

more_text : {V : Type 0} (shown : V → Option (List ℕ)) (lines : List (LineContent V)) (line : LineContent V)
    → whole_text shown (lines ++ line ∷ []) ≡ whole_text shown lines ++? with_newline (text shown line)
more_text shown [] line = nothing_behind (with_newline (text shown line)) ∙ sym (nothing_before (with_newline (text shown line)))
more_text shown (x ∷ xs) line =
    ap (λ t. with_newline (text shown x) ++? t) (more_text shown xs line)
    ∙ sym (joined_assoc (with_newline (text shown x)) (whole_text shown xs) (with_newline (text shown line)))

pub line_written : {V : Type 0} (shown : V → Option (List ℕ)) (before between after : Option (List ℕ)) (lines : List (LineContent V)) (line : LineContent V)
    → IfSome (whole_text shown lines) (Appends before between) → IfSome (with_newline (text shown line)) (Appends between after)
    → IfSome (whole_text shown (lines ++ line ∷ [])) (Appends before after)
line_written shown before between after lines line one two =
    subst (λ t. IfSome t (Appends before after)) (sym (more_text shown lines line))
    (both_appended before between after (whole_text shown lines) (with_newline (text shown line)) one two)

pub breaks_off : {A V E : Type 0} (a : Alphabet A V) (s : Scale V) (letter : ℕ) (capture : List ℕ) (lent left : Buffers V) (shown : V → Option (List ℕ)) (before after : Option (List ℕ))
    (r : Result Bool E) → IsErr r → BreaksOff a s letter capture lent left shown before after → WritesListing a s letter capture lent left shown before after r
breaks_off a s letter capture lent left shown before after (Ok own) is broken = absurd (true≢false (sym is))
breaks_off a s letter capture lent left shown before after (Err error) is broken = broken

-- the same of a call with path weights of its own
pub broken_by : {A E : Type 0} (a : Alphabet A ℕ) (s : Scale ℕ) (letter : ℕ) (capture : List ℕ) (before after : Option (List ℕ)) (r : Result (Unit {0}) E) (own own' : Buffers ℕ)
    (lent left : List (Entry ℕ)) → own.tally ≡ lent → own'.tally ≡ left → IsErr r → BreaksOff a s letter capture own own' shown_number before after
    → WritesBy capture before after r a s letter lent left
broken_by a s letter capture before after (Ok done) own own' lent left same same' is broken = absurd (true≢false (sym is))
broken_by a s letter capture before after (Err error) own own' lent left same same' is broken = (
  own.paths,
  own'.paths,
  subst (λ X. X) (λ i. BreaksOff a s letter capture (record { tally = same i; paths = own.paths }) (record { tally = same' i; paths = own'.paths }) shown_number before after) broken,
)
