-- The theorem on whole listings. Assumes nothing.
use Rattle.std.specs.Prelude.{◌≡◌, ◌++◌, ℕ, Bool, true, false, List, length, map, decimal, None}
use Rattle.std.specs.Prelude.{IfSome, MatchBool, MatchResult, Option, Result, Some}
use Rattle.std.specs.Iterator.{Yields, YieldsThen}
use Rattle.std.specs.Io.KnownBytes.{Appends, Keeps}
use Rattle.std.specs.List.{AllZip}
use Rattle.weighing.specs.Alphabets.{Alphabet}
use Rattle.weighing.specs.Hard.{hard_alphabet}
use Rattle.weighing.specs.Levels.{level_alphabet}
use Rattle.weighing.specs.Scales.{Scale, counted, largest as largest_scale}
use Rattle.weighing.specs.declared.Weighing.{Ghosts}
use Rattle.search.specs.declared.Entry.{Entry}
use Rattle.sheet.specs.declared.answers.Verdict.{Verdict}
use Rattle.listing.specs.Buffers.{Buffers, BuffersHold, Loans, SameLoans, contents, loans}
use Rattle.listing.specs.Captures.{hard_letter, is_of_another, soft_letter, worst_letter}
use Rattle.listing.specs.Faults.{fault_says}
use Rattle.listing.specs.InForce.{InForce}
use Rattle.listing.specs.Lines.{LineContent, content, decode_line, end_line, fault_line, whole_text}
use Rattle.listing.specs.Listings.{BeginsListing, IsListing}
use Rattle.listing.specs.Telling.{Gives, Position}
use Rattle.listing.specs.declared.buffers.Buffers.{Buffers as BuffersInCode}
use Rattle.listing.specs.declared.faults.Fault.{Fault}
use Rattle.listing.specs.declared.lines.Line.{Line}
use Rattle.listing.specs.declared.telling.ByLetter.{ByLetter}
use Rattle.listing.specs.declared.telling.ByLetter.TheVariants.{Lines as ByLines, OfAnother}
use Rattle.listing.specs.declared.telling.Lines.{Lines}

module _ {A V : Type 0} (a : Alphabet A V) (s : Scale V) (letter : ℕ) (capture : List ℕ)
    (lent left : Buffers V) (told : List (LineContent V)) where
  -- lines that are a whole listing of the capture, and the buffers as it leaves them
  pub record WasListed : Type 0 where
    pub sheets : List InForce
    pub lines_are : IsListing a s (length lent.tally) letter capture sheets told
    pub buffers_hold : BuffersHold a s sheets told lent left

  -- the first lines of a listing of the capture, and the buffers as they stand then
  pub record WasBegun : Type 0 where
    pub sheets : List InForce
    pub lines_are : BeginsListing a s (length lent.tally) letter capture sheets told
    pub buffers_hold : BuffersHold a s sheets told lent left

module _ {W V : Type 0} {g : Ghosts W V} where
  -- what stands in the buffers of the lines
  abbrev pub held : Lines W V g → Buffers V
  held lines = record { tally = lines.tally.now; paths = lines.paths.now }

  -- the same, and how far they are told
  abbrev pub standing_at : Lines W V g → Position g
  standing_at lines = record { progress = lines.progress; buffers = held lines }

  -- which loans the lines have
  abbrev pub held_loans : Lines W V g → Loans
  held_loans lines = record { tally = lines.tally.ghost_name; paths = lines.paths.ghost_name }

  -- what `next` gives: the next line; and the lines keep their loans
  pub record LinesGive {A : Type 0} (a : Alphabet A V) (before : Lines W V g)
      (line : Option (Line V)) (after : Lines W V g) : Type 0 where
    pub gives : Gives a (standing_at before) line (standing_at after)
    pub loans : SameLoans (held_loans before) (held_loans after)

module _ {W V A : Type 0} {g : Ghosts W V} (a : Alphabet A V) (letter : ℕ) (capture : List ℕ)
    (lent : Buffers V) (next : Lines W V g → Option (Line V) → Lines W V g → Type 0) where
  -- what holds of the lines that `next` answers from here on, one after another
  pub record AreListed (lines : Lines W V g) : Type 0 where
    -- so many as have come are the first of a listing
    pub so_far : (told : List (Line V)) (at : Lines W V g) → Yields next lines told at
        → WasBegun a g.scale letter capture lent (held at) (map content told)
    -- those that came before it answers none are a listing
    pub at_last : (told : List (Line V)) (end : Lines W V g) → YieldsThen next lines told None end
        → WasListed a g.scale letter capture lent (held end) (map content told)
    -- where it answers none it leaves all as it is
    pub stays : (told : List (Line V)) (at after : Lines W V g) → Yields next lines told at
        → next at None after → standing_at after ≡ standing_at at
    -- and from there on it answers none, and leaves all as it is
    pub rests : (told : List (Line V)) (end from after : Lines W V g) (line : Option (Line V))
        → YieldsThen next lines told None end → standing_at from ≡ standing_at end
        → next from line after → (line ≡ None) × (standing_at after ≡ standing_at end)

  -- Whatever octets a capture has: it is listed, unless it begins with the letter of another
  -- reading, when the buffers are handed back as they were.
  abbrev pub ListsCapture : ByLetter W V g → Type 0
  ListsCapture (OfAnother back) = (is_of_another letter capture ≡ true) × (contents back ≡ lent)
  ListsCapture (ByLines lines) = (is_of_another letter capture ≡ false) × AreListed lines

-- the answer holds the loans that were lent
abbrev pub HoldsLoans : {W V : Type 0} {g : Ghosts W V} → BuffersInCode V → ByLetter W V g → Type 0
HoldsLoans lent (OfAnother back) = SameLoans (loans lent) (loans back)
HoldsLoans lent (ByLines lines) = SameLoans (loans lent) (held_loans lines)

-- Two lines that say the same; of two decodes, each may name another message of the one least
-- weight.
pub data Alike {V : Type 0} (s : Scale V) : LineContent V → LineContent V → Type 0 where
  decodes_alike : (r : ℕ) (weight₁ weight₂ : V) (verdict₁ verdict₂ : Verdict)
      (octets₁ octets₂ : List ℕ)
      → s.mean weight₁ ≡ s.mean weight₂
      → Alike s (decode_line r weight₁ verdict₁ octets₁) (decode_line r weight₂ verdict₂ octets₂)
  faults_alike : (r : ℕ) (fault₁ fault₂ : Fault) → fault_says fault₁ ≡ fault_says fault₂
      → Alike s (fault_line r fault₁) (fault_line r fault₂)
  ends_alike : (r : ℕ) → Alike s (end_line r) (end_line r)

-- lines that are alike the first of others
pub record AlikeTheFirst {V : Type 0} (s : Scale V) (lines others : List (LineContent V))
    : Type 0 where
  pub front : List (LineContent V)
  pub rest : List (LineContent V)
  pub joined : others ≡ front ++ rest
  pub alike : AllZip (Alike s) lines front

-- What a listing leaves open is only that choice: two listings of one capture are as long as one
-- another, alike line by line, and open the same sheets; and lines that begin a listing of it are
-- alike the first of each.
abbrev pub OneListing : {A V : Type 0} → Alphabet A V → Scale V → Type 0
OneListing {V} a s =
    (letter room : ℕ) (capture : List ℕ) (sheets₁ sheets₂ : List InForce)
    (first second : List (LineContent V))
    → IsListing a s room letter capture sheets₂ second
    → (IsListing a s room letter capture sheets₁ first
    → (sheets₁ ≡ sheets₂) × AllZip (Alike s) first second)
    × (BeginsListing a s room letter capture sheets₁ first → AlikeTheFirst s first second)

-- What is written of a capture by a reading, and what the buffers then hold. It speaks of writers
-- that say what they hold, and of weights that say how they are shown.
module _ {A V : Type 0} (a : Alphabet A V) (s : Scale V) (letter : ℕ) (capture : List ℕ)
    (lent left : Buffers V) (shown : V → Option (List ℕ)) (before after : Option (List ℕ)) where
  -- nothing, where the capture is another reading's
  abbrev pub WritesNothing : Type 0
  WritesNothing =
      (is_of_another letter capture ≡ true) × (left ≡ lent) × Keeps before after

  -- a whole listing, each line with a newline behind it
  abbrev pub WritesWhole : Type 0
  WritesWhole =
      (is_of_another letter capture ≡ false)
      × ((told : List (LineContent V)) × WasListed a s letter capture lent left told
      × IfSome (whole_text shown told) (Appends before after))

  -- where the writer fails, some first lines of a listing were told
  abbrev pub BreaksOff : Type 0
  BreaksOff =
      (is_of_another letter capture ≡ false)
      × ((told : List (LineContent V)) × WasBegun a s letter capture lent left told)

  abbrev pub WritesListing : {E : Type 0} → Result Bool E → Type 0
  WritesListing r =
      MatchResult r (λ own. MatchBool own WritesWhole WritesNothing) (λ error. BreaksOff)

-- the text of a weight that is a number
abbrev pub shown_number : ℕ → Option (List ℕ)
shown_number n = Some (decimal n)

-- What is written of a capture by its letter, over two tallies.
module _ (capture : List ℕ) (before after : Option (List ℕ)) {E : Type 0} (r : Result (Unit {0}) E)
  where
    -- what a reading with numbers as weights writes, with path weights of the call's own
    abbrev pub WritesBy : {A : Type 0} → Alphabet A ℕ → Scale ℕ → (letter : ℕ)
        → (lent left : List (Entry ℕ)) → Type 0
    WritesBy a s letter lent left =
        (paths paths' : List (Option ℕ))
        × (let own : Buffers ℕ = record { tally = lent; paths = paths } in
        let own' : Buffers ℕ = record { tally = left; paths = paths' } in
        MatchResult r (λ done. WritesWhole a s letter capture own own' shown_number before after)
        (λ error. BreaksOff a s letter capture own own' shown_number before after))

    -- It is written by one of the three readings, over the tally of that reading's weights; the
    -- other tally is as it was.
    pub data WritesByLetter (sums sums' largest largest' : List (Entry ℕ)) : Type 0 where
      by_hard : WritesBy hard_alphabet counted hard_letter sums sums' → largest' ≡ largest
          → WritesByLetter sums sums' largest largest'
      by_soft : WritesBy level_alphabet counted soft_letter sums sums' → largest' ≡ largest
          → WritesByLetter sums sums' largest largest'
      by_worst : WritesBy level_alphabet largest_scale worst_letter largest largest' → sums' ≡ sums
          → WritesByLetter sums sums' largest largest'
