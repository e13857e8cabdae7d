-- A take as the code goes, its checks and then its octets one by one: nothing here is part of what
-- a sheet promises. Assumes nothing.
use Rattle.std.specs.Prelude.{◌≡◌, ℕ, Bool, List, length, Some, None, Option, Result}
use Rattle.block.specs.Refusals.{Answers}
use Rattle.weighing.specs.Alphabets.{Alphabet}
use Rattle.weighing.specs.Scales.{Scale}
use Rattle.weighing.specs.declared.Weighing.{Ghosts}
use Rattle.search.specs.Weights.{entry_sums, side}
use Rattle.search.specs.declared.Entry.{Entry}
use Rattle.sheet.specs.Books.{laid, sum_behind, unlawful}
use Rattle.sheet.specs.Calls.{block_length_of, take_case, take_checks}
use Rattle.sheet.specs.declared.sheets.Sheet.{Sheet}
use Rattle.sheet.specs.declared.refusals.TakeRefusal.{TakeRefusal}

-- whether a take is admitted, before anything is written: by all its checks, in their order
abbrev pub Admits : {W V A : Type 0} {g : Ghosts W V} → Alphabet A V → Sheet W V g → ℕ → ℕ → List ℕ
    → Result (Unit {0}) TakeRefusal → Type 0
Admits a sheet entries start octets r =
    Answers (take_checks a (block_length_of sheet) entries sheet.count start octets)
    (take_case (unlawful a octets)) (λ _. Unit {0}) r

-- a weight against bit b, with what a symbol weighs against it added behind, if there is one
abbrev pub laid_on : {A V : Type 0} → Alphabet A V → (s : Scale V) → s.Meaning → Bool → Option A
    → s.Meaning
laid_on a s w b None = w
laid_on a s w b (Some symbol) = s.plus w (s.mean (a.against symbol b))

-- an octet is laid on an entry
abbrev pub LaysOctet : {A V : Type 0} → Alphabet A V → Scale V → ℕ → Entry V → Entry V → Type 0
LaysOctet a s octet before after =
    (b : Bool) → s.mean (side b after) ≡ laid_on a s (s.mean (side b before)) b (a.reads octet)

-- octets are laid on all places of a row, from place `first` on
abbrev pub LaysOn : {A V : Type 0} → Alphabet A V → Scale V → ℕ → List ℕ
    → List (Entry V) → List (Entry V) → Type 0
LaysOn a s first octets before after =
    (p : ℕ) (b : Bool)
    → entry_sums s after p b
    ≡ sum_behind a s (entry_sums s before p b) p b (laid a (length before) first octets)
