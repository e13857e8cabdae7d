-- Refusals as C is told of them: by their numbers, and 0 where a call is performed. Assumes
-- nothing.
use Rattle.std.specs.Prelude.{◌≡◌, ℕ, List, Result, MatchOption, MatchResult}
use Rattle.block.specs.Refusals.{Case, Check, first_refusal}
use Rattle.block.specs.Sizes.{plan_case}
use Rattle.block.specs.declared.plans.PlanRefusal.{PlanRefusal}
use Rattle.tally_c.specs.declared.TallyLength.{TallyLength}

-- A call that refuses by these checks, and performs just where all of them pass. Done is what holds
-- after a performed call, and Kept what a refusal leaves.
abbrev pub Numbered : List Check → ℕ → Type 0 → Type 0 → Type 0
Numbered checks number Done Kept =
    MatchOption (first_refusal checks) ((number ≡ 0) × Done) (λ n. (number ≡ n) × Kept)

-- the number of what a call answers
abbrev pub Numbers : {A E : Type 0} → (E → Case) → Result A E → ℕ → Type 0
Numbers case_of r number = MatchResult r (λ x. number ≡ 0) (λ e. number ≡ (case_of e).number)

-- what is told of a length, or of why there is none
abbrev pub ShowsLength : Result ℕ PlanRefusal → TallyLength → Type 0
ShowsLength r told =
    MatchResult r (λ octets. (told.octets ≡ octets) × (told.refusal ≡ 0))
    (λ e. (told.octets ≡ 0) × (told.refusal ≡ (plan_case e).number))

-- What C is told of a length that it asks for, of which Is says what it is: 0 with a refusal.
abbrev pub TellsLength : List Check → (ℕ → Type 0) → TallyLength → Type 0
TellsLength checks Is told = Numbered checks told.refusal (Is told.octets) (told.octets ≡ 0)
