-- Which refusal comes: a call's checks run in the order written, and the first that fails gives its
-- number. Assumes nothing.
use Rattle.std.specs.Prelude.{◌≡◌, ℕ, Bool, cond, List, [], ◌∷◌, Some, None, Option, Result}
use Rattle.std.specs.Prelude.{MatchResult}

-- a check: when it refuses, and by which number
pub record Check : Type 0 where
  pub refuses : Bool
  pub number : ℕ

abbrev pub if_refuse : Bool → ℕ → Check
if_refuse b n = record { refuses = b; number = n }

-- the number of the first check that refuses, none where all pass
abbrev pub first_refusal : List Check → Option ℕ
first_refusal [] = None
first_refusal (c ∷ cs) = cond c.refuses (Some c.number) (first_refusal cs)

-- What a case of a refusal stands for: its number, and what holds of the values that it carries.
pub record Case : Type 1 where
  pub number : ℕ
  pub carries : Type 0

-- a case that carries no value of its own: its number says all
abbrev pub numbered : ℕ → Case
numbered n = record { number = n; carries = Unit {0} }

-- A call that refuses by these checks, and performs just where all of them pass.
-- `case_of` gives each refusal its number and its values; Done is what holds of a performed call's
-- answer, Kept of what a refusal leaves.
abbrev pub Performs : {A E : Type 0}
    → List Check → (E → Case) → (A → Type 0) → Type 0 → Result A E → Type 0
Performs checks case_of Done Kept r =
    MatchResult r (λ x. (first_refusal checks ≡ None) × Done x)
    (λ e. (first_refusal checks ≡ Some (case_of e).number) × (case_of e).carries × Kept)

-- such a call that is lent nothing which a refusal must leave as it was
abbrev pub Answers : {A E : Type 0} → List Check → (E → Case) → (A → Type 0) → Result A E → Type 0
Answers checks case_of Done r = Performs checks case_of Done (Unit {0}) r
