-- When a level is the level of a number. Assumes nothing.
use Rattle.std.proofs.Common.{◌≡◌, ◌≤◌, Bool, true, false, T, leb, ℤ, nat_abs, Some, refl, ap, ◌∙◌, le→leb, leb→le}
use mathlib.Core.HLevel.{is_prop→PathP}
use native.Mathlib.Bridge.{le_prop}
use Rattle.weighing.specs.declared.level.Level.{Level}
use Rattle.weighing.specs.Levels.{only_if, level_of}

-- two levels are equal if their numbers are
same_level : (a b : Level) → a.value ≡ b.value → a ≡ b
same_level a b e j = record {
  value = e j;
  ok = is_prop→PathP (λ k. nat_abs (e k) ≤ 127) (λ k. le_prop) a.ok b.ok j;
}

passes : {A : Type 0} (test : Bool) (value : T test → A) (t : T test) → Some (value t) ≡ only_if test value
passes true value t = refl
passes false value t = absurd t

of_its_number : (level : Level) → Some level ≡ level_of level.value
of_its_number level =
    let n : ℤ = level.value in
    let small : T (leb (nat_abs n) 127) = le→leb (nat_abs n) 127 level.ok in
    ap Some (same_level level _ refl) ∙ passes (leb (nat_abs n) 127) (λ t. record { value = n; ok = leb→le (nat_abs n) 127 t }) small

pub level_is : (level : Level) (n : ℤ) → level.value ≡ n → Some level ≡ level_of n
level_is level n e = of_its_number level ∙ ap level_of e
