-- Levels, the symbols of the soft and the worst reading. Assumes nothing.
use Rattle.std.specs.Prelude.{ℕ, zero, suc, Bool, true, false, cond, T, ℤ, pos, negsuc, ◌-ℤ◌, Some}
use Rattle.std.specs.Prelude.{None, Option, nat_le, nat_lt, unsigned_abs}
use Rattle.std.proofs.Common.{leb→le}
use Rattle.weighing.specs.Alphabets.{Alphabet}
use Rattle.weighing.specs.Symbols.{contradicted}
use Rattle.weighing.specs.declared.level.Level.{Level}

-- the number that an octet stands for in two's complement: 128 and above are 256 less
abbrev pub signed : ℕ → ℤ
signed octet = cond (nat_lt octet 128) (pos octet) (pos octet -ℤ pos 256)

-- what `value` gives if the test passes, else none
abbrev pub only_if : {A : Type 0} (test : Bool) → (T test → A) → Option A
only_if true value = Some (value tt)
only_if false value = None

-- the level of a number of size 127 or less, and none of a larger one
abbrev pub level_of : ℤ → Option Level
level_of n =
    let size = unsigned_abs n in
    only_if (nat_le size 127) (λ small. record { value = n; ok = leb→le size 127 small })

-- an octet is the level of its number; so hex 80, which is -128, is no symbol
abbrev pub level_reads : ℕ → Option Level
level_reads octet = level_of (signed octet)

-- a positive number favours bit 1, a negative one bit 0, and 0 is missing
abbrev pub number_favours : ℤ → Option Bool
number_favours (pos zero) = None
number_favours (pos (suc n)) = Some true
number_favours (negsuc n) = Some false

-- a contradicted level weighs its size without sign, any other 0
abbrev pub level_weight : Level → Bool → ℕ
level_weight level bit =
    cond (contradicted (number_favours level.value) bit) (unsigned_abs level.value) 0

-- the alphabet of the soft and of the worst reading
abbrev pub level_alphabet : Alphabet Level ℕ
level_alphabet = record { reads = level_reads; against = level_weight }
