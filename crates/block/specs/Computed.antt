-- A test at every number below n, which is computed. Assumes nothing.
use Rattle.std.specs.Prelude.{ℕ, zero, suc, Bool, true, ◌&&◌}

-- the test f passes at each number below n
abbrev pub passes : ℕ → (ℕ → Bool) → Bool
passes zero f = true
passes (suc n) f = f n && passes n f
