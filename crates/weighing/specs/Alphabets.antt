-- The alphabet of a reading: which octets are symbols, and what each symbol weighs. Assumes
-- nothing.
use Rattle.std.specs.Prelude.{ℕ, Bool, Option}

-- The symbol that an octet reads as, if it is one; and the weight of a symbol against a bit.
pub record Alphabet (Symbol V : Type 0) : Type 0 where
  pub reads : ℕ → Option Symbol
  pub against : Symbol → Bool → V
