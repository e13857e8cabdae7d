-- A reading is a weighing with an alphabet; a symbol is what came in place of a bit. Here is what
-- contradicts a symbol, for all readings of this crate. Assumes nothing.
use Rattle.std.specs.Prelude.{Bool, true, false, not, Some, None, Option}

-- A symbol favours a bit, and the other bit contradicts it. A missing one favours none, and nothing
-- contradicts it.
abbrev pub contradicted : Option Bool → Bool → Bool
contradicted None bit = false
contradicted (Some true) bit = not bit
contradicted (Some false) bit = bit
