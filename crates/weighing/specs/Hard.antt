-- The hard reading: each symbol is a bit or missing. Assumes nothing.
use Rattle.std.specs.Prelude.{ℕ, Bool, true, false, cond, Some, None, Option, ◌==◌}
use Rattle.weighing.specs.Alphabets.{Alphabet}
use Rattle.weighing.specs.Symbols.{contradicted}
use Rattle.weighing.specs.declared.hard.HardSymbol.{HardSymbol}
use Rattle.weighing.specs.declared.hard.HardSymbol.TheVariants.{Bit, Missing}

-- octets 0 and 1 are the bits, 2 is missing, and no other octet is a symbol
abbrev pub hard_reads : ℕ → Option HardSymbol
hard_reads octet =
    cond (octet == 0) (Some (Bit false))
    (cond (octet == 1) (Some (Bit true))
    (cond (octet == 2) (Some Missing) None))

-- a bit favours itself
abbrev pub hard_favours : HardSymbol → Option Bool
hard_favours (Bit b) = Some b
hard_favours Missing = None

-- a contradicted symbol weighs 1, any other 0
abbrev pub hard_weight : HardSymbol → Bool → ℕ
hard_weight symbol bit = cond (contradicted (hard_favours symbol) bit) 1 0

abbrev pub hard_alphabet : Alphabet HardSymbol ℕ
hard_alphabet = record { reads = hard_reads; against = hard_weight }
