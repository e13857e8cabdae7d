-- Two bits as equal by a test, and a bit as a number. Assumes nothing.
use Rattle.std.proofs.Common.{◌≡◌, Bool, true, false, sym, refl}
use mathlib.Core.Bool.{beq}
use mir.Val.{bool_byte}
use Rattle.block.specs.Bits.{value}

pub same_is : (a b : Bool) → beq a b ≡ true → a ≡ b
same_is true true e = refl
same_is true false e = sym e
same_is false true e = e
same_is false false e = refl

-- a bit that is cast to a number
pub worth : (b : Bool) → bool_byte b ≡ value b
worth true = refl
worth false = refl
