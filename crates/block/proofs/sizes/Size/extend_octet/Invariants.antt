use Rattle.std.proofs.Common.{◌≡◌, ◌^◌, ◌<◌, [], ◌∷◌, fold}
use Rattle.block.specs.Bits.{bits_of}
use Rattle.block.specs.Checks.{extended}
use Rattle.block.proofs.sizes.Size.extend_octet.Given as goal

abbrev pub invariant-loop-i : goal.invariant-loop-i
invariant-loop-i l = (l.r < 2 ^ l.self.check) × (l.r ≡ fold (extended l.self.check) l.fn.r (bits_of (l.octet ∷ []) l.i))
