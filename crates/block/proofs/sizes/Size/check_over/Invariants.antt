use Rattle.std.proofs.Common.{◌≡◌, ◌*◌, ◌^◌, ◌<◌}
use Rattle.block.specs.Bits.{bits_of}
use Rattle.block.specs.Checks.{check_of}
use Rattle.block.proofs.sizes.Size.check_over.Given as goal

abbrev pub invariant-loop-b : goal.invariant-loop-b
invariant-loop-b l = (l.r < 2 ^ l.self.check) × (l.r ≡ check_of l.self.check (bits_of l.octets (8 * l.b)))
