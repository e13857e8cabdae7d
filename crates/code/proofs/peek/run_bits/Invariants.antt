use Rattle.std.proofs.Common.{◌≡◌}
use Rattle.block.specs.Bits.{bits_of}
use Rattle.code.specs.Register.{after, cells, cleared}
use Rattle.code.proofs.peek.run_bits.Given as goal

abbrev pub invariant-loop-t : goal.invariant-loop-t
invariant-loop-t l = cells l.register ≡ after cleared (bits_of l.received l.t)
