use Rattle.std.proofs.Common.{ℕ, false, get_or, arith}
use Rattle.block.specs.Bits.{octet_of}
use Rattle.block.proofs.Bools.{worth}
use Rattle.block.proofs.bits.octet.Goals as goal

pub returns : goal.returns
unfolding octet_of
returns c =
    let bit = λ (i : ℕ). get_or c.args.bits i false in
    omega (arith, worth (bit 0), worth (bit 1), worth (bit 2), worth (bit 3), worth (bit 4), worth (bit 5), worth (bit 6), worth (bit 7))
