use Rattle.std.proofs.Common.{rules}
use Rattle.std.proofs.lemmas.List.{get_or_past}
use Rattle.block.specs.Bits.{bit_at}
use Rattle.block.proofs.Laws.{bit_zero}
use Rattle.block.proofs.bits.bit_at.Goals as goal

pub returns : goal.returns
unfolding bit_at
returns c = search (rules, get_or_past, bit_zero)
