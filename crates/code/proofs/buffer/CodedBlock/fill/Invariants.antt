use Rattle.std.proofs.Common.{◌+◌, ◌*◌, ◌/◌}
use Rattle.code.specs.Filling.{Filled}
use Rattle.code.proofs.buffer.CodedBlock.fill.Given as goal

abbrev pub invariant-loop-index : goal.invariant-loop-index
invariant-loop-index l = Filled l.self (l.self.n + l.self.n * l.index / 8) l.buffer
