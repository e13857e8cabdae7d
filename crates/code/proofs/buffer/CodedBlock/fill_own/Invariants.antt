use Rattle.code.specs.Filling.{Filled}
use Rattle.code.proofs.buffer.CodedBlock.fill_own.Given as goal

abbrev pub invariant-loop-b : goal.invariant-loop-b
invariant-loop-b l = Filled l.self l.b l.buffer
