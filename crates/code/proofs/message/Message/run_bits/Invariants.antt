use Rattle.code.specs.Messages.{bits_from}
use Rattle.code.specs.Register.{cells}
use Rattle.code.proofs.Runs.{Noted}
use Rattle.code.proofs.message.Message.run_bits.Given as goal

abbrev pub invariant-loop-i : goal.invariant-loop-i
invariant-loop-i l =
    Noted (cells l.fn.register) (bits_from l.self l.t l.i) l.steps l.i (cells l.register)
