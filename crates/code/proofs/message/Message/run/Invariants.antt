use Rattle.std.proofs.Common.{◌≡◌, ◌*◌}
use Rattle.code.specs.Messages.{front_bits, message_steps}
use Rattle.code.specs.Register.{after, cells, cleared}
use Rattle.code.specs.Rows.{AreRows}
use Rattle.code.proofs.message.Message.run.Given as goal

abbrev pub invariant-loop-b : goal.invariant-loop-b
invariant-loop-b l =
    AreRows (message_steps l.self) l.b l.rows
    × (cells l.register ≡ after cleared (front_bits l.self (8 * l.b)))
