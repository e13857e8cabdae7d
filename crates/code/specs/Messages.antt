-- A report's message as the code holds it. No promise of a public call rests on this.
-- Assumes nothing.
use Rattle.std.specs.Prelude.{ℕ, ◌+◌, ◌*◌, Bool, List}
use Rattle.block.specs.Checks.{report_bit, report_message}
use Rattle.code.specs.Register.{coded}
use Rattle.code.specs.Rows.{first}
use Rattle.code.specs.declared.message.Message.{Message}
use Rattle.code.specs.declared.registers.Outputs.{Outputs}

-- bit t of the message, and how many bits it has
abbrev pub message_bit : Message → ℕ → Bool
message_bit m t = report_bit m.report.now m.size.octets m.size.check t

abbrev pub message_bits : Message → ℕ
message_bits m = 8 * m.size.octets + m.size.check

-- the outputs of all its steps
abbrev pub message_steps : Message → List Outputs
message_steps m = coded (report_message m.report.now m.size.octets m.size.check)

-- its first t bits
abbrev pub front_bits : Message → ℕ → List Bool
front_bits m t = first (message_bit m) t

-- c of its bits, from bit t on
abbrev pub bits_from : Message → ℕ → ℕ → List Bool
bits_from m t c = first (λ i. message_bit m (t + i)) c
