use Rattle.std.proofs.Common.{◌+◌, arith}
use Rattle.code.specs.Messages.{message_bit}
use Rattle.code.specs.Register.{cells}
use Rattle.code.proofs.Runs.{noted_more}
use Rattle.code.proofs.message.Message.run_bits.Goals as goal

pub loop-i-preserved : goal.loop-i-preserved
loop-i-preserved c =
    let message = c.args.self.now in
    noted_more (cells c.args.register.now) (λ i. message_bit message (c.args.t + i)) c.loop-i.steps c.loop-i.i
    (cells c.loop-i.register) (cells c.push.new.self) c.bit.result c.push.result (omega arith) c.loop-i.invariant
    c.bit.ensures c.push.ensures.answer c.push.ensures.after
