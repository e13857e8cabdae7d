use Rattle.std.proofs.Common.{sym, ◌∙◌}
use Rattle.block.specs.Bits.{bit_at}
use Rattle.code.specs.Register.{cleared, next}
use Rattle.code.proofs.Runs.{after_more}
use Rattle.code.proofs.peek.run_bits.Goals as goal

pub loop-t-preserved : goal.loop-t-preserved
loop-t-preserved c =
    c.push.ensures.after ∙ (λ i. next (c.loop-t.invariant i) (c.bit_at.ensures i)) ∙ sym (after_more cleared (bit_at c.args.received.now) c.loop-t.t)
