use Rattle.std.proofs.Common.{◌≡◌, ◌*◌, length, subst, ap, ◌∙◌, arith}
use Rattle.code.specs.Messages.{front_bits, message_bit, message_bits, message_steps}
use Rattle.code.specs.Register.{after, cells, cleared}
use Rattle.code.specs.Rows.{AreRows}
use Rattle.code.proofs.Rowed.{after_octet, more_rows, no_rows, whole_row}
use Rattle.code.proofs.message.Message.run.Goals as goal

pub loop-b-init : goal.loop-b-init
loop-b-init c = (no_rows _ _, c.requires.opened)

pub loop-b-preserved : goal.loop-b-preserved
loop-b-preserved c =
    let message = c.args.self.now in
    let f = message_bit message in
    let total = message_bits message in
    let b = c.loop-b.b in
    let m = cells c.loop-b.register in
    let row = whole_row f b c.octet.result total m (omega arith) c.loop-b.invariant.1 c.octet.ensures in (
      more_rows _ c.loop-b.rows b c.push_octet.result (omega arith) c.loop-b.invariant.0 (c.push_octet.ensures.answer ∙ row),
      c.push_octet.ensures.after ∙ after_octet f b c.octet.result m c.loop-b.invariant.1 c.octet.ensures,
    )

pub returns : goal.returns
returns c =
    let message = c.args.self.now in
    let all : c.loop-b.b ≡ length c.args.rows.now = omega arith in
    record {
      rows = subst (λ n. AreRows (message_steps message) n c.loop-b.rows) all c.loop-b.invariant.0;
      after = c.loop-b.invariant.1 ∙ ap (λ n. after cleared (front_bits message (8 * n))) all;
    }
