use Rattle.std.proofs.Common.{◌≡◌, ◌+◌, ◌/◌, ◌++◌, length, drop, set, take, subst, ◌∙◌, arith, rules}
use Rattle.block.specs.Sizes.{block_octets}
use Rattle.code.specs.Messages.{message_steps}
use Rattle.code.specs.Rows.{AreRows}
use Rattle.code.proofs.Rowed.{more_rows, rows_before}
use Rattle.code.proofs.message.Message.code.Goals as goal

pub returns : goal.returns
returns c =
    let message = c.args.self.now in
    let steps = message_steps message in
    let whole = c.octets.result + c.check.result / 8 in
    let rows = c.args.rows.now in
    let noted = c.run.new.rows in
    let all : whole + 1 ≡ block_octets message.size.octets message.size.check = omega arith in
    let front : length (take whole rows) ≡ whole = search rules in
    let long : length noted ≡ whole = c.run.auto.rows ∙ front in
    let before = rows_before steps noted (drop whole rows) whole (omega arith) (subst (λ n. AreRows steps n noted) front c.run.ensures.rows) in
    subst (λ n. AreRows steps n (set (noted ++ drop whole rows) whole c.last_row.result)) all
    (more_rows steps (noted ++ drop whole rows) whole c.last_row.result (search rules) before c.last_row.ensures)
