use Rattle.std.proofs.Common.{◌≡◌, subst, sym, ap, ◌∙◌, arith}
use Rattle.block.specs.Checks.{report_message}
use Rattle.block.specs.Sizes.{block_octets}
use Rattle.code.specs.Places.{buffer_of}
use Rattle.code.specs.Register.{coded}
use Rattle.code.specs.Rows.{AreRows}
use Rattle.code.proofs.Rowed.{filled_right}
use Rattle.code.proofs.encode.encode_block.Goals as goal

pub returns : goal.returns
returns c =
    let size = c.args.size in
    let order = c.args.order.now.columns in
    let made = c.new.ensures in
    let n = c.block_octets-n.result in
    let rows = c.code.new.rows in
    let steps = coded (report_message c.args.report.now size.octets size.check) in
    let told = coded (report_message c.new.result.report.now c.new.result.size.octets c.new.result.size.check) in
    let same : told ≡ steps = λ i. coded (report_message (made.report i) (made.size i).octets (made.size i).check) in
    let count : block_octets c.new.result.size.octets c.new.result.size.check ≡ n = (λ i. block_octets (made.size i).octets (made.size i).check) ∙ sym c.block_octets-n.ensures in
    let are : AreRows steps n rows = subst (λ s. AreRows s n rows) same (subst (λ k. AreRows told k rows) count c.code.ensures) in
    filled_right _ steps are c.fill.new.buffer (omega arith) (omega arith) c.fill.ensures
    ∙ ap (λ k. buffer_of order k steps) c.block_octets-n.ensures
