use Rattle.std.proofs.Common.{◌+◌, ◌*◌, ◌/◌, ◌∙◌}
use Rattle.code.specs.Register.{cells_of}
use Rattle.code.proofs.Eights.{cells_are, made, row_is}
use Rattle.code.proofs.registers.Register.push_octet.Goals as goal

pub returns : goal.returns
returns c =
    let register = c.args.self.now in
    let octet = c.args.octet in
    let state = c.from.ensures in
    let fed = c.from-2.ensures ∙ c.fed.ensures in
    record {
      answer = (λ i. made (state i) (fed i) octet) ∙ row_is register.state octet register.cells c.ranges.octet.fits;
      after = (λ i. cells_of ((state i + 16 * fed i) / 256)) ∙ cells_are register.state octet register.cells c.ranges.octet.fits;
    }
