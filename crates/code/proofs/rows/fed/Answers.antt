use Rattle.std.proofs.Common.{◌∙◌}
use Rattle.code.proofs.Eights.{came_is, worked_out}
use Rattle.code.proofs.rows.fed.Goals as goal

pub returns : goal.returns
returns c =
    (λ i. worked_out (c.from-state.ensures i) (c.from.ensures i)) ∙ came_is c.args.state c.args.octet c.requires c.ranges.octet.fits
