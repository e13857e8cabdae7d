use Rattle.std.proofs.Common.{◌*◌, ◌^◌, ◌<◌, sym, ap, ◌∙◌, subst}
use lib.Bits.{bit_xor}
use Rattle.block.specs.Checks.{extended, reduced}
use Rattle.block.proofs.Laws.{extended_below}
use Rattle.block.proofs.sizes.Size.extend.Goals as goal

pub returns : goal.returns
unfolding extended
returns c =
    let size = c.args.self in
    let is = c.reduce.ensures ∙ ap (λ x. reduced size.check (bit_xor (2 * c.args.r) x)) c.incoming.ensures in
    record {
      value = is;
      below = subst (λ x. x < 2 ^ size.check) (sym is) (extended_below _ _ _ size.odd_half size.short c.requires);
    }
