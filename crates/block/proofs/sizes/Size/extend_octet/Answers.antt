use Rattle.std.proofs.Common.{◌∷◌, [], sym, ap, ◌∙◌}
use Rattle.block.specs.Bits.{bit}
use Rattle.block.specs.Checks.{extended}
use Rattle.block.proofs.Laws.{bit_alone, folded_bits_more}
use Rattle.block.proofs.sizes.Size.extend_octet.Goals as goal

pub loop-i-preserved : goal.loop-i-preserved
loop-i-preserved c =
    let step = extended c.args.self.check in
    let octet = c.args.octet in
    let i = c.loop-i.i in (
      c.extend-r.ensures.below,
      c.extend-r.ensures.value ∙ (λ j. step (c.loop-i.invariant.1 j) ((c.bit_of.ensures ∙ ap (bit i) c.from.ensures ∙ sym (bit_alone octet i c.loop-i-test.true)) j))
          ∙ sym (folded_bits_more step c.args.r (octet ∷ []) i),
    )
