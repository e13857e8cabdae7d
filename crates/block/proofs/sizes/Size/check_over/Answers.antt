use Rattle.std.proofs.Common.{◌≡◌, ◌+◌, ◌*◌, [], ◌∷◌, fold, get_or, ap, ◌∙◌, arith, rules}
use Rattle.std.proofs.lemmas.List.{get_or_past}
use Rattle.block.specs.Bits.{bits_of}
use Rattle.block.specs.Checks.{extended}
use Rattle.block.proofs.Laws.{folded_octet}
use Rattle.block.proofs.sizes.Size.check_over.Goals as goal

pub loop-b-preserved : goal.loop-b-preserved
loop-b-preserved c =
    let step = extended c.args.self.check in
    let octets = c.args.octets.now in
    let b = c.loop-b.b in
    let there : c.unwrap_or.result ≡ get_or octets b 0 = search (rules, get_or_past) in
    let next : 8 * b + 8 ≡ 8 * (b + 1) = omega arith in (
      c.extend_octet-r.ensures.below,
      c.extend_octet-r.ensures.value
          ∙ (λ j. fold step (c.loop-b.invariant.1 j) (bits_of (there j ∷ []) 8))
          ∙ folded_octet step 0 octets b 8 (omega arith)
          ∙ ap (λ n. fold step 0 (bits_of octets n)) next,
    )
