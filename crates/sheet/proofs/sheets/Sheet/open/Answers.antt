use Rattle.std.proofs.Common.{◌≡◌, ◌*◌, None, refl, ap, ◌∙◌, rules}
use Rattle.block.specs.Refusals.{first_refusal}
use Rattle.block.specs.Sizes.{block_octets, size_checks}
use Rattle.sheet.proofs.Sums.{cleared_front}
use Rattle.sheet.proofs.sheets.Sheet.open.Goals as goal

pub returns : goal.returns
returns g c =
    let size = c.in_ok-size.size in
    let made : (first_refusal (size_checks c.args.octets c.args.check) ≡ None) × (size.octets ≡ c.args.octets) × (size.check ≡ c.args.check) = search rules in (
      search rules,
      record {
        shape_is = λ i. record { octets = made.1 i; check = made.2 i; order = c.args.order.columns };
        none_taken = refl;
        cleared =
            cleared_front g.W.Weighing.scale _ _ (ap (λ n. 32 * n) (c.block_octets-places.ensures ∙ (λ i. block_octets (made.1 i) (made.2 i)))) c.args.tally.now c.clear.new.places
            c.if-tally-places.false c.clear.auto.places c.clear.ensures;
      },
    )
