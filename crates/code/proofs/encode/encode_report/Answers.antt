use Rattle.std.proofs.Common.{◌≡◌, None, length, arith, rules}
use Rattle.block.specs.Refusals.{first_refusal}
use Rattle.block.specs.Sizes.{size_checks}
use Rattle.code.proofs.Buffers.{encoded_by}
use Rattle.code.proofs.encode.encode_report.Goals as goal

pub returns : goal.returns
returns c =
    let made : (first_refusal (size_checks (length c.args.report.now) c.args.check) ≡ None) × (c.in_ok-size.size.octets ≡ length c.args.report.now) × (c.in_ok-size.size.check ≡ c.args.check) = search rules in (
      search rules,
      encoded_by _ _ _ _ _ c.in_ok-size.size.octets c.in_ok-size.size.check _ c.encode_block.ensures (omega arith) made.1 made.2,
    )
