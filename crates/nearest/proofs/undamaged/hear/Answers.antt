use Rattle.std.proofs.Common.{◌≡◌, length, sym, ap, ◌∙◌, rules}
use Rattle.block.specs.Bits.{bit_at, value}
use Rattle.block.proofs.Bools.{worth}
use Rattle.block.proofs.Ranges.{from_fn_at}
use Rattle.nearest.proofs.Taken.{first_heard, heard_all}
use Rattle.nearest.proofs.undamaged.hear.Goals as goal

pub returns : goal.returns
returns c =
    let octets = c.args.octets.now in
    let long : length octets ≡ 8 = search rules in
    heard_all octets c.from_fn.result 8 (search rules) (from_fn_at _ _ _ (λ p. value (bit_at octets p)) 0 64 c.from_fn.ensures.items (λ i r q k. search (rules, worth)))
    ∙ ap (first_heard octets) (sym long)
