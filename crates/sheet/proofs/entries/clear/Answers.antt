use Rattle.std.proofs.Common.{arith, rules}
use Rattle.sheet.proofs.Sums.{sums_filled}
use Rattle.sheet.proofs.entries.clear.Goals as goal

pub returns : goal.returns
returns g c = λ p b h.
    sums_filled g.W.Weighing.scale _ _ c.fill_with.ensures.ran.0 c.fill_with.new.self c.fill_with.ensures.ran.1 (λ f e t given b. search rules) p b (omega (arith, c.fill_with.ensures.len, h))
