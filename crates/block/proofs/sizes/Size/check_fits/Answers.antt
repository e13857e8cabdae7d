use Rattle.std.proofs.Common.{ℕ, rules}
use borrow.Author.Tests.{tests}
use Rattle.block.proofs.Ranges.{decides_below}
use Rattle.block.proofs.Laws.{FitsAt, fits_at, fits_since}
use Rattle.block.proofs.sizes.Size.check_fits.Goals as goal

pub returns : goal.returns
returns c =
    let size = c.args.self in
    let at : ℕ → Type 0 = FitsAt c.args.octets.now size.octets size.check in
    let fits = decides_below _ _ _ size.check at (cc) c.all.ensures.ran (λ x q k. search (rules, tests)) (λ x q k. search (rules, tests)) in (
      λ t. fits_since _ _ _ (fits.0 t),
      λ f. fits.1 (fits_at _ _ _ f),
    )
