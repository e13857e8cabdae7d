use Rattle.std.proofs.Common.{◌∙◌, ℕ, ap, refl}
use Rattle.listing.specs.Buffers.{Buffers}
use Rattle.listing.specs.Whole.{by_hard, by_soft, by_worst}
use Rattle.listing.proofs.Written.{broken_by}
use Rattle.listing.proofs.writing.write_by_letter.Goals as goal

pub returns-in_err-write_listing : goal.returns-in_err-write_listing
returns-in_err-write_listing g c = by_hard (broken_by _ _ _ _ _ _ _ _ _ _ _ refl refl c.from_residual.ensures.0 c.in_err-write_listing.ensures) refl

pub returns-in_err-write_listing-2 : goal.returns-in_err-write_listing-2
returns-in_err-write_listing-2 g c =
    let first = rw c.if-branch.false at c.in_ok-write_listing.ensures in
    by_soft (broken_by _ _ _ _ _ _ _ _ _ _ _ (ap (λ (b : Buffers ℕ). b.tally) first.1) refl c.from_residual-in_err-write_listing-2.ensures.0 c.in_err-write_listing-2.ensures) refl

pub returns-in_err-write_listing-3 : goal.returns-in_err-write_listing-3
returns-in_err-write_listing-3 g c =
    let first = rw c.if-branch.false at c.in_ok-write_listing.ensures in
    let second = rw c.if-branch-2.false at c.in_ok-write_listing-2.ensures in
    by_worst (broken_by _ _ _ _ _ _ _ _ _ _ _ refl refl c.from_residual-in_err-write_listing-3.ensures.0 c.in_err-write_listing-3.ensures)
    (ap (λ (b : Buffers ℕ). b.tally) second.1 ∙ ap (λ (b : Buffers ℕ). b.tally) first.1)
