use Rattle.std.proofs.Common.{◌≡◌, ℕ, ◌≤◌, rules}
use borrow.Author.Tests.{tests}
use Rattle.std.proofs.lemmas.Iterator.{first_from_Range}
use Rattle.block.specs.Sizes.{payload}
use Rattle.block.proofs.Laws.{only_size}
use Rattle.block.proofs.plans.octets_for.Goals as goal

pub returns : goal.returns
returns c =
    let fits : ℕ → Type 0 = λ t. payload t c.args.check c.args.k ≡ c.args.p in
    let first = first_from_Range _ _ _ _ fits (λ t. 1 ≤ t → t ≤ 512 → fits t → ⊥) c.find.ensures.ran (λ x q k. search (rules, tests)) (λ x q k. search (rules, tests)) in
    only_size _ _ _ _ (search (rules, first))
