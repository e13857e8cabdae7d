use Rattle.std.proofs.Common.{◌≡◌, ℕ, rules}
use borrow.Author.Tests.{tests}
use Rattle.block.proofs.Ranges.{decides_below}
use Rattle.code.specs.Columns.{count_of}
use Rattle.code.proofs.Ordered.{each_once_is}
use Rattle.code.proofs.orders.lists_each_once.Goals as goal

pub returns : goal.returns
returns c =
    let once : ℕ → Type 0 = λ a. count_of a c.args.numbers.now ≡ 1 in
    each_once_is 24 _ _ (decides_below _ _ _ 24 once (cc) c.all.ensures.ran (λ x q k. search (rules, tests)) (λ x q k. search (rules, tests)))
