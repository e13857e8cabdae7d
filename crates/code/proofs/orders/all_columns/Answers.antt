use Rattle.std.proofs.Common.{◌<◌, ◌≤◌, rules}
use borrow.Author.Tests.{tests}
use Rattle.std.proofs.lemmas.Iterator.{cases_from_all, YieldsList-from_slice}
use Rattle.code.proofs.Ordered.{all_below_is}
use Rattle.code.proofs.orders.all_columns.Goals as goal

pub returns : goal.returns
returns c =
    all_below_is 24 _ _ (cases_from_all _ _ _ (λ x. x < 24) (λ x. 24 ≤ x) c.all.ensures.ran (YieldsList-from_slice c.args.numbers.now (cc)) (λ x q k. search (rules, tests)) (λ x q k. search (rules, tests)))
