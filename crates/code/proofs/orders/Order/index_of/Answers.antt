use Rattle.std.proofs.Common.{◌≡◌, ◌≢◌, refl, ap, arith, rules, sym, ◌∙◌}
use borrow.Author.Tests.{tests}
use Rattle.std.proofs.lemmas.Iterator.{IsFirst-from_position, index_from_first, YieldsList-from_slice}
use Rattle.std.specs.Option.{unwrap_or}
use Rattle.code.specs.Columns.{index_of}
use Rattle.code.proofs.Ordered.{index_here, index_later, order_length}
use Rattle.code.proofs.orders.Order.index_of.Goals as goal

pub returns : goal.returns
returns c =
    let a = c.args.column in
    let cs = c.args.self.now.columns in
    let first = IsFirst-from_position _ _ _ (λ x. x ≡ a) (λ x. x ≢ a) c.position.ensures.ran (YieldsList-from_slice cs (cc)) (λ x q k. search (rules, tests)) (λ x q k. search (rules, tests)) in
    let is = index_from_first (index_of a) (λ x. x ≡ a) (λ x. x ≢ a) refl (λ x xs e. index_here a x xs e) (λ x xs d. index_later a x xs d ∙ omega arith) cs _ first in
    c.unwrap_or.ensures ∙ ap (unwrap_or c.position.result) (sym (order_length cs c.args.self.now.each)) ∙ sym is
