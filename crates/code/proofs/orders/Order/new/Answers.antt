use Rattle.std.proofs.Common.{rules}
use Rattle.code.proofs.Ordered.{not_order}
use Rattle.code.proofs.orders.Order.new.Goals as goal

pub returns-in_default-2 : goal.returns-in_default-2
returns-in_default-2 c = search (rules, not_order)
