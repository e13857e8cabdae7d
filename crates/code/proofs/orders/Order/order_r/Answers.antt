use Rattle.std.proofs.Common.{refl}
use Rattle.code.specs.Columns.{is_order}
use Rattle.code.proofs.orders.Order.order_r.Goals as goal

pub invariant_of-result : goal.invariant_of-result
unfolding is_order
invariant_of-result c = record { each = refl }
