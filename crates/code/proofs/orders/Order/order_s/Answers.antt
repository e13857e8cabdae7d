use Rattle.std.proofs.Common.{refl}
use Rattle.code.specs.Columns.{is_order, follows_masks}
use Rattle.code.proofs.orders.Order.order_s.Goals as goal

pub invariant_of-result : goal.invariant_of-result
unfolding is_order
invariant_of-result c = record { each = refl }

-- the one computed proof that the constant is what the masks say
pub returns : goal.returns
unfolding follows_masks
returns c = record { masks = refl; is = refl }
