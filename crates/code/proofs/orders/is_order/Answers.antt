use Rattle.std.proofs.Common.{rules}
use Rattle.code.specs.Columns.{is_order}
use Rattle.code.proofs.orders.is_order.Goals as goal

pub returns-then-all_columns : goal.returns-then-all_columns
unfolding is_order
returns-then-all_columns c = search rules

pub returns-else-all_columns : goal.returns-else-all_columns
unfolding is_order
returns-else-all_columns c = search rules
