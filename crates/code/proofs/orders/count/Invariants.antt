use Rattle.std.proofs.Common.{◌≡◌, ◌+◌, ◌≤◌, drop}
use Rattle.code.specs.Columns.{count_of}
use Rattle.code.proofs.orders.count.Given as goal

abbrev pub invariant-loop-number : goal.invariant-loop-number
invariant-loop-number l = (l.n ≤ l.number-index) × (l.n + count_of l.column (drop l.number-index l.numbers) ≡ count_of l.column l.numbers)
