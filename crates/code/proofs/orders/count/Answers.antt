use Rattle.std.proofs.Common.{◌+◌, get_or, drop, ◌∙◌, arith}
use Rattle.std.proofs.lemmas.List.{at_drop_more, at_drop_all}
use Rattle.code.specs.Columns.{count_of}
use Rattle.code.proofs.Ordered.{count_here, count_not_here}
use Rattle.code.proofs.orders.count.Goals as goal
use Rattle.code.proofs.orders.count.Goals.{then-number-column, else-number-column}

pub loop-number-preserved : goal.loop-number-preserved
loop-number-preserved c =
    let a = c.args.column in
    let xs = c.args.numbers.now in
    let i = c.loop-number.number-index in
    let more = at_drop_more (count_of a) xs i 0 c.loop-number-test.true in
    elim c.if-number-column.branch [
      | then-number-column w ↦ omega (arith, w.n-is, more ∙ count_here a (get_or xs i 0) (drop (i + 1) xs) w.if-number-column.true)
      | else-number-column w ↦ omega (arith, w.n-is, more ∙ count_not_here a (get_or xs i 0) (drop (i + 1) xs) w.if-number-column.false)
    ]

pub returns : goal.returns
returns c = omega (arith, at_drop_all (count_of c.args.column) c.args.numbers.now c.loop-number.number-index c.loop-number-test.false)
