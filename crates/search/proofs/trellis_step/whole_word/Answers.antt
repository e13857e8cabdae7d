use Rattle.search.proofs.Rows.{rows_bit}
use Rattle.search.proofs.trellis_step.whole_word.Goals as goal

pub returns : goal.returns
returns c = λ m.
    let rows = c.args.rows in
    let small = c.requires in
    rows_bit rows small.0 small.1 small.2 m
