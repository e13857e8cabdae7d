use Rattle.nearest.proofs.Running.{three_calls}
use Rattle.nearest.proofs.Whole.{whole}
use Rattle.nearest.proofs.runs.nearest_message.Goals as goal

pub returns-in_err-sheet-clause-theorem : goal.returns-in_err-sheet-clause-theorem
returns-in_err-sheet-clause-theorem g c = whole _ _

pub returns : goal.returns
returns g c = record {
  theorem = whole _ _;
  run = (
    c.in_ok-sheet.ensures.0,
    three_calls _ _ _ _ _ _ _ c.order_r.result.columns c.open.new.tally c.in_ok-sheet.sheet c.order_r.ensures c.in_ok-sheet.ensures c.take-taken.ensures c.decode-decoded.ensures.does,
  );
  loans = c.decode-decoded.ensures.loans;
}
