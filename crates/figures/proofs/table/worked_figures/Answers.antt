use Rattle.std.proofs.Common.{rules}
use Rattle.figures.proofs.Worked.{all_hold}
use Rattle.figures.proofs.table.worked_figures.Goals as goal

pub returns-clause-table : goal.returns-clause-table
returns-clause-table c = search rules

pub returns-clause-figures : goal.returns-clause-figures
returns-clause-figures c = all_hold
