use Rattle.sheet.proofs.Laying.{Laying}
use Rattle.sheet.proofs.entries.lay_row.Given as goal

abbrev pub invariant-loop-i : goal.invariant-loop-i
invariant-loop-i g l = Laying g.R.Reading.alphabet g.R.Weighing.scale l.first l.octets l.initial.places l.i l.places
