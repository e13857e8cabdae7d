use Rattle.std.proofs.Common.{List}
use Rattle.std.specs.Prelude.{IfSome}
use Rattle.std.specs.Io.KnownBytes.{Appends}
use Rattle.listing.specs.Carrying.{HasRoom}
use Rattle.listing.specs.Lines.{LineContent, whole_text}
use Rattle.listing.specs.Telling.{HasTold, position, steps_to_go}
use Rattle.listing.proofs.writing.write_over.Given as goal

abbrev pub invariant-loop-line : goal.invariant-loop-line
invariant-loop-line g l =
    HasRoom l.progress.workspace l.tally
    × ((told : List (LineContent _))
    × HasTold g.R.Reading.alphabet g.R.Lettered.LETTER l.fn.capture (record { tally = l.fn.tally; paths = l.fn.paths }) told (position l.progress l.tally l.paths)
    × IfSome (whole_text g.R.Value.Display.output told) (Appends (g.O.Write.contents l.fn.output) (g.O.Write.contents l.output)))

abbrev pub decreases-loop-line : goal.decreases-loop-line
decreases-loop-line g l = steps_to_go l.progress
