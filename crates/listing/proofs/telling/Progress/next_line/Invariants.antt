use Rattle.std.proofs.Common.{◌≡◌, ◌≤◌, None}
use Rattle.listing.specs.Carrying.{HasRoom}
use Rattle.listing.specs.Telling.{StepsOn, position, steps_to_go}
use Rattle.listing.specs.declared.telling.Stage.TheVariants.{Ended}
use Rattle.listing.proofs.telling.Progress.next_line.Given as goal

abbrev pub invariant-loop-self : goal.invariant-loop-self
invariant-loop-self g l =
    StepsOn g.R.Reading.alphabet (position l.fn.self l.fn.tally l.fn.paths) None (position l.self l.tally l.paths)
    × HasRoom l.self.workspace l.tally
    × (steps_to_go l.self ≤ steps_to_go l.fn.self)
    × (l.fn.self.stage ≡ Ended → position l.self l.tally l.paths ≡ position l.fn.self l.fn.tally l.fn.paths)
    × (l.self.stage ≡ Ended → position l.self l.tally l.paths ≡ position l.fn.self l.fn.tally l.fn.paths)

abbrev pub decreases-loop-self : goal.decreases-loop-self
decreases-loop-self g l = steps_to_go l.self
