use Rattle.std.proofs.Common.{refl}
use Rattle.listing.proofs.Stepping.{begun, ended_told, stopped_told}
use Rattle.listing.specs.Telling.{position}
use Rattle.listing.proofs.telling.Progress.begin.Goals as goal

pub returns-then-self-clause-goes_on : goal.returns-then-self-clause-goes_on
returns-then-self-clause-goes_on g c = λ tally paths. ended_told _ (position c.args.self.now tally paths) _ c.requires.reading c.requires.done c.if-self.true refl refl

pub returns-in-Ok-clause-goes_on : goal.returns-in-Ok-clause-goes_on
returns-in-Ok-clause-goes_on g c = λ tally paths.
    begun _ (position c.args.self.now tally paths) _ c.requires.reading c.requires.done c.if-self.false c.in-Ok.ensures.0 c.in-Ok.ensures.1 c.of-self.ensures refl refl c.requires.reading

pub returns-in-Err-clause-goes_on : goal.returns-in-Err-clause-goes_on
returns-in-Err-clause-goes_on g c = λ tally paths.
    stopped_told _ (position c.args.self.now tally paths) _ c.in-Err.fault c.requires.reading c.requires.done c.if-self.false c.in-Err.ensures.0 c.in-Err.ensures.1 refl refl refl
