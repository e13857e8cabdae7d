use Rattle.std.proofs.Common.{refl}
use Rattle.listing.specs.Captures.{act_of}
use Rattle.listing.specs.declared.faults.Fault.TheVariants.{Letter, TooLong}
use Rattle.listing.specs.declared.lines.Line.TheVariants.{End, Fault as Faulty}
use Rattle.listing.proofs.Stepping.{one_more, told_by, stepped}
use Rattle.listing.proofs.telling.Progress.step.Goals as goal

pub returns-in-TooLong-clause-goes_on : goal.returns-in-TooLong-clause-goes_on
returns-in-TooLong-clause-goes_on g c =
    told_by _ _ _ _ _ (Faulty 0 TooLong) c.in-TooLong.is refl refl (λ room letter capture sheets told. one_more _ _ room letter capture sheets told _ _)

pub returns-in-NoLetter-clause-goes_on : goal.returns-in-NoLetter-clause-goes_on
returns-in-NoLetter-clause-goes_on g c =
    told_by _ _ _ _ _ (Faulty 0 Letter) c.in-NoLetter.is refl refl (λ room letter capture sheets told. one_more _ _ room letter capture sheets told _ _)

pub returns-in-Stopped-clause-goes_on : goal.returns-in-Stopped-clause-goes_on
returns-in-Stopped-clause-goes_on g c =
    told_by _ _ _ _ _ (End c.args.self.now.at.record_number) c.in-Stopped.is refl refl (λ room letter capture sheets told. one_more _ _ room letter capture sheets told _ _)

pub returns-in-Some-clause-goes_on : goal.returns-in-Some-clause-goes_on
returns-in-Some-clause-goes_on g c = stepped _ _ _ _ (act_of c.in-Some.act) _ c.in-Reading.is c.in-Some.ensures refl refl refl c.carry_out.ensures.goes_on
