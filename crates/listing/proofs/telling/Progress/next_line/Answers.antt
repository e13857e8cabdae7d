use Rattle.std.proofs.Common.{◌≡◌, ap, arith, refl, subst, sym, true≢false, ◌∙◌}
use Rattle.std.specs.Prelude.{⊤}
use Rattle.std.proofs.lemmas.Option.{none-some}
use Rattle.weighing.specs.declared.Weighing.{Ghosts}
use Rattle.listing.specs.Telling.{Position}
use Rattle.listing.specs.declared.telling.Stage.{Stage}
use Rattle.listing.specs.declared.telling.Stage.TheVariants.{Ended, NoLetter, Reading, Stopped, TooLong}
use Rattle.listing.proofs.telling.Progress.next_line.Goals as goal

-- the stage of a position
stage_of : {W V : Type 0} {g : Ghosts W V} → Position g → Stage
stage_of there = there.progress.stage

-- whether reading goes on at a stage
abbrev goes_on : Stage → Type 0
goes_on TooLong = ⊤
goes_on NoLetter = ⊤
goes_on Reading = ⊤
goes_on Stopped = ⊤
goes_on Ended = ⊥

not_ended : (stage : Stage) → stage ≡ Reading → stage ≡ Ended → ⊥
not_ended stage reads ended = subst goes_on (sym reads ∙ ended) tt

pub returns-in-Some-clause-gives : goal.returns-in-Some-clause-gives
unfolding stage_of
returns-in-Some-clause-gives g c = record {
  tells = λ letter capture lent told has. c.in-Some.ensures.goes_on letter capture lent told (c.loop-self.invariant.0 letter capture lent told has);
  ends = λ none. absurd (none-some _ (sym none));
  rests = λ ended. absurd (let stands = rw (ap stage_of (c.loop-self.invariant.3 ended) ∙ ended) at c.ne.ensures in true≢false (sym c.loop-self-test.true ∙ stands));
}

pub loop-self-preserved : goal.loop-self-preserved
unfolding stage_of
loop-self-preserved g c = (
  λ letter capture lent told has. c.in_default.ensures.goes_on letter capture lent told (c.loop-self.invariant.0 letter capture lent told has),
  c.in_default.ensures.room,
  omega (arith, c.in_default.ensures.fewer, c.loop-self.invariant.2),
  λ ended. absurd (let stands = rw (ap stage_of (c.loop-self.invariant.3 ended) ∙ ended) at c.ne.ensures in true≢false (sym c.loop-self-test.true ∙ stands)),
  λ ended. absurd (not_ended _ (c.in_default.ensures.going refl) ended),
)
