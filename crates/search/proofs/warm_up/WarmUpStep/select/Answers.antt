use Rattle.std.proofs.Common.{arith}
use Rattle.search.specs.Steps.{warm_up_step_of}
use Rattle.search.proofs.Selecting.{survives_more}
use Rattle.search.proofs.Words.{longer_below}
use Rattle.search.proofs.warm_up.WarmUpStep.select.Goals as goal

pub loop-number-preserved : goal.loop-number-preserved
loop-number-preserved g c =
    let k = c.loop-number.number in
    let word = c.loop-number.word in
    let odd = c.select_at-survivor.result.odd in (
      longer_below word k odd c.loop-number-test.true c.loop-number.invariant.0,
      survives_more g.W.Weighing.scale (warm_up_step_of c.args.self.now) c.loop-number.new word k odd _
          c.loop-number-test.true (omega arith) c.loop-number.invariant.0 c.loop-number.invariant.1 c.select_at-survivor.ensures,
    )
