use Rattle.std.proofs.Common.{◌≡◌, ◌+◌, ◌-◌, Bool, ◌∙◌, arith, length-set}
use Rattle.search.proofs.Traces.{start_more, step_more}
use Rattle.search.proofs.traceback.trace_octet.Goals as goal

pub loop-i-preserved : goal.loop-i-preserved
loop-i-preserved c =
    let words = c.args.words.now in
    let bits = c.loop-i.bits in
    let above = c.loop-i.i in
    let i = above - 1 in
    let s = c.loop-i.state.number in
    let back = c.trace_step-back in
    let p = back.result.state.number in
    let up : above ≡ i + 1 = omega arith in (
      omega (arith, length-set {A = Bool}),
      start_more words above i s p up back.ensures.state ∙ c.loop-i.invariant.1,
      step_more words bits above i s p back.result.read up (omega (arith, c.loop-i.invariant.0)) back.ensures.state back.ensures.read ∙ c.loop-i.invariant.2,
    )
