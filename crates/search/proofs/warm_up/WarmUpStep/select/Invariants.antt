use Rattle.std.proofs.Common.{ℕ, ◌^◌, ◌<◌}
use Rattle.block.specs.Bits.{bit}
use Rattle.search.specs.Paths.{path_meaning}
use Rattle.search.specs.Steps.{Survives, warm_up_step_of}
use Rattle.search.proofs.warm_up.WarmUpStep.select.Given as goal

abbrev pub invariant-loop-number : goal.invariant-loop-number
invariant-loop-number g l =
    (l.word < 2 ^ l.number)
    × ((k : ℕ) → k < l.number → Survives (warm_up_step_of l.self) (path_meaning g.W.Weighing.scale l.new k) (bit k l.word) k)
