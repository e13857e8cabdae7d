-- The weight of a branch by the entries of its outputs. Assumes nothing.
use Rattle.code.specs.declared.registers.Outputs.{Outputs}
use Rattle.weighing.specs.Scales.{Scale}
use Rattle.search.specs.Weights.{side}
use Rattle.search.specs.declared.branches.StepEntries.{StepEntries}

abbrev pub entries_weight : {V : Type 0} (s : Scale V) → StepEntries V → Outputs → s.Meaning
entries_weight s e v =
    s.plus
    (s.plus (s.plus (s.mean (side v.v1 e.v1)) (s.mean (side v.v2 e.v2))) (s.mean (side v.v3 e.v3)))
    (s.mean (side v.v4 e.v4))
