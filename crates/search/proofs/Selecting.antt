-- One state more is selected at. Assumes nothing.
use Rattle.std.proofs.Common.{ℕ, ◌+◌, ◌^◌, ◌<◌, Bool, List, length, set, None, Option, sym, subst, below_more, get_or-set_other, get_or-set_same, arith}
use Rattle.std.specs.Option.{option_map}
use Rattle.block.specs.Bits.{bit}
use Rattle.weighing.specs.Scales.{Scale}
use Rattle.search.specs.Paths.{path_meaning}
use Rattle.search.specs.Steps.{Survives, TrellisStep}
use Rattle.search.proofs.Words.{bit_new, bit_old, longer}

pub survives_more : {V : Type 0} (s : Scale V) (step : TrellisStep s) (new : List (Option V)) (word k : ℕ) (odd : Bool) (weight : Option V)
    → k < 16 → k < length new → word < 2 ^ k
    → ((j : ℕ) → j < k → Survives step (path_meaning s new j) (bit j word) j)
    → Survives step (option_map s.mean weight) odd k
    → (j : ℕ) → j < k + 1 → Survives step (path_meaning s (set new k weight) j) (bit j (longer word k odd)) j
survives_more s step new word k odd weight room within below before here =
    below_more _ _
    (λ j h. subst (λ b. Survives step (path_meaning s (set new k weight) j) b j) (sym (bit_old word k odd room below j h))
    (subst (λ x. Survives step (option_map s.mean x) (bit j word) j) (sym (get_or-set_other new k j weight None (λ e. omega arith))) (before j h)))
    (subst (λ b. Survives step (path_meaning s (set new k weight) k) b k) (sym (bit_new word k odd room below))
    (subst (λ x. Survives step (option_map s.mean x) odd k) (sym (get_or-set_same new k weight None within)) here))
