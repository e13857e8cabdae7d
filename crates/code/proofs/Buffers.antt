-- From a block's size to its report's. Assumes nothing.
use Rattle.std.proofs.Common.{◌≡◌, ℕ, ◌*◌, List, ◌++◌, length, drop, ◌∙◌}
use Rattle.block.specs.Checks.{report_message}
use Rattle.block.specs.Sizes.{block_octets}
use Rattle.code.specs.Places.{buffer_of}
use Rattle.code.specs.Calls.{encoded}
use Rattle.code.specs.Register.{coded}

pub encoded_by : (report : List ℕ) (check : ℕ) (order before filled : List ℕ) (octets l room : ℕ)
    → filled ≡ buffer_of order (block_octets octets l) (coded (report_message report octets l)) → room ≡ 4 * block_octets octets l → octets ≡ length report → l ≡ check
    → filled ++ drop room before ≡ encoded report check order ++ drop (4 * block_octets (length report) check) before
encoded_by report check order before filled octets l room is size long same =
    (λ i. (is ∙ (λ j. buffer_of order (block_octets (long j) (same j)) (coded (report_message report (long j) (same j))))) i
    ++ drop ((size ∙ (λ j. 4 * block_octets (long j) (same j))) i) before)
