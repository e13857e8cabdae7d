use Rattle.std.proofs.Common.{◌≡◌, ℕ, ◌<◌, get_or}
use Rattle.code.specs.Rows.{output_octet}
use Rattle.code.proofs.buffer.fill_band.Given as goal

abbrev pub invariant-loop-b : goal.invariant-loop-b
invariant-loop-b l = (k : ℕ) → k < l.b → get_or l.band k 0 ≡ output_octet l.number l.rows k
