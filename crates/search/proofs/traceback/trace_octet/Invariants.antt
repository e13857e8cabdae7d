use Rattle.std.proofs.Common.{◌≡◌, ◌++◌, reverse, length, drop}
use Rattle.search.specs.Paths.{survivor_path, survivor_start, traceback}
use Rattle.search.proofs.traceback.trace_octet.Given as goal

abbrev pub invariant-loop-i : goal.invariant-loop-i
invariant-loop-i l =
    let last = l.initial.state.number in
    (length l.bits ≡ 8) × (survivor_start l.words l.i l.state.number ≡ survivor_start l.words (length l.words) last)
    × (reverse (survivor_path l.words l.i l.state.number) ++ drop l.i l.bits ≡ traceback l.words last)
