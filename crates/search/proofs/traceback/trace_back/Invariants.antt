use Rattle.std.proofs.Common.{◌≡◌, ◌*◌, reverse, length, take, drop}
use Rattle.block.specs.Bits.{filled}
use Rattle.search.specs.Paths.{survivor_path, traceback}
use Rattle.search.proofs.traceback.trace_back.Given as goal

abbrev pub invariant-loop-b : goal.invariant-loop-b
invariant-loop-b l =
    let bits = traceback l.survivors 0 in
    (reverse (survivor_path l.survivors (8 * l.b) l.state.number) ≡ take (8 * l.b) bits)
    × (drop l.b l.target ≡ drop l.b (filled bits (length l.initial.target)))
