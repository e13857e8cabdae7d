use Rattle.std.proofs.Common.{◌+◌, ◌*◌, ◌/◌, ◌≤◌, mul-le-mul_left, arith}
use Rattle.code.proofs.Rowed.{more_filled}
use Rattle.code.proofs.buffer.CodedBlock.fill_column.Goals as goal

pub fill_whole-requires-clause-there : goal.fill_whole-requires-clause-there
fill_whole-requires-clause-there c =
    let block = c.args.self.now in
    let n = block.n in
    let start = n + n * c.args.index / 8 in
    let most : n * (c.args.index + 1) ≤ n * 24 = mul-le-mul_left n (omega (arith, c.requires.within)) in
    more_filled block c.args.buffer.now start c.mixed_octet.result (omega (arith, c.requires.within)) c.requires.there c.mixed_octet.ensures
