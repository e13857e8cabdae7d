use Rattle.std.proofs.Common.{◌≡◌, ◌+◌, ◌-◌, ◌*◌, ◌%◌, ◌≤◌, get_or, ap, mul-add, mul-le-mul_left, subst, ◌∙◌, arith}
use Rattle.block.specs.Bits.{bit}
use Rattle.block.proofs.Laws.{octet_same}
use Rattle.code.specs.Filling.{Filled}
use Rattle.code.specs.Rows.{cell}
use Rattle.code.proofs.Rowed.{in_column, more_filled}
use Rattle.code.proofs.buffer.CodedBlock.fill_whole.Goals as goal

pub loop-b-init : goal.loop-b-init
loop-b-init c = c.requires.there

pub loop-b-preserved : goal.loop-b-preserved
loop-b-preserved c =
    let block = c.args.self.now in
    let order = block.order.now.columns in
    let rows = block.rows.now in
    let n = block.n in
    let b = c.loop-b.b in
    let index = c.args.index in
    let row = 8 * b - (8 * n + n * index) in
    let next : n * (index + 1) ≡ n * index + n * 1 = mul-add n index 1 in
    let most : n * (index + 1) ≤ n * 24 = mul-le-mul_left n (omega (arith, c.requires.within)) in
    let column = get_or order index 0 in
    let within : row + 8 ≤ n = omega (arith, c.requires) in
    let bits = octet_same _ (λ i. cell rows column (row + i)) (λ i h. ap (bit (column % 8)) (c.band-band.ensures.1 (row + i) (omega arith))) in
    more_filled block c.loop-b.buffer b c.column_octet.result (omega (arith, c.requires)) c.loop-b.invariant
    (c.column_octet.ensures ∙ bits ∙ in_column block index b row (omega (arith, c.requires)) (omega (arith, c.requires)) within)

pub returns : goal.returns
returns c =
    let block = c.args.self.now in
    let all : c.loop-b.b ≡ c.args.end = omega (arith, c.requires) in
    subst (λ t. Filled block t c.loop-b.buffer) all c.loop-b.invariant
