use Rattle.std.proofs.Common.{◌≡◌, ◌+◌, ◌*◌, ◌/◌, subst, ap, ◌∙◌, arith}
use Rattle.code.specs.Filling.{Filled}
use Rattle.code.proofs.buffer.CodedBlock.fill.Goals as goal

pub loop-index-init : goal.loop-index-init
loop-index-init c =
    let block = c.args.self.now in
    let own : block.n ≡ block.n + block.n * 0 / 8 = omega arith in
    subst (λ t. Filled block t c.fill_own.new.buffer) own c.fill_own.ensures

pub fill_column-requires-clause-there : goal.fill_column-requires-clause-there
fill_column-requires-clause-there c = c.loop-index.invariant

pub loop-index-preserved : goal.loop-index-preserved
loop-index-preserved c = c.fill_column.ensures

pub returns : goal.returns
returns c =
    let block = c.args.self.now in
    let last : c.loop-index.index ≡ 24 = omega arith in
    let all : block.n + block.n * c.loop-index.index / 8 ≡ 4 * block.n = ap (λ k. block.n + block.n * k / 8) last ∙ (omega arith) in
    subst (λ t. Filled block t c.loop-index.buffer) all c.loop-index.invariant
