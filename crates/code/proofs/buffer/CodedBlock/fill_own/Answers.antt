use Rattle.std.proofs.Common.{◌≡◌, subst, arith}
use Rattle.code.specs.Filling.{Filled}
use Rattle.code.proofs.Rowed.{more_filled, none_filled, own_octet}
use Rattle.code.proofs.buffer.CodedBlock.fill_own.Goals as goal

pub loop-b-init : goal.loop-b-init
loop-b-init c = none_filled _ _

pub loop-b-preserved : goal.loop-b-preserved
loop-b-preserved c =
    let block = c.args.self.now in
    more_filled block c.loop-b.buffer c.loop-b.b _ (omega arith) c.loop-b.invariant
    (own_octet block c.loop-b.b c.loop-b-test.true)

pub returns : goal.returns
returns c =
    let block = c.args.self.now in
    let all : c.loop-b.b ≡ block.n = omega arith in
    subst (λ t. Filled block t c.loop-b.buffer) all c.loop-b.invariant
