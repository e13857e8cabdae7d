use Rattle.std.proofs.Common.{◌-◌, ◌<◌, sym, ◌∙◌, mod-eq_of_lt, arith}
use Rattle.std.proofs.Math.Nat.{mod-eq-sub-mod}
use Rattle.sender.proofs.passages.octet_in_round.Goals as goal

pub returns-then-p-round : goal.returns-then-p-round
returns-then-p-round c = sym (mod-eq_of_lt c.if-p-round.true)

pub returns-else-p-round : goal.returns-else-p-round
returns-else-p-round c =
    let below : c.args.p - c.args.round < c.args.round = omega (arith, c.requires, c.if-p-round.false) in
    sym (mod-eq-sub-mod c.if-p-round.false ∙ mod-eq_of_lt below)
