use Rattle.std.proofs.Common.{drop, subst, take}
use Rattle.sheet.specs.Laying.{LaysOn}
use Rattle.sheet.proofs.Laying.{two_rows}
use Rattle.sheet.proofs.entries.lay.Goals as goal

pub returns : goal.returns
returns g c =
    let a = g.R.Reading.alphabet in
    let s = g.R.Weighing.scale in
    let octets = c.args.octets.now in
    let before = c.args.places.now in
    let mid = c.lay_row.new.places in
    let after = c.lay_row-2.new.places in
    let ahead : LaysOn a s c.args.first (take c.min.result octets) before mid = subst (λ xs. LaysOn a s c.args.first xs before mid) c.split_at.ensures.front c.lay_row.ensures in
    let over : LaysOn a s 0 (drop c.min.result octets) mid after = subst (λ xs. LaysOn a s 0 xs mid after) c.split_at.ensures.back c.lay_row-2.ensures in
    two_rows a s c.args.first c.min.result octets before mid after c.requires.0 c.min.ensures c.lay_row.auto.places ahead over
