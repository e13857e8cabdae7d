use Rattle.std.proofs.Common.{◌+◌, ◌<◌, length, sym, mod-eq_of_lt, subst, arith, rules}
use Rattle.sheet.proofs.Laying.{laying_more}
use Rattle.sheet.proofs.entries.lay_row.Goals as goal

pub loop-i-preserved : goal.loop-i-preserved
loop-i-preserved g c =
    let places = c.loop-i.places in
    let place = c.args.first + c.loop-i.i in
    let within : place < length places = omega (arith, c.requires, c.loop-i-test.true, c.loop-i.invariant.long) in
    laying_more g.R.Reading.alphabet g.R.Weighing.scale c.args.first c.args.octets.now c.args.places.now c.loop-i.i place places
    c.lay_octet.new.entry c.index-places-first.result c.loop-i-test.true c.loop-i.invariant within
    (sym (mod-eq_of_lt (subst (λ n. place < n) c.loop-i.invariant.long within))) (search rules)
