use Rattle.std.proofs.Common.{refl, rules}
use Rattle.sheet.proofs.Sums.{cleared_front}
use Rattle.sheet.proofs.sheets.Sheet.wipe.Goals as goal

pub returns : goal.returns
returns g c = (
  search rules,
  (
    record { shape_stays = refl; count_is = refl },
    cleared_front g.W.Weighing.scale _ _ c.places-2.ensures c.args.tally.now c.clear.new.places (search rules) c.clear.auto.places c.clear.ensures,
  ),
)
