use Rattle.std.proofs.Common.{◌≤◌, length, refl, rules}
use Rattle.sheet.proofs.Sums.{laid_front}
use Rattle.sheet.proofs.sheets.Sheet.take.Goals as goal

pub returns : goal.returns
returns g c =
    let whole : c.places.result ≤ length c.args.tally.now = search rules in (
      search rules,
      record {
        total_is = refl;
        counts = record { shape_stays = refl; count_is = refl };
        lays =
            laid_front g.R.Weighing.scale _ _ c.places.ensures c.args.tally.now c.lay.new.places whole c.lay.auto.places g.R.Reading.alphabet
            c.args.start c.args.octets.now c.lay.ensures;
      },
    )
