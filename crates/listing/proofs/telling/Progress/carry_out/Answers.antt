use Rattle.std.proofs.Common.{refl}
use Rattle.listing.proofs.Stepping.{carried, skipped}
use Rattle.listing.proofs.telling.Progress.carry_out.Goals as goal

pub returns-in-Ok-clause-goes_on : goal.returns-in-Ok-clause-goes_on
returns-in-Ok-clause-goes_on g c = carried _ _ _ _ c.in-Ok.line c.in-Ok.ensures.does refl refl refl c.requires.reading

pub returns-in-Err-clause-goes_on : goal.returns-in-Err-clause-goes_on
returns-in-Err-clause-goes_on g c = skipped _ _ _ _ c.in-Err.fault c.in-Err.ensures.does refl refl c.none-self.ensures c.requires.reading
