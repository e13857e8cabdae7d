use Rattle.std.proofs.Common.{refl}
use Rattle.listing.proofs.Formatted.{reads_the_format}
use Rattle.listing.proofs.Listed.{listed}
use Rattle.listing.proofs.OnlyOne.{one_listing}
use Rattle.listing.proofs.listings.list.Goals as goal

pub returns-in_default-clause-one : goal.returns-in_default-clause-one
returns-in_default-clause-one g c = one_listing _ _

pub returns-in_default-clause-format : goal.returns-in_default-clause-format
returns-in_default-clause-format g c = reads_the_format

pub returns : goal.returns
returns g c =
    let begins = rw c.LETTER.ensures at c.in-Some.ensures in
    record {
      lists = (begins.0, listed _ _ c.args.capture.now _ _ _ refl c.at_start.ensures begins.1);
      same = record { tally = refl; paths = refl };
      one = one_listing _ _;
      format = reads_the_format;
    }
