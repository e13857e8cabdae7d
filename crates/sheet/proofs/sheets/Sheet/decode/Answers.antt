use Rattle.code.specs.Shapes.{shape_of}
use Rattle.search.specs.Found.{message_at}
use Rattle.sheet.proofs.sheets.Sheet.decode.Goals as goal

pub returns-clause-does : goal.returns-clause-does
returns-clause-does g c =
    let shape = shape_of c.args.self.now.shape in
    let performed = c.in_ok-found.ensures.does in
    let found = performed.1.0 in (
      performed.0,
      (
        record {
          names = found.names;
          verdict = c.of.ensures shape (message_at shape c.find_nearest.new.target) found.verdict;
        },
        performed.1.1,
      ),
    )
