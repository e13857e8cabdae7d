use Rattle.code.proofs.Steps.{table_outputs, table_next}
use Rattle.code.proofs.trellis.step_of.Goals as goal

pub returns : goal.returns
returns c = record {
  outputs = table_outputs c.args.table.now c.requires.0 c.args.state c.requires.1 c.args.bit;
  next = table_next c.args.table.now c.requires.0 c.args.state c.requires.1 c.args.bit;
}
