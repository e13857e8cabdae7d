use Rattle.std.proofs.Common.{rules}
use Rattle.listing.proofs.Inputs.{input_listed, lists_what_came, on_ok}
use Rattle.listing.proofs.input.list_input.Goals as goal

pub returns-clause-takes : goal.returns-clause-takes
returns-clause-takes g c =
    on_ok _ c.flush.result
    (lists_what_came _ _ c.fill.new.buffer c.in_ok-filled.filled (search rules) c.in_ok-filled.ensures.fills _ c.in_ok-write_by_letter.was _ _ _ c.flush.ensures.bytes _ _ c.write_by_letter.ensures)

pub returns-clause-lists : goal.returns-clause-lists
returns-clause-lists g c =
    on_ok _ c.flush.result
    (input_listed _ _ c.fill.new.buffer c.in_ok-filled.filled (search rules) c.in_ok-filled.ensures.fills _ c.in_ok-write_by_letter.was _ _ _ c.flush.ensures.bytes _ _ c.write_by_letter.ensures)
