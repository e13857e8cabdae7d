use Rattle.std.proofs.Common.{◌+◌, ◌*◌, ◌/◌, ◌%◌, ap, length, refl, arith}
use Rattle.sheet.specs.Calls.{block_length_of}
use Rattle.listing.proofs.Carried.{refused_within, take_done, take_refused, without_sheet}
use Rattle.listing.proofs.workspaces.Workspace.take.Goals as goal

pub returns-in_default-clause-does : goal.returns-in_default-clause-does
returns-in_default-clause-does g c = λ paths. without_sheet _ _ _ c.args.at _ refl refl refl refl (λ room. refl) refl c.in_default.is

pub of_take-requires-clause-index : goal.of_take-requires-clause-index
of_take-requires-clause-index g c = λ index is.
    let within = refused_within g.R.Reading.alphabet (block_length_of c.in-Some.sheet) _ _ _ c.args.symbols.now c.in-Err.refusal c.in-Err.ensures.0 c.in-Err.ensures.1 index is in
    omega (arith, within, c.in-Some.sheet.shape.size.few)

pub returns-in-Ok-clause-does : goal.returns-in-Ok-clause-does
returns-in-Ok-clause-does g c = λ paths.
    take_done _ _ _ c.args.at c.args.start c.unwrap_or-start.result c.args.symbols.now c.in-Ok.field-0 c.in-Some.sheet c.take.new.self c.in-Some.is refl c.unwrap_or-start.ensures
    (ap (λ n. (c.unwrap_or-start.result + length c.args.symbols.now / 8) % (4 * n)) c.block_octets.ensures) refl c.in-Ok.ensures

pub returns-in-Err-clause-does : goal.returns-in-Err-clause-does
returns-in-Err-clause-does g c = λ paths.
    take_refused _ _ _ c.args.at c.args.start c.unwrap_or-start.result c.args.symbols.now c.in-Err.refusal c.of_take.result c.in-Some.sheet c.take.new.self c.in-Some.is refl
    c.unwrap_or-start.ensures refl refl c.in-Err.ensures (c.of_take.ensures _ c.args.start c.args.symbols.now c.in-Err.ensures.1)
