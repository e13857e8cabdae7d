use Rattle.std.proofs.Common.{◌∷◌, ◌++◌, [], refl, sym, ◌∙◌}
use Rattle.std.proofs.lemmas.Option.{none-some}
use Rattle.listing.specs.Lines.{content}
use Rattle.listing.proofs.Listed.{starts, was_begun, was_listed}
use Rattle.listing.proofs.Written.{breaks_off, line_written, nothing_appended}
use Rattle.listing.proofs.writing.write_over.Goals as goal

pub loop-line-init : goal.loop-line-init
loop-line-init g c =
    let begins = rw c.LETTER.ensures at c.in-Some.ensures in (
      λ sheet is. absurd (none-some sheet (sym c.at_start-progress.ensures.closed ∙ is)),
      ([], starts _ _ c.args.capture.now _ _ _ c.at_start-progress.ensures begins.1, nothing_appended (g.O.Write.contents c.args.output.now)),
    )

pub loop-line-preserved : goal.loop-line-preserved
loop-line-preserved g c =
    let (told, has, text) = c.loop-line.invariant.1 in (
      c.next_line.ensures.room,
      (
        told ++ content c.in-Some-next_line.line ∷ [],
        (c.in-Some-next_line.ensures.gives.tells _ _ _ told has).has,
        line_written g.R.Value.Display.output _ (g.O.Write.contents c.loop-line.output) _ told (content c.in-Some-next_line.line) text c.in_ok-writeln.ensures.bytes,
      ),
    )

pub returns : goal.returns
returns g c =
    let begins = rw c.LETTER.ensures at c.in-Some.ensures in
    let (told, has, text) = c.loop-line.invariant.1 in
    let gives = c.in_default-next_line.ensures.gives in
    (begins.0, (told, was_listed _ _ _ _ told _ (gives.ends refl).0 (gives.tells _ _ _ told has), text))

pub returns-in_err-writeln : goal.returns-in_err-writeln
returns-in_err-writeln g c =
    let begins = rw c.LETTER.ensures at c.in-Some.ensures in
    let (told, has, text) = c.loop-line.invariant.1 in
    breaks_off _ _ _ _ _ _ _ _ _ _ c.from_residual.ensures.0
    (begins.0, (_, was_begun _ _ _ _ _ _ (c.in-Some-next_line.ensures.gives.tells _ _ _ told has)))
