use Rattle.std.proofs.Common.{rules, ◌≡◌, ℕ, List, Ok, subst}
use Rattle.code.specs.Shapes.{Shape}
use Rattle.search.specs.Scratch.{contents}
use Rattle.sheet.specs.Calls.{Opens}
use Rattle.tally_c.proofs.Heard.{heard}
use Rattle.tally_c.proofs.hearing.hear.Goals as goal

pub returns : goal.returns
returns g c =
    let ordered : c.new.result ≡ Ok c.in_ok-order.order = search rules in
    let opened : c.open.result ≡ Ok c.in_ok-sheet.sheet = search rules in
    let taken : c.take.result ≡ Ok c.in_ok-map_err.field-0 = search rules in
    let same = (rw ordered at c.new.ensures).1 in
    let shape : List ℕ → Shape = λ order. record { octets = c.args.octets; check = c.args.check; order = order } in
    let opening = subst (λ order. Opens (shape order) c.args.tally.now c.open.new.tally (Ok c.in_ok-sheet.sheet)) same (rw opened at c.open.ensures) in
    heard _ (shape c.args.columns.now) c.args.start c.args.symbols.now opening (rw taken at c.take.ensures)
    c.args.target.now c.decode.new.target (contents c.args.scratch.now) (contents c.decode.new.scratch)
    c.decode.result c.map_err-4.result
    (rw same at c.in_ok-order.order.each) c.decode.ensures.does (search rules)
