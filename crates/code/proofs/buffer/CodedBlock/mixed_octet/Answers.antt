use Rattle.std.proofs.Common.{ℕ, Bool, ◌+◌, ◌-◌, ◌*◌, ◌/◌, ◌%◌, false, get_or, ◌∙◌, rules}
use Rattle.block.proofs.Laws.{octet_same}
use Rattle.block.proofs.Ranges.{from_fn_at}
use Rattle.code.specs.Rows.{cell}
use Rattle.code.proofs.Rowed.{octet_behind}
use Rattle.code.proofs.buffer.CodedBlock.mixed_octet.Goals as goal

pub returns : goal.returns
returns c =
    let block = c.args.self.now in
    let order = block.order.now.columns in
    let rows = block.rows.now in
    let n = block.n in
    let b = c.args.b in
    let bit : ℕ → Bool = λ i. cell rows (get_or order ((8 * b + i - 8 * n) / n) 0) ((8 * b + i - 8 * n) % n) in
    c.octet.ensures ∙ octet_same _ _ (from_fn_at _ _ _ bit false 8 c.from_fn.ensures.items (λ i r q k. search rules)) ∙ octet_behind block b c.requires.0
