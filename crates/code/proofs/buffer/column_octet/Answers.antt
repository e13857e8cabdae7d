use Rattle.std.proofs.Common.{ℕ, Bool, ◌+◌, false, get_or, ◌∙◌, rules}
use Rattle.block.specs.Bits.{bit}
use Rattle.block.proofs.Laws.{octet_same}
use Rattle.block.proofs.Ranges.{from_fn_at}
use Rattle.code.proofs.buffer.column_octet.Goals as goal

pub returns : goal.returns
returns c =
    let bits : ℕ → Bool = λ k. bit c.args.i (get_or c.args.band.now (c.args.row + k) 0) in
    c.octet.ensures ∙ octet_same _ _ (from_fn_at _ _ _ bits false 8 c.from_fn.ensures.items (λ i r q k. search rules))
