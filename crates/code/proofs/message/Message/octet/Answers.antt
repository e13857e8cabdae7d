use Rattle.std.proofs.Common.{◌≡◌, ℕ, Bool, ◌+◌, ◌*◌, ◌-◌, ◌<◌, cond, false, get_or, sym, ap, ◌∙◌, arith, rules}
use Rattle.std.proofs.lemmas.Bool.{lt-ltb}
use Rattle.std.proofs.lemmas.List.{get_or_past}
use Rattle.block.specs.Bits.{bit, bit_at, bits_of}
use Rattle.block.specs.Checks.{check_of, term}
use Rattle.block.proofs.Laws.{bit_in_octet, bit_alone, octet_same}
use Rattle.block.proofs.Octets.{bit_octet}
use Rattle.block.proofs.Ranges.{from_fn_at}
use Rattle.code.specs.Messages.{message_bit}
use Rattle.code.proofs.message.Message.octet.Goals as goal

pub returns-then-b-octets : goal.returns-then-b-octets
returns-then-b-octets c i h =
    let message = c.args.self.now in
    let report = message.report.now in
    let b = c.args.b in
    let t = 8 * b + i in
    let octets = message.size.octets in
    let check = message.size.check in
    let there : c.unwrap_or.result ≡ get_or report b 0 = search (rules, get_or_past) in
    let own : t < 8 * octets = omega (arith, c.octets.ensures, c.if-b-octets.true) in
    ap (bit i) there
    ∙ sym (bit_alone (get_or report b 0) i h)
    ∙ sym (bit_in_octet report b i h)
    ∙ sym (ap (λ o. cond o (bit_at report t) (term check (check_of check (bits_of report (8 * octets))) (t - 8 * octets))) (lt-ltb t (8 * octets) own))

pub returns-else-b-octets : goal.returns-else-b-octets
returns-else-b-octets c i h =
    let message = c.args.self.now in
    let f : ℕ → Bool = λ i. message_bit message (8 * c.args.b + i) in
    ap (bit i) (c.octet.ensures ∙ octet_same _ _ (from_fn_at _ _ _ f false 8 c.from_fn.ensures.items (λ i r q k. search rules))) ∙ bit_octet f i h
