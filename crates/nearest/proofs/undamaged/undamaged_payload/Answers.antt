use Rattle.std.proofs.Common.{◌≡◌, ◌*◌, ◌≤◌, length, take, ap, subst, ◌∙◌, arith, rules}
use Rattle.nearest.specs.Undamaged.{SentInAll, heard}
use Rattle.nearest.proofs.Returned.{gives_back, rate_of}
use Rattle.nearest.proofs.Sent.{decodes_what_was_sent, payload_long}
use Rattle.nearest.proofs.Taken.{heard_first}
use Rattle.nearest.proofs.undamaged.undamaged_payload.Goals as goal

pub returns-in_err-octets-clause-theorem : goal.returns-in_err-octets-clause-theorem
returns-in_err-octets-clause-theorem c = decodes_what_was_sent _

pub returns : goal.returns
returns c =
    let planned = c.in_ok-octets.ensures in
    let octets = c.in_ok-octets.octets in
    let buffer = c.encode_report.new.buffer in
    let payload_octets = c.send.result in
    let kept = take octets payload_octets in
    let rate : c.args.k ≤ 24 = rate_of 1 4 c.args.k planned.0 in
    let long = payload_long 1 4 c.args.k rate in
    let room : octets ≤ length payload_octets = omega (arith, long, planned.1) in
    let heard_so : take (8 * octets) c.hear-symbols.result ≡ heard kept = ap (take (8 * octets)) c.hear-symbols.ensures ∙ heard_first payload_octets octets room in
    let encoded = rw (c.order_r.ensures, c.unwrap.ensures) at c.encode_report.ensures in
    let sent = subst (λ n. SentInAll 1 4 buffer n kept) planned.1 c.send.ensures in
    let calls = rw heard_so at (rw c.unwrap-2.ensures at c.nearest_message.ensures.run).1 in
    record {
      theorem = decodes_what_was_sent _;
      run = (
        planned.0,
        record {
          encoding = encoded;
          kept = kept;
          sent = sent;
          scratch' = _;
          calls = calls;
          back = gives_back c.args.report c.args.k (omega (arith, c.ranges.report.fits)) rate c.args.buffer.now buffer kept encoded sent _ _ c.unwrap-2.result (search rules, search rules, search rules) calls;
        },
      );
    }
