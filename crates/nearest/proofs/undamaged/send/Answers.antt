use Rattle.std.proofs.Common.{◌≡◌, ◌+◌, take, Ok, refl, subst, arith}
use Rattle.sender.specs.Passages.{Begins, MakesSender, held}
use Rattle.sender.specs.Sendings.{Sending, confirmed, made, next, none}
use Rattle.nearest.proofs.undamaged.send.Goals as goal

pub returns : goal.returns
returns c =
    let s = c.unwrap-sender.result in
    let buffer = c.args.buffer.now in
    let count = c.args.count in
    let target' = c.copy.new.target in
    let made_so : MakesSender 1 4 (Ok s) = rw c.unwrap-sender.ensures at c.new.ensures in
    let g = held c.begin-passage.result in
    let begun : Begins 1 4 s.cursor g = cc (made_so.1.0, made_so.1.1, c.size.ensures, c.begin-passage.ensures.does) in
    let done : c.copy.result ≡ Ok tt = c.unwrap.ensures in
    let copied = rw done at c.copy.ensures.does in
    let copies = next none buffer _ target' count (held c.copy.new.self) (Ok tt) copied refl in
    let cursor = c.confirm.new.self.0 in
    let in_all : 0 + (0 + count) ≡ count = omega arith in
    record {
      cursor = cursor;
      sending = subst (λ n. Sending 1 4 buffer cursor (take count target') n) in_all
          (confirmed (made s made_so) (record { g = g; begun = begun; copied = copies }) cursor c.confirm.ensures);
    }
