use Rattle.std.proofs.Common.{◌≡◌, ℕ, ◌+◌, List, ◌++◌, Ok, Err, Result, refl, ap, ◌∙◌, rules}
use Rattle.std.proofs.lemmas.List.{drop_all, take_all}
use Rattle.sender.specs.declared.passages.PassageRefusal.{PassageRefusal}
use Rattle.sender.specs.declared.passages.PassageRefusal.TheVariants.{Count, Short}
use Rattle.sender.specs.Passages.{Guard, MakesSender, Begins, Copies, held}
use Rattle.sender.specs.Sendings.{Sending, made, confirmed, given_up, none, next, OwnBuffer, written, asked_of}
use Rattle.sender.proofs.Rounds.{sends_in_rounds, sending_sent}
use Rattle.sender.proofs.sendings.short_sending.Goals as goal

-- a copy of nothing is refused for its count, and leaves the passage as it is
nothing : (buffer target target' : List ℕ) (g g' : Guard) (r : Result Unit PassageRefusal) → Copies buffer target target' 0 g g' r → (r ≡ Err Count) × (g' ≡ g) × (target' ≡ target)
nothing buffer target target' g g' (Ok x) d = absurd (cc d.0)
nothing buffer target target' g g' (Err Count) d = (refl, d.2.1, d.2.0)
nothing buffer target target' g g' (Err Short) d = absurd (cc d.0)

-- each copy is handed the buffer itself
own : (round : ℕ) (r : Result Unit PassageRefusal) (buffer : List ℕ) → OwnBuffer round r buffer buffer
own round (Ok x) buffer = refl
own round (Err e) buffer = tt

pub returns : goal.returns
returns c =
    let s = c.unwrap-sender.result in
    let buffer = c.args.buffer.now in
    let made_so : MakesSender 1 4 (Ok s) = rw c.unwrap-sender.ensures at c.new.ensures in
    let g = held c.begin-first.result in
    let h = held c.copy-refused.new.self in
    let h' = held c.copy.new.self in
    let begun : Begins 1 4 s.cursor g = cc (made_so.1.0, made_so.1.1, c.size.ensures, c.begin-first.ensures.does) in
    -- the first copy is refused and the second performed
    let target = c.copy-refused.new.target in
    let target' = c.copy.new.target in
    let idle = nothing buffer c.args.kept.now target g h c.copy-refused.result c.copy-refused.ensures.does in
    let copies = next (next none buffer c.args.kept.now target 0 h c.copy-refused.result c.copy-refused.ensures.does (own _ _ _)) buffer target target' 3 h' c.copy.result c.copy.ensures.does (own _ _ _) in
    let wrote_is : written c.copy-refused.result 0 target ++ written c.copy.result 3 target' ≡ target' = cc (idle.0, c.unwrap.ensures, take_all 3 target' (search rules)) in
    let asked_is : 0 + (0 + asked_of c.copy-refused.result 0 + asked_of c.copy.result 3) ≡ 3 = simp (idle.0, c.unwrap.ensures) in
    let cursor = c.confirm.new.self.0 in
    let after : Sending 1 4 buffer cursor target' 3 = simp (wrote_is, asked_is) at (confirmed (made s made_so) (record { g = g; begun = begun; copied = copies }) cursor c.confirm.ensures) in
    -- what the second passage copies is given up
    let g' = held c.begin-second.result in
    let begun' : Begins 1 4 cursor g' = cc (made_so.1.0, made_so.1.1, c.size-2.ensures, c.begin-second.ensures.does) in
    let tried = next none buffer c.args.given_up.now c.copy-2.new.target 2 (held c.copy-2.new.self) c.copy-2.result c.copy-2.ensures.does (own _ _ _) in
    let cursor' = c.give_up.new.self.0 in
    let stands : cursor ≡ 3 = (sends_in_rounds 1 4 buffer cursor target' 3 after).stands in
    let lost = (rw c.unwrap-2.ensures at c.copy-2.ensures.does).1.0 in
    let at : (g'.standing ≡ 3) × (g'.round ≡ 8) = (ap (λ x. x.standing) begun' ∙ stands, ap (λ x. x.round) begun') in
    let sending : Sending 1 4 buffer cursor' target' 3 = given_up after (record { g = g'; begun = begun'; copied = tried }) cursor' c.give_up.ensures in
    record {
      sending = sending;
      refused = rw idle.0 (refl, tt, tt);
      kept = sending_sent 1 4 buffer cursor' target' 3 sending;
      given_up = rw (at.0, at.1, drop_all 2 c.args.given_up.now (search rules)) at lost;
      size = (made_so.1.0, made_so.1.1);
      stands = (sends_in_rounds 1 4 buffer cursor' target' 3 sending).stands;
    }
