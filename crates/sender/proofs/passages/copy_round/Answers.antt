use Rattle.std.proofs.Common.{◌≡◌, ◌+◌, ◌-◌, ◌%◌, ◌++◌, length, take, drop, ap, ◌∙◌, arith}
use Rattle.std.proofs.Math.Nat.{mod-add-mod}
use Rattle.sender.proofs.Pieces.{two_pieces}
use Rattle.sender.proofs.passages.copy_round.Goals as goal

pub returns-clause-wrote : goal.returns-clause-wrote
returns-clause-wrote c =
    let round = c.args.round.now in
    let first = c.args.start % length round in
    let m = c.min.result in
    let n = length c.split_at_mut-ahead.result.1.now in
    let front = c.split_at_mut-ahead.ensures.front_len in
    let back = c.split_at_mut-ahead.ensures.back_len in
    let own : first + length c.split_at_mut-ahead.result.0.now - first ≡ m = omega (arith, front) in
    let ahead = c.copy_from_slice.ensures.after ∙ ap (λ k. take k (drop first round)) own in
    (λ i. ahead i ++ c.copy_from_slice-2.ensures.after i)
    ∙ two_pieces round c.args.start m n (length c.args.target.now) (omega (arith, c.requires)) c.requires.1 (omega (arith, back)) c.min.ensures

pub returns-clause-behind : goal.returns-clause-behind
returns-clause-behind c = grind (arith, mod-add-mod)
