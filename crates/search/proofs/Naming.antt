-- What is written is the message that was traced. Assumes nothing.
use Rattle.std.proofs.Common.{◌≡◌, ℕ, ◌+◌, ◌*◌, ◌≤◌, Bool, false, List, ◌++◌, length, take, drop, sym, ap, ◌∙◌, subst, arith}
use Rattle.std.proofs.lemmas.List.FromFn.{fill_by_all}
use Rattle.std.proofs.lemmas.List.{get_or-take, length-take-le}
use Rattle.block.specs.Bits.{bit_at, bits_of, filled}
use Rattle.block.proofs.Octets.{bit_at_filled}
use Rattle.code.specs.Register.{with_tail}
use Rattle.code.specs.Shapes.{Shape, block_length, message_length}
use Rattle.weighing.specs.Scales.{Scale}
use Rattle.search.specs.Found.{Names, message_at}
use Rattle.search.specs.Paths.{Traced, traceback}
use Rattle.search.specs.Weights.{Sums, weight, weight_of}
use Rattle.search.proofs.Trellis.{length-traceback}

-- the first bits of octets that a list of bits fills
read_back : (all : List Bool) (n bits : ℕ) (rest after : List ℕ) → bits ≤ 8 * n → bits ≤ length all → after ≡ filled all n ++ rest → take bits all ≡ bits_of after bits
read_back all n bits rest after within long is =
    fill_by_all (bit_at after) (take bits all) bits false (length-take-le bits all long)
    (λ k h. get_or-take bits all k false h ∙ sym (ap (λ xs. bit_at xs k) is ∙ bit_at_filled all n rest k (omega arith)))

pub names_since : {V : Type 0} (s : Scale V) (shape : Shape) (sums : Sums s) (before front survivors : List ℕ) (least : V) (n : ℕ)
    → n ≡ block_length shape → message_length shape + 4 ≡ 8 * n → length survivors ≡ 8 * n
    → front ≡ filled (traceback survivors 0) n
    → Traced s shape.order n sums (traceback survivors 0) (message_length shape) (s.mean least)
    → Names s shape sums before (front ++ drop n before) least
names_since s shape sums before front survivors least n size whole steps written traced =
    let order = shape.order in
    let bits = message_length shape in
    let after = front ++ drop n before in
    let all = traceback survivors 0 in
    let long : length all ≡ length survivors = length-traceback survivors 0 in
    let is : after ≡ filled all n ++ drop n before = ap (λ xs. xs ++ drop n before) written in
    let message : take bits all ≡ message_at shape after = read_back all n bits (drop n before) after (omega arith) (omega arith) is in
    let weighs : s.mean least ≡ weight_of s shape sums (message_at shape after) =
    subst (λ m. s.mean least ≡ weight s order m sums (message_at shape after)) size (traced.weighs ∙ ap (weight s order n sums) message) in
    record {
      written =
          is ∙ ap (λ xs. filled xs n ++ drop n before) (traced.whole ∙ ap with_tail message)
          ∙ ap (λ m. filled (with_tail (message_at shape after)) m ++ drop m before) size;
      weighs = weighs;
      nearest = λ other e.
          subst (λ w. s.atmost w (weight_of s shape sums other)) weighs
          (subst (λ m. s.atmost (s.mean least) (weight s order m sums other)) size (traced.least other e));
    }
