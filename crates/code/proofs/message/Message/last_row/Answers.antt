use Rattle.std.proofs.Common.{◌≡◌, ℕ, Bool, ◌+◌, ◌*◌, ◌++◌, length, ap, ◌∙◌, rules}
use Rattle.code.specs.Messages.{message_bit, message_bits}
use Rattle.code.specs.Register.{after, cells, tail, trace}
use Rattle.code.specs.Rows.{first}
use Rattle.code.proofs.Rowed.{closed_row}
use Rattle.code.proofs.message.Message.last_row.Goals as goal

pub returns : goal.returns
returns c =
    let message = c.args.self.now in
    let f = message_bit message in
    let b = c.args.b in
    let m = cells c.args.register in
    let then = cells c.run_bits.new.register in
    let own : ℕ → Bool = λ i. f (8 * b + i) in
    let four : length c.split_at_mut-own.result.0.now ≡ 4 = c.split_at_mut-own.ensures.front_len in
    let began = c.run_bits.ensures.steps ∙ ap (λ n. trace m (first own n)) four in
    let closed : c.copy_from_slice.new.self ≡ trace then (tail then) = search rules in
    c.of_steps.ensures
    ∙ closed_row f b (message_bits message) m then (c.run_bits.new.steps ++ c.copy_from_slice.new.self) c.requires.whole c.requires.stands
    (c.run_bits.ensures.after ∙ ap (λ n. after m (first own n)) four) (λ j. began j ++ closed j)
