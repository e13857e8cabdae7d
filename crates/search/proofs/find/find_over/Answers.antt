use Rattle.std.proofs.Common.{◌≡◌, ◌+◌, ◌*◌, ◌++◌, length, drop, ap, sym, ◌∙◌, subst, arith}
use Rattle.std.proofs.lemmas.Bool.Decides.{nat_tests}
use Rattle.std.proofs.lemmas.List.{length-take-le}
use Rattle.block.specs.Bits.{filled}
use Rattle.code.specs.Shapes.{message_length, shape_of}
use Rattle.search.specs.Scratch.{UsesFront}
use Rattle.search.specs.Weights.{entry_sums}
use Rattle.search.proofs.Fronts.{front_of}
use Rattle.search.proofs.Naming.{names_since}
use Rattle.search.proofs.find.find_over.Goals as goal

pub lightest_path-weight-requires : goal.lightest_path-weight-requires
lightest_path-weight-requires g c = (grind (arith, length-take-le), omega (arith, length-take-le 32 c.args.paths.now (omega arith)))

pub returns : goal.returns
returns g c =
    let s = g.W.Weighing.scale in
    let shape = shape_of c.args.shape.now in
    let n = c.block_octets-n.result in
    let is = c.block_octets-n.ensures in
    let block = c.new-block.ensures in
    let bits = message_length shape in
    let whole : bits + 4 ≡ 8 * n = omega arith in
    let kept = c.lightest_path-weight.new.survivors in
    let steps : length kept ≡ 8 * n = c.lightest_path-weight.auto.survivors ∙ length-take-le (8 * n) c.args.survivors.now (omega arith) in
    let halves : length c.lightest_path-weight.new.paths ≡ 32 = c.lightest_path-weight.auto.paths ∙ length-take-le 32 c.args.paths.now (omega arith) in
    let traced = rw (block.tally, block.order, block.n ∙ sym is) at (c.lightest_path-weight.ensures bits (whole ∙ sym steps)) in (
      grind (arith, nat_tests),
      (
        record {
          names =
              names_since s shape (entry_sums s c.args.tally.now) c.args.target.now c.trace_back.new.target kept c.lightest_path-weight.result n is whole steps
              (c.trace_back.ensures ∙ ap (filled _) (length-take-le n c.args.target.now (omega arith))) traced;
          verdict = c.check_fits.ensures;
        },
        record {
          survivors = subst (λ m. UsesFront m c.args.survivors.now (kept ++ drop (8 * n) c.args.survivors.now)) (ap (λ m. 8 * m) is) (front_of (8 * n) c.args.survivors.now kept steps (omega arith));
          paths = front_of 32 c.args.paths.now c.lightest_path-weight.new.paths halves (omega arith);
        },
      ),
    )
