use Rattle.std.proofs.Common.{◌≡◌, ◌≤◌, ◌++◌, None, get_or, drop, length, sym, ap, ◌∙◌, subst, rules, arith, lit<}
use Rattle.std.specs.Option.{option_map}
use Rattle.std.proofs.lemmas.List.{length-take-le}
use Rattle.code.specs.Register.{cells_of}
use Rattle.search.specs.Blocks.{LightestIn, sums_in}
use Rattle.search.specs.Paths.{path_meaning}
use Rattle.search.specs.Quads.{reached_meaning}
use Rattle.search.proofs.Bests.{lightest_behind}
use Rattle.search.proofs.Finish.{reached}
use Rattle.search.proofs.Trellis.{state_cells}
use Rattle.search.proofs.blocks.Block.forward.Goals as goal

pub reached-requires : goal.reached-requires
reached-requires g c =
    let s = g.W.Weighing.scale in
    let self = c.args.self.now in
    let kept = c.warm_up-paths.new.survivors in
    let late : 4 ≤ length kept = omega (arith, length-take-le c.min-warm_up.result c.args.survivors.now (omega arith)) in (
      search rules,
      λ k small.
          reached s self.order.now.columns self.n (sums_in self) kept (length kept) k (get_or c.warm_up-paths.result.now k None) late small (c.warm_up-paths.ensures k small),
    )

pub advance_on-paths-requires-clause-best : goal.advance_on-paths-requires-clause-best
advance_on-paths-requires-clause-best g c = λ k small.
    let s = g.W.Weighing.scale in
    let self = c.args.self.now in
    let kept = c.warm_up-paths.new.survivors in
    let rest = drop c.min-warm_up.result c.args.survivors.now in
    let path = path_meaning s c.warm_up-paths.result.now k in
    let four : length kept ≡ 4 = omega (arith, length-take-le c.min-warm_up.result c.args.survivors.now (omega arith)) in
    let same : path ≡ reached_meaning s c.reached.result k =
    ap (path_meaning s c.warm_up-paths.result.now) (sym (state_cells k small)) ∙ ap (option_map s.mean) (c.reached.ensures (cells_of k)) in
    subst (LightestIn self (kept ++ rest) 4 k) same
    (lightest_behind s self.order.now.columns self.n (sums_in self) kept rest 4 k path (omega arith)
    (subst (λ t. LightestIn self kept t k path) four (c.warm_up-paths.ensures k small)))

pub returns : goal.returns
returns g c = c.advance_on-paths.ensures 0 (lit< tt)
