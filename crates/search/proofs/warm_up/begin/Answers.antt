use Rattle.std.proofs.Common.{◌≡◌, Some, None, replicate, set, sym, subst, rules}
use Rattle.search.specs.Paths.{Best, path_meaning}
use Rattle.search.proofs.Bests.{best_start}
use Rattle.search.proofs.warm_up.begin.Goals as goal

pub returns : goal.returns
returns g c = λ order n sums survivors.
    let s = g.W.Weighing.scale in
    let z = c.zero.result in
    let all : c.fill.new.self ≡ replicate 16 None = search rules in
    subst (λ xs. Best s order n sums survivors (path_meaning s (set xs 0 (Some z))) 0) (sym all) (best_start s order n sums survivors z c.zero.ensures)
