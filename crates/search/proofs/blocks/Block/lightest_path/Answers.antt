use Rattle.search.specs.Blocks.{sums_in}
use Rattle.search.proofs.Finish.{traced}
use Rattle.search.proofs.blocks.Block.lightest_path.Goals as goal

pub returns : goal.returns
returns g c =
    let self = c.args.self.now in
    traced g.W.Weighing.scale self.order.now.columns self.n (sums_in self) c.forward.new.survivors c.forward.result c.unwrap-3.result c.forward.ensures c.unwrap-3.ensures
