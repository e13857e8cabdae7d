use Rattle.std.proofs.Common.{refl}
use Rattle.listing.proofs.Carried.{open_done, open_refused}
use Rattle.listing.proofs.workspaces.Workspace.open.Goals as goal

pub returns-in-Ok-clause-does : goal.returns-in-Ok-clause-does
returns-in-Ok-clause-does g c = λ paths. open_done _ _ _ c.args.at _ _ c.order_r.result.columns c.in-Ok.sheet c.order_r.ensures refl refl refl c.in-Ok.ensures

pub returns-in-Err-clause-does : goal.returns-in-Err-clause-does
returns-in-Err-clause-does g c = λ paths.
    open_refused _ _ _ c.args.at _ _ c.order_r.result.columns c.in-Err.refusal c.of_open.result refl refl refl c.in-Err.ensures (c.of_open.ensures c.args.octets c.args.check)
