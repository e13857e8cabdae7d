use Rattle.std.proofs.Common.{refl}
use Rattle.listing.proofs.Carried.{wipe_done, without_sheet}
use Rattle.listing.proofs.workspaces.Workspace.wipe.Goals as goal

pub returns-in_default-clause-does : goal.returns-in_default-clause-does
returns-in_default-clause-does g c = λ paths. without_sheet _ _ _ c.args.at _ refl refl refl refl (λ room. refl) refl c.in_default.is

pub returns-clause-does : goal.returns-clause-does
returns-clause-does g c = λ paths. wipe_done _ _ _ c.args.at c.in-Some.sheet c.wipe.new.self c.in-Some.is refl refl refl (rw c.unwrap.ensures at c.wipe.ensures)
