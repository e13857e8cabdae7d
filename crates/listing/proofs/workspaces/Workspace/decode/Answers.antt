use Rattle.std.proofs.Common.{ap, arith, refl, rules, take}
use Rattle.std.proofs.lemmas.Grind.{common_steps}
use Rattle.std.proofs.lemmas.List.{length-take-le}
use Rattle.listing.proofs.Carried.{decode_done, front_used, without_sheet}
use Rattle.listing.proofs.workspaces.Workspace.decode.Goals as goal

pub unwrap-decoded-requires : goal.unwrap-decoded-requires
unwrap-decoded-requires g c = grind (arith, common_steps, length-take-le 32 c.args.paths.now c.requires.states)

pub returns-in_default : goal.returns-in_default
returns-in_default g c = without_sheet _ _ _ c.args.at _ refl refl refl refl (λ room. refl) refl c.in_default.is

pub returns : goal.returns
returns g c =
    decode_done _ _ _ c.args.at c.in-Some.sheet _ c.unwrap-decoded.result _ c.decode.new.target _ _ c.in-Some.is c.in-Some.is refl refl
    (front_used 32 _ c.args.paths.now c.requires.states (search rules))
    (ap (λ n. take n c.decode.new.target) c.octets.ensures) (rw c.unwrap-decoded.ensures at c.decode.ensures.does)
