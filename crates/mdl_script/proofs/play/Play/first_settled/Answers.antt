-- Those that wait are noted.
use Rattle.std.proofs.Common.{sym, ap, ◌∙◌}
use Rattle.std.specs.List.{find}
use Rattle.mdl_core.specs.CoreCalls.{has_settled}
use Rattle.mdl_script.proofs.SettleLemmas.{found-among, waiting-speak}
use Rattle.mdl_script.proofs.play.Play.first_settled.Goals as goal

pub first_settled-requires : goal.first_settled-requires
first_settled-requires c = rw c.deref.ensures.value (waiting-speak c.args.self.now c.requires)

pub returns-clause-found : goal.returns-clause-found
returns-clause-found c =
    sym (found-among c.args.self.now c.first_settled.result c.requires (c.first_settled.ensures.found ∙ ap (λ ws. find (has_settled c.args.self.now.space) ws) c.deref.ensures.value))
