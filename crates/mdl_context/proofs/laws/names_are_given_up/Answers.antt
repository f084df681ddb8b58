use Rattle.mdl_context.proofs.NameLemmas.{names-given-up}
use Rattle.mdl_context.proofs.laws.names_are_given_up.Goals as goal

pub returns : goal.returns
returns g c =
    let laws = g.met.S.LockSpace.laws in
    names-given-up g.S.LockSpace laws
