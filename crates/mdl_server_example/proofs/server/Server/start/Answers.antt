-- A session starts a statement, and the others are served as before.
use Rattle.std.proofs.Common.{◌<◌, length, subst}
use Rattle.mdl_server_example.proofs.ServerLemmas.{served-again, served-one}
use Rattle.mdl_server_example.proofs.server.Server.start.Goals as goal

pub start-requires : goal.start-requires
start-requires c =
    let inside = subst (λ items. c.in-Some.index < length items) c.deref.ensures.value c.in-Some.ensures in
    (served-one _ c.in-Some.index c.self.inside.runners.items _ c.self.invariant inside c.index_mut.ensures.value).1

pub invariant_of-self : goal.invariant_of-self
invariant_of-self c =
    let inside = subst (λ items. c.in-Some.index < length items) c.deref.ensures.value c.in-Some.ensures in
    served-again _ _ c.in-Some.index c.self.inside.runners.items _ _ c.self.invariant inside c.index_mut.ensures.value c.start.ensures.who c.start.ensures.attends c.start.ensures.others
