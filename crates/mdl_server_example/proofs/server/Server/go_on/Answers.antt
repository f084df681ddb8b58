-- A session goes on, and the others are served as before.
use Rattle.std.proofs.Common.{◌<◌, length, subst}
use Rattle.mdl_server_example.proofs.ServerLemmas.{served-again, served-one}
use Rattle.mdl_server_example.proofs.server.Server.go_on.Goals as goal

pub go_on-requires : goal.go_on-requires
go_on-requires c =
    let inside = subst (λ items. c.in_ok-index.index < length items) c.deref.ensures.value c.in_ok-index.ensures in
    (served-one _ c.in_ok-index.index c.self.inside.runners.items _ c.self.invariant inside c.index_mut.ensures.value).1

pub invariant_of-self : goal.invariant_of-self
invariant_of-self c =
    let inside = subst (λ items. c.in_ok-index.index < length items) c.deref.ensures.value c.in_ok-index.ensures in
    served-again _ _ c.in_ok-index.index c.self.inside.runners.items _ _ c.self.invariant inside c.index_mut.ensures.value c.go_on.ensures.who c.go_on.ensures.attends c.go_on.ensures.others
