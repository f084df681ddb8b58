-- The session tells its own tickets, which are those of its view.
use Rattle.mdl_shared.proofs.Lemmas.{Holds, List_held, Lists, OutOfMemory, all_tickets, ap, as_held, joins-still, map, member, refl, refused, same-stays, speaks, view_of, ◌∙◌}
use Rattle.mdl_shared.proofs.session.Session.held.Goals as goal

pub returns-in-Ok-clause-joined : goal.returns-in-Ok-clause-joined
returns-in-Ok-clause-joined g c =
    let m = c.self.inside.member in
    let s = view_of m in
    rw (← c.self.view_is)
    (joins-still s s (List_held s.me.0.number) (Holds c.in-Ok.held.items) (same-stays s) (speaks (member m)) refl refl refl tt refl
    (λ state how is. cc) (λ how is. cc) refl (λ r. r) (c.in-Ok.ensures ∙ ap (λ (l : Lists). map as_held (all_tickets l)) m.lists))

pub returns-in-Err-clause-joined : goal.returns-in-Err-clause-joined
returns-in-Err-clause-joined g c =
    let m = c.self.inside.member in
    let s = view_of m in
    rw (← c.self.view_is) (refused s s (List_held s.me.0.number) OutOfMemory (same-stays s) (speaks (member m)) refl tt (λ state how is. cc) tt)
