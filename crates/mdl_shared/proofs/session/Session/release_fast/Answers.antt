-- The ticket that goes is the fast one of its number.
use Rattle.std.proofs.Common.{◌≡◌, Some, subst, ℕ}
use Rattle.mdl_shared.proofs.Lemmas.{gave-up-fast, numbered, view_of}
use Rattle.mdl_shared.proofs.session.Session.release_fast.Goals as goal

pub lose_last-owes-requires : goal.lose_last-owes-requires
lose_last-owes-requires g c = record { last = c.in-Some.ensures.1 }

pub returns-in-Some-clause-released : goal.returns-in-Some-clause-released
returns-in-Some-clause-released g c =
    let gone = c.lose_last-owes.ensures in
    let last = c.in-Some.ensures in
    let held = subst (λ (n : ℕ). numbered n c.self.inside.member.tickets.fast ≡ Some c.in-Some.held) last.0 last.1.0 in
    rw (← c.self.view_is)
    (gave-up-fast c.self.inside.member (view_of c.lose_last-owes.new.self) c.args.id c.in-Some.held held gone.lost gone.released gone.room)
