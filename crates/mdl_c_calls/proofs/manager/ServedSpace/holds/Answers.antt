-- The seat at the index is the session's, and its context tells.
use Rattle.std.proofs.Common.{◌≡◌, Some, refl, ap, ◌∙◌, subst}
use Rattle.mdl_c_calls.specs.Managers.{context_fault, seat_of}
use Rattle.mdl_c_calls.specs.contracts.manager.ServedSpace.{the_view}
use Rattle.mdl_c_calls.proofs.ManagerLemmas.{seat-at}
use Rattle.mdl_c_calls.proofs.TransactionLemmas.{context-attended, is-seat}
use Rattle.mdl_c_calls.proofs.manager.ServedSpace.holds.Goals.{in-Direct, in-Kept}
use Rattle.mdl_c_calls.proofs.manager.ServedSpace.holds.Goals as goal

pub keeps-requires : goal.keeps-requires
keeps-requires c =
    let seat = c.index.result.now in let i = c.in_ok-index.index in let manager = the_view c.self.inside in
    let is = is-seat manager c.args.self.now c.args.who i seat c.self.view_is c.in_ok-index.ensures c.index.ensures in
    context-attended manager c.args.who i seat is c.self.inside.sessions c.in-Kept.context c.self.invariant c.in-Kept.is

pub returns : goal.returns
returns c =
    let seat = c.index.result.now in let i = c.in_ok-index.index in let manager = the_view c.self.inside in
    let is = is-seat manager c.args.self.now c.args.who i seat c.self.view_is c.in_ok-index.ensures c.index.ensures in
    let here = subst (λ m. seat_of c.args.who m ≡ Some seat) c.self.view_is (seat-at c.args.who i manager seat is.0 is.1 is.2) in
    elim c.match-index.branch [
      | in-Direct w ↦ rw w.result-is (ap context_fault (here ∙ ap Some w.in-Direct.is), refl)
      | in-Kept w ↦ (let kept = here ∙ ap Some w.in-Kept.is in rw w.result-is (ap context_fault kept, (w.in-Kept.context, kept, w.keeps.ensures, refl)))
    ]
