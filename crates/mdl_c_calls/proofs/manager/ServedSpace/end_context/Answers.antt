-- The context of a session gives all up, and the session its pins. The others are served as before.
use Rattle.std.proofs.Common.{set-set, refl, sym, subst}
use Rattle.mdl_space.specs.CoreMembers.{core_space}
use Rattle.mdl_context.specs.Contexts.{LeavesOthers}
use Rattle.mdl_context.proofs.OthersLemmas.{both-leave}
use Rattle.mdl_c_calls.specs.contracts.manager.ServedSpace.{the_view}
use Rattle.mdl_c_calls.specs.declared.seat.Seat.TheVariants.{Direct, Kept}
use Rattle.mdl_c_calls.proofs.TransactionLemmas.{context-attended, is-seat, leaves-seat, not-kept, nothing-left, same-session, serves-ended}
use Rattle.mdl_c_calls.proofs.manager.ServedSpace.end_context.Goals as goal

pub give_all_up-requires : goal.give_all_up-requires
give_all_up-requires c =
    let seat = c.index_mut.result.now in let i = c.in_ok-index.index in let manager = the_view c.self.inside in
    let is = is-seat manager c.args.self.now c.args.who i seat c.self.view_is c.in_ok-index.ensures c.index_mut.ensures.value in
    context-attended manager c.args.who i seat is c.self.inside.sessions c.in-Kept.context c.self.invariant c.in-Kept.is

pub unpin_all-requires-clause-free : goal.unpin_all-requires-clause-free
unpin_all-requires-clause-free c =
    let seat = c.index_mut.result.now in let i = c.in_ok-index.index in let manager = the_view c.self.inside in
    let is = is-seat manager c.args.self.now c.args.who i seat c.self.view_is c.in_ok-index.ensures c.index_mut.ensures.value in
    nothing-left manager c.args.who i seat is c.self.inside.sessions c.in-Kept.context c.give_all_up.new.context c.give_all_up.new.space c.self.invariant c.in-Kept.is
    c.give_all_up.ensures.who c.give_all_up.ensures.attends c.give_all_up.ensures.kept c.give_all_up.ensures.wait

pub invariant_of-self-in-Kept : goal.invariant_of-self-in-Kept
invariant_of-self-in-Kept c =
    let seat = c.index_mut.result.now in let i = c.in_ok-index.index in let manager = the_view c.self.inside in
    let is = is-seat manager c.args.self.now c.args.who i seat c.self.view_is c.in_ok-index.ensures c.index_mut.ensures.value in
    let who = same-session manager c.args.who i seat is c.self.inside.sessions c.in-Kept.context c.in-Kept.context c.self.invariant c.in-Kept.is refl in
    serves-ended manager c.args.who i seat is c.self.inside.sessions c.in-Kept.context c.unpin_all.new.space _
    (set-set c.self.inside.seats.items i (Kept c.give_all_up.new.context) Direct) c.self.invariant c.in-Kept.is
    (both-leave core_space c.in-Kept.context.who c.self.inside.space c.give_all_up.new.space c.unpin_all.new.space c.give_all_up.ensures.others
    (subst (λ w. LeavesOthers core_space w c.give_all_up.new.space c.unpin_all.new.space) (sym who) c.unpin_all.ensures.others))

pub returns-in-Direct : goal.returns-in-Direct
returns-in-Direct c =
    let seat = c.index_mut.result.now in let i = c.in_ok-index.index in let manager = the_view c.self.inside in
    let is = is-seat manager c.args.self.now c.args.who i seat c.self.view_is c.in_ok-index.ensures c.index_mut.ensures.value in
    rw (← c.self.view_is) (not-kept manager c.args.who i seat is c.in-Direct.is)

pub returns-in-Kept : goal.returns-in-Kept
returns-in-Kept c =
    let seat = c.index_mut.result.now in let i = c.in_ok-index.index in let manager = the_view c.self.inside in
    let is = is-seat manager c.args.self.now c.args.who i seat c.self.view_is c.in_ok-index.ensures c.index_mut.ensures.value in
    rw (← c.self.view_is)
    (leaves-seat manager c.args.who i seat is c.in-Kept.context c.give_all_up.new.context c.give_all_up.new.space c.unpin_all.new.space _
    (set-set c.self.inside.seats.items i (Kept c.give_all_up.new.context) Direct) c.in-Kept.is c.give_all_up.ensures.run c.give_all_up.ensures.kept
    c.give_all_up.ensures.wait c.unpin_all.ensures.unpinned)
