-- The context of a session makes its call, and the others are served as before.
use Rattle.mdl_context.specs.Requests.{trying}
use Rattle.mdl_c_calls.specs.contracts.manager.ServedSpace.{the_view}
use Rattle.mdl_c_calls.proofs.TransactionLemmas.{context-attended, is-seat, not-kept, runs-for, serves-kept}
use Rattle.mdl_c_calls.proofs.manager.ServedSpace.try_acquire.Goals as goal

pub try_acquire-requires : goal.try_acquire-requires
try_acquire-requires c =
    let seat = c.index_mut.result.now in let i = c.in_ok-index.index in let manager = the_view c.self.inside in
    let is = is-seat manager c.args.self.now c.args.who i seat c.self.view_is c.in_ok-index.ensures c.index_mut.ensures.value in
    context-attended manager c.args.who i seat is c.self.inside.sessions c.in-Kept.context c.self.invariant c.in-Kept.is

pub invariant_of-self-2 : goal.invariant_of-self-2
invariant_of-self-2 c =
    let seat = c.index_mut.result.now in let i = c.in_ok-index.index in let manager = the_view c.self.inside in
    let is = is-seat manager c.args.self.now c.args.who i seat c.self.view_is c.in_ok-index.ensures c.index_mut.ensures.value in
    serves-kept manager c.args.who i seat is c.self.inside.sessions c.in-Kept.context c.try_acquire.new.self c.try_acquire.new.space c.self.invariant c.in-Kept.is c.try_acquire.ensures.who
    c.try_acquire.ensures.attends c.try_acquire.ensures.others

pub returns-in_default : goal.returns-in_default
returns-in_default c =
    let seat = c.index_mut.result.now in let i = c.in_ok-index.index in let manager = the_view c.self.inside in
    let is = is-seat manager c.args.self.now c.args.who i seat c.self.view_is c.in_ok-index.ensures c.index_mut.ensures.value in
    rw (← c.self.view_is) (not-kept manager c.args.who i seat is c.in_default.is)

pub returns : goal.returns
returns c =
    let seat = c.index_mut.result.now in let i = c.in_ok-index.index in let manager = the_view c.self.inside in
    let is = is-seat manager c.args.self.now c.args.who i seat c.self.view_is c.in_ok-index.ensures c.index_mut.ensures.value in
    rw (← c.self.view_is)
    (runs-for manager c.args.who i seat is (trying (record { key = c.args.key.now; mode = c.args.mode; duration = c.args.duration })) c.in-Kept.context c.try_acquire.new.self c.try_acquire.new.space c.try_acquire.result c.in-Kept.is c.try_acquire.ensures.run)
