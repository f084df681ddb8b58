-- The tickets of a session's context are changed, and the others are served as before.
use Rattle.mdl_c_calls.specs.Transactions.{changing_tickets}
use Rattle.mdl_c_calls.specs.contracts.manager.ServedSpace.{the_view}
use Rattle.mdl_c_calls.proofs.TransactionLemmas.{context-attended, is-seat, not-kept, runs-for, serves-kept}
use Rattle.mdl_c_calls.proofs.manager.ServedSpace.change.Goals as goal

pub make-requires : goal.make-requires
make-requires c =
    let seat = c.index_mut.result.now in let i = c.in_ok-index.index in let manager = the_view c.self.inside in
    let is = is-seat manager c.args.self.now c.args.who i seat c.self.view_is c.in_ok-index.ensures c.index_mut.ensures.value in
    context-attended manager c.args.who i seat is c.self.inside.sessions c.in-Kept.context c.self.invariant c.in-Kept.is

pub invariant_of-self-2 : goal.invariant_of-self-2
invariant_of-self-2 c =
    let seat = c.index_mut.result.now in let i = c.in_ok-index.index in let manager = the_view c.self.inside in
    let is = is-seat manager c.args.self.now c.args.who i seat c.self.view_is c.in_ok-index.ensures c.index_mut.ensures.value in
    serves-kept manager c.args.who i seat is c.self.inside.sessions c.in-Kept.context c.make.new.context c.make.new.space c.self.invariant c.in-Kept.is c.make.ensures.who
    c.make.ensures.attends c.make.ensures.others

pub returns-in_default : goal.returns-in_default
returns-in_default c =
    let seat = c.index_mut.result.now in let i = c.in_ok-index.index in let manager = the_view c.self.inside in
    let is = is-seat manager c.args.self.now c.args.who i seat c.self.view_is c.in_ok-index.ensures c.index_mut.ensures.value in
    rw (← c.self.view_is) (not-kept manager c.args.who i seat is c.in_default.is)

pub returns : goal.returns
returns c =
    let seat = c.index_mut.result.now in let i = c.in_ok-index.index in let manager = the_view c.self.inside in
    let is = is-seat manager c.args.self.now c.args.who i seat c.self.view_is c.in_ok-index.ensures c.index_mut.ensures.value in
    rw (← c.self.view_is)
    (runs-for manager c.args.who i seat is (changing_tickets c.args.change) c.in-Kept.context c.make.new.context c.make.new.space c.make.result c.in-Kept.is c.make.ensures.run)
