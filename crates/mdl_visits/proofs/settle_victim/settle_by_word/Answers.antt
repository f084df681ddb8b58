-- The wait was open by its word, and was met so or otherwise.
use Rattle.std.proofs.Common.{◌≡◌, Some, inl, arith, ◌%◌, ◌/◌}
use Rattle.mdl_visits.proofs.Lemmas.{nat_tests, tries_nothing, tries_to_settle}
use Rattle.mdl_visits.proofs.settle_victim.settle_by_word.Goals as goal

pub returns-then-state-ne-UNSETTLED : goal.returns-then-state-ne-UNSETTLED
returns-then-state-ne-UNSETTLED c =
    let so = c.state.ensures in
    tries_nothing c.args.read.session (Some c.args.read) c.args.seat.now (inl (grind (arith, nat_tests)))

pub returns : goal.returns
returns c =
    let word = c.args.read.word.0 in
    let number = c.number.result in
    let unsettled : word % 8 ≡ 1 = grind (arith, nat_tests) in
    let whole : number ≡ word / 8 = c.number.ensures in
    tries_to_settle number c.settle_wait.result.0 c.args.read c.eq.result c.args.seat.now c.settle_wait.new.self (omega arith) c.eq.ensures c.settle_wait.ensures.own c.settle_wait.ensures.settled
    c.settle_wait.ensures.missed
