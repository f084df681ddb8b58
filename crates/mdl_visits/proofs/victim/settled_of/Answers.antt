-- Each session whose wait isn't open is put into the set.
use Rattle.mdl_visits.proofs.Lemmas.{WaitRead, arith, get_or, nat_tests, none_settled, passed_open, put_settled, take, take_more}
use Rattle.mdl_visits.proofs.victim.settled_of.Goals as goal
use Rattle.mdl_visits.proofs.victim.settled_of.Goals.{then-state-ne-UNSETTLED, else-state-ne-UNSETTLED}

pub loop-read-init : goal.loop-read-init
loop-read-init c = none_settled c.new-settled.result c.new-settled.ensures

pub loop-read-preserved : goal.loop-read-preserved
loop-read-preserved c =
    let words = c.args.words.now in
    let i = c.loop-read.read-index in
    let none : WaitRead = record { session = 0; word = record { 0 = 0 } } in
    let h : WaitRead = get_or words i none in
    let more = take_more words i none c.loop-read-test.true in
    let so = c.state.ensures in
    elim c.if-state-ne-UNSETTLED.branch [
      | then-state-ne-UNSETTLED w ↦ λ session.
          rw (w.settled-is, more)
          (put_settled c.loop-read.settled (take i words) h c.loop-read.invariant w.insert.new.self w.insert.ensures (grind (arith, nat_tests)) session)
      | else-state-ne-UNSETTLED w ↦ λ session.
          rw (w.settled-is, more) (passed_open c.loop-read.settled (take i words) h c.loop-read.invariant (grind (arith, nat_tests)) session)
    ]
