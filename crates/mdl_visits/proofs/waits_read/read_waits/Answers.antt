-- One request more.
use Rattle.mdl_visits.proofs.Lemmas.{Member, and_from, arith, false≢true, get_or, lt-ltb, nat_lt, nat_tests, none_read, one_read, only_reads_on, passed_over, reads_none, refl, sym, take, take_more, wait_word, ◌∙◌}
use Rattle.mdl_visits.proofs.waits_read.read_waits.Goals as goal
use Rattle.mdl_visits.proofs.waits_read.read_waits.Goals.{then-wish-le-GREATEST_SESSION+then-has_session+in_ok-add_wait, else-wish-le-GREATEST_SESSION, else-wish-le-GREATEST_SESSION-via-then-wish-le-GREATEST_SESSION+else-has_session, else-wish-le-GREATEST_SESSION-via-else-wish-le-GREATEST_SESSION}

pub loop-wish-init : goal.loop-wish-init
loop-wish-init c = record {
  reads = ((refl, reads_none c.args.seat.now.me), refl);
  words = none_read c.reserve.new.self.items c.args.seat.now (c.reserve.ensures.items ∙ c.requires.empty);
}

pub returns-in_err-reserve-clause-reads : goal.returns-in_err-reserve-clause-reads
returns-in_err-reserve-clause-reads c = ((refl, reads_none c.args.seat.now.me), refl)

pub returns-in_err-add_wait-clause-reads : goal.returns-in_err-add_wait-clause-reads
returns-in_err-add_wait-clause-reads c = only_reads_on c.args.seat.now c.loop-wish.seat c.add_wait.new.seat c.loop-wish.invariant.reads c.in_err-add_wait.ensures.read.0

pub loop-wish-preserved : goal.loop-wish-preserved
loop-wish-preserved c =
    let inv = c.loop-wish.invariant in
    let wishes = c.args.wishes.now in
    let i = c.loop-wish.wish-index in
    let none : Member = record { session = 0; weight = 0 } in
    let wish : Member = get_or wishes i none in
    let more = take_more wishes i none c.loop-wish-test.true in
    elim c.if-wish-le-GREATEST_SESSION.branch [
      | then-wish-le-GREATEST_SESSION+then-has_session+in_ok-add_wait w ↦
          let added = w.in_ok-add_wait.ensures.read in
          let one = added.1 in
          record {
            reads = rw w.seat-is (only_reads_on c.args.seat.now c.loop-wish.seat w.add_wait.new.seat inv.reads added.0);
            words = rw (w.seat-is, w.words-is, more)
                (one_read (take i wishes) wish c.loop-wish.words.items w.add_wait.new.words.items one.0 c.args.seat.now c.loop-wish.seat w.add_wait.new.seat inv.words inv.reads.0
                added.0.0 one.1 (grind (arith, nat_tests), grind (arith, nat_tests)) (grind (arith, nat_tests)) one.2 one.3);
          }
      | else-wish-le-GREATEST_SESSION w ↦ record {
        reads = rw w.seat-is inv.reads;
        words = rw (w.seat-is, w.words-is, more)
            (passed_over (take i wishes) wish c.loop-wish.words.items c.args.seat.now c.loop-wish.seat inv.words inv.reads.0 (λ is valid. elim w.else-wish-le-GREATEST_SESSION.branch [
              | else-wish-le-GREATEST_SESSION-via-then-wish-le-GREATEST_SESSION+else-has_session v ↦
                  false≢true (sym (sym v.has_session.ensures ∙ v.if-has_session.false)
                  ∙ and_from (nat_lt 0 wish.session) (nat_lt (wait_word c.loop-wish.seat.table.slots wish.session) c.loop-wish.seat.table.words)
                  (lt-ltb 0 wish.session is.0) (lt-ltb (wait_word c.loop-wish.seat.table.slots wish.session) c.loop-wish.seat.table.words is.1))
              | else-wish-le-GREATEST_SESSION-via-else-wish-le-GREATEST_SESSION v ↦ grind (arith, nat_tests)
            ]));
      }
    ]
