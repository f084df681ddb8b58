-- The exchange grants the wait that was met, or meets another word.
use Rattle.std.proofs.Common.{◌≡◌, ◌≢◌, ◌+◌, ◌*◌, ℕ, inr, refl, sym, ◌∙◌, subst, arith, eqb-true, eq-eqb}
use Rattle.mdl_visits.proofs.Lemmas.{BookView, Mine, MissWait, TellsOwn, admitted_at, admitting, is_admitted, is_missed, mine, rescheduled_admitted, rescheduling_missed, table_of, written}
use Rattle.mdl_visits.proofs.grant_waiters.grant_unsettled.Goals as goal

pub returns-then-eq : goal.returns-then-eq
returns-then-eq c =
    let id = c.args.seat.now.table in
    let place = c.args.latch.now.place in
    let number = c.args.ticket.number in
    let m : Mine = c.args.seat.now.me in
    let a : Mine = c.grant_wait-met.new.self.me in
    let b : Mine = c.write_admission_at-granted.new.self.me in
    let session = c.args.ticket.session in
    let here = c.requires.here in
    let h = here.latch in
    let same : c.grant_wait-met.result.0 ≡ c.args.wait.0 = eqb-true c.grant_wait-met.result.0 c.args.wait.0 (sym c.eq.ensures ∙ c.if-eq.true) in
    let count = c.number.ensures in
    let unsettled = c.requires.unsettled in
    let found : c.grant_wait-met.result.0 ≡ 8 * c.number.result + 1 = omega arith in
    let keeps = c.grant_wait-met.ensures.keeps found h h.book here.holds in
    let own = subst (λ (w : ℕ). TellsOwn id.slots session w m.0) found c.grant_wait-met.ensures.own in
    let granted = c.grant_wait-met.ensures.granted found in
    let writes : BookView → Type 0 = λ book. c.write_admission_at-granted.new.self ≡ record c.grant_wait-met.new.self { me = written place book a } in
    let wrote : writes (admitting session number h.book) =
    admitted_at writes c.args.index session number h c.write_admission_at-granted.result here.is_so.0 (c.write_admission_at-granted.ensures.refused h.book keeps.carried) (c.write_admission_at-granted.ensures.written h.book keeps.carried) in
    record {
      granted = is_admitted id place session number c.args.wait.0 c.number.result h m a b here.holds here.is_so.0.0 here.is_so.1 (mine granted) keeps own (mine wrote);
      in_turn = (
        table_of wrote ∙ table_of granted,
        rescheduled_admitted id place session number c.args.wait.0 c.number.result h m a b here.holds here.is_so.0.0 here.is_so.1 (mine granted) keeps own (mine wrote),
      );
    }

pub returns-else-eq : goal.returns-else-eq
returns-else-eq c =
    let id = c.args.seat.now.table in
    let place = c.args.latch.now.place in
    let m : Mine = c.args.seat.now.me in
    let a : Mine = c.grant_wait-met.new.self.me in
    let here = c.requires.here in
    let word = c.grant_wait-met.result.0 in
    let count = c.number.ensures in
    let unsettled = c.requires.unsettled in
    let differs : word ≢ c.args.wait.0 = λ same. let yes = eq-eqb word c.args.wait.0 same in let no = sym c.eq.ensures ∙ c.if-eq.false in absurd (cc) in
    let other : word ≢ 8 * c.number.result + 1 = λ same. differs (omega arith) in
    let missed = c.grant_wait-met.ensures.missed other in
    record {
      granted = is_missed MissWait (inr refl) id place c.args.ticket.session c.args.ticket.number word here.latch m a here.holds here.is_so.0.0 (mine missed) c.args.wait.0 differs;
      in_turn = (
        table_of missed,
        rescheduling_missed MissWait (inr refl) id place c.args.ticket.session c.args.ticket.number word here.latch m a here.holds here.is_so.0.0 (mine missed) c.grant_wait-met.ensures.own,
      );
    }
