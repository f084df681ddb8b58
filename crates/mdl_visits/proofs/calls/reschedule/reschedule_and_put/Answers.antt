-- Nobody waits, or waits were granted.
use Rattle.mdl_visits.proofs.Lemmas.{ForgetsNobody, GrantsWaits, HasLatched, IsOrderlyLatch, MayServe, Mine, SeatState, TableId, ap, false, inl, inr, leaves_none, leaves_rescheduled, mine, nobody_waits, place_there, served, subst, sym, table_of, visit_after, visit_served, within_of, ◌∙◌}
use Rattle.mdl_visits.proofs.calls.reschedule.reschedule_and_put.Goals as goal
use Rattle.mdl_visits.proofs.calls.reschedule.reschedule_and_put.Goals.{then-has_waiters, else-has_waiters}

pub grant_waiters-requires : goal.grant_waiters-requires
grant_waiters-requires c =
    let here = c.requires.here in
    record { here = subst (λ (x : SeatState). HasLatched c.args.latch.place x IsOrderlyLatch) (sym c.has_waiters.ensures.same) here }

pub put_latch_served-requires : goal.put_latch_served-requires
put_latch_served-requires c =
    let place = c.args.latch.place in
    let m : Mine = c.args.seat.now.me in
    let here = c.requires.here in
    let h = here.latch in
    let same = c.has_waiters.ensures.same in
    elim c.if-has_waiters.branch [
      | then-has_waiters w ↦
          let b : SeatState = w.grant_waiters.new.seat in
          let none = w.grant_waiters.ensures.all.none in
          let way = w.grant_waiters.ensures.all.granted in
          let forgets = subst (λ (x : SeatState). ForgetsNobody x.table place none.latch x.me b.me) same none.is_so.1 in
          let table = way.0 ∙ table_of same in
          record {
            place = place_there place (table_of w.seat-is ∙ table) here.is_place;
            put = subst (λ (x : SeatState). MayServe x.table place x.me) (sym w.seat-is) (record {
              latch = none.latch;
              holds = none.holds;
              exact = none.is_so.0.1;
              start = m;
              served = inr (subst (λ (t : TableId). ForgetsNobody t place none.latch m b.me) (sym table) forgets, none.is_so.2);
            });
          }
      | else-has_waiters w ↦ record {
        place = place_there place (table_of w.seat-is ∙ table_of same) here.is_place;
        put = subst (λ (x : SeatState). MayServe x.table place x.me) (sym (w.seat-is ∙ same)) (record {
          latch = h;
          holds = here.holds;
          exact = here.is_so.1;
          start = m;
          served = inl (nobody_waits h.book.waiting (sym (c.has_waiters.ensures.told h.book here.holds.carried) ∙ w.if-has_waiters.false));
        });
      }
    ]

pub returns : goal.returns
returns c =
    let id = c.args.seat.now.table in
    let place = c.args.latch.place in
    let m : Mine = c.args.seat.now.me in
    let here = c.requires.here in
    let h = here.latch in
    let out : Mine = c.put_latch_served.new.self.me in
    let same = c.has_waiters.ensures.same in
    let put = c.put_latch_served.ensures.made in
    record {
      served = record {
        left = elim c.if-has_waiters.branch [
          | then-has_waiters w ↦
              let b : Mine = w.grant_waiters.new.seat.me in
              let none = w.grant_waiters.ensures.all.none in
              let way = w.grant_waiters.ensures.all.granted in
              let forgets = subst (λ (x : SeatState). ForgetsNobody x.table place none.latch x.me b) same none.is_so.1 in (
                table_of put ∙ table_of w.seat-is ∙ way.0 ∙ table_of same,
                leaves_rescheduled id place none.latch m b out (subst (λ (x : SeatState). GrantsWaits x.table place x.me x.me b) same way.1) none.holds forgets
                    (mine put ∙ ap (λ (x : SeatState). served place x.me) w.seat-is),
              )
          | else-has_waiters w ↦ (
            table_of put ∙ table_of w.seat-is ∙ table_of same,
            leaves_none id place h m out here.holds (nobody_waits h.book.waiting (sym (c.has_waiters.ensures.told h.book here.holds.carried) ∙ w.if-has_waiters.false))
                (mine put ∙ ap (λ (x : SeatState). served place x.me) (w.seat-is ∙ same)),
          )
        ];
        once = elim c.if-has_waiters.branch [
          | then-has_waiters w ↦
              let b : Mine = w.grant_waiters.new.seat.me in
              let way = subst (λ (x : SeatState). GrantsWaits x.table place x.me x.me b) same w.grant_waiters.ensures.all.granted.1 in
              visit_after false m b out (within_of id place m m b way) place
              (visit_served false b out place (mine put ∙ ap (λ (x : SeatState). served place x.me) w.seat-is))
          | else-has_waiters w ↦ visit_served false m out place (mine put ∙ ap (λ (x : SeatState). served place x.me) (w.seat-is ∙ same))
        ];
      };
    }
