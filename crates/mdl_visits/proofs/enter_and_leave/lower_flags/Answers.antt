-- The flags that stay tell the lists exactly, since those that are up tell of each ticket.
use Rattle.std.proofs.Common.{◌≡◌, ◌||◌, List, Some, sym, ap, ◌∙◌, subst}
use Rattle.mdl_visits.proofs.Lemmas.{Holds, LatchRecord, Mine, StandsOnce, Ticket, all_booked, flags_lowered, frees, lowered, mine, needed, place_there, table_of, waiting_same}
use Rattle.mdl_visits.proofs.enter_and_leave.lower_flags.Goals as goal

same_record : (h before : LatchRecord) → Some h ≡ Some before → h ≡ before
same_record h before e = cc

pub returns : goal.returns
returns c =
    let place = c.args.latch.now.place in
    let m : Mine = c.args.seat.now.me in
    let ds = c.args.deeds.now in
    let worked = c.requires.worked.1 in
    let h = worked.latch in
    let book = all_booked m.0.number ds h.book in
    let needs = c.needs-needs.result in
    let same = c.needs-needs.ensures.same in
    let told = c.needs-needs.ensures.told book worked.done.holds.carried in
    let has = subst (λ (x : Mine). Holds place h book x) (sym {A = Mine} (mine same)) worked.done.holds in
    let made = c.lower_flags.ensures.made in
    let low = made.1 book has.carried in
    let table = table_of low ∙ table_of same in
    record {
      lowered = record {
        lowered = (table, (made.0, book, needs.slow, needs.obtrusive, mine low ∙ ap (λ (x : Mine). flags_lowered place ds made.0 book needs.slow needs.obtrusive x) (mine same)));
        orderly = record {
          is_place = place_there place table worked.is_place;
          latch = lowered ds book needs.slow needs.obtrusive h;
          holds = c.lower_flags.ensures.keeps h book has;
          is_so = (
            (
              subst (λ (ts : List Ticket). StandsOnce ts) (sym (waiting_same m.0.number ds h.book)) worked.once,
              (
                needed needs.slow h.slow (λ e. worked.flagged.0 (sym told.1 ∙ e)) ∙ told.1,
                needed needs.obtrusive h.obtrusive (λ e. worked.flagged.1 (sym told.0 ∙ e)) ∙ told.0,
              ),
            ),
            λ before its. ap (λ (x : LatchRecord). x.freed || frees ds) (same_record h before (sym worked.done.holds.recorded ∙ its)),
          );
        };
      };
    }
