-- A session gives up a ticket, a slow one or a fast one.
use Rattle.std.proofs.Common.{◌≡◌, ℕ, List, [], ◌∷◌, Option, Some, None, is_some, if◌then◌else◌, sym, ap, subst, ◌∙◌}
use Rattle.mdl_shared.proofs.FirstLemmas.{AtItsTable, DidDeeds, Does, DoesToOwn, Done, GivesUpFast, GivesUpSlow, IsMember, Joins, KeepsRoom, Lose, Mine, NotHeld, Release, Room, SeatState, SessionTicket, SessionView, Shows, VisitsAndReschedules, VisitsOnce, data_of, does_reschedule, done-debts, fast-held, has_number, holding_fault, if-clear, loses-slow, numbered, rescheduled, rescheduled-owes, session_at, tickets_seen}
use Rattle.mdl_shared.proofs.SlowOrFast.{fast-only}
use Rattle.mdl_shared.proofs.TicketCalls.{release-joins}

-- what the call comes to, by which of its tickets it gives up
release-shows : {a b : SessionView} (id : ℕ) (t : SessionTicket) → numbered id (tickets_seen a.me.0) ≡ Some t → DidDeeds t.place (Lose id ∷ []) a b → Does (Lose id ∷ []) a.me b.me
    → (numbered id a.me.0.slow ≡ Some t → GivesUpSlow id a b t) × (numbered id a.me.0.fast ≡ Some t → GivesUpFast id a b t)
    → b.me.0.searches ≡ a.me.0.searches → KeepsRoom 0 a.room b.room → Shows (Release a.me.0.number id) Done a b
release-shows {a} {b} id t its done did met searches keeps = record {
  table = ap (λ (s : SessionView). s.table) done.now;
  sessions = ap (λ (s : SessionView). s.sessions) done.now;
  refused = if-clear _ (holding_fault id (tickets_seen a.me.0)) (ap (λ (o : Option SessionTicket). if is_some o then None else Some NotHeld) its);
  did = did;
  settled = tt;
  told = tt;
  met = (t, its, met);
  room = keeps;
  debts = done-debts done;
  owes = searches;
}

-- a slow one, by a visit of its place
pub released-slow : (seat seat′ : SeatState) (sessions id : ℕ) {room room′ : Room} {pins : List ℕ} (t : SessionTicket) → IsMember (session_at seat sessions room pins) → numbered id (tickets_seen seat.me.0) ≡ Some t
    → numbered id seat.me.0.slow ≡ Some t → numbered id seat.me.0.fast ≡ None → AtItsTable seat seat′ (VisitsAndReschedules seat.table t.place (Lose id ∷ []))
    → DoesToOwn t.place id (Lose id ∷ []) seat seat′ → VisitsOnce t.place seat.me seat′.me → KeepsRoom 0 room room′
    → Joins (data_of (session_at seat sessions room pins)) (Release seat.me.0.number id) Done (data_of (session_at seat′ sessions room′ pins))
    × Shows (Release seat.me.0.number id) Done (session_at seat sessions room pins) (session_at seat′ sessions room′ pins)
released-slow seat seat′ sessions id {room} {room′} {pins} t is its slow none visit step once keeps =
    let done = rescheduled seat seat′ sessions {room = room} {room′ = room′} {pins = pins} (loses-slow is t.place id t slow) visit in (
      release-joins is id t its done,
      release-shows id t its done (does_reschedule seat.me seat′.me seat.table t.place (Lose id ∷ []) visit.1) (
        (λ its_slow. ((step.0, step.1, (step.2, step.3)), (visit.1.way, once, rescheduled-owes visit))),
        (λ its_fast. let never : ◌≡◌ {A = Option SessionTicket} None (Some t) = sym none ∙ its_fast in absurd (cc)),
      ) (ap (λ (m : Mine). m.0.searches) visit.1.now) keeps,
    )

-- a fast one
pub released-fast : {a b : SessionView} (id : ℕ) (t : SessionTicket) → IsMember a → numbered id a.me.0.fast ≡ Some t → DidDeeds t.place (Lose t.number ∷ []) a b
    → Does (Lose t.number ∷ []) a.me b.me → GivesUpFast t.number a b t → b.me.0.searches ≡ a.me.0.searches → KeepsRoom 0 a.room b.room
    → Joins (data_of a) (Release a.me.0.number id) Done (data_of b) × Shows (Release a.me.0.number id) Done a b
released-fast {a} {b} id t is fast done did way searches keeps =
    let number = has_number id t a.me.0.fast fast in
    let its = fast-held is id t fast in
    let never : numbered id a.me.0.slow ≡ Some t → ⊥ = λ slow. (let no : ◌≡◌ {A = Option SessionTicket} None (Some t) = sym (fast-only is id t fast) ∙ slow in absurd (cc)) in
    let done : DidDeeds t.place (Lose id ∷ []) a b = subst (λ (n : ℕ). DidDeeds t.place (Lose n ∷ []) a b) number done in (
      release-joins is id t its done,
      release-shows id t its done (subst (λ (n : ℕ). Does (Lose n ∷ []) a.me b.me) number did)
          ((λ its_slow. absurd (never its_slow)), (λ its_fast. subst (λ (n : ℕ). GivesUpFast n a b t) number way)) searches keeps,
    )
