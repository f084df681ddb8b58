-- A fast ticket is given up, and the place is rescheduled where that is owed.
use Rattle.std.proofs.Common.{◌≡◌, inr, ℕ, ◌==◌, true, false, Bool, List, [], ◌∷◌, if◌then◌else◌, Some, refl, sym, ap, subst, ◌∙◌, eqb-true}
use Rattle.mdl_shared.proofs.FirstLemmas.{AtItsTable, Deed, DidDeeds, GivesUpFast, HasRescheduled, IsMember, IsOwed, Lists, Member, Mine, OwesNoMore, Release, ReleasesFast, Room, SeatState, SessionTicket, SessionView, StaysFast, TableId, VisitsAndReschedules, VisitsOnce, all_but, but_owing, by_bool, done-order, false≢true, fast-held, is_known, kept, member, member-owing, numbered, paid-off, released-due, released-owes, released-quiet, rescheduled-owes, session_at, ticket-known, tickets_seen, view_of}
use Rattle.mdl_shared.proofs.FastDone.{fast-released}
use Rattle.mdl_shared.proofs.TicketCalls.{release-joins}

-- ---- two parts of a call

-- deeds with none after them are these deeds. What is owed between the two is left out
pub done-before : {at place : ℕ} {ds : List Deed} {a b c : SessionView} → DidDeeds place ds a (but_owing a b) → DidDeeds at [] b c → OwesNoMore a c
    → DidDeeds place ds a c
done-before {at} {place} {ds} {a} {b} {c} first later less =
    let b-is = first.now in record {
      slow = later.slow;
      fast = later.fast;
      told = later.told;
      owes = later.owes;
      searches = later.searches;
      settles = later.settles;
      log = later.log;
      room = later.room;
      now = later.now ∙ ap (λ (x : SessionView). record x {
        me = (record x.me.0 { slow = later.slow; fast = later.fast; told = later.told; owes = later.owes; searches = later.searches; settles = later.settles; log = later.log }, x.me.1);
        room = later.room;
      }) b-is;
      tickets = later.tickets ∙ ap (λ (x : SessionView). tickets_seen x.me.0) b-is ∙ first.tickets;
      fasts = fast-then (subst (λ (x : SessionView). StaysFast x.me.0.known x.me.0.asks x.me.0.fast later.fast) b-is later.fasts);
      stays = λ state told. later.stays state (ap (λ (x : SessionView). x.me.0.told) b-is ∙ first.stays state told);
      owed = λ q owed. less q (subst (λ (x : SessionView). IsOwed q x.me.0.owes) (sym later.now) owed);
      unasked = λ none.
          later.unasked (ap (λ (x : SessionView). x.me.0.asks) b-is ∙ none) ∙ ap (λ (x : SessionView). x.me.0.told) b-is ∙ first.unasked none;
    }
  where
    fast-then : StaysFast a.me.0.known a.me.0.asks first.fast later.fast → StaysFast a.me.0.known a.me.0.asks a.me.0.fast later.fast
    fast-then more = record {
      unfast = λ ask asks e. more.unfast ask asks (first.fasts.unfast ask asks e);
      plain = λ e. more.plain (first.fasts.plain e);
    }

-- ---- the release

module _ (a b : SessionView) (t : SessionTicket) (owes : Bool) (released : ReleasesFast t.place t.number owes a.me b.me) where
  -- where nothing is owed, that was all
  pub gives-up : owes ≡ false → GivesUpFast t.number a b t
  gives-up quiet = (b.me, owes, released, (λ due. absurd (false≢true (sym quiet ∙ due))), (λ none. refl))

  -- nothing else is owed then, either
  pub gone-quiet : {place : ℕ} {ds : List Deed} → DidDeeds place ds a (but_owing a b) → owes ≡ false → DidDeeds place ds a b
  gone-quiet {place} {ds} lost quiet =
      subst (λ (x : SessionView). DidDeeds place ds a x)
      (λ i. record b { me = (record b.me.0 { owes = sym (released-quiet released quiet) i }, b.me.1) }) lost

  -- and where it is the place was rescheduled then
  pub gives-up_after : {at : ℕ} {ds : List Deed} {seat : SeatState} → DidDeeds at ds a (but_owing a b) → owes ≡ true
      → AtItsTable (record { table = b.table; me = b.me }) seat (VisitsAndReschedules b.table t.place []) → VisitsOnce t.place b.me seat.me
      → GivesUpFast t.number a (session_at seat b.sessions b.room b.pins) t
  gives-up_after {seat = seat} lost due visit once = (
    b.me,
    owes,
    released,
    (λ up. (subst (λ (id : TableId). HasRescheduled id t.place b.me seat.me) (ap (λ (s : SessionView). s.table) lost.now) visit.1.way, once, rescheduled-owes visit)),
    (λ down. absurd (false≢true (sym down ∙ due))),
  )

  -- by which the debt is paid
  pub paid-after : {seat : SeatState} → owes ≡ true → AtItsTable (record { table = b.table; me = b.me }) seat (VisitsAndReschedules b.table t.place [])
      → OwesNoMore a (session_at seat b.sessions b.room b.pins)
  paid-after due visit q owed =
      paid-off q t.place a.me.0.owes (subst (IsOwed q) (ap (λ (m : Mine). m.0.owes) visit.1.now ∙ ap (all_but t.place) (released-due released due)) owed)

  -- a place that is owed a reschedule then is one that the session knows
  pub owed-known : IsMember a → is_known t.place a.me.0.known ≡ true → (q : ℕ) → IsOwed q b.me.0.owes → is_known q b.me.0.known ≡ true
  owed-known is here q owed = ap (λ (m : Mine). is_known q m.0.known) released.now ∙ by owes (subst (IsOwed q) (released-owes released) owed)
    where
      by : (o : Bool) → IsOwed q (if o then t.place ∷ a.me.0.owes else a.me.0.owes) → is_known q a.me.0.known ≡ true
      by false its = is.owed q its
      by true its =
          by_bool (t.place == q)
          (λ same. ap (λ place. is_known place a.me.0.known) (sym (eqb-true t.place q same)) ∙ here)
          (λ apart. is.owed q (rw apart at its))

-- ---- the session is in order then

-- the ticket is one of its view
pub seen : (m : Member) (t : SessionTicket) → numbered t.number m.tickets.fast ≡ Some t → numbered t.number m.seat.me.0.fast ≡ Some t
seen m t held = ap (λ (l : Lists). numbered t.number l.fast) (sym m.lists) ∙ held

pub still : (m : Member) (t : SessionTicket) → numbered t.number m.tickets.fast ≡ Some t → (seat : SeatState) (owes : Bool) → AtItsTable m.seat seat (ReleasesFast t.place t.number owes)
    → (room : Room) → IsMember (session_at seat m.sessions room m.known.pins)
still m t held seat owes released room =
    let is = member m in
    let its = fast-held is t.number t (seen m t held) in
    let done = (fast-released m.seat seat m.sessions {room = m.tickets.room} is {room′ = room} (seen m t held) released).done in
    member-owing (view_of m) (session_at seat m.sessions room m.known.pins) (kept (Release _ _) is (done-order done is (inr refl)) (release-joins is t.number t its done))
    (owed-known (view_of m) (session_at seat m.sessions room m.known.pins) t owes released.1 is (ticket-known is t.number t its))
