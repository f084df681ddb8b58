-- What a session did by steps that left all waits alone: one part after another, and what a call shows by all of them.
use Rattle.std.proofs.Common.{◌≡◌, ℕ, List, [], None, refl, sym, ap, subst, ◌∙◌, append-nil}
use Rattle.mdl_shared.proofs.FirstLemmas.{Answer, AtItsTable, Deed, DidDeeds, Does, DoesQuietly, KeepsRoom, Lists, MakesMoreSteps, MakesSteps, Member, Mine, Room, SeatState, SessionView, SettlesNothing, ShowsStep, StepRecord, StepSpec, TakesSteps, Visits, all_tickets, does_then, done-debts, done-then, gained_by, if-clear, lists_seen, same-fast, seat-changed, session_at, step_after, step_before, tickets_seen, view_of}

-- ---- steps

-- a step of a part of a call is one of the whole
pub shows-first : (a b c : SessionView) {fact : StepRecord → Type 0} → MakesMoreSteps b.me c.me → ShowsStep a b fact → ShowsStep a c fact
shows-first a b c more shown = (shown.0, step_before a.me b.me c.me more shown.0 shown.1, shown.2)

pub shows-later : (a b c : SessionView) {fact : StepRecord → Type 0} → MakesMoreSteps a.me b.me → ShowsStep b c fact → ShowsStep a c fact
shows-later a b c more shown = (shown.0, step_after a.me b.me c.me more shown.0 shown.1, shown.2)

-- ---- parts of a call

-- its steps
pub quiet-steps : {place : ℕ} {ds : List Deed} {s s′ : SessionView} → DoesQuietly place ds s s′ → MakesMoreSteps s.me s′.me
quiet-steps quiet = (quiet.did.0, quiet.did.1)

-- deeds after none are these deeds
pub quiet-then : {at place : ℕ} {ds : List Deed} {a b c : SessionView} → DoesQuietly at [] a b → DoesQuietly place ds b c → DoesQuietly place ds a c
quiet-then {at} {place} {ds} {a} {b} {c} first later = record {
  done = done-then first.done later.done;
  did = does_then [] ds a.me b.me c.me first.did later.did;
  settled = later.settled ∙ first.settled;
  told = later.told ∙ first.told;
  owes = later.owes ∙ first.owes;
  searches = later.searches ∙ first.searches;
}

-- no step at all
pub quiet-none : {place : ℕ} (s : SessionView) → DoesQuietly place [] s s
quiet-none s = record {
  done = record {
    slow = s.me.0.slow;
    fast = s.me.0.fast;
    told = s.me.0.told;
    owes = s.me.0.owes;
    searches = s.me.0.searches;
    settles = s.me.0.settles;
    log = s.me.0.log;
    room = s.room;
    now = refl;
    tickets = refl;
    fasts = same-fast s.me.0.known s.me.0.asks s.me.0.fast;
    stays = λ state told. told;
    owed = λ p owed. owed;
    unasked = λ none. refl;
  };
  did = ([], sym (append-nil s.me.0.log), refl);
  settled = refl;
  told = refl;
  owes = refl;
  searches = refl;
}

-- steps and nothing else
pub quiet-made : {place : ℕ} (seat seat′ : SeatState) (sessions : ℕ) {room room′ : Room} {pins : List ℕ} → AtItsTable seat seat′ MakesSteps
    → DoesQuietly place [] (session_at seat sessions room pins) (session_at seat′ sessions room′ pins)
quiet-made seat seat′ sessions {room} {room′} made = record {
  done = record {
    slow = seat.me.0.slow;
    fast = seat.me.0.fast;
    told = seat.me.0.told;
    owes = seat.me.0.owes;
    searches = seat.me.0.searches;
    settles = seat.me.0.settles;
    log = _;
    room = room′;
    now = seat-changed seat seat′ sessions made.0 _ made.1.1;
    tickets = refl;
    fasts = same-fast seat.me.0.known seat.me.0.asks seat.me.0.fast;
    stays = λ state told. told;
    owed = λ p owed. owed;
    unasked = λ none. refl;
  };
  did = (made.1.0, ap (λ (m : Mine). m.0.log) made.1.1, made.1.2);
  settled = ap (λ (m : Mine). m.0.settles) made.1.1;
  told = ap (λ (m : Mine). m.0.told) made.1.1;
  owes = ap (λ (m : Mine). m.0.owes) made.1.1;
  searches = ap (λ (m : Mine). m.0.searches) made.1.1;
}

-- a visit without a deed is steps and nothing else
pub steps-visited : {place : ℕ} (seat seat′ : SeatState) → AtItsTable seat seat′ (Visits place []) → AtItsTable seat seat′ MakesSteps
steps-visited seat seat′ went = (went.0, (went.1.made, went.1.now, went.1.did))

-- a visit that granted nothing to others
pub quiet-visit : {place : ℕ} {ds : List Deed} {s s′ : SessionView} → DidDeeds place ds s s′ → Visits place ds s.me s′.me → DoesQuietly place ds s s′
quiet-visit done went = record {
  done = done;
  did = (went.made, ap (λ (m : Mine). m.0.log) went.now, went.did);
  settled = ap (λ (m : Mine). m.0.settles) went.now;
  told = ap (λ (m : Mine). m.0.told) went.now;
  owes = ap (λ (m : Mine). m.0.owes) went.now;
  searches = ap (λ (m : Mine). m.0.searches) went.now;
}

-- what a call shows by it
pub quiet-shows : {place : ℕ} {ds : List Deed} {s s′ : SessionView} {call : StepSpec} {answer : Answer} → DoesQuietly place ds s s′ → ds ≡ call.did answer (tickets_seen s.me.0)
    → call.fault s.pins (lists_seen s.me.0) ≡ None → (SettlesNothing s.me s′.me → call.settled answer (lists_seen s.me.0) s s′)
    → (s′.me.0.told ≡ s.me.0.told → call.told s s′) → (s′.me.0.owes ≡ s.me.0.owes → s′.me.0.searches ≡ s.me.0.searches → call.owes answer s s′)
    → call.met answer (lists_seen s.me.0) s s′ → KeepsRoom (gained_by answer) s.room s′.room → TakesSteps call answer s s′
quiet-shows {ds = ds} {s = s} {s′ = s′} {call = call} quiet is clear settled told owes met keeps = record {
  table = ap (λ (x : SessionView). x.table) quiet.done.now;
  sessions = ap (λ (x : SessionView). x.sessions) quiet.done.now;
  refused = if-clear _ (call.fault s.pins (lists_seen s.me.0)) clear;
  did = subst (λ (d : List Deed). Does d s.me s′.me) is quiet.did;
  settled = settled quiet.settled;
  told = told quiet.told;
  met = met;
  room = keeps;
  debts = done-debts quiet.done;
  owes = owes quiet.owes quiet.searches;
}

-- ---- a session's own lists after a part without deeds

-- they are those of its view still where only steps were made
pub lists-made : (m : Member) (seat′ : SeatState) → AtItsTable m.seat seat′ MakesSteps
    → record { slow = m.tickets.slow; fast = m.tickets.fast; known = m.known.known; next = m.next; asks = m.asks; waits = m.waits } ≡ lists_seen seat′.me.0
lists-made m seat′ made = m.lists ∙ sym (ap (λ (x : Mine). lists_seen x.0) made.1.1)

-- all but which tickets are slow is the same
pub record HasSameLists (m m′ : Member) : Type 0 where
  pub pins : m′.known.pins ≡ m.known.pins
  pub tickets : all_tickets (record { slow = m′.tickets.slow; fast = m′.tickets.fast; known = m′.known.known; next = m′.next; asks = m′.asks; waits = m′.waits })
      ≡ all_tickets (record { slow = m.tickets.slow; fast = m.tickets.fast; known = m.known.known; next = m.next; asks = m.asks; waits = m.waits })
  pub known : m′.known.known ≡ m.known.known
  pub next : m′.next ≡ m.next
  pub asks : m′.asks ≡ m.asks
  pub waits : m′.waits ≡ m.waits

pub same-lists : {place : ℕ} (m m′ : Member) → DidDeeds place [] (view_of m) (view_of m′) → HasSameLists m m′
same-lists m m′ done =
    let lists : lists_seen m′.seat.me.0 ≡ record (lists_seen m.seat.me.0) { slow = done.slow; fast = done.fast } = ap (λ (x : SessionView). lists_seen x.me.0) done.now in record {
      pins = ap (λ (x : SessionView). x.pins) done.now;
      tickets = ap all_tickets m′.lists ∙ ap all_tickets lists ∙ done.tickets ∙ sym (ap all_tickets m.lists);
      known = ap (λ (l : Lists). l.known) m′.lists ∙ ap (λ (l : Lists). l.known) lists ∙ sym (ap (λ (l : Lists). l.known) m.lists);
      next = ap (λ (l : Lists). l.next) m′.lists ∙ ap (λ (l : Lists). l.next) lists ∙ sym (ap (λ (l : Lists). l.next) m.lists);
      asks = ap (λ (l : Lists). l.asks) m′.lists ∙ ap (λ (l : Lists). l.asks) lists ∙ sym (ap (λ (l : Lists). l.asks) m.lists);
      waits = ap (λ (l : Lists). l.waits) m′.lists ∙ ap (λ (l : Lists). l.waits) lists ∙ sym (ap (λ (l : Lists). l.waits) m.lists);
    }
