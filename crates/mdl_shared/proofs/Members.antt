-- What is always so of a session between two calls is so after each call.
use Rattle.std.proofs.Common.{◌≡◌, ◌⊎◌, inl, inr, ℕ, ◌+◌, ◌≤◌, ◌<◌, ◌==◌, ◌||◌, Bool, true, false, List, [], ◌∷◌, Option, Some, None, refl, sym, ap, subst, ◌∙◌, arith}
use Rattle.mdl_shared.proofs.Common.{Alter, Answer, AreAlike, Ask, AtItsTable, Call, Deed, Gain, HasRoom, HoldsNoLatch, IsMember, IsOwed, IsSound, Joins, KeepsRoom, KnownKey, Lists, Lose, Member, Mine, OwesNoMore, Room, SeatState, SessionTicket, SessionView, SpaceError, StaysTold, TableId, TicketList, Visits, VisitsAndReschedules, all_but, all_next, all_owned, all_tickets, are_counted, are_within, but_owing, by_bool, data_of, interleaved, is_ask_last, is_ask_told, is_known, is_no_number, keeps-sound, list_any, lists_seen, most_numbers, numbered, or_right, session_at, steps_of, tickets_seen, without_at, word_count}
pub use Rattle.mdl_shared.specs.DeedsDone.{DidDeeds, StaysFast}
use Rattle.mdl_shared.proofs.Alike.{alike_done}
use Rattle.mdl_shared.proofs.SameSpace.{KeepsRest, Stays}
use Rattle.mdl_shared.proofs.TicketOrder.{DoesSlow, none-numbered, none-struck}

-- a call left the session at the same table of the same space, without a latch, and in order but for what its joining tells
pub record StaysInOrder (s s′ : SessionView) : Type 0 where
  pub table : s′.table ≡ s.table
  pub sessions : s′.sessions ≡ s.sessions
  pub idle : HoldsNoLatch s′.me
  pub unfast : (a : Ask) → s′.me.0.asks ≡ Some a → s′.me.0.fast ≡ []
  pub plain : are_counted s′.me.0.known s′.me.0.fast ≡ true
  pub within : are_within s.table.slots s′.me.0.known ≡ true
  pub alike : AreAlike (tickets_seen s′.me.0)
  pub last : is_ask_last s′.me.0.next s′.me.0.asks ≡ true
  pub told : is_ask_told s′.me.0.asks s′.me.0.told ≡ true
  pub fewer : (s′.me.0.waits < s′.me.0.next) × (s′.me.0.waits < most_numbers)
  pub owed : (place : ℕ) → IsOwed place s′.me.0.owes → is_known place s′.me.0.known ≡ true

-- and it is sound as a lock space
pub in-order : {s s′ : SessionView} → IsMember s → StaysInOrder s s′ → s′.me.0.number ≡ s.me.0.number → IsSound (data_of s′) → IsMember s′
in-order {s} {s′} is order number sound = record {
  sound = sound;
  idle = order.idle;
  unfast = order.unfast;
  plain = order.plain;
  within = ap (λ (t : TableId). are_within t.slots s′.me.0.known) order.table ∙ order.within;
  alike = order.alike;
  last = order.last;
  told = order.told;
  fewer = order.fewer;
  owed = order.owed;
  counted = subst (λ (n : ℕ). (0 < n) × (n ≤ s′.sessions)) (sym number)
      (subst (λ (n : ℕ). (0 < s.me.0.number) × (s.me.0.number ≤ n)) (sym order.sessions) is.counted);
  narrow = subst (λ (t : TableId). (0 < t.slots) × (t.slots ≤ 65536)) (sym order.table) is.narrow;
  words = subst (λ (t : TableId). t.words ≡ word_count t.slots s′.sessions) (sym order.table)
      (is.words ∙ ap (word_count s.table.slots) (sym order.sessions));
}

pub kept : {s s′ : SessionView} (call : Call) {answer : Answer} → IsMember s → StaysInOrder s s′ → Joins (data_of s) call answer (data_of s′) → IsMember s′
kept {s} {s′} call {answer} is order joins = in-order is order joins.number (keeps-sound (data_of s) (data_of s′) call answer is.sound joins)

-- whatever room it has
pub member-room : {s : SessionView} → IsMember s → (r : Room) → IsMember (record s { room = r })
member-room is r = record {
  sound = is.sound;
  idle = is.idle;
  unfast = is.unfast;
  plain = is.plain;
  within = is.within;
  alike = is.alike;
  last = is.last;
  told = is.told;
  fewer = is.fewer;
  owed = is.owed;
  counted = is.counted;
  narrow = is.narrow;
  words = is.words;
}

-- and whatever it owes, if it has looked up those places
pub member-owing : (a b : SessionView) → IsMember (but_owing a b) → ((q : ℕ) → IsOwed q b.me.0.owes → is_known q b.me.0.known ≡ true) → IsMember b
member-owing a b is owed = record {
  sound = is.sound;
  idle = is.idle;
  unfast = is.unfast;
  plain = is.plain;
  within = is.within;
  alike = is.alike;
  last = is.last;
  told = is.told;
  fewer = is.fewer;
  owed = owed;
  counted = is.counted;
  narrow = is.narrow;
  words = is.words;
}

-- ---- calls that do deeds at a place, or none

-- the same fast tickets
pub same-fast : (known : List KnownKey) (asks : Option Ask) (fast : List SessionTicket) → StaysFast known asks fast fast
same-fast known asks fast = record { unfast = λ a waits e. e; plain = λ e. e }

-- what its seat's visit tells
pub seat-changed : (seat seat′ : SeatState) (sessions : ℕ) {room : Room} {pins : List ℕ} → seat′.table ≡ seat.table → (m : Mine) → seat′.me ≡ m
    → session_at seat′ sessions room pins ≡ record (session_at seat sessions room pins) { me = m }
seat-changed seat seat′ sessions {room} {pins} table m me = λ i. record { table = table i; sessions = sessions; me = me i; room = room; pins = pins }

pub visited : {place : ℕ} {ds : List Deed} (seat seat′ : SeatState) (sessions : ℕ) {room room′ : Room} {pins : List ℕ} → DoesSlow place ds seat.me.0 → AtItsTable seat seat′ (Visits place ds)
    → DidDeeds place ds (session_at seat sessions room pins) (session_at seat′ sessions room′ pins)
visited {place} {ds} seat seat′ sessions {room} {room′} same visits = record {
  slow = all_owned place ds seat.me.0.slow;
  fast = seat.me.0.fast;
  told = seat.me.0.told;
  owes = seat.me.0.owes;
  searches = seat.me.0.searches;
  settles = seat.me.0.settles;
  log = _;
  room = room′;
  now = seat-changed seat seat′ sessions visits.0 _ visits.1.now;
  tickets = same;
  fasts = same-fast seat.me.0.known seat.me.0.asks seat.me.0.fast;
  stays = λ state told. told;
  owed = λ p owed. owed;
  unasked = λ none. refl;
}

-- once a place was rescheduled, nothing is owed that wasn't before
pub owed-still : (p place : ℕ) (owes : List ℕ) → IsOwed p (all_but place owes) → IsOwed p owes
owed-still p place [] owed = owed
owed-still p place (q ∷ qs) owed = by_bool (q == place)
    (λ here. or_right (q == p) (list_any (λ n. n == p) qs) (owed-still p place qs (rw here at owed)))
    (λ away. or-either (q == p) (list_any (λ n. n == p) (all_but place qs)) (list_any (λ n. n == p) qs) (rw away at owed) (owed-still p place qs))
  where
    or-either : (a b c : Bool) → (a || b) ≡ true → (b ≡ true → c ≡ true) → (a || c) ≡ true
    or-either true b c e more = refl
    or-either false b c e more = more e

pub rescheduled : {place : ℕ} {ds : List Deed} (seat seat′ : SeatState) (sessions : ℕ) {room room′ : Room} {pins : List ℕ} → DoesSlow place ds seat.me.0 → AtItsTable seat seat′ (VisitsAndReschedules seat.table place ds)
    → DidDeeds place ds (session_at seat sessions room pins) (session_at seat′ sessions room′ pins)
rescheduled {place} {ds} seat seat′ sessions {room} {room′} same visits =
    let told : seat′.me.0.told ≡ visits.1.told = ap (λ (m : Mine). m.0.told) visits.1.now in
    record {
      slow = all_owned place ds seat.me.0.slow;
      fast = seat.me.0.fast;
      told = visits.1.told;
      owes = all_but place seat.me.0.owes;
      searches = seat.me.0.searches;
      settles = visits.1.settles;
      log = _;
      room = room′;
      now = seat-changed seat seat′ sessions visits.0 _ visits.1.now;
      tickets = same;
      fasts = same-fast seat.me.0.known seat.me.0.asks seat.me.0.fast;
      stays = subst (λ (o : Option ℕ). StaysTold seat.me.0.told o) told visits.1.way.stays;
      owed = λ p owed. owed-still p place seat.me.0.owes owed;
      unasked = λ none. sym told ∙ visits.1.way.unasked none;
    }

-- numbers are given out, and none is taken back
next-more : (ds : List Deed) (next : ℕ) → next ≤ all_next ds next
next-more [] next = omega arith
next-more (Gain number mode ∷ ds) next = let more = next-more ds (next + 1) in omega arith
next-more (Alter number mode ∷ ds) next = next-more ds next
next-more (Lose number ∷ ds) next = next-more ds next

-- what is told of a wait stays so where nothing is told of none
told-stays : (asks : Option Ask) (told told′ : Option ℕ) → (asks ≡ None → told′ ≡ told) → is_ask_told asks told ≡ true → is_ask_told asks told′ ≡ true
told-stays None told told′ stays all = ap (is_ask_told None) (stays refl) ∙ all
told-stays (Some a) told told′ stays all = refl

last-none : (next next′ : ℕ) (asks : Option Ask) → (asks ≡ None) ⊎ (next′ ≡ next) → is_ask_last next asks ≡ true → is_ask_last next′ asks ≡ true
last-none next next′ None which last = refl
last-none next next′ (Some a) (inl none) last = cc
last-none next next′ (Some a) (inr same) last = ap (λ (n : ℕ). is_ask_last n (Some a)) same ∙ last

module _ {place : ℕ} {ds : List Deed} {s s′ : SessionView} (done : DidDeeds place ds s s′) where
  -- where it waits it was given no number
  pub done-order : IsMember s → (s.me.0.asks ≡ None) ⊎ (all_next ds s.me.0.next ≡ s.me.0.next) → StaysInOrder s s′
  done-order is which =
      let more = next-more ds s.me.0.next in
      let fewer = is.fewer in
      subst (λ (x : SessionView). StaysInOrder s x) (sym done.now) (record {
        table = refl;
        sessions = refl;
        idle = is.idle;
        unfast = λ a asks. done.fasts.unfast a asks (is.unfast a asks);
        plain = done.fasts.plain is.plain;
        within = is.within;
        alike = subst AreAlike (sym done.tickets) (alike_done place ds (tickets_seen s.me.0) is.alike);
        last = last-none s.me.0.next (all_next ds s.me.0.next) s.me.0.asks which is.last;
        told = told-stays s.me.0.asks s.me.0.told done.told done.unasked is.told;
        fewer = (omega (arith, more, fewer.0), fewer.1);
        owed = λ p owed. is.owed p (done.owed p owed);
      })

  pub done-rest : KeepsRest s s′
  done-rest = subst (λ (x : SessionView). KeepsRest s x) (sym done.now) (record {
    number = refl;
    known = refl;
    pins = refl;
    wait = record { asks = refl; waits = refl; stays = done.stays; unasked = done.unasked };
  })

  pub done-tickets : tickets_seen s′.me.0 ≡ all_owned place ds (tickets_seen s.me.0)
  done-tickets = ap (λ (x : SessionView). tickets_seen x.me.0) done.now ∙ done.tickets

  pub done-next : s′.me.0.next ≡ all_next ds s.me.0.next
  done-next = ap (λ (x : SessionView). x.me.0.next) done.now

  pub done-reads : s′.me.0.reads ≡ s.me.0.reads
  done-reads = ap (λ (x : SessionView). x.me.0.reads) done.now

-- nothing is owed that wasn't before
pub done-debts : {place : ℕ} {ds : List Deed} {s s′ : SessionView} → DidDeeds place ds s s′ → OwesNoMore s s′
done-debts done p owed = done.owed p (subst (λ (x : SessionView). IsOwed p x.me.0.owes) done.now owed)

-- without a deed all else stays
pub done-nothing : {place : ℕ} {s s′ : SessionView} → DidDeeds place [] s s′ → Stays s s′
done-nothing done =
    let rest = done-rest done in record {
      number = rest.number;
      tickets = done-tickets done;
      next = done-next done;
      known = rest.known;
      pins = rest.pins;
      wait = rest.wait;
      reads = done-reads done;
    }

-- deeds after none are these deeds
pub done-then : {at place : ℕ} {ds : List Deed} {a b c : SessionView} → DidDeeds at [] a b → DidDeeds place ds b c → DidDeeds place ds a c
done-then {at} {place} {ds} {a} {b} {c} first later =
    let b-is = first.now in record {
      slow = later.slow;
      fast = later.fast;
      told = later.told;
      owes = later.owes;
      searches = later.searches;
      settles = later.settles;
      log = later.log;
      room = later.room;
      now = later.now ∙ ap (λ (x : SessionView). record x {
        me = (
          record x.me.0 { slow = later.slow; fast = later.fast; next = all_next ds x.me.0.next; told = later.told; owes = later.owes; searches = later.searches; settles = later.settles; log = later.log },
          x.me.1,
        );
        room = later.room;
      }) b-is;
      tickets = later.tickets ∙ ap (all_owned place ds) (done-tickets first);
      fasts = fast-then (subst (λ (x : SessionView). StaysFast x.me.0.known x.me.0.asks x.me.0.fast later.fast) b-is later.fasts);
      stays = λ state told. later.stays state (ap (λ (x : SessionView). x.me.0.told) b-is ∙ first.stays state told);
      owed = λ p owed. first.owed p (subst (λ (x : SessionView). IsOwed p x.me.0.owes) b-is (later.owed p owed));
      unasked = λ none.
          let told : b.me.0.told ≡ first.told = ap (λ (x : SessionView). x.me.0.told) b-is in
          later.unasked (ap (λ (x : SessionView). x.me.0.asks) b-is ∙ none) ∙ told ∙ first.unasked none;
    }
  where
    fast-then : StaysFast a.me.0.known a.me.0.asks first.fast later.fast → StaysFast a.me.0.known a.me.0.asks a.me.0.fast later.fast
    fast-then more = record {
      unfast = λ ask asks e. more.unfast ask asks (first.fasts.unfast ask asks e);
      plain = λ e. more.plain (first.fasts.plain e);
    }

-- ---- a session's own lists

-- after a visit
abbrev pub deeds_listed : ℕ → List Deed → Lists → Lists
deeds_listed place ds l = record l { slow = all_owned place ds l.slow; next = all_next ds l.next }

pub lists-visited : {place : ℕ} {ds : List Deed} {seat seat′ : SeatState} → AtItsTable seat seat′ (Visits place ds) → lists_seen seat′.me.0 ≡ deeds_listed place ds (lists_seen seat.me.0)
lists-visited visits = ap (λ (m : Mine). lists_seen m.0) visits.1.now

pub lists-rescheduled : {place : ℕ} {ds : List Deed} {seat seat′ : SeatState} → AtItsTable seat seat′ (VisitsAndReschedules seat.table place ds)
    → lists_seen seat′.me.0 ≡ deeds_listed place ds (lists_seen seat.me.0)
lists-rescheduled visits = ap (λ (m : Mine). lists_seen m.0) visits.1.now

-- they are those of its view still, where the deeds were done to its own list of tickets
pub lists-done : (m : Member) (place : ℕ) (ds : List Deed) {l : Lists} {slow fast : List SessionTicket} → l ≡ deeds_listed place ds (lists_seen m.seat.me.0)
    → slow ≡ all_owned place ds m.tickets.slow → fast ≡ m.tickets.fast
    → record { slow = slow; fast = fast; known = m.known.known; next = all_next ds m.next; asks = m.asks; waits = m.waits } ≡ l
lists-done m place ds done slows fasts =
    (λ i. record { slow = slows i; fast = fasts i; known = m.known.known; next = all_next ds m.next; asks = m.asks; waits = m.waits })
    ∙ ap (deeds_listed place ds) m.lists ∙ sym done

-- none of its own list of them has the number of a slow one
pub unnumbered : (m : Member) (id : ℕ) → is_no_number id m.seat.me.0.fast ≡ true → numbered id m.tickets.fast ≡ None
unnumbered m id none = ap (λ (l : Lists). numbered id l.fast) m.lists ∙ none-numbered id m.seat.me.0.fast none

-- so that they stay where a slow one is struck
pub fast-struck : (m : Member) (place id : ℕ) {fast : List SessionTicket} → is_no_number id m.seat.me.0.fast ≡ true → fast ≡ without_at place id m.tickets.fast → fast ≡ m.tickets.fast
fast-struck m place id none same = same ∙ none-struck place id m.tickets.fast (ap (λ (l : Lists). is_no_number id l.fast) m.lists ∙ none)

-- and have the room that they had
pub room-kept : {place : ℕ} (list list′ : TicketList) → KeepsRoom 0 list.room list′.room → HasRoom place list.room → HasRoom place list′.room
room-kept {place} list list′ more room = (omega (arith, more.0, room.0), omega (arith, more.1, room.1))

-- a ticket of its own list is one of its view
pub held-seen : (m : Member) (id : ℕ) (o : Option SessionTicket) → o ≡ numbered id (interleaved m.tickets.slow m.tickets.fast) → numbered id (tickets_seen m.seat.me.0) ≡ o
held-seen m id o found = ap (λ (l : Lists). numbered id (all_tickets l)) (sym m.lists) ∙ sym found

-- a fault by its pins and its own lists is one of its view
pub fault-seen : (m : Member) (call : Call) (o : Option SpaceError)
    → (steps_of call).fault m.known.pins (record { slow = m.tickets.slow; fast = m.tickets.fast; known = m.known.known; next = m.next; asks = m.asks; waits = m.waits }) ≡ o
    → (steps_of call).fault m.known.pins (lists_seen m.seat.me.0) ≡ o
fault-seen m call o fault = ap (λ (l : Lists). (steps_of call).fault m.known.pins l) (sym m.lists) ∙ fault
