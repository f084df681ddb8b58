-- A session after deeds at a place, whether they were done to slow tickets or to fast ones, and whichever of its tickets became slow meanwhile.
use Rattle.std.specs.Prelude.{◌≡◌, ℕ, Bool, true, List, [], Option, Some, None}
use Rattle.mdl_shared.specs.Prelude.{Ask, Deed, Does, KnownKey, SessionTicket, Settlement, SettlesNothing, StaysTold, StepRecord, all_next, all_owned, interleaved}
use Rattle.mdl_shared.specs.Debts.{IsOwed}
use Rattle.mdl_shared.specs.Members.{are_counted}
use Rattle.mdl_shared.specs.SessionViews.{SessionView, tickets_seen}
use Rattle.mdl_shared.specs.TicketLists.{Room}

-- the fast tickets before and after, of a session that knows these keys and has this wait, or none. If the words counted all of them, they still do. If
-- the session waits and had none, it still has none
pub record StaysFast (known : List KnownKey) (asks : Option Ask) (fast fast′ : List SessionTicket) : Type 0 where
  pub unfast : (a : Ask) → asks ≡ Some a → fast ≡ [] → fast′ ≡ []
  pub plain : are_counted known fast ≡ true → are_counted known fast′ ≡ true

-- the session did these deeds at a place, to slow tickets or to fast ones, and made steps. It may have settled waits, and learnt the state of its own
-- wait. It owes no place a reschedule that it didn't owe one before. Nothing else changed, except perhaps which tickets are fast, the room for more, and
-- whether it has yet to search for a deadlock
pub record DidDeeds (place : ℕ) (ds : List Deed) (s s′ : SessionView) : Type 0 where
  pub slow : List SessionTicket
  pub fast : List SessionTicket
  pub told : Option ℕ
  pub owes : List ℕ
  pub searches : Bool
  pub settles : List Settlement
  pub log : List StepRecord
  pub room : Room
  pub now : s′ ≡ record s {
    me = (
      record s.me.0 {
        slow = slow;
        fast = fast;
        next = all_next ds s.me.0.next;
        told = told;
        owes = owes;
        searches = searches;
        settles = settles;
        log = log;
      },
      s.me.1,
    );
    room = room;
  }
  pub tickets : interleaved slow fast ≡ all_owned place ds (tickets_seen s.me.0)
  pub fasts : StaysFast s.me.0.known s.me.0.asks s.me.0.fast fast
  pub stays : StaysTold s.me.0.told told
  pub owed : (p : ℕ) → IsOwed p owes → IsOwed p s.me.0.owes
  pub unasked : s.me.0.asks ≡ None → told ≡ s.me.0.told

-- the session did these deeds, its steps did just these, and it left all waits alone. It owes the places that it owed before, and has yet to search for a
-- deadlock if it had before
pub record DoesQuietly (place : ℕ) (ds : List Deed) (s s′ : SessionView) : Type 0 where
  pub done : DidDeeds place ds s s′
  pub did : Does ds s.me s′.me
  pub settled : SettlesNothing s.me s′.me
  pub told : s′.me.0.told ≡ s.me.0.told
  pub owes : s′.me.0.owes ≡ s.me.0.owes
  pub searches : s′.me.0.searches ≡ s.me.0.searches
