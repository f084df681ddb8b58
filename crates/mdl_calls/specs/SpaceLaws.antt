-- The laws of a lock space: what its calls do to its sessions and tell them. They are one record over the space's ghost members, so a space proves them as
-- one term, and code over any space cites them as fields.
use Rattle.std.specs.Prelude.{◌≡◌, ◌≤◌, ◌⊎◌, ℕ, true, false, List, Option, Some, Contains}
use Rattle.mdl_calls.specs.FirstWords.{Change, Definition, Held, IfSome, InUse, KeyName, MayStand, Mode, Settled, VersionedDefinition, X, covers, same_mode, standing_after}
use Rattle.mdl_calls.specs.Words.{Answer, Refused, Done, At_place, Would_wait, Changed, Reads, Tables, Key_is, Victim_is, Has_wait, Has_killed, Holds, is_answer_of, Call, Resolve, Search, End_wait, Wait_of, Kill, Upgrade_now, Change_definition, Tables_of, Key_of, List_held, Unpin, caller, IsExplained, SessionLocks, Wait, Numbers, Draws, IsRising, own_after, wait_number, are_rising_places, is_pinned, is_waiting, ticket_held, AreTablesOf, AwaitsAt, HoldsAt, IsChangeOf, read_under, redefined_place, IsToldOf, told}
use Rattle.mdl_calls.specs.declared.answers.Settled.TheVariants as settled_as

-- what holds of the ghost members of each lock space, which the trait `LockSpace` describes: the sessions that it speaks for, what they have, know, have
-- read and owe, and how calls join one space to the next
pub record SpaceLaws {S : Type 0} (speaks_for : S → ℕ → Type 0) (own : S → ℕ → SessionLocks) (knows : S → ℕ → ℕ → KeyName → Type 0)
    (is_settled : S → ℕ → Settled → Type 0) (numbers : S → ℕ → Numbers) (has_read has_met : S → ℕ → ℕ → VersionedDefinition → Type 0)
    (has_seen : S → ℕ → ℕ → ℕ → Type 0) (owes : S → ℕ → ℕ → Type 0) (joins : S → Call → Answer → S → Type 0) : Type 0 where
  -- a call is made for a session that the space speaks for
  pub allowed : (a b : S) (call : Call) (answer : Answer) → joins a call answer b → IfSome (caller call) (speaks_for a)
  -- after a call the space still speaks for the same sessions
  pub keeps : (a b : S) (call : Call) (answer : Answer) (w : ℕ) → speaks_for a w → joins a call answer b → speaks_for b w
  -- the call and its answer determine what the caller has afterwards
  pub changes : (a b : S) (call : Call) (answer : Answer) (who : ℕ) → caller call ≡ Some who → joins a call answer b
      → own b who ≡ own_after call answer (own a who)
  -- what other sessions have doesn't change
  pub others : (a b : S) (call : Call) (answer : Answer) (w : ℕ) → speaks_for a w → (caller call ≡ Some w → ⊥) → joins a call answer b
      → own b w ≡ own a w
  -- the numbers of held tickets rise
  pub rising : (a : S) (w : ℕ) → speaks_for a w → IsRising (own a w)
  -- each answer is one that the call can have
  pub fits : (a b : S) (call : Call) (answer : Answer) → joins a call answer b → is_answer_of call answer ≡ true
  -- the tickets that `held` returns are those that the session holds
  pub lists : (a b : S) (who : ℕ) (tickets : List Held) → joins a (List_held who) (Holds tickets) b → tickets ≡ (own a who).held
  -- a refused call has a cause for its refusal. If a call isn't refused, what must hold for that holds (`IsClear`).
  pub explains : (a b : S) (call : Call) (answer : Answer) (who : ℕ) → caller call ≡ Some who → joins a call answer b
      → IsExplained (knows a who) call answer (own a who)
  -- a session that resolves a key knows its place
  pub resolves : (a b : S) (who place : ℕ) (key : KeyName) → joins a (Resolve who key) (At_place place) b → knows b who place key
  -- a place keeps its key for each session that knows it, until that session gives up its pin
  pub remembers : (a b : S) (call : Call) (answer : Answer) (w place : ℕ) (key : KeyName) → speaks_for a w
      → (call ≡ Unpin w place → answer ≡ Done → ⊥) → joins a call answer b → knows a w place key → knows b w place key
  -- a place has one key
  pub one_key : (a : S) (w place : ℕ) (key other : KeyName) → speaks_for a w → knows a w place key → knows a w place other → key ≡ other
  -- a key has one place
  pub one_place : (a : S) (w place other : ℕ) (key : KeyName) → speaks_for a w → knows a w place key → knows a w other key → place ≡ other
  -- pinned places rise, so none is listed twice
  pub pins_rise : (a : S) (w : ℕ) → speaks_for a w → are_rising_places (own a w).pins ≡ true
  -- a session that pins a place knows its key
  pub pinned_known : (a : S) (w place : ℕ) → speaks_for a w → is_pinned place (own a w) ≡ true → (key : KeyName) × knows a w place key
  -- a session pins the places of its tickets
  pub held_pinned : (a : S) (w : ℕ) (ticket : Held) → speaks_for a w → Contains (own a w).held ticket → is_pinned ticket.place (own a w) ≡ true
  -- a session pins the place that it waits for
  pub wait_pinned : (a : S) (w : ℕ) (wait : Wait) → speaks_for a w → (own a w).wait ≡ Some wait → is_pinned wait.place (own a w) ≡ true
  -- an answer that says how the caller's wait is settled is true
  pub tells : (a b : S) (call : Call) (answer : Answer) (who : ℕ) (how : Settled) → caller call ≡ Some who → told call answer ≡ Some how
      → joins a call answer b → is_settled b who how
  -- a session whose wait is settled has a wait
  pub waits_settled : (a : S) (w : ℕ) (how : Settled) → speaks_for a w → is_settled a w how → is_waiting (own a w) ≡ true
  -- a wait is settled in only one way
  pub settled_once : (a : S) (w : ℕ) (how other : Settled) → speaks_for a w → is_settled a w how → is_settled a w other → how ≡ other
  -- a settled wait stays settled in the same way, until it is ended
  pub stays : (a b : S) (call : Call) (answer : Answer) (w : ℕ) (how : Settled) → speaks_for a w → (call ≡ End_wait w → ⊥)
      → joins a call answer b → is_settled a w how → is_settled b w how
  -- an answer about the caller's settled wait says in which way it is settled
  pub agrees : (a b : S) (call : Call) (answer : Answer) (who : ℕ) (how : Settled) → caller call ≡ Some who → is_settled a who how
      → joins a call answer b → IsToldOf how call answer
  -- the wait of a deadlock's victim is settled as `Victim`
  pub victims : (a b : S) (who victim : ℕ) → speaks_for a victim → joins a (Search who) (Victim_is victim) b
      → is_settled b victim settled_as.Victim
  -- the number that `wait_of` returns is that of the session's wait
  pub counts : (a b : S) (w : ℕ) (number : Option ℕ) → speaks_for a w → joins a (Wait_of w) (Has_wait number) b → number ≡ wait_number (own a w)
  -- a kill that returns true found a wait of the number that was passed, and this wait is now settled as killed
  pub kills : (a b : S) (w number : ℕ) → speaks_for a w → joins a (Kill w number) (Has_killed true) b
      → (wait_number (own a w) ≡ Some number) × is_settled b w settled_as.Killed
  -- a kill that returns false found no wait of the number that was passed, or a settled one
  pub kills_or_settled : (a b : S) (w number : ℕ) → speaks_for a w → joins a (Kill w number) (Has_killed false) b
      → wait_number (own a w) ≡ Some number → (how : Settled) × is_settled b w how
  -- a new ticket or wait of the caller gets the next number. The ticket of an ended wait keeps the number that it got as the wait began.
  pub draws : (a b : S) (call : Call) (answer : Answer) (who : ℕ) → caller call ≡ Some who → joins a call answer b
      → Draws call answer (numbers a who) (numbers b who)
  -- other sessions get no numbers
  pub others_draw : (a b : S) (call : Call) (answer : Answer) (w : ℕ) → speaks_for a w → (caller call ≡ Some w → ⊥) → joins a call answer b
      → numbers b w ≡ numbers a w
  -- a read under a ticket returns the version and the definition of the ticket's place
  pub reads : (a b : S) (call : Call) (who id version : ℕ) (definition : Option Definition) (ticket : Held) → caller call ≡ Some who
      → read_under call ≡ Some id → ticket_held id (own a who) ≡ Some ticket → joins a call (Reads version definition) b
      → has_read b who ticket.place (record { version = version; definition = definition })
  -- after a change the session knows the new definition, whose version is the one that the call returned
  pub redefines : (a b : S) (who id version : ℕ) (change : Change) (ticket : Held) → ticket_held id (own a who) ≡ Some ticket
      → joins a (Change_definition who id change) (Changed version) b
      → (definition : Option Definition) × has_read b who ticket.place (record { version = version; definition = definition })
  -- if the session had read the definition, a change under a ticket in mode X is applied to that, or is refused because of that or for lack of memory
  pub redefines_so : (a b : S) (who id : ℕ) (change : Change) (answer : Answer) (ticket : Held) (key : KeyName) (standing : VersionedDefinition)
      → ticket_held id (own a who) ≡ Some ticket → same_mode ticket.mode X ≡ true → knows a who ticket.place key
      → has_read a who ticket.place standing → joins a (Change_definition who id change) answer b
      → IsChangeOf key change standing answer
      × ((version : ℕ) → answer ≡ Changed version → has_read b who ticket.place (standing_after change standing))
  -- a place has one version and one definition at a time
  pub reads_one : (a : S) (w place : ℕ) (one other : VersionedDefinition) → speaks_for a w → has_read a w place one → has_read a w place other → one ≡ other
  -- a version and definition that a session has read don't change while it holds a ticket of the place, unless it changes them itself
  pub stands : (a b : S) (call : Call) (answer : Answer) (w place : ℕ) (standing : VersionedDefinition) → speaks_for a w
      → (caller call ≡ Some w → redefined_place call answer (own a w) ≡ Some place → ⊥) → HoldsAt place (own b w) → joins a call answer b
      → has_read a w place standing → has_read b w place standing
  -- what was read is a valid version and definition for the place's key
  pub reads_fit : (a : S) (w place : ℕ) (key : KeyName) (standing : VersionedDefinition) → speaks_for a w → knows a w place key
      → has_read a w place standing → MayStand key.namespace standing
  -- a session has seen each version that it has read
  pub sees : (a : S) (w place : ℕ) (standing : VersionedDefinition) → speaks_for a w → has_read a w place standing → has_seen a w place standing.version
  -- a version that was seen stays seen
  pub seen_stays : (a b : S) (call : Call) (answer : Answer) (w place version : ℕ) → speaks_for a w → joins a call answer b
      → has_seen a w place version → has_seen b w place version
  -- no version that is read is below one that was seen
  pub seen_below : (a : S) (w place version : ℕ) (standing : VersionedDefinition) → speaks_for a w → has_seen a w place version
      → has_read a w place standing → version ≤ standing.version
  -- a session has met what it has read
  pub meets : (a : S) (w place : ℕ) (standing : VersionedDefinition) → speaks_for a w → has_read a w place standing → has_met a w place standing
  -- what was met stays met
  pub met_stays : (a b : S) (call : Call) (answer : Answer) (w place : ℕ) (standing : VersionedDefinition) → speaks_for a w → joins a call answer b
      → has_met a w place standing → has_met b w place standing
  -- an upgrade to a mode that the held one covers never has to wait
  pub upgrades : (a b : S) (who id : ℕ) (mode : Mode) (ticket : Held) → ticket_held id (own a who) ≡ Some ticket → covers ticket.mode mode ≡ true
      → joins a (Upgrade_now who id mode) Would_wait b → ⊥
  -- a session that gets the key of a place that it knows gets that key
  pub tells_key : (a b : S) (who place : ℕ) (key other : KeyName) → joins a (Key_of who place) (Key_is key) b → knows a who place other → key ≡ other
  -- a session that gets the tables of a schema knows them. They are in the order of their keys.
  pub tells_tables : (a b : S) (who : ℕ) (schema places : List ℕ) → joins a (Tables_of who schema) (Tables places) b
      → AreTablesOf (knows b who) schema places
  -- after a call no session owes a reschedule that it didn't owe before
  pub no_new_debts : (a b : S) (call : Call) (answer : Answer) (w place : ℕ) → speaks_for a w → joins a call answer b → owes b w place
      → owes a w place
  -- giving up a pin fails with `InUse` only if the session has a ticket or a wait at the place, or owes it a reschedule
  pub unpins_in_use : (a b : S) (who place : ℕ) → joins a (Unpin who place) (Refused InUse) b
      → HoldsAt place (own a who) ⊎ AwaitsAt place (own a who) ⊎ owes a who place
