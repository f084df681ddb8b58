-- Which waits end in the course of time after an act, if each session that is granted its lock ends in turn: a session goes on as soon as each
-- ticket that blocks it has gone. This doesn't depend on the order in which they end. The rule is this project's own.
use Rattle.std.specs.Prelude.{◌≡◌, ℕ, Bool, false, not, ◌&&◌, ◌||◌, ◌==◌, List, IsTrue}
use Rattle.std.specs.List.{list_all}
use Rattle.mdl_view.specs.declared.act.Act.{Act}
use Rattle.mdl_view.specs.declared.at_lock.AtLock.{AtLock}
use Rattle.mdl_view.specs.declared.ticket.Ticket.{Ticket}
use Rattle.mdl_view.specs.Acts.{ends, is_taken, target_of}
use Rattle.mdl_view.specs.Blockings.{holds_against, is_blocked, waits_before, waits_blocked, waits_that}
use Rattle.mdl_view.specs.Locks.{LockView}

-- a set of sessions, as a test
abbrev pub Sessions : Type 0
Sessions = ℕ → Bool

-- whether nothing blocks a request any more, when some tickets have gone
abbrev pub is_free : LockView → (Ticket → Bool) → Ticket → Bool
is_free lock gone ask =
    list_all (λ held. not (holds_against lock ask held) || gone held) lock.granted
    && list_all (λ pending. not (waits_before lock ask pending) || gone pending) lock.waiting

-- whether a wait goes on, when some tickets have gone: some ticket blocked it, and none does any more
abbrev pub goes_on : (Ticket → Bool) → LockView → Ticket → Bool
goes_on gone lock ask = not (gone ask) && is_blocked lock ask && is_free lock gone ask

-- whether nobody goes on who isn't among these sessions
abbrev pub is_closed : (Ticket → Bool) → Sessions → List LockView → Bool
is_closed gone ended locks = list_all (λ lock. list_all (λ ask. not (goes_on gone lock ask) || ended ask.session) lock.waiting) locks

-- which tickets have gone after some act, `taken`, when these sessions have ended
abbrev pub is_gone : (Ticket → Bool) → Sessions → Ticket → Bool
is_gone taken ended ticket = taken ticket || ended ticket.session

-- these sessions end in turn, when the act takes these tickets and ends these sessions at once: it is the least set with the sessions that are
-- ended at once, and with each that goes on when those in the set have ended
pub record EndInTurn (taken : Ticket → Bool) (first : Sessions) (locks : List LockView) (ended : Sessions) : Type 0 where
  pub first_end : (session : ℕ) → IsTrue (first session) → IsTrue (ended session)
  pub closed : IsTrue (is_closed (is_gone taken ended) ended locks)
  pub least : (other : Sessions) → ((session : ℕ) → IsTrue (first session) → IsTrue (other session))
      → IsTrue (is_closed (is_gone taken other) other locks) → (session : ℕ) → IsTrue (ended session) → IsTrue (other session)

-- the sessions that end in turn after an act
abbrev pub EndAfter : Act → List LockView → Sessions → Type 0
EndAfter act locks ended = EndInTurn (is_taken act) (ends act) locks ended

-- whether a wait is of a session that ends in turn, and not of the one that the act is about
abbrev pub goes_on_after : Act → Sessions → LockView → Ticket → Bool
goes_on_after act ended lock ask = is_blocked lock ask && ended ask.session && not (ask.session == target_of act)

-- the waits that end in turn after an act
abbrev pub in_turn : Act → Sessions → List LockView → List AtLock
in_turn act ended locks = waits_that (goes_on_after act ended) 0 locks

-- ---- deadlocks

-- no ticket, as a test
abbrev pub no_ticket : Ticket → Bool
no_ticket ticket = false

-- a wait is in a deadlock, or behind one, if it wouldn't end in turn even if each session that isn't blocked ended
abbrev pub is_stuck : Sessions → LockView → Ticket → Bool
is_stuck ended lock ask = is_blocked lock ask && not (ended ask.session)

pub record AreStuck (locks : List LockView) (stuck : List AtLock) : Type 0 where
  pub ended : Sessions
  pub in_time : EndInTurn no_ticket (λ session. not (waits_blocked locks session)) locks ended
  pub rest : stuck ≡ waits_that (is_stuck ended) 0 locks
