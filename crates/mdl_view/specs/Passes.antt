-- How the sessions that end in turn are found: in passes over the locks. A representation: `GoingOn` says what is found.
use Rattle.std.specs.Prelude.{◌≡◌, ℕ, suc, ◌+◌, ◌<◌, Bool, true, false, cond, not, ◌&&◌, ◌==◌, List, [], ◌∷◌, All, IsTrue}
use Rattle.std.specs.List.{AllPairs, Contains, list_any}
use Rattle.mdl_view.specs.declared.against.ModeSessions.{ModeSessions}
use Rattle.mdl_view.specs.declared.ticket.Ticket.{Ticket}
use Rattle.mdl_view.specs.declared.way.Way.{Way}
use Rattle.mdl_view.specs.Acts.{target_of}
use Rattle.mdl_view.specs.Blockings.{is_blocked}
use Rattle.mdl_view.specs.GoingOn.{Sessions, is_closed, is_free, is_gone}
use Rattle.mdl_view.specs.Locks.{LockView}
use Rattle.mdl_view.specs.SessionSets.{AreAgainst}
use Rattle.mdl_view.specs.Ways.{IsWay, IsWorthNaming, is_better}

abbrev pub session_of : Ticket → ℕ
session_of ticket = ticket.session

-- what was noted of modes is so
abbrev pub AreKnown : LockView → (Ticket → Bool) → List ModeSessions → Type 0
AreKnown lock gone known = All (λ one. AreAgainst lock gone one.mode one.sessions) known

-- how many waits are of sessions that haven't ended
abbrev pub left_of : Sessions → List Ticket → ℕ
left_of ended [] = 0
left_of ended (ask ∷ asks) = cond (ended ask.session) (left_of ended asks) (suc (left_of ended asks))

abbrev pub waits_left : Sessions → List LockView → ℕ
waits_left ended [] = 0
waits_left ended (lock ∷ locks) = left_of ended lock.waiting + waits_left ended locks

-- a pass over these locks leads from one set of sessions to another one: those that are put in end in each set that has the old ones and that nobody
-- goes on beside; and if none is put in, nobody goes on beside the set
pub record Proceeds (taken : Ticket → Bool) (locks : List LockView) (old new : Sessions) (some : Bool) : Type 0 where
  pub grows : (session : ℕ) → IsTrue (old session) → IsTrue (new session)
  pub sound : (other : Sessions) → ((session : ℕ) → IsTrue (old session) → IsTrue (other session))
      → IsTrue (is_closed (is_gone taken other) other locks) → (session : ℕ) → IsTrue (new session) → IsTrue (other session)
  pub rest : some ≡ false → (new ≡ old) × IsTrue (is_closed (is_gone taken new) new locks)
  pub fewer : some ≡ true → waits_left new locks < waits_left old locks

-- ---- what is kept of the waits

-- whether a session is in a set, or isn't
abbrev pub is_on_side : Sessions → Bool → ℕ → Bool
is_on_side sessions true session = sessions session
is_on_side sessions false session = not (sessions session)

-- whether a wait is blocked, and its session is on that side
abbrev pub is_kept : Sessions → Bool → LockView → Ticket → Bool
is_kept sessions inside lock ask = is_blocked lock ask && is_on_side sessions inside ask.session

-- ---- acts that help

-- whether a session is the only one that blocks a request
abbrev pub is_alone_before : LockView → ℕ → Ticket → Bool
is_alone_before lock session ask = is_blocked lock ask && is_free lock (λ ticket. ticket.session == session) ask

-- whether some wait at a lock is blocked by this session alone
abbrev pub frees_at : ℕ → LockView → Bool
frees_at session lock = list_any (is_alone_before lock session) lock.waiting

abbrev pub frees_some : List LockView → ℕ → Bool
frees_some locks session = list_any (frees_at session) locks

-- ways in their order, and ways with one more, if it is to be named
abbrev pub AreOrdered : List Way → Type 0
AreOrdered ways = AllPairs (λ one other. IsTrue (is_better one other)) ways

abbrev pub with_way : Bool → Way → List Way → List Way
with_way named way ways = cond named (way ∷ ways) ways

-- these are the ways worth naming about the sessions below a limit
pub record AreWaysBelow (locks : List LockView) (limit : ℕ) (ways : List Way) : Type 0 where
  pub each : All (λ way. IsWay locks way × IsWorthNaming locks way) ways
  pub below : All (λ way. target_of way.act < limit) ways
  pub all : (way : Way) → IsWay locks way → IsWorthNaming locks way → target_of way.act < limit → Contains ways way
  pub in_order : AreOrdered ways
