-- The ways out of a jam: the acts by which somebody goes on, the best first. Which acts are worth naming, and which is better, is this project's
-- own choice.
use Rattle.std.specs.Prelude.{◌≡◌, ℕ, ◌<◌, ◌≤◌, Bool, true, false, not, ◌&&◌, ◌||◌, ◌==◌, nat_le, nat_lt, nat_eq, List, [], ◌∷◌, ◌++◌, filter, fold, if◌then◌else◌, length, All, AllPairs, Contains, IsTrue}
use Rattle.std.specs.List.{list_any}
use Rattle.mdl_view.specs.declared.act.Act.{Act}
use Rattle.mdl_view.specs.declared.act.Act.TheVariants.{Kill, KillQuery}
use Rattle.mdl_view.specs.declared.at_lock.AtLock.{AtLock}
use Rattle.mdl_view.specs.declared.ticket.Ticket.{Ticket}
use Rattle.mdl_view.specs.declared.way.Way.{Way}
use Rattle.mdl_view.specs.Acts.{target_of}
use Rattle.mdl_view.specs.AtOnce.{at_once}
use Rattle.mdl_view.specs.Blockings.{holds_against, waits_before, waits_that}
use Rattle.mdl_view.specs.GoingOn.{EndAfter, Sessions, in_turn}
use Rattle.mdl_view.specs.Locks.{LockView}

-- the numbers of a way are those of its act
pub record IsWay (locks : List LockView) (way : Way) : Type 0 where
  pub granted : way.at_once ≡ length (at_once way.act locks)
  pub ended : Sessions
  pub end_after : EndAfter way.act locks ended
  pub going_on : way.in_turn ≡ length (in_turn way.act ended locks)

-- whether an act ends a session's statement alone
abbrev pub spares_session : Act → Bool
spares_session (Kill target) = false
spares_session (KillQuery target) = true

-- whether two acts are of the same kind
abbrev pub is_alike : Act → Act → Bool
is_alike (Kill one) (Kill other) = true
is_alike (KillQuery one) (KillQuery other) = true
is_alike _ _ = false

-- a way is worth naming if a wait ends by it, and ending the session if more do than by ending its statement alone
pub record IsWorthNaming (locks : List LockView) (way : Way) : Type 0 where
  pub helps : 1 ≤ way.in_turn
  pub beats_query : (other : Way) → way.act ≡ Kill (target_of way.act) → IsWay locks other → other.act ≡ KillQuery (target_of way.act) → other.in_turn < way.in_turn

-- whether two tests agree
abbrev pub same_bool : Bool → Bool → Bool
same_bool true other = other
same_bool false other = not other

-- whether one way is better than another: more waits end by it; of equal ones, it spares the session; then more are granted at once; then its
-- session's number is less
abbrev pub is_better : Way → Way → Bool
is_better one other =
    nat_lt other.in_turn one.in_turn
    || (nat_eq one.in_turn other.in_turn
    && ((spares_session one.act && not (spares_session other.act))
    || (is_alike one.act other.act
    && (nat_lt other.at_once one.at_once || (nat_eq one.at_once other.at_once && nat_lt (target_of one.act) (target_of other.act))))))

-- these are all ways that are worth naming, each once, the best first
pub record AreWays (locks : List LockView) (ways : List Way) : Type 0 where
  pub each : All (λ way. IsWay locks way × IsWorthNaming locks way) ways
  pub all : (way : Way) → IsWay locks way → IsWorthNaming locks way → Contains ways way
  pub in_order : AllPairs (λ one other. IsTrue (is_better one other)) ways

-- ---- waits that no single act ends

-- the sessions of a list of tickets, each once, in order
abbrev pub with_session : List ℕ → Ticket → List ℕ
with_session known ticket = if list_any (nat_eq ticket.session) known then known else known ++ ticket.session ∷ []

abbrev pub sessions_of : List Ticket → List ℕ
sessions_of tickets = fold with_session [] tickets

-- the sessions that block a request: those that hold the lock first
abbrev pub blockers_of : LockView → Ticket → List ℕ
blockers_of lock ask = sessions_of (filter (holds_against lock ask) lock.granted ++ filter (waits_before lock ask) lock.waiting)

-- the sessions that end in turn by one of these ways, other than the one that the act is about
pub record AreHelped (locks : List LockView) (ways : List Way) (helped : Sessions) : Type 0 where
  pub by_a_way : (session : ℕ) → IsTrue (helped session)
      → (way : Way) × (ended : Sessions) × Contains ways way × EndAfter way.act locks ended × IsTrue (ended session && not (session == target_of way.act))
  pub each : (way : Way) (ended : Sessions) (session : ℕ) → Contains ways way → EndAfter way.act locks ended
      → IsTrue (ended session && not (session == target_of way.act)) → IsTrue (helped session)

-- whether a wait goes on only if several sessions end, and none of the ways out does that
abbrev pub needs_several : Sessions → LockView → Ticket → Bool
needs_several helped lock ask = not (helped ask.session) && nat_le 2 (length (blockers_of lock ask))

-- these are the waits that go on only if several sessions end
pub record AreJoint (locks : List LockView) (ways : List Way) (joint : List AtLock) : Type 0 where
  pub helped : Sessions
  pub are_helped : AreHelped locks ways helped
  pub rest : joint ≡ waits_that (needs_several helped) 0 locks
