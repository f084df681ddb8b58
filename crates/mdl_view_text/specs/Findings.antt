-- What the answer to `why` says, before it is put into words: the ways out, the waits that no single way ends, those in deadlocks, and those that
-- the tickets don't explain.
use Rattle.std.specs.Prelude.{◌≡◌, ℕ, Bool, not, ◌&&◌, ◌==◌, ◌+◌, ◌-◌, List, [], ◌∷◌, filter, get_or, if◌then◌else◌, length, map, take}
use Rattle.std.specs.List.{All, list_any}
use Rattle.mdl_view.specs.declared.act.Act.{Act}
use Rattle.mdl_view.specs.declared.act.Act.TheVariants.{Kill, KillQuery}
use Rattle.mdl_view.specs.declared.at_lock.AtLock.{AtLock}
use Rattle.mdl_view.specs.declared.lock_mode.LockKind.TheVariants as kind
use Rattle.mdl_view.specs.declared.ticket.Ticket.{Ticket}
use Rattle.mdl_view.specs.declared.way.Way.{Way}
use Rattle.mdl_view.specs.Acts.{target_of}
use Rattle.mdl_view.specs.AtOnce.{at_once}
use Rattle.mdl_view.specs.Blockings.{blocked_waits, holds_against, unexplained_waits}
use Rattle.mdl_view.specs.GoingOn.{AreStuck, EndAfter, Sessions, in_turn}
use Rattle.mdl_view.specs.Held.{held_by}
use Rattle.mdl_view.specs.Locks.{LockView, empty_lock}
use Rattle.mdl_view.specs.Ways.{AreJoint, AreWays, blockers_of}
use Rattle.mdl_view_text.specs.declared.findings.BlockedWait.{BlockedWait}
use Rattle.mdl_view_text.specs.declared.findings.Findings.{Findings}
use Rattle.mdl_view_text.specs.declared.findings.WayFound.{WayFound}

-- at most eight of a kind are described
abbrev pub most_found : ℕ
most_found = 8

-- the number of requests that wait at these locks
abbrev pub waits_among : List LockView → ℕ
waits_among [] = 0
waits_among (lock ∷ locks) = length lock.waiting + waits_among locks

-- the lock with this index. Each index that is used has one
abbrev pub lock_at : List LockView → ℕ → LockView
lock_at locks place = get_or locks place (empty_lock kind.Object)

-- whether somebody waits at the lock of a ticket
abbrev pub is_wanted : List LockView → AtLock → Bool
is_wanted locks at = not (length (lock_at locks at.lock).waiting == 0)

-- what follows from a way: the session holds these tickets, and at the locks of these of them somebody waits; these waits are granted at once, and
-- these end in turn
pub record Follows (locks : List LockView) (found : WayFound) : Type 0 where
  pub held : found.held.items ≡ held_by (target_of found.way.act) locks
  pub wanted : found.wanted.items ≡ filter (is_wanted locks) (held_by (target_of found.way.act) locks)
  pub granted : found.at_once.items ≡ at_once found.way.act locks
  pub ended : Sessions
  pub end_after : EndAfter found.way.act locks ended
  pub going_on : found.in_turn.items ≡ in_turn found.way.act ended locks

-- the way that is described
abbrev pub way_of : WayFound → Way
way_of found = found.way

-- the first ways, each with what follows from it
pub record AreDescribed (locks : List LockView) (ways : List Way) (found : List WayFound) : Type 0 where
  pub same : map way_of found ≡ take most_found ways
  pub each : All (Follows locks) found

-- whether a granted ticket of a session blocks a request, and stays if the session's statement is killed
abbrev pub outlasts : LockView → Ticket → ℕ → Ticket → Bool
outlasts lock ask session held = (held.session == session) && holds_against lock ask held && not held.of_statement

-- the act by which a session no longer blocks a request: that which costs it less
abbrev pub act_against : LockView → Ticket → ℕ → Act
act_against lock ask session = if list_any (outlasts lock ask session) lock.granted then Kill session else KillQuery session

-- what a wait needs: each of these acts, and so many in all
pub record Needs (locks : List LockView) (wait : BlockedWait) : Type 0 where
  pub count : wait.blockers ≡ length (blockers_of (lock_at locks wait.at.lock) wait.at.ticket)
  pub acts : wait.acts.items
      ≡ map (act_against (lock_at locks wait.at.lock) wait.at.ticket) (take most_found (blockers_of (lock_at locks wait.at.lock) wait.at.ticket))

-- the wait that is described
abbrev pub wait_of : BlockedWait → AtLock
wait_of wait = wait.at

-- the first waits, each with what it needs
pub record AreBlocked (locks : List LockView) (waits : List AtLock) (found : List BlockedWait) : Type 0 where
  pub same : map wait_of found ≡ take most_found waits
  pub each : All (Needs locks) found

-- this is what is found at these locks
pub record AreFindings (locks : List LockView) (found : Findings) : Type 0 where
  pub ways : List Way
  pub joint : List AtLock
  pub stuck : List AtLock
  pub are_ways : AreWays locks ways
  pub are_joint : AreJoint locks ways joint
  pub are_stuck : AreStuck locks stuck
  pub waits : found.waits ≡ waits_among locks
  pub blocked : found.blocked ≡ length (blocked_waits locks)
  pub unexplained : found.unexplained.items ≡ unexplained_waits locks
  pub ways_described : AreDescribed locks ways found.ways.items
  pub more_ways : found.more_ways ≡ length ways - most_found
  pub joint_described : AreBlocked locks joint found.joint.items
  pub more_joint : found.more_joint ≡ length joint - most_found
  pub stuck_described : AreBlocked locks stuck found.stuck.items
  pub stuck_count : found.stuck_count ≡ length stuck
