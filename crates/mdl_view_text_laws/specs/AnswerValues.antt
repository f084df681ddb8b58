-- What a reader gets of each answer: one object, with a value for each row, in their order. No row is lost, and none is there twice.
use Rattle.std.specs.Prelude.{ℕ, ◌-◌, List, [], ◌∷◌, ◌++◌, Option, Some, None, codes, length}
use Rattle.json.specs.Json.{Json, number}
use Rattle.mdl_lock_rows.specs.Owners.{OwnerView}
use Rattle.mdl_lock_rows.specs.declared.row_class.LeftOut.{LeftOut}
use Rattle.mdl_view.specs.Acts.{target_of}
use Rattle.mdl_view.specs.Locks.{LockView}
use Rattle.mdl_view.specs.Modes.{lock_mode_name}
use Rattle.mdl_view.specs.declared.act.Act.{Act}
use Rattle.mdl_view.specs.declared.at_lock.AtLock.{AtLock}
use Rattle.mdl_view.specs.declared.blocking.Blocking.{Blocking}
use Rattle.mdl_view.specs.declared.ticket.Ticket.{Ticket}
use Rattle.mdl_view_text.specs.ActTexts.{act_words}
use Rattle.mdl_view_text.specs.Names.{NamesView, lock_name, owner_of}
use Rattle.mdl_view_text.specs.Why.{all_waits}
use Rattle.mdl_view_text.specs.declared.findings.BlockedWait.{BlockedWait}
use Rattle.mdl_view_text.specs.declared.findings.Findings.{Findings}
use Rattle.mdl_view_text.specs.declared.findings.WayFound.{WayFound}
use Rattle.mdl_view_text.specs.Json.{reason_word}
use Rattle.mdl_view_text_laws.specs.JsonTexts.{array_value, number_value, object_value, option_value, text_value}

-- ---- sessions and tickets

-- a session of a script is its number. One of a server has its thread and its connection
abbrev pub session_value_by : Option OwnerView → ℕ → Json
session_value_by (Some owner) session =
    object_value ((codes "thread", number_value owner.thread) ∷ (codes "connection", option_value owner.connection) ∷ [])
session_value_by None session = number_value session

abbrev pub session_value : NamesView → ℕ → Json
session_value names session = session_value_by (owner_of names session) session

abbrev pub ticket_values : NamesView → Ticket → List (List ℕ × Json)
ticket_values names ticket =
    (codes "session", session_value names ticket.session) ∷ (codes "mode", text_value (lock_mode_name ticket.mode)) ∷ []

abbrev pub lock_name_value : NamesView → ℕ → List ℕ × Json
lock_name_value names place = (codes "lock", text_value (lock_name names place))

-- a ticket at a lock
abbrev pub at_lock_value : NamesView → ℕ → AtLock → Json
at_lock_value names place at = object_value (ticket_values names at.ticket ++ lock_name_value names at.lock ∷ [])

abbrev pub at_locks_value : NamesView → List AtLock → Json
at_locks_value names ats = array_value (at_lock_value names) ats

-- rows that are left out
abbrev pub left_out_value : ℕ → LeftOut → Json
left_out_value place left = object_value (
    (codes "object_type", text_value left.class.object_type) ∷ (codes "lock_type", text_value left.class.lock_type)
    ∷ (codes "rows", number_value left.count) ∷ (codes "waiting", number_value left.waiting) ∷ [])

-- the last members of each answer: waits that can't be explained, and rows that are left out
abbrev pub end_values : NamesView → List AtLock → List LeftOut → List (List ℕ × Json)
end_values names unexplained left_out =
    (codes "unexplained", at_locks_value names unexplained) ∷ (codes "left_out", array_value left_out_value left_out) ∷ []

-- the first member of each answer
abbrev pub version_value : List ℕ × Json
version_value = (codes "version", number (codes "1"))

-- ---- locks

abbrev pub ticket_value : NamesView → ℕ → Ticket → Json
ticket_value names place ticket = object_value (ticket_values names ticket)

abbrev pub waiting_value : NamesView → List ℕ → ℕ → Ticket → Json
waiting_value names status place ticket = object_value (ticket_values names ticket ++ (codes "status", text_value status) ∷ [])

abbrev pub lock_value : NamesView → ℕ → LockView → Json
lock_value names place lock = object_value (
    lock_name_value names place ∷ (codes "granted", array_value (ticket_value names) lock.granted)
    ∷ (codes "waiting", array_value (waiting_value names (codes "PENDING")) lock.waiting)
    ∷ (codes "settled", array_value (waiting_value names (codes "SETTLED")) lock.settled) ∷ [])

abbrev pub locks_value : NamesView → List LockView → List AtLock → List LeftOut → Json
locks_value names locks unexplained left_out =
    object_value (version_value ∷ (codes "locks", array_value (lock_value names) locks) ∷ end_values names unexplained left_out)

-- ---- waits

abbrev pub wait_value : NamesView → ℕ → Blocking → Json
wait_value names place blocking = object_value (
    ticket_values names blocking.waiter ++ lock_name_value names blocking.lock ∷ (codes "blocking", session_value names blocking.other.session)
    ∷ (codes "reason", text_value (reason_word blocking.reason)) ∷ (codes "blocking_mode", text_value (lock_mode_name blocking.other.mode)) ∷ [])

abbrev pub waits_value : NamesView → List Blocking → List AtLock → List LeftOut → Json
waits_value names blockings unexplained left_out =
    object_value (version_value ∷ (codes "waits", array_value (wait_value names) blockings) ∷ end_values names unexplained left_out)

-- ---- ways out

abbrev pub act_values : NamesView → Act → List (List ℕ × Json)
act_values names act = (codes "act", text_value (act_words act)) ∷ (codes "session", session_value names (target_of act)) ∷ []

abbrev pub act_value : NamesView → ℕ → Act → Json
act_value names place act = object_value (act_values names act)

-- a way, with what its session holds, and the waits that end by it
abbrev pub way_value : NamesView → ℕ → WayFound → Json
way_value names place found = object_value (
    act_values names found.way.act ++ (codes "holds", at_locks_value names found.held.items)
    ∷ (codes "at_once", at_locks_value names found.at_once.items) ∷ (codes "in_turn", at_locks_value names found.in_turn.items) ∷ [])

-- a wait that needs several acts, or is in a deadlock
abbrev pub blocked_value : NamesView → ℕ → BlockedWait → Json
blocked_value names place wait = object_value (
    ticket_values names wait.at.ticket ++ lock_name_value names wait.at.lock ∷ (codes "blockers", number_value wait.blockers)
    ∷ (codes "acts", array_value (act_value names) wait.acts.items) ∷ [])

abbrev pub ways_values : NamesView → Findings → List (List ℕ × Json)
ways_values names found =
    (codes "ways", array_value (way_value names) found.ways.items) ∷ (codes "more_ways", number_value found.more_ways)
    ∷ (codes "joint", array_value (blocked_value names) found.joint.items) ∷ (codes "more_joint", number_value found.more_joint)
    ∷ (codes "deadlocked", array_value (blocked_value names) found.stuck.items)
    ∷ (codes "more_deadlocked", number_value (found.stuck_count - length found.stuck.items)) ∷ []

abbrev pub why_value : NamesView → Findings → List LeftOut → Json
why_value names found left_out = object_value (
    version_value ∷ (codes "waits", number_value (all_waits found left_out)) ∷ ways_values names found ++ end_values names found.unexplained.items left_out)
