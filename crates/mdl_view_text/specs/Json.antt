-- The answers as JSON, after RFC 8259. Which members there are is this project's own choice.
use Rattle.std.specs.Prelude.{ℕ, Bool, not, ◌&&◌, ◌||◌, ◌==◌, ◌-◌, ◌/◌, ◌%◌, length, nat_le, List, [], ◌∷◌, ◌++◌, Option, Some, None, codes, flat_map, if◌then◌else◌}
use Rattle.std.specs.Fmt.{decimal}
use Rattle.std.specs.Str.{is_utf8}
use Rattle.mdl_lock_rows.specs.declared.row_class.LeftOut.{LeftOut}
use Rattle.mdl_lock_rows.specs.Owners.{OwnerView}
use Rattle.mdl_view.specs.declared.act.Act.{Act}
use Rattle.mdl_view.specs.declared.at_lock.AtLock.{AtLock}
use Rattle.mdl_view.specs.declared.blocking.Blocking.{Blocking}
use Rattle.mdl_view.specs.declared.blocking.Reason.{Reason}
use Rattle.mdl_view.specs.declared.blocking.Reason.TheVariants.{Holds, WaitsBefore}
use Rattle.mdl_view.specs.declared.ticket.Ticket.{Ticket}
use Rattle.mdl_view.specs.Acts.{target_of}
use Rattle.mdl_view.specs.Locks.{LockView}
use Rattle.mdl_view.specs.Modes.{lock_mode_name}
use Rattle.mdl_view_text.specs.declared.findings.BlockedWait.{BlockedWait}
use Rattle.mdl_view_text.specs.declared.findings.Findings.{Findings}
use Rattle.mdl_view_text.specs.declared.findings.WayFound.{WayFound}
use Rattle.mdl_view_text.specs.ActTexts.{act_words}
use Rattle.mdl_view_text.specs.Names.{NamesView, hex_digit, is_control, lock_name, owner_of}
use Rattle.mdl_view_text.specs.Layouts.{listed}
use Rattle.mdl_view_text.specs.Why.{all_waits}

-- a byte within quotes: a quote and a backslash have a backslash before them, and a control byte is \u00 and its two digits. So is a byte of
-- 128 or more, if the bytes aren't UTF-8
abbrev pub escape : ℕ → List ℕ
escape byte = codes "\\u00" ++ hex_digit (byte / 16) ∷ hex_digit (byte % 16) ∷ []

abbrev pub json_byte : Bool → ℕ → List ℕ
json_byte is_text byte =
    if byte == 34 || byte == 92 then 92 ∷ byte ∷ []
    else (if is_control byte || (not is_text && nat_le 128 byte) then escape byte else byte ∷ [])

abbrev pub json_string : List ℕ → List ℕ
json_string bytes = 34 ∷ flat_map (json_byte (is_utf8 bytes)) bytes ++ 34 ∷ []

-- elements with commas between them
abbrev pub elements : {X : Type 0} → (ℕ → X → List ℕ) → List X → List ℕ
elements text xs = listed (codes ",") text 0 xs

-- a member: what precedes its value, and the value
abbrev pub text_member : List ℕ → List ℕ → List ℕ
text_member head bytes = head ++ json_string bytes

abbrev pub number_member : List ℕ → ℕ → List ℕ
number_member head number = head ++ decimal number

-- ---- sessions and tickets

-- a number, or null
abbrev pub number_or_null : Option ℕ → List ℕ
number_or_null (Some number) = decimal number
number_or_null None = codes "null"

-- a session: of a script its number, and of a server its thread and its connection
abbrev pub owner_object : OwnerView → List ℕ
owner_object owner = number_member (codes "{\"thread\":") owner.thread ++ codes ",\"connection\":" ++ number_or_null owner.connection ++ codes "}"

abbrev pub session_value_by : Option OwnerView → ℕ → List ℕ
session_value_by (Some owner) session = owner_object owner
session_value_by None session = decimal session

abbrev pub session_value : NamesView → ℕ → List ℕ
session_value names session = session_value_by (owner_of names session) session

abbrev pub session_member : NamesView → List ℕ → ℕ → List ℕ
session_member names head session = head ++ session_value names session

-- a session and a mode, at the beginning of an object
abbrev pub ticket_members : NamesView → Ticket → List ℕ
ticket_members names ticket =
    session_member names (codes "{\"session\":") ticket.session ++ text_member (codes ",\"mode\":") (lock_mode_name ticket.mode)

abbrev pub lock_member : NamesView → ℕ → List ℕ
lock_member names place = text_member (codes ",\"lock\":") (lock_name names place)

-- a ticket at a lock
abbrev pub at_lock_object : NamesView → ℕ → AtLock → List ℕ
at_lock_object names place at = ticket_members names at.ticket ++ lock_member names at.lock ++ codes "}"

-- tickets at locks, as a member
abbrev pub tickets_member : NamesView → List ℕ → List AtLock → List ℕ
tickets_member names head ats = head ++ codes "[" ++ elements (at_lock_object names) ats ++ codes "]"

-- ---- the end of an answer

-- rows that are left out
abbrev pub class_members : LeftOut → List ℕ
class_members left = text_member (codes "{\"object_type\":") left.class.object_type ++ text_member (codes ",\"lock_type\":") left.class.lock_type

abbrev pub left_out_object : ℕ → LeftOut → List ℕ
left_out_object place left =
    class_members left ++ number_member (codes ",\"rows\":") left.count ++ number_member (codes ",\"waiting\":") left.waiting ++ codes "}"

-- waits that can't be explained, and rows that are left out
abbrev pub left_out_members : List LeftOut → List ℕ
left_out_members left_out = codes ",\"left_out\":[" ++ elements left_out_object left_out ++ codes "]}\n"

abbrev pub end_members : NamesView → List AtLock → List LeftOut → List ℕ
end_members names unexplained left_out = tickets_member names (codes ",\"unexplained\":") unexplained ++ left_out_members left_out

-- ---- locks

-- a ticket of a lock
abbrev pub ticket_object : NamesView → ℕ → Ticket → List ℕ
ticket_object names place ticket = ticket_members names ticket ++ codes "}"

-- one that waits: its wait goes on, or is over
abbrev pub waiting_object : NamesView → List ℕ → ℕ → Ticket → List ℕ
waiting_object names status place ticket = ticket_members names ticket ++ text_member (codes ",\"status\":") status ++ codes "}"

-- the tickets that hold it, those that wait, and those whose wait is over
abbrev pub granted_member : NamesView → LockView → List ℕ
granted_member names lock = codes ",\"granted\":[" ++ elements (ticket_object names) lock.granted ++ codes "]"

abbrev pub pending_member : NamesView → LockView → List ℕ
pending_member names lock = codes ",\"waiting\":[" ++ elements (waiting_object names (codes "PENDING")) lock.waiting ++ codes "]"

abbrev pub settled_member : NamesView → LockView → List ℕ
settled_member names lock = codes ",\"settled\":[" ++ elements (waiting_object names (codes "SETTLED")) lock.settled ++ codes "]}"

-- a lock, with its tickets
abbrev pub lock_object : NamesView → ℕ → LockView → List ℕ
lock_object names place lock =
    text_member (codes "{\"lock\":") (lock_name names place) ++ granted_member names lock ++ pending_member names lock ++ settled_member names lock

-- all locks
abbrev pub locks_json : NamesView → List LockView → List AtLock → List LeftOut → List ℕ
locks_json names locks unexplained left_out =
    codes "{\"version\":1,\"locks\":[" ++ elements (lock_object names) locks ++ codes "]" ++ end_members names unexplained left_out

-- ---- waits

-- why a ticket blocks another
abbrev pub reason_word : Reason → List ℕ
reason_word Holds = codes "holds"
reason_word WaitsBefore = codes "waits_before"

-- the session that blocks another, and why
abbrev pub blocker_members : NamesView → Blocking → List ℕ
blocker_members names blocking =
    session_member names (codes ",\"blocking\":") blocking.other.session ++ text_member (codes ",\"reason\":") (reason_word blocking.reason)
    ++ text_member (codes ",\"blocking_mode\":") (lock_mode_name blocking.other.mode)

-- a waiter, and a session that blocks it
abbrev pub wait_object : NamesView → ℕ → Blocking → List ℕ
wait_object names place blocking =
    ticket_members names blocking.waiter ++ lock_member names blocking.lock ++ blocker_members names blocking ++ codes "}"

-- all waits that some ticket blocks
abbrev pub waits_json : NamesView → List Blocking → List AtLock → List LeftOut → List ℕ
waits_json names blockings unexplained left_out =
    codes "{\"version\":1,\"waits\":[" ++ elements (wait_object names) blockings ++ codes "]" ++ end_members names unexplained left_out

-- ---- ways out

-- an act, at the beginning of an object
abbrev pub act_members : NamesView → Act → List ℕ
act_members names act = text_member (codes "{\"act\":") (act_words act) ++ session_member names (codes ",\"session\":") (target_of act)

abbrev pub act_object : NamesView → ℕ → Act → List ℕ
act_object names place act = act_members names act ++ codes "}"

-- a way, with what follows from it
abbrev pub way_waits : NamesView → WayFound → List ℕ
way_waits names found =
    tickets_member names (codes ",\"at_once\":") found.at_once.items ++ tickets_member names (codes ",\"in_turn\":") found.in_turn.items ++ codes "}"

abbrev pub way_object : NamesView → ℕ → WayFound → List ℕ
way_object names place found =
    act_members names found.way.act ++ tickets_member names (codes ",\"holds\":") found.held.items ++ way_waits names found

-- a wait that several acts are needed for: how many sessions block it, and the first acts
abbrev pub blocked_end : NamesView → BlockedWait → List ℕ
blocked_end names wait =
    number_member (codes ",\"blockers\":") wait.blockers ++ codes ",\"acts\":[" ++ elements (act_object names) wait.acts.items ++ codes "]}"

abbrev pub blocked_object : NamesView → ℕ → BlockedWait → List ℕ
blocked_object names place wait = ticket_members names wait.at.ticket ++ lock_member names wait.at.lock ++ blocked_end names wait

-- the ways out
abbrev pub ways_members : NamesView → Findings → List ℕ
ways_members names found =
    codes ",\"ways\":[" ++ elements (way_object names) found.ways.items ++ number_member (codes "],\"more_ways\":") found.more_ways

-- waits that several acts are needed for, and waits in deadlocks
abbrev pub joint_members : NamesView → Findings → List ℕ
joint_members names found =
    codes ",\"joint\":[" ++ elements (blocked_object names) found.joint.items ++ number_member (codes "],\"more_joint\":") found.more_joint

abbrev pub stuck_members : NamesView → Findings → List ℕ
stuck_members names found =
    codes ",\"deadlocked\":[" ++ elements (blocked_object names) found.stuck.items ++ number_member (codes "],\"more_deadlocked\":") (found.stuck_count - length found.stuck.items)

-- the answer to `why`
abbrev pub why_json : NamesView → Findings → List LeftOut → List ℕ
why_json names found left_out =
    number_member (codes "{\"version\":1,\"waits\":") (all_waits found left_out) ++ ways_members names found ++ joint_members names found ++ stuck_members names found
    ++ end_members names found.unexplained.items left_out
