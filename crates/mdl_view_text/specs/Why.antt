-- The answer to `why`: how many requests wait, what to type so that they go on, and which of them these rows don't explain. The wording is this
-- project's own.
use Rattle.std.specs.Prelude.{ℕ, suc, Bool, not, ◌&&◌, ◌||◌, ◌+◌, ◌-◌, ◌==◌, List, [], ◌∷◌, ◌++◌, codes, flat_map, length, take, if◌then◌else◌}
use Rattle.std.specs.Fmt.{decimal}
use Rattle.mdl_lock_rows.specs.declared.row_class.LeftOut.{LeftOut}
use Rattle.mdl_view.specs.declared.act.Act.{Act}
use Rattle.mdl_view.specs.declared.at_lock.AtLock.{AtLock}
use Rattle.mdl_view.specs.declared.lock_mode.LockMode.{LockMode}
use Rattle.mdl_view.specs.declared.way.Way.{Way}
use Rattle.mdl_view.specs.Acts.{target_of}
use Rattle.mdl_view.specs.Modes.{lock_mode_name}
use Rattle.mdl_view_text.specs.declared.findings.BlockedWait.{BlockedWait}
use Rattle.mdl_view_text.specs.declared.findings.Findings.{Findings}
use Rattle.mdl_view_text.specs.declared.findings.WayFound.{WayFound}
use Rattle.mdl_view_text.specs.ActTexts.{act_lines}
use Rattle.mdl_view_text.specs.Layouts.{line_with}
use Rattle.mdl_view_text.specs.LeftOuts.{left_out_line, unexplained_count, unexplained_words, waiting_among}
use Rattle.mdl_view_text.specs.Names.{NamesView, knows_connections, lock_name, numbered, printed, session_text}
use Rattle.mdl_view_text.specs.Owners.{runs}

-- ---- how many wait

abbrev pub wait_words : ℕ → List ℕ
wait_words count = if count == 1 then codes "1 request waits" else decimal count ++ codes " requests wait"

abbrev pub ways_head : List WayFound → List ℕ
ways_head [] = codes "." ++ 10 ∷ []
ways_head (way ∷ ways) = codes ". Ways out, the best first. Do one, and look again:" ++ 10 ∷ []

-- the first line. It says that no session waits only if no row does
abbrev pub head_line : ℕ → List WayFound → List ℕ
head_line count ways = if count == 0 then codes "No session waits." ++ 10 ∷ [] else wait_words count ++ ways_head ways

-- ---- lines about tickets

-- a mode before the lock's name, as in SR of TABLE shop.orders
abbrev pub mode_of : LockMode → List ℕ
mode_of mode = lock_mode_name mode ++ codes " of "

-- the line for a ticket, as in: connection 8 (thread 16) holds SR of TABLE shop.orders
abbrev pub ticket_start : NamesView → List ℕ → AtLock → List ℕ
ticket_start names verb at = codes "   " ++ session_text names at.ticket.session ++ verb ++ mode_of at.ticket.mode

abbrev pub ticket_line : NamesView → List ℕ → List ℕ → AtLock → List ℕ
ticket_line names verb rest at = line_with (ticket_start names verb at) (lock_name names at.lock) rest

-- there are at most eight lines of each kind
abbrev pub most_lines : ℕ
most_lines = 8

-- how many more lines there would be
abbrev pub and_more : ℕ → List ℕ
and_more more = if more == 0 then [] else numbered (codes "   and ") more (codes " more\n")

-- the lines of a kind, and how many more aren't printed
abbrev pub ticket_lines : NamesView → List ℕ → List ℕ → List AtLock → List ℕ
ticket_lines names verb rest ats = flat_map (ticket_line names verb rest) (take most_lines ats) ++ and_more (length ats - most_lines)

-- what lines below a line of a ticket start with
abbrev pub deeper : List ℕ
deeper = codes "      "

-- the line of a request that is granted, and what its session runs then
abbrev pub granted_line : NamesView → AtLock → List ℕ
granted_line names at = ticket_line names (codes " gets ") [] at ++ runs names deeper at.ticket.session

abbrev pub granted_lines : NamesView → List AtLock → List ℕ
granted_lines names ats = flat_map (granted_line names) (take most_lines ats) ++ and_more (length ats - most_lines)

-- ---- what a session holds

-- what the line for other locks starts with: the session, unless a line before has it
abbrev pub others_start : NamesView → ℕ → ℕ → List ℕ
others_start names session listed = if listed == 0 then codes "   " ++ session_text names session ++ codes " holds " else codes "   and "

-- so many locks
abbrev pub locks_words : ℕ → List ℕ
locks_words count = if count == 1 then codes "1 lock" else decimal count ++ codes " locks"

-- how many locks of a session nobody waits at, behind a list of others
abbrev pub others_line : NamesView → ℕ → ℕ → ℕ → List ℕ
others_line names session listed others =
    if others == 0 then []
    else others_start names session listed ++ locks_words others ++ codes " at which nobody waits" ++ 10 ∷ []

-- the locks at which somebody waits, and how many others there are
abbrev pub held_text : NamesView → WayFound → List ℕ
held_text names found =
    ticket_lines names (codes " holds ") [] found.wanted.items
    ++ others_line names (target_of found.way.act) (length found.wanted.items) (length found.held.items - length found.wanted.items)

-- ---- ways out

-- so many waits end
abbrev pub ends_words : ℕ → List ℕ
ends_words count = if count == 1 then codes "1 wait ends" else decimal count ++ codes " waits end"

-- when they do, if all are granted at once
abbrev pub all_at_once : ℕ → List ℕ
all_at_once count = if count == 1 then codes " at once" else codes ", all at once"

-- when they do: those that are granted at once, and the others when sessions granted before them have ended
abbrev pub when_words : ℕ → ℕ → List ℕ
when_words at_once later =
    if later == 0 then all_at_once at_once
    else numbered (codes ": ") at_once (codes " at once, ") ++ numbered [] later (codes " when those have ended")

abbrev pub effect_line : Way → List ℕ
effect_line way = codes "   " ++ ends_words way.in_turn ++ when_words way.at_once (way.in_turn - way.at_once) ++ 10 ∷ []

-- what a line starts with: the number of the way
abbrev pub number_start : ℕ → List ℕ
number_start place = numbered [] (place + 1) (codes ". ")

-- a way: what to type, what follows, what the session holds, and who gets what at once
abbrev pub way_head : NamesView → ℕ → Way → List ℕ
way_head names place way = act_lines names (number_start place) (codes "   ") way.act ++ effect_line way

abbrev pub way_text : NamesView → ℕ → WayFound → List ℕ
way_text names place found =
    way_head names place found.way ++ held_text names found ++ granted_lines names found.at_once.items

-- ways, the first of which has this index
abbrev pub ways_from : NamesView → ℕ → List WayFound → List ℕ
ways_from names place [] = []
ways_from names place (way ∷ ways) = way_text names place way ++ ways_from names (suc place) ways

-- how many ways aren't printed
abbrev pub more_ways_line : ℕ → List ℕ
more_ways_line more = if more == 0 then [] else numbered (codes "More ways, which are no better: ") more (10 ∷ [])

-- ---- waits that no single act ends

-- who gets what, in place of one of these ways
abbrev pub so_that : List WayFound → List ℕ
so_that [] = codes "So that "
so_that (way ∷ ways) = codes "Or, so that "

abbrev pub joint_start : NamesView → List WayFound → AtLock → List ℕ
joint_start names ways at = so_that ways ++ session_text names at.ticket.session ++ codes " gets " ++ mode_of at.ticket.mode

abbrev pub joint_line : NamesView → List WayFound → AtLock → List ℕ
joint_line names ways at = line_with (joint_start names ways at) (lock_name names at.lock) (codes ",")

-- and what it runs then
abbrev pub joint_head : NamesView → List WayFound → AtLock → List ℕ
joint_head names ways at = joint_line names ways at ++ runs names (codes "   ") at.ticket.session

-- each of so many acts is needed
abbrev pub all_words : ℕ → List ℕ
all_words count = if count == 2 then codes "do both of these:\n" else numbered (codes "do all ") count (codes " of these:\n")

abbrev pub acts_text : NamesView → BlockedWait → List ℕ
acts_text names wait =
    all_words wait.blockers ++ flat_map (act_lines names (codes "   ") deeper) wait.acts.items ++ and_more (wait.blockers - length wait.acts.items)

-- a wait, and what to type for it
abbrev pub joint_text : NamesView → List WayFound → BlockedWait → List ℕ
joint_text names ways wait = joint_head names ways wait.at ++ acts_text names wait

abbrev pub more_joint_line : ℕ → List ℕ
more_joint_line more = if more == 0 then [] else numbered (codes "More requests that go on only after several acts: ") more (10 ∷ [])

-- ---- deadlocks

-- the session of the first act that a wait needs
abbrev pub first_blocker : NamesView → List Act → List ℕ
first_blocker names [] = []
first_blocker names (act ∷ acts) = codes ", behind " ++ session_text names (target_of act)

abbrev pub stuck_line : NamesView → BlockedWait → List ℕ
stuck_line names wait = ticket_line names (codes " waits for ") (first_blocker names wait.acts.items) wait.at

-- so many waits are in a deadlock, or behind one
abbrev pub stuck_words : ℕ → List ℕ
stuck_words count = if count == 1 then codes "1 request is" else numbered [] count (codes " requests are")

abbrev pub stuck_head : ℕ → List ℕ
stuck_head count = stuck_words count ++ codes " in a deadlock or behind one. A server ends a deadlock by itself: look again.\n"

abbrev pub stuck_text : NamesView → List BlockedWait → ℕ → List ℕ
stuck_text names waits count = if count == 0 then [] else stuck_head count ++ flat_map (stuck_line names) waits ++ and_more (count - length waits)

-- ---- waits behind others that are over

abbrev pub passing_line : ℕ → List ℕ
passing_line count = if count == 0 then [] else wait_words count ++ codes " only behind requests that are over: look again.\n"

-- ---- waits that can't be explained

-- rows that wait and aren't read
abbrev pub unread_name : LeftOut → List ℕ
unread_name left = printed left.class.object_type ++ 32 ∷ printed left.class.lock_type

abbrev pub unread_rest : LeftOut → List ℕ
unread_rest left = 32 ∷ decimal left.waiting

abbrev pub unread_words : LeftOut → List ℕ
unread_words left = line_with (codes "   rows that wait and aren't read: ") (unread_name left) (unread_rest left)

abbrev pub unread_line : LeftOut → List ℕ
unread_line left =
    if left.waiting == 0 then []
    else unread_words left

-- what to do if no row shows who holds a lock
abbrev pub holder_help : List AtLock → List ℕ
holder_help [] = []
holder_help (at ∷ ats) =
    codes "   Either the lock was taken while the instrument wait/lock/metadata/sql/mdl was off, or it is held by" ++ 10 ∷ []
    ++ codes "   a prepared XA transaction, which has no client. These show the open transactions:" ++ 10 ∷ []
    ++ codes "      SELECT trx_mysql_thread_id, trx_started FROM information_schema.INNODB_TRX ORDER BY 2;" ++ 10 ∷ []
    ++ codes "      XA RECOVER;" ++ 10 ∷ []
    ++ codes "   Begin with the oldest: KILL takes its trx_mysql_thread_id. For 0, XA ROLLBACK takes the xid." ++ 10 ∷ []

-- what to do if rows that wait aren't read
abbrev pub unread_help : ℕ → List ℕ
unread_help count =
    if count == 0 then []
    else codes "   Who holds those: the rows with their OBJECT_TYPE and OBJECT_NAME that are GRANTED. To see all rows:" ++ 10 ∷ []
    ++ codes "      SELECT * FROM performance_schema.metadata_locks;" ++ 10 ∷ []

abbrev pub unexplained_body : NamesView → List AtLock → List LeftOut → List ℕ
unexplained_body names unexplained left_out =
    ticket_lines names (codes " waits for ") (codes ", and no row shows who holds it") unexplained ++ holder_help unexplained
    ++ flat_map unread_line left_out ++ unread_help (waiting_among left_out)

abbrev pub unexplained_text : NamesView → List AtLock → List LeftOut → List ℕ
unexplained_text names unexplained left_out =
    if unexplained_count unexplained left_out == 0 then []
    else unexplained_words (unexplained_count unexplained left_out) ++ codes ":" ++ 10 ∷ [] ++ unexplained_body names unexplained left_out

-- ---- the answer

-- how many requests wait in all: those of the locks, and those of rows that aren't read
abbrev pub all_waits : Findings → List LeftOut → ℕ
all_waits found left_out = found.waits + waiting_among left_out

-- how many are only behind waits that are over
abbrev pub passing : Findings → ℕ
passing found = found.waits - found.blocked - length found.unexplained.items

-- where rows have no numbers of connections, and something is to be ended: that KILL takes others, and what prints an answer with both
abbrev pub lacks_connections : NamesView → Bool
lacks_connections names = not (length names.owners == 0) && not (knows_connections names)

abbrev pub threads_note : NamesView → Bool → List ℕ
threads_note names has_acts =
    if has_acts && lacks_connections names
    then codes "The numbers below are of threads. KILL takes those of connections, which differ. To get both, run:" ++ 10 ∷ []
    ++ codes "   mysql -B -e \"$(mdlview query)\" | mdlview" ++ 10 ∷ []
    else []

-- the first lines
abbrev pub start_text : NamesView → Findings → List LeftOut → List ℕ
start_text names found left_out =
    threads_note names (not (length found.ways.items == 0) || not (length found.joint.items == 0))
    ++ head_line (all_waits found left_out) found.ways.items

abbrev pub ways_text : NamesView → Findings → List ℕ
ways_text names found =
    ways_from names 0 found.ways.items ++ more_ways_line found.more_ways ++ flat_map (joint_text names found.ways.items) found.joint.items ++ more_joint_line found.more_joint

abbrev pub other_text : NamesView → Findings → List LeftOut → List ℕ
other_text names found left_out =
    stuck_text names found.stuck.items found.stuck_count ++ passing_line (passing found) ++ unexplained_text names found.unexplained.items left_out

abbrev pub why_text : NamesView → Findings → List LeftOut → List ℕ
why_text names found left_out =
    start_text names found left_out ++ ways_text names found ++ other_text names found left_out ++ left_out_line left_out
