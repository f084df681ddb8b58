-- Each row of an answer spells its value.
use Rattle.std.proofs.Common.{◌≡◌, ℕ, zero, suc, ◌-◌, ◌==◌, Bool, true, false, cond, List, [], ◌∷◌, ◌++◌, nat_lt, get_or, slice_get, All, IfSome, decimal, Option, Some, None, refl, arith, codes}
use Rattle.std.proofs.lemmas.Bool.{and_parts, ltb-true}
use Rattle.std.specs.List.{list_all}
use Rattle.mdl_lock_rows.specs.Owners.{OwnerView}
use Rattle.mdl_lock_rows.specs.declared.row_class.LeftOut.{LeftOut}
use Rattle.mdl_view.specs.Acts.{target_of}
use Rattle.mdl_view.specs.Locks.{LockView}
use Rattle.mdl_key.specs.declared.mode.Mode.{Mode}
use Rattle.mdl_key.specs.declared.mode.Mode.TheVariants as key
use Rattle.mdl_key.specs.Words.{mode_name}
use Rattle.mdl_view.specs.declared.lock_mode.BackupMode.{BackupMode}
use Rattle.mdl_view.specs.declared.lock_mode.BackupMode.TheVariants as backup
use Rattle.mdl_view.specs.Modes.{backup_mode_name, lock_mode_name}
use Rattle.mdl_view.specs.declared.act.Act.{Act}
use Rattle.mdl_view.specs.declared.act.Act.TheVariants.{Kill, KillQuery}
use Rattle.mdl_view.specs.declared.at_lock.AtLock.{AtLock}
use Rattle.mdl_view.specs.declared.blocking.Blocking.{Blocking}
use Rattle.mdl_view.specs.declared.blocking.Reason.{Reason}
use Rattle.mdl_view.specs.declared.blocking.Reason.TheVariants.{Holds, WaitsBefore}
use Rattle.mdl_view.specs.declared.lock_mode.LockMode.{LockMode}
use Rattle.mdl_view.specs.declared.lock_mode.LockMode.TheVariants.{Mdl, Backup}
use Rattle.mdl_view.specs.declared.ticket.Ticket.{Ticket}
use Rattle.mdl_view_text.specs.ActTexts.{act_words}
use Rattle.mdl_view_text.specs.Names.{NamesView, lock_name, owner_of}
use Rattle.mdl_view_text.specs.declared.findings.BlockedWait.{BlockedWait}
use Rattle.mdl_view_text.specs.declared.findings.WayFound.{WayFound}
use Rattle.mdl_view_text.specs.Json.{number_or_null, session_value as session_text, session_value_by as session_text_by, at_lock_object, left_out_object, ticket_object, waiting_object, lock_object, json_string, reason_word, wait_object, act_object, way_object, blocked_object, elements}
use Rattle.mdl_view_text_laws.specs.JsonTexts.{option_value, array_value, text_value}
use Rattle.mdl_view_text_laws.specs.Sizes.{AreBytes, Fits64, OwnerFits, NamesFit, TicketFits, AtLockFits, LeftOutFits, LockFits, BlockingFits, ActFits, WayFits, BlockedFits}
use Rattle.mdl_view_text_laws.specs.AnswerValues.{session_value, session_value_by, at_lock_value, left_out_value, ticket_value, waiting_value, lock_value, wait_value, act_value, way_value, blocked_value}
use Rattle.mdl_view_text_laws.proofs.Spelling.{Spells, deeper, spells_text, spells_number, spells_null, spells_array}
use Rattle.mdl_view_text_laws.proofs.Objects.{Member, named, named_array, spells_object}
use Rattle.mdl_view_text_laws.proofs.Pieces.{Pieces, piece, ◌⊕◌, in_pieces}

-- ---- words

abbrev are_bytes : List ℕ → Bool
are_bytes text = list_all (λ byte. nat_lt byte 256) text

bytes_by_test : (text : List ℕ) → are_bytes text ≡ true → AreBytes text
bytes_by_test [] h k d l = absurd (omega arith)
bytes_by_test (byte ∷ text) h zero d l = ltb-true byte 256 (and_parts (nat_lt byte 256) (are_bytes text) h).0
bytes_by_test (byte ∷ text) h (suc k) d l = bytes_by_test text (and_parts (nat_lt byte 256) (are_bytes text) h).1 k d (omega arith)

mdl_mode_test : (mode : Mode) → are_bytes (mode_name mode) ≡ true
mdl_mode_test key.IX = refl
mdl_mode_test key.S = refl
mdl_mode_test key.SH = refl
mdl_mode_test key.SR = refl
mdl_mode_test key.SW = refl
mdl_mode_test key.SWLP = refl
mdl_mode_test key.SU = refl
mdl_mode_test key.SRO = refl
mdl_mode_test key.SNW = refl
mdl_mode_test key.SNRW = refl
mdl_mode_test key.X = refl

backup_mode_test : (mode : BackupMode) → are_bytes (backup_mode_name mode) ≡ true
backup_mode_test backup.Start = refl
backup_mode_test backup.Flush = refl
backup_mode_test backup.WaitFlush = refl
backup_mode_test backup.WaitDdl = refl
backup_mode_test backup.WaitCommit = refl
backup_mode_test backup.Ftwrl1 = refl
backup_mode_test backup.Ftwrl2 = refl
backup_mode_test backup.Dml = refl
backup_mode_test backup.TransDml = refl
backup_mode_test backup.SysDml = refl
backup_mode_test backup.Ddl = refl
backup_mode_test backup.BlockDdl = refl
backup_mode_test backup.AlterCopy = refl
backup_mode_test backup.Commit = refl

mode_test : (mode : LockMode) → are_bytes (lock_mode_name mode) ≡ true
mode_test (Mdl mode) = mdl_mode_test mode
mode_test (Backup mode) = backup_mode_test mode

act_test : (act : Act) → are_bytes (act_words act) ≡ true
act_test (Kill session) = refl
act_test (KillQuery session) = refl

reason_test : (reason : Reason) → are_bytes (reason_word reason) ≡ true
reason_test Holds = refl
reason_test WaitsBefore = refl

name_bytes : (names : NamesView) → NamesFit names → (place : ℕ) → AreBytes (lock_name names place)
name_bytes names h place = go names.locks h.locks place
  where
    go : (locks : List (List ℕ)) → All AreBytes locks → (place : ℕ) → AreBytes (get_or locks place [])
    go [] h place = λ k d l. absurd (omega arith)
    go (name ∷ locks) h zero = h 0 name (omega arith)
    go (name ∷ locks) h (suc place) = go locks (λ k d l. h (suc k) d (omega arith)) place

-- ---- sessions and tickets

-- a member, and one with an array of these elements
abbrev pub member : List ℕ → List ℕ → Pieces
member head text = piece head ⊕ piece text

abbrev pub array_member : List ℕ → List ℕ → List ℕ → Pieces
array_member head inside end = piece head ⊕ piece inside ⊕ piece end

abbrev pub tickets_member : List ℕ → List ℕ → Pieces
tickets_member head inside = piece head ⊕ piece (codes "[") ⊕ piece inside ⊕ piece (codes "]")

spells_option : (d : ℕ) (number : Option ℕ) → IfSome number Fits64 → Spells d (number_or_null number) (option_value number)
spells_option d (Some number) h = spells_number d number h
spells_option d None h = spells_null d

owner_fits : (owners : List OwnerView) → All OwnerFits owners → (place : ℕ) → IfSome (slice_get owners place) OwnerFits
owner_fits [] h place = tt
owner_fits (owner ∷ owners) h zero = h 0 owner (omega arith)
owner_fits (owner ∷ owners) h (suc place) = owner_fits owners (λ k d l. h (suc k) d (omega arith)) place

found_fits : (names : NamesView) → NamesFit names → (session : ℕ) → IfSome (owner_of names session) OwnerFits
found_fits names h session = go (session == 0)
  where
    go : (is_zero : Bool) → IfSome (cond is_zero None (slice_get names.owners (session - 1))) OwnerFits
    go true = tt
    go false = owner_fits names.owners h.owners (session - 1)

spells_session_by : (owner : Option OwnerView) (session : ℕ) → IfSome owner OwnerFits → Fits64 session → Spells 1 (session_text_by owner session) (session_value_by owner session)
spells_session_by (Some owner) session h small =
    in_pieces (member (codes "{\"thread\":") (decimal owner.thread) ⊕ piece (codes ",\"connection\":") ⊕ piece (number_or_null owner.connection) ⊕ piece (codes "}"))
    (spells_object (named (codes "thread") refl (spells_number 0 owner.thread h.thread)) (named (codes "connection") refl (spells_option 0 owner.connection h.connection) ∷ []) refl)
spells_session_by None session h small = spells_number 1 session small

spells_mode : (mode : LockMode) → Spells 1 (json_string (lock_mode_name mode)) (text_value (lock_mode_name mode))
spells_mode mode = spells_text 1 (lock_mode_name mode) (bytes_by_test (lock_mode_name mode) (mode_test mode))

pub spells_left_out : (place : ℕ) (left : LeftOut) → LeftOutFits left → Spells 1 (left_out_object place left) (left_out_value place left)
spells_left_out place left h =
    in_pieces (member (codes "{\"object_type\":") (json_string left.class.object_type) ⊕ member (codes ",\"lock_type\":") (json_string left.class.lock_type)
    ⊕ member (codes ",\"rows\":") (decimal left.count) ⊕ member (codes ",\"waiting\":") (decimal left.waiting) ⊕ piece (codes "}"))
    (spells_object (named (codes "object_type") refl (spells_text 0 left.class.object_type h.object_type))
    (named (codes "lock_type") refl (spells_text 0 left.class.lock_type h.lock_type) ∷ named (codes "rows") refl (spells_number 0 left.count h.count)
    ∷ named (codes "waiting") refl (spells_number 0 left.waiting h.waiting) ∷ []) refl)

pub spells_left_outs : (lefts : List LeftOut) → All LeftOutFits lefts → Spells 2 (91 ∷ (elements left_out_object lefts ++ 93 ∷ [])) (array_value left_out_value lefts)
spells_left_outs lefts h = spells_array 1 left_out_object left_out_value lefts (λ k left l place. spells_left_out place (get_or lefts k left) (h k left l))

module _ (names : NamesView) (fit : NamesFit names) where
  spells_session : (session : ℕ) → Fits64 session → Spells 1 (session_text names session) (session_value names session)
  spells_session session h = spells_session_by (owner_of names session) session (found_fits names fit session) h

  spells_name : (place : ℕ) → Spells 1 (json_string (lock_name names place)) (text_value (lock_name names place))
  spells_name place = spells_text 1 (lock_name names place) (name_bytes names fit place)

  -- ---- tickets

  -- the first members of a ticket's object
  abbrev ticket_pieces : Ticket → Pieces
  ticket_pieces ticket = member (codes "{\"session\":") (session_text names ticket.session) ⊕ member (codes ",\"mode\":") (json_string (lock_mode_name ticket.mode))

  abbrev lock_piece : ℕ → Pieces
  lock_piece place = member (codes ",\"lock\":") (json_string (lock_name names place))

  abbrev session_named : (session : ℕ) → Fits64 session → Member 1
  session_named session h = named (codes "session") refl (spells_session session h)

  abbrev mode_named : (mode : LockMode) → Member 1
  mode_named mode = named (codes "mode") refl (spells_mode mode)

  abbrev lock_named : (place : ℕ) → Member 1
  lock_named place = named (codes "lock") refl (spells_name place)

  spells_at_lock : (place : ℕ) (at : AtLock) → AtLockFits at → Spells 2 (at_lock_object names place at) (at_lock_value names place at)
  spells_at_lock place at h =
      in_pieces (ticket_pieces at.ticket ⊕ lock_piece at.lock ⊕ piece (codes "}")) (spells_object (session_named at.ticket.session h) (mode_named at.ticket.mode ∷ lock_named at.lock ∷ []) refl)

  pub spells_at_locks : (ats : List AtLock) → All AtLockFits ats → Spells 3 (91 ∷ (elements (at_lock_object names) ats ++ 93 ∷ [])) (array_value (at_lock_value names) ats)
  spells_at_locks ats h = spells_array 2 (at_lock_object names) (at_lock_value names) ats (λ k at l place. spells_at_lock place (get_or ats k at) (h k at l))

  spells_ticket : (place : ℕ) (ticket : Ticket) → TicketFits ticket → Spells 2 (ticket_object names place ticket) (ticket_value names place ticket)
  spells_ticket place ticket h = in_pieces (ticket_pieces ticket ⊕ piece (codes "}")) (spells_object (session_named ticket.session h) (mode_named ticket.mode ∷ []) refl)

  spells_tickets : (tickets : List Ticket) → All TicketFits tickets → Spells 3 (91 ∷ (elements (ticket_object names) tickets ++ 93 ∷ [])) (array_value (ticket_value names) tickets)
  spells_tickets tickets h = spells_array 2 (ticket_object names) (ticket_value names) tickets (λ k ticket l place. spells_ticket place (get_or tickets k ticket) (h k ticket l))

  spells_waiting : (status : List ℕ) → AreBytes status → (place : ℕ) (ticket : Ticket) → TicketFits ticket
      → Spells 2 (waiting_object names status place ticket) (waiting_value names status place ticket)
  spells_waiting status bytes place ticket h =
      in_pieces (ticket_pieces ticket ⊕ member (codes ",\"status\":") (json_string status) ⊕ piece (codes "}"))
      (spells_object (session_named ticket.session h) (mode_named ticket.mode ∷ named (codes "status") refl (spells_text 1 status bytes) ∷ []) refl)

  spells_waitings : (status : List ℕ) → AreBytes status → (tickets : List Ticket) → All TicketFits tickets
      → Spells 3 (91 ∷ (elements (waiting_object names status) tickets ++ 93 ∷ [])) (array_value (waiting_value names status) tickets)
  spells_waitings status bytes tickets h =
      spells_array 2 (waiting_object names status) (waiting_value names status) tickets (λ k ticket l place. spells_waiting status bytes place (get_or tickets k ticket) (h k ticket l))

  -- ---- locks and waits

  spells_lock : (place : ℕ) (lock : LockView) → LockFits lock → Spells 4 (lock_object names place lock) (lock_value names place lock)
  spells_lock place lock h =
      let granted = elements (ticket_object names) lock.granted in
      let waiting = elements (waiting_object names (codes "PENDING")) lock.waiting in
      let settled = elements (waiting_object names (codes "SETTLED")) lock.settled in
      in_pieces (member (codes "{\"lock\":") (json_string (lock_name names place)) ⊕ array_member (codes ",\"granted\":[") granted (codes "]")
      ⊕ array_member (codes ",\"waiting\":[") waiting (codes "]") ⊕ array_member (codes ",\"settled\":[") settled (codes "]}"))
      (spells_object (named (codes "lock") refl (deeper 1 3 (omega arith) (spells_name place)))
      (named_array (codes "granted") refl granted (spells_tickets lock.granted h.granted)
      ∷ named_array (codes "waiting") refl waiting (spells_waitings (codes "PENDING") (bytes_by_test (codes "PENDING") refl) lock.waiting h.waiting)
      ∷ named_array (codes "settled") refl settled (spells_waitings (codes "SETTLED") (bytes_by_test (codes "SETTLED") refl) lock.settled h.settled) ∷ []) refl)

  pub spells_locks : (locks : List LockView) → All LockFits locks → Spells 5 (91 ∷ (elements (lock_object names) locks ++ 93 ∷ [])) (array_value (lock_value names) locks)
  spells_locks locks h = spells_array 4 (lock_object names) (lock_value names) locks (λ k lock l place. spells_lock place (get_or locks k lock) (h k lock l))

  spells_wait : (place : ℕ) (blocking : Blocking) → BlockingFits blocking → Spells 2 (wait_object names place blocking) (wait_value names place blocking)
  spells_wait place blocking h =
      in_pieces (ticket_pieces blocking.waiter ⊕ lock_piece blocking.lock ⊕ (member (codes ",\"blocking\":") (session_text names blocking.other.session)
      ⊕ member (codes ",\"reason\":") (json_string (reason_word blocking.reason)) ⊕ member (codes ",\"blocking_mode\":") (json_string (lock_mode_name blocking.other.mode)))
      ⊕ piece (codes "}"))
      (spells_object (session_named blocking.waiter.session h.waiter)
      (mode_named blocking.waiter.mode ∷ lock_named blocking.lock ∷ named (codes "blocking") refl (spells_session blocking.other.session h.other)
      ∷ named (codes "reason") refl (spells_text 1 (reason_word blocking.reason) (bytes_by_test (reason_word blocking.reason) (reason_test blocking.reason)))
      ∷ named (codes "blocking_mode") refl (spells_mode blocking.other.mode) ∷ []) refl)

  pub spells_waits : (blockings : List Blocking) → All BlockingFits blockings → Spells 3 (91 ∷ (elements (wait_object names) blockings ++ 93 ∷ [])) (array_value (wait_value names) blockings)
  spells_waits blockings h = spells_array 2 (wait_object names) (wait_value names) blockings (λ k blocking l place. spells_wait place (get_or blockings k blocking) (h k blocking l))

  -- ---- ways out

  spells_words : (act : Act) → Spells 1 (json_string (act_words act)) (text_value (act_words act))
  spells_words act = spells_text 1 (act_words act) (bytes_by_test (act_words act) (act_test act))

  abbrev act_pieces : Act → Pieces
  act_pieces act = member (codes "{\"act\":") (json_string (act_words act)) ⊕ member (codes ",\"session\":") (session_text names (target_of act))

  spells_act : (place : ℕ) (act : Act) → ActFits act → Spells 2 (act_object names place act) (act_value names place act)
  spells_act place act h =
      in_pieces (act_pieces act ⊕ piece (codes "}")) (spells_object (named (codes "act") refl (spells_words act)) (session_named (target_of act) h ∷ []) refl)

  spells_acts : (acts : List Act) → All ActFits acts → Spells 3 (91 ∷ (elements (act_object names) acts ++ 93 ∷ [])) (array_value (act_value names) acts)
  spells_acts acts h = spells_array 2 (act_object names) (act_value names) acts (λ k act l place. spells_act place (get_or acts k act) (h k act l))

  spells_way : (place : ℕ) (found : WayFound) → WayFits found → Spells 4 (way_object names place found) (way_value names place found)
  spells_way place found h =
      let held = elements (at_lock_object names) found.held.items in
      let at_once = elements (at_lock_object names) found.at_once.items in
      let in_turn = elements (at_lock_object names) found.in_turn.items in
      in_pieces (act_pieces found.way.act ⊕ tickets_member (codes ",\"holds\":") held
      ⊕ (tickets_member (codes ",\"at_once\":") at_once ⊕ tickets_member (codes ",\"in_turn\":") in_turn ⊕ piece (codes "}")))
      (spells_object (named (codes "act") refl (deeper 1 3 (omega arith) (spells_words found.way.act)))
      (named (codes "session") refl (deeper 1 3 (omega arith) (spells_session (target_of found.way.act) h.act))
      ∷ named_array (codes "holds") refl held (spells_at_locks found.held.items h.held)
      ∷ named_array (codes "at_once") refl at_once (spells_at_locks found.at_once.items h.at_once)
      ∷ named_array (codes "in_turn") refl in_turn (spells_at_locks found.in_turn.items h.in_turn) ∷ []) refl)

  pub spells_ways : (ways : List WayFound) → All WayFits ways → Spells 5 (91 ∷ (elements (way_object names) ways ++ 93 ∷ [])) (array_value (way_value names) ways)
  spells_ways ways h = spells_array 4 (way_object names) (way_value names) ways (λ k way l place. spells_way place (get_or ways k way) (h k way l))

  spells_blocked : (place : ℕ) (wait : BlockedWait) → BlockedFits wait → Spells 4 (blocked_object names place wait) (blocked_value names place wait)
  spells_blocked place wait h =
      let acts = elements (act_object names) wait.acts.items in
      in_pieces (ticket_pieces wait.at.ticket ⊕ lock_piece wait.at.lock ⊕ (member (codes ",\"blockers\":") (decimal wait.blockers)
      ⊕ piece (codes ",\"acts\":[") ⊕ piece acts ⊕ piece (codes "]}")))
      (spells_object (named (codes "session") refl (deeper 1 3 (omega arith) (spells_session wait.at.ticket.session h.at)))
      (named (codes "mode") refl (deeper 1 3 (omega arith) (spells_mode wait.at.ticket.mode))
      ∷ named (codes "lock") refl (deeper 1 3 (omega arith) (spells_name wait.at.lock))
      ∷ named (codes "blockers") refl (spells_number 3 wait.blockers h.blockers)
      ∷ named_array (codes "acts") refl acts (spells_acts wait.acts.items h.acts) ∷ []) refl)

  pub spells_blockeds : (waits : List BlockedWait) → All BlockedFits waits → Spells 5 (91 ∷ (elements (blocked_object names) waits ++ 93 ∷ [])) (array_value (blocked_value names) waits)
  spells_blockeds waits h = spells_array 4 (blocked_object names) (blocked_value names) waits (λ k wait l place. spells_blocked place (get_or waits k wait) (h k wait l))
