-- Each answer is a text of JSON.
use Rattle.std.proofs.Common.{ℕ, ◌-◌, length, List, [], ◌∷◌, All, refl, arith, decimal, codes}
use Rattle.mdl_view_text_laws.specs.JsonTexts.{IsJson}
use Rattle.mdl_lock_rows.specs.declared.row_class.LeftOut.{LeftOut}
use Rattle.mdl_view.specs.Locks.{LockView}
use Rattle.mdl_view.specs.declared.at_lock.AtLock.{AtLock}
use Rattle.mdl_view.specs.declared.blocking.Blocking.{Blocking}
use Rattle.mdl_view_text.specs.Names.{NamesView}
use Rattle.mdl_view_text.specs.Why.{all_waits}
use Rattle.mdl_view_text.specs.declared.findings.Findings.{Findings}
use Rattle.mdl_view_text.specs.Json.{locks_json, waits_json, why_json, lock_object, wait_object, way_object, blocked_object, at_lock_object, left_out_object, elements}
use Rattle.mdl_view_text_laws.specs.JsonLaws.{LocksAreJson, WaitsAreJson, WaysAreJson}
use Rattle.mdl_view_text_laws.specs.Sizes.{NamesFit, LockFits, AtLockFits, BlockingFits, LeftOutFits, FindingsFit, Fits64}
use Rattle.mdl_view_text_laws.specs.AnswerValues.{locks_value, waits_value, why_value}
use Rattle.mdl_view_text_laws.proofs.Rows.{member, array_member, tickets_member, spells_locks, spells_waits, spells_ways, spells_blockeds, spells_at_locks, spells_left_outs}
use Rattle.mdl_view_text_laws.proofs.Spelling.{deeper, spells_number, spells_one}
use Rattle.mdl_view_text_laws.proofs.Objects.{Member, named, named_array}
use Rattle.mdl_view_text_laws.proofs.Pieces.{Pieces, piece, ◌⊕◌, pieces_are_json}

abbrev version_named : Member 5
version_named = named (codes "version") refl (spells_one 5)

module _ (names : NamesView) (fit : NamesFit names) where
  -- the end of an answer
  abbrev end_pieces : List AtLock → List LeftOut → Pieces
  end_pieces unexplained left_out =
      tickets_member (codes ",\"unexplained\":") (elements (at_lock_object names) unexplained)
      ⊕ (piece (codes ",\"left_out\":[") ⊕ piece (elements left_out_object left_out) ⊕ piece (codes "]}\n"))

  abbrev end_named : (unexplained : List AtLock) (left_out : List LeftOut) → All AtLockFits unexplained → All LeftOutFits left_out → List (Member 5)
  end_named unexplained left_out u l =
      named_array (codes "unexplained") refl (elements (at_lock_object names) unexplained) (deeper 3 5 (omega arith) (spells_at_locks names fit unexplained u))
      ∷ named_array (codes "left_out") refl (elements left_out_object left_out) (deeper 2 5 (omega arith) (spells_left_outs left_out l)) ∷ []

  pub locks_json_is_read : (locks : List LockView) (unexplained : List AtLock) (left_out : List LeftOut) → All LockFits locks → All AtLockFits unexplained → All LeftOutFits left_out
      → IsJson (locks_json names locks unexplained left_out) (locks_value names locks unexplained left_out)
  locks_json_is_read locks unexplained left_out h u l =
      let rows = elements (lock_object names) locks in
      pieces_are_json (array_member (codes "{\"version\":1,\"locks\":[") rows (codes "]") ⊕ end_pieces unexplained left_out)
      version_named (named_array (codes "locks") refl rows (spells_locks names fit locks h) ∷ end_named unexplained left_out u l) (omega arith) refl refl

  pub waits_json_is_read : (blockings : List Blocking) (unexplained : List AtLock) (left_out : List LeftOut) → All BlockingFits blockings → All AtLockFits unexplained → All LeftOutFits left_out
      → IsJson (waits_json names blockings unexplained left_out) (waits_value names blockings unexplained left_out)
  waits_json_is_read blockings unexplained left_out h u l =
      let rows = elements (wait_object names) blockings in
      pieces_are_json (array_member (codes "{\"version\":1,\"waits\":[") rows (codes "]") ⊕ end_pieces unexplained left_out)
      version_named (named_array (codes "waits") refl rows (deeper 3 5 (omega arith) (spells_waits names fit blockings h)) ∷ end_named unexplained left_out u l) (omega arith) refl refl

  -- an array, and behind it a number
  abbrev counted_pieces : List ℕ → List ℕ → List ℕ → ℕ → Pieces
  counted_pieces head rows key count = piece head ⊕ piece rows ⊕ member key (decimal count)

  pub why_json_is_read : (found : Findings) (left_out : List LeftOut) → FindingsFit found → Fits64 (all_waits found left_out) → All LeftOutFits left_out
      → IsJson (why_json names found left_out) (why_value names found left_out)
  why_json_is_read found left_out h n l =
      let ways = elements (way_object names) found.ways.items in
      let joint = elements (blocked_object names) found.joint.items in
      let stuck = elements (blocked_object names) found.stuck.items in
      let more = found.stuck_count - length found.stuck.items in
      pieces_are_json (member (codes "{\"version\":1,\"waits\":") (decimal (all_waits found left_out))
      ⊕ counted_pieces (codes ",\"ways\":[") ways (codes "],\"more_ways\":") found.more_ways
      ⊕ counted_pieces (codes ",\"joint\":[") joint (codes "],\"more_joint\":") found.more_joint
      ⊕ counted_pieces (codes ",\"deadlocked\":[") stuck (codes "],\"more_deadlocked\":") more
      ⊕ end_pieces found.unexplained.items left_out)
      version_named
      (named (codes "waits") refl (spells_number 5 (all_waits found left_out) n)
      ∷ named_array (codes "ways") refl ways (spells_ways names fit found.ways.items h.ways) ∷ named (codes "more_ways") refl (spells_number 5 found.more_ways h.more_ways)
      ∷ named_array (codes "joint") refl joint (spells_blockeds names fit found.joint.items h.joint) ∷ named (codes "more_joint") refl (spells_number 5 found.more_joint h.more_joint)
      ∷ named_array (codes "deadlocked") refl stuck (spells_blockeds names fit found.stuck.items h.stuck)
      ∷ named (codes "more_deadlocked") refl (spells_number 5 more (omega (arith, h.stuck_count)))
      ∷ end_named found.unexplained.items left_out h.unexplained l)
      (omega arith) refl refl

pub locks_are_json : LocksAreJson
locks_are_json names locks unexplained left_out fit h u l = locks_json_is_read names fit locks unexplained left_out h u l

pub waits_are_json : WaitsAreJson
waits_are_json names blockings unexplained left_out fit h u l = waits_json_is_read names fit blockings unexplained left_out h u l

pub ways_are_json : WaysAreJson
ways_are_json names found left_out fit h n l = why_json_is_read names fit found left_out h n l
