-- The answers to questions about the locks of a server's rows.
use Rattle.std.specs.Prelude.{◌≡◌, ℕ, Bool, List, [], ◌++◌, Option, Result, Ok, Err, if◌then◌else◌, length, map}
use Rattle.std.specs.Io.KnownBytes.{Appends, Keeps}
use Rattle.mdl_lines.specs.declared.fault.Fault.{Fault}
use Rattle.mdl_lines.specs.declared.fault.Fault.TheVariants.{Refused, Write}
use Rattle.mdl_lines.specs.Words.{AppendsPart}
use Rattle.mdl_lock_rows.specs.declared.row_class.LeftOut.{LeftOut}
use Rattle.mdl_lock_rows.specs.Keys.{KeyNames}
use Rattle.mdl_lock_rows.specs.Owners.{OwnerView}
use Rattle.mdl_lock_rows.specs.Reading.{IsRefusalOf, lines_read}
use Rattle.mdl_lock_rows.specs.Tables.{keys_read, left_out_read, locks_read, owners_read}
use Rattle.mdl_view.specs.declared.upgrade.Upgrade.{Upgrade}
use Rattle.mdl_view.specs.Blockings.{unexplained_waits}
use Rattle.mdl_view.specs.Locks.{LockView}
use Rattle.mdl_view.specs.Upgrades.{by_now, upgrades_in}
use Rattle.mdl_view_text.specs.LeftOuts.{are_all_explained}
use Rattle.mdl_view_text.specs.Names.{NamesView, key_text}
use Rattle.mdl_view_text.specs.Upgraded.{upgrades_comment, upgrades_text}
use Rattle.mdl_view_program.specs.declared.question.Form.{Form}
use Rattle.mdl_view_program.specs.declared.question.Form.TheVariants.{Text, Json}
use Rattle.mdl_view_program.specs.declared.question.Question.{Question}
use Rattle.mdl_view_program.specs.declared.question.Question.TheVariants.{Why, Locks, Waits, Graph}
use Rattle.mdl_view_program.specs.declared.rows.Explained.{Explained}
use Rattle.mdl_view_program.specs.declared.rows.Explained.TheVariants.{Fully, Partly}
use Rattle.mdl_view_program.specs.declared.rows.RowsFault.{RowsFault}
use Rattle.mdl_view_program.specs.declared.rows.RowsFault.TheVariants.{Rows, Fails}
use Rattle.mdl_view_program.specs.Answers.{IsAnswer}

-- the names of locks and sessions: a lock has that of its key, and of a session the rows say this
abbrev pub key_name : KeyNames → List ℕ
key_name key = key_text key.object_type key.schema key.name

abbrev pub names_of_rows : List OwnerView → List KeyNames → NamesView
names_of_rows owners keys = record { locks = map key_name keys; owners = owners }

-- whether all waits are explained: no wait lacks a reason, and no row that waits is left out
abbrev pub explained_if : Bool → Explained
explained_if all = if all then Fully else Partly

abbrev pub explained_by : List LockView → List LeftOut → Explained
explained_by locks left_out = explained_if (are_all_explained (unexplained_waits locks) left_out)

-- what is said of the locks that are taken for upgraded, under an answer in this form. An object of JSON has nothing under it
abbrev pub note_in : Form → NamesView → List Upgrade → List ℕ
note_in Text names upgrades = upgrades_text names upgrades
note_in Json names upgrades = []

abbrev pub upgrades_note : Question → NamesView → List Upgrade → List ℕ
upgrades_note (Why form) names upgrades = note_in form names upgrades
upgrades_note (Locks form) names upgrades = note_in form names upgrades
upgrades_note (Waits form) names upgrades = note_in form names upgrades
upgrades_note Graph names upgrades = upgrades_comment (length upgrades)

-- the text answers the question about locks with these tickets in their rows, as they are held by now, and says which are taken for upgraded
abbrev pub IsRowsAnswer : Question → NamesView → List LockView → List LeftOut → List ℕ → Type 0
IsRowsAnswer question names locks left_out text =
    (answer : List ℕ) × IsAnswer question names locks (map by_now locks) left_out answer × (text ≡ answer ++ upgrades_note question names (upgrades_in 0 locks))

-- the text answers the question about the locks of the rows in these bytes, with the rows that are left out; and whether all waits are explained
-- is this. Refused rows have no answer
pub record AnswersBytes (question : Question) (bytes : List ℕ) (explained : Explained) (text : List ℕ) : Type 0 where
  pub locks : List LockView
  pub keys : List KeyNames
  pub owners : List OwnerView
  pub left_out : List LeftOut
  pub locks_there : locks_read bytes ≡ Ok locks
  pub keys_there : keys_read bytes ≡ Ok keys
  pub owners_there : owners_read bytes ≡ Ok owners
  pub left_out_there : left_out_read bytes ≡ Ok left_out
  pub answered : IsRowsAnswer question (names_of_rows owners keys) locks left_out text
  pub told : explained ≡ explained_by (map by_now locks) left_out

-- the fault is not a refused line, but out of memory or a failed device
abbrev pub RefusesNoLine : Fault → Type 0
RefusesNoLine (Refused number error) = ⊥
RefusesNoLine fault = Unit {0}

-- the faults with which these bytes may be refused
abbrev pub IsRowsFault : List ℕ → RowsFault → Type 0
IsRowsFault bytes (Rows refusal) = IsRefusalOf (lines_read bytes) refusal
IsRowsFault bytes (Fails fault) = RefusesNoLine fault

-- what a run with this result has written: an answer, or if writing failed a part of one from its beginning, but not all, and otherwise nothing
abbrev pub LeavesRowsAnswer : (Explained → List ℕ → Type 0) → Result Explained RowsFault → Option (List ℕ) → Option (List ℕ) → Type 0
LeavesRowsAnswer Answers (Ok explained) old new = (text : List ℕ) × Answers explained text × Appends old new text
LeavesRowsAnswer Answers (Err (Fails Write)) old new = (explained : Explained) × (text : List ℕ) × Answers explained text × AppendsPart old new text
LeavesRowsAnswer Answers (Err fault) old new = Keeps old new
