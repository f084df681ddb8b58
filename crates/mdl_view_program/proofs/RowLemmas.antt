-- Answers about rows, and what is left written of them.
use Rattle.std.proofs.Common.{◌≡◌, ◌∙◌, ◌⊎◌, ℕ, List, ◌++◌, map, ap, Option, None, Some, IfSome, Result, Ok, Err, IfErr, IfOk, OnOk, inl, inr, subst, sym}
use Rattle.std.specs.Io.KnownBytes.{Appends}
use Rattle.mdl_lines.specs.declared.fault.Fault.{Fault}
use Rattle.mdl_lines.specs.declared.fault.Fault.TheVariants.{Memory, Read, Write}
use Rattle.mdl_lines.specs.Words.{AppendsPart}
use Rattle.mdl_lock_rows.specs.declared.row_class.LeftOut.{LeftOut}
use Rattle.mdl_lock_rows.specs.declared.row_error.LockRowsError.{LockRowsError}
use Rattle.mdl_lock_rows.specs.Keys.{KeyNames}
use Rattle.mdl_lock_rows.specs.Owners.{OwnerView}
use Rattle.mdl_lock_rows.specs.Tables.{keys_read, left_out_read, locks_read, owners_read}
use Rattle.mdl_view.specs.Locks.{LockView}
use Rattle.mdl_view.specs.Upgrades.{by_now, upgrades_in}
use Rattle.mdl_view_text.specs.Names.{NamesView}
use Rattle.mdl_view_program.specs.declared.question.Question.{Question}
use Rattle.mdl_view_program.specs.declared.rows.Explained.{Explained}
use Rattle.mdl_view_program.specs.declared.rows.RowsFault.{RowsFault}
use Rattle.mdl_view_program.specs.declared.rows.RowsFault.TheVariants.{Fails, Rows}
use Rattle.mdl_view_program.specs.Answers.{IsAnswer}
use Rattle.mdl_view_program.specs.RowAnswers.{AnswersBytes, IsRowsAnswer, IsRowsFault, LeavesRowsAnswer, RefusesNoLine, explained_by, names_of_rows, upgrades_note}

-- what is found of rows is answered about, as the locks are held by now
pub rows_answered : (question : Question) (bytes : List ℕ) (explained : Explained) (answer text : List ℕ) (names : NamesView) (locks held : List LockView)
    (keys : List KeyNames) (owners : List OwnerView) (left_out : List LeftOut)
    → locks_read bytes ≡ Ok locks → keys_read bytes ≡ Ok keys → owners_read bytes ≡ Ok owners → left_out_read bytes ≡ Ok left_out
    → names ≡ names_of_rows owners keys → held ≡ map by_now locks → IsAnswer question names locks held left_out answer
    → text ≡ answer ++ upgrades_note question names (upgrades_in 0 locks) → explained ≡ explained_by held left_out
    → AnswersBytes question bytes explained text
rows_answered question bytes explained answer text names locks held keys owners left_out ls ks os lo called now answered noted told = record {
  locks = locks;
  keys = keys;
  owners = owners;
  left_out = left_out;
  locks_there = ls;
  keys_there = ks;
  owners_there = os;
  left_out_there = lo;
  answered = subst (λ (n : NamesView). IsRowsAnswer question n locks left_out text) called
      (answer, subst (λ (h : List LockView). IsAnswer question names locks h left_out answer) now answered, noted);
  told = told ∙ ap (λ (h : List LockView). explained_by h left_out) now;
}

-- a read that fails refuses no line
pub read_refuses_none : (fault : Fault) → (fault ≡ Memory) ⊎ (fault ≡ Read) → RefusesNoLine fault
read_refuses_none fault (inl is) = subst RefusesNoLine (sym is) tt
read_refuses_none fault (inr is) = subst RefusesNoLine (sym is) tt

-- nor does a write that fails
pub write_refuses_none : (known : Option (List ℕ)) (result : Result Explained RowsFault) (old new : Option (List ℕ)) (text : List ℕ)
    → IfErr result (λ fault. (fault ≡ Fails Write) × AppendsPart old new text) → IfSome known (λ bytes. IfErr result (IsRowsFault bytes))
write_refuses_none None result old new text part = tt
write_refuses_none (Some bytes) (Ok done) old new text part = tt
write_refuses_none (Some bytes) (Err fault) old new text part = subst (IsRowsFault bytes) (sym part.0) tt

-- rows that are refused are those that were read
pub refused_read : (known : Option (List ℕ)) (read lent : List ℕ) (refusal : LockRowsError) → IfSome known (λ bytes. read ≡ bytes) → lent ≡ read
    → IsRowsFault lent (Rows refusal) → IfSome known (λ bytes. IsRowsFault bytes (Rows refusal))
refused_read None read lent refusal is same refused = is
refused_read (Some bytes) read lent refusal is same refused = subst (λ (bs : List ℕ). IsRowsFault bs (Rows refusal)) (same ∙ is) refused

-- an answer was written, or a part of it
pub leaves_rows : (Answers : Explained → List ℕ → Type 0) (result : Result Explained RowsFault) (explained : Explained) (text : List ℕ)
    (old new : Option (List ℕ)) → Answers explained text → OnOk result (Appends old new text) → IfOk result (λ told. told ≡ explained)
    → IfErr result (λ fault. (fault ≡ Fails Write) × AppendsPart old new text) → LeavesRowsAnswer Answers result old new
leaves_rows Answers (Ok told) explained text old new answered written same part =
    (text, subst (λ (e : Explained). Answers e text) (sym same) answered, written)
leaves_rows Answers (Err fault) explained text old new answered written same part =
    subst (λ (f : RowsFault). LeavesRowsAnswer Answers (Err f) old new) (sym part.0) (explained, text, answered, part.1)

-- the same of bytes that were read
pub leaves_rows_read : (question : Question) (known : Option (List ℕ)) (read lent : List ℕ) (result : Result Explained RowsFault)
    (explained : Explained) (text : List ℕ) (old new : Option (List ℕ)) → IfSome known (λ bytes. read ≡ bytes) → lent ≡ read
    → AnswersBytes question lent explained text → OnOk result (Appends old new text) → IfOk result (λ told. told ≡ explained)
    → IfErr result (λ fault. (fault ≡ Fails Write) × AppendsPart old new text)
    → IfSome known (λ bytes. LeavesRowsAnswer (AnswersBytes question bytes) result old new)
leaves_rows_read question None read lent result explained text old new is same answered put told part = is
leaves_rows_read question (Some bytes) read lent result explained text old new is same answered put told part =
    leaves_rows (AnswersBytes question bytes) result explained text old new
    (subst (λ (bs : List ℕ). AnswersBytes question bs explained text) (same ∙ is) answered) put told part
