-- How runs end, by the results of what they do.
use Rattle.std.proofs.Common.{◌≡◌, ◌≢◌, ◌⊎◌, ℕ, Bool, true, false, List, Option, None, Some, IfSome, Result, Ok, Err, IsErr, IsTrue, drop, inl, inr, refl, subst, sym, true≢false}
use Rattle.std.specs.Prelude.{⊤}
use Rattle.std.specs.List.{list_any}
use Rattle.clap.specs.declared.error.kind.ErrorKind.{ErrorKind}
use Rattle.clap.specs.declared.error.kind.ErrorKind.TheVariants as kinds
use Rattle.std.specs.Io.KnownBytes.{Keeps}
use Rattle.mdl_lines.specs.Words.{MayEnd}
use Rattle.mdl_lines.specs.declared.fault.Fault.{Fault}
use Rattle.mdl_lines.specs.declared.fault.Fault.TheVariants.{Refused, Memory, Read, Write}
use Rattle.mdl_lines.specs.declared.fault.LineError.{LineError}
use Rattle.mdl_lock_rows.specs.declared.row_error.LockRowsError.{LockRowsError}
use Rattle.mdl_lock_rows.specs.declared.row_error.LockRowsError.TheVariants as refusal
use Rattle.mdl_program.specs.Runs.{end_status}
use Rattle.mdl_view_program.specs.Programs.{LeavesAnswer}
use Rattle.mdl_view_program.specs.declared.question.Question.{Question}
use Rattle.mdl_view_program.specs.declared.rows.Explained.TheVariants.{Fully, Partly}
use Rattle.mdl_view_program.specs.RowAnswers.{AnswersBytes, IsRowsFault, LeavesRowsAnswer}
use Rattle.mdl_view_program.specs.declared.rows.RowsFault.{RowsFault}
use Rattle.mdl_view_program.specs.declared.rows.RowsFault.TheVariants.{Rows, Fails}
use Rattle.mdlview.specs.CommandLine.{Asks}
use Rattle.mdlview.specs.Runs.{EndsByWords, EndsForRows, EndsWith, is_help_word, rows_status}
use Rattle.mdlview.specs.declared.asked.Asked.{Asked}

-- rows that are answered, and whose waits are all explained
pub rows_explained : (question : Question) (bytes : List ℕ) (old new : Option (List ℕ)) → LeavesRowsAnswer (AnswersBytes question bytes) (Ok Fully) old new
    → EndsForRows question bytes 0 old new
rows_explained question bytes old new left = inr (inl (refl, left.0, left.1, left.2))

-- those that are answered, but some wait isn't explained
pub rows_unexplained : (question : Question) (bytes : List ℕ) (old new : Option (List ℕ)) → LeavesRowsAnswer (AnswersBytes question bytes) (Ok Partly) old new
    → EndsForRows question bytes 4 old new
rows_unexplained question bytes old new left = inl (refl, left.0, left.1, left.2)

-- and those that aren't answered
pub rows_refused : (question : Question) (bytes : List ℕ) (fault : RowsFault) (status : ℕ) (old new : Option (List ℕ)) → IsRowsFault bytes fault
    → LeavesRowsAnswer (AnswersBytes question bytes) (Err fault) old new → status ≡ rows_status fault → EndsForRows question bytes status old new
rows_refused question bytes (Fails Memory) status old new is left says = inr (inr (inr (says, inl left)))
rows_refused question bytes (Fails Read) status old new is left says = inr (inr (inr (says, inl left)))
rows_refused question bytes (Fails Write) status old new is left says = inr (inr (inr (says, inr left)))
rows_refused question bytes (Fails (Refused line error)) status old new is left says = absurd is
rows_refused question bytes (Rows refusal.OutOfMemory) status old new is left says = inr (inr (inr (says, inl left)))
rows_refused question bytes (Rows other) status old new is left says = inr (inr (inl (says, (other, (λ e. absurd (cc)), is), left)))

-- the same of rows that may not be known
pub rows_refused_read : (question : Question) (known : Option (List ℕ)) (fault : RowsFault) (status : ℕ) (old new : Option (List ℕ))
    → IfSome known (λ bytes. IsRowsFault bytes fault) → IfSome known (λ bytes. LeavesRowsAnswer (AnswersBytes question bytes) (Err fault) old new)
    → status ≡ rows_status fault → IfSome known (λ bytes. EndsForRows question bytes status old new)
rows_refused_read question None fault status old new is left says = is
rows_refused_read question (Some bytes) fault status old new is left says = rows_refused question bytes fault status old new is left says

-- how a script that says this ends
pub script_ended : {A : Type 0} (said : Result (List A) (ℕ × LineError)) (Answers : List ℕ → Type 0) (end : Result (Unit {0}) Fault) (status : ℕ) (old new : Option (List ℕ))
    → MayEnd said end → LeavesAnswer Answers end old new → status ≡ end_status end → EndsWith Answers (IsErr said) status old new
script_ended said Answers (Ok done) status old new may left says = inl (says, left.0, left.1, left.2)
script_ended (Err why) Answers (Err (Refused line error)) status old new may left says = inr (inl (says, refl, left))
script_ended (Ok lines) Answers (Err (Refused line error)) status old new may left says = absurd (cc)
script_ended said Answers (Err Memory) status old new may left says = inr (inr (says, inl left))
script_ended said Answers (Err Read) status old new may left says = inr (inr (says, inl left))
script_ended said Answers (Err Write) status old new may left says = inr (inr (says, inr left))

-- ---- words that are refused

memory_or_not : (kind : ErrorKind) → (kind ≡ kinds.OutOfMemory) ⊎ (kind ≢ kinds.OutOfMemory)
memory_or_not kinds.OutOfMemory = inl refl
memory_or_not other = inr (λ e. absurd (cc))

true_or_not : (b : Bool) → IsTrue b ⊎ (IsTrue b → ⊥)
true_or_not true = inl refl
true_or_not false = inr (λ e. true≢false (sym e))

-- words that ask for something are refused only for want of memory, so how their refusal ends says what they ask for
pub refused_ends : (words : List (List ℕ)) (kind : ErrorKind) (is_help : Bool) (status : ℕ) (input old new : Option (List ℕ))
    → ((asked : Asked) → Asks (drop 1 words) asked → kind ≡ kinds.OutOfMemory) → is_help ≡ list_any is_help_word words
    → (kind ≡ kinds.OutOfMemory → (status ≡ 3) × Keeps old new)
    → (IsTrue is_help → kind ≢ kinds.OutOfMemory → ((status ≡ 2) × Keeps old new) ⊎ EndsWith (λ text. ⊤) ⊥ status old new)
    → ((IsTrue is_help → ⊥) → kind ≢ kinds.OutOfMemory → (status ≡ 2) × Keeps old new)
    → EndsByWords words status input old new
refused_ends words kind is_help status input old new taken calls memory help refused = elim (memory_or_not kind) [
  | inl lacks ↦ inr (inr (inl (memory lacks)))
  | inr enough ↦ elim (true_or_not is_help) [
    | inl called ↦ elim (help called enough) [
      | inl usage ↦ inr (inl (usage.0, (λ asked asks. enough (taken asked asks)), usage.1))
      | inr ends ↦ inr (inr (inr ((λ asked asks. enough (taken asked asks)), subst IsTrue calls called, ends)))
    ]
    | inr uncalled ↦
        let usage = refused uncalled enough in
        inr (inl (usage.0, (λ asked asks. enough (taken asked asks)), usage.1))
  ]
]
