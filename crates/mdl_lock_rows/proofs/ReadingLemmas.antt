-- Reading rows one by one.
use Rattle.std.proofs.Common.{◌≡◌, ◌∙◌, ℕ, ◌+◌, ◌<◌, List, [], ◌∷◌, ◌++◌, length, get_or, drop, Result, Ok, Err, refl, sym, ap, append_assoc}
use Rattle.mdl_client_table.specs.Words.{RowText}
use Rattle.mdl_lock_rows.specs.declared.columns.Columns.{Columns}
use Rattle.mdl_lock_rows.specs.declared.no_row.NoRow.{NoRow}
use Rattle.mdl_lock_rows.specs.declared.no_row.NoRow.TheVariants.{Refused, Memory}
use Rattle.mdl_lock_rows.specs.declared.row.Line.{Line}
use Rattle.mdl_lock_rows.specs.declared.row_error.LockRowsError.{LockRowsError}
use Rattle.mdl_lock_rows.specs.declared.row_error.RowError.{RowError}
use Rattle.mdl_lock_rows.specs.Lines.{row_says}
use Rattle.mdl_lock_rows.specs.Reading.{ReadsAs, rows_say, said_before}
use Rattle.mdl_lock_rows.proofs.ListLemmas.{drop-here}

-- what was said, before what the rows behind it say
abbrev pub joined : List Line → Result (List Line) LockRowsError → Result (List Line) LockRowsError
joined before (Ok more) = Ok (before ++ more)
joined before (Err refusal) = Err refusal

pub joined-nil : (rest : Result (List Line) LockRowsError) → rest ≡ joined [] rest
joined-nil (Ok more) = refl
joined-nil (Err refusal) = refl

pub joined-said : (before : List Line) (number : ℕ) (line : Line) (rest : Result (List Line) LockRowsError)
    → joined before (said_before number (Ok line) rest) ≡ joined (before ++ line ∷ []) rest
joined-said before number line (Ok more) = ap Ok (sym (append_assoc before (line ∷ []) more))
joined-said before number line (Err refusal) = refl

-- what a row says, if it was read
pub ok_said : (said : Result Line RowError) (read : Result Line NoRow) → ReadsAs said read → (line : Line) → read ≡ Ok line → said ≡ Ok line
ok_said said (Ok one) reads line e = let same : one ≡ line = cc in reads ∙ ap Ok same
ok_said said (Err none) reads line e = absurd (cc)

pub refused_said : (said : Result Line RowError) (read : Result Line NoRow) → ReadsAs said read → (error : RowError) → read ≡ Err (Refused error) → said ≡ Err error
refused_said said (Ok one) reads error e = absurd (cc)
refused_said said (Err (Refused other)) reads error e = let same : other ≡ error = cc in reads ∙ ap Err same
refused_said said (Err Memory) reads error e = absurd (cc)

-- the rows from the i-th on, where that row says this
pub left-said : (columns : Columns) (rows : List RowText) (i : ℕ) (row : RowText) → i < length rows → row ≡ get_or rows i row → (said : Result Line RowError) → row_says columns row ≡ said
    → rows_say columns (drop i rows) ≡ said_before row.line said (rows_say columns (drop (i + 1) rows))
left-said columns rows i row inside this said e =
    ap (rows_say columns) (drop-here rows i row inside this) ∙ ap (λ s. said_before row.line s (rows_say columns (drop (i + 1) rows))) e
