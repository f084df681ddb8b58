-- What a row says, step by step.
use Rattle.std.proofs.Common.{◌≡◌, Ok, Err, ap}
use Rattle.mdl_client_table.specs.Words.{RowText}
use Rattle.mdl_lock_rows.specs.declared.columns.Columns.{Columns}
use Rattle.mdl_lock_rows.specs.declared.lines.Facts.{Facts}
use Rattle.mdl_lock_rows.specs.declared.row.Line.TheVariants.{LeftOut}
use Rattle.mdl_lock_rows.specs.declared.row.Request.{Request}
use Rattle.mdl_lock_rows.specs.declared.row.Status.{Status}
use Rattle.mdl_lock_rows.specs.declared.row_error.RowError.{RowError}
use Rattle.mdl_lock_rows.specs.Classes.{class_of}
use Rattle.mdl_lock_rows.specs.Columns.{and_then, field_at}
use Rattle.mdl_lock_rows.specs.Lines.{facts_of, left_out, row_of, row_with}
use Rattle.mdl_lock_rows.specs.ServerNames.{is_waiting, status_of}

module _ (columns : Columns) (row : RowText) (request : Request) where
  pub row-whole : (facts : Facts) → facts_of columns row ≡ Ok facts → row_of columns row request ≡ Ok (row_with columns row request facts)
  row-whole facts e = ap (λ said. and_then said (λ facts. Ok (row_with columns row request facts))) e

  pub row-refused : (error : RowError) → facts_of columns row ≡ Err error → row_of columns row request ≡ Err error
  row-refused error e = ap (λ said. and_then said (λ facts. Ok (row_with columns row request facts))) e

module _ (columns : Columns) (row : RowText) where
  pub left-whole : (status : Status) → status_of (field_at row columns.lock_status) ≡ Ok status
      → left_out columns row ≡ Ok (LeftOut (class_of (field_at row columns.object_type) (field_at row columns.lock_type)) (is_waiting status))
  left-whole status e = ap (λ said. and_then said (λ status. Ok (LeftOut (class_of (field_at row columns.object_type) (field_at row columns.lock_type)) (is_waiting status)))) e

  pub left-refused : (error : RowError) → status_of (field_at row columns.lock_status) ≡ Err error → left_out columns row ≡ Err error
  left-refused error e = ap (λ said. and_then said (λ status. Ok (LeftOut (class_of (field_at row columns.object_type) (field_at row columns.lock_type)) (is_waiting status)))) e
