use Rattle.std.proofs.Common.{◌≡◌, Ok, Err, [], ◌∷◌, ◌++◌, ◌+◌, drop, sym, ap, ◌∙◌}
use Rattle.mdl_lock_rows.specs.declared.row_error.LockRowsError.TheVariants.{Refused}
use Rattle.mdl_lock_rows.specs.Lines.{row_says}
use Rattle.mdl_lock_rows.specs.Reading.{other_in, others_in, row_in, rows_in, rows_say}
use Rattle.mdl_lock_rows.proofs.ListLemmas.{filter_map-append}
use Rattle.mdl_lock_rows.proofs.ReadingLemmas.{joined, joined-said, left-said, ok_said, refused_said}
use Rattle.mdl_lock_rows.proofs.read_rows.read_all.Goals as goal

pub loop-row-preserved : goal.loop-row-preserved
loop-row-preserved c =
    let so = c.loop-row.invariant in
    let columns = c.args.columns.now in
    let rows = c.args.rows.now in
    let row = c.row-item.result in
    let line = c.in-Ok.line in
    let says : row_says columns row ≡ Ok line = ok_said (row_says columns row) c.row_says.result c.row_says.ensures line c.in-Ok.is in
    let left = left-said columns rows c.loop-row.row-index row c.loop-row-test.true c.row-item.is (Ok line) says in
    record {
      so_far = so.so_far ++ line ∷ [];
      read = so.read ∙ ap (joined so.so_far) left ∙ joined-said so.so_far row.line line (rows_say columns (drop (c.loop-row.row-index + 1) rows));
      rows =
          filter_map-append row_in so.so_far (line ∷ []) ∙ ap (λ before. before ++ rows_in (line ∷ [])) so.rows ∙ sym c.in_ok-keep-in-Ok.ensures.0;
      others =
          filter_map-append other_in so.so_far (line ∷ []) ∙ ap (λ before. before ++ others_in (line ∷ [])) so.others ∙ sym c.in_ok-keep-in-Ok.ensures.1;
    }

pub returns-in-Err-Refused-clause-refused : goal.returns-in-Err-Refused-clause-refused
returns-in-Err-Refused-clause-refused c =
    let so = c.loop-row.invariant in
    let columns = c.args.columns.now in
    let row = c.row-item.result in
    let says : row_says columns row ≡ Err c.in-Err-Refused.error =
    refused_said (row_says columns row) c.row_says.result c.row_says.ensures c.in-Err-Refused.error (c.in-Err-Refused.is ∙ ap Err c.in-Err-Refused.field-0-is) in
    so.read ∙ ap (joined so.so_far) (left-said columns c.args.rows.now c.loop-row.row-index row c.loop-row-test.true c.row-item.is (Err c.in-Err-Refused.error) says)
    ∙ ap (λ number. Err (Refused number c.in-Err-Refused.error)) (sym c.line.ensures)
    ∙ ap (λ error. Err (Refused c.line.result error)) (sym c.in-Err-Refused.error-is)
