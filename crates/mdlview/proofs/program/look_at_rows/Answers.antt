-- Rows that are refused, or whose answer can't be written.
use Rattle.mdlview.proofs.RunEnds.{rows_refused_read}
use Rattle.mdlview.proofs.program.look_at_rows.Goals as goal

pub returns-in-Err-clause-ends : goal.returns-in-Err-clause-ends
returns-in-Err-clause-ends g c =
    rows_refused_read c.args.question (g.R.Read.remaining c.args.input.now) c.in-Err.fault c.report_rows.result (g.W.Write.contents c.args.output.now)
    (g.W.Write.contents c.view_rows.new.output) c.in-Err.ensures.refused c.in-Err.ensures.written c.report_rows.ensures
