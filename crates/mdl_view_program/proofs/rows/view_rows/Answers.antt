-- What is written is the answer to the bytes that were read.
use Rattle.mdl_view_program.proofs.RowLemmas.{leaves_rows_read, refused_read, write_refuses_none}
use Rattle.mdl_view_program.proofs.rows.view_rows.Goals as goal

pub returns-clause-written : goal.returns-clause-written
returns-clause-written g c =
    leaves_rows_read c.args.question (g.R.Read.remaining c.args.input.now) c.in-Ok.text.items c.deref.result.now c.write_answer.result
    c.in-Ok-answer_of_rows.answer.explained c.in-Ok-answer_of_rows.answer.text.items (g.W.Write.contents c.args.output.now) (g.W.Write.contents c.write_answer.new.output)
    c.in-Ok.ensures.all c.deref.ensures.value c.in-Ok-answer_of_rows.ensures.answer c.write_answer.ensures.all c.write_answer.ensures.same c.write_answer.ensures.part

pub returns-clause-refused : goal.returns-clause-refused
returns-clause-refused g c =
    write_refuses_none (g.R.Read.remaining c.args.input.now) c.write_answer.result (g.W.Write.contents c.args.output.now)
    (g.W.Write.contents c.write_answer.new.output) c.in-Ok-answer_of_rows.answer.text.items c.write_answer.ensures.part

pub returns-in-Err-answer_of_rows-clause-refused : goal.returns-in-Err-answer_of_rows-clause-refused
returns-in-Err-answer_of_rows-clause-refused g c =
    refused_read (g.R.Read.remaining c.args.input.now) c.in-Ok.text.items c.deref.result.now c.in-Err-answer_of_rows.refusal c.in-Ok.ensures.all
    c.deref.ensures.value c.in-Err-answer_of_rows.ensures.refused
