-- What is written is the answer to the bytes that were read.
use Rattle.mdl_syntax.specs.Scripts.{parsed}
use Rattle.mdl_view_program.specs.Programs.{AnswersScript}
use Rattle.mdl_view_program.proofs.AnswerLemmas.{leaves_read}
use Rattle.mdl_view_program.proofs.program.view_script.Goals as goal

pub returns-clause-written : goal.returns-clause-written
returns-clause-written g c =
    leaves_read (λ bytes text. AnswersScript c.args.question c.args.last (parsed bytes) text) (g.R.Read.remaining c.args.input.now) c.in_ok-text.text.items
    c.deref.result.now c.write_all.result c.in_ok-answer.answer.items c.deref-2.result.now (g.W.Write.contents c.args.output.now)
    (g.W.Write.contents c.write_all.new.writer) c.in_ok-text.ensures.all c.deref.ensures.value c.in_ok-answer.ensures.answer c.deref-2.ensures.value
    c.write_all.ensures.all c.write_all.ensures.part c.write_all.ensures.fault
