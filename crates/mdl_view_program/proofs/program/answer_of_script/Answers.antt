-- The answer is about the books that the script leaves.
use Rattle.mdl_syntax.specs.Scripts.{parsed}
use Rattle.mdl_view_program.proofs.AnswerLemmas.{script_answered}
use Rattle.mdl_view_program.proofs.program.answer_of_script.Goals as goal

pub returns-in-Ok-clause-answer : goal.returns-in-Ok-clause-answer
returns-in-Ok-clause-answer c =
    script_answered c.args.question c.args.last (parsed c.args.text.now) c.in_ok-space.space c.books.result.now c.in-Ok.answer.items
    c.in_ok-space.ensures.accepted c.in_ok-space.ensures.space c.books.ensures c.in-Ok.ensures
