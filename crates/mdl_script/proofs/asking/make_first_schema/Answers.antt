-- The line that is worked off is that which makes the first schema. The session owes nothing behind it.
use Rattle.std.proofs.Common.{[], ◌∷◌, ℕ, List, subst}
use Rattle.mdl_syntax.specs.declared.script.Line.{Line}
use Rattle.mdl_syntax.specs.declared.statement.Statement.TheVariants.{CreateSchema}
use Rattle.mdl_script.specs.Answers.{WorksOff, options_of}
use Rattle.mdl_script.proofs.ThreadLemmas.{paid_behind}
use Rattle.mdl_script.proofs.asking.make_first_schema.Goals as goal

pub returns-clause-first : goal.returns-clause-first
returns-clause-first g c =
    let options = options_of c.args.run.now.patience c.args.run.now.cache in let who = c.args.who in let answers = c.in_ok-_answers._answers in
    let before = c.args.asker.now in let after = c.work_lines.new.space in
    let line : List ℕ → Line = λ name. record { number = 1; session = who; statement = CreateSchema name } in
    (answers.items, subst (λ name. WorksOff options (line name ∷ []) who before answers.items after) c.in-Ok.ensures.made c.in_ok-_answers.ensures.reads)

pub returns-clause-made : goal.returns-clause-made
returns-clause-made g c = (c.args.asker.now, returns-clause-first g c)

pub returns-clause-paid : goal.returns-clause-paid
returns-clause-paid g c =
    paid_behind (options_of c.args.run.now.patience c.args.run.now.cache) (record { number = 1; session = c.args.who; statement = CreateSchema c.in-Ok.name } ∷ []) c.args.who
    c.args.asker.now c.work_lines.new.space c.work_lines.result c.work_lines.ensures.reads c.requires.paid

pub returns-in_err-_answers-clause-paid : goal.returns-in_err-_answers-clause-paid
returns-in_err-_answers-clause-paid g c =
    paid_behind (options_of c.args.run.now.patience c.args.run.now.cache) (record { number = 1; session = c.args.who; statement = CreateSchema c.in-Ok.name } ∷ []) c.args.who
    c.args.asker.now c.work_lines.new.space c.work_lines.result c.work_lines.ensures.reads c.requires.paid
