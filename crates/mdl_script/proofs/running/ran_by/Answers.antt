-- What the session that asks did, call by call, and what became of the others' passes.
use Rattle.std.proofs.Common.{◌≡◌, ◌∙◌, ◌∷◌, [], subst, sym, All}
use Rattle.std.specs.String.{string_bytes}
use Rattle.mdl_shared.specs.declared.pass.Pass.{Pass}
use Rattle.mdl_shared.specs.Passes.{manager_table, pass_table}
use Rattle.mdl_script.specs.Answers.{options_of}
use Rattle.mdl_script.specs.Runs.{ComeBack, first_line}
use Rattle.mdl_script.specs.Turns.{GainsAnswers, IsTurn, passes_sent}
use Rattle.mdl_script.proofs.BackLemmas.{back-there, others-back, sent-named}
use Rattle.mdl_script.proofs.TextLemmas.{run-between}
use Rattle.mdl_script.proofs.ThreadLemmas.{works-there}
use Rattle.mdl_script.proofs.running.ran_by.Goals as goal

pub push_turns-requires : goal.push_turns-requires
push_turns-requires g c =
    subst (λ who. All (IsTurn (options_of c.args.run.now.patience c.args.run.now.cache) c.args.run.now.script.now who) c.in_ok-turns.turns.items) (sym c.in_ok-own.ensures.who) c.in_ok-turns.ensures.turns

pub returns-clause-ran : goal.returns-clause-ran
returns-clause-ran g c =
    let options = options_of c.args.run.now.patience c.args.run.now.cache in let lines = c.args.run.now.script.now in let who = c.args.who in
    let own = c.in_ok-own.own in let turns = c.in_ok-turns.turns.items in
    let left = c.start_all.new.passes.items in let back = c.push_turns.new.passes.items in
    let start = string_bytes c.new-text.result in let mid = string_bytes c.push_turns.new.out in
    let gains = subst (λ n. GainsAnswers options lines n own.answers.items turns start mid left back) c.in_ok-own.ensures.who c.in_ok-push_turns.ensures in
    let finals = c.in_ok-push_finals.ensures in
    run-between who options lines c.args.others.items left back turns c.args.asker.now c.make_first_schema.new.asker c.take_turn.new.asker c.books.new.asker
    own.answers.items start mid (string_bytes c.push_finals.new.out) c.in_ok-books.field-0.items finals.0
    c.requires.idle.speaks.0 c.in_ok-make_first_schema.ensures.first c.in_ok-own.ensures.answered c.new-text.ensures.bytes c.in_ok-turns.ensures.sessions
    gains c.in_ok-turns.ensures.sent c.in_ok-books.ensures.audited finals.1 finals.2

pub returns-clause-back : goal.returns-clause-back
returns-clause-back g c =
    let gains = c.in_ok-push_turns.ensures in let turns = c.in_ok-turns.turns.items in let left = c.start_all.new.passes.items in
    subst (ComeBack c.args.run.now.script.now c.args.who c.args.others.items) (sym gains.passes)
    (others-back c.args.run.now.script.now c.args.who c.args.others.items (passes_sent turns) left gains.closed c.in_ok-turns.ensures.sent gains.numbers
    (sent-named (options_of c.args.run.now.patience c.args.run.now.cache) c.args.run.now.script.now c.args.who turns c.in_ok-turns.ensures.turns c.in_ok-turns.ensures.sessions))

pub returns-clause-theirs : goal.returns-clause-theirs
returns-clause-theirs g c =
    let gains = c.in_ok-push_turns.ensures in let left = c.start_all.new.passes.items in let table = manager_table c.args.run.now.manager.now in
    subst (All (λ (pass : Pass). pass_table pass ≡ table)) (sym gains.passes)
    (back-there table c.args.others.items (passes_sent c.in_ok-turns.turns.items) left gains.closed c.in_ok-turns.ensures.sent gains.tables c.requires.theirs)

pub returns-clause-there : goal.returns-clause-there
returns-clause-there g c =
    let options = options_of c.args.run.now.patience c.args.run.now.cache in let first = c.in_ok-make_first_schema.ensures.first in let own = c.in_ok-own.own in
    c.books.ensures.same.table
    ∙ (works-there options c.args.run.now.script.now c.args.who c.make_first_schema.new.asker own.answers.items c.take_turn.new.asker c.in_ok-own.ensures.answered.run
    ∙ (works-there options (first_line c.args.who ∷ []) c.args.who c.args.asker.now first.0 c.make_first_schema.new.asker first.1 ∙ c.requires.idle.there))

pub returns-clause-number : goal.returns-clause-number
returns-clause-number g c = c.books.ensures.same.number ∙ sym c.take_turn.ensures.speaks.0
