-- The session that asks is opened as its pass had it, and closed at the end.
use Rattle.std.proofs.Common.{◌≡◌, ◌∙◌, ◌∷◌, ap, rules}
use Rattle.std.specs.String.{string_bytes}
use Rattle.std.proofs.lemmas.List.Elements.{All-cons, All-same}
use Rattle.mdl_shared.specs.declared.pass.Pass.{Pass}
use Rattle.mdl_shared.specs.Passes.{manager_table, pass_table}
use Rattle.mdl_shared.specs.SessionViews.{SessionView}
use Rattle.mdl_script.specs.Answers.{options_of}
use Rattle.mdl_script.proofs.TextLemmas.{run-asked}
use Rattle.mdl_script.proofs.running.ran_in.Goals as goal

pub ran_by-ran-requires-clause-idle : goal.ran_by-ran-requires-clause-idle
ran_by-ran-requires-clause-idle g c κs within =
    record { there = ap (λ (s : SessionView). s.table) c.open-asker.ensures.opened ∙ c.requires.first; speaks = search rules; has_nothing = search rules }

pub returns-clause-ran : goal.returns-clause-ran
returns-clause-ran g c =
    let ran = c.in_ok-text.field-0 in
    run-asked (options_of c.args.run.now.patience c.args.run.now.cache) c.args.run.now.script.now c.number-who.result c.args.first c.close-closed.result c.args.others.items ran.passes.items c.insert.new.self.items
    c.open-asker.result c.ran_by-ran.new.asker (string_bytes ran.text)
    c.open-asker.ensures.opened c.close-closed.ensures c.number-who.ensures.number c.in_ok-text.ensures.number c.in_ok-text.ensures.back c.in_ok-text.ensures.ran
    c.in_ok-insert.ensures.items

pub returns-clause-theirs : goal.returns-clause-theirs
returns-clause-theirs g c =
    let There = λ (pass : Pass). pass_table pass ≡ manager_table c.args.run.now.manager.now in
    let asker = ap (λ (s : SessionView). s.table) c.close-closed.ensures ∙ c.in_ok-text.ensures.there in
    All-same There c.insert.new.self.items (c.close-closed.result ∷ c.in_ok-text.field-0.passes.items) c.in_ok-insert.ensures.items
    (All-cons There c.close-closed.result c.in_ok-text.field-0.passes.items asker c.in_ok-text.ensures.theirs)
