-- The first pass and the others are what the closure needs.
use Rattle.std.proofs.Common.{◌∷◌, IfOk, of_calls, rules}
use Rattle.std.specs.String.{string_bytes}
use Rattle.mdl_script.specs.Answers.{options_of}
use Rattle.mdl_script.specs.Runs.{IsRunFrom}
use Rattle.mdl_script.specs.declared.running.Ran.{Ran}
use Rattle.mdl_script.proofs.PassLemmas.{first-taken}
use Rattle.mdl_script.proofs.TextLemmas.{run-given}
use Rattle.mdl_script.proofs.running.run_on.Goals as goal

pub scoped-requires : goal.scoped-requires
scoped-requires g c =
    let have = first-taken _ _ c.args.passes.items c.take_first-first.new.passes.items c.take_first-first.result c.take_first-first.ensures.others c.requires.theirs c.requires.there in
    let first = have.0 in
    let theirs = have.1 in
    let there = have.2 in
    search of_calls

pub returns-clause-ran : goal.returns-clause-ran
returns-clause-ran g c =
    let others = c.take_first-first.new.passes.items in
    let ran : IfOk c.scoped.result (λ ran. IsRunFrom (options_of c.args.patience c.args.cache) c.args.script.now (c.take_first-first.result ∷ others) ran.passes.items (string_bytes ran.text)) = search rules in
    run-given (λ (ran : Ran). ran.passes.items) (λ (ran : Ran). string_bytes ran.text) (options_of c.args.patience c.args.cache) c.args.script.now c.args.passes.items others c.take_first-first.result c.scoped.result
    c.take_first-first.ensures.first c.take_first-first.ensures.others ran
