-- The pass that is taken is one of the manager's, and so are those that are left. A thread gets it.
use Rattle.std.proofs.Common.{◌∙◌, ◌∷◌, ap, subst, sym}
use Rattle.std.specs.List.Sorted.{IsPermutation}
use Rattle.std.proofs.lemmas.List.Sorted.{IsPermutation-refl}
use Rattle.mdl_shared.specs.declared.pass.Pass.{Pass}
use Rattle.mdl_shared.specs.Passes.{pass_number}
use Rattle.mdl_script.proofs.TurnLemmas.{passes_left, theirs_left}
use Rattle.mdl_script.proofs.turns.start_turn.Goals as goal

pub start_thread-requires-clause-theirs : goal.start_thread-requires-clause-theirs
start_thread-requires-clause-theirs g c κs within =
    (theirs_left _ _ _ _ c.requires.theirs c.take-pass.ensures.rest).0

pub returns-then-who-mine-clause-sent : goal.returns-then-who-mine-clause-sent
returns-then-who-mine-clause-sent g c = IsPermutation-refl c.args.passes.now.items

pub returns-in_err-thread-clause-theirs : goal.returns-in_err-thread-clause-theirs
returns-in_err-thread-clause-theirs g c =
    (theirs_left _ _ _ _ c.requires.theirs c.take-pass.ensures.rest).1

pub returns-in_err-thread-clause-others : goal.returns-in_err-thread-clause-others
returns-in_err-thread-clause-others g c other differs = passes_left _ _ _ c.args.who other c.take-pass.ensures.number differs c.take-pass.ensures.rest

pub returns-clause-turn : goal.returns-clause-turn
returns-clause-turn g c = (c.if-who-mine.false, (ap (λ (pass : Pass). pass_number pass) c.in_ok-thread.ensures.pass ∙ c.take-pass.ensures.number), c.in_ok-thread.ensures.about)

pub returns-clause-sent : goal.returns-clause-sent
returns-clause-sent g c =
    subst (λ (pass : Pass). IsPermutation c.args.passes.now.items (pass ∷ c.take-pass.new.passes.items)) (sym c.in_ok-thread.ensures.pass) c.take-pass.ensures.rest

pub returns-clause-theirs : goal.returns-clause-theirs
returns-clause-theirs g c =
    (theirs_left _ _ _ _ c.requires.theirs c.take-pass.ensures.rest).1

pub returns-clause-others : goal.returns-clause-others
returns-clause-others g c other differs = passes_left _ _ _ c.args.who other c.take-pass.ensures.number differs c.take-pass.ensures.rest
