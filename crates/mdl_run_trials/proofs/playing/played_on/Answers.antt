-- The sessions that the script names have passes. The first comes back.
use Rattle.std.proofs.Common.{◌≡◌, ◌∙◌, sym, subst, true, All}
use Rattle.mdl_script.specs.RunTexts.{named_sessions}
use Rattle.mdl_script.specs.Turns.{has_pass}
use Rattle.mdl_run_trials.proofs.PassLemmas.{first_there, named_there}
use Rattle.mdl_run_trials.proofs.playing.played_on.Goals as goal

pub run_on-requires-clause-there : goal.run_on-requires-clause-there
run_on-requires-clause-there g c κs within =
    subst (λ passes. All (λ who. has_pass passes who ≡ true) (named_sessions c.in_ok-script.script)) c.deref.ensures.value
    (named_there c.deref.result.now c.in_ok-script.script (sym c.are_there.ensures ∙ c.if-not-are_there.false))

pub returns-clause-some : goal.returns-clause-some
returns-clause-some g c = first_there c.in_ok-run_on.field-0.passes.items c.in_ok-run_on.ensures.ran.closed c.in_ok-run_on.ensures.ran.is_first
