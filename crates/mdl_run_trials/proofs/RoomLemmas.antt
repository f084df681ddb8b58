-- Two sessions over one lock space, one of which makes calls.
use Rattle.std.proofs.Common.{◌≡◌, ◌∙◌, ℕ, sym, subst}
use Rattle.mdl_calls.specs.Words.{HasNothing}
use Rattle.mdl_core.specs.Words.{Core}
use Rattle.mdl_space.specs.CoreMembers.{core_space}
use Rattle.mdl_context.specs.Contexts.{LeavesOthers}
use Rattle.mdl_run_trials.specs.Rooms.{LeavesFree}

-- calls that leave the other sessions as they were leave those free that have nothing
pub others_free : (before after : Core) (who caller : ℕ) → LeavesOthers core_space caller before after → caller ≡ who → LeavesFree who before after
others_free before after who caller others same w other free = record {
  speaks = (others.0 w (λ e. other (e ∙ same)) free.speaks).0;
  nothing = subst HasNothing (sym (others.0 w (λ e. other (e ∙ same)) free.speaks).1) free.nothing;
}
