-- A place whose key the session tells is one that it knows.
use Rattle.std.proofs.Common.{◌∙◌, ap, is_some}
use Rattle.mdl_key.specs.KeyLookups.{is_known}
use Rattle.mdl_session_laws.proofs.KeyLists.{known-some}
use Rattle.mdl_run_trials.proofs.shared.acts.version.Goals as goal

pub version-requires : goal.version-requires
version-requires g c =
    let joined = c.in-Ok.ensures.joined in
    record { known = ap (λ known. is_known c.args.place known) joined.learns ∙ known-some _ c.args.place ∙ ap is_some joined.truly }
