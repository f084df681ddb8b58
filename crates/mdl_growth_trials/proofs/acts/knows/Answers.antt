-- A place whose key the session tells is one that it knows.
use Rattle.std.proofs.Common.{◌≡◌, ◌∙◌, ℕ, Err, Ok, Result, ap, is_some, sym, true}
use Rattle.std.specs.Result.{is_ok}
use Rattle.mdl_key.specs.KeyLookups.{is_known}
use Rattle.mdl_key.specs.Keys.{KeyName}
use Rattle.mdl_calls.specs.declared.space_error.SpaceError.{SpaceError}
use Rattle.mdl_calls.specs.CallSpec.{Transition}
use Rattle.mdl_calls.specs.SessionData.{SessionData}
use Rattle.mdl_calls.specs.Words.{keyed}
use Rattle.mdl_calls.specs.calls.KeyOf as call
use Rattle.mdl_session_laws.proofs.KeyLists.{known-some}
use Rattle.mdl_growth_trials.proofs.acts.knows.Goals as goal

-- if it tells a key, it knows the place
tells_known : (who place : ℕ) (a b : SessionData) (told : Result KeyName SpaceError) → Transition (call.key_of who place) (keyed told) a b → is_ok told ≡ true
    → is_known place b.known ≡ true
tells_known who place a b (Ok key) joined tells = ap (λ known. is_known place known) joined.learns ∙ known-some a.known place ∙ ap is_some joined.truly
tells_known who place a b (Err why) joined tells = cc

pub returns-in-Ok : goal.returns-in-Ok
returns-in-Ok g c = λ _.
    let joined = c.in-Ok.ensures.joined in
    ap (λ known. is_known c.args.place known) joined.learns ∙ known-some _ c.args.place ∙ ap is_some joined.truly

pub returns-in-Err-OutOfMemory : goal.returns-in-Err-OutOfMemory
returns-in-Err-OutOfMemory g c = λ tells.
    tells_known _ c.args.place _ _ c.key_of-in-Err-OutOfMemory.result c.key_of-in-Err-OutOfMemory.ensures.joined (sym c.is_ok.ensures.value ∙ tells)
