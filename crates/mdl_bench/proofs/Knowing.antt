-- What a session knows of keys after it has looked one up.
use Rattle.std.proofs.Common.{◌≡◌, ◌∙◌, ℕ, true, ap}
use Rattle.mdl_key.specs.Words.{KeyName}
use Rattle.mdl_calls.specs.Words.{Answer, At_place, Resolve}
use Rattle.mdl_key.specs.KeyLookups.{is_known}
use Rattle.mdl_session_laws.specs.SessionJoins.{Joins}
use Rattle.mdl_session_laws.proofs.KeyLaws.{session-resolves}
use Rattle.mdl_session_laws.proofs.KeyLists.{known-is}
use Rattle.mdl_session_laws.proofs.KnownAfter.{known-on}
use Rattle.mdl_shared.specs.SessionViews.{SessionView, data_of}

-- it knows the key's place
pub resolved-known : (a b c : SessionView) (who place : ℕ) (key : KeyName) → Joins (data_of a) (Resolve who key) (At_place place) (data_of b)
    → c ≡ record b { room = c.room } → is_known place (data_of c).known ≡ true
resolved-known a b c who place key joined same =
    ap (λ s. is_known place (data_of s).known) same ∙ known-is (data_of b).known place key (session-resolves (data_of a) (data_of b) who place key joined)

-- and all that it knew
pub resolved-kept : (a b c : SessionView) (who : ℕ) (key : KeyName) (answer : Answer) → Joins (data_of a) (Resolve who key) answer (data_of b)
    → c ≡ record b { room = c.room } → (place : ℕ) → is_known place (data_of a).known ≡ true → is_known place (data_of c).known ≡ true
resolved-kept a b c who key answer joined same place knew =
    ap (λ s. is_known place (data_of s).known) same
    ∙ known-on (Resolve who key) answer (data_of a).known (data_of b).known joined.learns place knew
