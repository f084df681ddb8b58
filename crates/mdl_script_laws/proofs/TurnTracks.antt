-- Whether a session has a wait in the space of one thread, followed through a program of its calls.
use Rattle.std.proofs.Common.{◌≡◌, ◌≢◌, ℕ, Bool, true, false, Option, Some, None, IfSome, refl, subst, ap, ◌∙◌, sym}
use Rattle.std.specs.Prelude.{is_some}
use Rattle.mdl_calls.specs.SessionLocks.{SessionLocks, ticket_held}
use Rattle.mdl_calls.specs.SessionLocks as own
use Rattle.mdl_calls.specs.Words.{Answer, Refused, Done, At_place, Granted, Waits, Lost, Upgraded, Call, caller, Resolve, Unpin, Try_now, Begin_wait, Search, End_wait, Release, Clone_ticket, Upgrade_now, Merge, Downgrade, Program, Give, Ask, Grow, ◌>>=◌, EachCall, outcome_of, own_after}
use Rattle.mdl_core.specs.CoreCalls.{outcome, searching_of, victim_at}
use Rattle.mdl_core.specs.CoreJoins.{Joins, SpeaksFor, locks_at}
use Rattle.mdl_core.specs.Cores.{Core}
use Rattle.mdl_core.specs.RunLaws.{IsMadeFor}
use Rattle.mdl_core.proofs.CallLaws.{core-changes, core-keeps, core-others}
use Rattle.mdl_core.proofs.CoreSound.{calls_keep-sound}
use Rattle.mdl_script_laws.proofs.OutcomeLemmas.{joins-outcome}

-- ---- one call

-- whether its caller has a wait after a call, by its answer, and by whether it had one
abbrev pub wait_after : Call → Answer → Bool → Bool
wait_after (Begin_wait who place mode) (Waits number) waits = true
wait_after (End_wait who) (Granted id) waits = false
wait_after (End_wait who) (Lost how) waits = false
wait_after _ _ waits = waits

own-wait : (call : Call) (answer : Answer) (has : SessionLocks) → is_some (own_after call answer has).wait ≡ wait_after call answer (is_some has.wait)
own-wait (Begin_wait who place mode) (Waits number) has = refl
own-wait (End_wait who) (Granted id) has = elim has.wait as (λ wait. is_some (own.winning id wait (record has { wait = wait })).wait ≡ false) [ None ↦ refl | Some wait ↦ refl ]
own-wait (End_wait who) (Lost how) has = refl
own-wait (Clone_ticket who id mode) (Granted copy) has =
    elim (ticket_held id has) as (λ ticket. is_some (own.cloning copy mode ticket has).wait ≡ is_some has.wait) [ None ↦ refl | Some ticket ↦ refl ]
own-wait (Merge who old new) Done has =
    elim (ticket_held new has) as (λ ticket. is_some (own.merging old new ticket has).wait ≡ is_some has.wait) [ None ↦ refl | Some ticket ↦ refl ]
own-wait (Resolve who key) (At_place place) has = refl
own-wait (Unpin who place) Done has = refl
own-wait (Try_now who place mode) (Granted id) has = refl
own-wait (Release who id) Done has = refl
own-wait (Upgrade_now who id mode) Upgraded has = refl
own-wait (Downgrade who id mode) Done has = refl
own-wait _ _ has = refl

-- a search over the space of one thread isn't refused
abbrev pub IsAnswer : Call → Answer → Type 0
IsAnswer (Search who) (Refused refusal) = ⊥
IsAnswer _ _ = Unit {0}

is-answer : (call : Call) (core : Core) → IsAnswer call (outcome call core).0
is-answer (Search who) core = elim (victim_at who core) as (λ victim. IsAnswer (Search who) (searching_of victim core).0) [ None ↦ tt | Some victim ↦ tt ]
is-answer _ core = tt

-- a call that is made for nobody is about no wait of its caller
nobody-waits : (call : Call) (answer : Answer) (waits : Bool) → caller call ≡ None → wait_after call answer waits ≡ waits
nobody-waits (Begin_wait who place mode) answer waits nobody = cc
nobody-waits (End_wait who) answer waits nobody = cc
nobody-waits _ answer waits nobody = refl

pub call-waits : (who : ℕ) (core : Core) (call : Call) → SpeaksFor core who → IsMadeFor who call
    → is_some (locks_at (outcome call core).1 who).wait ≡ wait_after call (outcome call core).0 (is_some (locks_at core who).wait)
call-waits who core call speaks made = by (caller call) refl made where
  answer : Answer
  answer = (outcome call core).0

  after : Core
  after = (outcome call core).1

  joins : Joins core call answer after
  joins = joins-outcome who core call speaks made

  by : (maker : Option ℕ) → caller call ≡ maker → IfSome maker (λ w. w ≡ who)
      → is_some (locks_at after who).wait ≡ wait_after call answer (is_some (locks_at core who).wait)
  by None e same =
      ap (λ (has : SessionLocks). is_some has.wait) (core-others core after call answer who speaks (λ its. cc) joins)
      ∙ sym (nobody-waits call answer (is_some (locks_at core who).wait) e)
  by (Some w) e same =
      ap (λ (has : SessionLocks). is_some has.wait) (core-changes core after call answer who (e ∙ ap Some same) joins)
      ∙ own-wait call answer (locks_at core who)

-- ---- programs

-- each reply is so, with whether the session has a wait then, where memory is there
abbrev pub Tracks : {A : Type 0} → (A → Bool → Type 0) → Program A → Bool → Type 0
Tracks P (Give x) waits = P x waits
Tracks P (Ask call next) waits = (answer : Answer) → IsAnswer call answer → Tracks P (next answer) (wait_after call answer waits)
Tracks P (Grow refused found) waits = Tracks P found waits

-- one program after another
pub tracks-then : {A B : Type 0} (P : A → Bool → Type 0) (Q : B → Bool → Type 0) (first : Program A) (next : A → Program B) (waits : Bool) → Tracks P first waits
    → ((x : A) (then_ : Bool) → P x then_ → Tracks Q (next x) then_) → Tracks Q (first >>= next) waits
tracks-then P Q (Give x) next waits tracks rest = rest x waits tracks
tracks-then P Q (Ask call more) next waits tracks rest = λ answer is. tracks-then P Q (more answer) next (wait_after call answer waits) (tracks answer is) rest
tracks-then P Q (Grow refused found) next waits tracks rest = tracks-then P Q found next waits tracks rest

-- the outcome is so
pub tracks-outcome : {A : Type 0} (P : A → Bool → Type 0) (program : Program A) (core : Core) (who : ℕ) → SpeaksFor core who → EachCall (IsMadeFor who) program
    → Tracks P program (is_some (locks_at core who).wait) → P (outcome_of outcome program core).0 (is_some (locks_at (outcome_of outcome program core).1 who).wait)
tracks-outcome P (Give x) core who speaks made tracks = tracks
tracks-outcome P (Ask call next) core who speaks made tracks =
    let answer = (outcome call core).0 in
    let after = (outcome call core).1 in
    tracks-outcome P (next answer) after who (core-keeps calls_keep-sound core after call answer who speaks (joins-outcome who core call speaks made.0))
    (made.1 answer)
    (subst (λ waits. Tracks P (next answer) waits) (sym (call-waits who core call speaks made.0)) (tracks answer (is-answer call core)))
tracks-outcome P (Grow refused found) core who speaks made tracks = tracks-outcome P found core who speaks made.1 tracks

-- nothing changes for another session
pub others-outcome : {A : Type 0} (program : Program A) (core : Core) (who w : ℕ) → SpeaksFor core who → SpeaksFor core w → w ≢ who
    → EachCall (IsMadeFor who) program
    → locks_at (outcome_of outcome program core).1 w ≡ locks_at core w
others-outcome (Give x) core who w speaks there other made = refl
others-outcome (Ask call next) core who w speaks there other made =
    let answer = (outcome call core).0 in
    let after = (outcome call core).1 in
    let joins = joins-outcome who core call speaks made.0 in
    let keeps : (k : ℕ) → SpeaksFor core k → SpeaksFor after k = λ k spoke. core-keeps calls_keep-sound core after call answer k spoke joins in
    others-outcome (next answer) after who w (keeps who speaks) (keeps w there) other (made.1 answer)
    ∙ core-others core after call answer w there (λ its. other (by (caller call) its made.0)) joins where
      by : (maker : Option ℕ) → maker ≡ Some w → IfSome maker (λ k. k ≡ who) → w ≡ who
      by None its same = cc
      by (Some k) its same = cc
others-outcome (Grow refused found) core who w speaks there other made = others-outcome found core who w speaks there other made.1
