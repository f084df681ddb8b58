-- What a space answers to a change of what stands under a key, and why one is refused.
use Rattle.std.proofs.Common.{◌≡◌, ◌≢◌, inl, inr, ℕ, ◌+◌, true, Option, Some, None, MatchOption, Result, Ok, Err, refl, sym, ap, subst, ◌∙◌}
use Rattle.mdl_defs.proofs.VersionedDefinitionLemmas.{fault-cases}
use Rattle.mdl_defs.specs.declared.change.Change.TheVariants.{Drop}
use Rattle.mdl_defs.specs.declared.change_error.ChangeError.TheVariants as error
use Rattle.mdl_defs.specs.declared.change_error.ChangeError.TheVariants.{Def}
use Rattle.mdl_defs.specs.declared.def_error.DefError.TheVariants as fault
use Rattle.mdl_defs.specs.declared.def_error.DefError.{DefError}
use Rattle.mdl_key.specs.Refusals.{RefusesJust}
use Rattle.mdl_calls.proofs.Common.{Answer, Change, ChangeError, Change_definition, Changed, IsCause, IsChangeOf, KeyName, Knowledge, Namespace, OfHeld, OutOfMemory, Refused, SessionLocks, SpaceError, VersionedDefinition, X, cause_of, change_takes_memory, same_mode, standing_fault}
use Rattle.mdl_calls.specs.declared.space_error.SpaceError.TheVariants as space_error

-- want of memory is no fault of what is asked
fault-known : (namespace : Namespace) (change : Change) (standing : VersionedDefinition) → standing_fault namespace change standing ≡ Some error.OutOfMemory → ⊥
fault-known namespace change standing e =
    fault-cases (λ why. why ≡ error.OutOfMemory → ⊥) namespace change standing (λ _ f. cc) (λ f. cc) (λ why _ f. cc) error.OutOfMemory e refl

-- a change that takes no memory is never refused for want of it
pub drop-memory : (namespace : Namespace) (change : Change) (standing : VersionedDefinition) (result : Result ℕ ChangeError)
    → (change ≡ Drop → RefusesJust (standing_fault namespace change standing) result) → result ≡ Err error.OutOfMemory → change_takes_memory change ≡ true
drop-memory namespace Drop standing result just e =
    by (standing_fault namespace Drop standing) refl (subst (RefusesJust (standing_fault namespace Drop standing)) e (just refl))
  where
    by : (o : Option ChangeError) → standing_fault namespace Drop standing ≡ o → RefusesJust {T = ℕ} o (Err error.OutOfMemory) → change_takes_memory Drop ≡ true
    by None its ok = cc
    by (Some why) its ok = let same : why ≡ error.OutOfMemory = cc in absurd (fault-known namespace Drop standing (its ∙ ap Some same))
drop-memory namespace _ standing result just e = refl

-- what a space answers where a change was made or refused so
abbrev pub answered : Result ℕ ChangeError → Answer
answered (Ok version) = Changed version
answered (Err why) = Refused (cause_of why)

-- each such refusal has its cause, where an exclusive ticket is held
pub redefined-cause : (knows : Knowledge) (who id : ℕ) (change : Change) (own : SessionLocks) (key : KeyName) (standing : VersionedDefinition) (refusal : SpaceError)
    → OfHeld id own (λ ticket. same_mode ticket.mode X ≡ true) → IsChangeOf key change standing (Refused refusal)
    → (refusal ≡ OutOfMemory → change_takes_memory change ≡ true) → IsCause knows (Change_definition who id change) refusal own
redefined-cause knows who id change own key standing refusal exclusive of_change memory = by of_change
  where
    def_cause : (why : DefError) → why ≢ fault.OutOfMemory → IsCause knows (Change_definition who id change) (space_error.Def why) own
    def_cause fault.OutOfMemory apart = absurd (apart refl)
    def_cause _ apart = exclusive

    told : (why : ChangeError) → standing_fault key.namespace change standing ≡ Some why → IsCause knows (Change_definition who id change) (cause_of why) own
    told = fault-cases (λ why. IsCause knows (Change_definition who id change) (cause_of why) own) key.namespace change standing (λ _. exclusive) exclusive def_cause

    at : (o : Option ChangeError) → standing_fault key.namespace change standing ≡ o
        → MatchOption o (Refused refusal ≡ Changed (standing.version + 1)) (λ why. Refused refusal ≡ Refused (cause_of why))
        → IsCause knows (Change_definition who id change) refusal own
    at None its e = cc
    at (Some why) its e =
        let same : refusal ≡ cause_of why = cc in
        subst (λ r. IsCause knows (Change_definition who id change) r own) (sym same) (told why its)

    by : IsChangeOf key change standing (Refused refusal) → IsCause knows (Change_definition who id change) refusal own
    by (inl e) =
        let same : refusal ≡ OutOfMemory = cc in
        subst (λ r. IsCause knows (Change_definition who id change) r own) (sym same) (memory same)
    by (inr e) = at (standing_fault key.namespace change standing) refl e
