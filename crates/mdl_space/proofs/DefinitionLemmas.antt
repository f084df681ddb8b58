-- What a book makes of a change of what stands under its key, as the space makes it.
use Rattle.std.proofs.Common.{◌≡◌, inl, inr, ℕ, ◌-◌, true, Option, Some, None, Result, Ok, Err, IfOk, OnErr, IsErr, IsErrAnd, refl, sym, ap, subst, ◌∙◌, set as set_at}
use Rattle.std.proofs.lemmas.List.{set-get_or}
use Rattle.mdl_key.specs.Keys.{global_key}
use Rattle.mdl_key.specs.Refusals.{Refuses, RefusesJust}
use Rattle.mdl_defs.specs.declared.change.Change.{Change}
use Rattle.mdl_defs.specs.declared.change.Change.TheVariants.{Drop}
use Rattle.mdl_defs.specs.declared.change_error.ChangeError.{ChangeError}
use Rattle.mdl_defs.specs.declared.change_error.ChangeError.TheVariants.{OutOfMemory}
use Rattle.mdl_defs.specs.VersionedDefinitions.{standing_fault}
use Rattle.mdl_book.specs.declared.book_view.BookView.{BookView}
use Rattle.mdl_book.specs.Books.{empty_book, redefining}
use Rattle.mdl_calls.specs.declared.space_error.SpaceError.{SpaceError}
use Rattle.mdl_calls.specs.Words.{Refused, Changed, change_takes_memory, cause_of, redefined}
use Rattle.mdl_calls.proofs.StandingLemmas.{answered, drop-memory}
use Rattle.mdl_core.specs.Words.{Core, Makes, book_at, key_at, standing_at, booking, redefined_unless, redefining_fault}

-- a book that is written as it was leaves the space
booked_again : (core : Core) (place : ℕ) (book : BookView) → book ≡ book_at place core → booking place book core ≡ core
booked_again core place book same =
    ap (λ b. booking place b core) same ∙ ap (λ books. record core { books = books }) (set-get_or core.books (place - 1) (empty_book global_key))

pub redefined-made : (core : Core) (place : ℕ) (change : Change) (result : Result ℕ ChangeError) (lists new : BookView) → lists ≡ book_at place core
    → IfOk result (λ version. (new ≡ redefining change lists) × (version ≡ new.standing.version)) → OnErr result (new ≡ lists)
    → Refuses (standing_fault lists.key.namespace change lists.standing) OutOfMemory result
    → (change ≡ Drop → RefusesJust (standing_fault lists.key.namespace change lists.standing) result)
    → Makes (change_takes_memory change) (redefined_unless (redefining_fault place change core) place change) core (answered result) (booking place new core)
redefined-made core place change result lists new here done same refuses just =
    by (redefining_fault place change core) result
    (subst (λ (b : BookView). IfOk result (λ version. (new ≡ redefining change b) × (version ≡ new.standing.version))) here done)
    (subst (λ (b : BookView). OnErr result (new ≡ b)) here same)
    (subst (λ (b : BookView). Refuses (standing_fault b.key.namespace change b.standing) OutOfMemory result) here refuses)
    (λ e. drop-memory (key_at place core).namespace change (standing_at place core) result
    (λ d. subst (λ (b : BookView). RefusesJust (standing_fault b.key.namespace change b.standing) result) here (just d)) e)
  where
    by : (o : Option ChangeError) (r : Result ℕ ChangeError) → IfOk r (λ version. (new ≡ redefining change (book_at place core)) × (version ≡ new.standing.version))
        → OnErr r (new ≡ book_at place core) → Refuses o OutOfMemory r → (r ≡ Err OutOfMemory → change_takes_memory change ≡ true)
        → Makes (change_takes_memory change) (redefined_unless o place change) core (answered r) (booking place new core)
    by None (Ok version) done same refuses takes =
        inr (λ i. (Changed (sym (done.1 ∙ ap (λ (b : BookView). b.standing.version) done.0) i), booking place (sym done.0 i) core))
    by None (Err why) done same refuses takes =
        inl (takes (ap (λ w. Err w) refuses), ap (λ w. Refused (cause_of w)) refuses, booked_again core place new same)
    by (Some fault) (Ok version) done same refuses takes = cc
    by (Some fault) (Err why) done same refuses takes =
        let is : why ≡ fault = cc in
        inr (λ i. (Refused (cause_of (sym is i)), sym (booked_again core place new same) i))

-- a refusal as the space answers it
pub answered-so : (result : Result ℕ SpaceError) (why : ChangeError) → IsErr result → IsErrAnd result (λ cause. cause ≡ cause_of why)
    → answered (Err why) ≡ redefined result
answered-so (Ok version) why is so = cc
answered-so (Err cause) why is so = ap Refused (sym so)

-- the space with a book written
pub booked-view : (core view : Core) (place i : ℕ) (new : BookView) → view ≡ core → i ≡ place
    → booking place new core ≡ record view { books = set_at view.books (i - 1) new }
booked-view core view place i new same at = rw (same, at) refl
