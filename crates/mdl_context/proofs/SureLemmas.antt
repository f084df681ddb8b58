-- What is so of all that a context gives up by, and what of it follows over the space of one thread.
use Rattle.std.proofs.Common.{◌≡◌, ℕ, Option, None, List}
use Rattle.mdl_key.specs.declared.mode.Mode.{Mode}
use Rattle.mdl_key.specs.declared.mode.Duration.TheVariants.{Explicit}
use Rattle.mdl_calls.specs.Words.{EachCall, IsFrugal, Program}
use Rattle.mdl_core.proofs.RunOutcomes.{sure-run, frugal-runs}
use Rattle.mdl_context.specs.declared.context_error.ContextError.{ContextError}
use Rattle.mdl_context.specs.declared.kept.Kept.{Kept}
use Rattle.mdl_context.specs.declared.request.Acquire.{Acquire}
use Rattle.mdl_context.specs.declared.request.Resume.{Resume}
use Rattle.mdl_context.specs.declared.request.Tried.{Tried}
use Rattle.mdl_context.specs.Contexts.{ContextView, beyond_mark, newest_first, of_statement, of_transaction, place_known, tickets_for}
use Rattle.mdl_context.specs.MemoryLaws.{IsStarved, IsOwnCall, EachEnding, EndingsTakeNoMemory, ContextsCallForTheirSession, IsSure, SureWishes, SureUpgrades, SureWaits, SureEndings}
use Rattle.mdl_context.specs.Releases.{at_known_place, releasing_tickets, releasing, unless, waiting_fault, rollback_fault}
use Rattle.mdl_context.specs.Requests.{Outcome, acquiring, trying}
use Rattle.mdl_context.specs.Holdings.{awaited_upgrade}
use Rattle.mdl_context.specs.Upgrades.{upgrading, downgrading}
use Rattle.mdl_context.specs.Waits.{giving_up_wait, resuming}
use Rattle.mdl_context.proofs.MemoryLemmas.{faithful_acquiring, faithful_trying, faithful_upgrading, faithful_resuming, faithful_giving_up_wait, frugal_giving_up_wait, frugal_giving_up, frugal_releasing, frugal_downgrading, frugal_unless}
use Rattle.mdl_context.proofs.OwnCallLemmas.{own_acquiring, own_trying, own_resuming, own_giving_up_wait, own_giving_up, own_releasing, own_upgrading, own_downgrading, own_unless}

-- what is so of the giving up of a wait, of one release and of any releases, and stays so where a refusal comes first, is so of
-- all that gives something up
each_ending : (P : (A : Type 0) → Program A → Type 0) (context : ContextView) →
    (awaited_upgrade context.wait ≡ None → P (Outcome Resume) (giving_up_wait context)) → ((id : ℕ) → P (Outcome (Unit {0})) (releasing id context)) →
    ((gone : List Kept) → P (Outcome (Unit {0})) (releasing_tickets gone context)) → ((id : ℕ) (mode : Mode) → P (Outcome (Unit {0})) (downgrading id mode context)) →
    ((fault : Option ContextError) (program : Program (Outcome (Unit {0}))) → P (Outcome (Unit {0})) program → P (Outcome (Unit {0})) (unless fault context program)) →
    EachEnding P context
each_ending P context waits one all weaker refused =
    let may_wait = λ (gone : List Kept). refused (waiting_fault context) (releasing_tickets gone context) (all gone) in (
      waits,
      one,
      λ key. may_wait (newest_first (at_known_place (place_known key context.known) context.kept)),
      λ mark. refused (rollback_fault mark context) (releasing_tickets (beyond_mark mark context.kept) context) (all (beyond_mark mark context.kept)),
      may_wait (of_statement context.kept),
      may_wait (of_transaction context.kept),
      may_wait (newest_first (tickets_for Explicit context.kept)),
      all,
      weaker,
    )

pub frugal_endings : EndingsTakeNoMemory
frugal_endings context =
    each_ending (λ A program. IsFrugal program) context (frugal_giving_up_wait context) (λ id. frugal_releasing id context)
    (λ gone. frugal_giving_up gone context) (λ id mode. frugal_downgrading id mode context) (λ fault program made. frugal_unless {A = Unit {0}} fault context program made)

pub own_calls : ContextsCallForTheirSession
own_calls context = (
  λ request. (own_acquiring request context, own_trying request context),
  λ id mode. own_upgrading id mode context,
  own_resuming context,
  own_giving_up_wait context,
  each_ending (λ A program. EachCall (IsOwnCall context.who) program) context (λ _. own_giving_up_wait context) (λ id. own_releasing id context)
      (λ gone. own_giving_up gone context) (λ id mode. own_downgrading id mode context) (λ fault program made. own_unless {A = Unit {0}} fault context program made),
)

pub sure-wishes : SureWishes
sure-wishes request context = (
  λ a b reply run sound. sure-run {A = Outcome Acquire} IsStarved (acquiring request context) a b reply (faithful_acquiring request context) sound run,
  λ a b reply run sound. sure-run {A = Outcome Tried} IsStarved (trying request context) a b reply (faithful_trying request context) sound run,
)

pub sure-upgrades : SureUpgrades
sure-upgrades id mode context a b reply run sound =
    sure-run {A = Outcome Acquire} IsStarved (upgrading id mode context) a b reply (faithful_upgrading id mode context) sound run

pub sure-waits : SureWaits
sure-waits context = (
  λ a b reply run sound. sure-run {A = Outcome Resume} IsStarved (resuming context) a b reply (faithful_resuming context) sound run,
  λ a b reply run sound. sure-run {A = Outcome Resume} IsStarved (giving_up_wait context) a b reply (faithful_giving_up_wait context) sound run,
)

-- what is so of one kind of programs is so of the other, where the one is the other
each_weaker : (P Q : (A : Type 0) → Program A → Type 0) → ((A : Type 0) (program : Program A) → P A program → Q A program) →
    (context : ContextView) → EachEnding P context → EachEnding Q context
each_weaker P Q so context (waits, one, key, mark, statement, transaction, explicit, all, weaker) =
    (λ none. so _ _ (waits none), λ id. so _ _ (one id), λ k. so _ _ (key k), λ m. so _ _ (mark m), so _ _ statement, so _ _ transaction, so _ _ explicit, λ gone. so _ _ (all gone), λ id mode. so _ _ (weaker id mode))

pub sure-endings : SureEndings
sure-endings context =
    each_weaker (λ A program. IsFrugal program) (λ A program. IsSure program)
    (λ A program frugal a b reply run. frugal-runs A program a b reply frugal run) context (frugal_endings context)
