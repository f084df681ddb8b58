-- What an upgrade and a wait come to, by the cases of their programs.
use Rattle.std.proofs.Common.{◌≡◌, ℕ, Bool, true, false, List, Option, Some, None, Result, Ok, Err, inl, inr, refl, sym, ap, subst}
use Rattle.std.specs.Prelude.{◌==◌, is_some, if◌then◌else◌}
use Rattle.std.specs.Option.{option_map}
use Rattle.std.proofs.lemmas.Bool.{eqb-true}
use Rattle.mdl_key.specs.declared.mode.Mode.{Mode}
use Rattle.mdl_book.proofs.TicketLemmas.{find-passes}
use Rattle.mdl_calls.specs.SessionLocks.{upgraded}
use Rattle.mdl_calls.specs.declared.space_error.SpaceError.{SpaceError}
use Rattle.mdl_calls.specs.declared.space_error.SpaceError.TheVariants.{NoWait}
use Rattle.mdl_calls.specs.Words.{Answer, Upgraded, Would_wait, Upgrade_now, Ask, Granted, Pending, Is_settled, Lost, Settle_timeout, Each, Give, SearchEnd, Over, Cut_off, Failed, seeking, most_searches}
use Rattle.mdl_calls.proofs.FaithfulLemmas.{either, each_then}
use Rattle.mdl_system.specs.Strength.{covers}
use Rattle.mdl_context.specs.declared.asking.AskResult.{AskResult}
use Rattle.mdl_context.specs.declared.asking.AskResult.TheVariants as got
use Rattle.mdl_context.specs.declared.context_error.ContextError.{ContextError}
use Rattle.mdl_context.specs.declared.context_error.ContextError.TheVariants.{Space}
use Rattle.mdl_context.specs.declared.kept.Kept.{Kept}
use Rattle.mdl_context.specs.declared.kept.Wanted.{Wanted}
use Rattle.mdl_context.specs.declared.request.Acquire.{Acquire}
use Rattle.mdl_context.specs.declared.request.Acquire.TheVariants.{Acquired}
use Rattle.mdl_context.specs.declared.request.Resume.{Resume}
use Rattle.mdl_context.specs.declared.request.Resume.TheVariants as resume_as
use Rattle.mdl_context.specs.Contexts.{ContextView, ticket_kept}
use Rattle.mdl_context.specs.Gains.{waiting_at, abandoning}
use Rattle.mdl_context.specs.Holdings.{awaited_upgrade, search_over, with_wanted}
use Rattle.mdl_context.specs.Outcomes.{IsRaised, UpgradeComesTo, IsWon, WaitComesTo}
use Rattle.mdl_context.specs.Releases.{unless, waiting_fault}
use Rattle.mdl_context.specs.Requests.{Outcome}
use Rattle.mdl_context.specs.Tidying.{tidied, tidying}
use Rattle.mdl_context.specs.Upgrades.{with_ticket_mode, merging_new, merged, waiting_to_upgrade, second_got, upgrade_answered, upgrading_ticket, upgrading}
use Rattle.mdl_context.specs.Waits.{without_wait, taking_up, with_searches_over, wait_won, end_answered, ending_wait, poll_answered, looking, wait_sought, searching_on, cut_off_answered, continuing_wait, is_searched, resuming, giving_up_wait}
use Rattle.mdl_context.proofs.TidyLemmas.{each_tidying}
use Rattle.mdl_context.proofs.WishLemmas.{covers-itself}

-- ---- upgrades

-- what a ticket is upgraded to covers the mode
covers-upgraded : (mode held : Mode) → covers (upgraded mode held) mode ≡ true
covers-upgraded mode held = by (covers held mode) refl where
  by : (b : Bool) → covers held mode ≡ b → covers (if b then held else mode) mode ≡ true
  by true e = e
  by false e = covers-itself mode

module _ (id : ℕ) (mode : Mode) (before : ContextView) (ticket : Kept) (kept : ticket_kept id before.kept ≡ Some ticket) where
  number : ticket.id ≡ id
  number = eqb-true ticket.id id (find-passes (λ (t : Kept). t.id == id) before.kept ticket kept)

  raised_by : (change : Mode → Mode) → ((held : Mode) → covers (change held) mode ≡ true)
      → IsRaised id mode before (with_ticket_mode ticket.id change before)
  raised_by change strong = (change, strong, ap (λ n. with_ticket_mode n change before) number)

  raised_merged : (end : Result (Unit {0}) SpaceError) → UpgradeComesTo id mode before (merged (Acquired ticket.id) ticket.id mode before end)
  raised_merged (Ok done) = (number, raised_by (λ _. mode) (λ held. covers-itself mode))
  raised_merged (Err refusal) = refl

  raised_got : (end : Result AskResult SpaceError) → Each (UpgradeComesTo id mode before) (second_got ticket mode before end)
  raised_got (Ok (got.Granted new)) =
      each_then {A = Result (Unit {0}) SpaceError} {B = Outcome Acquire} (UpgradeComesTo id mode before) (merging_new before.who ticket.id new)
      (λ end. Give (merged (Acquired ticket.id) ticket.id mode before end)) raised_merged
  raised_got (Ok (got.Waits wait searched)) = (ticket, searched, kept, refl)
  raised_got (Err refusal) = refl

  raised_waiting : Each (UpgradeComesTo id mode before) (waiting_to_upgrade ticket mode before)
  raised_waiting = (
    refl,
    each_then {A = Result AskResult SpaceError} {B = Outcome Acquire} (UpgradeComesTo id mode before) (waiting_at before.who ticket.place mode)
        (second_got ticket mode before) raised_got,
  )

  raised_answered : (answer : Answer) → Each (UpgradeComesTo id mode before) (upgrade_answered ticket mode before answer)
  raised_answered Upgraded = (number, raised_by (upgraded mode) (covers-upgraded mode))
  raised_answered Would_wait = raised_waiting
  raised_answered _ = refl

  raised_unless : (fault : Option ContextError)
      → Each (UpgradeComesTo id mode before) (unless fault before (Ask (Upgrade_now before.who ticket.id mode) (upgrade_answered ticket mode before)))
  raised_unless (Some fault) = refl
  raised_unless None = λ answer. raised_answered answer

  pub raised_ticket : Each (UpgradeComesTo id mode before) (upgrading_ticket (Some ticket) mode before)
  raised_ticket = raised_unless (waiting_fault before)

pub raised_upgrading : (id : ℕ) (mode : Mode) (context : ContextView) → Each (UpgradeComesTo id mode context) (upgrading id mode context)
raised_upgrading id mode context = by (ticket_kept id context.kept) refl where
  by : (found : Option Kept) → ticket_kept id context.kept ≡ found → Each (UpgradeComesTo id mode context) (upgrading_ticket found mode context)
  by None e = refl
  by (Some ticket) e = raised_ticket id mode context ticket e

-- ---- waits

module _ (before context : ContextView) (same : without_wait context ≡ without_wait before) (wish : awaited_upgrade context.wait ≡ awaited_upgrade before.wait)
    (taken : (id : ℕ) → taking_up id context ≡ taking_up id before) where
  won_merged : (told : ℕ) (mode : Mode) → awaited_upgrade before.wait ≡ Some (told, mode) → (end : Result (Unit {0}) SpaceError)
      → WaitComesTo before (merged (resume_as.Acquired told) told mode (without_wait context) end)
  won_merged told mode e (Ok done) =
      subst (λ (w : Option (ℕ × Mode)). IsWon w told before (with_ticket_mode told (λ _. mode) (without_wait context))) (sym e)
      (refl, ap (with_ticket_mode told (λ _. mode)) same)
  won_merged told mode e (Err refusal) = inl same

  won : (wanted : Option (ℕ × Mode)) → awaited_upgrade before.wait ≡ wanted → (id : ℕ) → Each (WaitComesTo before) (wait_won wanted id context)
  won None e id = subst (λ (w : Option (ℕ × Mode)). IsWon w id before (taking_up id context)) (sym e) (taken id)
  won (Some (told, mode)) e id =
      each_then {A = Result (Unit {0}) SpaceError} {B = Outcome Resume} (WaitComesTo before) (merging_new context.who told id)
      (λ end. Give (merged (resume_as.Acquired told) told mode (without_wait context) end)) (won_merged told mode e)

  ended : (answer : Answer) → Each (WaitComesTo before) (end_answered context answer)
  ended (Granted id) = won (awaited_upgrade context.wait) (sym wish) id
  ended (Lost how) = each_tidying (WaitComesTo before) (Ok (resume_as.Lost how)) (without_wait context) (ap tidied same)
  ended _ = inl same

  pub comes_ending : Each (WaitComesTo before) (ending_wait context)
  comes_ending = ended

  polled : (answer : Answer) → Each (WaitComesTo before) (poll_answered context answer)
  polled Pending = same
  polled (Is_settled how) = comes_ending
  polled _ = inl same

  pub comes_looking : Each (WaitComesTo before) (looking context)
  comes_looking = polled

-- what is searched for deadlocks on, is the same wait
same_wish : (wait : Option Wanted) → awaited_upgrade (option_map search_over wait) ≡ awaited_upgrade wait
same_wish None = refl
same_wish (Some wanted) = refl

same_ticket : (id : ℕ) (wait : Option Wanted) (kept : List Kept) → with_wanted id (option_map search_over wait) kept ≡ with_wanted id wait kept
same_ticket id None kept = refl
same_ticket id (Some wanted) kept = refl

module _ (context : ContextView) where
  pub looks : Each (WaitComesTo context) (looking context)
  looks = comes_looking context context refl refl (λ id. refl)

  pub ends : Each (WaitComesTo context) (ending_wait context)
  ends = comes_ending context context refl refl (λ id. refl)

  sought : (end : SearchEnd) → Each (WaitComesTo context) (wait_sought context end)
  sought Over =
      comes_looking context (with_searches_over context) refl (same_wish context.wait)
      (λ id. ap (λ (kept : List Kept). record context { kept = kept; wait = None }) (same_ticket id context.wait context.kept))
  sought Cut_off = looks
  sought (Failed refusal) =
      each_then {A = Unit {0}} {B = Outcome Resume} (WaitComesTo context) (abandoning context.who) (λ _. tidying (Err (Space refusal), without_wait context))
      (λ _. each_tidying (WaitComesTo context) (Err (Space refusal)) (without_wait context) (inr refl))

  pub searches : Each (WaitComesTo context) (searching_on context)
  searches = each_then {A = SearchEnd} {B = Outcome Resume} (WaitComesTo context) (seeking most_searches context.who) (wait_sought context) sought

  cut_off : (answer : Answer) → Each (WaitComesTo context) (cut_off_answered context answer)
  cut_off Pending = searches
  cut_off (Is_settled how) = ends
  cut_off _ = inl refl

  goes_on : (state : Option Bool) → Each (WaitComesTo context) (continuing_wait state context)
  goes_on None = inl refl
  goes_on (Some true) = looks
  goes_on (Some false) = cut_off

  pub resumes : Each (WaitComesTo context) (resuming context)
  resumes = goes_on (is_searched context.wait)

  pub gives_up : Each (WaitComesTo context) (giving_up_wait context)
  gives_up =
      either {A = Outcome Resume} (Each (WaitComesTo context)) (is_some context.wait) (Ask (Settle_timeout context.who) (λ _. ending_wait context))
      (Give (Err (Space NoWait), context)) (λ _. ends) (inl refl)
