-- A context that has something at each place that it knows still does after a call.
use Rattle.std.proofs.Common.{◌≡◌, ℕ, Bool, true, false, List, [], ◌∷◌, ◌++◌, Option, Some, None, Result, Ok, Err, refl, sym, ap, ◌∙◌, subst, arith}
use Rattle.std.specs.Prelude.{◌==◌, ◌||◌, All, MatchOption, is_some, find, if◌then◌else◌}
use Rattle.std.specs.List.{list_any}
use Rattle.std.specs.Option.{IfSome, option_map, option_map_or}
use Rattle.std.proofs.lemmas.Bool.{and_parts, false≢true}
use Rattle.std.proofs.lemmas.Bool.Decides.{nat_tests}
use Rattle.std.proofs.lemmas.List.Elements.{All-append, All-cons, All-nil}
use Rattle.mdl_key.specs.declared.mode.Mode.{Mode}
use Rattle.mdl_key.specs.Keys.{KeyName}
use Rattle.mdl_calls.specs.declared.space_error.SpaceError.{SpaceError}
use Rattle.mdl_calls.specs.declared.space_error.SpaceError.TheVariants.{NoWait, OutOfMemory}
use Rattle.mdl_calls.specs.Words.{Answer, At_place, Done, Granted, Upgraded, Would_wait, Pending, Is_settled, Lost, Release, Downgrade, Upgrade_now, Settle_timeout, Unpin, Program, Give, Ask, Grow, ◌>>=◌, Each, SearchEnd, Over, Cut_off, Failed, seeking, most_searches}
use Rattle.mdl_calls.specs.SessionLocks.{upgraded}
use Rattle.mdl_calls.proofs.FaithfulLemmas.{either, each_bind, each_then}
use Rattle.mdl_context.specs.declared.asking.AskResult.{AskResult}
use Rattle.mdl_context.specs.declared.asking.AskResult.TheVariants as got
use Rattle.mdl_context.specs.declared.context_error.ContextError.{ContextError}
use Rattle.mdl_context.specs.declared.context_error.ContextError.TheVariants.{Waiting, Space}
use Rattle.mdl_context.specs.declared.kept.Kept.{Kept}
use Rattle.mdl_context.specs.declared.kept.Wanted.{Wanted}
use Rattle.mdl_context.specs.declared.request.Acquire.{Acquire}
use Rattle.mdl_context.specs.declared.request.Acquire.TheVariants.{Acquired}
use Rattle.mdl_context.specs.declared.request.Resume.{Resume}
use Rattle.mdl_context.specs.declared.request.Resume.TheVariants as resume_as
use Rattle.mdl_context.specs.declared.request.Tried.{Tried}
use Rattle.mdl_context.specs.declared.request.Tried.TheVariants as try_as
use Rattle.mdl_context.specs.Contexts.{ContextView, IsAwaited, IsUpgradedBy, held_of, place_known, ticket_kept}
use Rattle.mdl_context.specs.Gains.{abandoning, gaining_from, trying_from, waiting_at}
use Rattle.mdl_context.specs.Holdings.{awaited_upgrade, earliest, is_kept_at, kept_ticket, search_over, with_kept_mode, with_wanted, without_number}
use Rattle.mdl_context.specs.Releases.{release_fault, releasing, unless}
use Rattle.mdl_context.specs.Requests.{Outcome, acquiring, acquiring_at, awaiting, finding, got_at_once, got_lock, is_reusable, keeping_ticket, letting_go, outcome_got, outcome_tried, place_answered, remembering, reusing, starved, suffices, trying, trying_again, trying_at, trying_found, trying_placed}
use Rattle.mdl_context.specs.TidyLaws.{CallsStayTidy}
use Rattle.mdl_context.specs.Tidying.{IsTidy, is_needed, tidied, tidying, unneeded, unpinning_all}
use Rattle.mdl_context.specs.Upgrades.{awaiting_upgrade, downgrade_answered, downgrading, merged, merging_new, second_got, upgrade_answered, upgrading, upgrading_ticket, with_ticket_mode}
use Rattle.mdl_context.specs.Waits.{continuing_wait, cut_off_answered, end_answered, ending_wait, giving_up_wait, is_searched, looking, poll_answered, resuming, wait_sought, taking_up, wait_won, with_searches_over, without_wait}
use Rattle.mdl_context.specs.Wishes.{Wish}
use Rattle.mdl_context.proofs.PlaceLemmas.{suffices-at}
use Rattle.mdl_context.proofs.TidyLemmas.{is-tidy}

-- whatever a program replies, the context after it is tidy
abbrev pub AllTidy : {A : Type 0} → Program (Outcome A) → Type 0
AllTidy program = Each (λ outcome. IsTidy outcome.1) program

-- a context needs each place that another one needs
abbrev pub NeedsMore : ContextView → ContextView → Type 0
NeedsMore before after = (place : ℕ) → is_needed before place ≡ true → is_needed after place ≡ true

-- so if it knows the same places, it is tidy where that one is
pub tidy-more : (before after : ContextView) → after.known ≡ before.known → NeedsMore before after → IsTidy before → IsTidy after
tidy-more before after same more tidy =
    subst (λ (known : List (KeyName × ℕ)). All (λ entry. is_needed after entry.1 ≡ true) known) (sym same) (λ k d inside. more _ (tidy k d inside))

-- ---- tickets and waits

needs-kept : (context : ContextView) (place : ℕ) → list_any (is_kept_at place) context.kept ≡ true → is_needed context place ≡ true
needs-kept context place here = grind (arith, here)

-- a ticket more
any-more : (place : ℕ) (ticket : Kept) (kept : List Kept) → list_any (is_kept_at place) kept ≡ true → list_any (is_kept_at place) (kept ++ ticket ∷ []) ≡ true
any-more place ticket [] here = absurd (false≢true here)
any-more place ticket (t ∷ ts) here = grind (arith, here, any-more place ticket ts)

any-last : (ticket : Kept) (kept : List Kept) → list_any (is_kept_at ticket.place) (kept ++ ticket ∷ []) ≡ true
any-last ticket [] = grind (arith, nat_tests)
any-last ticket (t ∷ ts) = grind (arith, any-last ticket ts)

-- tickets in another mode
any-in_mode : (place id : ℕ) (change : Mode → Mode) (kept : List Kept) → list_any (is_kept_at place) kept ≡ true
    → list_any (is_kept_at place) (with_kept_mode id change kept) ≡ true
any-in_mode place id change [] here = here
any-in_mode place id change (t ∷ ts) here = grind (arith, here, any-in_mode place id change ts)

-- where a ticket is
any-found : (test : Kept → Bool) (place : ℕ) → ((t : Kept) → test t ≡ true → is_kept_at place t ≡ true) → (kept : List Kept) (ticket : Kept)
    → find test kept ≡ Some ticket → list_any (is_kept_at place) kept ≡ true
any-found test place at [] ticket found = cc
any-found test place at (t ∷ ts) ticket found = go (test t) refl (any-found test place at ts ticket) where
  go : (b : Bool) → test t ≡ b → (find test ts ≡ Some ticket → list_any (is_kept_at place) ts ≡ true) → list_any (is_kept_at place) (t ∷ ts) ≡ true
  go true passes later = grind (arith, at t passes)
  go false fails later = let rest = later (grind (arith, found, fails)) in grind (arith, rest)

any-numbered : (id : ℕ) (kept : List Kept) (ticket : Kept) → ticket_kept id kept ≡ Some ticket → list_any (is_kept_at ticket.place) kept ≡ true
any-numbered id [] ticket found = cc
any-numbered id (t ∷ ts) ticket found = go (t.id == id) refl (any-numbered id ts ticket) where
  go : (b : Bool) → (t.id == id) ≡ b → (ticket_kept id ts ≡ Some ticket → list_any (is_kept_at ticket.place) ts ≡ true)
      → list_any (is_kept_at ticket.place) (t ∷ ts) ≡ true
  go true passes later =
      let is : t ≡ ticket = grind (arith, found, passes) in subst (λ (x : Kept). list_any (is_kept_at x.place) (t ∷ ts) ≡ true) is (grind (arith, nat_tests))
  go false fails later = let rest = later (grind (arith, found, fails)) in grind (arith, rest)

-- ---- a request at a place

-- a request that got something needs the place then, and whatever it got, the context needs what it needed
record Fills (context : ContextView) (place : ℕ) (has_got : Bool) (after : ContextView) : Type 0 where
  known : after.known ≡ context.known
  needs : NeedsMore context after
  here : has_got ≡ true → is_needed after place ≡ true

fills-nothing : (context : ContextView) (place : ℕ) → Fills context place false context
fills-nothing context place = record { known = refl; needs = λ p needed. needed; here = λ has. absurd (false≢true has) }

module _ (context : ContextView) (place : ℕ) (request : Wish) where
  fills-again : list_any (is_kept_at place) context.kept ≡ true → Fills context place true context
  fills-again there = record { known = refl; needs = λ p needed. needed; here = λ _. needs-kept context place there }

  fills-kept : (id : ℕ) → Fills context place true (keeping_ticket id place request context)
  fills-kept id =
      let ticket = kept_ticket id place request in
      record {
        known = refl;
        needs = λ p needed. more p (list_any (is_kept_at p) context.kept) refl needed;
        here = λ _. needs-kept (keeping_ticket id place request context) place (any-last ticket context.kept);
      }
    where
      more : (p : ℕ) (b : Bool) → list_any (is_kept_at p) context.kept ≡ b → is_needed context p ≡ true → is_needed (keeping_ticket id place request context) p ≡ true
      more p true there needed = needs-kept (keeping_ticket id place request context) p (any-more p (kept_ticket id place request) context.kept there)
      more p false none needed = grind (arith, none, needed)

  fills-wait : context.wait ≡ None → (searched : Bool) → Fills context place true (awaiting place request searched context)
  fills-wait idle searched = record { known = refl; needs = λ p needed. grind (arith, idle, needed); here = λ _. grind (arith, nat_tests) }

  fills-got : context.wait ≡ None → (end : Result AskResult SpaceError) → let o = outcome_got place request context end in Fills context place (got_lock o.0) o.1
  fills-got idle (Ok (got.Granted id)) = fills-kept id
  fills-got idle (Ok (got.Waits number searched)) = fills-wait idle searched
  fills-got idle (Err refusal) = fills-nothing context place

  fills-tried : (end : Result Tried SpaceError) → let o = outcome_tried place request context end in Fills context place (got_at_once o.0) o.1
  fills-tried (Ok (try_as.Acquired id)) = fills-kept id
  fills-tried (Ok try_as.WouldWait) = fills-nothing context place
  fills-tried (Err refusal) = fills-nothing context place

  there-again : (t : Kept) → is_reusable place request t ≡ true → is_kept_at place t ≡ true
  there-again t passes = suffices-at place request t (and_parts (suffices place request t) _ (and_parts _ _ passes).0).0

  -- each outcome of a request
  abbrev AllFill : {A : Type 0} → (Result A ContextError → Bool) → Program (Outcome A) → Type 0
  AllFill has_got program = Each (λ o. Fills context place (has_got o.0) o.1) program

  fills-at : context.wait ≡ None → AllFill got_lock (acquiring_at place request context)
  fills-at idle = by (find (is_reusable place request) context.kept) refl where
    by : (found : Option Kept) → find (is_reusable place request) context.kept ≡ found → AllFill got_lock (acquiring_at place request context)
    by (Some t) e =
        subst (λ (found : Option Kept). AllFill got_lock (reusing (option_map held_of found) place request context)) (sym e)
        (fills-again (any-found (is_reusable place request) place there-again context.kept t e))
    by None e =
        subst (λ (found : Option Kept). AllFill got_lock (reusing (option_map held_of found) place request context)) (sym e) (
          fills-nothing context place,
          each_then {A = Result AskResult SpaceError} {B = Outcome Acquire} (λ o. Fills context place (got_lock o.0) o.1)
              (gaining_from (earliest (suffices place request) context.kept) context.who place request.mode)
              (λ end. Give (outcome_got place request context end)) (fills-got idle),
        )

  fills-trying : AllFill got_at_once (trying_at place request context)
  fills-trying = by (find (is_reusable place request) context.kept) refl where
    by : (found : Option Kept) → find (is_reusable place request) context.kept ≡ found → AllFill got_at_once (trying_at place request context)
    by (Some t) e =
        subst (λ (found : Option Kept). AllFill got_at_once (trying_again (option_map held_of found) place request context)) (sym e)
        (fills-again (any-found (is_reusable place request) place there-again context.kept t e))
    by None e =
        subst (λ (found : Option Kept). AllFill got_at_once (trying_again (option_map held_of found) place request context)) (sym e) (
          fills-nothing context place,
          each_then {A = Result Tried SpaceError} {B = Outcome Tried} (λ o. Fills context place (got_at_once o.0) o.1)
              (trying_from (earliest (suffices place request) context.kept) context.who place request.mode)
              (λ end. Give (outcome_tried place request context end)) fills-tried,
        )

-- what is so of each outcome
each-more : {A : Type 0} (P Q : A → Type 0) → ((x : A) → P x → Q x) → (program : Program A) → Each P program → Each Q program
each-more P Q so (Give x) each = so x each
each-more P Q so (Ask call next) each = λ answer. each-more P Q so (next answer) (each answer)
each-more P Q so (Grow refused found) each = (each-more P Q so refused each.0, each-more P Q so found each.1)

-- a place that is known is needed as before
tidy-known : {A : Type 0} (has_got : Result A ContextError → Bool) (context : ContextView) (place : ℕ) (program : Program (Outcome A)) → IsTidy context
    → Each (λ o. Fills context place (has_got o.0) o.1) program → AllTidy program
tidy-known {A} has_got context place program tidy fills =
    each-more {A = Outcome A} (λ o. Fills context place (has_got o.0) o.1) (λ o. IsTidy o.1)
    (λ o filled. tidy-more context o.1 filled.known filled.needs tidy) program fills

-- a place that was looked up is needed, or the context is as before
module _ {A : Type 0} (has_got : Result A ContextError → Bool) (key : KeyName) (place : ℕ) (context : ContextView) (tidy : IsTidy context) where
  tidy-learnt : (after : ContextView) → Fills (remembering key place context) place true after → IsTidy after
  tidy-learnt after filled =
      subst (λ (known : List (KeyName × ℕ)). All (λ entry. is_needed after entry.1 ≡ true) known) (sym filled.known)
      (All-append (λ entry. is_needed after entry.1 ≡ true) context.known ((key, place) ∷ []) (λ k d inside. filled.needs _ (tidy k d inside))
      (All-cons (λ entry. is_needed after entry.1 ≡ true) (key, place) [] (filled.here refl) (All-nil (λ entry. is_needed after entry.1 ≡ true))))

  -- a request that got something left it tidy
  abbrev TidyIfGot : Outcome A → Type 0
  TidyIfGot outcome = has_got outcome.0 ≡ true → IsTidy outcome.1

  tidy-filled : (outcome : Outcome A) → Fills (remembering key place context) place (has_got outcome.0) outcome.1 → TidyIfGot outcome
  tidy-filled outcome filled has = tidy-learnt outcome.1 (subst (λ got. Fills (remembering key place context) place got outcome.1) has filled)

  tidy-let_go : (outcome : Outcome A) → TidyIfGot outcome → AllTidy (letting_go has_got place context outcome)
  tidy-let_go (reply, after) so = by (has_got reply) so where
    by : (got : Bool) → (got ≡ true → IsTidy after) → AllTidy (if got then Give (reply, after) else Ask (Unpin context.who place) (λ _. Give (reply, context)))
    by true so = so refl
    by false so = λ _. tidy

  tidy-looked_up : (program : Program (Outcome A)) → Each (λ o. Fills (remembering key place context) place (has_got o.0) o.1) program
      → has_got (Err (Space OutOfMemory)) ≡ false → AllTidy (Grow (starved context) program >>= letting_go has_got place context)
  tidy-looked_up program fills none =
      each_bind {A = Outcome A} {B = Outcome A} TidyIfGot (λ o. IsTidy o.1) (Grow (starved context) program) (letting_go has_got place context)
      (λ has. absurd (false≢true (sym none ∙ has)), each-more {A = Outcome A} _ TidyIfGot tidy-filled program fills) tidy-let_go

-- ---- requests

-- where the context waits, all is refused
tidy-unless_waiting : {A : Type 0} (context : ContextView) (program : Program (Outcome A)) → IsTidy context → (context.wait ≡ None → AllTidy program)
    → AllTidy (if is_some context.wait then Give (Err Waiting, context) else program)
tidy-unless_waiting {A} context program tidy made = by context.wait refl where
  by : (wait : Option Wanted) → context.wait ≡ wait → AllTidy {A = A} (if is_some wait then Give (Err Waiting, context) else program)
  by None idle = made idle
  by (Some wanted) waits = tidy

tidy-place : (request : Wish) (context : ContextView) → IsTidy context → context.wait ≡ None → (answer : Answer) → AllTidy (place_answered request context answer)
tidy-place request context tidy idle (At_place place) =
    tidy-looked_up {A = Acquire} got_lock request.key place context tidy (acquiring_at place request (remembering request.key place context))
    (fills-at (remembering request.key place context) place request idle) refl
tidy-place request context tidy idle _ = tidy

pub tidy-finding : (found : Option ℕ) (request : Wish) (context : ContextView) → IsTidy context → context.wait ≡ None → AllTidy (finding found request context)
tidy-finding (Some place) request context tidy idle =
    tidy-known {A = Acquire} got_lock context place (acquiring_at place request context) tidy (fills-at context place request idle)
tidy-finding None request context tidy idle = λ answer. tidy-place request context tidy idle answer

pub tidy-acquiring : (request : Wish) (context : ContextView) → IsTidy context → AllTidy (acquiring request context)
tidy-acquiring request context tidy =
    let found = place_known request.key context.known in
    tidy-unless_waiting {A = Acquire} context (finding found request context) tidy (tidy-finding found request context tidy)

tidy-trying_placed : (request : Wish) (context : ContextView) → IsTidy context → (answer : Answer) → AllTidy (trying_placed request context answer)
tidy-trying_placed request context tidy (At_place place) =
    tidy-looked_up {A = Tried} got_at_once request.key place context tidy (trying_at place request (remembering request.key place context))
    (fills-trying (remembering request.key place context) place request) refl
tidy-trying_placed request context tidy _ = tidy

pub tidy-trying_found : (found : Option ℕ) (request : Wish) (context : ContextView) → IsTidy context → AllTidy (trying_found found request context)
tidy-trying_found (Some place) request context tidy =
    tidy-known {A = Tried} got_at_once context place (trying_at place request context) tidy (fills-trying context place request)
tidy-trying_found None request context tidy = λ answer. tidy-trying_placed request context tidy answer

pub tidy-trying : (request : Wish) (context : ContextView) → IsTidy context → AllTidy (trying request context)
tidy-trying request context tidy =
    let found = place_known request.key context.known in
    tidy-unless_waiting {A = Tried} context (trying_found found request context) tidy (λ idle. tidy-trying_found found request context tidy)

-- ---- other modes

-- a ticket in another mode is where it was
pub needs-in_mode : (id : ℕ) (change : Mode → Mode) (context : ContextView) → NeedsMore context (with_ticket_mode id change context)
needs-in_mode id change context place needed = more place (list_any (is_kept_at place) context.kept) refl needed where
  more : (p : ℕ) (b : Bool) → list_any (is_kept_at p) context.kept ≡ b → is_needed context p ≡ true → is_needed (with_ticket_mode id change context) p ≡ true
  more p true there needed = needs-kept (with_ticket_mode id change context) p (any-in_mode p id change context.kept there)
  more p false none needed = grind (arith, none, needed)

pub tidy-in_mode : (id : ℕ) (change : Mode → Mode) (context : ContextView) → IsTidy context → IsTidy (with_ticket_mode id change context)
tidy-in_mode id change context tidy = tidy-more context (with_ticket_mode id change context) refl (needs-in_mode id change context) tidy

tidy-merged : {A : Type 0} (answer : A) (id : ℕ) (mode : Mode) (context : ContextView) → IsTidy context → (end : Result (Unit {0}) SpaceError)
    → IsTidy (merged answer id mode context end).1
tidy-merged answer id mode context tidy (Ok done) = tidy-in_mode id (λ _. mode) context tidy
tidy-merged answer id mode context tidy (Err refusal) = tidy

module _ (ticket : Kept) (mode : Mode) (context : ContextView) (tidy : IsTidy context) (idle : context.wait ≡ None) where
  tidy-second : (end : Result AskResult SpaceError) → AllTidy (second_got ticket mode context end)
  tidy-second (Ok (got.Granted new)) =
      each_then {A = Result (Unit {0}) SpaceError} {B = Outcome Acquire} (λ o. IsTidy o.1) (merging_new context.who ticket.id new)
      (λ end. Give (merged (Acquired ticket.id) ticket.id mode context end)) (tidy-merged {A = Acquire} (Acquired ticket.id) ticket.id mode context tidy)
  tidy-second (Ok (got.Waits number searched)) =
      tidy-more context (awaiting_upgrade ticket mode searched context) refl (λ p needed. grind (arith, idle, needed)) tidy
  tidy-second (Err refusal) = tidy

  tidy-upgraded : (answer : Answer) → AllTidy (upgrade_answered ticket mode context answer)
  tidy-upgraded Upgraded = tidy-in_mode ticket.id (upgraded mode) context tidy
  tidy-upgraded Would_wait = (
    tidy,
    each_then {A = Result AskResult SpaceError} {B = Outcome Acquire} (λ o. IsTidy o.1) (waiting_at context.who ticket.place mode)
        (second_got ticket mode context) tidy-second,
  )
  tidy-upgraded _ = tidy

tidy-upgrading_ticket : (found : Option Kept) (mode : Mode) (context : ContextView) → IsTidy context → AllTidy (upgrading_ticket found mode context)
tidy-upgrading_ticket None mode context tidy = tidy
tidy-upgrading_ticket (Some ticket) mode context tidy = by context.wait refl where
  by : (wait : Option Wanted) → context.wait ≡ wait
      → AllTidy (unless (if is_some wait then Some Waiting else None) context (Ask (Upgrade_now context.who ticket.id mode) (upgrade_answered ticket mode context)))
  by None idle = λ answer. tidy-upgraded ticket mode context tidy idle answer
  by (Some wanted) waits = tidy

pub tidy-upgrading : (id : ℕ) (mode : Mode) (context : ContextView) → IsTidy context → AllTidy (upgrading id mode context)
tidy-upgrading id mode context tidy = tidy-upgrading_ticket (ticket_kept id context.kept) mode context tidy

-- what may be refused, and changes nothing then
tidy-unless : {A : Type 0} (fault : Option ContextError) (context : ContextView) (program : Program (Outcome A)) → IsTidy context → AllTidy program
    → AllTidy (unless fault context program)
tidy-unless (Some fault) context program tidy made = tidy
tidy-unless None context program tidy made = made

tidy-downgraded : (id : ℕ) (mode : Mode) (context : ContextView) → IsTidy context → (answer : Answer) → AllTidy (downgrade_answered id mode context answer)
tidy-downgraded id mode context tidy Done = tidy-in_mode id (λ _. mode) context tidy
tidy-downgraded id mode context tidy _ = tidy

pub tidy-downgrading : (id : ℕ) (mode : Mode) (context : ContextView) → IsTidy context → AllTidy (downgrading id mode context)
tidy-downgrading id mode context tidy =
    tidy-unless {A = Unit {0}} (release_fault id context) context (Ask (Downgrade context.who id mode) (downgrade_answered id mode context)) tidy
    (tidy-downgraded id mode context tidy)

-- ---- releases

pub tidy-tidying : {A : Type 0} (outcome : Outcome A) → AllTidy (tidying outcome)
tidy-tidying {A} (reply, context) =
    each_then {A = Unit {0}} {B = Outcome A} (λ o. IsTidy o.1) (unpinning_all context.who (unneeded context)) (λ _. Give (reply, tidied context))
    (λ _. is-tidy context)

pub tidy-releasing : (id : ℕ) (context : ContextView) → IsTidy context → AllTidy (releasing id context)
tidy-releasing id context tidy =
    let left : ContextView = record context { kept = without_number id context.kept } in
    tidy-unless {A = Unit {0}} (release_fault id context) context (Ask (Release context.who id) (λ _. tidying (Ok tt, left))) tidy
    (λ _. tidy-tidying {A = Unit {0}} (Ok tt, left))

-- ---- waits

none-some : (found : Option (ℕ × Mode)) (one : ℕ × Mode) → found ≡ None → found ≡ Some one → ⊥
none-some found one none some = cc

-- a wait that is over leaves its place needed, where it was to upgrade a ticket there
pub needs-over : (context : ContextView) (wanted : Option Wanted) (id : ℕ) (mode : Mode) → context.wait ≡ wanted → awaited_upgrade wanted ≡ Some (id, mode)
    → IfSome wanted (IsAwaited context.known context.kept) → NeedsMore context (without_wait context)
needs-over context None id mode waits upgrades awaited place needed = cc
needs-over context (Some wanted) id mode waits upgrades awaited place needed = more place needed where
  -- the ticket is there
  held : list_any (is_kept_at wanted.place) context.kept ≡ true
  held = by wanted.upgrades refl where
    at : (number : ℕ) (found : Option Kept) → ticket_kept number context.kept ≡ found → MatchOption found ⊥ (IsUpgradedBy wanted)
        → list_any (is_kept_at wanted.place) context.kept ≡ true
    at number None e gets = absurd gets
    at number (Some ticket) e gets = subst (λ p. list_any (is_kept_at p) context.kept ≡ true) gets.0 (any-numbered number context.kept ticket e)

    by : (number : Option ℕ) → wanted.upgrades ≡ number → list_any (is_kept_at wanted.place) context.kept ≡ true
    by None e = absurd (none-some (awaited_upgrade (Some wanted)) (id, mode) (ap (option_map (λ (n : ℕ). (n, wanted.mode))) e) upgrades)
    by (Some number) e =
        at number (ticket_kept number context.kept) refl
        (subst (λ (o : Option ℕ). IfSome o (λ n. MatchOption (ticket_kept n context.kept) ⊥ (IsUpgradedBy wanted))) e awaited.1)

  more : (p : ℕ) → is_needed context p ≡ true → is_needed (without_wait context) p ≡ true
  more p needed = go (wanted.place == p) refl where
    go : (b : Bool) → (wanted.place == p) ≡ b → is_needed (without_wait context) p ≡ true
    go true here =
        let is : wanted.place ≡ p = grind (arith, nat_tests, here) in
        needs-kept (without_wait context) p (subst (λ q. list_any (is_kept_at q) context.kept ≡ true) is held)
    go false apart = grind (arith, waits, apart, needed)

-- a wait that is won leaves its ticket there
pub needs-taken : (id : ℕ) (context : ContextView) (wait : Option Wanted) → context.wait ≡ wait
    → NeedsMore context (record context { kept = with_wanted id wait context.kept; wait = None })
needs-taken id context None idle place needed = grind (arith, idle, needed)
needs-taken id context (Some wanted) waits place needed = more place (list_any (is_kept_at place) context.kept) refl needed where
  ticket : Kept
  ticket = record { id = id; place = wanted.place; mode = wanted.mode; duration = wanted.duration }

  after : ContextView
  after = record context { kept = context.kept ++ ticket ∷ []; wait = None }

  more : (p : ℕ) (b : Bool) → list_any (is_kept_at p) context.kept ≡ b → is_needed context p ≡ true → is_needed after p ≡ true
  more p true there needed = needs-kept after p (any-more p ticket context.kept there)
  more p false none needed =
      let here : (wanted.place == p) ≡ true = grind (arith, waits, none, needed) in
      let is : wanted.place ≡ p = grind (arith, nat_tests, here) in
      needs-kept after p (subst (λ q. list_any (is_kept_at q) (context.kept ++ ticket ∷ []) ≡ true) is (any-last ticket context.kept))

module _ (context : ContextView) (tidy : IsTidy context) (awaited : IfSome context.wait (IsAwaited context.known context.kept)) where
  tidy-won : (upgrade : Option (ℕ × Mode)) → awaited_upgrade context.wait ≡ upgrade → (new : ℕ) → AllTidy (wait_won upgrade new context)
  tidy-won None e new = tidy-more context (taking_up new context) refl (needs-taken new context context.wait refl) tidy
  tidy-won (Some (id, mode)) e new =
      each_then {A = Result (Unit {0}) SpaceError} {B = Outcome Resume} (λ o. IsTidy o.1) (merging_new context.who id new)
      (λ end. Give (merged (resume_as.Acquired id) id mode (without_wait context) end))
      (tidy-merged {A = Resume} (resume_as.Acquired id) id mode (without_wait context)
      (tidy-more context (without_wait context) refl (needs-over context context.wait id mode refl e awaited) tidy))

  tidy-ended : (answer : Answer) → AllTidy (end_answered context answer)
  tidy-ended (Granted id) = tidy-won (awaited_upgrade context.wait) refl id
  tidy-ended (Lost how) = tidy-tidying {A = Resume} (Ok (resume_as.Lost how), without_wait context)
  tidy-ended _ = tidy

  tidy-polled : (answer : Answer) → AllTidy (poll_answered context answer)
  tidy-polled Pending = tidy
  tidy-polled (Is_settled how) = tidy-ended
  tidy-polled _ = tidy

  tidy-looking : AllTidy (looking context)
  tidy-looking = tidy-polled

-- a wait whose searches are over is where it was
pub needs-searched : (context : ContextView) → NeedsMore context (with_searches_over context)
needs-searched context place needed = ap (λ there. list_any (is_kept_at place) context.kept || there) (same context.wait) ∙ needed where
  same : (wait : Option Wanted)
      → option_map_or (λ (w : Wanted). w.place == place) (option_map search_over wait) false ≡ option_map_or (λ (w : Wanted). w.place == place) wait false
  same None = refl
  same (Some wanted) = refl

pub awaited-searched : (known : List (KeyName × ℕ)) (kept : List Kept) (wait : Option Wanted) → IfSome wait (IsAwaited known kept)
    → IfSome (option_map search_over wait) (IsAwaited known kept)
awaited-searched known kept None awaited = tt
awaited-searched known kept (Some wanted) awaited = awaited

module _ (context : ContextView) (tidy : IsTidy context) (awaited : IfSome context.wait (IsAwaited context.known context.kept)) where
  tidy-sought : (end : SearchEnd) → AllTidy (wait_sought context end)
  tidy-sought Over =
      tidy-looking (with_searches_over context) (tidy-more context (with_searches_over context) refl (needs-searched context) tidy)
      (awaited-searched context.known context.kept context.wait awaited)
  tidy-sought Cut_off = tidy-looking context tidy awaited
  tidy-sought (Failed refusal) =
      each_then {A = Unit {0}} {B = Outcome Resume} (λ o. IsTidy o.1) (abandoning context.who) (λ _. tidying (Err (Space refusal), without_wait context))
      (λ _. tidy-tidying {A = Resume} (Err (Space refusal), without_wait context))

  tidy-cut_off : (answer : Answer) → AllTidy (cut_off_answered context answer)
  tidy-cut_off Pending =
      each_then {A = SearchEnd} {B = Outcome Resume} (λ o. IsTidy o.1) (seeking most_searches context.who) (wait_sought context) tidy-sought
  tidy-cut_off (Is_settled how) = tidy-ended context tidy awaited
  tidy-cut_off _ = tidy

  tidy-continuing : (searched : Option Bool) → AllTidy (continuing_wait searched context)
  tidy-continuing None = tidy
  tidy-continuing (Some true) = tidy-looking context tidy awaited
  tidy-continuing (Some false) = tidy-cut_off

  pub tidy-resuming : AllTidy (resuming context)
  tidy-resuming = tidy-continuing (is_searched context.wait)

  pub tidy-giving_up : AllTidy (giving_up_wait context)
  tidy-giving_up =
      either {A = Outcome Resume} AllTidy (is_some context.wait) (Ask (Settle_timeout context.who) (λ _. ending_wait context)) (Give (Err (Space NoWait), context))
      (λ _ answer. tidy-ended context tidy awaited answer) tidy

-- ---- the law

pub stay-tidy : CallsStayTidy
stay-tidy context = (
  λ request. (tidy-acquiring request context, tidy-trying request context),
  λ id mode. (tidy-upgrading id mode context, tidy-downgrading id mode context),
  λ id. tidy-releasing id context,
  λ awaited. ((λ tidy. tidy-resuming context tidy awaited), λ tidy. tidy-giving_up context tidy awaited),
)
