-- What a wish comes to, by the cases of its program.
use Rattle.std.proofs.Common.{◌≡◌, ℕ, true, false, [], ◌∷◌, ◌++◌, Option, Some, None, Result, Ok, Err, refl, sym, ap, subst, ◌∙◌, arith}
use Rattle.std.specs.Prelude.{is_some, ◌&&◌, not, find, if◌then◌else◌}
use Rattle.std.specs.Option.{option_map}
use Rattle.std.proofs.lemmas.Bool.{and_parts, eqb-true, eq-eqb, not-true, false≢true}
use Rattle.std.proofs.lemmas.List.Elements.{Contains-append_right}
use Rattle.mdl_key.specs.declared.mode.Duration.TheVariants.{Explicit}
use Rattle.mdl_key.specs.declared.mode.Mode.{Mode}
use Rattle.mdl_key.specs.Modes.{kind_of, is_mode_of}
use Rattle.mdl_key.proofs.MatrixLemmas.{each_mode}
use Rattle.mdl_book.proofs.TicketLemmas.{find-passes, find-contains}
use Rattle.mdl_calls.specs.declared.answers.Held.{Held}
use Rattle.mdl_calls.specs.declared.space_error.SpaceError.{SpaceError}
use Rattle.mdl_calls.specs.Words.{Answer, At_place, Give, Grow, Each}
use Rattle.mdl_calls.proofs.FaithfulLemmas.{either, each_then}
use Rattle.mdl_system.specs.Strength.{covers}
use Rattle.mdl_context.specs.declared.asking.AskResult.{AskResult}
use Rattle.mdl_context.specs.declared.asking.AskResult.TheVariants as got
use Rattle.mdl_context.specs.declared.context_error.ContextError.{ContextError}
use Rattle.mdl_context.specs.declared.context_error.ContextError.TheVariants.{Waiting}
use Rattle.mdl_context.specs.declared.kept.Kept.{Kept}
use Rattle.mdl_context.specs.declared.kept.Wanted.{Wanted}
use Rattle.mdl_context.specs.declared.request.Acquire.{Acquire}
use Rattle.mdl_context.specs.declared.request.Acquire.TheVariants.{Acquired}
use Rattle.mdl_context.specs.declared.request.Tried.{Tried}
use Rattle.mdl_context.specs.declared.request.Tried.TheVariants as try_as
use Rattle.mdl_context.specs.Wishes.{Wish}
use Rattle.mdl_context.specs.Contexts.{ContextView, lasts, place_known, held_of}
use Rattle.mdl_context.specs.Gains.{gaining_from, trying_from}
use Rattle.mdl_context.specs.Holdings.{earliest, is_kept_at, kept_ticket}
use Rattle.mdl_context.specs.Requests.{Outcome, acquiring_at, finding, got_at_once, got_lock, is_reusable, outcome_got, outcome_tried, place_answered, remembering, reusing, starved, suffices, trying_again, trying_at, trying_found, trying_placed}
use Rattle.mdl_context.specs.Requests as requests
use Rattle.mdl_context.specs.WishLaws.{IsAsWished, IsMet, IsMetAtOnce, GainsATicket, GainsAtOnce}
use Rattle.mdl_context.proofs.AttendLemmas.{known-last}
use Rattle.mdl_context.proofs.LookUpLemmas.{each_looked_up}

pub covers-itself : (mode : Mode) → covers mode mode ≡ true
covers-itself mode = each_mode (λ m. covers m m) refl mode

-- a ticket that can be used again is as wished
reusable_wished : (place : ℕ) (request : Wish) (t : Kept) → is_reusable place request t ≡ true → IsAsWished place request t
reusable_wished place request t passes =
    let parts = and_parts (suffices place request t && lasts request.duration t) (not (lasts Explicit t)) passes in
    let first = and_parts (suffices place request t) (lasts request.duration t) parts.0 in
    let legal = is_mode_of (kind_of request.key.namespace) request.mode in
    let serves = and_parts (is_kept_at place t && covers t.mode request.mode) legal first.0 in
    let there = and_parts (is_kept_at place t) (covers t.mode request.mode) serves.0 in
    (eqb-true t.place place there.0, there.1, first.1)

module _ (request : Wish) (before context : ContextView) (place : ℕ) (known : place_known request.key context.known ≡ Some place)
    (kept : context.kept ≡ before.kept) (wait : context.wait ≡ before.wait) where
  met_again : (t : Kept) → find (is_reusable place request) context.kept ≡ Some t → IsMet request before (Ok (Acquired t.id), context)
  met_again t found = (
    place,
    t,
    known,
    find-contains (is_reusable place request) context.kept t found,
    refl,
    reusable_wished place request t (find-passes (is_reusable place request) context.kept t found),
  )

  met_got : (end : Result AskResult SpaceError) → IsMet request before (outcome_got place request context end)
  met_got (Ok (got.Granted id)) =
      let ticket = kept_ticket id place request in (
        place,
        ticket,
        known,
        Contains-append_right context.kept (ticket ∷ []) ticket (0, grind (arith), refl),
        refl,
        (refl, covers-itself request.mode, eq-eqb _ _ refl),
      )
  met_got (Ok (got.Waits number searched)) = (place, searched, known, refl, kept)
  met_got (Err refusal) = (kept, wait)

  met_reusing : (found : Option Kept) → find (is_reusable place request) context.kept ≡ found
      → Each (IsMet request before) (acquiring_at place request context)
  met_reusing (Some t) e =
      subst (λ (found : Option Kept). Each (IsMet request before) (reusing (option_map held_of found) place request context)) (sym e) (met_again t e)
  met_reusing None e =
      subst (λ (found : Option Kept). Each (IsMet request before) (reusing (option_map held_of found) place request context)) (sym e) (
        (kept, wait),
        each_then {A = Result AskResult SpaceError} {B = Outcome Acquire} (IsMet request before)
            (gaining_from (earliest (suffices place request) context.kept) context.who place request.mode)
            (λ end. Give (outcome_got place request context end)) met_got,
      )

  pub met_at : Each (IsMet request before) (acquiring_at place request context)
  met_at = met_reusing (find (is_reusable place request) context.kept) refl

  -- the same for a wish that isn't waited for
  tried_got : (end : Result Tried SpaceError) → IsMetAtOnce request before (outcome_tried place request context end)
  tried_got (Ok (try_as.Acquired id)) = met_got (Ok (got.Granted id))
  tried_got (Ok try_as.WouldWait) = (kept, wait)
  tried_got (Err refusal) = (kept, wait)

  tried_again : (found : Option Kept) → find (is_reusable place request) context.kept ≡ found
      → Each (IsMetAtOnce request before) (trying_at place request context)
  tried_again (Some t) e =
      subst (λ (found : Option Kept). Each (IsMetAtOnce request before) (trying_again (option_map held_of found) place request context)) (sym e) (met_again t e)
  tried_again None e =
      subst (λ (found : Option Kept). Each (IsMetAtOnce request before) (trying_again (option_map held_of found) place request context)) (sym e) (
        (kept, wait),
        each_then {A = Result Tried SpaceError} {B = Outcome Tried} (IsMetAtOnce request before)
            (trying_from (earliest (suffices place request) context.kept) context.who place request.mode)
            (λ end. Give (outcome_tried place request context end)) tried_got,
      )

  pub tried_at : Each (IsMetAtOnce request before) (trying_at place request context)
  tried_at = tried_again (find (is_reusable place request) context.kept) refl

met_place : (request : Wish) (context : ContextView) → place_known request.key context.known ≡ None → (answer : Answer)
    → Each (IsMet request context) (place_answered request context answer)
met_place request context new (At_place place) =
    let looked_up = remembering request.key place context in
    each_looked_up {A = Acquire} got_lock place context (Grow (starved context) (acquiring_at place request looked_up)) (IsMet request context) unmet
    ((refl, refl), met_at request context looked_up place (known-last request.key context.known place new) refl refl)
  where
    unmet : (reply : Result Acquire ContextError) (after : ContextView) → got_lock reply ≡ false → IsMet request context (reply, after)
        → IsMet request context (reply, context)
    unmet (Ok got) after none met = cc
    unmet (Err why) after none met = (refl, refl)
met_place request context new _ = (refl, refl)

met_finding : (request : Wish) (context : ContextView) (found : Option ℕ) → place_known request.key context.known ≡ found
    → Each (IsMet request context) (finding found request context)
met_finding request context (Some place) e = met_at request context context place e refl refl
met_finding request context None e = λ answer. met_place request context e answer

pub met_acquiring : (request : Wish) (context : ContextView) → Each (IsMet request context) (requests.acquiring request context)
met_acquiring request context =
    let found = place_known request.key context.known in
    either {A = Outcome Acquire} (Each (IsMet request context)) (is_some context.wait) (Give (Err Waiting, context)) (finding found request context)
    (refl, refl) (met_finding request context found refl)

tried_place : (request : Wish) (context : ContextView) → place_known request.key context.known ≡ None → (answer : Answer)
    → Each (IsMetAtOnce request context) (trying_placed request context answer)
tried_place request context new (At_place place) =
    let looked_up = remembering request.key place context in
    each_looked_up {A = Tried} got_at_once place context (Grow (starved context) (trying_at place request looked_up)) (IsMetAtOnce request context) unmet
    ((refl, refl), tried_at request context looked_up place (known-last request.key context.known place new) refl refl)
  where
    unmet : (reply : Result Tried ContextError) (after : ContextView) → got_at_once reply ≡ false → IsMetAtOnce request context (reply, after)
        → IsMetAtOnce request context (reply, context)
    unmet (Ok (try_as.Acquired id)) after none met = cc
    unmet (Ok try_as.WouldWait) after none met = (refl, refl)
    unmet (Err why) after none met = (refl, refl)
tried_place request context new _ = (refl, refl)

tried_found : (request : Wish) (context : ContextView) (found : Option ℕ) → place_known request.key context.known ≡ found
    → Each (IsMetAtOnce request context) (trying_found found request context)
tried_found request context (Some place) e = tried_at request context context place e refl refl
tried_found request context None e = λ answer. tried_place request context e answer

pub met_trying : (request : Wish) (context : ContextView) → Each (IsMetAtOnce request context) (requests.trying request context)
met_trying request context =
    let found = place_known request.key context.known in
    either {A = Outcome Tried} (Each (IsMetAtOnce request context)) (is_some context.wait) (Give (Err Waiting, context)) (trying_found found request context)
    (refl, refl) (tried_found request context found refl)

-- ---- explicit wishes

-- no ticket serves an explicit wish again
never_again : (place : ℕ) (request : Wish) (t : Kept) → request.duration ≡ Explicit → is_reusable place request t ≡ true → ⊥
never_again place request t explicit passes =
    let parts = and_parts (suffices place request t && lasts request.duration t) (not (lasts Explicit t)) passes in
    let long = (and_parts (suffices place request t) (lasts request.duration t) parts.0).1 in
    false≢true (sym (not-true (lasts Explicit t) parts.1) ∙ subst (λ duration. lasts duration t ≡ true) explicit long)

module _ (request : Wish) (before context : ContextView) (place : ℕ) (explicit : request.duration ≡ Explicit) (kept : context.kept ≡ before.kept) where
  gains_got : (end : Result AskResult SpaceError) → GainsATicket request before (outcome_got place request context end)
  gains_got (Ok (got.Granted id)) = (place, ap (λ tickets. tickets ++ kept_ticket id place request ∷ []) kept)
  gains_got (Ok (got.Waits number searched)) = tt
  gains_got (Err refusal) = tt

  gains_reusing : (found : Option Kept) → find (is_reusable place request) context.kept ≡ found
      → Each (GainsATicket request before) (acquiring_at place request context)
  gains_reusing (Some t) e = absurd (never_again place request t explicit (find-passes (is_reusable place request) context.kept t e))
  gains_reusing None e =
      subst (λ (found : Option Kept). Each (GainsATicket request before) (reusing (option_map held_of found) place request context)) (sym e) (
        tt,
        each_then {A = Result AskResult SpaceError} {B = Outcome Acquire} (GainsATicket request before)
            (gaining_from (earliest (suffices place request) context.kept) context.who place request.mode)
            (λ end. Give (outcome_got place request context end)) gains_got,
      )

  pub gains_at : Each (GainsATicket request before) (acquiring_at place request context)
  gains_at = gains_reusing (find (is_reusable place request) context.kept) refl

  -- the same for a wish that isn't waited for
  gains_tried : (end : Result Tried SpaceError) → GainsAtOnce request before (outcome_tried place request context end)
  gains_tried (Ok (try_as.Acquired id)) = (place, ap (λ tickets. tickets ++ kept_ticket id place request ∷ []) kept)
  gains_tried (Ok try_as.WouldWait) = tt
  gains_tried (Err refusal) = tt

  gains_again : (found : Option Kept) → find (is_reusable place request) context.kept ≡ found
      → Each (GainsAtOnce request before) (trying_at place request context)
  gains_again (Some t) e = absurd (never_again place request t explicit (find-passes (is_reusable place request) context.kept t e))
  gains_again None e =
      subst (λ (found : Option Kept). Each (GainsAtOnce request before) (trying_again (option_map held_of found) place request context)) (sym e) (
        tt,
        each_then {A = Result Tried SpaceError} {B = Outcome Tried} (GainsAtOnce request before)
            (trying_from (earliest (suffices place request) context.kept) context.who place request.mode)
            (λ end. Give (outcome_tried place request context end)) gains_tried,
      )

  pub gains_at_once : Each (GainsAtOnce request before) (trying_at place request context)
  gains_at_once = gains_again (find (is_reusable place request) context.kept) refl

gains_place : (request : Wish) (context : ContextView) → request.duration ≡ Explicit → (answer : Answer)
    → Each (GainsATicket request context) (place_answered request context answer)
gains_place request context explicit (At_place place) =
    let looked_up = remembering request.key place context in
    each_looked_up {A = Acquire} got_lock place context (Grow (starved context) (acquiring_at place request looked_up)) (GainsATicket request context) none
    (tt, gains_at request context looked_up place explicit refl)
  where
    none : (reply : Result Acquire ContextError) (after : ContextView) → got_lock reply ≡ false → GainsATicket request context (reply, after)
        → GainsATicket request context (reply, context)
    none (Ok got) after unmet gained = cc
    none (Err why) after unmet gained = tt
gains_place request context explicit _ = tt

gains_finding : (request : Wish) (context : ContextView) → request.duration ≡ Explicit → (found : Option ℕ)
    → Each (GainsATicket request context) (finding found request context)
gains_finding request context explicit (Some place) = gains_at request context context place explicit refl
gains_finding request context explicit None = λ answer. gains_place request context explicit answer

pub gains_acquiring : (request : Wish) (context : ContextView) → request.duration ≡ Explicit
    → Each (GainsATicket request context) (requests.acquiring request context)
gains_acquiring request context explicit =
    let found = place_known request.key context.known in
    either {A = Outcome Acquire} (Each (GainsATicket request context)) (is_some context.wait) (Give (Err Waiting, context))
    (finding found request context) tt (gains_finding request context explicit found)

gains_trying_placed : (request : Wish) (context : ContextView) → request.duration ≡ Explicit → (answer : Answer)
    → Each (GainsAtOnce request context) (trying_placed request context answer)
gains_trying_placed request context explicit (At_place place) =
    let looked_up = remembering request.key place context in
    each_looked_up {A = Tried} got_at_once place context (Grow (starved context) (trying_at place request looked_up)) (GainsAtOnce request context) none
    (tt, gains_at_once request context looked_up place explicit refl)
  where
    none : (reply : Result Tried ContextError) (after : ContextView) → got_at_once reply ≡ false → GainsAtOnce request context (reply, after)
        → GainsAtOnce request context (reply, context)
    none (Ok (try_as.Acquired id)) after unmet gained = cc
    none (Ok try_as.WouldWait) after unmet gained = tt
    none (Err why) after unmet gained = tt
gains_trying_placed request context explicit _ = tt

gains_trying_found : (request : Wish) (context : ContextView) → request.duration ≡ Explicit → (found : Option ℕ)
    → Each (GainsAtOnce request context) (trying_found found request context)
gains_trying_found request context explicit (Some place) = gains_at_once request context context place explicit refl
gains_trying_found request context explicit None = λ answer. gains_trying_placed request context explicit answer

pub gains_trying : (request : Wish) (context : ContextView) → request.duration ≡ Explicit
    → Each (GainsAtOnce request context) (requests.trying request context)
gains_trying request context explicit =
    let found = place_known request.key context.known in
    either {A = Outcome Tried} (Each (GainsAtOnce request context)) (is_some context.wait) (Give (Err Waiting, context))
    (trying_found found request context) tt (gains_trying_found request context explicit found)

-- ---- tickets that are used again

pub used_again : (request : Wish) (context : ContextView) (place : ℕ) (ticket : Held) → context.wait ≡ None
    → place_known request.key context.known ≡ Some place → earliest (is_reusable place request) context.kept ≡ Some ticket
    → requests.acquiring request context ≡ Give (Ok (Acquired ticket.id), context)
used_again request context place ticket idle known found =
    let at = place_known request.key context.known in
    ap (λ (wait : Option Wanted). if is_some wait then Give (Err Waiting, context) else finding at request context) idle
    ∙ ap (λ (there : Option ℕ). finding there request context) known
    ∙ ap (λ (again : Option Held). reusing again place request context) found

pub tried_used_again : (request : Wish) (context : ContextView) (place : ℕ) (ticket : Held) → context.wait ≡ None
    → place_known request.key context.known ≡ Some place → earliest (is_reusable place request) context.kept ≡ Some ticket
    → requests.trying request context ≡ Give (Ok (try_as.Acquired ticket.id), context)
tried_used_again request context place ticket idle known found =
    let at = place_known request.key context.known in
    ap (λ (wait : Option Wanted). if is_some wait then Give (Err Waiting, context) else trying_found at request context) idle
    ∙ ap (λ (there : Option ℕ). trying_found there request context) known
    ∙ ap (λ (again : Option Held). trying_again again place request context) found
