-- A user-level lock that is released leaves what was shown in the session's transaction: that stands under other tickets.
use Rattle.std.proofs.Common.{◌≡◌, ◌≢◌, ℕ, Bool, true, false, List, [], ◌∷◌, Option, Some, None, Result, Ok, Err, Contains, filter, find, is_some, map, not, option_map, refl, sym, ap, ◌∙◌, subst}
use Rattle.std.specs.Prelude.{◌==◌, ◌&&◌}
use Rattle.std.specs.Option.{IfSome, option_and_then}
use Rattle.std.proofs.lemmas.Bool.{and_parts, false≢true}
use Rattle.std.proofs.lemmas.List.Elements.{Contains-append_right}
use Rattle.mdl_key.specs.declared.mode.Duration.TheVariants.{Explicit}
use Rattle.mdl_key.specs.declared.mode.Mode.TheVariants.{X}
use Rattle.mdl_key.specs.declared.namespace.Namespace.TheVariants.{UserLevelLock}
use Rattle.mdl_key.specs.Keys.{KeyName, user_lock_key}
use Rattle.mdl_defs.specs.declared.definition.Definition.{Definition}
use Rattle.mdl_defs.specs.declared.versioned_definition.VersionedDefinition.{VersionedDefinition}
use Rattle.mdl_defs.specs.VersionedDefinitions.{MayStand}
use Rattle.mdl_defs.specs.VersionedDefinitions as standings
use Rattle.mdl_system.proofs.MemberLemmas.{Contains-map_from, Contains-none}
use Rattle.mdl_system.proofs.OrderLemmas.{Contains-here}
use Rattle.mdl_book.proofs.TicketLemmas.{find-contains, find-passes}
use Rattle.mdl_calls.specs.declared.answers.Held.{Held}
use Rattle.mdl_calls.specs.declared.space_error.SpaceError.{SpaceError}
use Rattle.mdl_calls.specs.Words.{Answer, At_place, Give, Grow, Each}
use Rattle.mdl_calls.proofs.FaithfulLemmas.{each_bind, each_then, either}
use Rattle.mdl_core.specs.CoreJoins.{locks_at}
use Rattle.mdl_core.specs.Cores.{Core, standing_at}
use Rattle.mdl_core.proofs.CallLaws.{core-rising}
use Rattle.mdl_core.proofs.PairLemmas.{pairs-from_rising, same-number}
use Rattle.mdl_context.specs.declared.context_error.ContextError.TheVariants.{Waiting}
use Rattle.mdl_context.specs.declared.kept.Kept.{Kept}
use Rattle.mdl_context.specs.declared.request.Mark.{Mark}
use Rattle.mdl_context.specs.declared.request.Tried.{Tried}
use Rattle.mdl_context.specs.declared.request.Tried.TheVariants as try_as
use Rattle.mdl_context.specs.Contexts.{ContextView, current_mark, held_of, last_at, last_ticket, lasts, place_known}
use Rattle.mdl_context.specs.Gains as gains
use Rattle.mdl_context.specs.Holdings.{earliest, kept_ticket}
use Rattle.mdl_context.specs.Releases.{releasing}
use Rattle.mdl_context.specs.Requests as requests
use Rattle.mdl_context.specs.Requests.{Outcome, trying}
use Rattle.mdl_context.specs.Wishes.{Wish}
use Rattle.mdl_context.proofs.AttendLemmas.{known-last}
use Rattle.mdl_context.proofs.PlaceLemmas.{equal, suffices-at}
use Rattle.mdl_syntax.specs.declared.statement.Statement.TheVariants as statement
use Rattle.mdl_rows.specs.declared.ending.Ending.TheVariants.{Answers}
use Rattle.mdl_rows.specs.declared.reply.Reply.{Reply}
use Rattle.mdl_rows.specs.declared.reply.Reply.TheVariants as reply
use Rattle.mdl_rows.specs.declared.reply.TableShown.{TableShown}
use Rattle.mdl_rows.specs.Endings.{ending_of_error}
use Rattle.mdl_rows.specs.Playing as playing
use Rattle.mdl_rows.specs.Playing.{play, starting, with_context}
use Rattle.mdl_rows.specs.Rows as row
use Rattle.mdl_rows.specs.Sessions.{Session}
use Rattle.mdl_rows.specs.States.{State}
use Rattle.mdl_rows.specs.Statements.{is_defined}
use Rattle.mdl_rows.specs.Statements as does
use Rattle.mdl_script_laws.proofs.ListLemmas.{among-filter, last-among}
use Rattle.mdl_script_laws.proofs.ShownAsking.{leads-trying}
use Rattle.mdl_script_laws.proofs.ShownCalls.{Leads, leads-bind, leads-each}
use Rattle.mdl_script_laws.proofs.ShownContexts.{Fits, Followed, fits-known}
use Rattle.mdl_script_laws.proofs.ShownEndings.{leads-closing, tells_no_error}
use Rattle.mdl_script_laws.proofs.ShownPoints.{IsStanding, old-released}
use Rattle.mdl_script_laws.proofs.ShownStages.{Comes, Point, Rests, Tells, point-followed, point-resting}
use Rattle.mdl_script_laws.proofs.ShownWaits.{IsReleased, leads-released}

-- ---- tickets of a key

-- a ticket of this number is kept at the place of the key
pub record IsOfKey (context : ContextView) (key : KeyName) (id : ℕ) : Type 0 where
  pub place : ℕ
  pub known : place_known key context.known ≡ Some place
  pub ticket : Kept
  pub kept : Contains context.kept ticket
  pub at : ticket.place ≡ place
  pub number : ticket.id ≡ id

-- so is the one that was gained last
last-of_key : (key : KeyName) (context : ContextView) (id : ℕ) → last_ticket key context ≡ Some id → IsOfKey context key id
last-of_key key context id e = by (place_known key context.known) refl e
  where
    by : (found : Option ℕ) → place_known key context.known ≡ found → option_and_then (λ place. last_at place context.kept) found ≡ Some id
        → IsOfKey context key id
    by None same e = cc
    by (Some place) same e =
        let there : Kept → Bool = λ ticket. ticket.place == place in
        let number : Kept → ℕ = λ ticket. ticket.id in
        let from = Contains-map_from number (filter there context.kept) id (last-among (map number (filter there context.kept)) id e) in
        let kept = among-filter there context.kept from.0 from.1 in
        record { place = place; known = same; ticket = from.0; kept = kept.0; at = equal (from.0).place place kept.1; number = sym from.2 }

-- nothing is ever defined under the key of a user-level lock
never-defined : (standing : VersionedDefinition) → MayStand UserLevelLock standing → is_defined standing ≡ true → ⊥
never-defined standing may there = by standing.definition may.fits there
  where
    by : (definition : Option Definition) → IfSome definition (λ d. standings.fits UserLevelLock d ≡ true) → is_some definition ≡ true → ⊥
    by None suits is = false≢true is
    by (Some definition) suits is = false≢true suits

-- so what is defined is under another ticket than that of such a lock
apart-from : (a : Core) (context : ContextView) (name : List ℕ) (id : ℕ) (x : TableShown) → Fits a context → IsOfKey context (user_lock_key name) id
    → (stands : IsStanding a context x) → stands.ticket.id ≢ id
apart-from a context name id x fits its stands same =
    let held = (locks_at a context.who).held in
    let there = fits.backed its.ticket its.kept in
    let one : stands.ticket ≡ there.0 =
    same-number held (pairs-from_rising held (core-rising a context.who fits.speaks)) stands.ticket there.0 stands.there there.1
    (same ∙ sym (there.2 ∙ its.number)) in
    let place : stands.ticket.place ≡ its.place = ap (λ (t : Held). t.place) one ∙ there.3 ∙ its.at in
    let key = fits-known a context (user_lock_key name) its.place fits its.known in
    never-defined (standing_at its.place a)
    (subst (λ (k : KeyName). MayStand k.namespace (standing_at its.place a)) key.1 (fits.speaks.1.standing its.place key.0))
    (subst (λ p. is_defined (standing_at p a) ≡ true) place stands.defined)

-- ---- a lock that is tried

-- where it is had, its ticket is kept at the place of the key
abbrev IsTried : KeyName → Outcome Tried → Type 0
IsTried key (Ok (try_as.Acquired id), context) = IsOfKey context key id
IsTried key outcome = Unit {0}

module _ (request : Wish) (context : ContextView) (place : ℕ) (known : place_known request.key context.known ≡ Some place) where
  tried-again : (t : Kept) → find (requests.is_reusable place request) context.kept ≡ Some t → IsOfKey context request.key t.id
  tried-again t found =
      let passes = find-passes (requests.is_reusable place request) context.kept t found in
      let parts = and_parts (requests.suffices place request t && lasts request.duration t) (not (lasts Explicit t)) passes in
      let serves = and_parts (requests.suffices place request t) (lasts request.duration t) parts.0 in
      record {
        place = place;
        known = known;
        ticket = t;
        kept = find-contains (requests.is_reusable place request) context.kept t found;
        at = equal t.place place (suffices-at place request t serves.0);
        number = refl;
      }

  tried-got : (end : Result Tried SpaceError) → IsTried request.key (requests.outcome_tried place request context end)
  tried-got (Ok (try_as.Acquired id)) =
      let new = kept_ticket id place request in
      record {
        place = place;
        known = known;
        ticket = new;
        kept = Contains-append_right context.kept (new ∷ []) new (Contains-here new []);
        at = refl;
        number = refl;
      }
  tried-got (Ok try_as.WouldWait) = tt
  tried-got (Err refusal) = tt

  tried-found : (found : Option Kept) → find (requests.is_reusable place request) context.kept ≡ found
      → Each (IsTried request.key) (requests.trying_again (option_map held_of found) place request context)
  tried-found (Some t) e = tried-again t e
  tried-found None e = (
    tt,
    each_then {A = Result Tried SpaceError} {B = Outcome Tried} (IsTried request.key)
        (gains.trying_from (earliest (requests.suffices place request) context.kept) context.who place request.mode)
        (λ end. Give (requests.outcome_tried place request context end)) tried-got,
  )

  tried-at : Each (IsTried request.key) (requests.trying_at place request context)
  tried-at = tried-found (find (requests.is_reusable place request) context.kept) refl

-- a place where it wasn't had is let go
tried-let_go : (key : KeyName) (place : ℕ) (context : ContextView) (outcome : Outcome Tried) → IsTried key outcome
    → Each (IsTried key) (requests.letting_go requests.got_at_once place context outcome)
tried-let_go key place context (Ok (try_as.Acquired id), after) its = its
tried-let_go key place context (Ok try_as.WouldWait, after) its = λ answer. tt
tried-let_go key place context (Err error, after) its = λ answer. tt

tried-place : (request : Wish) (context : ContextView) → place_known request.key context.known ≡ None → (answer : Answer)
    → Each (IsTried request.key) (requests.trying_placed request context answer)
tried-place request context new (At_place place) =
    let now = requests.remembering request.key place context in
    each_bind {A = Outcome Tried} {B = Outcome Tried} (IsTried request.key) (IsTried request.key)
    (Grow (requests.starved context) (requests.trying_at place request now)) (requests.letting_go requests.got_at_once place context)
    (tt, tried-at request now place (known-last request.key context.known place new)) (tried-let_go request.key place context)
tried-place request context new _ = tt

tried-finding : (request : Wish) (context : ContextView) (found : Option ℕ) → place_known request.key context.known ≡ found
    → Each (IsTried request.key) (requests.trying_found found request context)
tried-finding request context (Some place) e = tried-at request context place e
tried-finding request context None e = λ answer. tried-place request context e answer

tried-key : (request : Wish) (context : ContextView) → Each (IsTried request.key) (trying request context)
tried-key request context =
    let found = place_known request.key context.known in
    either {A = Outcome Tried} (Each (IsTried request.key)) (is_some context.wait) (Give (Err Waiting, context)) (requests.trying_found found request context)
    tt (tried-finding request context found refl)

-- ---- a release

module _ (old : TableShown → Type 0) (live : Bool) (mark : Mark) (name : List ℕ) where
  point-released : (locks : List (ℕ × KeyName)) (seen : List TableShown) (a b : Core) (context after : ContextView) (state : State) (id : ℕ)
      → Point old live locks seen mark a context state → IsOfKey context (user_lock_key name) id → IsReleased a id context b after
      → Point old live [] [] mark b after state
  point-released locks seen a b context after state id point its released = record {
    fits = released.fits;
    unlocked = point.unlocked;
    was = point.was;
    opens = point.opens;
    kept = λ x is lives. (
        let h = point.kept x is lives in
        old-released a b id context after mark x h.0 h.1 released (apart-from a context name id x point.fits its h.0));
    locked = λ n key among. absurd (Contains-none (n, key) among);
    stands = λ x among. absurd (Contains-none x among);
  }

  -- a ticket of the lock is released, and then the statement is answered
  leads-freeing : (locks : List (ℕ × KeyName)) (seen : List TableShown) (a : Core) (session : Session) (id : ℕ) (told : Reply)
      → ((x : TableShown) → Tells told x → ⊥) → Point old live locks seen mark a session.context session.state
      → IsOfKey session.context (user_lock_key name) id → Leads (Comes old) (play (row.Release id (row.Give told)) mark session) a
  leads-freeing locks seen a session id told none point its =
      leads-bind (λ (outcome : Outcome (Unit {0})) b. IsReleased a id session.context b outcome.1) (Comes old) (releasing id session.context)
      (λ outcome. play (row.Give told) mark (with_context session outcome.1)) a (leads-released a id session.context point.fits)
      (λ outcome b released. leads-closing old live [] [] mark b (with_context session outcome.1)
      (point-released locks seen a b session.context outcome.1 session.state id point its released) (Answers told)
      (λ lives x tell. absurd (none x tell)))

  -- the lock was tried
  leads-attempted : (a b : Core) (session : Session) (outcome : Outcome Tried) → Point old live [] [] mark a session.context session.state
      → IsTried (user_lock_key name) outcome → Followed a session.context b outcome.1
      → Leads (Comes old) (playing.tried mark session (λ got after. play (does.given got) mark after) outcome) b
  leads-attempted a b session (Ok (try_as.Acquired id), context) point its followed =
      leads-freeing [] [] b (with_context session context) id reply.Null (λ x tell. tell)
      (point-followed old live [] [] mark a session.context session.state point b context followed) its
  leads-attempted a b session (Ok try_as.WouldWait, context) point its followed =
      leads-closing old live [] [] mark b (with_context session context)
      (point-followed old live [] [] mark a session.context session.state point b context followed) (Answers (reply.Number false))
      (λ lives x tell. absurd tell)
  leads-attempted a b session (Err error, context) point its followed =
      leads-closing old live [] [] mark b (with_context session context)
      (point-followed old live [] [] mark a session.context session.state point b context followed) (ending_of_error error)
      (λ lives x tell. absurd (tells_no_error error x tell))

  leads-give_back : (a : Core) (session : Session) (held : Option ℕ) → last_ticket (user_lock_key name) session.context ≡ held
      → Point old live [] [] mark a session.context session.state
      → Leads (Comes old) (play (does.give_back (user_lock_key name) held) mark session) a
  leads-give_back a session (Some id) e point =
      leads-freeing [] [] a session id (reply.Number true) (λ x tell. tell) point (last-of_key (user_lock_key name) session.context id e)
  leads-give_back a session None e point =
      let wish : Wish = record { key = user_lock_key name; mode = X; duration = Explicit } in
      leads-bind (λ (outcome : Outcome Tried) b. IsTried (user_lock_key name) outcome × Followed a session.context b outcome.1) (Comes old)
      (trying wish session.context) (playing.tried mark session (λ got after. play (does.given got) mark after)) a
      (leads-each (IsTried (user_lock_key name)) (λ (outcome : Outcome Tried) b. Followed a session.context b outcome.1) (trying wish session.context) a
      (tried-key wish session.context) (leads-trying a wish session.context point.fits))
      (λ outcome b h. leads-attempted a b session outcome point h.0 h.1)

-- RELEASE_LOCK leaves what was shown before
pub leads-release_lock : (old : TableShown → Type 0) (name : List ℕ) (a : Core) (session : Session) → Rests old a session
    → Leads (Comes old) (starting (statement.ReleaseLock name) session) a
leads-release_lock old name a session rests =
    leads-give_back old session.state.is_open (current_mark session.context.kept) name a session (last_ticket (user_lock_key name) session.context) refl
    (point-resting old a session rests)
