-- A context that asks for a lock goes on to attend to its session, and leaves no pin behind, whatever the lock space answers.
use Rattle.std.proofs.Common.{◌≡◌, ℕ, Bool, true, false, List, [], ◌∷◌, ◌++◌, Option, Some, None, Result, Ok, Err, inl, inr, refl, sym, ap, ◌∙◌, subst, arith}
use Rattle.std.specs.Prelude.{is_some, if◌then◌else◌}
use Rattle.std.specs.Option.{IfSome}
use Rattle.mdl_key.specs.Keys.{KeyName}
use Rattle.mdl_calls.specs.declared.answers.Held.{Held}
use Rattle.mdl_calls.specs.declared.lock_space.LockSpace.{Ghosts}
use Rattle.mdl_calls.specs.declared.space_error.SpaceError.{SpaceError}
use Rattle.mdl_calls.specs.declared.space_error.SpaceError.TheVariants.{OutOfMemory}
use Rattle.mdl_calls.specs.MemberLaws.{LawsOf}
use Rattle.mdl_calls.specs.Words.{Answer, At_place, Resolve, SessionLocks, Unpin, IsRising, is_pinned, ticket_held, Program, Runs, Give, Ask, Grow, ◌>>=◌}
use Rattle.mdl_calls.proofs.FaithfulLemmas.{each_reply}
use Rattle.mdl_calls.proofs.PinLemmas.{pinned-told}
use Rattle.mdl_context.specs.declared.asking.AskResult.{AskResult}
use Rattle.mdl_context.specs.declared.asking.AskResult.TheVariants as got
use Rattle.mdl_context.specs.declared.context_error.ContextError.{ContextError}
use Rattle.mdl_context.specs.declared.context_error.ContextError.TheVariants.{Waiting, Space}
use Rattle.mdl_context.specs.declared.kept.Kept.{Kept}
use Rattle.mdl_context.specs.declared.kept.Wanted.{Wanted}
use Rattle.mdl_context.specs.declared.request.Acquire.{Acquire}
use Rattle.mdl_context.specs.declared.request.Acquire.TheVariants.{Acquired}
use Rattle.mdl_context.specs.declared.request.Tried.{Tried}
use Rattle.mdl_context.specs.declared.request.Tried.TheVariants as try_as
use Rattle.mdl_context.specs.Contexts.{Attends, ContextView, Serves, is_known_place, place_known}
use Rattle.mdl_context.specs.Gains.{gaining_from, own_got, own_tried, refusal_answered, trying_from}
use Rattle.mdl_context.specs.Holdings.{earliest, is_kept_at}
use Rattle.mdl_context.specs.Requests.{Outcome, acquiring, acquiring_at, awaiting, finding, got_at_once, got_lock, is_reusable, keeping_ticket, letting_go, outcome_got, outcome_tried, place_answered, remembering, reusing, starved, suffices, trying, trying_again, trying_at, trying_found, trying_placed}
use Rattle.mdl_context.specs.Tidying.{IsTidy, StaysTidy, unpinning_all}
use Rattle.mdl_context.specs.Wishes.{Wish}
use Rattle.mdl_context.proofs.AttendLemmas.{attends-awaiting, attends-granted, attends-knows, attends-learnt, attends-resolved, attends-same, known-last, known-place, pinned-resolved, still-known-place}
use Rattle.mdl_context.proofs.GainLemmas.{idle-there}
use Rattle.mdl_context.proofs.JustLemmas.{pinned-same}
use Rattle.mdl_context.proofs.LetGoLemmas.{attends-forgetting, attends-let_go, debts-let_go, had-let_go, tidy-had, tidy-known, tidy-same}
use Rattle.mdl_context.proofs.PlaceLemmas.{equal, suffices-at}
use Rattle.mdl_context.proofs.ServingLemmas.{earliest-held}
use Rattle.mdl_context.proofs.StayTidyLemmas.{tidy-finding, tidy-trying_found}
use Rattle.mdl_context.proofs.TidyLemmas.{debts-run}
use Rattle.mdl_rows.proofs.OwnRuns.{Has, got-gaining, has-first, tries-gaining}
use Rattle.mdl_rows.proofs.RunParts.{parted}

-- a context goes on to attend to its session, and leaves no pin behind
pub record Stays {S : Type 0} (members : Ghosts S) (a : S) (before : ContextView) (b : S) (after : ContextView) : Type 0 where
  pub who : after.who ≡ before.who
  pub attends : Attends members b after
  pub tidy : StaysTidy members a before b after

-- what follows a run that ended so
pub stays-given : {S A : Type 0} (members : Ghosts S) (a mid b : S) (before : ContextView) (given reply : Outcome A) → Stays members a before mid given.1
    → given ≡ reply → mid ≡ b → Stays members a before b reply.1
stays-given members a mid b before given reply stays same here =
    subst (λ s. Stays members a before s reply.1) here (subst (λ (o : Outcome _). Stays members a before mid o.1) same stays)

-- a request at a known place: the context knows the same places afterwards, and its session pins the same ones. If it got nothing, nothing has changed
pub record GotAt {S A : Type 0} (members : Ghosts S) (has_got : Result A ContextError → Bool) (a : S) (context : ContextView) (b : S) (reply : Outcome A) : Type 0 where
  pub who : reply.1.who ≡ context.who
  pub attends : Attends members b reply.1
  pub known : reply.1.known ≡ context.known
  pub pins : (members.own b context.who).pins ≡ (members.own a context.who).pins
  pub lost : has_got reply.0 ≡ false → (reply.1 ≡ context) × (members.own b context.who ≡ members.own a context.who)

gets-given : {S A : Type 0} (members : Ghosts S) (has_got : Result A ContextError → Bool) (a mid b : S) (context : ContextView) (given reply : Outcome A)
    → GotAt members has_got a context mid given → given ≡ reply → mid ≡ b → GotAt members has_got a context b reply
gets-given members has_got a mid b context given reply gets same here =
    subst (λ s. GotAt members has_got a context s reply) here (subst (GotAt members has_got a context mid) same gets)

gets-still : {S A : Type 0} (members : Ghosts S) (has_got : Result A ContextError → Bool) (a : S) (context : ContextView) (reply : Result A ContextError)
    → Attends members a context → GotAt members has_got a context a (reply, context)
gets-still members has_got a context reply attends = record { who = refl; attends = attends; known = refl; pins = refl; lost = λ _. (refl, refl) }

-- ---- tickets that suffice

-- what is found at a place is there
found-there : (p : Kept → Bool) (place : ℕ) (kept : List Kept) (held : Held) → ((t : Kept) → p t ≡ true → is_kept_at place t ≡ true) → earliest p kept ≡ Some held
    → held.place ≡ place
found-there p place [] held there found = cc
found-there p place (x ∷ xs) held there found = go (p x) refl (found-there p place xs held there) where
  go : (b : Bool) → p x ≡ b → (earliest p xs ≡ Some held → held.place ≡ place) → held.place ≡ place
  go true e later = let here : held.place ≡ x.place = grind (arith, e, found) in here ∙ equal x.place place (there x e)
  go false e later = later (grind (arith, e, found))

-- a ticket that suffices is held, and at the place
enough-there : (place : ℕ) (request : Wish) (own : SessionLocks) (context : ContextView) (ticket : Option Held) → IsRising own → Serves own context
    → ticket ≡ earliest (suffices place request) context.kept → IfSome ticket (λ held. (ticket_held held.id own ≡ Some held) × (held.place ≡ place))
enough-there place request own context None rising serves is = tt
enough-there place request own context (Some held) rising serves is =
    (earliest-held (suffices place request) own context held rising serves (sym is), found-there (suffices place request) place context.kept held (suffices-at place request) (sym is))

-- ---- at a known place

module _ {S : Type 0} (members : Ghosts S) (laws : LawsOf members) where
  module _ (place : ℕ) (request : Wish) (a : S) (context : ContextView) (attends : Attends members a context) (idle : context.wait ≡ None)
      (there : is_known_place context.known place ≡ true) where
    abbrev own : SessionLocks
    own = members.own a context.who

    first : Has members laws context.who a a own
    first = has-first members laws context.who a attends.speaks

    enough : IfSome (earliest (suffices place request) context.kept) (λ held. (ticket_held held.id own ≡ Some held) × (held.place ≡ place))
    enough = enough-there place request own context (earliest (suffices place request) context.kept) (laws.rising a context.who attends.speaks) attends.serves refl

    gets-ends : (b : S) (result : Result AskResult SpaceError) → Has members laws context.who a b (own_got place request.mode result own)
        → GotAt members got_lock a context b (outcome_got place request context result)
    gets-ends b (Ok (got.Granted id)) has = record {
      who = refl;
      attends = attends-granted a b context (keeping_ticket id place request context) id place request attends has.knows has.speaks has.is there (ap is_some idle) refl;
      known = refl;
      pins = ap (λ (o : SessionLocks). o.pins) has.is;
      lost = λ e. cc;
    }
    gets-ends b (Ok (got.Waits number searched)) has = record {
      who = refl;
      attends = attends-awaiting a b context (awaiting place request searched context) number place request searched attends has.knows has.speaks has.is there refl;
      known = refl;
      pins = ap (λ (o : SessionLocks). o.pins) has.is;
      lost = λ e. cc;
    }
    gets-ends b (Err refusal) has = record {
      who = refl;
      attends = attends-same a b context attends has.knows has.speaks has.is;
      known = refl;
      pins = ap (λ (o : SessionLocks). o.pins) has.is;
      lost = λ _. (refl, has.is);
    }

    gets-reusing : (found : Option Held) (b : S) (reply : Outcome Acquire) → Runs members.joins a (reusing found place request context) reply b
        → GotAt members got_lock a context b reply
    gets-reusing (Some ticket) b reply run =
        gets-given members got_lock a a b context (Ok (Acquired ticket.id), context) reply (gets-still members got_lock a context (Ok (Acquired ticket.id)) attends) run.0 run.1
    gets-reusing None b reply (inl run) =
        gets-given members got_lock a a b context (Err (Space OutOfMemory), context) reply (gets-still members got_lock a context (Err (Space OutOfMemory)) attends) run.0 run.1
    gets-reusing None b reply (inr run) =
        let ticket = earliest (suffices place request) context.kept in
        let parts = parted {A = Result AskResult SpaceError} {B = Outcome Acquire} members.joins (gaining_from ticket context.who place request.mode)
        (λ end. Give (outcome_got place request context end)) a b reply run in
        gets-given members got_lock a parts.1 b context (outcome_got place request context parts.0) reply
        (gets-ends parts.1 parts.0
        (got-gaining members laws context.who place request.mode ticket a a parts.1 own parts.0 (idle-there own context attends.serves idle) enough first parts.2))
        parts.3.0 parts.3.1

    pub gets-acquiring_at : (b : S) (reply : Outcome Acquire) → Runs members.joins a (acquiring_at place request context) reply b → GotAt members got_lock a context b reply
    gets-acquiring_at b reply run = gets-reusing (earliest (is_reusable place request) context.kept) b reply run

    -- ---- without a wait

    gets-tried : (b : S) (result : Result Tried SpaceError) → Has members laws context.who a b (own_tried place request.mode result own)
        → GotAt members got_at_once a context b (outcome_tried place request context result)
    gets-tried b (Ok (try_as.Acquired id)) has = record {
      who = refl;
      attends = attends-granted a b context (keeping_ticket id place request context) id place request attends has.knows has.speaks has.is there (ap is_some idle) refl;
      known = refl;
      pins = ap (λ (o : SessionLocks). o.pins) has.is;
      lost = λ e. cc;
    }
    gets-tried b (Ok try_as.WouldWait) has = record {
      who = refl;
      attends = attends-same a b context attends has.knows has.speaks has.is;
      known = refl;
      pins = ap (λ (o : SessionLocks). o.pins) has.is;
      lost = λ _. (refl, has.is);
    }
    gets-tried b (Err refusal) has = record {
      who = refl;
      attends = attends-same a b context attends has.knows has.speaks has.is;
      known = refl;
      pins = ap (λ (o : SessionLocks). o.pins) has.is;
      lost = λ _. (refl, has.is);
    }

    gets-trying_again : (found : Option Held) (b : S) (reply : Outcome Tried) → Runs members.joins a (trying_again found place request context) reply b
        → GotAt members got_at_once a context b reply
    gets-trying_again (Some ticket) b reply run =
        gets-given members got_at_once a a b context (Ok (try_as.Acquired ticket.id), context) reply
        (gets-still members got_at_once a context (Ok (try_as.Acquired ticket.id)) attends) run.0 run.1
    gets-trying_again None b reply (inl run) =
        gets-given members got_at_once a a b context (Err (Space OutOfMemory), context) reply
        (gets-still members got_at_once a context (Err (Space OutOfMemory)) attends) run.0 run.1
    gets-trying_again None b reply (inr run) =
        let ticket = earliest (suffices place request) context.kept in
        let parts = parted {A = Result Tried SpaceError} {B = Outcome Tried} members.joins (trying_from ticket context.who place request.mode)
        (λ end. Give (outcome_tried place request context end)) a b reply run in
        gets-given members got_at_once a parts.1 b context (outcome_tried place request context parts.0) reply
        (gets-tried parts.1 parts.0 (tries-gaining members laws context.who place request.mode ticket a a parts.1 own parts.0 enough first parts.2))
        parts.3.0 parts.3.1

    pub gets-trying_at : (b : S) (reply : Outcome Tried) → Runs members.joins a (trying_at place request context) reply b → GotAt members got_at_once a context b reply
    gets-trying_at b reply run = gets-trying_again (earliest (is_reusable place request) context.kept) b reply run

  -- over a run no debt comes
  module _ {A : Type 0} (program : Program (Outcome A)) (a b : S) (context : ContextView) (reply : Outcome A) (attends : Attends members a context)
      (run : Runs members.joins a program reply b) where
    pub debts : (place : ℕ) → members.owes b context.who place → members.owes a context.who place
    debts = debts-run members laws program a b reply context.who attends.speaks run

    -- so no pin is left behind at a known place
    stays-known : (has_got : Result A ContextError → Bool) → GotAt members has_got a context b reply → (IsTidy context → IsTidy reply.1) → Stays members a context b reply.1
    stays-known has_got gets tidy = record {
      who = gets.who;
      attends = gets.attends;
      tidy = tidy-same members laws a b context reply.1 debts attends gets.who tidy gets.known gets.pins;
    }

  -- nor where no place was given to the key
  stays-unplaced : (a b : S) (context : ContextView) (answer : Answer) (key : KeyName) → Attends members a context → members.joins a (Resolve context.who key) answer b
      → members.own b context.who ≡ members.own a context.who → Stays members a context b context
  stays-unplaced a b context answer key attends step same = record {
    who = refl;
    attends = attends-resolved members laws a b key answer context attends step;
    tidy = tidy-same members laws a b context context (λ place owes. laws.no_new_debts a b (Resolve context.who key) answer context.who place attends.speaks step owes) attends refl
        (λ tidy. tidy) refl (ap (λ (o : SessionLocks). o.pins) same);
  }

  -- a place that was looked up is known once it is remembered
  learns : (a looked_up : S) (context : ContextView) (key : KeyName) (place : ℕ) → Attends members a context
      → members.joins a (Resolve context.who key) (At_place place) looked_up → Attends members looked_up (remembering key place context)
  learns a looked_up context key place attends step =
      attends-learnt looked_up key place context (remembering key place context) (attends-resolved members laws a looked_up key (At_place place) context attends step)
      (laws.resolves a looked_up context.who place key step) (pinned-resolved members laws a looked_up context.who place key step) refl

  -- ---- at a place that was looked up

  module _ {A : Type 0} (has_got : Result A ContextError → Bool) (starves : has_got (Err (Space OutOfMemory)) ≡ false) (key : KeyName) (place : ℕ)
      (request : Program (Outcome A)) (a looked_up : S) (context : ContextView) (attends : Attends members a context) (new : place_known key context.known ≡ None)
      (step : members.joins a (Resolve context.who key) (At_place place) looked_up)
      (gets : (b : S) (reply : Outcome A) → Runs members.joins looked_up request reply b → GotAt members has_got looked_up (remembering key place context) b reply) where
    abbrev who : ℕ
    who = context.who

    speaks : members.speaks_for looked_up who
    speaks = laws.keeps a looked_up (Resolve who key) (At_place place) who attends.speaks step

    attended : Attends members looked_up context
    attended = attends-resolved members laws a looked_up key (At_place place) context attends step

    -- the request got nothing, and the pin is given up
    let-go : (mid b : S) → Attends members mid (remembering key place context) → members.own mid who ≡ members.own looked_up who
        → ((p : ℕ) → members.owes mid who p → members.owes looked_up who p) → Runs members.joins mid (unpinning_all who (place ∷ [])) tt b
        → Stays members a context b context
    let-go mid b there same owed run =
        let knows = attends-knows {members = members} mid (remembering key place context) who place key there refl (known-last key context.known place new) in
        record {
          who = refl;
          attends = attends-let_go members laws mid context key place (attends-forgetting members laws looked_up mid key place context attended there) knows new b run;
          tidy = tidy-had members laws a b context context
              (debts-let_go members laws a looked_up mid b context key place attends new step same there.speaks owed run) key refl
              (had-let_go members laws a looked_up mid b context key place attends new step same there.speaks owed run);
        }

    -- the request got something
    kept : (b : S) (reply : Outcome A) → GotAt members has_got looked_up (remembering key place context) b reply
        → ((p : ℕ) → members.owes b who p → members.owes a who p) → (IsTidy context → IsTidy reply.1) → Stays members a context b reply.1
    kept b reply found owed tidy = record {
      who = found.who;
      attends = found.attends;
      tidy = tidy-known members laws a b context reply.1 owed attends found.who tidy (λ so p pinned.
          let held : is_pinned p (members.own looked_up who) ≡ true =
          sym (pinned-same (members.own looked_up who) (members.own b who) p found.pins) ∙ pinned in
          ap (λ known. is_known_place known p) found.known
          ∙ elim (pinned-told p place (members.own a who) (ap (is_pinned p) (sym (laws.changes a looked_up (Resolve who key) (At_place place) who refl step)) ∙ held)) [
            | inl here ↦ rw here (known-place key (context.known ++ (key, place) ∷ []) place (known-last key context.known place new))
            | inr was ↦ still-known-place context.known (key, place) p (so p was)
          ]);
    }

    -- how the request ends
    ends : (mid b : S) (given : Result A ContextError) (after : ContextView) (reply : Outcome A) → GotAt members has_got looked_up (remembering key place context) mid (given, after)
        → ((p : ℕ) → members.owes mid who p → members.owes looked_up who p) → ((p : ℕ) → members.owes b who p → members.owes a who p)
        → (IsTidy context → IsTidy reply.1) → Runs members.joins mid (letting_go has_got place context (given, after)) reply b → Stays members a context b reply.1
    ends mid b given after reply found owed all tidy run = by (has_got given) refl run where
      by : (t : Bool) → has_got given ≡ t → Runs members.joins mid (if t then Give (given, after) else Ask (Unpin who place) (λ _. Give (given, context))) reply b
          → Stays members a context b reply.1
      by true has (same, here) = kept b reply (gets-given members has_got looked_up mid b (remembering key place context) (given, after) reply found same here) all tidy
      by false has (answer, next, unpin, (same, here)) =
          let lost = found.lost has in
          stays-given {A = A} members a next b context (given, context) reply
          (let-go mid next (subst (Attends members mid) lost.0 found.attends) lost.1 owed (answer, next, unpin, (refl, refl))) same here

    pub stays-looked_up : (b : S) (reply : Outcome A) → ((p : ℕ) → members.owes b who p → members.owes a who p) → (IsTidy context → IsTidy reply.1)
        → Runs members.joins looked_up (Grow (starved context) request >>= letting_go has_got place context) reply b → Stays members a context b reply.1
    stays-looked_up b reply all tidy (inl run) = starve run where
      starve : Runs members.joins looked_up (letting_go has_got place context (Err (Space OutOfMemory), context)) reply b → Stays members a context b reply.1
      starve = subst (λ t. Runs members.joins looked_up (if t then Give (Err (Space OutOfMemory), context) else Ask (Unpin who place) (λ _. Give (Err (Space OutOfMemory), context))) reply b
          → Stays members a context b reply.1) (sym starves) (λ run. stays-given {A = A} members a run.1 b context (Err (Space OutOfMemory), context) reply
          (let-go looked_up run.1 (learns a looked_up context key place attends step) refl (λ p owes. owes) (run.0, run.1, run.2, (refl, refl))) run.3.0 run.3.1)
    stays-looked_up b reply all tidy (inr run) =
        let parts = parted {A = Outcome A} {B = Outcome A} members.joins request (letting_go has_got place context) looked_up b reply run in
        ends parts.1 b parts.0.0 parts.0.1 reply (gets parts.1 parts.0 parts.2) (debts-run members laws request looked_up parts.1 parts.0 who speaks parts.2) all tidy parts.3

  -- ---- requests

  module _ (request : Wish) (a b : S) (context : ContextView) (attends : Attends members a context) (idle : context.wait ≡ None) where
    -- what a looked up place's context lets requests ask
    place-there : (place : ℕ) → place_known request.key context.known ≡ None → is_known_place (remembering request.key place context).known place ≡ true
    place-there place new = known-place request.key (context.known ++ (request.key, place) ∷ []) place (known-last request.key context.known place new)

    module _ (looked_up : S) (place : ℕ) (new : place_known request.key context.known ≡ None)
        (step : members.joins a (Resolve context.who request.key) (At_place place) looked_up) where
      attends-there : Attends members looked_up (remembering request.key place context)
      attends-there = learns a looked_up context request.key place attends step

      stays-placed : (reply : Outcome Acquire) → ((p : ℕ) → members.owes b context.who p → members.owes a context.who p) → (IsTidy context → IsTidy reply.1)
          → Runs members.joins looked_up (place_answered request context (At_place place)) reply b → Stays members a context b reply.1
      stays-placed reply =
          stays-looked_up {A = Acquire} got_lock refl request.key place (acquiring_at place request (remembering request.key place context)) a looked_up context attends new step
          (λ end got. gets-acquiring_at place request looked_up (remembering request.key place context) attends-there idle (place-there place new) end got) b reply

      stays-tried : (reply : Outcome Tried) → ((p : ℕ) → members.owes b context.who p → members.owes a context.who p) → (IsTidy context → IsTidy reply.1)
          → Runs members.joins looked_up (trying_placed request context (At_place place)) reply b → Stays members a context b reply.1
      stays-tried reply =
          stays-looked_up {A = Tried} got_at_once refl request.key place (trying_at place request (remembering request.key place context)) a looked_up context attends new step
          (λ end got. gets-trying_at place request looked_up (remembering request.key place context) attends-there idle (place-there place new) end got) b reply

    -- the place was asked for
    stays-answered : (looked_up : S) (answer : Answer) (reply : Outcome Acquire) → place_known request.key context.known ≡ None
        → members.joins a (Resolve context.who request.key) answer looked_up → ((p : ℕ) → members.owes b context.who p → members.owes a context.who p)
        → (IsTidy context → IsTidy reply.1) → Runs members.joins looked_up (place_answered request context answer) reply b → Stays members a context b reply.1
    stays-answered looked_up (At_place place) reply new step owed tidy run = stays-placed looked_up place new step reply owed tidy run
    stays-answered looked_up answer reply new step owed tidy run =
        stays-given {A = Acquire} members a looked_up b context (Err (Space (refusal_answered answer)), context) reply
        (stays-unplaced a looked_up context answer request.key attends step (laws.changes a looked_up (Resolve context.who request.key) answer context.who refl step)) run.0 run.1

    stays-finding : (found : Option ℕ) (reply : Outcome Acquire) → place_known request.key context.known ≡ found → Runs members.joins a (finding found request context) reply b
        → Stays members a context b reply.1
    stays-finding (Some place) reply is run =
        stays-known {A = Acquire} (acquiring_at place request context) a b context reply attends run got_lock
        (gets-acquiring_at place request a context attends idle (known-place request.key context.known place is) b reply run)
        (λ tidy. each_reply members.joins (λ (o : Outcome Acquire). IsTidy o.1) (acquiring_at place request context) a b reply (tidy-finding (Some place) request context tidy idle) run)
    stays-finding None reply new run =
        stays-answered run.1 run.0 reply new run.2 (debts-run members laws (finding None request context) a b reply context.who attends.speaks run)
        (λ tidy. each_reply members.joins (λ (o : Outcome Acquire). IsTidy o.1) (finding None request context) a b reply (tidy-finding None request context tidy idle) run) run.3

    stays-tries : (looked_up : S) (answer : Answer) (reply : Outcome Tried) → place_known request.key context.known ≡ None
        → members.joins a (Resolve context.who request.key) answer looked_up → ((p : ℕ) → members.owes b context.who p → members.owes a context.who p)
        → (IsTidy context → IsTidy reply.1) → Runs members.joins looked_up (trying_placed request context answer) reply b → Stays members a context b reply.1
    stays-tries looked_up (At_place place) reply new step owed tidy run = stays-tried looked_up place new step reply owed tidy run
    stays-tries looked_up answer reply new step owed tidy run =
        stays-given {A = Tried} members a looked_up b context (Err (Space (refusal_answered answer)), context) reply
        (stays-unplaced a looked_up context answer request.key attends step (laws.changes a looked_up (Resolve context.who request.key) answer context.who refl step)) run.0 run.1

    stays-trying_found : (found : Option ℕ) (reply : Outcome Tried) → place_known request.key context.known ≡ found → Runs members.joins a (trying_found found request context) reply b
        → Stays members a context b reply.1
    stays-trying_found (Some place) reply is run =
        stays-known {A = Tried} (trying_at place request context) a b context reply attends run got_at_once
        (gets-trying_at place request a context attends idle (known-place request.key context.known place is) b reply run)
        (λ tidy. each_reply members.joins (λ (o : Outcome Tried). IsTidy o.1) (trying_at place request context) a b reply (tidy-trying_found (Some place) request context tidy) run)
    stays-trying_found None reply new run =
        stays-tries run.1 run.0 reply new run.2 (debts-run members laws (trying_found None request context) a b reply context.who attends.speaks run)
        (λ tidy. each_reply members.joins (λ (o : Outcome Tried). IsTidy o.1) (trying_found None request context) a b reply (tidy-trying_found None request context tidy) run) run.3

    -- what a waiting context is refused, it isn't refused here
    asked : {B : Type 0} (program : Program (Outcome B)) (reply : Outcome B)
        → Runs members.joins a (if is_some context.wait then Give (Err Waiting, context) else program) reply b → Runs members.joins a program reply b
    asked program reply run = subst (λ (wait : Option Wanted). Runs members.joins a (if is_some wait then Give (Err Waiting, context) else program) reply b) idle run

    pub stays-acquiring : (reply : Outcome Acquire) → Runs members.joins a (acquiring request context) reply b → Stays members a context b reply.1
    stays-acquiring reply run =
        let found = place_known request.key context.known in
        stays-finding found reply refl (asked {B = Acquire} (finding found request context) reply run)

    pub stays-trying : (reply : Outcome Tried) → Runs members.joins a (trying request context) reply b → Stays members a context b reply.1
    stays-trying reply run =
        let found = place_known request.key context.known in
        stays-trying_found found reply refl (asked {B = Tried} (trying_found found request context) reply run)
