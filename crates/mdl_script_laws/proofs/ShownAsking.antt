-- All that a context asks of the space leaves it what it kept, held.
use Rattle.std.proofs.Common.{◌≡◌, inl, inr, ℕ, Bool, true, false, List, [], ◌∷◌, ◌++◌, Option, Some, None, Result, Err, Contains, is_some, option_map, find, refl, sym, ap, ◌∙◌, subst, eq-eqb}
use Rattle.std.specs.Prelude.{if◌then◌else◌}
use Rattle.std.proofs.lemmas.List.Elements.{Contains-append_cases}
use Rattle.mdl_key.specs.declared.mode.Mode.{Mode}
use Rattle.mdl_key.specs.Keys.{KeyName}
use Rattle.mdl_system.proofs.MemberLemmas.{Contains-none}
use Rattle.mdl_system.proofs.OrderLemmas.{Contains-cons_cases}
use Rattle.mdl_book.proofs.TicketLemmas.{find-passes, find-contains}
use Rattle.mdl_calls.specs.declared.answers.Held.{Held}
use Rattle.mdl_calls.specs.SessionLocks.{Wait}
use Rattle.mdl_calls.specs.Words.{Answer, At_place, Granted, Would_wait, Waits, Resolve, Try_now, Begin_wait, Settle_timeout, End_wait, Release, Clone_ticket, Unpin, SessionLocks, IsRising, is_waiting, ticket_held, is_number, gaining, cloning, winning, Program, Give, Ask, Grow, EachCall, SearchEnd, Over, Cut_off, Failed, seeking, most_searches}
use Rattle.mdl_calls.proofs.SeekingLemmas.{calls_seeking}
use Rattle.mdl_core.specs.CoreJoins.{Joins, Knows, SpeaksFor, locks_at}
use Rattle.mdl_core.specs.Cores.{Core}
use Rattle.mdl_core.proofs.CallLaws.{core-changes, core-explains, core-resolves, core-rising}
use Rattle.mdl_core.proofs.CoreServing.{found-first}
use Rattle.mdl_core.proofs.PairLemmas.{pairs-from_rising, same-number}
use Rattle.mdl_context.specs.declared.context_error.ContextError.{ContextError}
use Rattle.mdl_context.specs.declared.context_error.ContextError.TheVariants.{Waiting}
use Rattle.mdl_context.specs.declared.kept.Kept.{Kept}
use Rattle.mdl_context.specs.declared.kept.Wanted.{Wanted}
use Rattle.mdl_context.specs.Wishes.{Wish}
use Rattle.mdl_context.specs.declared.request.Acquire.{Acquire}
use Rattle.mdl_context.specs.declared.request.Tried.{Tried}
use Rattle.mdl_context.specs.Contexts.{ContextView, held_of, place_known}
use Rattle.mdl_context.specs.Gains as gains
use Rattle.mdl_context.specs.Holdings.{earliest, kept_ticket, wanted_of}
use Rattle.mdl_context.specs.Requests as requests
use Rattle.mdl_context.specs.Requests.{Outcome}
use Rattle.mdl_context.proofs.PlaceLemmas.{suffices-at, equal}
use Rattle.mdl_script_laws.proofs.ListLemmas.{only-one}
use Rattle.mdl_script_laws.proofs.ShownCalls.{IsQuiet, Leads, Spares, Stays, leads-bind, leads-map, leads-quiet, none, spares-call, spares-then, stays-call, stays-here, unpins-call}
use Rattle.mdl_script_laws.proofs.ShownContexts.{Fits, Followed, IsFresh, Spared, fits-more, fits-same, followed-forgotten, followed-here, followed-same, followed-spared, gained-fresh, gained-there, spared-here, spared-late, spared-waiting}

-- ---- numbers of tickets

none-found : {T : Type 0} (p : T → Bool) (xs : List T) (x : T) → find p xs ≡ None → Contains xs x → p x ≡ false
none-found p [] x found among = absurd (Contains-none x among)
none-found p (y ∷ ys) x found among =
    elim (p y) as (λ b. p y ≡ b → (if b then Some y else find p ys) ≡ None → p x ≡ false) [
      | true ↦ λ passes e. cc
      | false ↦ λ fails e. elim (Contains-cons_cases y ys x among) [ inl later ↦ none-found p ys x e later | inr same ↦ ap p same ∙ fails ]
    ] refl found

-- the ticket of a number that is held is the one of this number
pub held-number : (own : SessionLocks) (t : Held) (id : ℕ) → IsRising own → Contains own.held t → t.id ≡ id → ticket_held id own ≡ Some t
held-number own t id rising among number = go (ticket_held id own) refl
  where
    go : (o : Option Held) → ticket_held id own ≡ o → ticket_held id own ≡ Some t
    go None e = let fails = none-found (is_number id) own.held t e among in let passes = eq-eqb t.id id number in cc
    go (Some u) e =
        let h = found-first (is_number id) own.held u e in
        e ∙ ap Some (same-number own.held (pairs-from_rising own.held rising) u t h.0 among (equal u.id id h.1 ∙ sym number))

-- ---- a ticket that is gained

-- a ticket of a new number is held at a place
pub record IsGained (a : Core) (who id place : ℕ) (b : Core) : Type 0 where
  pub spares : Spares who none a b
  pub fresh : IsFresh a who id
  pub ticket : Held
  pub there : Contains (locks_at b who).held ticket
  pub number : ticket.id ≡ id
  pub at : ticket.place ≡ place

pub gained-by : (a b : Core) (who id place : ℕ) (mode : Mode) → Spares who none a b → locks_at b who ≡ gaining id place mode (locks_at a who)
    → IsGained a who id place b
gained-by a b who id place mode spares own = record {
  spares = spares;
  fresh = gained-fresh id place mode (locks_at a who) (subst IsRising own (core-rising b who spares.speaks));
  ticket = record { id = id; place = place; mode = mode };
  there = subst (λ (o : SessionLocks). Contains o.held (record { id = id; place = place; mode = mode })) (sym own) (gained-there id place mode (locks_at a who));
  number = refl;
  at = refl;
}

-- the same before
gained-late : (a b c : Core) (who id place : ℕ) → Spares who none a b → IsGained b who id place c → IsGained a who id place c
gained-late a b c who id place spares gained = record {
  spares = spares-then who none a b c spares gained.spares;
  fresh = λ t among. gained.fresh t (spares.held t among (λ g. g));
  ticket = gained.ticket;
  there = gained.there;
  number = gained.number;
  at = gained.at;
}

-- ---- a wait that ends

-- it ends with a ticket where the session waited
pub won-by : (a b : Core) (who id : ℕ) → SpeaksFor a who → Joins a (End_wait who) (Granted id) b
    → (w : Wait) × ((locks_at a who).wait ≡ Some w) × IsGained a who id w.place b
won-by a b who id speaks joins = go (locks_at a who).wait refl
  where
    spares : Spares who none a b
    spares = spares-call who none a b (End_wait who) (Granted id) speaks refl tt joins

    waits_there : is_waiting (locks_at a who) ≡ true
    waits_there = core-explains a b (End_wait who) (Granted id) who refl joins

    go : (o : Option Wait) → (locks_at a who).wait ≡ o → (w : Wait) × ((locks_at a who).wait ≡ Some w) × IsGained a who id w.place b
    go None e = let f : false ≡ true = sym (ap is_some e) ∙ waits_there in cc
    go (Some w) e =
        let own : locks_at b who ≡ winning id (Some w) (locks_at a who) = core-changes a b (End_wait who) (Granted id) who refl joins
        ∙ ap (λ o. winning id o (locks_at a who)) e in (
          w,
          e,
          record {
            spares = spares;
            fresh = gained-fresh id w.place w.mode (record (locks_at a who) { wait = None }) (subst IsRising own (core-rising b who spares.speaks));
            ticket = record { id = id; place = w.place; mode = w.mode };
            there = subst (λ (o : SessionLocks). Contains o.held (record { id = id; place = w.place; mode = w.mode })) (sym own)
                (gained-there id w.place w.mode (record (locks_at a who) { wait = None }));
            number = refl;
            at = refl;
          },
        )

-- a ticket of a new number is released again
released-again : (a b c : Core) (who id : ℕ) → Spares who none a b → IsFresh a who id → Spares who (λ n. n ≡ id) b c → Spares who none a c
released-again a b c who id early fresh late = record {
  speaks = late.speaks;
  held = λ t among stays. late.held t (early.held t among stays) (fresh t among);
  known = λ place key knows. late.known place key (early.known place key knows);
  stands = λ t among stays. late.stands t (early.held t among stays) (fresh t among) ∙ early.stands t among stays;
}

-- a wait that is abandoned
abandoned-end : (a b : Core) (who : ℕ) (answer : Answer) → Spares who none a b → SpeaksFor a who → Joins a (End_wait who) answer b
    → Leads (λ x c. Spares who none a c) (gains.unwanted_end_answered who answer) b
abandoned-end a b who (Granted id) spares speaks joins = λ answer c released.
    let won = won-by a b who id speaks joins in
    released-again a b c who id spares won.2.fresh (spares-call who (λ n. n ≡ id) b c (Release who id) answer spares.speaks refl refl released)
abandoned-end a b who answer spares speaks joins = spares

pub leads-abandoning : (a b : Core) (who : ℕ) → Spares who none a b → Leads (λ x c. Spares who none a c) (gains.abandoning who) b
leads-abandoning a b who spares = λ answer c settled end d ended.
    let first = spares-call who none b c (Settle_timeout who) answer spares.speaks refl tt settled in
    let second = spares-call who none c d (End_wait who) end first.speaks refl tt ended in
    leads-after (spares-then who none a b c spares first) (gains.unwanted_end_answered who end) d (abandoned-end c d who end second first.speaks ended)
  where
    leads-after : {c : Core} → Spares who none a c → (program : Program (Unit {0})) (d : Core) → Leads (λ x e. Spares who none c e) program d
        → Leads (λ x e. Spares who none a e) program d
    leads-after {c} early (Give x) d leads = spares-then who none a c d early leads
    leads-after {c} early (Ask call next) d leads = λ answer e joins. leads-after early (next answer) e (leads answer e joins)
    leads-after {c} early (Grow refused found) d leads = leads-after early found d leads

-- ---- a lock that is wished for

pub quiet-seeking : (who n : ℕ) → EachCall (IsQuiet who none) (seeking n who)
quiet-seeking who n = calls_seeking (IsQuiet who none) who (refl, tt, refl) n

module _ (a : Core) (context : ContextView) (place : ℕ) (request : Wish) (fits : Fits a context) (idle : context.wait ≡ None) where
  -- the end of asking for it
  abbrev Asked : Outcome Acquire → Core → Type 0
  Asked outcome b = Spared a context b outcome.1

  -- a ticket was had
  asked-gained : (b : Core) (id : ℕ) → IsGained a context.who id place b → Spared a context b (requests.keeping_ticket id place request context)
  asked-gained b id gained = record {
    fits = subst (λ wait. Fits b (record { who = context.who; kept = context.kept ++ kept_ticket id place request ∷ []; known = context.known; wait = wait })) (sym idle)
        (fits-more a b context (kept_ticket id place request) gained.ticket fits gained.spares gained.fresh gained.there gained.number gained.at);
    spares = gained.spares;
    who = refl;
    grown = inr (kept_ticket id place request, gained.fresh, refl);
  }

  -- a wait has begun
  asked-waits : (b : Core) (searched : Bool) → Spares context.who none a b → ((w : Wait) → (locks_at b context.who).wait ≡ Some w → w.place ≡ place)
      → Spared a context b (requests.awaiting place request searched context)
  asked-waits b searched spares at =
      spared-waiting a b context (Some (wanted_of place request searched)) fits spares
      (λ wanted w e f. (let g : wanted_of place request searched ≡ wanted = cc in at w f ∙ ap (λ (x : Wanted). x.place) g))

  -- there is none
  asked-refused : (b : Core) → Spares context.who none a b → Spared a context b context
  asked-refused b spares = spared-waiting a b context context.wait fits spares (λ wanted w e f. cc)

  asked-sought : (b : Core) (number : ℕ) (end : SearchEnd) → Spares context.who none a b → ((w : Wait) → (locks_at b context.who).wait ≡ Some w → w.place ≡ place)
      → Leads (λ got c. Asked (requests.outcome_got place request context got) c) (gains.wish_sought context.who number end) b
  asked-sought b number Over spares at = asked-waits b true spares at
  asked-sought b number Cut_off spares at = asked-waits b false spares at
  asked-sought b number (Failed refusal) spares at =
      leads-bind (λ x c. Spares context.who none a c) (λ got c. Asked (requests.outcome_got place request context got) c) (gains.abandoning context.who)
      (λ _. Give (Err refusal)) b
      (leads-abandoning a b context.who spares) (λ x c left. asked-refused c left)

  asked-wish : (b c : Core) (answer : Answer) → Spares context.who none a b → Joins b (Begin_wait context.who place request.mode) answer c
      → Leads (λ got d. Asked (requests.outcome_got place request context got) d) (gains.wish_answered context.who answer) c
  asked-wish b c (Granted id) spares joins =
      let step = spares-call context.who none b c (Begin_wait context.who place request.mode) (Granted id) spares.speaks refl tt joins in
      let own = core-changes b c (Begin_wait context.who place request.mode) (Granted id) context.who refl joins in
      asked-gained c id (gained-late a b c context.who id place spares (gained-by b c context.who id place request.mode step own))
  asked-wish b c (Waits number) spares joins =
      let step = spares-call context.who none b c (Begin_wait context.who place request.mode) (Waits number) spares.speaks refl tt joins in
      let own = core-changes b c (Begin_wait context.who place request.mode) (Waits number) context.who refl joins in
      leads-bind (λ x d. Stays context.who none c d) (λ got d. Asked (requests.outcome_got place request context got) d) (seeking most_searches context.who)
      (gains.wish_sought context.who number) c
      (leads-quiet (seeking most_searches context.who) c c context.who none (stays-here context.who none c step.speaks) (quiet-seeking context.who most_searches))
      (λ end d stays. asked-sought d number end (spares-then context.who none a c d (spares-then context.who none a b c spares step) stays.0)
      (λ w e. at w (subst (λ (o : SessionLocks). o.wait ≡ Some w) own (stays.1 w e))))
    where
      at : (w : Wait) → Some (record { number = number; place = place; mode = request.mode }) ≡ Some w → w.place ≡ place
      at w e = let f : record { number = number; place = place; mode = request.mode } ≡ w = cc in ap (λ (x : Wait). x.place) (sym f)
  asked-wish b c answer spares joins =
      let step = spares-call context.who none b c (Begin_wait context.who place request.mode) answer spares.speaks refl tt joins in
      asked-refused c (spares-then context.who none a b c spares step)

  asked-try : (b : Core) (answer : Answer) → Joins a (Try_now context.who place request.mode) answer b
      → Leads (λ got c. Asked (requests.outcome_got place request context got) c) (gains.try_answered context.who place request.mode answer) b
  asked-try b (Granted id) joins =
      let step = spares-call context.who none a b (Try_now context.who place request.mode) (Granted id) fits.speaks refl tt joins in
      asked-gained b id (gained-by a b context.who id place request.mode step
      (core-changes a b (Try_now context.who place request.mode) (Granted id) context.who refl joins))
  asked-try b Would_wait joins =
      let step = spares-call context.who none a b (Try_now context.who place request.mode) Would_wait fits.speaks refl tt joins in
      λ answer c begun. asked-wish b c answer step begun
  asked-try b answer joins = asked-refused b (spares-call context.who none a b (Try_now context.who place request.mode) answer fits.speaks refl tt joins)

  -- a ticket that may be cloned is held at the place
  abbrev IsBacked : Held → Type 0
  IsBacked ticket = (t : Held) × Contains (locks_at a context.who).held t × (t.id ≡ ticket.id) × (t.place ≡ place)

  -- a clone of it was had
  asked-cloned : (ticket : Held) (b : Core) (copy : ℕ) → IsBacked ticket → Joins a (Clone_ticket context.who ticket.id request.mode) (Granted copy) b
      → Spared a context b (requests.keeping_ticket copy place request context)
  asked-cloned ticket b copy backed joins =
      let step = spares-call context.who none a b (Clone_ticket context.who ticket.id request.mode) (Granted copy) fits.speaks refl tt joins in
      let held = held-number (locks_at a context.who) backed.0 ticket.id (core-rising a context.who fits.speaks) backed.1 backed.2 in
      let own = core-changes a b (Clone_ticket context.who ticket.id request.mode) (Granted copy) context.who refl joins
      ∙ ap (λ o. cloning copy request.mode o (locks_at a context.who)) held in
      asked-gained b copy (subst (λ p. IsGained a context.who copy p b) backed.3 (gained-by a b context.who copy (backed.0).place request.mode step own))

  asked-copy : (ticket : Held) (b : Core) (answer : Answer) → IsBacked ticket → Joins a (Clone_ticket context.who ticket.id request.mode) answer b
      → Leads (λ got c. Asked (requests.outcome_got place request context got) c) (gains.copy_answered answer) b
  asked-copy ticket b (Granted copy) backed joins = asked-cloned ticket b copy backed joins
  asked-copy ticket b answer backed joins = asked-refused b (spares-call context.who none a b
      (Clone_ticket context.who ticket.id request.mode) answer fits.speaks refl tt joins)

  -- one that suffices may be
  asked-backed : (k : Kept) → find (requests.suffices place request) context.kept ≡ Some k → IsBacked (held_of k)
  asked-backed k e =
      let there = fits.backed k (find-contains (requests.suffices place request) context.kept k e) in
      let at = equal k.place place (suffices-at place request k (find-passes (requests.suffices place request) context.kept k e)) in
      (there.0, there.1, there.2, there.3 ∙ at)

  asked-gaining : (ticket : Option Kept) → find (requests.suffices place request) context.kept ≡ ticket
      → Leads (λ got c. Asked (requests.outcome_got place request context got) c) (gains.gaining_from (option_map held_of ticket) context.who place request.mode) a
  asked-gaining None e = λ answer b joins. asked-try b answer joins
  asked-gaining (Some k) e = λ answer b joins. asked-copy (held_of k) b answer (asked-backed k e) joins

  asked-reusing : (ticket : Option Held) → Leads Asked (requests.reusing ticket place request context) a
  asked-reusing (Some ticket) = spared-here a context fits
  asked-reusing None =
      leads-bind (λ got c. Asked (requests.outcome_got place request context got) c) Asked
      (gains.gaining_from (earliest (requests.suffices place request) context.kept) context.who place request.mode)
      (λ end. Give (requests.outcome_got place request context end)) a
      (asked-gaining (find (requests.suffices place request) context.kept) refl) (λ end b asked. asked)

  asked-at : Leads Asked (requests.acquiring_at place request context) a
  asked-at = asked-reusing (earliest (requests.is_reusable place request) context.kept)

  -- the end of trying for it
  abbrev Attempted : Outcome Tried → Core → Type 0
  Attempted outcome b = Spared a context b outcome.1

  attempted-try : (b : Core) (answer : Answer) → Joins a (Try_now context.who place request.mode) answer b
      → Leads (λ got c. Attempted (requests.outcome_tried place request context got) c) (gains.tried_answered answer) b
  attempted-try b (Granted id) joins =
      let step = spares-call context.who none a b (Try_now context.who place request.mode) (Granted id) fits.speaks refl tt joins in
      asked-gained b id (gained-by a b context.who id place request.mode step
      (core-changes a b (Try_now context.who place request.mode) (Granted id) context.who refl joins))
  attempted-try b Would_wait joins =
      asked-refused b (spares-call context.who none a b (Try_now context.who place request.mode) Would_wait fits.speaks refl tt joins)
  attempted-try b answer joins = asked-refused b (spares-call context.who none a b (Try_now context.who place request.mode) answer fits.speaks refl tt joins)

  attempted-copy : (ticket : Held) (b : Core) (answer : Answer) → IsBacked ticket → Joins a (Clone_ticket context.who ticket.id request.mode) answer b
      → Leads (λ got c. Attempted (requests.outcome_tried place request context got) c) (gains.tried_answered answer) b
  attempted-copy ticket b (Granted copy) backed joins = asked-cloned ticket b copy backed joins
  attempted-copy ticket b Would_wait backed joins = asked-refused b (spares-call context.who none a b
      (Clone_ticket context.who ticket.id request.mode) Would_wait fits.speaks refl tt joins)
  attempted-copy ticket b answer backed joins = asked-refused b (spares-call context.who none a b
      (Clone_ticket context.who ticket.id request.mode) answer fits.speaks refl tt joins)

  attempted-gaining : (ticket : Option Kept) → find (requests.suffices place request) context.kept ≡ ticket
      → Leads (λ got c. Attempted (requests.outcome_tried place request context got) c)
      (gains.trying_from (option_map held_of ticket) context.who place request.mode) a
  attempted-gaining None e = λ answer b joins. attempted-try b answer joins
  attempted-gaining (Some k) e = λ answer b joins. attempted-copy (held_of k) b answer (asked-backed k e) joins

  attempted-again : (ticket : Option Held) → Leads Attempted (requests.trying_again ticket place request context) a
  attempted-again (Some ticket) = spared-here a context fits
  attempted-again None =
      leads-bind (λ got c. Attempted (requests.outcome_tried place request context got) c) Attempted
      (gains.trying_from (earliest (requests.suffices place request) context.kept) context.who place request.mode)
      (λ end. Give (requests.outcome_tried place request context end)) a
      (attempted-gaining (find (requests.suffices place request) context.kept) refl) (λ end b attempted. attempted)

  attempted-at : Leads Attempted (requests.trying_at place request context) a
  attempted-at = attempted-again (earliest (requests.is_reusable place request) context.kept)

-- one more key is known
fits-learnt : (a : Core) (context : ContextView) (key : KeyName) (place : ℕ) → Fits a context → Knows a context.who place key
    → Fits a (requests.remembering key place context)
fits-learnt a context key place fits knows = record {
  speaks = fits.speaks;
  backed = fits.backed;
  alone = fits.alone;
  known = λ other p among. elim (Contains-append_cases context.known ((key, place) ∷ []) (other, p) among) [
    | inl old ↦ fits.known other p old
    | inr new ↦ subst (λ (entry : KeyName × ℕ). Knows a context.who entry.1 entry.0) (sym (only-one (key, place) (other, p) new)) knows
  ];
  wait = fits.wait;
}

-- a place that was looked up: if the request got nothing there, it is let go
followed-let_go : {A : Type 0} (has_got : Result A ContextError → Bool) (a b c : Core) (key : KeyName) (place : ℕ) (context : ContextView) (outcome : Outcome A)
    → Fits a context → context.wait ≡ None → place_known key context.known ≡ None → Spares context.who none a b → Knows b context.who place key
    → Spared b (requests.remembering key place context) c outcome.1
    → Leads (λ (end : Outcome A) d. Followed a context d end.1) (requests.letting_go has_got place context outcome) c
followed-let_go {A} has_got a b c key place context (reply, after) fits idle new spares knows spared = by (has_got reply)
  where
    by : (got : Bool) → Leads (λ (end : Outcome A) d. Followed a context d end.1)
        (if got then Give (reply, after) else Ask (Unpin context.who place) (λ _. Give (reply, context))) c
    by true =
        followed-spared a c context after fits
        (spared-late a b c context.who context.kept context.known (requests.remembering key place context).known context.wait context.wait after spares spared)
    by false = λ answer d joins.
        followed-forgotten a c d context key place fits idle new (spares-then context.who none a b c spares spared.spares) (spared.spares.known place key knows)
        (unpins-call context.who place answer c d spared.spares.speaks joins)

asked-place : (a b : Core) (request : Wish) (context : ContextView) (answer : Answer) → Fits a context → context.wait ≡ None
    → place_known request.key context.known ≡ None → Joins a (Resolve context.who request.key) answer b
    → Leads (λ (outcome : Outcome Acquire) c. Followed a context c outcome.1) (requests.place_answered request context answer) b
asked-place a b request context (At_place place) fits idle new joins =
    let stays = stays-call context.who none a b (Resolve context.who request.key) (At_place place) fits.speaks (refl, tt, refl) joins in
    let now = requests.remembering request.key place context in
    let knows = core-resolves a b context.who place request.key joins in
    leads-bind (λ (outcome : Outcome Acquire) c. Spared b now c outcome.1) (λ (outcome : Outcome Acquire) c. Followed a context c outcome.1)
    (requests.acquiring_at place request now) (requests.letting_go requests.got_lock place context) b
    (asked-at b now place request (fits-learnt b context request.key place (fits-same a b context fits stays) knows) idle)
    (λ outcome c spared. followed-let_go {A = Acquire} requests.got_lock a b c request.key place context outcome fits idle new stays.0 knows spared)
asked-place a b request context answer fits idle new joins =
    followed-same a b context fits (stays-call context.who none a b (Resolve context.who request.key) answer fits.speaks (refl, tt, refl) joins)

asked-finding : (a : Core) (request : Wish) (context : ContextView) (place : Option ℕ) → Fits a context → context.wait ≡ None
    → place_known request.key context.known ≡ place
    → Leads (λ (outcome : Outcome Acquire) b. Followed a context b outcome.1) (requests.finding place request context) a
asked-finding a request context (Some place) fits idle found =
    leads-map (λ (outcome : Outcome Acquire) b. Spared a context b outcome.1) (λ (outcome : Outcome Acquire) b. Followed a context b outcome.1)
    (requests.acquiring_at place request context) a (λ outcome b spared. followed-spared a b context outcome.1 fits spared)
    (asked-at a context place request fits idle)
asked-finding a request context None fits idle found = λ answer b joins. asked-place a b request context answer fits idle found joins

-- a lock is wished for
pub leads-acquiring : (a : Core) (request : Wish) (context : ContextView) → Fits a context
    → Leads (λ (outcome : Outcome Acquire) b. Followed a context b outcome.1) (requests.acquiring request context) a
leads-acquiring a request context fits = go context.wait refl
  where
    go : (o : Option Wanted) → context.wait ≡ o
        → Leads (λ (outcome : Outcome Acquire) b. Followed a context b outcome.1)
        (if is_some o then Give (Err Waiting, context) else requests.finding (place_known request.key context.known) request context) a
    go None e = asked-finding a request context (place_known request.key context.known) fits e refl
    go (Some wanted) e = followed-here a context fits

-- ---- and not waited for

attempted-place : (a b : Core) (request : Wish) (context : ContextView) (answer : Answer) → Fits a context → context.wait ≡ None
    → place_known request.key context.known ≡ None → Joins a (Resolve context.who request.key) answer b
    → Leads (λ (outcome : Outcome Tried) c. Followed a context c outcome.1) (requests.trying_placed request context answer) b
attempted-place a b request context (At_place place) fits idle new joins =
    let stays = stays-call context.who none a b (Resolve context.who request.key) (At_place place) fits.speaks (refl, tt, refl) joins in
    let now = requests.remembering request.key place context in
    let knows = core-resolves a b context.who place request.key joins in
    leads-bind (λ (outcome : Outcome Tried) c. Spared b now c outcome.1) (λ (outcome : Outcome Tried) c. Followed a context c outcome.1)
    (requests.trying_at place request now) (requests.letting_go requests.got_at_once place context) b
    (attempted-at b now place request (fits-learnt b context request.key place (fits-same a b context fits stays) knows) idle)
    (λ outcome c spared. followed-let_go {A = Tried} requests.got_at_once a b c request.key place context outcome fits idle new stays.0 knows spared)
attempted-place a b request context answer fits idle new joins =
    followed-same a b context fits (stays-call context.who none a b (Resolve context.who request.key) answer fits.speaks (refl, tt, refl) joins)

attempted-finding : (a : Core) (request : Wish) (context : ContextView) (place : Option ℕ) → Fits a context → context.wait ≡ None
    → place_known request.key context.known ≡ place
    → Leads (λ (outcome : Outcome Tried) b. Followed a context b outcome.1) (requests.trying_found place request context) a
attempted-finding a request context (Some place) fits idle found =
    leads-map (λ (outcome : Outcome Tried) b. Spared a context b outcome.1) (λ (outcome : Outcome Tried) b. Followed a context b outcome.1)
    (requests.trying_at place request context) a (λ outcome b spared. followed-spared a b context outcome.1 fits spared)
    (attempted-at a context place request fits idle)
attempted-finding a request context None fits idle found = λ answer b joins. attempted-place a b request context answer fits idle found joins

-- a lock is wished for that isn't waited for
pub leads-trying : (a : Core) (request : Wish) (context : ContextView) → Fits a context
    → Leads (λ (outcome : Outcome Tried) b. Followed a context b outcome.1) (requests.trying request context) a
leads-trying a request context fits = go context.wait refl
  where
    go : (o : Option Wanted) → context.wait ≡ o
        → Leads (λ (outcome : Outcome Tried) b. Followed a context b outcome.1)
        (if is_some o then Give (Err Waiting, context) else requests.trying_found (place_known request.key context.known) request context) a
    go None e = attempted-finding a request context (place_known request.key context.known) fits e refl
    go (Some wanted) e = followed-here a context fits
