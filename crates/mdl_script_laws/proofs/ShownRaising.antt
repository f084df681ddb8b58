-- Tickets that get other modes: what a context keeps stays held, at its place, also while a stronger mode is waited for.
use Rattle.std.proofs.Common.{◌≡◌, ℕ, Bool, true, false, not, Option, Some, None, Result, Ok, Err, Contains, option_map, is_some, refl, sym, ap, ◌∙◌, subst, arith}
use Rattle.std.specs.Prelude.{◌==◌, if◌then◌else◌}
use Rattle.std.proofs.lemmas.Bool.Decides.{nat_tests}
use Rattle.mdl_key.specs.declared.mode.Mode.{Mode}
use Rattle.mdl_key.specs.Keys.{KeyName}
use Rattle.mdl_system.proofs.MemberLemmas.{Contains-map, Contains-map_from}
use Rattle.mdl_calls.specs.declared.answers.Held.{Held}
use Rattle.mdl_calls.specs.declared.space_error.SpaceError.{SpaceError}
use Rattle.mdl_calls.specs.SessionLocks.{Wait, changing, giving_up, merging, upgraded}
use Rattle.mdl_calls.specs.Words.{Answer, Done, Granted, Lost, Pending, Is_settled, Upgraded, Would_wait, Waits, Call, caller, Begin_wait, Downgrade, End_wait, Merge, Poll_wait, Release, Upgrade_now, SessionLocks, own_after, ticket_held, is_number, Give, Ask, SearchEnd, Over, Cut_off, Failed, seeking, most_searches}
use Rattle.mdl_core.specs.CoreJoins.{Joins, Knows, SpeaksFor, locks_at}
use Rattle.mdl_core.specs.Cores.{Core}
use Rattle.mdl_core.proofs.CallLaws.{core-changes, core-keeps, core-remembers}
use Rattle.mdl_core.proofs.CoreSound.{calls_keep-sound}
use Rattle.mdl_context.specs.declared.asking.AskResult.{AskResult}
use Rattle.mdl_context.specs.declared.asking.AskResult.TheVariants as got
use Rattle.mdl_context.specs.declared.context_error.ContextError.{ContextError}
use Rattle.mdl_context.specs.declared.context_error.ContextError.TheVariants.{NotHeld, Space, Waiting}
use Rattle.mdl_context.specs.declared.kept.Kept.{Kept}
use Rattle.mdl_context.specs.declared.kept.Wanted.{Wanted}
use Rattle.mdl_context.specs.declared.request.Acquire.{Acquire}
use Rattle.mdl_context.specs.declared.request.Acquire.TheVariants as acquire
use Rattle.mdl_context.specs.declared.request.Resume.{Resume}
use Rattle.mdl_context.specs.declared.request.Resume.TheVariants as resume
use Rattle.mdl_context.specs.Contexts.{ContextView, has_number, ticket_kept}
use Rattle.mdl_context.specs.Gains as gains
use Rattle.mdl_context.specs.Holdings.{awaited_upgrade, has_ticket_number, search_over, wanted_upgrade}
use Rattle.mdl_context.specs.Releases as releases
use Rattle.mdl_context.specs.Requests.{Outcome}
use Rattle.mdl_context.specs.Tidying.{tidied, tidying, unneeded, unpinning_all}
use Rattle.mdl_context.specs.Upgrades as upgrades
use Rattle.mdl_context.specs.Waits as waits
use Rattle.mdl_script_laws.proofs.ListLemmas.{filter-among}
use Rattle.mdl_script_laws.proofs.ShownAsking.{IsGained, gained-by, leads-abandoning, quiet-seeking, won-by}
use Rattle.mdl_script_laws.proofs.ShownCalls.{Leads, Spares, Stays, Unpins, leads-bind, leads-map, leads-quiet, leads-unpinning, none, spares-call, spares-then, stays-call, stays-here}
use Rattle.mdl_script_laws.proofs.ShownContexts.{Fits, fits-same, fits-tidied}
use Rattle.mdl_script_laws.proofs.ShownWaits.{searched-fits}

-- ---- what stays at its place

-- from the one space to the other a session keeps its tickets at their places, but those of these numbers; their modes may change
record Places (who : ℕ) (gone : ℕ → Type 0) (a b : Core) : Type 0 where
  speaks : SpeaksFor b who
  held : (t : Held) → Contains (locks_at a who).held t → (gone t.id → ⊥) → (u : Held) × Contains (locks_at b who).held u × (u.id ≡ t.id) × (u.place ≡ t.place)
  known : (place : ℕ) (key : KeyName) → Knows a who place key → Knows b who place key

-- a context that fits still, where none of its tickets is gone, with a wait where the session waits
fits-placed : (a b : Core) (context : ContextView) (gone : ℕ → Type 0) (wait : Option Wanted) → Fits a context → Places context.who gone a b
    → ((k : Kept) → Contains context.kept k → gone k.id → ⊥)
    → ((wanted : Wanted) (w : Wait) → wait ≡ Some wanted → (locks_at b context.who).wait ≡ Some w → w.place ≡ wanted.place)
    → Fits b (record context { wait = wait })
fits-placed a b context gone wait fits places stay at = record {
  speaks = places.speaks;
  backed = λ k among.
      let t = fits.backed k among in
      let u = places.held t.0 t.1 (λ g. stay k among (subst gone t.2 g)) in
      (u.0, u.1, u.2 ∙ t.2, u.3 ∙ t.3);
  alone = fits.alone;
  known = λ key place e. places.known place key (fits.known key place e);
  wait = at;
}

-- where it has none
fits-idle : (a b : Core) (context : ContextView) (gone : ℕ → Type 0) → context.wait ≡ None → Fits a context → Places context.who gone a b
    → ((k : Kept) → Contains context.kept k → gone k.id → ⊥) → Fits b context
fits-idle a b context gone idle fits places stay =
    subst (λ (wait : Option Wanted). Fits b (record context { wait = wait })) (sym idle)
    (fits-placed a b context gone None fits places stay (λ wanted w e f. cc))

-- a ticket in another mode is the same but for that
module _ (id : ℕ) (change : Mode → Mode) where
  abbrev changed : Kept → Kept
  changed ticket = if has_ticket_number id ticket then record ticket { mode = change ticket.mode } else ticket

  same-number : (k : Kept) → (changed k).id ≡ k.id
  same-number k = elim (has_ticket_number id k) as (λ t. (if t then record k { mode = change k.mode } else k).id ≡ k.id) [ true ↦ refl | false ↦ refl ]

  same-place : (k : Kept) → (changed k).place ≡ k.place
  same-place k = elim (has_ticket_number id k) as (λ t. (if t then record k { mode = change k.mode } else k).place ≡ k.place) [ true ↦ refl | false ↦ refl ]

  same-duration : (k : Kept) → (changed k).duration ≡ k.duration
  same-duration k = elim (has_ticket_number id k) as (λ t. (if t then record k { mode = change k.mode } else k).duration ≡ k.duration) [ true ↦ refl | false ↦ refl ]

  fits-mode : (a : Core) (context : ContextView) → Fits a context → Fits a (upgrades.with_ticket_mode id change context)
  fits-mode a context fits = record {
    speaks = fits.speaks;
    backed = λ k among.
        let from = Contains-map_from changed context.kept k among in
        let t = fits.backed from.0 from.1 in
        (t.0, t.1, t.2 ∙ sym (same-number from.0) ∙ sym (ap (λ (x : Kept). x.id) from.2), t.3 ∙ sym (same-place from.0) ∙ sym (ap (λ (x : Kept). x.place) from.2));
    alone = λ k other one two e.
        let f = Contains-map_from changed context.kept k one in
        let g = Contains-map_from changed context.kept other two in
        let same = fits.alone f.0 g.0 f.1 g.1 (sym (same-number f.0) ∙ sym (ap (λ (x : Kept). x.id) f.2) ∙ e ∙ ap (λ (x : Kept). x.id) g.2 ∙ same-number g.0) in
        ap (λ (x : Kept). x.duration) f.2 ∙ same-duration f.0 ∙ same ∙ sym (same-duration g.0) ∙ sym (ap (λ (x : Kept). x.duration) g.2);
    known = fits.known;
    wait = fits.wait;
  }

-- ---- calls

places-own : (who : ℕ) (gone : ℕ → Type 0) (a b : Core) (call : Call) (answer : Answer) → SpeaksFor a who → caller call ≡ Some who
    → Joins a call answer b
    → ((place : ℕ) (key : KeyName) → Knows a who place key → Knows b who place key)
    → ((t : Held) → Contains (locks_at a who).held t → (gone t.id → ⊥) → (u : Held) × Contains (own_after call answer (locks_at a who)).held u × (u.id ≡ t.id) × (u.place ≡ t.place))
    → Places who gone a b
places-own who gone a b call answer speaks mine joins remembers held = record {
  speaks = core-keeps calls_keep-sound a b call answer who speaks joins;
  held = λ t among stays.
      let u = held t among stays in (u.0, subst (λ (o : SessionLocks). Contains o.held u.0) (sym (core-changes a b call answer who mine joins)) u.1, u.2, u.3);
  known = remembers;
}

places-spared : (who : ℕ) (gone : ℕ → Type 0) (a b : Core) → Spares who gone a b → Places who gone a b
places-spared who gone a b spares = record {
  speaks = spares.speaks;
  held = λ t among stays. (t, spares.held t among stays, refl, refl);
  known = spares.known;
}

places-then : (who : ℕ) (gone : ℕ → Type 0) (a b c : Core) → Places who none a b → Places who gone b c → Places who gone a c
places-then who gone a b c early late = record {
  speaks = late.speaks;
  held = λ t among stays.
      let u = early.held t among (λ n. n) in
      let v = late.held u.0 u.1 (λ g. stays (subst gone u.2 g)) in
      (v.0, v.1, v.2 ∙ u.2, v.3 ∙ u.3);
  known = λ place key knows. late.known place key (early.known place key knows);
}

-- the tickets in another mode
changed-there : (id : ℕ) (change : Mode → Mode) (own : SessionLocks) (t : Held) → Contains own.held t
    → (u : Held) × Contains (changing id change own).held u × (u.id ≡ t.id) × (u.place ≡ t.place)
changed-there id change own t among =
    let as_changed : Held → Held = λ ticket. if is_number id ticket then record ticket { mode = change ticket.mode } else ticket in (
      as_changed t,
      Contains-map as_changed own.held t among,
      elim (is_number id t) as (λ b. (if b then record t { mode = change t.mode } else t).id ≡ t.id) [ true ↦ refl | false ↦ refl ],
      elim (is_number id t) as (λ b. (if b then record t { mode = change t.mode } else t).place ≡ t.place) [ true ↦ refl | false ↦ refl ],
    )

other-number : (id : ℕ) (t : Held) → (t.id ≡ id → ⊥) → not (is_number id t) ≡ true
other-number id t other = go (is_number id t) refl
  where
    go : (b : Bool) → (t.id == id) ≡ b → not b ≡ true
    go true e = absurd (other (grind (arith, nat_tests)))
    go false e = refl

-- the same after a merge, but for the ticket that is merged
merged-there : (old new : ℕ) (ticket : Option Held) (own : SessionLocks) (t : Held) → Contains own.held t → (t.id ≡ new → ⊥)
    → (u : Held) × Contains (merging old new ticket own).held u × (u.id ≡ t.id) × (u.place ≡ t.place)
merged-there old new None own t among other = (t, among, refl, refl)
merged-there old new (Some ticket) own t among other =
    changed-there old (λ _. ticket.mode) (giving_up new own) t (filter-among (λ x. not (is_number new x)) own.held t (other-number new t other) among)

places-upgraded : (who id : ℕ) (mode : Mode) (a b : Core) (answer : Answer) → SpeaksFor a who → Joins a (Upgrade_now who id mode) answer b → Places who none a b
places-upgraded who id mode a b answer speaks joins =
    places-own who none a b (Upgrade_now who id mode) answer speaks refl joins
    (λ place key knows. core-remembers a b (Upgrade_now who id mode) answer who place key speaks (λ e done. cc) joins knows)
    (λ t among stays. by answer t among)
  where
    by : (said : Answer) (t : Held) → Contains (locks_at a who).held t
        → (u : Held) × Contains (own_after (Upgrade_now who id mode) said (locks_at a who)).held u × (u.id ≡ t.id) × (u.place ≡ t.place)
    by Upgraded t among = changed-there id (upgraded mode) (locks_at a who) t among
    by _ t among = (t, among, refl, refl)

places-downgraded : (who id : ℕ) (mode : Mode) (a b : Core) (answer : Answer) → SpeaksFor a who → Joins a (Downgrade who id mode) answer b → Places who none a b
places-downgraded who id mode a b answer speaks joins =
    places-own who none a b (Downgrade who id mode) answer speaks refl joins
    (λ place key knows. core-remembers a b (Downgrade who id mode) answer who place key speaks (λ e done. cc) joins knows)
    (λ t among stays. by answer t among)
  where
    by : (said : Answer) (t : Held) → Contains (locks_at a who).held t
        → (u : Held) × Contains (own_after (Downgrade who id mode) said (locks_at a who)).held u × (u.id ≡ t.id) × (u.place ≡ t.place)
    by Done t among = changed-there id (λ _. mode) (locks_at a who) t among
    by _ t among = (t, among, refl, refl)

places-merged : (who old new : ℕ) (a b : Core) (answer : Answer) → SpeaksFor a who → Joins a (Merge who old new) answer b → Places who (λ n. n ≡ new) a b
places-merged who old new a b answer speaks joins =
    places-own who (λ n. n ≡ new) a b (Merge who old new) answer speaks refl joins
    (λ place key knows. core-remembers a b (Merge who old new) answer who place key speaks (λ e done. cc) joins knows)
    (λ t among stays. by answer t among stays)
  where
    by : (said : Answer) (t : Held) → Contains (locks_at a who).held t → (t.id ≡ new → ⊥)
        → (u : Held) × Contains (own_after (Merge who old new) said (locks_at a who)).held u × (u.id ≡ t.id) × (u.place ≡ t.place)
    by Done t among other = merged-there old new (ticket_held new (locks_at a who)) (locks_at a who) t among other
    by _ t among other = (t, among, refl, refl)

-- ---- merges

-- the context fits, and no ticket that it keeps has this number
record HasBeside (a : Core) (context : ContextView) (new : ℕ) : Type 0 where
  fits : Fits a context
  apart : (k : Kept) → Contains context.kept k → k.id ≡ new → ⊥

beside-gained : (a b : Core) (context : ContextView) (new place : ℕ) → context.wait ≡ None → Fits a context → IsGained a context.who new place b
    → HasBeside b context new
beside-gained a b context new place idle fits gained = record {
  fits = fits-idle a b context none idle fits (places-spared context.who none a b gained.spares) (λ k among n. n);
  apart = λ k among e. (let t = fits.backed k among in gained.fresh t.0 t.1 (t.2 ∙ e));
}

-- whatever comes of a merge, the context fits
leads-merging : (a : Core) (context : ContextView) (id new : ℕ) → context.wait ≡ None → HasBeside a context new
    → Leads (λ end b. Fits b context) (upgrades.merging_new context.who id new) a
leads-merging a context id new idle beside = λ answer b joins. by answer b joins
  where
    fits : (answer : Answer) (b : Core) → Joins a (Merge context.who id new) answer b → Fits b context
    fits answer b joins =
        fits-idle a b context (λ n. n ≡ new) idle beside.fits (places-merged context.who id new a b answer beside.fits.speaks joins) beside.apart

    released : (answer : Answer) (b : Core) → Joins a (Merge context.who id new) answer b → (said : Answer) (c : Core)
        → Joins b (Release context.who new) said c → Fits c context
    released answer b joins said c out =
        fits-idle b c context (λ n. n ≡ new) idle (fits answer b joins)
        (places-spared context.who (λ n. n ≡ new) b c (spares-call context.who (λ n. n ≡ new) b c (Release context.who new) said (fits answer b joins).speaks refl refl out))
        beside.apart

    by : (answer : Answer) (b : Core) → Joins a (Merge context.who id new) answer b → Leads (λ end c. Fits c context) (upgrades.merge_answered context.who new answer) b
    by Done b joins = fits Done b joins
    by answer b joins = released answer b joins

-- ---- upgrades

-- the context waits to upgrade a ticket
abbrev pub IsUpgrading : ContextView → Type 0
IsUpgrading context = (wanted : Wanted) × (target : ℕ × Mode) × (context.wait ≡ Some wanted) × (awaited_upgrade (Some wanted) ≡ Some target)

-- what comes of an upgrade: the context fits, and where it has to wait, it waits to upgrade a ticket
abbrev pub Raised : ContextView → Outcome Acquire → Core → Type 0
Raised before (Ok (acquire.MustWait number), after) b = Fits b after × (after.who ≡ before.who) × IsUpgrading after
Raised before (Ok (acquire.Acquired id), after) b = Fits b after × (after.who ≡ before.who)
Raised before (Err error, after) b = Fits b after × (after.who ≡ before.who)

-- a second ticket was asked for at a place: it is had, it is waited for there, or refused
abbrev GotAt : Core → ℕ → ℕ → Result AskResult SpaceError → Core → Type 0
GotAt a who place (Ok (got.Granted id)) b = IsGained a who id place b
GotAt a who place (Ok (got.Waits number searched)) b = Spares who none a b × ((w : Wait) → (locks_at b who).wait ≡ Some w → w.place ≡ place)
GotAt a who place (Err refusal) b = Spares who none a b

got-sought : (a b : Core) (who place number : ℕ) (end : SearchEnd) → Spares who none a b → ((w : Wait) → (locks_at b who).wait ≡ Some w → w.place ≡ place)
    → Leads (GotAt a who place) (gains.wish_sought who number end) b
got-sought a b who place number Over spares at = (spares, at)
got-sought a b who place number Cut_off spares at = (spares, at)
got-sought a b who place number (Failed refusal) spares at =
    leads-bind (λ x c. Spares who none a c) (GotAt a who place) (gains.abandoning who) (λ _. Give (Err refusal)) b (leads-abandoning a b who spares) (λ x c left. left)

got-begun : (a b : Core) (who place : ℕ) (mode : Mode) (answer : Answer) → SpeaksFor a who → Joins a (Begin_wait who place mode) answer b
    → Leads (GotAt a who place) (gains.wish_answered who answer) b
got-begun a b who place mode (Granted id) speaks joins =
    let step = spares-call who none a b (Begin_wait who place mode) (Granted id) speaks refl tt joins in
    gained-by a b who id place mode step (core-changes a b (Begin_wait who place mode) (Granted id) who refl joins)
got-begun a b who place mode (Waits number) speaks joins =
    let step = spares-call who none a b (Begin_wait who place mode) (Waits number) speaks refl tt joins in
    let own = core-changes a b (Begin_wait who place mode) (Waits number) who refl joins in
    leads-bind (λ x c. Stays who none b c) (GotAt a who place) (seeking most_searches who) (gains.wish_sought who number) b
    (leads-quiet (seeking most_searches who) b b who none (stays-here who none b step.speaks) (quiet-seeking who most_searches))
    (λ end c stays. got-sought a c who place number end (spares-then who none a b c step stays.0) (λ w e. at w (subst (λ (o : SessionLocks). o.wait ≡ Some w) own (stays.1 w e))))
  where
    at : (w : Wait) → Some (record { number = number; place = place; mode = mode }) ≡ Some w → w.place ≡ place
    at w e = let f : record { number = number; place = place; mode = mode } ≡ w = cc in ap (λ (x : Wait). x.place) (sym f)
got-begun a b who place mode answer speaks joins = spares-call who none a b (Begin_wait who place mode) answer speaks refl tt joins

module _ (ticket : Kept) (mode : Mode) (context : ContextView) (idle : context.wait ≡ None) where
  raised-by : (b : Core) (end : Result (Unit {0}) SpaceError) → Fits b context → Raised context (upgrades.merged (acquire.Acquired ticket.id) ticket.id mode context end) b
  raised-by b (Ok done) fits = (fits-mode ticket.id (λ _. mode) b context fits, refl)
  raised-by b (Err refusal) fits = (fits, refl)

  raised-second : (a b : Core) (end : Result AskResult SpaceError) → Fits a context → GotAt a context.who ticket.place end b
      → Leads (Raised context) (upgrades.second_got ticket mode context end) b
  raised-second a b (Ok (got.Granted new)) fits gained =
      leads-bind (λ end c. Fits c context) (Raised context) (upgrades.merging_new context.who ticket.id new)
      (λ end. Give (upgrades.merged (acquire.Acquired ticket.id) ticket.id mode context end)) b
      (leads-merging b context ticket.id new idle (beside-gained a b context new ticket.place idle fits gained)) (λ end c fit. raised-by c end fit)
  raised-second a b (Ok (got.Waits number searched)) fits (spares, at) =
      let wanted = wanted_upgrade ticket mode searched in (
        fits-placed a b context none (Some wanted) fits (places-spared context.who none a b spares) (λ k among n. n)
            (λ other w e f. (let g : wanted ≡ other = cc in at w f ∙ ap (λ (x : Wanted). x.place) g)),
        refl,
        (wanted, (ticket.id, mode), refl, refl),
      )
  raised-second a b (Err refusal) fits spares =
      (fits-idle a b context none idle fits (places-spared context.who none a b spares) (λ k among n. n), refl)

  raised-answer : (a b : Core) (answer : Answer) → Fits a context → Joins a (Upgrade_now context.who ticket.id mode) answer b
      → Leads (Raised context) (upgrades.upgrade_answered ticket mode context answer) b
  raised-answer a b answer fits joins = by answer (fits-idle a b context none idle fits (places-upgraded context.who ticket.id mode a b answer fits.speaks joins) (λ k among n. n))
    where
      by : (answer : Answer) → Fits b context → Leads (Raised context) (upgrades.upgrade_answered ticket mode context answer) b
      by Upgraded now = (fits-mode ticket.id (upgraded mode) b context now, refl)
      by Would_wait now =
          leads-bind (GotAt b context.who ticket.place) (Raised context) (gains.waiting_at context.who ticket.place mode) (upgrades.second_got ticket mode context) b
          (λ answer c begun. got-begun b c context.who ticket.place mode answer now.speaks begun) (λ end c got_at. raised-second b c end now got_at)
      by _ now = (now, refl)

-- a ticket is upgraded
pub leads-upgrading : (a : Core) (id : ℕ) (mode : Mode) (context : ContextView) → Fits a context → Leads (Raised context) (upgrades.upgrading id mode context) a
leads-upgrading a id mode context fits = by (ticket_kept id context.kept)
  where
    unless_waiting : (ticket : Kept) (o : Option Wanted) → context.wait ≡ o
        → Leads (Raised context) (releases.unless (if is_some o then Some Waiting else None) context (Ask (Upgrade_now context.who ticket.id mode) (upgrades.upgrade_answered ticket mode context))) a
    unless_waiting ticket None e = λ answer b joins. raised-answer ticket mode context e a b answer fits joins
    unless_waiting ticket (Some wanted) e = (fits, refl)

    by : (ticket : Option Kept) → Leads (Raised context) (upgrades.upgrading_ticket ticket mode context) a
    by None = (fits, refl)
    by (Some ticket) = unless_waiting ticket context.wait refl

-- a ticket is downgraded
pub leads-downgrading : (a : Core) (id : ℕ) (mode : Mode) (context : ContextView) → Fits a context
    → Leads (λ (outcome : Outcome (Unit {0})) b. Fits b outcome.1 × (outcome.1.who ≡ context.who)) (upgrades.downgrading id mode context) a
leads-downgrading a id mode context fits = go (not (has_number context.kept id)) context.wait refl
  where
    by : (b : Core) (answer : Answer) → Fits b context → Leads (λ (outcome : Outcome (Unit {0})) c. Fits c outcome.1 × (outcome.1.who ≡ context.who)) (upgrades.downgrade_answered id mode context answer) b
    by b Done now = (fits-mode id (λ _. mode) b context now, refl)
    by b _ now = (now, refl)

    go : (missing : Bool) (o : Option Wanted) → context.wait ≡ o
        → Leads (λ (outcome : Outcome (Unit {0})) b. Fits b outcome.1 × (outcome.1.who ≡ context.who))
        (releases.unless (if missing then Some NotHeld else (if is_some o then Some Waiting else None)) context (Ask (Downgrade context.who id mode) (upgrades.downgrade_answered id mode context))) a
    go true o e = (fits, refl)
    go false (Some wanted) e = (fits, refl)
    go false None e = λ answer b joins.
        by b answer (fits-idle a b context none e fits (places-downgraded context.who id mode a b answer fits.speaks joins) (λ k among n. n))

-- ---- waits for upgrades

-- what comes of such a wait: the context fits, and where it is the same still, it waits to upgrade a ticket
abbrev pub Won : ContextView → Outcome Resume → Core → Type 0
Won before (Ok resume.Waiting, after) b = Fits b after × (after.who ≡ before.who) × IsUpgrading after
Won before (Ok (resume.Acquired id), after) b = Fits b after × (after.who ≡ before.who)
Won before (Ok (resume.Lost how), after) b = Fits b after × (after.who ≡ before.who)
Won before (Err error, after) b = Fits b after × (after.who ≡ before.who)

-- without the wait it fits as well
fits-over : (a b : Core) (context : ContextView) → Fits a context → Spares context.who none a b → Fits b (waits.without_wait context)
fits-over a b context fits spares = fits-placed a b context none None fits (places-spared context.who none a b spares) (λ k among n. n) (λ wanted w e f. cc)

won-merged : (b : Core) (context : ContextView) (id : ℕ) (mode : Mode) (end : Result (Unit {0}) SpaceError) → Fits b (waits.without_wait context)
    → Won context (upgrades.merged (resume.Acquired id) id mode (waits.without_wait context) end) b
won-merged b context id mode (Ok done) fits = (fits-mode id (λ _. mode) b (waits.without_wait context) fits, refl)
won-merged b context id mode (Err refusal) fits = (fits, refl)

-- and so it does once it let go of places
won-tidied : (b : Core) (context : ContextView) (reply : Result Resume ContextError)
    → ((after : ContextView) (c : Core) → Fits c after → after.who ≡ context.who → Won context (reply, after) c) → Fits b (waits.without_wait context)
    → Leads (Won context) (tidying (reply, waits.without_wait context)) b
won-tidied b context reply so fits =
    let over = waits.without_wait context in
    leads-bind (λ x c. Unpins context.who (unneeded over) b c) (Won context) (unpinning_all context.who (unneeded over)) (λ _. Give (reply, tidied over)) b
    (leads-unpinning context.who (unneeded over) b fits.speaks) (λ x c unpins. so (tidied over) c (fits-tidied b c over fits unpins) refl)

won-ended : (a b : Core) (context : ContextView) (answer : Answer) → IsUpgrading context → Fits a context → Joins a (End_wait context.who) answer b
    → Leads (Won context) (waits.end_answered context answer) b
won-ended a b context (Granted new) (wanted, (id, mode), waiting, target) fits joins =
    let over : ContextView = waits.without_wait context in
    let won = won-by a b context.who new fits.speaks joins in
    let beside = beside-gained a b over new won.0.place refl (fits-over a a context fits (stays-here context.who none a fits.speaks).0) won.2 in
    subst (λ upgrade. Leads (Won context) (waits.wait_won upgrade new context) b) (sym (ap awaited_upgrade waiting ∙ target))
    (leads-bind (λ end c. Fits c over) (Won context) (upgrades.merging_new context.who id new)
    (λ end. Give (upgrades.merged (resume.Acquired id) id mode over end)) b (leads-merging b over id new refl beside)
    (λ end c fit. won-merged c context id mode end fit))
won-ended a b context (Lost how) upgrading fits joins =
    won-tidied b context (Ok (resume.Lost how)) (λ after c fit who. (fit, who))
    (fits-over a b context fits (stays-call context.who none a b (End_wait context.who) (Lost how) fits.speaks (refl, tt, refl) joins).0)
won-ended a b context answer upgrading fits joins =
    (fits-same a b context fits (stays-call context.who none a b (End_wait context.who) answer fits.speaks (refl, tt, refl) joins), refl)

won-polled : (a b : Core) (context : ContextView) (answer : Answer) → IsUpgrading context → Fits a context → Stays context.who none a b
    → Leads (Won context) (waits.poll_answered context answer) b
won-polled a b context Pending upgrading fits stays = (fits-same a b context fits stays, refl, upgrading)
won-polled a b context (Is_settled how) upgrading fits stays = λ answer c joins. won-ended b c context answer upgrading (fits-same a b context fits stays) joins
won-polled a b context answer upgrading fits stays = (fits-same a b context fits stays, refl)

won-looking : (a : Core) (context : ContextView) → IsUpgrading context → Fits a context → Leads (Won context) (waits.looking context) a
won-looking a context upgrading fits = λ answer b joins.
    won-polled a b context answer upgrading fits (stays-call context.who none a b (Poll_wait context.who) answer fits.speaks (refl, tt, refl) joins)

-- the searches are over
upgrading-searched : (context : ContextView) → IsUpgrading context → IsUpgrading (waits.with_searches_over context)
upgrading-searched context (wanted, target, waiting, is) = (search_over wanted, target, ap (option_map search_over) waiting, is)

won-searched : (context : ContextView) (outcome : Outcome Resume) (b : Core) → Won (waits.with_searches_over context) outcome b → Won context outcome b
won-searched context (Ok resume.Waiting, after) b won = won
won-searched context (Ok (resume.Acquired id), after) b won = won
won-searched context (Ok (resume.Lost how), after) b won = won
won-searched context (Err error, after) b won = won

won-sought : (a b : Core) (context : ContextView) (end : SearchEnd) → IsUpgrading context → Fits a context → Stays context.who none a b
    → Leads (Won context) (waits.wait_sought context end) b
won-sought a b context Over upgrading fits stays =
    leads-map (Won (waits.with_searches_over context)) (Won context) (waits.looking (waits.with_searches_over context)) b (λ outcome c won. won-searched context outcome c won)
    (won-looking b (waits.with_searches_over context) (upgrading-searched context upgrading) (searched-fits b context (fits-same a b context fits stays)))
won-sought a b context Cut_off upgrading fits stays = won-looking b context upgrading (fits-same a b context fits stays)
won-sought a b context (Failed refusal) upgrading fits stays =
    leads-bind (λ x c. Spares context.who none a c) (Won context) (gains.abandoning context.who)
    (λ _. tidying (Err (Space refusal), waits.without_wait context)) b
    (leads-abandoning a b context.who stays.0)
    (λ x c spares. won-tidied c context (Err (Space refusal)) (λ after d fit who. (fit, who)) (fits-over a c context fits spares))

won-cut_off : (a b : Core) (context : ContextView) (answer : Answer) → IsUpgrading context → Fits a context → Stays context.who none a b
    → Leads (Won context) (waits.cut_off_answered context answer) b
won-cut_off a b context Pending upgrading fits stays =
    leads-bind (λ x c. Stays context.who none a c) (Won context) (seeking most_searches context.who) (waits.wait_sought context) b
    (leads-quiet (seeking most_searches context.who) a b context.who none stays (quiet-seeking context.who most_searches))
    (λ end c later. won-sought a c context end upgrading fits later)
won-cut_off a b context (Is_settled how) upgrading fits stays = won-polled a b context (Is_settled how) upgrading fits stays
won-cut_off a b context answer upgrading fits stays = (fits-same a b context fits stays, refl)

-- a wait for an upgrade goes on
pub leads-winning : (a : Core) (context : ContextView) → IsUpgrading context → Fits a context → Leads (Won context) (waits.resuming context) a
leads-winning a context upgrading fits = by (waits.is_searched context.wait)
  where
    by : (searched : Option Bool) → Leads (Won context) (waits.continuing_wait searched context) a
    by None = (fits, refl)
    by (Some true) = won-looking a context upgrading fits
    by (Some false) = λ answer b joins.
        won-cut_off a b context answer upgrading fits (stays-call context.who none a b (Poll_wait context.who) answer fits.speaks (refl, tt, refl) joins)
