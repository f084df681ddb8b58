-- A context whose wait goes on, or that gives tickets up, keeps what it kept, held; but for what it gives up.
use Rattle.std.proofs.Common.{◌≡◌, inl, inr, ℕ, Bool, true, false, not, List, [], ◌∷◌, Option, Some, None, Result, Ok, Err, Contains, option_map, refl, sym, ap, ◌∙◌, subst, arith}
use Rattle.std.proofs.lemmas.Bool.Decides.{nat_tests}
use Rattle.std.proofs.lemmas.List.Elements.{Contains-append_right}
use Rattle.mdl_key.specs.declared.mode.Duration.TheVariants.{Transaction}
use Rattle.mdl_system.proofs.MemberLemmas.{Contains-none}
use Rattle.mdl_system.proofs.OrderLemmas.{Contains-cons_cases, Contains-here, Contains-later}
use Rattle.mdl_calls.specs.declared.answers.Held.{Held}
use Rattle.mdl_calls.specs.SessionLocks.{Wait}
use Rattle.mdl_calls.specs.Words.{Answer, Granted, Pending, Is_settled, Lost, Poll_wait, End_wait, Release, Program, Give, Ask, EachCall, SearchEnd, Over, Cut_off, Failed, seeking, most_searches}
use Rattle.mdl_core.specs.CoreJoins.{Joins, SpeaksFor, locks_at}
use Rattle.mdl_core.specs.Cores.{Core}
use Rattle.mdl_context.specs.declared.context_error.ContextError.{ContextError}
use Rattle.mdl_context.specs.declared.context_error.ContextError.TheVariants.{Space}
use Rattle.mdl_context.specs.declared.kept.Kept.{Kept}
use Rattle.mdl_context.specs.declared.kept.Wanted.{Wanted}
use Rattle.mdl_context.specs.declared.request.Resume.{Resume}
use Rattle.mdl_context.specs.declared.request.Resume.TheVariants as resume
use Rattle.mdl_context.specs.Contexts.{ContextView, beyond, has_number, lasts, without_tickets}
use Rattle.mdl_context.specs.Gains as gains
use Rattle.mdl_context.specs.Holdings.{search_over, awaited_upgrade, without_number, has_ticket_number}
use Rattle.mdl_context.specs.Releases as releases
use Rattle.mdl_context.specs.Requests.{Outcome}
use Rattle.mdl_context.specs.Tidying.{tidied, tidying, unneeded, unpinning_all}
use Rattle.mdl_context.specs.Waits as waits
use Rattle.mdl_script_laws.proofs.ListLemmas.{among-filter, drop-fewer}
use Rattle.mdl_script_laws.proofs.ShownCalls.{IsQuiet, Leads, Leaves, Spares, Stays, Unpins, leads-bind, leads-map, leads-quiet, leads-unpinning, leaves-spared, leaves-unpinned, none, spares-here, stays-call, stays-here}
use Rattle.mdl_script_laws.proofs.ShownContexts.{Fits, Followed, Spared, fits-fewer, fits-more, fits-same, fits-tidied, fits-waiting, followed-here, followed-late, followed-same, spared-late, spared-same, spared-waiting}
use Rattle.mdl_script_laws.proofs.ShownAsking.{leads-abandoning, quiet-seeking, won-by}

-- ---- a wait that goes on

-- the wait is the same still
abbrev pub StillWaits : ContextView → ContextView → Type 0
StillWaits before after =
    (wanted : Wanted) → before.wait ≡ Some wanted
    → (still : Wanted) × (after.wait ≡ Some still) × (still.place ≡ wanted.place) × (still.duration ≡ wanted.duration)
    × (awaited_upgrade (Some still) ≡ awaited_upgrade (Some wanted))

-- its ticket is held at its place, and kept for as long as was wished
abbrev pub HasWon : ContextView → ℕ → ContextView → Core → Type 0
HasWon before id after b =
    (wanted : Wanted) → before.wait ≡ Some wanted → (t : Held) × Contains (locks_at b before.who).held t × (t.id ≡ id) × (t.place ≡ wanted.place)
    × ((new : Kept) × Contains after.kept new × (new.id ≡ id) × (new.duration ≡ wanted.duration))

-- a context asked after its wait: it waits still, or has its ticket. If the wait is lost, the context may have let go of places
abbrev pub Resumed : Core → ContextView → Outcome Resume → Core → Type 0
Resumed a before (Ok resume.Waiting, after) b = Spared a before b after × StillWaits before after
Resumed a before (Ok (resume.Acquired id), after) b = Spared a before b after × HasWon before id after b
Resumed a before (Ok (resume.Lost how), after) b = Followed a before b after
Resumed a before (Err error, after) b = Followed a before b after

-- the wait is ended
taken-up : (a b : Core) (context : ContextView) (id : ℕ) (o : Option Wanted) → context.wait ≡ o → Fits a context → Joins a (End_wait context.who) (Granted id) b
    → Spared a context b (waits.taking_up id (record context { wait = o })) × HasWon context id (waits.taking_up id (record context { wait = o })) b
taken-up a b context id None e fits joins =
    let stays = stays-call context.who none a b (End_wait context.who) (Granted id) fits.speaks (refl, tt, refl) joins in
    (spared-waiting a b context None fits stays.0 (λ wanted w f g. cc), λ wanted f. cc)
taken-up a b context id (Some wanted) e fits joins =
    let won = won-by a b context.who id fits.speaks joins in
    let place : won.0.place ≡ wanted.place = fits.wait wanted won.0 e won.1 in
    let new : Kept = record { id = id; place = wanted.place; mode = wanted.mode; duration = wanted.duration } in
    let gained = won.2 in (
      record {
        fits = fits-more a b context new gained.ticket fits gained.spares gained.fresh gained.there gained.number (gained.at ∙ place);
        spares = gained.spares;
        who = refl;
        grown = inr (new, gained.fresh, refl);
      },
      λ other f. (
          let same : wanted ≡ other = (let h = sym e ∙ f in cc) in (
            gained.ticket,
            gained.there,
            gained.number,
            gained.at ∙ place ∙ ap (λ (x : Wanted). x.place) same,
            (new, Contains-append_right context.kept (new ∷ []) new (Contains-here new []), refl, ap (λ (x : Wanted). x.duration) same),
          )
          ),
    )

-- the context has no wait any more, and lets go of the places where it has nothing then
followed-lost : (a b c : Core) (context : ContextView) → Fits a context → Spares context.who none a b
    → Unpins context.who (unneeded (waits.without_wait context)) b c → Followed a context c (tidied (waits.without_wait context))
followed-lost a b c context fits spares unpins =
    let over = waits.without_wait context in
    record {
      fits = fits-tidied b c over (fits-waiting a b context None fits spares (λ wanted w f g. cc)) unpins;
      leaves = leaves-unpinned context.who none (unneeded over) a b c (leaves-spared context.who none a b fits.speaks spares) unpins;
      who = refl;
      grown = inl refl;
    }

leads-lost : (a b : Core) (context : ContextView) (reply : Result Resume ContextError)
    → ((after : ContextView) (c : Core) → Followed a context c after → Resumed a context (reply, after) c) → Fits a context → Spares context.who none a b
    → Leads (Resumed a context) (tidying (reply, waits.without_wait context)) b
leads-lost a b context reply so fits spares =
    let over = waits.without_wait context in
    leads-bind (λ x c. Unpins context.who (unneeded over) b c) (Resumed a context) (unpinning_all context.who (unneeded over))
    (λ _. Give (reply, tidied over)) b (leads-unpinning context.who (unneeded over) b spares.speaks)
    (λ x c unpins. so (tidied over) c (followed-lost a b c context fits spares unpins))

ended-so : (a b : Core) (context : ContextView) (answer : Answer) → awaited_upgrade context.wait ≡ None → Fits a context → Joins a (End_wait context.who) answer b
    → Leads (Resumed a context) (waits.end_answered context answer) b
ended-so a b context (Granted id) plain fits joins =
    subst (λ upgrade. Leads (Resumed a context) (waits.wait_won upgrade id context) b) (sym plain) (taken-up a b context id context.wait refl fits joins)
ended-so a b context (Lost how) plain fits joins =
    leads-lost a b context (Ok (resume.Lost how)) (λ after c followed. followed) fits
    (stays-call context.who none a b (End_wait context.who) (Lost how) fits.speaks (refl, tt, refl) joins).0
ended-so a b context answer plain fits joins =
    followed-same a b context fits (stays-call context.who none a b (End_wait context.who) answer fits.speaks (refl, tt, refl) joins)

-- after calls that change nothing of it
resumed-after : (a b c : Core) (context : ContextView) (outcome : Outcome Resume) → SpeaksFor a context.who → Spares context.who none a b
    → Resumed b context outcome c → Resumed a context outcome c
resumed-after a b c context (Ok resume.Waiting, after) speaks spares resumed =
    (spared-late a b c context.who context.kept context.known context.known context.wait context.wait after spares resumed.0, resumed.1)
resumed-after a b c context (Ok (resume.Acquired id), after) speaks spares resumed =
    (spared-late a b c context.who context.kept context.known context.known context.wait context.wait after spares resumed.0, resumed.1)
resumed-after a b c context (Ok (resume.Lost how), after) speaks spares resumed =
    followed-late a b c context.who context.kept context.known context.known context.wait context.wait after speaks spares resumed
resumed-after a b c context (Err error, after) speaks spares resumed =
    followed-late a b c context.who context.kept context.known context.known context.wait context.wait after speaks spares resumed

resumed-late : (a b : Core) (context : ContextView) (program : Program (Outcome Resume)) → SpeaksFor a context.who → Spares context.who none a b
    → Leads (Resumed b context) program b → Leads (Resumed a context) program b
resumed-late a b context program speaks spares leads =
    leads-map (Resumed b context) (Resumed a context) program b (λ outcome c resumed. resumed-after a b c context outcome speaks spares resumed) leads

ending-so : (a : Core) (context : ContextView) → awaited_upgrade context.wait ≡ None → Fits a context → Leads (Resumed a context) (waits.ending_wait context) a
ending-so a context plain fits = λ answer b joins. ended-so a b context answer plain fits joins

polled-so : (a b : Core) (context : ContextView) (answer : Answer) → awaited_upgrade context.wait ≡ None → Fits a context → Stays context.who none a b
    → Leads (Resumed a context) (waits.poll_answered context answer) b
polled-so a b context Pending plain fits stays = (spared-same a b context fits stays, λ wanted e. (wanted, e, refl, refl, refl))
polled-so a b context (Is_settled how) plain fits stays =
    resumed-late a b context (waits.ending_wait context) fits.speaks stays.0 (ending-so b context plain (fits-same a b context fits stays))
polled-so a b context answer plain fits stays = followed-same a b context fits stays

looking-so : (a : Core) (context : ContextView) → awaited_upgrade context.wait ≡ None → Fits a context → Leads (Resumed a context) (waits.looking context) a
looking-so a context plain fits = λ answer b joins.
    polled-so a b context answer plain fits (stays-call context.who none a b (Poll_wait context.who) answer fits.speaks (refl, tt, refl) joins)

-- its searches are over
pub searched-fits : (a : Core) (context : ContextView) → Fits a context → Fits a (waits.with_searches_over context)
searched-fits a context fits = record {
  speaks = fits.speaks;
  backed = fits.backed;
  alone = fits.alone;
  known = fits.known;
  wait = λ wanted w e f. at context.wait refl wanted w e f;
}
  where
    at : (o : Option Wanted) → context.wait ≡ o → (wanted : Wanted) (w : Wait) → option_map search_over o ≡ Some wanted
        → (locks_at a context.who).wait ≡ Some w → w.place ≡ wanted.place
    at None here wanted w e f = cc
    at (Some x) here wanted w e f = let g : search_over x ≡ wanted = cc in fits.wait x w here f ∙ ap (λ (y : Wanted). y.place) g

-- and it waits for what it waited for
pub searched-upgrades : (wait : Option Wanted) → awaited_upgrade (option_map search_over wait) ≡ awaited_upgrade wait
searched-upgrades None = refl
searched-upgrades (Some wanted) = refl

searched-resumed : (a b c : Core) (context : ContextView) (outcome : Outcome Resume) → SpeaksFor a context.who → Spares context.who none a b
    → Resumed b (waits.with_searches_over context) outcome c → Resumed a context outcome c
searched-resumed a b c context (Ok resume.Waiting, after) speaks spares resumed = (
  spared-late a b c context.who context.kept context.known context.known context.wait (option_map search_over context.wait) after spares resumed.0,
  λ wanted e. resumed.1 (search_over wanted) (ap (option_map search_over) e),
)
searched-resumed a b c context (Ok (resume.Acquired id), after) speaks spares resumed = (
  spared-late a b c context.who context.kept context.known context.known context.wait (option_map search_over context.wait) after spares resumed.0,
  λ wanted e. resumed.1 (search_over wanted) (ap (option_map search_over) e),
)
searched-resumed a b c context (Ok (resume.Lost how), after) speaks spares resumed =
    followed-late a b c context.who context.kept context.known context.known context.wait (option_map search_over context.wait) after speaks spares resumed
searched-resumed a b c context (Err error, after) speaks spares resumed =
    followed-late a b c context.who context.kept context.known context.known context.wait (option_map search_over context.wait) after speaks spares resumed

sought-so : (a b : Core) (context : ContextView) (end : SearchEnd) → awaited_upgrade context.wait ≡ None → Fits a context → Stays context.who none a b
    → Leads (Resumed a context) (waits.wait_sought context end) b
sought-so a b context Over plain fits stays =
    leads-map (Resumed b (waits.with_searches_over context)) (Resumed a context) (waits.looking (waits.with_searches_over context)) b
    (λ outcome c resumed. searched-resumed a b c context outcome fits.speaks stays.0 resumed)
    (looking-so b (waits.with_searches_over context) (searched-upgrades context.wait ∙ plain) (searched-fits b context (fits-same a b context fits stays)))
sought-so a b context Cut_off plain fits stays =
    resumed-late a b context (waits.looking context) fits.speaks stays.0 (looking-so b context plain (fits-same a b context fits stays))
sought-so a b context (Failed refusal) plain fits stays =
    leads-bind (λ x c. Spares context.who none a c) (Resumed a context) (gains.abandoning context.who)
    (λ _. tidying (Err (Space refusal), waits.without_wait context)) b
    (leads-abandoning a b context.who stays.0)
    (λ x c spares. leads-lost a c context (Err (Space refusal)) (λ after d followed. followed) fits spares)

cut_off-so : (a b : Core) (context : ContextView) (answer : Answer) → awaited_upgrade context.wait ≡ None → Fits a context → Stays context.who none a b
    → Leads (Resumed a context) (waits.cut_off_answered context answer) b
cut_off-so a b context Pending plain fits stays =
    leads-bind (λ x c. Stays context.who none a c) (Resumed a context) (seeking most_searches context.who) (waits.wait_sought context) b
    (leads-quiet (seeking most_searches context.who) a b context.who none stays (quiet-seeking context.who most_searches))
    (λ end c later. sought-so a c context end plain fits later)
cut_off-so a b context (Is_settled how) plain fits stays = polled-so a b context (Is_settled how) plain fits stays
cut_off-so a b context answer plain fits stays = followed-same a b context fits stays

going_on-so : (a : Core) (context : ContextView) (searched : Option Bool) → awaited_upgrade context.wait ≡ None → Fits a context → Leads (Resumed a context) (waits.continuing_wait searched context) a
going_on-so a context None plain fits = followed-here a context fits
going_on-so a context (Some true) plain fits = looking-so a context plain fits
going_on-so a context (Some false) plain fits = λ answer b joins.
    cut_off-so a b context answer plain fits (stays-call context.who none a b (Poll_wait context.who) answer fits.speaks (refl, tt, refl) joins)

-- a wait for a new ticket goes on
pub leads-resuming : (a : Core) (context : ContextView) → awaited_upgrade context.wait ≡ None → Fits a context → Leads (Resumed a context) (waits.resuming context) a
leads-resuming a context plain fits = going_on-so a context (waits.is_searched context.wait) plain fits

-- ---- tickets that are given up

-- one of these tickets has the number
abbrev pub IsAmong : List Kept → ℕ → Type 0
IsAmong gone id = (k : Kept) × Contains gone k × (k.id ≡ id)

has-among : (gone : List Kept) (id : ℕ) → IsAmong gone id → has_number gone id ≡ true
has-among [] id (k, among, e) = absurd (Contains-none k among)
has-among (x ∷ xs) id (k, among, e) = elim (Contains-cons_cases x xs k among) [
  | inl later ↦ (let rest = has-among xs id (k, later, e) in grind (arith, nat_tests))
  | inr same ↦ (let here : x.id ≡ id = ap (λ (y : Kept). y.id) (sym same) ∙ e in grind (arith, nat_tests))
]

quiet-releasing : (who : ℕ) (gone : ℕ → Type 0) (tickets : List Kept) → ((k : Kept) → Contains tickets k → gone k.id)
    → EachCall (IsQuiet who gone) (releases.releasing_all who tickets)
quiet-releasing who gone [] each = tt
quiet-releasing who gone (k ∷ ks) each =
    ((refl, each k (Contains-here k ks), refl), λ _. quiet-releasing who gone ks (λ x among. each x (Contains-later k ks x among)))

-- a context let go of the places where it has nothing
abbrev HasTidied : Core → ContextView → Outcome (Unit {0}) → Core → Type 0
HasTidied a context outcome b = (outcome.1 ≡ tidied context) × Fits b (tidied context) × Unpins context.who (unneeded context) a b

leads-tidying : (reply : Result (Unit {0}) ContextError) (context : ContextView) (a : Core) → Fits a context
    → Leads (HasTidied a context) (tidying (reply, context)) a
leads-tidying reply context a fits =
    leads-bind (λ x b. Unpins context.who (unneeded context) a b) (HasTidied a context) (unpinning_all context.who (unneeded context))
    (λ _. Give (reply, tidied context)) a (leads-unpinning context.who (unneeded context) a fits.speaks)
    (λ x b unpins. (refl, fits-tidied a b context fits unpins, unpins))

-- a context gave these tickets up
pub record GaveUp (a : Core) (gone : List Kept) (before : ContextView) (b : Core) (after : ContextView) : Type 0 where
  pub fits : Fits b after
  pub leaves : Leaves before.who (IsAmong gone) a b
  pub left : after ≡ tidied (record before { kept = without_tickets gone before.kept })

pub leads-giving_up : (a : Core) (gone : List Kept) (context : ContextView) → Fits a context
    → Leads (λ (outcome : Outcome (Unit {0})) b. GaveUp a gone context b outcome.1) (releases.releasing_tickets gone context) a
leads-giving_up a gone context fits =
    leads-bind (λ x b. Stays context.who (IsAmong gone) a b) (λ (outcome : Outcome (Unit {0})) b. GaveUp a gone context b outcome.1)
    (releases.releasing_all context.who gone) (λ _. tidying (Ok tt, left)) a
    (leads-quiet (releases.releasing_all context.who gone) a a context.who (IsAmong gone) (stays-here context.who (IsAmong gone) a fits.speaks)
    (quiet-releasing context.who (IsAmong gone) gone (λ k among. (k, among, refl))))
    (λ x b stays.
    leads-map (HasTidied b left) (λ (outcome : Outcome (Unit {0})) c. GaveUp a gone context c outcome.1) (tidying (Ok tt, left)) b
    (λ outcome c tidy. record {
      fits = subst (Fits c) (sym tidy.0) tidy.1;
      leaves = leaves-unpinned context.who (IsAmong gone) (unneeded left) a b c (leaves-spared context.who (IsAmong gone) a b fits.speaks stays.0) tidy.2;
      left = tidy.0;
    })
    (leads-tidying (Ok tt) left b (fits-fewer a b context (IsAmong gone) (λ ticket. not (has_number gone ticket.id))
    (λ k stay there. (let h = has-among gone k.id there in let g = ap not h in cc)) fits stays)))
  where
    left : ContextView
    left = record context { kept = without_tickets gone context.kept }

-- a context released the one of this number, or none
pub record IsReleased (a : Core) (id : ℕ) (before : ContextView) (b : Core) (after : ContextView) : Type 0 where
  pub fits : Fits b after
  pub leaves : Leaves before.who (λ n. n ≡ id) a b
  pub who : after.who ≡ before.who
  pub fewer : (k : Kept) → Contains after.kept k → Contains before.kept k
  pub late : (most : ℕ) (k : Kept) → Contains (beyond Transaction most after.kept) k → Contains (beyond Transaction most before.kept) k

pub leads-released : (a : Core) (id : ℕ) (context : ContextView) → Fits a context
    → Leads (λ (outcome : Outcome (Unit {0})) b. IsReleased a id context b outcome.1) (releases.releasing id context) a
leads-released a id context fits = go (releases.release_fault id context)
  where
    other : (k : Kept) → not (has_ticket_number id k) ≡ true → k.id ≡ id → ⊥
    other k stay e = let h : has_ticket_number id k ≡ true = grind (arith, nat_tests) in let g = ap not h in cc

    left : ContextView
    left = record context { kept = without_number id context.kept }

    go : (fault : Option ContextError) → Leads (λ (outcome : Outcome (Unit {0})) b. IsReleased a id context b outcome.1)
        (releases.unless fault context (Ask (Release context.who id) (λ _. tidying (Ok tt, left)))) a
    go (Some fault) = record {
      fits = fits;
      leaves = leaves-spared context.who (λ n. n ≡ id) a a fits.speaks (spares-here context.who (λ n. n ≡ id) a fits.speaks);
      who = refl;
      fewer = λ k among. among;
      late = λ most k among. among;
    }
    go None = λ answer b joins. (
        let step = stays-call context.who (λ n. n ≡ id) a b (Release context.who id) answer fits.speaks (refl, refl, refl) joins in
        leads-map (HasTidied b left) (λ (outcome : Outcome (Unit {0})) c. IsReleased a id context c outcome.1) (tidying (Ok tt, left)) b
        (λ outcome c tidy. subst (IsReleased a id context c) (sym tidy.0) (record {
          fits = tidy.1;
          leaves = leaves-unpinned context.who (λ n. n ≡ id) (unneeded left) a b c
              (leaves-spared context.who (λ n. n ≡ id) a b fits.speaks step.0) tidy.2;
          who = refl;
          fewer = λ k among. (among-filter (λ ticket. not (has_ticket_number id ticket)) context.kept k among).0;
          late = λ most k among. drop-fewer most (lasts Transaction) (λ ticket. not (has_ticket_number id ticket)) context.kept k among;
        }))
        (leads-tidying (Ok tt) left b (fits-fewer a b context (λ n. n ≡ id) (λ ticket. not (has_ticket_number id ticket)) other fits step)))

pub leads-releasing : (a : Core) (id : ℕ) (context : ContextView) → Fits a context
    → Leads (λ (outcome : Outcome (Unit {0})) b. Fits b outcome.1 × (outcome.1.who ≡ context.who)) (releases.releasing id context) a
leads-releasing a id context fits =
    leads-map (λ (outcome : Outcome (Unit {0})) b. IsReleased a id context b outcome.1)
    (λ (outcome : Outcome (Unit {0})) b. Fits b outcome.1 × (outcome.1.who ≡ context.who)) (releases.releasing id context) a
    (λ outcome b released. (released.fits, released.who)) (leads-released a id context fits)
