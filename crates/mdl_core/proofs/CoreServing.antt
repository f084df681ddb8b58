-- Granting the waiters of a place, one after another, until there is none who can be.
use Rattle.std.proofs.Common.{◌++◌, map, ◌≡◌, ℕ, zero, suc, ◌≤◌, Bool, true, false, ◌&&◌, inl, inr, List, [], ◌∷◌, length, find, cond, Option, Some, None, refl, sym, ap, subst, ◌∙◌, arith, length-append}
use Rattle.std.specs.Prelude.{Contains, All}
use Rattle.std.proofs.lemmas.Bool.{and_parts, false≢true}
use Rattle.std.proofs.lemmas.List.{length-map, map-append}
use Rattle.std.proofs.lemmas.List.Elements.{All-nil, All-cons, Contains-append_left, Contains-append_right}
use Rattle.mdl_defs.specs.declared.change.Change.{Change as Redefinition}
use Rattle.mdl_book.specs.declared.ticket.Ticket.{Ticket}
use Rattle.mdl_book.specs.declared.book_view.BookView.{BookView}
use Rattle.mdl_book.proofs.TicketLemmas.{find-passes}
use Rattle.mdl_calls.specs.declared.answers.Settled.TheVariants as settled_as
use Rattle.mdl_system.specs.Words.{IsGrantAt, Event, GrantWaiter, Happens, LeavesOrder, IsGrantable, NoneForgottenAt, Unsettled, Waiter}
use Rattle.mdl_core.specs.CoreLaws.{IsFirst, GrantsInOrder}
use Rattle.mdl_core.specs.Cores.{Core, book_at, seat_at, key_at, has_key, is_free_for}
use Rattle.mdl_core.specs.CoreSystems.{system_of, book_of, waiter_in, applies}
use Rattle.mdl_core.specs.Changes.{Admit, May, admitting_at, admitting_if, admitting_up_to, has_unsettled_wait, is_ready_waiter, next_ready, serving}
use Rattle.mdl_core.specs.Ties.{IsTied, AllMayStand}
use Rattle.mdl_core.proofs.ChangesHappen.{change-happens}
use Rattle.mdl_core.proofs.ChangeTies.{tied-changing, stands-changing}
use Rattle.mdl_core.proofs.CoreGranted.{book_of-at, free-grantable}
use Rattle.mdl_core.proofs.CoreWaiting.{ticket_of-waiter, waiter-found, unsettled-found}
use Rattle.mdl_core.proofs.TiedWrites.{held_at, waiting-own}
use Rattle.mdl_core.proofs.SparedSeats.{Spares, spares-same, spares-then, open_wait, own-settling, keys-changed, spares-changing}
use Rattle.mdl_system.proofs.MemberLemmas.{Contains-map_from}
use Rattle.mdl_system.proofs.RunLemmas.{same_system, Leads}
use Rattle.mdl_system.proofs.OrderLemmas.{Contains-cons_cases, Contains-here}

-- ---- the first that passes a test

-- a list parted at the first that passes
found-parted : {T : Type 0} (p : T → Bool) (xs : List T) (x : T) → find p xs ≡ Some x
    → (before : List T) × (after : List T) × (xs ≡ before ++ x ∷ after) × ((y : T) → Contains before y → p y ≡ false)
found-parted p [] x found = cc
found-parted {T} p (y ∷ ys) x found =
    elim (p y) as (λ b. p y ≡ b → cond b (Some y) (find p ys) ≡ Some x
    → (before : List T) × (after : List T) × (y ∷ ys ≡ before ++ x ∷ after) × ((z : T) → Contains before z → p z ≡ false)) [
      | true ↦ λ passes e. ([], ys, (let same : y ≡ x = cc in ap (λ z. z ∷ ys) same), λ z among. (let lt = among.1 in absurd (omega arith)))
      | false ↦ λ fails e. (
          let rest = found-parted p ys x e in (
            y ∷ rest.0,
            rest.1,
            ap (λ zs. y ∷ zs) rest.2,
            λ z among.
                elim (Contains-cons_cases y rest.0 z among) [ inl later ↦ rest.3 z later | inr same ↦ ap p same ∙ fails ],
          ))
    ] refl found

pub found-first : {T : Type 0} (p : T → Bool) (xs : List T) (x : T) → find p xs ≡ Some x → Contains xs x × (p x ≡ true)
found-first p xs x found =
    let parted = found-parted p xs x found in
    (subst (λ ys. Contains ys x) (sym parted.2) (Contains-append_right parted.0 (x ∷ parted.1) x (Contains-here x parted.1)), find-passes p xs x found)

found-none : {T : Type 0} (p : T → Bool) (xs : List T) (x : T) → find p xs ≡ None → Contains xs x → p x ≡ false
found-none p [] x found among = let lt = among.1 in absurd (omega arith)
found-none p (y ∷ ys) x found among =
    elim (p y) as (λ b. p y ≡ b → cond b (Some y) (find p ys) ≡ None → p x ≡ false) [
      | true ↦ λ passes e. cc
      | false ↦ λ fails e. elim (Contains-cons_cases y ys x among) [ inl later ↦ found-none p ys x e later | inr same ↦ ap p same ∙ fails ]
    ] refl found

-- ---- granting again and again

-- where nobody is ready nothing is granted any more
admitting-idle : (n place : ℕ) (core : Core) → next_ready place core ≡ None → admitting_up_to n place core ≡ core
unfolding admitting_up_to
admitting-idle zero place core idle = refl
admitting-idle (suc n) place core idle =
    ap (λ ready. admitting_up_to n place (admitting_if place ready core)) idle ∙ admitting-idle n place core idle

shorter : {T : Type 0} (x : T) (old new : List T) → LeavesOrder x old new → suc (length new) ≡ length old
shorter x old new leaves =
    let before = ap length leaves.2 ∙ length-append leaves.0 (x ∷ leaves.1) in
    let after = ap length leaves.3 ∙ length-append leaves.0 leaves.1 in
    omega arith

-- a waiter that isn't ready isn't forgotten
not_ready : (core : Core) (place : ℕ) → IsTied core → has_key place core ≡ true → (waiter : Waiter) → Contains ((system_of core).waiting (key_at place core)) waiter
    → is_ready_waiter place core waiter.ticket ≡ false → waiter.state ≡ Unsettled → IsGrantable (system_of core) waiter.ticket.session (key_at place core) waiter.ticket.mode → ⊥
not_ready core place tied key waiter among unready unsettled grantable =
    let unended : has_unsettled_wait waiter.ticket.session core ≡ true = unsettled-found core place waiter tied key among unsettled in
    let free : is_free_for waiter.ticket.session place waiter.ticket.mode core ≡ true =
    (free-grantable core waiter.ticket.session place waiter.ticket.mode tied key).1 grantable in
    let ready : is_ready_waiter place core waiter.ticket ≡ true = ap (λ b. b && is_free_for waiter.ticket.session place waiter.ticket.mode core) unended ∙ free in
    false≢true (sym unready ∙ ready)

-- where none is ready nobody is forgotten
pub none_ready : (core : Core) (place : ℕ) → IsTied core → has_key place core ≡ true → next_ready place core ≡ None
    → NoneForgottenAt (system_of core) (key_at place core)
none_ready core place tied key idle waiter among unsettled grantable =
    let found = waiter-found core place waiter tied key among in
    let unready : is_ready_waiter place core waiter.ticket ≡ false = found-none (is_ready_waiter place core) (book_at place core).waiting waiter.ticket idle found.0 in
    not_ready core place tied key waiter among unready unsettled grantable

-- the next that is ready is the first of the waiters that can be granted
first-ready : (core : Core) (place : ℕ) (ticket : Ticket) → IsTied core → has_key place core ≡ true → next_ready place core ≡ Some ticket
    → IsFirst (system_of core) (key_at place core) (waiter_in core ticket)
first-ready core place ticket tied key ready =
    let parted = found-parted (is_ready_waiter place core) (book_at place core).waiting ticket ready in
    let waiters : (system_of core).waiting (key_at place core) ≡ map (waiter_in core) parted.0 ++ waiter_in core ticket ∷ map (waiter_in core) parted.1 =
    ap (λ (book : BookView). map (waiter_in core) book.waiting) (book_of-at core place tied key) ∙ ap (map (waiter_in core)) parted.2
    ∙ map-append (waiter_in core) parted.0 (ticket ∷ parted.1) in
    let earlier : (waiter : Waiter) → Contains (map (waiter_in core) parted.0) waiter → is_ready_waiter place core waiter.ticket ≡ false = λ waiter among.
    let from = Contains-map_from (waiter_in core) parted.0 waiter among in
    ap (λ (w : Waiter). is_ready_waiter place core w.ticket) from.2 ∙ ap (is_ready_waiter place core) (ticket_of-waiter from.0 (seat_at from.0.session core).wait) ∙ parted.3 from.0 from.1 in
    let there : (waiter : Waiter) → Contains (map (waiter_in core) parted.0) waiter → Contains ((system_of core).waiting (key_at place core)) waiter = λ waiter among.
    subst (λ ws. Contains ws waiter) (sym waiters) (Contains-append_left (map (waiter_in core) parted.0) (waiter_in core ticket ∷ map (waiter_in core) parted.1) waiter among) in
    (map (waiter_in core) parted.0, map (waiter_in core) parted.1, waiters, λ waiter among. not_ready core place tied key waiter (there waiter among) (earlier waiter among))

-- how many wait at a place, in the system
waiting-length : (core : Core) (place : ℕ) → IsTied core → has_key place core ≡ true
    → length ((system_of core).waiting (key_at place core)) ≡ length (book_at place core).waiting
waiting-length core place tied key =
    length-map (book_of (key_at place core) core).waiting (waiter_in core)
    ∙ ap (λ (book : BookView). length book.waiting) (book_of-at core place tied key)

-- what granting waiters of a place leads to
pub record IsServed (place : ℕ) (a b : Core) : Type 0 where
  pub tied : IsTied b
  pub standing : AllMayStand a → AllMayStand b
  pub spares : Spares a b
  pub events : List (Event Redefinition)
  pub grants : All (IsGrantAt (key_at place a)) events
  pub leads : Leads applies events (system_of a) (system_of b)
  pub in_order : GrantsInOrder applies (key_at place a) events (system_of a) (system_of b)
  pub none_forgotten : NoneForgottenAt (system_of b) (key_at place a)

served-at_once : (a : Core) (place : ℕ) → IsTied a → has_key place a ≡ true → next_ready place a ≡ None → IsServed place a a
served-at_once a place tied key idle = record {
  tied = tied;
  standing = λ stand. stand;
  spares = spares-same a;
  events = [];
  grants = All-nil (IsGrantAt (key_at place a));
  leads = refl;
  in_order = same_system (system_of a);
  none_forgotten = none_ready a place tied key idle;
}

-- the next one that is ready
module _ (place : ℕ) (a : Core) (ticket : Ticket) (tied : IsTied a) (key : has_key place a ≡ true) (ready : next_ready place a ≡ Some ticket) where
  abbrev next : Core
  next = admitting_at place ticket a

  abbrev granted : Event Redefinition
  granted = GrantWaiter (key_at place a) (waiter_in a ticket)

  found : Contains (book_at place a).waiting ticket × (is_ready_waiter place a ticket ≡ true)
  found = found-first (is_ready_waiter place a) (book_at place a).waiting ticket ready

  may-next : May ticket.session place (Admit ticket) a
  may-next =
      let unsettled = and_parts _ _ (and_parts _ _ found.1).0 in
      record {
        session = unsettled.0;
        key = key;
        pin = tied.placed ticket.session (held_at place ticket) unsettled.0
            (inr (waiting-own a ticket.session place tied unsettled.0 key ticket refl found.0));
        allows = (found.0, refl, open_wait (seat_at ticket.session a).wait unsettled.1);
      }

  next-tied : IsTied next
  next-tied = tied-changing a ticket.session place (Admit ticket) tied may-next

  next-happens : Happens applies granted (system_of a) (system_of next)
  next-happens =
      change-happens a ticket.session place (Admit ticket) granted tied may-next
      (refl, (free-grantable a ticket.session place ticket.mode tied key).0 (and_parts _ _ found.1).1)

  -- the place keeps its key
  next-key : (has_key place next ≡ true) × (key_at place next ≡ key_at place a)
  next-key = keys-changed a ticket.session place (Admit ticket) may-next place key

  -- fewer wait then
  fewer : suc (length (book_at place next).waiting) ≡ length (book_at place a).waiting
  fewer =
      let short = shorter _ _ _ next-happens.leaves in
      let here = waiting-length a place tied key in
      let there = ap (λ k. length ((system_of next).waiting k)) (sym next-key.1) ∙ waiting-length next place next-tied next-key.0 in
      omega arith

  served-next : (b : Core) → IsServed place next b → IsServed place a b
  served-next b rest = record {
    tied = rest.tied;
    standing = λ stand. rest.standing (stands-changing a ticket.session place (Admit ticket) tied may-next stand);
    spares = spares-then a next b
        (spares-changing a ticket.session place (Admit ticket) may-next refl (own-settling settled_as.Granted (seat_at ticket.session a)) refl)
        rest.spares;
    events = granted ∷ rest.events;
    grants = All-cons (IsGrantAt (key_at place a)) granted rest.events refl (subst (λ k. All (IsGrantAt k) rest.events) next-key.1 rest.grants);
    leads = (system_of next, next-happens, rest.leads);
    in_order = (
      waiter_in a ticket,
      system_of next,
      refl,
      first-ready a place ticket tied key ready,
      next-happens,
      subst (λ k. GrantsInOrder applies k rest.events (system_of next) (system_of b)) next-key.1 rest.in_order,
    );
    none_forgotten = subst (λ k. NoneForgottenAt (system_of b) k) next-key.1 rest.none_forgotten;
  }

served-within : (n place : ℕ) (a : Core) → IsTied a → has_key place a ≡ true → length (book_at place a).waiting ≤ n
    → (ready : Option Ticket) → next_ready place a ≡ ready → IsServed place a (admitting_up_to n place a)
unfolding admitting_up_to
served-within n place a tied key fits None idle = subst (IsServed place a) (sym (admitting-idle n place a idle)) (served-at_once a place tied key idle)
served-within zero place a tied key fits (Some ticket) ready = absurd (let less = fewer place a ticket tied key ready in omega arith)
served-within (suc n) place a tied key fits (Some ticket) ready =
    subst (λ o. IsServed place a (admitting_up_to n place (admitting_if place o a))) (sym ready)
    (served-next place a ticket tied key ready _
    (served-within n place (admitting_at place ticket a) (next-tied place a ticket tied key ready) (next-key place a ticket tied key ready).0
    (let less = fewer place a ticket tied key ready in omega arith) (next_ready place (admitting_at place ticket a)) refl))

pub serves : (a : Core) (place : ℕ) → IsTied a → has_key place a ≡ true → IsServed place a (serving place a)
serves a place tied key = served-within (length (book_at place a).waiting) place a tied key (omega arith) (next_ready place a) refl
