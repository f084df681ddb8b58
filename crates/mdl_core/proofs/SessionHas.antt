-- The seat of a session says what the system of locks says of it.
use Rattle.std.proofs.Common.{◌≡◌, ◌≢◌, ◌↔◌, ℕ, ◌<◌, true, false, inl, inr, List, [], ◌∷◌, map, Option, Some, None, refl, sym, ap, subst, ◌∙◌, arith}
use Rattle.std.specs.Prelude.{Contains, AllPairs, MatchOption}
use Rattle.std.proofs.lemmas.List.Kept.{AllPairs-cons}
use Rattle.mdl_key.specs.Keys.{KeyName}
use Rattle.mdl_book.specs.declared.book_view.BookView.{BookView}
use Rattle.mdl_book.specs.declared.ticket.Ticket.{Ticket}
use Rattle.mdl_calls.specs.declared.answers.Held.{Held}
use Rattle.mdl_calls.specs.declared.answers.Settled.{Settled}
use Rattle.mdl_calls.specs.declared.answers.Settled.TheVariants as settled_as
use Rattle.mdl_core.specs.declared.pending.Pending.{Pending}
use Rattle.mdl_core.specs.Cores.{Core, book_at, seat_at, key_at, has_session}
use Rattle.mdl_core.specs.CoreSystems.{wait_state_of, unended_at, unended_of, system_waiter, waiter_in, system_of}
use Rattle.mdl_core.specs.Seats.{ticket_of_wait}
use Rattle.mdl_system.specs.Words.{in_book, Unsettled, Holding, Waiter, GrantedWait, Held as Holds, HasNoWait}
use Rattle.mdl_core.specs.SessionLaws.{holdings_of, HasWait, waiter_for, HasWon, WaitsAt, HasWhatTheSystemSays, HasNothingInSystem, SessionsHaveWhatTheSystemSays, WaitsUnsettled, WaitsSomewhere}
use Rattle.mdl_core.specs.Ties.{IsTied, IsSoundCore, in_book_of}
use Rattle.mdl_core.proofs.CoreGranted.{held-in, granted-place}
use Rattle.mdl_core.specs.ChangeEvents.{holding_of}
use Rattle.mdl_core.proofs.CoreUnended.{own-unended, unended-members, granted_of}
use Rattle.mdl_core.proofs.CoreWaiting.{wait-at, place_of_wait, place_told, book-there, book-nowhere, waiter-found, no_wait}
use Rattle.mdl_system.proofs.MemberLemmas.{Contains-map, Contains-map_from}
use Rattle.mdl_core.proofs.PairLemmas.{below, all-from_members, pairs-from_rising, pairs-head, pairs-tail}

-- ---- the wait, granted

module _ (core : Core) (who : ℕ) (tied : IsTied core) (has : has_session who core ≡ true) where
  -- the wait as the system has it once it is granted
  abbrev won_wait : ℕ → ℕ → GrantedWait
  won_wait number id = record { session = who; wait = number; ticket = id }

  won-from : (number id : ℕ) → Contains (system_of core).unended (won_wait number id) → HasWon core who number id
  won-from number id among =
      let h = granted_of who (seat_at who core).wait (won_wait number id) ((own-unended core who (won_wait number id) has refl).0 among) in
      (h.0, h.1, h.2, ap (λ (g : GrantedWait). g.wait) h.3, ap (λ (g : GrantedWait). g.ticket) h.3)

  won-to : (number id : ℕ) → HasWon core who number id → Contains (system_of core).unended (won_wait number id)
  won-to number id won =
      let wait : Pending = won.0 in
      let is : unended_of who (seat_at who core).wait ≡ Some (won_wait wait.number wait.id) =
      ap (unended_of who) won.1 ∙ ap (unended_at who wait) won.2 in
      let same : won_wait wait.number wait.id ≡ won_wait number id = (λ i. won_wait (won.3 i) (won.4 i)) in
      (own-unended core who (won_wait number id) has refl).1 (is ∙ ap (λ w. Some w) same)

  -- ---- the wait, not granted

  waits-from : (key : KeyName) (waiter : Waiter) → Contains ((system_of core).waiting key) waiter → waiter.ticket.session ≡ who
      → WaitsAt core who key waiter
  waits-from key waiter among own = elim (place_told core key) [
    | inl at ↦ (
        let found = waiter-found core at.0 waiter tied at.1 (subst (λ k. Contains ((system_of core).waiting k) waiter) (sym at.2) among) in
        let h = wait-at core at.0 waiter.ticket tied at.1 found.0 in
        let its : (seat_at who core).wait ≡ Some h.0 = subst (λ n. (seat_at n core).wait ≡ Some h.0) own h.1.waits in
        let there : waiter ≡ system_waiter waiter.ticket (Some h.0) = found.1 ∙ ap (system_waiter waiter.ticket) h.1.waits in
        let ticket : waiter.ticket ≡ record { session = who; number = h.0.id; mode = h.0.mode } =
        sym h.1.stands ∙ ap (λ n. record { session = n; number = h.0.id; mode = h.0.mode }) own in
        (h.0, its, h.1.not_granted, ap (λ n. key_at n core) h.1.there ∙ at.2, there ∙ ap (λ t. system_waiter t (Some h.0)) ticket))
    | inr nowhere ↦ absurd (let lt = (subst (λ (b : BookView). Contains (map (waiter_in core) b.waiting) waiter) (book-nowhere core key nowhere) among).1 in omega arith)
  ]

  waits-to : (key : KeyName) (waiter : Waiter) → WaitsAt core who key waiter
      → Contains ((system_of core).waiting key) waiter × (waiter.ticket.session ≡ who)
  waits-to key waiter waiting =
      let wait : Pending = waiting.0 in
      let ticket : Ticket = record { session = who; number = wait.id; mode = wait.mode } in
      let at = place_of_wait core who wait tied has waiting.1 waiting.2 in
      let book = book-there core wait.place key tied.keys at.0 waiting.3 in
      let mapped : Contains (map (waiter_in core) (book_at wait.place core).waiting) (waiter_in core ticket) =
      Contains-map (waiter_in core) (book_at wait.place core).waiting ticket at.1 in
      let same : waiter_in core ticket ≡ waiter = ap (system_waiter ticket) waiting.1 ∙ sym waiting.4 in (
        subst (λ (b : BookView). Contains (map (waiter_in core) b.waiting) waiter) (sym book)
            (subst (Contains (map (waiter_in core) (book_at wait.place core).waiting)) same mapped),
        ap (λ (w : Waiter). w.ticket.session) waiting.4,
      )

  -- ---- no wait

  free-to : HasNoWait (system_of core) who → (seat_at who core).wait ≡ None
  free-to free = go (seat_at who core).wait refl
    where
      lost : (wait : Pending) → HasWait core who wait → wait.settled ≢ Some settled_as.Granted → ⊥
      lost wait its other =
          let h = waits-to (key_at wait.place core) (waiter_for who wait) (wait, its, other, refl, refl) in
          free.0 (key_at wait.place core) (waiter_for who wait) h.0 h.1

      at : (wait : Pending) → HasWait core who wait → (settled : Option Settled) → wait.settled ≡ settled → ⊥
      at wait its (Some settled_as.Granted) e =
          free.1 (won_wait wait.number wait.id) (won-to wait.number wait.id (wait, its, e, refl, refl)) refl
      at wait its None e = lost wait its (λ f. let no = sym e ∙ f in cc)
      at wait its (Some settled_as.Victim) e = lost wait its (λ f. let no = sym e ∙ f in cc)
      at wait its (Some settled_as.Timeout) e = lost wait its (λ f. let no = sym e ∙ f in cc)
      at wait its (Some settled_as.Killed) e = lost wait its (λ f. let no = sym e ∙ f in cc)

      go : (o : Option Pending) → (seat_at who core).wait ≡ o → (seat_at who core).wait ≡ None
      go None e = e
      go (Some wait) e = absurd (at wait e wait.settled refl)

  -- ---- what is held

  -- a granted wait that isn't ended has the ticket
  from-wait : (o : Option Pending) (ticket : Held) → (seat_at who core).wait ≡ o
      → MatchOption o ⊥ (λ (wait : Pending). (wait.settled ≡ Some settled_as.Granted) × (ticket ≡ ticket_of_wait wait))
      → (wait : Pending) × HasWait core who wait × (wait.settled ≡ Some settled_as.Granted) × (ticket ≡ ticket_of_wait wait)
  from-wait None ticket e won = absurd won
  from-wait (Some wait) ticket e won = (wait, e, won.0, won.1)

  held-to : (held : Holding) → Holds (system_of core) who held → Contains (holdings_of who core) held
  held-to held holds =
      let at = granted-place core held holds.0 in
      let ticket : Held = record { id = held.number; place = at.0; mode = held.mode } in
      let among : Contains (book_at at.0 core).granted (in_book_of who ticket) =
      subst (λ n. Contains (book_at at.0 core).granted (record { session = n; number = held.number; mode = held.mode })) holds.1 at.3 in
      let same : holding_of who ticket core ≡ held =
      (λ i. record { session = sym holds.1 i; number = held.number; key = at.2 i; mode = held.mode }) in
      elim ((tied.granted who ticket has at.1).0 among) [
        | inl mine ↦ subst (Contains (holdings_of who core)) same (Contains-map (λ (t : Held). holding_of who t core) (seat_at who core).held ticket mine)
        | inr won ↦ absurd (
            let w = from-wait (seat_at who core).wait ticket refl won in
            let number : w.0.id ≡ held.number = sym (ap (λ (t : Held). t.id) w.3) in
            holds.2 (won_wait w.0.number held.number) (won-to w.0.number held.number (w.0, w.1, w.2, refl, number)) refl refl)
      ]

  held-from : (held : Holding) → Contains (holdings_of who core) held → Holds (system_of core) who held
  held-from held among =
      let from = Contains-map_from (λ (t : Held). holding_of who t core) (seat_at who core).held held among in
      subst (Holds (system_of core) who) (sym from.2) (held-in core who from.0 tied has from.1)

-- in rising number
abbrev Rises : Holding → Holding → Type 0
Rises earlier later = earlier.number < later.number

holdings-rise : (core : Core) (who : ℕ) (tickets : List Held) → AllPairs below tickets → AllPairs Rises (map (λ (t : Held). holding_of who t core) tickets)
holdings-rise core who [] rising = λ i j d lt short. absurd (omega arith)
holdings-rise core who (ticket ∷ tickets) rising =
    let after = map (λ (t : Held). holding_of who t core) tickets in
    let above : (later : Holding) → Contains after later → ticket.id < later.number = λ later among.
    (let from = Contains-map_from (λ (t : Held). holding_of who t core) tickets later among in
    subst (λ (h : Holding). ticket.id < h.number) (sym from.2) (pairs-head below ticket tickets rising from.0 from.1)) in
    AllPairs-cons Rises (holding_of who ticket core) after (all-from_members Rises (Rises (holding_of who ticket core)) after above)
    (holdings-rise core who tickets (pairs-tail below ticket tickets rising))

-- ---- what is no session

-- a waiting ticket is of a session
pub waiter-session : (core : Core) (key : KeyName) (waiter : Waiter) → IsTied core → Contains ((system_of core).waiting key) waiter
    → has_session waiter.ticket.session core ≡ true
waiter-session core key waiter tied among = elim (place_told core key) [
  | inl at ↦ (
      let found = waiter-found core at.0 waiter tied at.1 (subst (λ k. Contains ((system_of core).waiting k) waiter) (sym at.2) among) in
      (tied.waiting_by at.0 at.1 waiter.ticket found.0).0)
  | inr nowhere ↦ absurd (let lt = (subst (λ (b : BookView). Contains (map (waiter_in core) b.waiting) waiter) (book-nowhere core key nowhere) among).1 in omega arith)
]

has-nothing : (core : Core) (who : ℕ) → IsTied core → has_session who core ≡ false → HasNothingInSystem (system_of core) who
has-nothing core who tied none = (
  (λ held among own. (let at = granted-place core held among in no held.session own (tied.granted_by at.0 at.1 (in_book held) at.3).0)),
  (
    (λ key waiter among own. no waiter.ticket.session own (waiter-session core key waiter tied among)),
    λ wait among own. no wait.session own ((unended-members core wait).0 among).0,
  ),
)
  where
    no : (session : ℕ) → session ≡ who → has_session session core ≡ true → ⊥
    no session own has = let is : false ≡ true = sym none ∙ ap (λ n. has_session n core) (sym own) ∙ has in cc

has-what : (core : Core) (who : ℕ) → IsTied core → has_session who core ≡ true → HasWhatTheSystemSays core who
has-what core who tied has = record {
  held = (
    holdings-rise core who (seat_at who core).held (pairs-from_rising (seat_at who core).held (tied.numbered who has).rising),
    λ held. (held-from core who tied has held, held-to core who tied has held),
  );
  free = (no_wait core who tied has, free-to core who tied has);
  won = λ number id. (won-to core who tied has number id, won-from core who tied has number id);
  waits = λ key waiter. (waits-to core who tied has key waiter, λ both. waits-from core who tied has key waiter both.0 both.1);
}

pub sessions-have : SessionsHaveWhatTheSystemSays
sessions-have core who sound = ((λ has. has-what core who sound.tied has), λ none. has-nothing core who sound.tied none)

-- ---- the unsettled wait

-- that a waiting ticket stands unsettled says that its wait is so
unsettled : (settled : Option Settled) → settled ≢ Some settled_as.Granted → wait_state_of settled ≡ Unsettled → settled ≡ None
unsettled None other e = refl
unsettled (Some settled_as.Granted) other e = absurd (other refl)
unsettled (Some settled_as.Victim) other e = cc
unsettled (Some settled_as.Timeout) other e = cc
unsettled (Some settled_as.Killed) other e = cc

pub waits-somewhere : (core : Core) (target number : ℕ) → IsSoundCore core → WaitsUnsettled core target number ↔ WaitsSomewhere (system_of core) target number
waits-somewhere core target number sound = (there, back)
  where
    there : WaitsUnsettled core target number → WaitsSomewhere (system_of core) target number
    there waits =
        let wait : Pending = waits.1 in
        let open_still : wait.settled ≢ Some settled_as.Granted = λ e. (let no = sym waits.4 ∙ e in cc) in
        let key = key_at wait.place core in
        let h = waits-to core target sound.tied waits.0 key (waiter_for target wait) (wait, waits.2, open_still, refl, refl) in
        (key, waiter_for target wait, h.0, refl, waits.3, ap wait_state_of waits.4)

    back : WaitsSomewhere (system_of core) target number → WaitsUnsettled core target number
    back waits =
        let waiter : Waiter = waits.1 in
        let has : has_session target core ≡ true = subst (λ n. has_session n core ≡ true) waits.3 (waiter-session core waits.0 waiter sound.tied waits.2) in
        let h = waits-from core target sound.tied has waits.0 waiter waits.2 waits.3 in (
          has,
          h.0,
          h.1,
          sym (ap (λ (w : Waiter). w.wait) h.4) ∙ waits.4,
          unsettled h.0.settled h.2 (sym (ap (λ (w : Waiter). w.state) h.4) ∙ waits.5),
        )
