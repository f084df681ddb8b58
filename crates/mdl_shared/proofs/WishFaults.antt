-- Why wishes for locks and clones are refused, in the words of a lock space.
use Rattle.std.proofs.Common.{◌≡◌, ℕ, Bool, true, false, not, ◌&&◌, is_some, List, Option, Some, None, if◌then◌else◌, refl, sym, ap, subst, ◌∙◌, ◌<◌, nat_le, leb-false}
use Rattle.mdl_shared.proofs.FirstLemmas.{AlreadyWaiting, Ask, BadMode, CounterFull, IsUnfit, Kind, Knowledge, KnownKey, Knows, MayAsk, MayClone, MayNotClone, Mode, NoPlace, NotHeld, OfHeld, SessionLocks, SessionTicket, SessionView, SpaceError, and_parts, are_pins_known, clone_fault, covers, data_of, fit-known, holds, holds-told, is_fit, is_mode_of, is_pinned, is_waiting, kind-pinned, kind_pinned, most_numbers, no-asks, no-pin, numbered, of-held, of-kind, tickets_seen, waits-asks, wish_fault}
use Rattle.mdl_shared.proofs.TicketFaults.{other-false}

-- tests that come one after another
chain-clear : (waits fits full : Bool) (one two three : SpaceError)
    → (if waits then Some one else (if not fits then Some two else (if full then Some three else None))) ≡ None → (waits ≡ false) × (fits ≡ true) × (full ≡ false)
chain-clear true fits full one two three e = cc
chain-clear false false full one two three e = cc
chain-clear false true true one two three e = cc
chain-clear false true false one two three e = (refl, refl, refl)

chain-fault : (P : SpaceError → Type 0) (waits fits full : Bool) (one two three why : SpaceError) → (waits ≡ true → P one) → (waits ≡ false → fits ≡ false → P two)
    → (waits ≡ false → fits ≡ true → P three)
    → (if waits then Some one else (if not fits then Some two else (if full then Some three else None))) ≡ Some why → P why
chain-fault P true fits full one two three why first second third e = let is : one ≡ why = cc in subst P is (first refl)
chain-fault P false false full one two three why first second third e = let is : two ≡ why = cc in subst P is (second refl refl)
chain-fault P false true true one two three why first second third e = let is : three ≡ why = cc in subst P is (third refl refl)
chain-fault P false true false one two three why first second third e = cc

-- the mode is of the kind
pub wish-mode : (kind : Kind) (asks : Option Ask) (mode : Mode) (next : ℕ) → wish_fault (Some kind) asks mode next ≡ None → is_mode_of kind mode ≡ true
wish-mode kind asks mode next e = (chain-clear (is_some asks) (is_mode_of kind mode) (nat_le most_numbers next) AlreadyWaiting BadMode CounterFull e).1

-- a session that clones a ticket waits for nothing, the mode fits the ticket's lock, there are numbers left, and the ticket's own mode covers it
pub clone-passed : (asks : Option Ask) (mode : Mode) (known : List KnownKey) (next : ℕ) (o : Option SessionTicket) (t : SessionTicket) → o ≡ Some t → clone_fault o asks mode known next ≡ None
    → (asks ≡ None) × (is_fit t.place mode known ≡ true) × (next < most_numbers) × (covers t.mode mode ≡ true)
clone-passed asks mode known next o t its e =
    let clear = chain-clear (is_some asks) (covers t.mode mode && is_fit t.place mode known) (nat_le most_numbers next) AlreadyWaiting BadMode CounterFull
    (sym (ap (λ x. clone_fault x asks mode known next) its) ∙ e) in
    let parts = and_parts (covers t.mode mode) (is_fit t.place mode known) clear.1 in
    (no-asks asks 0 (waits-asks asks 0 ∙ clear.0), parts.1, leb-false most_numbers next clear.2, parts.0)

module _ (m : SessionView) where
  abbrev knows : Knowledge
  knows = Knows (data_of m) m.me.0.number

  abbrev own : SessionLocks
  own = (data_of m).own

  waits-not : is_some m.me.0.asks ≡ false → is_waiting own ≡ false
  waits-not e = waits-asks m.me.0.asks m.me.0.waits ∙ e

  -- ---- wishes

  -- there is no fault, and so the place is pinned, the mode is of its kind, and there are numbers left
  pub wish-clear : (place : ℕ) (mode : Mode) → wish_fault (kind_pinned place m.pins m.me.0.known) m.me.0.asks mode m.me.0.next ≡ None
      → MayAsk place mode knows own × (m.me.0.next < most_numbers)
  wish-clear place mode e = by (kind_pinned place m.pins m.me.0.known) refl e
    where
      by : (o : Option Kind) → kind_pinned place m.pins m.me.0.known ≡ o → wish_fault o m.me.0.asks mode m.me.0.next ≡ None → MayAsk place mode knows own × (m.me.0.next < most_numbers)
      by None is e = cc
      by (Some kind) is e =
          let pinned = kind-pinned place m.pins m.me.0.known is in
          let clear = chain-clear (is_some m.me.0.asks) (is_mode_of kind mode) (nat_le most_numbers m.me.0.next) AlreadyWaiting BadMode CounterFull e in
          ((pinned.0, waits-not clear.0, of-kind place m.me.0.known kind mode true pinned.1 clear.1), leb-false most_numbers m.me.0.next clear.2)

  -- the causes of faults
  pub wish-cause : (P : SpaceError → Type 0) (place : ℕ) (mode : Mode) (why : SpaceError) → are_pins_known m.me.0.known m.pins ≡ true
      → (is_pinned place own ≡ false → P NoPlace) → ((is_pinned place own ≡ true) × (is_waiting own ≡ true) → P AlreadyWaiting)
      → ((is_pinned place own ≡ true) × (is_waiting own ≡ false) × IsUnfit knows place mode → P BadMode) → (MayAsk place mode knows own → P CounterFull)
      → wish_fault (kind_pinned place m.pins m.me.0.known) m.me.0.asks mode m.me.0.next ≡ Some why → P why
  wish-cause P place mode why all unpinned waits unfit full e = by (kind_pinned place m.pins m.me.0.known) refl e
    where
      by : (o : Option Kind) → kind_pinned place m.pins m.me.0.known ≡ o → wish_fault o m.me.0.asks mode m.me.0.next ≡ Some why → P why
      by None is e = let same : NoPlace ≡ why = cc in subst P same (unpinned (no-pin place m.pins m.me.0.known all is))
      by (Some kind) is e =
          let pinned = kind-pinned place m.pins m.me.0.known is in
          chain-fault P (is_some m.me.0.asks) (is_mode_of kind mode) (nat_le most_numbers m.me.0.next) AlreadyWaiting BadMode CounterFull why
          (λ asks. waits (pinned.0, waits-asks m.me.0.asks m.me.0.waits ∙ asks))
          (λ asks fits. unfit (pinned.0, waits-not asks, of-kind place m.me.0.known kind mode false pinned.1 fits))
          (λ asks fits. full (pinned.0, waits-not asks, of-kind place m.me.0.known kind mode true pinned.1 fits)) e

  -- ---- clones

  may-clone : (id : ℕ) (mode : Mode) (t : SessionTicket) → numbered id (tickets_seen m.me.0) ≡ Some t → (covers t.mode mode && is_fit t.place mode m.me.0.known) ≡ true
      → OfHeld id own (MayClone knows mode)
  may-clone id mode t its can =
      let parts = and_parts (covers t.mode mode) (is_fit t.place mode m.me.0.known) can in
      of-held id (tickets_seen m.me.0) t (MayClone knows mode) its (parts.0, fit-known t.place mode m.me.0.known true parts.1)

  may-not_clone : (id : ℕ) (mode : Mode) (t : SessionTicket) → numbered id (tickets_seen m.me.0) ≡ Some t → (covers t.mode mode && is_fit t.place mode m.me.0.known) ≡ false
      → OfHeld id own (MayNotClone knows mode)
  may-not_clone id mode t its can =
      of-held id (tickets_seen m.me.0) t (MayNotClone knows mode) its (λ covered.
      fit-known t.place mode m.me.0.known false (other-false (covers t.mode mode) (is_fit t.place mode m.me.0.known) can covered))

  pub clone-clear : (id : ℕ) (mode : Mode) (o : Option SessionTicket) → numbered id (tickets_seen m.me.0) ≡ o → clone_fault o m.me.0.asks mode m.me.0.known m.me.0.next ≡ None
      → (is_some m.me.0.asks ≡ false) × OfHeld id own (MayClone knows mode)
  clone-clear id mode None its e = cc
  clone-clear id mode (Some t) its e =
      let clear = chain-clear (is_some m.me.0.asks) (covers t.mode mode && is_fit t.place mode m.me.0.known) (nat_le most_numbers m.me.0.next) AlreadyWaiting BadMode CounterFull e in
      (clear.0, may-clone id mode t its clear.1)

  pub clone-cause : (P : SpaceError → Type 0) (id : ℕ) (mode : Mode) (why : SpaceError) (o : Option SessionTicket) → numbered id (tickets_seen m.me.0) ≡ o
      → (holds id own ≡ false → P NotHeld) → ((holds id own ≡ true) × (is_waiting own ≡ true) → P AlreadyWaiting)
      → ((is_waiting own ≡ false) × OfHeld id own (MayNotClone knows mode) → P BadMode)
      → ((is_waiting own ≡ false) × OfHeld id own (MayClone knows mode) → P CounterFull)
      → clone_fault o m.me.0.asks mode m.me.0.known m.me.0.next ≡ Some why → P why
  clone-cause P id mode why None its none waits unfit full e =
      let same : NotHeld ≡ why = cc in subst P same (none (holds-told id (tickets_seen m.me.0) false (ap is_some its)))
  clone-cause P id mode why (Some t) its none waits unfit full e =
      chain-fault P (is_some m.me.0.asks) (covers t.mode mode && is_fit t.place mode m.me.0.known) (nat_le most_numbers m.me.0.next) AlreadyWaiting BadMode CounterFull why
      (λ asks. waits (holds-told id (tickets_seen m.me.0) true (ap is_some its), waits-asks m.me.0.asks m.me.0.waits ∙ asks))
      (λ asks can. unfit (waits-not asks, may-not_clone id mode t its can))
      (λ asks can. full (waits-not asks, may-clone id mode t its can)) e
