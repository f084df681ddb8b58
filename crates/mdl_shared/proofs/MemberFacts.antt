-- What is always so of a session between two calls, in the words that its calls need.
use Rattle.std.proofs.Common.{◌≡◌, ◌⊎◌, inl, inr, ℕ, ◌<◌, ◌+◌, ◌-◌, ◌==◌, Bool, true, not, nat_lt, List, [], ◌∷◌, ◌++◌, find, length, map, is_some, Option, Some, None, refl, sym, ap, subst, ◌∙◌, arith, eqb-true, lt-ltb, ltb-true}
use Rattle.mdl_calls.proofs.PinLemmas.{all-among}
use Rattle.mdl_shared.proofs.Common.{Alter, Ask, Deed, Differ, Each, Gain, HasTicket, Held, IfSome, IsMember, IsPlace, IsRising, KnowsPlace, LatchRecord, Lose, MayVisit, Mode, NotWaited, Rising, SessionTicket, SessionView, SpeaksFor, Wait, all_numbers, and_from, and_parts, are_apart, are_below_next, are_below_told, as_held, by_bool, data_of, first_free, has_pin, is_ask_apart, is_ask_last, is_ask_told, is_known, is_no_number, list_all-map, not_waited, numbered, numbered-interleaved, option_map, own_at, rising-uninterleaved, tickets_seen}
use Rattle.mdl_shared.proofs.Membership.{has_numbered, known_within, some_key}
use Rattle.mdl_shared.proofs.PinnedPlaces.{are_pinned, numbered-pinned, pinned-told, some-pinned}
use Rattle.mdl_shared.proofs.SameSpace.{numbers_by, wait_by}
use Rattle.mdl_shared.proofs.TicketOrder.{AllLeaveFast, DoesSlow, all-owned-slow, all-parts, apart-numbers, none-numbered, numbers-apart, rising-told}

-- ---- numbers

-- what passes a test passes a weaker one
weaker : (test other : ℕ → Bool) (tickets : List SessionTicket) → ((n : ℕ) → test n ≡ true → other n ≡ true) → all_numbers test tickets ≡ true → all_numbers other tickets ≡ true
weaker test other [] follows all = refl
weaker test other (t ∷ ts) follows all =
    let parts = and_parts (test t.number) (all_numbers test ts) all in
    and_from _ _ (follows t.number parts.0) (weaker test other ts follows parts.1)

-- with one number more that is given out
below_more : (next : ℕ) (tickets : List SessionTicket) → are_below_next next tickets ≡ true → are_below_next (next + 1) tickets ≡ true
below_more next tickets all = weaker (λ n. nat_lt n next) (λ n. nat_lt n (next + 1)) tickets (λ n e. let less = ltb-true n next e in lt-ltb n (next + 1) (omega arith)) all

-- the next number is none of theirs
next_apart : (next : ℕ) (tickets : List SessionTicket) → are_below_next next tickets ≡ true → is_no_number next tickets ≡ true
next_apart next tickets all = weaker (λ n. nat_lt n next) (λ n. not (n == next)) tickets other all
  where
    other : (n : ℕ) → nat_lt n next ≡ true → not (n == next) ≡ true
    other n e = by_bool (n == next) (λ same. (let less = ltb-true n next e in let is = eqb-true n next same in absurd (omega arith))) (λ differ. rw differ refl)

-- ---- its lists, as they are told

-- numbers below one
below-told : (number : ℕ) (tickets : List SessionTicket) → are_below_told number (map as_held tickets) ≡ are_below_next number tickets
below-told number tickets = list_all-map (λ (h : Held). nat_lt h.id number) as_held tickets

-- ---- look-ups in two lists

found-first : {X : Type 0} (p : X → Bool) (xs ys : List X) (x : X) → find p xs ≡ Some x → find p (xs ++ ys) ≡ Some x
found-first p [] ys x found = absurd (cc)
found-first p (z ∷ zs) ys x found = by_bool (p z) (λ hit. rw hit (rw hit at found)) (λ miss. rw miss (found-first p zs ys x (rw miss at found)))

found-later : {X : Type 0} (p : X → Bool) (xs ys : List X) → find p xs ≡ None → find p (xs ++ ys) ≡ find p ys
found-later p [] ys none = refl
found-later p (z ∷ zs) ys none = by_bool (p z) (λ hit. let no = rw hit at none in absurd (cc)) (λ miss. rw miss (found-later p zs ys (rw miss at none)))

module _ {s : SessionView} (is : IsMember s) where
  -- it speaks for its number
  pub speaks : SpeaksFor (data_of s) s.me.0.number
  speaks = (refl, is.sound)

  -- ---- its wait

  -- it was told nothing of a wait that it hasn't
  pub nothing-told : s.me.0.asks ≡ None → s.me.0.told ≡ None
  nothing-told idle = by s.me.0.told (subst (λ (o : Option Ask). is_ask_told o s.me.0.told ≡ true) idle is.told)
    where
      by : (told : Option ℕ) → is_ask_told None told ≡ true → told ≡ None
      by None e = refl
      by (Some state) e = cc

  -- the ticket that it asks for has the last number
  pub ask-last : (a : Ask) → s.me.0.asks ≡ Some a → a.number + 1 ≡ s.me.0.next
  ask-last a asks = eqb-true (a.number + 1) s.me.0.next (subst (λ (o : Option Ask). is_ask_last s.me.0.next o ≡ true) asks is.last)

  -- ---- its tickets

  -- their numbers are below the next one, which is greater than 0
  pub next-some : 0 < s.me.0.next
  next-some = let fewer = is.fewer.0 in omega arith

  below-free : (asks : Option Ask) → s.me.0.asks ≡ asks → (are_below_next s.me.0.next (tickets_seen s.me.0) ≡ true) × (is_ask_apart s.me.0.next (tickets_seen s.me.0) asks ≡ true)
  below-free None asks =
      let all : (s.me.0.next - 1) + 1 ≡ s.me.0.next = (let some = next-some in omega arith) in
      let free = subst (λ (o : Option Ask). are_below_told (first_free (is_some (wait_by s.me.0.waits o)) (numbers_by s.me.0.next s.me.0.waits)) (map as_held (tickets_seen s.me.0)) ≡ true) asks is.sound.below in
      (sym (ap (λ (n : ℕ). are_below_told n (map as_held (tickets_seen s.me.0))) all ∙ below-told s.me.0.next (tickets_seen s.me.0)) ∙ free, refl)
  below-free (Some a) asks =
      let last = ask-last a asks in
      let number : s.me.0.next - 1 ≡ a.number = omega arith in
      let free = subst (λ (o : Option Ask). are_below_told (first_free (is_some (wait_by s.me.0.waits o)) (numbers_by s.me.0.next s.me.0.waits)) (map as_held (tickets_seen s.me.0)) ≡ true) asks is.sound.below in
      let below : are_below_next a.number (tickets_seen s.me.0) ≡ true = sym (ap (λ (n : ℕ). are_below_told n (map as_held (tickets_seen s.me.0))) number ∙ below-told a.number (tickets_seen s.me.0)) ∙ free in (
        subst (λ (n : ℕ). are_below_next n (tickets_seen s.me.0) ≡ true) last (below_more a.number (tickets_seen s.me.0) below),
        and_from _ _ (lt-ltb a.number s.me.0.next (omega arith)) (next_apart a.number (tickets_seen s.me.0) below),
      )

  pub below : are_below_next s.me.0.next (tickets_seen s.me.0) ≡ true
  below = (below-free s.me.0.asks refl).0

  -- none of them is waited for
  pub apart : is_ask_apart s.me.0.next (tickets_seen s.me.0) s.me.0.asks ≡ true
  apart = (below-free s.me.0.asks refl).1

  pub unwaited : (id : ℕ) → is_some (numbered id (tickets_seen s.me.0)) ≡ true → NotWaited s.me.0 id
  unwaited id there = not_waited (record s.me.0 { slow = tickets_seen s.me.0 }) id there apart

  -- they are at places that it pins
  pinned : are_pinned s.pins (tickets_seen s.me.0) ≡ true
  pinned = sym (pinned-told (data_of s).own (tickets_seen s.me.0)) ∙ is.sound.placed

  pub ticket-pinned : (id : ℕ) (t : SessionTicket) → numbered id (tickets_seen s.me.0) ≡ Some t → has_pin t.place s.pins ≡ true
  ticket-pinned id t its = numbered-pinned s.pins id (tickets_seen s.me.0) t pinned its

  pub fast-pinned : (place : ℕ) → 0 < length (own_at place s.me.0.fast) → has_pin place s.pins ≡ true
  fast-pinned place some = some-pinned s.pins place s.me.0.fast (all-parts (λ (t : SessionTicket). has_pin t.place s.pins) s.me.0.slow s.me.0.fast pinned).1 some

  -- whose keys it knows
  pub pin-known : (place : ℕ) → has_pin place s.pins ≡ true → is_known place s.me.0.known ≡ true
  pin-known place pinned = all-among (λ (p : ℕ). is_known p s.me.0.known) place s.pins is.sound.pinned pinned

  pub ticket-known : (id : ℕ) (t : SessionTicket) → numbered id (tickets_seen s.me.0) ≡ Some t → is_known t.place s.me.0.known ≡ true
  ticket-known id t its = pin-known t.place (ticket-pinned id t its)

  -- and so is that of the one that it waits for
  pub awaited : (a : Ask) → s.me.0.asks ≡ Some a → is_known a.place s.me.0.known ≡ true
  awaited a asks =
      pin-known a.place (subst (λ (o : Option Ask). IfSome (wait_by s.me.0.waits o) (λ (w : Wait). has_pin w.place s.pins ≡ true)) asks is.sound.awaited)

  -- ---- its places

  -- no key is known twice, and no place
  pub keys-apart : are_apart s.me.0.known ≡ true
  keys-apart = is.sound.apart

  -- a known place is one of the table's, and that of a key
  pub place-within : (place : ℕ) → is_known place s.me.0.known ≡ true → IsPlace s.table place
  place-within place known = known_within s.table.slots place s.me.0.known is.within known

  pub place-known : (place : ℕ) → is_known place s.me.0.known ≡ true → KnowsPlace s.me.0 place
  place-known place known = some_key place s.me.0.known known

  -- its latch may be taken
  pub may-latch : (place : ℕ) → IsRising place s.me
  may-latch place = by s.me.0.latches is.idle.0
    where
      by : (latches : List LatchRecord) → ◌≡◌ {A = ℕ} (length latches) 0 → Each (λ (h : LatchRecord). h.place < place) latches
      by [] none = tt
      by (h ∷ hs) none = absurd (omega arith)

  -- so it may go to a place that it knows
  pub may-visit : (place : ℕ) → is_known place s.me.0.known ≡ true → MayVisit place (record { table = s.table; me = s.me })
  may-visit place known = record { is_place = place-within place known; rising = may-latch place }

  -- ---- a ticket of its

  pub ticket-there : (id : ℕ) (t : SessionTicket) → numbered id (tickets_seen s.me.0) ≡ Some t → HasTicket t.place id (tickets_seen s.me.0)
  ticket-there id t its = has_numbered t.place id (tickets_seen s.me.0) (ap (option_map (λ (x : SessionTicket). x.place)) its)

  pub slow-there : (id : ℕ) (t : SessionTicket) → numbered id s.me.0.slow ≡ Some t → HasTicket t.place id s.me.0.slow
  slow-there id t its = has_numbered t.place id s.me.0.slow (ap (option_map (λ (x : SessionTicket). x.place)) its)

  -- ---- while it has no fast ticket

  -- none is at a place
  pub none-there : s.me.0.fast ≡ [] → (place : ℕ) → own_at place s.me.0.fast ≡ []
  none-there none place = ap (own_at place) none

  -- ---- its slow tickets and its fast ones

  -- the numbers of all rise
  pub rising : Rising (tickets_seen s.me.0)
  rising = rising-told (tickets_seen s.me.0) is.sound.rising

  -- no two fast ones have the same number
  pub differ : Differ s.me.0.fast
  differ = (rising-uninterleaved s.me.0.slow s.me.0.fast rising).1

  -- so none of the fast ones has the number of a slow one
  pub spared : (id : ℕ) (t : SessionTicket) → numbered id s.me.0.slow ≡ Some t → is_no_number id s.me.0.fast ≡ true
  spared id t its = apart-numbers id t s.me.0.slow s.me.0.fast rising its

  -- no slow one is waited for
  pub slow-apart : is_ask_apart s.me.0.next s.me.0.slow s.me.0.asks ≡ true
  slow-apart = by s.me.0.asks apart
    where
      by : (o : Option Ask) → is_ask_apart s.me.0.next (tickets_seen s.me.0) o ≡ true → is_ask_apart s.me.0.next s.me.0.slow o ≡ true
      by None all = refl
      by (Some a) all =
          let parts = and_parts (nat_lt a.number s.me.0.next) (is_no_number a.number (tickets_seen s.me.0)) all in
          and_from _ _ parts.0 (all-parts (λ (t : SessionTicket). not (t.number == a.number)) s.me.0.slow s.me.0.fast parts.1).0

  -- what is done to the slow ones is done to all
  pub does-slow : (place : ℕ) (ds : List Deed) → AllLeaveFast place ds s.me.0.slow s.me.0.fast → DoesSlow place ds s.me.0
  does-slow place ds leaves = all-owned-slow place ds s.me.0.slow s.me.0.fast rising leaves

  -- by cases: a new one is the next at a place without fast ones, and a slow one changes, or goes
  pub gains-slow : (place number : ℕ) (mode : Mode) → number ≡ s.me.0.next → own_at place s.me.0.fast ≡ [] → DoesSlow place (Gain number mode ∷ []) s.me.0
  gains-slow place number mode first none =
      does-slow place (Gain number mode ∷ []) ((none, ap (λ (n : ℕ). are_below_next n (tickets_seen s.me.0)) first ∙ below), tt)

  pub alters-slow : (place id : ℕ) (mode : Mode) (t : SessionTicket) → numbered id s.me.0.slow ≡ Some t → DoesSlow place (Alter id mode ∷ []) s.me.0
  alters-slow place id mode t its = does-slow place (Alter id mode ∷ []) (spared id t its, tt)

  pub loses-slow : (place id : ℕ) (t : SessionTicket) → numbered id s.me.0.slow ≡ Some t → DoesSlow place (Lose id ∷ []) s.me.0
  loses-slow place id t its = does-slow place (Lose id ∷ []) (spared id t its, tt)

  pub merges-slow : (place old new : ℕ) (mode : Mode) (kept gone : SessionTicket) → numbered old s.me.0.slow ≡ Some kept → numbered new s.me.0.slow ≡ Some gone
      → DoesSlow place (Alter old mode ∷ Lose new ∷ []) s.me.0
  merges-slow place old new mode kept gone one other = does-slow place (Alter old mode ∷ Lose new ∷ []) (spared old kept one, (spared new gone other, tt))

  -- ---- a ticket of its is slow or fast

  -- a slow one, or a fast one, is one of all
  pub slow-held : (id : ℕ) (t : SessionTicket) → numbered id s.me.0.slow ≡ Some t → numbered id (tickets_seen s.me.0) ≡ Some t
  slow-held id t its =
      numbered-interleaved id s.me.0.slow s.me.0.fast differ (inr (none-numbered id s.me.0.fast (spared id t its))) ∙ found-first (λ (u : SessionTicket). u.number == id) s.me.0.slow s.me.0.fast t its

  pub fast-held : (id : ℕ) (t : SessionTicket) → numbered id s.me.0.fast ≡ Some t → numbered id (tickets_seen s.me.0) ≡ Some t
  fast-held id t its =
      let none = none-numbered id s.me.0.slow (numbers-apart id t s.me.0.slow s.me.0.fast rising its) in
      numbered-interleaved id s.me.0.slow s.me.0.fast differ (inl none) ∙ found-later (λ (u : SessionTicket). u.number == id) s.me.0.slow s.me.0.fast none ∙ its

  -- and each is one of either
  pub held-either : (id : ℕ) (t : SessionTicket) → numbered id (tickets_seen s.me.0) ≡ Some t → (numbered id s.me.0.slow ≡ Some t) ⊎ (numbered id s.me.0.fast ≡ Some t)
  held-either id t its = by (numbered id s.me.0.slow) refl
    where
      by : (o : Option SessionTicket) → numbered id s.me.0.slow ≡ o → (numbered id s.me.0.slow ≡ Some t) ⊎ (numbered id s.me.0.fast ≡ Some t)
      by (Some u) found = inl (found ∙ sym (slow-held id u found) ∙ its)
      by None none =
          inr (sym (numbered-interleaved id s.me.0.slow s.me.0.fast differ (inl none) ∙ found-later (λ (u : SessionTicket). u.number == id) s.me.0.slow s.me.0.fast none) ∙ its)

  pub fast-alone : (id : ℕ) (t : SessionTicket) → numbered id s.me.0.fast ≡ Some t → is_no_number id s.me.0.slow ≡ true
  fast-alone id t its = numbers-apart id t s.me.0.slow s.me.0.fast rising its
