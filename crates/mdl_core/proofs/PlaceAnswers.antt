-- What is answered by the places of keys, and by the room that their locks have.
use Rattle.std.proofs.Common.{is_some, ◌≡◌, ◌≢◌, ◌↔◌, ℕ, zero, suc, ◌+◌, ◌-◌, ◌<◌, ◌≤◌, ◌==◌, Bool, true, false, not, inl, inr, List, length, Some, None, option_map, nat_le, refl, sym, ap, subst, ◌∙◌, arith, eq-eqb, eqb-true}
use Rattle.std.specs.Prelude.{Contains, AllPairs, MatchOption, slice_index_or}
use Rattle.std.proofs.lemmas.Bool.{false≢true}
use Rattle.std.proofs.lemmas.Bool.Decides.{nat_tests}
use Rattle.std.proofs.lemmas.List.{length-map, get_or_default}
use Rattle.std.proofs.lemmas.List.Elements.{Contains-get_or}
use Rattle.std.proofs.lemmas.Option.{slice_get-map, slice_get_past, slice_get-get_or}
use Rattle.mdl_key.specs.Keys.{KeyName, global_key}
use Rattle.mdl_key.specs.declared.mode.Mode.{Mode}
use Rattle.mdl_book.specs.declared.book_view.BookView.{BookView}
use Rattle.mdl_book.specs.declared.ticket.Ticket.{Ticket}
use Rattle.mdl_book.specs.Books.{empty_book}
use Rattle.mdl_book.specs.Tickets.{ticket_id}
use Rattle.mdl_calls.specs.declared.space_error.SpaceError.TheVariants.{NoPlace, Full}
use Rattle.mdl_calls.specs.Words.{Answer, Refused, At_place, Granted, Waits, Key_is}
use Rattle.mdl_calls.proofs.MappedLists.{pairs-map}
use Rattle.mdl_core.specs.CoreCalls.{is_full, placing, replacing, resolve_outcome, key_of_outcome, granted_unless_full, queued_unless_full}
use Rattle.mdl_core.specs.CoreJoins.{numbers_at}
use Rattle.mdl_core.specs.Cores.{Core, book_at, seat_at, key_at, standing_at, has_key, has_pin, index_of, is_in_use, unused_place}
use Rattle.mdl_core.specs.CoreSystems.{granted_in, book_of, waiter_in, system_of}
use Rattle.mdl_core.specs.Determined.{Right, Only, Where, key_of_place, pins_at, AtPlace, AtPin, IsInUse, IsUnused, IsLeastUnused, ToReplace, ToResolve, LockHasRoom, ToGrant, ToWait, places_of}
use Rattle.mdl_core.specs.Ties.{IsTied}
use Rattle.mdl_system.specs.Words.{in_book, of_lock, Holding}
use Rattle.mdl_core.proofs.CallCases.{test_cases, option_cases, not_false, not_true}
use Rattle.mdl_core.proofs.CoreGranted.{book_of-at, granted-place, granted-from_place}
use Rattle.mdl_core.proofs.CoreReads.{within, of_within, found}
use Rattle.mdl_core.proofs.CoreWaiting.{not_there}
use Rattle.mdl_core.proofs.RightAnswers.{IsAnswer, only, where-so, where-not, met, unmet}
use Rattle.mdl_core.proofs.TicketLists.{at_most}
use Rattle.mdl_core.proofs.UnusedPlaces.{pin-session, unused-none, unused-some, use-told, used-by_pin, used-by_version}
use Rattle.mdl_system.proofs.MemberLemmas.{any-found, any-from, Contains-map, Contains-map_from}

-- ---- the key of a place

module _ (core : Core) where
  pub key_of-place : (place : ℕ) → has_key place core ≡ true → key_of_place (places_of core) place ≡ Some (key_at place core)
  key_of-place zero has = cc
  key_of-place (suc index) has =
      let fits = within (suc index) (length core.books) has in
      let here : suc index - 1 ≡ index = omega arith in
      slice_get-map (λ (book : BookView). book.key) core.books index
      ∙ ap (option_map (λ (book : BookView). book.key)) (slice_get-get_or core.books index (empty_book global_key) (omega arith))
      ∙ ap (λ n. Some (slice_index_or core.books n (empty_book global_key)).key) (sym here)

  pub key_of-nowhere : (place : ℕ) → has_key place core ≡ false → key_of_place (places_of core) place ≡ None
  key_of-nowhere zero absent = refl
  key_of-nowhere (suc index) absent =
      let past : length core.books ≤ index = grind (arith, nat_tests) in
      slice_get-map (λ (book : BookView). book.key) core.books index
      ∙ ap (option_map (λ (book : BookView). book.key)) (slice_get_past core.books index past)

  pub place-of_key : (place : ℕ) (key : KeyName) → key_of_place (places_of core) place ≡ Some key → (has_key place core ≡ true) × (key_at place core ≡ key)
  place-of_key place key is = go (has_key place core) refl
    where
      go : (b : Bool) → has_key place core ≡ b → (has_key place core ≡ true) × (key_at place core ≡ key)
      go true has = (has, (let e = sym (key_of-place place has) ∙ is in cc))
      go false absent = (let e = sym (key_of-nowhere place absent) ∙ is in cc)

  at-place : (place : ℕ) (Then : KeyName → Right) (x : Answer) → has_key place core ≡ true → IsAnswer (Then (key_at place core)) x
      → IsAnswer (AtPlace (places_of core) place Then) x
  at-place place Then x has its y =
      subst (λ o. MatchOption o (y ≡ Refused NoPlace) (λ key. Then key y) ↔ (y ≡ x)) (sym (key_of-place place has)) (its y)

  at-nowhere : (place : ℕ) (Then : KeyName → Right) → has_key place core ≡ false → IsAnswer (AtPlace (places_of core) place Then) (Refused NoPlace)
  at-nowhere place Then absent y =
      subst (λ o. MatchOption o (y ≡ Refused NoPlace) (λ key. Then key y) ↔ (y ≡ Refused NoPlace)) (sym (key_of-nowhere place absent)) (only (Refused NoPlace) y)

  -- the pins of a session, and what is answered by them
  pub pin-listed : (who place : ℕ) → has_pin who place core ≡ true → Contains (pins_at core who) place
  pin-listed who place pin =
      let h = any-found (λ (p : ℕ). p == place) (pins_at core who) pin in
      subst (Contains (pins_at core who)) (eqb-true h.0 place h.2) h.1

  pub pin-unlisted : (who place : ℕ) → has_pin who place core ≡ false → Contains (pins_at core who) place → ⊥
  pin-unlisted who place none among =
      false≢true (sym none ∙ any-from (λ (p : ℕ). p == place) (pins_at core who) place among (eq-eqb place place refl))

  -- the right answers by the key of a place that has one
  abbrev Keyed : ℕ → (KeyName → Right) → Right
  Keyed place Then y = (key : KeyName) × (key_of_place (places_of core) place ≡ Some key) × Then key y

  pub at-pin : (pins : List ℕ) (place : ℕ) (Then : KeyName → Right) (x : Answer) → Contains pins place → has_key place core ≡ true
      → IsAnswer (Then (key_at place core)) x → IsAnswer (AtPin (places_of core) pins place Then) x
  at-pin pins place Then x among has its =
      met (Contains pins place) NoPlace (Keyed place Then) x among (λ y. (there y, λ is. (key_at place core, key_of-place place has, (its y).1 is)))
    where
      there : (y : Answer) → Keyed place Then y → y ≡ x
      there y (key, at, rest) = (its y).0 (subst (λ k. Then k y) (sym (place-of_key place key at).1) rest)

  pub not-pinned : (pins : List ℕ) (place : ℕ) (Then : KeyName → Right) → (Contains pins place → ⊥)
      → IsAnswer (AtPin (places_of core) pins place Then) (Refused NoPlace)
  not-pinned pins place Then none = unmet (Contains pins place) NoPlace (Keyed place Then) none

  pub names : (place : ℕ) → IsAnswer (AtPlace (places_of core) place (λ key. Only (Key_is key))) (key_of_outcome place core).0
  names place =
      test_cases (λ (r : Answer × Core). IsAnswer (AtPlace (places_of core) place (λ key. Only (Key_is key))) r.0) (not (has_key place core)) _ _
      (λ absent. at-nowhere place _ (not_true _ absent))
      (λ there. at-place place _ _ (not_false _ there) (only _))

  -- ---- the place of a key

  -- a key that has a place is among those that have one, and the other way round
  pub listed : (place : ℕ) → has_key place core ≡ true → Contains (places_of core).keys (key_at place core)
  listed place has =
      let fits = within place (length core.books) has in
      Contains-map (λ (book : BookView). book.key) core.books (book_at place core)
      (Contains-get_or core.books (place - 1) (empty_book global_key) (omega arith))

  pub unlisted : IsTied core → (key : KeyName) → index_of key core.books ≡ None → Contains (places_of core).keys key → ⊥
  unlisted tied key none among =
      let from = Contains-map_from (λ (book : BookView). book.key) core.books key among in
      let inside = from.1.1 in
      let at : ℕ = from.1.0 in
      let has : has_key (suc at) core ≡ true = of_within (suc at) (length core.books) (omega arith) (omega arith) in
      let here : suc at - 1 ≡ at = omega arith in
      let book : slice_index_or core.books (suc at - 1) (empty_book global_key) ≡ from.0 =
      ap (λ n. slice_index_or core.books n (empty_book global_key)) here ∙ get_or_default core.books at (empty_book global_key) from.0 inside ∙ from.1.2 in
      not_there core key (suc at) tied.keys none has (ap (λ (b : BookView). b.key) book ∙ sym from.2)

  -- ---- places in use

  pinned-anyhow : IsTied core → (who place : ℕ) → Contains (pins_at core who) place → (has_key place core ≡ true) × (is_in_use place core ≡ true)
  pinned-anyhow tied who place among =
      let pins : has_pin who place core ≡ true = any-from (λ (p : ℕ). p == place) (pins_at core who) place among (eq-eqb place place refl) in
      let h = pin-session core place who pins in
      (tied.pinned h.0 place h.1 h.2, used-by_pin core place who pins)

  -- the version of a place's key, in the system
  version-of : IsTied core → (place : ℕ) → has_key place core ≡ true
      → ((system_of core).definitions (key_at place core)).version ≡ (standing_at place core).version
  version-of tied place has = ap (λ (book : BookView). book.standing.version) (book_of-at core place tied has)

  -- what is in use by the system and by pins has a key, and is in use in the space
  pub used-keyed : (place : ℕ) → IsTied core → IsInUse (system_of core) (places_of core) (pins_at core) place → has_key place core ≡ true
  used-keyed place tied (inl (who, among)) = (pinned-anyhow tied who place among).0
  used-keyed place tied (inr (key, at, versioned)) = (place-of_key place key at).0

  pub in_use-from : (place : ℕ) → IsTied core → IsInUse (system_of core) (places_of core) (pins_at core) place → is_in_use place core ≡ true
  in_use-from place tied (inl (who, among)) = (pinned-anyhow tied who place among).1
  in_use-from place tied (inr (key, at, versioned)) =
      let its = place-of_key place key at in
      used-by_version core place (λ none. versioned
      (ap (λ k. ((system_of core).definitions k).version) (sym its.1) ∙ version-of tied place its.0 ∙ none))

  -- and the other way round
  in_use-to : (place : ℕ) → IsTied core → has_key place core ≡ true → is_in_use place core ≡ true
      → IsInUse (system_of core) (places_of core) (pins_at core) place
  in_use-to place tied has used = elim (use-told core place used) [
    | inl pinned ↦ inl (pinned.0, pin-listed pinned.0 place pinned.2)
    | inr versioned ↦ inr (key_at place core, key_of-place place has, λ none. versioned (sym (version-of tied place has) ∙ none))
  ]

  -- the same of places that aren't
  abbrev Unused : ℕ → Type 0
  Unused = IsUnused (system_of core) (places_of core) (pins_at core)

  unused-from : (place : ℕ) → IsTied core → Unused place → (has_key place core ≡ true) × (is_in_use place core ≡ false)
  unused-from place tied (keyed, free) = (keyed_has (has_key place core) refl, is_free (is_in_use place core) refl)
    where
      keyed_has : (b : Bool) → has_key place core ≡ b → has_key place core ≡ true
      keyed_has true e = e
      keyed_has false e = absurd (false≢true (sym (ap is_some (key_of-nowhere place e)) ∙ keyed))

      is_free : (b : Bool) → is_in_use place core ≡ b → is_in_use place core ≡ false
      is_free false e = e
      is_free true e = absurd (free (in_use-to place tied (keyed_has (has_key place core) refl) e))

  unused-to : (place : ℕ) → IsTied core → has_key place core ≡ true → is_in_use place core ≡ false → Unused place
  unused-to place tied has free = (ap is_some (key_of-place place has), λ used. false≢true (sym free ∙ in_use-from place tied used))

  -- ---- a key is resolved

  -- the right answers to it
  abbrev Resolved : KeyName → Right
  Resolved key = ToResolve (system_of core) (places_of core) (pins_at core) key

  abbrev Replaced : Right
  Replaced = ToReplace (system_of core) (places_of core) (pins_at core)

  -- where no place has the key
  abbrev Given : Right
  Given = Where (length (places_of core).keys < core.places) (Only (At_place (length (places_of core).keys + 1))) Replaced

  -- there is one least place that isn't in use
  least : (place : ℕ) → IsTied core → unused_place core ≡ Some place
      → IsAnswer (λ answer. (p : ℕ) × IsLeastUnused (system_of core) (places_of core) (pins_at core) p × (answer ≡ At_place p)) (At_place place)
  least place tied found y = (
    (λ (other, (free, before), is). (
        let one = here.2 other (unused-from other tied free).0 (unused-from other tied free).1 in
        let two = before place its in
        is ∙ ap (λ p. At_place p) (omega (arith, one, two)))),
    λ is. (place, (its, λ other free. (let o = unused-from other tied free in here.2 other o.0 o.1)), is),
  )
    where
      here : (has_key place core ≡ true) × (is_in_use place core ≡ false)
          × ((other : ℕ) → has_key other core ≡ true → is_in_use other core ≡ false → place ≤ other)
      here = unused-some core place found

      its : Unused place
      its = unused-to place tied here.0 here.1

  replaces : (who : ℕ) (key : KeyName) → IsTied core → IsAnswer Replaced (replacing who key (unused_place core) core).0
  replaces who key tied = option_cases (λ o. IsAnswer Replaced (replacing who key o core).0) (unused_place core)
      (λ none. unmet ((place : ℕ) × Unused place) NoPlace _ (λ (place, free). (
      let o = unused-from place tied free in
      false≢true (sym o.1 ∙ unused-none core none place o.0))))
      (λ place found. (
      let here = unused-some core place found in
      met ((p : ℕ) × Unused p) NoPlace _ (At_place place) (place, unused-to place tied here.0 here.1) (least place tied found)))

  pub resolves : IsTied core → (who : ℕ) (key : KeyName) → IsAnswer (Resolved key) (resolve_outcome who key core).0
  resolves tied who key = option_cases (λ o. IsAnswer (Resolved key) (placing who key o core).0) (index_of key core.books) next known
    where
      counted : length (places_of core).keys ≡ length core.books
      counted = length-map core.books (λ (book : BookView). book.key)

      known : (index : ℕ) → index_of key core.books ≡ Some index → IsAnswer (Resolved key) (At_place (index + 1))
      known index e y = (there, λ is. inl (index + 1, key_of-place (index + 1) at.0 ∙ ap (λ k. Some k) at.1, is))
        where
          at : (has_key (index + 1) core ≡ true) × (key_at (index + 1) core ≡ key)
          at = found core key index e

          there : Resolved key y → y ≡ At_place (index + 1)
          there (inl (place, has, is)) =
              let other = place-of_key place key has in
              is ∙ ap (λ n. At_place n) (tied.keys place (index + 1) other.0 at.0 (other.1 ∙ sym at.1))
          there (inr (nowhere, rest)) = absurd (nowhere (subst (Contains (places_of core).keys) at.1 (listed (index + 1) at.0)))

      nowhere-else : (x : Answer) → index_of key core.books ≡ None → IsAnswer Given x → IsAnswer (Resolved key) x
      nowhere-else x none its y = (there, λ is. inr (unlisted tied key none, (its y).1 is))
        where
          there : Resolved key y → y ≡ x
          there (inl (place, has, is)) =
              let other = place-of_key place key has in
              absurd (not_there core key place tied.keys none other.0 other.1)
          there (inr (nowhere, rest)) = (its y).0 rest

      next : index_of key core.books ≡ None → IsAnswer (Resolved key) (placing who key None core).0
      next none =
          test_cases (λ (r : Answer × Core). IsAnswer (Resolved key) r.0) (nat_le core.places (length core.books)) _ _
          (λ all. nowhere-else (replacing who key (unused_place core) core).0 none
          (where-not _ (Only (At_place (length (places_of core).keys + 1))) Replaced _ (λ few. (let c = counted in grind (arith, nat_tests)))
          (replaces who key tied)))
          (λ some. nowhere-else (At_place (length core.books + 1)) none
          (where-so _ (Only (At_place (length (places_of core).keys + 1))) Replaced (At_place (length core.books + 1))
          (let c = counted in grind (arith, nat_tests))
          (subst (λ n. IsAnswer (Only (At_place (length (places_of core).keys + 1))) (At_place (n + 1))) counted (only (At_place (length (places_of core).keys + 1))))))

  -- ---- the room of a lock

  module _ (tied : IsTied core) (place : ℕ) (has : has_key place core ≡ true) where
    -- as many wait for the key in the system as in its book
    queued : length ((system_of core).waiting (key_at place core)) ≡ length (book_at place core).waiting
    queued =
        length-map (book_of (key_at place core) core).waiting (waiter_in core)
        ∙ ap (λ (book : BookView). length book.waiting) (book_of-at core place tied has)

    -- distinct granted tickets of the key are no more than stand in its book
    pub room : is_full place core ≡ false → LockHasRoom (system_of core) (key_at place core)
    room some tickets distinct among =
        let book = book_at place core in
        let in_list : (ticket : Holding) → Contains tickets ticket → Contains (granted_in book) ticket = λ ticket its.
        (let own = among ticket its in
        let at = granted-place core ticket own.0 in
        let same : at.0 ≡ place = tied.keys at.0 place at.1 has (at.2 ∙ own.1) in
        let stands : Contains book.granted (in_book ticket) = subst (λ n. Contains (book_at n core).granted (in_book ticket)) same at.3 in
        let is : of_lock book.key (in_book ticket) ≡ ticket = ap (λ k. of_lock k (in_book ticket)) (sym own.1) in
        subst (Contains (granted_in book)) is (Contains-map (of_lock book.key) book.granted (in_book ticket) stands)) in
        let fewer = at_most tickets (granted_in book) distinct in_list in
        let all : length (granted_in book) ≡ length book.granted = length-map book.granted (of_lock book.key) in
        let others = queued in
        grind (arith, nat_tests)

    -- and all that stand there are distinct
    pub no-room : is_full place core ≡ true → LockHasRoom (system_of core) (key_at place core) → ⊥
    no-room full some =
        let book = book_at place core in
        let distinct : AllPairs (λ (one other : Holding). one ≢ other) (granted_in book) =
        pairs-map (λ (one other : Ticket). ticket_id one ≢ ticket_id other) (λ one other. one ≢ other) (of_lock book.key)
        (λ one other apart same. apart (ap (λ (h : Holding). (h.session, h.number)) same)) book.granted (tied.granted_once place has) in
        let among : (ticket : Holding) → Contains (granted_in book) ticket → Contains (system_of core).granted ticket × (ticket.key ≡ key_at place core) = λ ticket its.
        (let from = Contains-map_from (of_lock book.key) book.granted ticket its in
        let key : ticket.key ≡ book.key = ap (λ (h : Holding). h.key) from.2 in
        let stands : Contains book.granted (in_book ticket) = subst (Contains book.granted) (sym (ap in_book from.2)) from.1 in
        (granted-from_place core place ticket has (sym key) stands, key)) in
        let few = some (granted_in book) distinct among in
        let all : length (granted_in book) ≡ length book.granted = length-map book.granted (of_lock book.key) in
        let others = queued in
        absurd (grind (arith, nat_tests))

    -- a lock is granted where there is room
    pub grants : (who : ℕ) (mode : Mode)
        → IsAnswer (ToGrant (system_of core) (numbers_at core who) (key_at place core)) (granted_unless_full who place mode core).0
    grants who mode =
        test_cases (λ (r : Answer × Core). IsAnswer (ToGrant (system_of core) (numbers_at core who) (key_at place core)) r.0) (is_full place core) _ _
        (λ full. unmet _ Full (Only (Granted ((seat_at who core).last_ticket + 1))) (no-room full))
        (λ some. met _ Full (Only (Granted ((seat_at who core).last_ticket + 1))) _ (room some) (only _))

    -- and a wait begins
    pub queues : (who : ℕ) (mode : Mode)
        → IsAnswer (ToWait (system_of core) (numbers_at core who) (key_at place core)) (queued_unless_full who place mode core).0
    queues who mode =
        test_cases (λ (r : Answer × Core). IsAnswer (ToWait (system_of core) (numbers_at core who) (key_at place core)) r.0) (is_full place core) _ _
        (λ full. unmet _ Full (Only (Waits ((seat_at who core).last_wait + 1))) (no-room full))
        (λ some. met _ Full (Only (Waits ((seat_at who core).last_wait + 1))) _ (room some) (only _))
