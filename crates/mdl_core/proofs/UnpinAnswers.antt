-- What is answered to the end of a pin, by the system of locks.
use Rattle.std.proofs.Common.{◌≡◌, ◌≢◌, ◌⊎◌, ℕ, true, false, inl, inr, refl, sym, ap, subst, ◌∙◌}
use Rattle.std.specs.Prelude.{Contains, map}
use Rattle.std.proofs.lemmas.Bool.{false≢true}
use Rattle.mdl_book.specs.declared.book_view.BookView.{BookView}
use Rattle.mdl_book.specs.declared.ticket.Ticket.{Ticket}
use Rattle.mdl_calls.specs.declared.answers.Held.{Held}
use Rattle.mdl_calls.specs.declared.space_error.SpaceError.TheVariants.{InUse}
use Rattle.mdl_calls.specs.Words.{Answer, Done}
use Rattle.mdl_core.specs.CoreCalls.{is_needed, unpin_causes, unpin_outcome}
use Rattle.mdl_core.specs.Cores.{Core, book_at, seat_at, key_at, has_key, has_session, unpinning}
use Rattle.mdl_core.specs.CoreSystems.{system_of, waiter_in}
use Rattle.mdl_core.specs.Determined.{Only, HasNothingOn, ToUnpin, places_of, pins_at}
use Rattle.mdl_core.specs.Ties.{Awaits, HasGrantedTicket, IsTied, in_book_of}
use Rattle.mdl_system.specs.Words.{in_book, Holding, Waiter}
use Rattle.mdl_core.proofs.CallCases.{cause_cases, not_false, not_true}
use Rattle.mdl_core.proofs.CoreGranted.{book_of-at, granted-place, granted-from_place}
use Rattle.mdl_core.proofs.CoreReads.{ticket-key}
use Rattle.mdl_core.proofs.CoreWaiting.{ticket_of-waiter, waiter-found}
use Rattle.mdl_core.proofs.NeededPlaces.{needed-ticket, ticket-needs}
use Rattle.mdl_core.proofs.PlaceAnswers.{at-pin, not-pinned, pin-listed, pin-unlisted}
use Rattle.mdl_core.proofs.RightAnswers.{IsAnswer, only, met, unmet}
use Rattle.mdl_core.proofs.TiedWrites.{held_at, as-held, granted-here, waiting-own}
use Rattle.mdl_system.proofs.MemberLemmas.{Contains-map}

module _ (a : Core) (who place : ℕ) (tied : IsTied a) (session : has_session who a ≡ true) (key : has_key place a ≡ true) where
  -- a session that has nothing at a place has nothing on its key
  nothing-on : is_needed who place a ≡ false → HasNothingOn (system_of a) who (key_at place a)
  nothing-on unneeded = (granted, waiting)
    where
      none : (ticket : Held) → HasGrantedTicket (seat_at who a) ticket ⊎ Awaits (seat_at who a) ticket → ticket.place ≢ place
      none ticket has here = false≢true (sym unneeded ∙ ticket-needs a who place ticket has here)

      granted : (ticket : Holding) → Contains (system_of a).granted ticket → ticket.session ≡ who → ticket.key ≢ key_at place a
      granted ticket among own same =
          let at = granted-place a ticket among in
          let here : at.0 ≡ place = tied.keys at.0 place at.1 key (at.2 ∙ same) in
          let stands : Contains (book_at place a).granted (in_book ticket) = subst (λ n. Contains (book_at n a).granted (in_book ticket)) here at.3 in
          none (held_at place (in_book ticket))
          (inl ((granted-here a who place tied session key (held_at place (in_book ticket)) refl).0
          (as-held (book_at place a).granted who place (in_book ticket) own stands))) refl

      waiting : (waiter : Waiter) → Contains ((system_of a).waiting (key_at place a)) waiter → waiter.ticket.session ≢ who
      waiting waiter among own =
          none (held_at place waiter.ticket)
          (inr (waiting-own a who place tied session key waiter.ticket own (waiter-found a place waiter tied key among).0)) refl

  -- one that has a ticket or a wait there has something on it
  something-on : is_needed who place a ≡ true → HasNothingOn (system_of a) who (key_at place a) → ⊥
  something-on needed nothing = let h = needed-ticket a who place needed in by h.0 h.1 h.2
    where
      by : (ticket : Held) → HasGrantedTicket (seat_at who a) ticket ⊎ Awaits (seat_at who a) ticket → ticket.place ≡ place → ⊥
      by ticket (inl has) here =
          let there = ticket-key a who ticket tied session (inl has) in
          let held : Holding = record { session = who; number = ticket.id; key = key_at ticket.place a; mode = ticket.mode } in
          nothing.0 held (granted-from_place a ticket.place held there refl ((tied.granted who ticket session there).1 has)) refl (ap (λ p. key_at p a) here)
      by ticket (inr waits) here =
          let there = ticket-key a who ticket tied session (inr waits) in
          let own : Ticket = in_book_of who ticket in
          let stands : Contains ((system_of a).waiting (key_at ticket.place a)) (waiter_in a own) =
          subst (λ (b : BookView). Contains (map (waiter_in a) b.waiting) (waiter_in a own)) (sym (book_of-at a ticket.place tied there))
          (Contains-map (waiter_in a) (book_at ticket.place a).waiting own ((tied.waiting who ticket session there).1 waits)) in
          nothing.1 (waiter_in a own) (subst (λ p. Contains ((system_of a).waiting (key_at p a)) (waiter_in a own)) here stands)
          (ap (λ (t : Ticket). t.session) (ticket_of-waiter own (seat_at who a).wait))

-- a pin is given up, where the session pins the place and has nothing on its key
pub unpins : (a : Core) (who place : ℕ) → IsTied a → has_session who a ≡ true
    → IsAnswer (ToUnpin (system_of a) (places_of a) (pins_at a who) who place) (unpin_outcome who place a).0
unpins a who place tied session =
    cause_cases (λ (r : Answer × Core). IsAnswer (ToUnpin (system_of a) (places_of a) (pins_at a who) who place) r.0) a
    (Done, unpinning who place a) (unpin_causes who place a) (
      (λ absent. not-pinned a (pins_at a who) place _ (pin-unlisted a who place (not_true _ absent))),
      λ there. (
          let pin = not_false _ there in
          let key = tied.pinned who place session pin in
          let among = pin-listed a who place pin in (
            (λ needed. at-pin a (pins_at a who) place _ _ among key (unmet _ InUse (Only Done) (something-on a who place tied session key needed))),
            λ free. at-pin a (pins_at a who) place _ _ among key (met _ InUse (Only Done) Done (nothing-on a who place tied session key free) (only Done)),
          )),
    )
