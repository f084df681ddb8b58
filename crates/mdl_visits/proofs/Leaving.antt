-- A latch is given back after deeds, with just the flags up that the lists ask for.
use Rattle.std.proofs.Common.{◌≡◌, ℕ, zero, suc, ◌==◌, map, Bool, true, false, ◌&&◌, List, [], ◌∷◌, ◌++◌, refl, sym, ap, ◌∙◌, append_assoc, append-nil, is_some, eq-eqb}
use Rattle.mdl_visits.proofs.Common.{BookView, Deed, HasTicket, IsInside, IsStepOf, Leaves, LowerFlags, Mine, PutLatch, PutsBack, SessionTicket, StepRecord, Visits, all_done, and_from, and_made, by_bool, elsewhere, elsewhere-settled, flags_lowered, get_elem?, is_ticket, latch_word, lock_word, own_at, rest, some, some-injective, some-ne-none, ticket_by, ticket_of, unlatched}
use Rattle.mdl_visits.proofs.Steps.{none_then}

-- a flag that has to be up and is
pub needed : (needs up : Bool) → (needs ≡ true → up ≡ true) → (needs && up) ≡ needs
needed true up e = e refl
needed false up e = refl

module _ (place : ℕ) (ds : List Deed) (found : ℕ) (book : BookView) (slow obtrusive : Bool) (m : Mine) where
  lowers : StepRecord
  lowers = record { kind = LowerFlags slow obtrusive; deeds = ds; word = lock_word place; found = found; held = m.0.latches; directory = m.0.directory }

  puts : StepRecord
  puts = record { kind = PutLatch; deeds = []; word = latch_word place; found = m.0.number; held = (flags_lowered place ds found book slow obtrusive m).0.latches; directory = m.0.directory }

  abbrev last : Mine
  last = unlatched place [] (flags_lowered place ds found book slow obtrusive m)

  both : (m.0.log ++ lowers ∷ []) ++ puts ∷ [] ≡ m.0.log ++ lowers ∷ puts ∷ []
  both = append_assoc m.0.log (lowers ∷ []) (puts ∷ [])

  pub leaves : Leaves place ds m last
  unfolding lowers puts
  leaves = (
    lowers ∷ puts ∷ [],
    (λ i. (record (all_done place ds m.0) { latches = elsewhere-settled place ds found slow obtrusive book m i; log = both i }, rest m.1)),
    append-nil ds,
  )

  -- the first of its two steps was on the word, while the session had what it had, and did the deeds
  pub first_step : (e : StepRecord) × IsStepOf m last e × ((e.word ≡ lock_word place) × (e.held ≡ m.0.latches) × (e.deeds ≡ ds))
  unfolding lowers puts
  first_step = (lowers, ([], puts ∷ [], both ∙ ap (λ (log : List StepRecord). log ++ lowers ∷ puts ∷ []) (sym (append-nil m.0.log))), (refl, refl, refl))

  -- the second gave the latch back
  pub puts_back : PutsBack place m last
  unfolding lowers puts
  puts_back = (puts, (lowers ∷ [], refl, ((refl, refl), tt)), refl, refl)

-- ---- of a session that came to the place before

module _ (place : ℕ) (m m′ m″ : Mine) (inside : IsInside place m m′) where
  pub visits_left : (ds : List Deed) → Leaves place ds m′ m″ → Visits place ds m m″
  visits_left ds left = record {
    made = inside.made ++ left.0;
    now = left.1 ∙ ap (λ (x : Mine). and_made left.0 (record (all_done place ds x.0) { latches = elsewhere place x }, rest x.1)) inside.now
        ∙ (λ i. (record (all_done place ds m.0) { latches = inside.others i; log = append_assoc m.0.log inside.made left.0 i }, m.1));
    did = none_then inside.made left.0 ds inside.did left.2;
  }

  pub step_later : (e : StepRecord) → IsStepOf m′ m″ e → IsStepOf m m″ e
  step_later e step = (
    inside.made ++ step.0,
    step.1,
    step.2 ∙ ap (λ (x : Mine). (x.0.log ++ step.0) ++ e ∷ step.1) inside.now ∙ ap (λ (log : List StepRecord). log ++ e ∷ step.1) (append_assoc m.0.log inside.made step.0),
  )

-- ---- of its own tickets

-- a ticket of its list stands among those of its place
pub own_found : (who place number : ℕ) (slow : List SessionTicket) → HasTicket place number slow → is_some (ticket_of who number (map (ticket_by who) (own_at place slow))) ≡ true
own_found who place number slow has = found slow has.0 has.1 has.2 has.3 has.4
  where
    found : (ts : List SessionTicket) (k : ℕ) (t : SessionTicket) → get_elem? ts k ≡ some t → t.place ≡ place → t.number ≡ number → is_some (ticket_of who number (map (ticket_by who) (own_at place ts))) ≡ true
    found [] k t there here same = absurd (some-ne-none t (sym there))
    found (x ∷ xs) zero t there here same =
        let is = some-injective x t there in
        let test : (x.place == place) ≡ true = eq-eqb x.place place (ap (λ (o : SessionTicket). o.place) is ∙ here) in
        let hit : is_ticket who number (ticket_by who x) ≡ true = and_from _ _ (eq-eqb who who refl) (eq-eqb x.number number (ap (λ (o : SessionTicket). o.number) is ∙ same)) in
        rw (test, hit) refl
    found (x ∷ xs) (suc k) t there here same =
        let rest = found xs k t there here same in
        by_bool (x.place == place)
        (λ at. by_bool (is_ticket who number (ticket_by who x)) (λ hit. rw (at, hit) refl) (λ miss. rw (at, miss) rest))
        (λ elsewhere. rw elsewhere rest)
