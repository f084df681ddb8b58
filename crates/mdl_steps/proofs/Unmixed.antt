-- No slow ticket of a session has the number of a fast one of its place, whatever is done.
use Rattle.std.proofs.Common.{◌≡◌, ◌≢◌, ℕ, ◌<◌, ◌==◌, List, [], ◌∷◌, map, None, refl, sym, ◌∙◌, subst, arith, eq-eqb}
use Rattle.mdl_steps.proofs.FirstLemmas.{AreUnmixed, Deed, Each, Gain, IsUnlike, Mode, SessionTicket, but_at, by_bool, each-from_at, each-owned, each-to_at, noting_version, of_other_number, own_at, owned, ticket_by, ticket_of}

-- a deed under a latch: what is gained has a number above those of the fast ones
pub unmixed_deed : (place next : ℕ) (d : Deed) (fast slow : List SessionTicket) → ((number : ℕ) (mode : Mode) → d ≡ Gain number mode → number ≡ next)
    → Each (λ (t : SessionTicket). t.number < next) fast → AreUnmixed fast slow → AreUnmixed fast (owned place d slow)
unmixed_deed place next d [] slow gains below all = tt
unmixed_deed place next d (t ∷ ts) slow gains below all = (
  each-owned (IsUnlike t) place d slow (λ u mode unlike. unlike)
      (λ number mode is. λ here same. let next_is = gains number mode is in let less = below.0 in omega arith) all.0,
  unmixed_deed place next d ts slow gains below.1 all.1,
)

-- a fast grant: so has the new one, above those of the slow ones
pub unlike_below : (t : SessionTicket) (slow : List SessionTicket) → Each (λ (u : SessionTicket). u.number < t.number) slow → Each (IsUnlike t) slow
unlike_below t [] below = tt
unlike_below t (u ∷ us) below = ((λ here same. let less = below.0 in omega arith), unlike_below t us below.1)

-- a version is noted
module _ (place version : ℕ) where
  unlike_notes : (t : SessionTicket) (slow : List SessionTicket) → Each (IsUnlike t) slow → Each (IsUnlike t) (noting_version place version slow)
  unlike_notes t [] all = tt
  unlike_notes t (u ∷ us) all = by_bool (u.place == place)
      (λ here. rw here (all.0, unlike_notes t us all.1))
      (λ away. rw away (all.0, unlike_notes t us all.1))

  pub unmixed_notes : (fast slow : List SessionTicket) → AreUnmixed fast slow → AreUnmixed (noting_version place version fast) (noting_version place version slow)
  unmixed_notes [] slow all = tt
  unmixed_notes (t ∷ ts) slow all = by_bool (t.place == place)
      (λ here. rw here (unlike_notes t slow all.0, unmixed_notes ts slow all.1))
      (λ away. rw away (unlike_notes t slow all.0, unmixed_notes ts slow all.1))

-- the fast ones of a place become slow ones: those elsewhere are the same
pub unmixed_joined : (place : ℕ) (fast slow joined : List SessionTicket) → ((q : ℕ) → q ≢ place → own_at q joined ≡ own_at q slow)
    → AreUnmixed fast slow → AreUnmixed (but_at place fast) joined
unmixed_joined place [] slow joined elsewhere all = tt
unmixed_joined place (t ∷ ts) slow joined elsewhere all = by_bool (t.place == place)
    (λ here. rw here (unmixed_joined place ts slow joined elsewhere all.1))
    (λ away.
    let other : t.place ≢ place = λ e. (let same = sym (eq-eqb t.place place e) ∙ away in absurd (cc)) in
    let unlike : SessionTicket → Type 0 = λ u. u.number ≢ t.number in
    let here = subst (λ (us : List SessionTicket). Each unlike us) (sym (elsewhere t.place other)) (each-to_at unlike t.place slow all.0) in
    rw away (each-from_at unlike t.place joined here, unmixed_joined place ts slow joined elsewhere all.1))

-- by the number of a fast ticket no slow one of its place is found
module _ (session place : ℕ) where
  none_alike : (number : ℕ) (ts : List SessionTicket) → Each (λ (u : SessionTicket). u.number ≢ number) ts → ticket_of session number (map (ticket_by session) ts) ≡ None
  none_alike number [] all = refl
  none_alike number (u ∷ us) all = rw (of_other_number session number (ticket_by session u) all.0) (none_alike number us all.1)

  pub unmixed_apart : (fast slow : List SessionTicket) → AreUnmixed fast slow
      → Each (λ (t : SessionTicket). ticket_of session t.number (map (ticket_by session) (own_at place slow)) ≡ None) (own_at place fast)
  unmixed_apart fast slow all = each-to_at (λ (t : SessionTicket). ticket_of session t.number (map (ticket_by session) (own_at place slow)) ≡ None) place fast (of_each fast all)
    where
      of_each : (ts : List SessionTicket) → AreUnmixed ts slow → Each (λ (t : SessionTicket). t.place ≡ place → ticket_of session t.number (map (ticket_by session) (own_at place slow)) ≡ None) ts
      of_each [] unmixed = tt
      of_each (t ∷ ts) unmixed = (
        λ here. none_alike t.number (own_at place slow) (each-to_at (λ (u : SessionTicket). u.number ≢ t.number) place slow (subst (λ (q : ℕ). Each (λ (u : SessionTicket). u.place ≡ q → u.number ≢ t.number) slow) here unmixed.0)),
        of_each ts unmixed.1,
      )
