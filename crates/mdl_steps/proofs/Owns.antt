-- A session's own tickets, after a deed at a place: what it has there, and what it has elsewhere.
use Rattle.std.proofs.Common.{◌≡◌, ◌≢◌, ℕ, ◌==◌, Bool, not, cond, List, [], ◌∷◌, ◌++◌, map, Some, None, refl, sym, ap, ◌∙◌, subst, is_some, eq-eqb, eqb-true}
use Rattle.mdl_steps.proofs.Common.{Alter, Deed, Each, Gain, Lose, Mode, SessionTicket, Ticket, filter, first_note, in_mode, is_own, is_ticket, note_at, option_map, own_at, owned, ticket_by, ticket_of}
use Rattle.mdl_steps.proofs.Tickets.{of_other_number}
use Rattle.mdl_steps.proofs.Views.{by_bool, other}

-- ---- at other places nothing changes

pub own_else-push : (place q : ℕ) (t : SessionTicket) (ts : List SessionTicket) → t.place ≡ place → q ≢ place → own_at q (ts ++ t ∷ []) ≡ own_at q ts
own_else-push place q t [] here else = rw (other t.place q (λ e. else (sym e ∙ here))) refl
own_else-push place q t (x ∷ ts) here else = ap (λ xs. cond (x.place == q) (x ∷ xs) xs) (own_else-push place q t ts here else)

own_else-alter : (place q number : ℕ) (mode : Mode) (ts : List SessionTicket) → q ≢ place
    → own_at q (map (λ (t : SessionTicket). cond {A = SessionTicket} (is_own place number t) (record t { mode = mode }) t) ts) ≡ own_at q ts
own_else-alter place q number mode [] else = refl
own_else-alter place q number mode (t ∷ ts) else = by_bool (t.place == place)
    (λ here. by_bool (t.number == number)
    (λ same. rw (here, same, other t.place q (λ e. else (sym e ∙ eqb-true _ _ here))) (own_else-alter place q number mode ts else))
    (λ differs. rw (here, differs) (ap (λ xs. cond (t.place == q) (t ∷ xs) xs) (own_else-alter place q number mode ts else))))
    (λ elsewhere. rw elsewhere (ap (λ xs. cond (t.place == q) (t ∷ xs) xs) (own_else-alter place q number mode ts else)))

own_else-lose : (place q number : ℕ) (ts : List SessionTicket) → q ≢ place → own_at q (filter (λ (t : SessionTicket). not (is_own place number t)) ts) ≡ own_at q ts
own_else-lose place q number [] else = refl
own_else-lose place q number (t ∷ ts) else = by_bool (t.place == place)
    (λ here. by_bool (t.number == number)
    (λ same. rw (here, same, other t.place q (λ e. else (sym e ∙ eqb-true _ _ here))) (own_else-lose place q number ts else))
    (λ differs. rw (here, differs) (ap (λ xs. cond (t.place == q) (t ∷ xs) xs) (own_else-lose place q number ts else))))
    (λ elsewhere. rw elsewhere (ap (λ xs. cond (t.place == q) (t ∷ xs) xs) (own_else-lose place q number ts else)))

pub owned_else : (place q : ℕ) (d : Deed) (ts : List SessionTicket) → q ≢ place → own_at q (owned place d ts) ≡ own_at q ts
owned_else place q (Gain number mode) ts else = own_else-push place q (record { number = number; place = place; mode = mode; noted = note_at place ts }) ts refl else
owned_else place q (Alter number mode) ts else = own_else-alter place q number mode ts else
owned_else place q (Lose number) ts else = own_else-lose place q number ts else

-- ---- look-ups at the place itself

-- what the book would have of these tickets
abbrev pub shown : ℕ → ℕ → List SessionTicket → List Ticket
shown session place ts = map (ticket_by session) (own_at place ts)

module _ (session place : ℕ) where
  pub shown-push : (t : SessionTicket) (ts : List SessionTicket) → t.place ≡ place → shown session place (ts ++ t ∷ []) ≡ shown session place ts ++ ticket_by session t ∷ []
  shown-push t [] here = rw (eq-eqb t.place place here) refl
  shown-push t (x ∷ ts) here = by_bool (x.place == place)
      (λ at. rw at (ap (λ xs. ticket_by session x ∷ xs) (shown-push t ts here)))
      (λ away. rw away (shown-push t ts here))

  own_ticket : (t : SessionTicket) (m : ℕ) → is_ticket session m (ticket_by session t) ≡ (t.number == m)
  own_ticket t m = rw (eq-eqb session session refl) refl

  pub of-lost : (number : ℕ) (ts : List SessionTicket) → ticket_of session number (shown session place (filter (λ (t : SessionTicket). not (is_own place number t)) ts)) ≡ None
  of-lost number [] = refl
  of-lost number (t ∷ ts) = by_bool (t.place == place)
      (λ here. by_bool (t.number == number)
      (λ same. rw (here, same) (of-lost number ts))
      (λ differs. rw (here, differs, here) (rw (own_ticket t number, differs) (of-lost number ts))))
      (λ away. rw (away, away) (of-lost number ts))

  pub of-lost_other : (number m : ℕ) (ts : List SessionTicket) → m ≢ number → ticket_of session m (shown session place (filter (λ (t : SessionTicket). not (is_own place number t)) ts)) ≡ ticket_of session m (shown session place ts)
  of-lost_other number m [] else = refl
  of-lost_other number m (t ∷ ts) else = by_bool (t.place == place)
      (λ here. by_bool (t.number == number)
      (λ same. rw (here, same, of_other_number session m (ticket_by session t) (λ e. else (sym e ∙ eqb-true _ _ same))) (of-lost_other number m ts else))
      (λ differs. rw (here, differs, here) (ap (λ o. cond (is_ticket session m (ticket_by session t)) (Some (ticket_by session t)) o) (of-lost_other number m ts else))))
      (λ away. rw (away, away) (of-lost_other number m ts else))

  pub of-altered : (number : ℕ) (mode : Mode) (ts : List SessionTicket) → ticket_of session number (shown session place (map (λ (t : SessionTicket). cond {A = SessionTicket} (is_own place number t) (record t { mode = mode }) t) ts))
      ≡ option_map (in_mode mode) (ticket_of session number (shown session place ts))
  of-altered number mode [] = refl
  of-altered number mode (t ∷ ts) = by_bool (t.place == place)
      (λ here. by_bool (t.number == number)
      (λ same. rw (here, same, here, eq-eqb session session refl, same) refl)
      (λ differs. rw (here, differs, here, eq-eqb session session refl, differs) (of-altered number mode ts)))
      (λ away. rw (away, away) (of-altered number mode ts))

  pub of-altered_other : (number m : ℕ) (mode : Mode) (ts : List SessionTicket) → m ≢ number → ticket_of session m (shown session place (map (λ (t : SessionTicket). cond {A = SessionTicket} (is_own place number t) (record t { mode = mode }) t) ts))
      ≡ ticket_of session m (shown session place ts)
  of-altered_other number m mode [] else = refl
  of-altered_other number m mode (t ∷ ts) else = by_bool (t.place == place)
      (λ here. by_bool (t.number == number)
      (λ same. rw (here, same, here) (rw (own_ticket t m, other t.number m (λ e. else (sym e ∙ eqb-true _ _ same))) (of-altered_other number m mode ts else)))
      (λ differs. rw (here, differs, here) (ap (λ o. cond (is_ticket session m (ticket_by session t)) (Some (ticket_by session t)) o) (of-altered_other number m mode ts else))))
      (λ away. rw (away, away) (of-altered_other number m mode ts else))

-- ---- what holds of each ticket, whatever its mode

module _ (P : SessionTicket → Type 0) (place : ℕ) where
  each-push : (t : SessionTicket) (ts : List SessionTicket) → P t → Each P ts → Each P (ts ++ t ∷ [])
  each-push t [] last all = (last, tt)
  each-push t (x ∷ xs) last all = (all.0, each-push t xs last all.1)

  pub each-owned : (d : Deed) (ts : List SessionTicket) → ((t : SessionTicket) (mode : Mode) → P t → P (record t { mode = mode }))
      → ((number : ℕ) (mode : Mode) → d ≡ Gain number mode → P (record { number = number; place = place; mode = mode; noted = note_at place ts }))
      → Each P ts → Each P (owned place d ts)
  each-owned (Gain number mode) ts any gained all =
      each-push (record { number = number; place = place; mode = mode; noted = note_at place ts }) ts (gained number mode refl) all
  each-owned (Alter number mode) [] any gained all = tt
  each-owned (Alter number mode) (t ∷ ts) any gained all = (
    by_bool (is_own place number t) (λ own. subst (λ (b : Bool). P (cond {A = SessionTicket} b (record t { mode = mode }) t)) (sym own) (any t mode all.0)) (λ not_own. subst (λ (b : Bool). P (cond {A = SessionTicket} b (record t { mode = mode }) t)) (sym not_own) all.0),
    each-owned (Alter number mode) ts any (λ n m is. absurd (cc)) all.1,
  )
  each-owned (Lose number) [] any gained all = tt
  each-owned (Lose number) (t ∷ ts) any gained all = by_bool (is_own place number t)
      (λ own. subst (λ (b : Bool). Each P (cond {A = List SessionTicket} (not b) (t ∷ owned place (Lose number) ts) (owned place (Lose number) ts))) (sym own) (each-owned (Lose number) ts any (λ n m is. absurd (cc)) all.1))
      (λ not_own. subst (λ (b : Bool). Each P (cond {A = List SessionTicket} (not b) (t ∷ owned place (Lose number) ts) (owned place (Lose number) ts))) (sym not_own) (all.0, each-owned (Lose number) ts any (λ n m is. absurd (cc)) all.1))

-- what holds of each ticket at a place is what holds of each ticket, if it is there
module _ (P : SessionTicket → Type 0) (q : ℕ) where
  pub each-from_at : (ts : List SessionTicket) → Each P (own_at q ts) → Each (λ (t : SessionTicket). t.place ≡ q → P t) ts
  each-from_at [] all = tt
  each-from_at (t ∷ ts) all = by_bool (t.place == q)
      (λ here. let parts = subst (λ (b : Bool). Each P (cond {A = List SessionTicket} b (t ∷ own_at q ts) (own_at q ts))) here all in ((λ _. parts.0), each-from_at ts parts.1))
      (λ away. let parts = subst (λ (b : Bool). Each P (cond {A = List SessionTicket} b (t ∷ own_at q ts) (own_at q ts))) away all in
      ((λ e. let at = eq-eqb t.place q e in absurd (cc)), each-from_at ts parts))

  pub each-to_at : (ts : List SessionTicket) → Each (λ (t : SessionTicket). t.place ≡ q → P t) ts → Each P (own_at q ts)
  each-to_at [] all = tt
  each-to_at (t ∷ ts) all = by_bool (t.place == q)
      (λ here. subst (λ (b : Bool). Each P (cond {A = List SessionTicket} b (t ∷ own_at q ts) (own_at q ts))) (sym here) (all.0 (eqb-true _ _ here), each-to_at ts all.1))
      (λ away. subst (λ (b : Bool). Each P (cond {A = List SessionTicket} b (t ∷ own_at q ts) (own_at q ts))) (sym away) (each-to_at ts all.1))

-- ---- the note of a place

-- it is that of one of the tickets there
pub each-note : (P : ℕ → Type 0) (place : ℕ) (ts : List SessionTicket) → Each (λ (t : SessionTicket). t.place ≡ place → (version : ℕ) → t.noted ≡ Some version → P version) ts
    → (version : ℕ) → note_at place ts ≡ Some version → P version
each-note P place [] all version is = absurd (cc)
each-note P place (t ∷ ts) all version is = by_bool (t.place == place)
    (λ here. all.0 (eqb-true _ _ here) version (rw here at is))
    (λ away. each-note P place ts all.1 version (rw away at is))

-- the first note is that of one of the tickets
pub each-first : (P : ℕ → Type 0) (ts : List SessionTicket) → Each (λ (t : SessionTicket). (version : ℕ) → t.noted ≡ Some version → P version) ts
    → (version : ℕ) → first_note ts ≡ Some version → P version
each-first P [] all version is = absurd (cc)
each-first P (t ∷ ts) all version is = by_bool (is_some t.noted)
    (λ noted. all.0 version (rw noted at is))
    (λ unnoted. each-first P ts all.1 version (rw unnoted at is))
