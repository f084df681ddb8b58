-- Beside an exclusive ticket of a session nobody else has a ticket of that lock, fast or slow.
use Rattle.std.proofs.Common.{◌≡◌, ◌≢◌, ℕ, zero, suc, ◌==◌, Bool, true, List, [], ◌∷◌, ◌++◌, map, Some, None, refl, sym, ◌∙◌, subst, rules, Option, Contains, eqb-true}
use Rattle.mdl_steps.proofs.Common.{AllPass-from_list_all, Kind, Lawful, Mode, Part, SessionTicket, SlowHeld, Ticket, X, all_fast, and_from, and_parts, clashes, due, get_elem?, is_compatible, is_mode_of, is_ticket, list_all, list_all-append, option_to_list, some, some-injective, some-ne-none, stands_beside, ticket_by, ticket_of}
use Rattle.mdl_steps.proofs.Tickets.{is_itself, of_other}
use Rattle.mdl_steps.proofs.Views.{by_bool}

-- ---- tickets of one session alone

-- each ticket of a list is the session's
abbrev pub all_of : ℕ → List Ticket → Bool
all_of session tickets = list_all (λ u. u.session == session) tickets

nothing_beside : (kind : Kind) (mode : Mode) → is_mode_of kind mode ≡ true → clashes kind X mode ≡ true
nothing_beside kind mode of_kind = search rules

compatible_all_of : (kind : Kind) (session : ℕ) (ts : List Ticket) → is_compatible kind ts session X ≡ true → list_all (λ u. is_mode_of kind u.mode) ts ≡ true → all_of session ts ≡ true
compatible_all_of kind session [] compatible modes = refl
compatible_all_of kind session (u ∷ us) compatible modes =
    let p = and_parts (stands_beside kind session X u) (is_compatible kind us session X) compatible in
    let q = and_parts (is_mode_of kind u.mode) (list_all (λ t. is_mode_of kind t.mode) us) modes in
    and_from (u.session == session) (all_of session us)
    (by_bool (u.session == session) (λ own. own) (λ others. let clash = nothing_beside kind u.mode q.0 in let stands = p.0 in let no = rw (others, clash) at stands in absurd (cc)))
    (compatible_all_of kind session us p.1 q.1)

module _ (session a : ℕ) (differs : a ≢ session) where
  none_of : (m : ℕ) (ts : List Ticket) → all_of session ts ≡ true → ticket_of a m ts ≡ None
  none_of m [] all = refl
  none_of m (u ∷ us) all =
      let p = and_parts (u.session == session) (all_of session us) all in
      rw (of_other a m u (λ e. differs (sym e ∙ eqb-true _ _ p.0))) (none_of m us p.1)

  none_fast : (ts : List SessionTicket) → all_of session (map (ticket_by a) ts) ≡ true → ts ≡ []
  none_fast [] all = refl
  none_fast (t ∷ ts) all = absurd (differs (eqb-true a session (and_parts (a == session) (all_of session (map (ticket_by a) ts)) all).0))

-- a ticket that stands in a list is found, also behind one that is waited for
stands_found : (session : ℕ) (t : SessionTicket) (ts : List SessionTicket) → ticket_of session t.number (map (ticket_by session) (t ∷ ts)) ≡ None → ⊥
stands_found session t ts none = let hit = rw (is_itself (ticket_by session t)) at none in absurd (cc)

slow_found : (session : ℕ) (waited : Option Ticket) (t : SessionTicket) (ts : List SessionTicket) → ticket_of session t.number (option_to_list waited ++ map (ticket_by session) (t ∷ ts)) ≡ None → ⊥
slow_found session None t ts none = stands_found session t ts none
slow_found session (Some u) t ts none = by_bool (is_ticket session t.number u)
    (λ hit. let first = rw hit at none in absurd (cc))
    (λ miss. stands_found session t ts (rw miss at none))

none_slow : (session : ℕ) (waited : Option Ticket) (ts : List SessionTicket) → ((m : ℕ) → ticket_of session m (option_to_list waited ++ map (ticket_by session) ts) ≡ None) → ts ≡ []
none_slow session waited [] none = refl
none_slow session waited (t ∷ ts) none = absurd (slow_found session waited t ts (none t.number))

fast_at : (session : ℕ) (parts : List Part) (j : ℕ) (x : Part) → all_of session (all_fast parts) ≡ true → get_elem? parts j ≡ some x → x.number ≢ session → x.fast ≡ []
fast_at session [] j x all at differs = absurd (some-ne-none x (sym at))
fast_at session (y ∷ ys) zero x all at differs =
    let same : y ≡ x = some-injective y x at in
    let own : all_of session (map (ticket_by y.number) y.fast) ≡ true = (and_parts (all_of session (map (ticket_by y.number) y.fast)) (all_of session (all_fast ys)) (sym (list_all-append (λ u. u.session == session) (map (ticket_by y.number) y.fast) (all_fast ys)) ∙ all)).0 in
    none_fast session x.number differs x.fast (subst (λ (z : Part). all_of session (map (ticket_by z.number) z.fast) ≡ true) same own)
fast_at session (y ∷ ys) (suc j) x all at differs =
    fast_at session ys j x (and_parts (all_of session (map (ticket_by y.number) y.fast)) (all_of session (all_fast ys)) (sym (list_all-append (λ u. u.session == session) (map (ticket_by y.number) y.fast) (all_fast ys)) ∙ all)).1 at differs

-- ---- beside an exclusive ticket

module _ (kind : Kind) (parts : List Part) (granted : List Ticket) (lawful : Lawful kind (all_fast parts) granted) (session : ℕ) (t : Ticket) (there : Contains granted t) (own : t.session ≡ session) (exclusive : t.mode ≡ X) where
  abbrev everything : List Ticket
  everything = all_fast parts ++ granted

  exclusively : all_of session everything ≡ true
  exclusively =
      let test : Ticket → Bool = λ a. is_compatible kind everything a.session a.mode in
      let all = (and_parts (list_all test (all_fast parts)) (list_all test granted) (sym (list_all-append test (all_fast parts) granted) ∙ lawful.compatible)).1 in
      let stands : test t ≡ true = subst (λ (u : Ticket). test u ≡ true) there.2 (AllPass-from_list_all test granted all there.0 t there.1) in
      compatible_all_of kind session everything
      (subst (λ (m : Mode). is_compatible kind everything session m ≡ true) exclusive (subst (λ (s : ℕ). is_compatible kind everything s t.mode ≡ true) own stands)) lawful.modes

  parted : (all_of session (all_fast parts) ≡ true) × (all_of session granted ≡ true)
  parted = and_parts (all_of session (all_fast parts)) (all_of session granted) (sym (list_all-append (λ u. u.session == session) (all_fast parts) granted) ∙ exclusively)

  pub others_fast : (j : ℕ) (x : Part) → get_elem? parts j ≡ some x → x.number ≢ session → x.fast ≡ []
  others_fast j x at differs = fast_at session parts j x parted.0 at differs

  pub others_slow : (x : Part) → SlowHeld granted x → x.number ≢ session → x.slow ≡ []
  others_slow x held differs = none_slow x.number (due x.asks) x.slow (λ m. sym (held.same m) ∙ none_of session x.number differs m granted parted.1)
