-- What a session waits for, by the rule and by the locks that the table tells.
use Rattle.std.proofs.Common.{◌≡◌, ◌≢◌, ℕ, zero, suc, ◌-◌, ◌%◌, ◌<◌, cond, true, inl, inr, List, [], ◌∷◌, length, Some, None, refl, sym, ap, ◌∙◌, subst, arith, ne_eqb, Contains, Option, slice_get}
use Rattle.mdl_steps.proofs.WaitBooks.{first_found}
use Rattle.mdl_steps_laws.proofs.FirstLemmas.{AreLocksOf, Ask, Contains-none, KeyName, Lock, Once, Rule, Slot, State, Ticket, View, asked_here, asks_there, at_map, find-contains, find_key, first_place, found-passes, found_in, get_elem?, into_rule, is_itself, is_passed, is_placed, is_ticket, key_at, last_place, none-passes, of-without_own, one_seat, option_to_list, part_at, pending, placed, some, ticket_of, waits, wished, without, without-loses}

-- what a session asks for, but a granted wait's, waits at its place
pub asked_at : (s : State Slot View) (r : Rule s) (place : ℕ) (first : 0 < place) (last : place < length s.homes) (j : ℕ) (v : View) → get_elem? s.views j ≡ some v
    → (a : Ask) → v.asks ≡ Some a → a.place ≡ place → waits s v.number % 8 ≢ 2 → ticket_of v.number a.number (r.places place first last).book.waiting ≡ Some (wished v.number a)
asked_at s r place first last j v seat a asks here not_granted =
    let asked : (part_at (waits s) place v).asks ≡ Some (record { ticket = wished v.number a; state = waits s v.number % 8 }) =
    asked_here place v.number (waits s v.number) (waits s v.number % 8) v.asks a asks here refl in
    (r.places place first last).book_ok.waiting.same j (part_at (waits s) place v) (at_map (part_at (waits s) place) s.views j v seat) a.number
    ∙ ap (λ o. ticket_of v.number a.number (option_to_list (pending o))) asked
    ∙ ap (λ b. ticket_of v.number a.number (option_to_list (cond b None (Some (wished v.number a))))) (ne_eqb (waits s v.number % 8) 2 not_granted)
    ∙ first_found (wished v.number a) []

-- and the place is that of a key
pub at_from_get : (keys : List KeyName) (i : ℕ) (key : KeyName) → slice_get keys i ≡ Some key → get_elem? keys i ≡ some key
at_from_get [] i key e = absurd (cc)
at_from_get (k ∷ ks) zero key e = (let same : k ≡ key = cc in ap (λ (x : KeyName). some x) same)
at_from_get (k ∷ ks) (suc i) key e = at_from_get ks i key e

pub asked_key : (s : State Slot View) (r : Rule s) (place : ℕ) → 0 < place → place < length s.homes → (j : ℕ) (v : View) → get_elem? s.views j ≡ some v
    → (a : Ask) → v.asks ≡ Some a → a.place ≡ place → waits s v.number % 8 ≢ 2 → (key : KeyName) × (get_elem? r.keys (place - 1) ≡ some key)
asked_key s r place first last j v seat a asks here not_granted = by_look (key_at r.keys place) refl
  where
    by_look : (o : Option KeyName) → key_at r.keys place ≡ o → (key : KeyName) × (get_elem? r.keys (place - 1) ≡ some key)
    by_look (Some key) e = (key, at_from_get r.keys (place - 1) key e)
    by_look None e =
        let nobody = ((r.places place first last).book_ok.named.vacant e).0.1 in
        let waits_there = asked_at s r place first last j v seat a asks here not_granted in
        let none : ticket_of v.number a.number (r.places place first last).book.waiting ≡ None = ap (ticket_of v.number a.number) nobody in
        absurd (cc)

module _ (s : State Slot View) (r : Rule s) (locks : KeyName → Lock) (are : AreLocksOf s locks) where
  -- a waiting ticket's session asks for it, at the place of the ticket's key
  pub record Asks (key : KeyName) (t : Ticket) : Type 0 where
    pub index : ℕ
    pub at : get_elem? are.keys index ≡ some key
    pub seat : ℕ
    pub view : View
    pub there : get_elem? s.views seat ≡ some view
    pub number_is : view.number ≡ t.session
    pub ask : Ask
    pub asks : view.asks ≡ Some ask
    pub place_is : ask.place ≡ suc index
    pub ticket_is : ask.number ≡ t.number

  pub asks_for : (key : KeyName) (t : Ticket) → Contains (locks key).book.waiting t → Asks key t
  asks_for key t among = elim (find_key are.keys key) [
    | inl at ↦
        let here = into_rule s r locks are at.0 key at.1 in
        let there : Contains (placed s r at.0 key here).book.waiting t = subst (λ (l : Lock). Contains l.book.waiting t) (sym (is_placed s r locks are at.0 key at.1)) among in
        let u = found_in (placed s r at.0 key here).book.waiting t there in
        let told = asks_there s r (suc at.0) (first_place s r at.0 key here) (last_place s r at.0 key here) t.session t.number u.0 u.1 in
        record {
          index = at.0;
          at = at.1;
          seat = told.0;
          view = told.1;
          there = told.3;
          number_is = told.4;
          ask = told.2;
          asks = told.5;
          place_is = told.6;
          ticket_is = told.7;
        }
    | inr none ↦ absurd (Contains-none t (subst (λ (l : Lock). Contains l.book.waiting t) (are.without_place key none) among))
  ]

  -- so it is of the locks
  module _ (i : ℕ) (key : KeyName) (at : get_elem? are.keys i ≡ some key) where
    pub waiting_once : Once (locks key).book.waiting
    waiting_once = subst (λ (l : Lock). Once l.book.waiting) (is_placed s r locks are i key at) (placed s r i key (into_rule s r locks are i key at)).book_ok.waiting.once

    pub asked_waits : (j : ℕ) (v : View) → get_elem? s.views j ≡ some v → (a : Ask) → v.asks ≡ Some a → a.place ≡ suc i → waits s v.number % 8 ≢ 2
        → ticket_of v.number a.number (locks key).book.waiting ≡ Some (wished v.number a)
    asked_waits j v seat a asks here not_granted =
        let in_rule = into_rule s r locks are i key at in
        subst (λ (l : Lock). ticket_of v.number a.number l.book.waiting ≡ Some (wished v.number a)) (is_placed s r locks are i key at)
        (asked_at s r (suc i) (first_place s r i key in_rule) (last_place s r i key in_rule) j v seat a asks here not_granted)

    -- a session has one ticket there at most
    pub others_wait : (session number : ℕ) → 0 < session → (t : Ticket) → ticket_of session number (locks key).book.waiting ≡ Some t
        → (u : Ticket) → Contains (without session number (locks key).book.waiting) u → u.session ≢ session
    others_wait session number some_number t found u left same =
        let among = ((without-loses session number (locks key).book.waiting waiting_once t found u).0 left).0 in
        let of_u = asks_for key u among in
        let t_among = find-contains (is_ticket session number) (locks key).book.waiting t found in
        let of_t = asks_for key t t_among in
        let t_is = is_passed session number t (found-passes session number (locks key).book.waiting t found) in
        let number_t : of_t.view.number ≡ session = of_t.number_is ∙ t_is.0 in
        let one : of_u.view ≡ of_t.view = one_seat s r of_u.seat of_t.seat of_u.view of_t.view of_u.there of_t.there (of_u.number_is ∙ same ∙ sym number_t) (omega arith) in
        let both : Some of_u.ask ≡ Some of_t.ask = sym of_u.asks ∙ ap (λ (x : View). x.asks) one ∙ of_t.asks in
        let ask_is : of_u.ask ≡ of_t.ask = cc in
        let number_u : u.number ≡ number = sym of_u.ticket_is ∙ ap (λ (x : Ask). x.number) ask_is ∙ of_t.ticket_is ∙ t_is.1 in
        none-passes session number (without session number (locks key).book.waiting) (of-without_own session number (locks key).book.waiting waiting_once) u left
        (subst (λ (n : ℕ). is_ticket n number u ≡ true) same (subst (λ (m : ℕ). is_ticket u.session m u ≡ true) number_u (is_itself u)))
