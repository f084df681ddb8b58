-- What the rule's clauses on waits come to.
use Rattle.std.proofs.Common.{◌≡◌, ◌≢◌, ℕ, ◌%◌, ◌<◌, cond, [], ◌++◌, map, length, Some, None, refl, sym, ap, ◌∙◌, Option, eq-eqb}
use Rattle.mdl_steps.proofs.FirstLemmas.{Ask, BookView, NobodyElseWaits, Part, Rule, Slot, State, Ticket, View, WaitersAreAsTheirWordsTell, asking_at, at_map, at_unmap, due, get_elem?, option_to_list, own_at, part_at, pending, some, some-injective, ticket_by, ticket_of, waiter_of, waits}
use Rattle.mdl_steps.proofs.WaitBooks.{first_found}
use Rattle.mdl_steps.proofs.WaitGrants.{found_asked}
use Rattle.mdl_steps.proofs.WaitSteps.{wished, asked_here}
use Rattle.mdl_steps.specs.declared.slot.Slot.TheVariants as slot

pub waiters_told : WaitersAreAsTheirWordsTell
waiters_told s r i v seat =
    let own = r.waits_agree.each i (waiter_of v) (at_map waiter_of s.views i v seat) in (
      own.number,
      own.state,
      own.idle,
      λ a asks.
          let at = own.asks a asks in
          let ok = r.places a.place at.1 at.2 in
          let word : ℕ = waits s v.number in
          let x : Part = part_at (waits s) a.place v in
          let there = at_map (part_at (waits s) a.place) s.views i v seat in
          let asked : (part_at (waits s) a.place v).asks ≡ Some (record { ticket = wished v.number a; state = waits s v.number % 8 }) =
          asked_here a.place v.number (waits s v.number) (waits s v.number % 8) v.asks a asks refl refl in (
            at.0,
            at.1,
            at.2,
            λ free. (
              ok.book,
              (ok.free free).0,
              (λ granted.
                  (ok.book_ok.each i (part_at (waits s) a.place v) there).slow_held.same a.number
                  ∙ ap (λ o. ticket_of v.number a.number (option_to_list (due o) ++ map (ticket_by v.number) (own_at a.place v.slow))) asked
                  ∙ ap (λ b. ticket_of v.number a.number (option_to_list (cond b (Some (wished v.number a)) None) ++ map (ticket_by v.number) (own_at a.place v.slow))) (eq-eqb (waits s v.number % 8) 2 granted)
                  ∙ first_found (wished v.number a) (map (ticket_by v.number) (own_at a.place v.slow))),
              λ waiting.
                  ok.book_ok.waiting.same i (part_at (waits s) a.place v) there a.number
                  ∙ ap (λ o. ticket_of v.number a.number (option_to_list (pending o))) asked
                  ∙ ap (λ b. ticket_of v.number a.number (option_to_list (cond b None (Some (wished v.number a))))) (Rattle.std.proofs.Common.ne_eqb (waits s v.number % 8) 2 waiting)
                  ∙ first_found (wished v.number a) [],
            ),
          ),
    )

-- the book that is at home is the one that the rule speaks of
same_book : (a b : BookView) → ◌≡◌ {A = mathlib.Core.Option.Option (mathlib.Core.Option.Option Slot)} (some (some (slot.Place a))) (some (some (slot.Place b))) → a ≡ b
same_book a b e = ap book_of (some-injective (slot.Place a) (slot.Place b) (some-injective (some (slot.Place a)) (some (slot.Place b)) e))
  where
    book_of : Slot → BookView
    book_of (slot.Place x) = x
    book_of (slot.Directory x) = a

-- each ticket in the waiting list of a place's book, whoever holds its latch, is of a session that waits for it
module _ (s : State Slot View) (r : Rule s) (place : ℕ) (first : 0 < place) (last : place < length s.homes) (session number : ℕ) (t : Ticket)
    (there : ticket_of session number (r.places place first last).book.waiting ≡ Some t) where
  abbrev Asks : Type 0
  Asks = (i : ℕ) × (w : View) × (a : Ask) × (get_elem? s.views i ≡ some w) × (w.number ≡ session) × (w.asks ≡ Some a) × (a.place ≡ place) × (a.number ≡ number) × (waits s session % 8 ≢ 2)

  by_ask : (j : ℕ) (v : View) → get_elem? s.views j ≡ some v → v.number ≡ session → (asks : Option Ask) → v.asks ≡ asks
      → ticket_of v.number number (option_to_list (pending (asking_at place v.number (waits s v.number) asks))) ≡ Some t → Asks
  by_ask j v seat is None e asked = absurd (cc)
  by_ask j v seat is (Some a) e asked =
      let told = found_asked place v.number (waits s v.number) number a t asked in
      (j, v, a, seat, is, e, told.0, told.1, λ two. told.3 (ap (λ (n : ℕ). waits s n % 8) is ∙ two))

  pub asks_there : Asks
  asks_there =
      let ok = r.places place first last in
      let o = ok.book_ok.waiting.owned session number t there in
      let u = at_unmap (part_at (waits s) place) s.views o.0 o.1 o.2 in
      let number_is : u.0.number ≡ session = ap (λ (x : Part). x.number) u.2 ∙ o.3 in
      by_ask o.0 u.0 u.1 number_is u.0.asks refl
      (sym (ok.book_ok.waiting.same o.0 (part_at (waits s) place u.0) (at_map (part_at (waits s) place) s.views o.0 u.0 u.1) number)
      ∙ ap (λ (n : ℕ). ticket_of n number ok.book.waiting) number_is ∙ there)

pub nobody_else : NobodyElseWaits
nobody_else s r place first last free book home session number t found =
    let ok = r.places place first last in
    let same : ok.book ≡ book = same_book ok.book book (sym (ok.free free).0 ∙ home) in
    asks_there s r place first last session number t (ap (λ (b : BookView). ticket_of session number b.waiting) same ∙ found)
