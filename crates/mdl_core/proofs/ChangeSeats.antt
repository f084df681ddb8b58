-- What each change makes of what its session has and waits for.
use Rattle.std.proofs.Common.{◌≡◌, ◌≢◌, ◌⊎◌, ℕ, ◌+◌, ◌<◌, ◌≤◌, Bool, true, false, not, ◌&&◌, ◌==◌, cond, eq-eqb, eqb-true, inl, inr, List, [], ◌∷◌, ◌++◌, Option, Some, None, refl, sym, ap, subst, ◌∙◌, arith}
use Rattle.std.specs.Prelude.{Contains, IsTrue, MatchOption, filter, map, if◌then◌else◌}
use Rattle.std.proofs.lemmas.Bool.{and_parts}
use Rattle.std.proofs.lemmas.Bool.Decides.{nat_tests}
use Rattle.std.specs.List.{before_first, after_first}
use Rattle.std.proofs.lemmas.List.{map-append}
use Rattle.std.proofs.lemmas.List.Elements.{Contains-append_left, Contains-append_right, filter-append}
use Rattle.mdl_key.specs.declared.mode.Mode.{Mode}
use Rattle.mdl_key.specs.declared.namespace.Kind.{Kind}
use Rattle.mdl_key.specs.Modes.{is_mode_of}
use Rattle.mdl_book.specs.declared.ticket.Ticket.{Ticket}
use Rattle.mdl_book.specs.Books.{lock_kind}
use Rattle.mdl_book.specs.Tickets.{ticket_id}
use Rattle.mdl_calls.specs.SessionLocks.{are_rising, is_number}
use Rattle.mdl_calls.specs.Words.{may_merge}
use Rattle.mdl_calls.specs.declared.answers.Held.{Held}
use Rattle.mdl_calls.specs.declared.answers.Settled.{Settled}
use Rattle.mdl_calls.specs.declared.answers.Settled.TheVariants as settled_as
use Rattle.mdl_core.specs.declared.pending.Pending.{Pending}
use Rattle.mdl_core.specs.Changes.{Change, Gain, Lose, Queue, Admit, Settle, Leave, Take_up, Alter, Fold, Redefine, seat_after, Allows, May}
use Rattle.mdl_core.specs.Cores.{Core, book_at, seat_at}
use Rattle.mdl_core.specs.CoreSystems.{system_waiter, unended_at, unended_of}
use Rattle.mdl_core.specs.Seats.{SeatView, without_ticket, held_in_mode, with_ticket_in, ticket_of_wait}
use Rattle.mdl_core.specs.Ties.{HasGrantedTicket, Awaits, in_book_of, HasRisingNumbers, IsTied}
use Rattle.mdl_core.proofs.CoreUnended.{not_granted}
use Rattle.mdl_core.proofs.Effects.{Effect, Stays, Comes, Goes, Turns, Unites, Becomes, InOrder, Each, same, through, either, order-members, order-pairs, Joins, after-all, after-beside}
use Rattle.mdl_core.proofs.PairLemmas.{below, pairs-others, split-at, filter-all, map-same, pairs-from_rising, rising-from_pairs}
use Rattle.mdl_system.specs.Words.{LeavesOrder, TakesTurn, granted_wait, GrantedWait, covers}
use Rattle.mdl_system.proofs.MemberLemmas.{AreApart, push-gains}
use Rattle.mdl_core.proofs.TiedWrites.{held_at, granted-here, waiting-own}

-- ---- the effects

-- the next ticket that a session gains or waits for
abbrev pub new_held : ℕ → Mode → SeatView → Held
new_held place mode seat = record { id = seat.last_ticket + 1; place = place; mode = mode }

-- a waiting ticket is settled
abbrev pub wait_turned : Option Pending → Effect Held
wait_turned None = Stays
wait_turned (Some wait) = Turns (ticket_of_wait wait) (ticket_of_wait wait)

-- on the session's granted tickets
abbrev pub has_effect : ℕ → Change → SeatView → Effect Held
has_effect place (Gain mode) seat = Comes (new_held place mode seat)
has_effect place (Lose ticket) seat = Goes ticket
has_effect place (Admit ticket) seat = Comes (held_at place ticket)
has_effect place (Alter ticket mode) seat = Turns ticket (held_in_mode mode ticket)
has_effect place (Fold old new) seat = Unites new old (held_in_mode new.mode old)
has_effect place _ seat = Stays

-- and on the one that waits
abbrev pub wait_effect : ℕ → Change → SeatView → Effect Held
wait_effect place (Queue mode) seat = Comes (new_held place mode seat)
wait_effect place (Admit ticket) seat = Goes (held_at place ticket)
wait_effect place (Settle how) seat = wait_turned seat.wait
wait_effect place (Leave wait) seat = Goes (ticket_of_wait wait)
wait_effect place _ seat = Stays

-- and on its granted wait that isn't ended
abbrev pub unended_effect : ℕ → ℕ → Change → SeatView → Effect GrantedWait
unended_effect who place (Admit ticket) seat = Comes (granted_wait (system_waiter (in_book_of who (held_at place ticket)) seat.wait))
unended_effect who place (Take_up wait) seat = Goes (record { session = who; wait = wait.number; ticket = wait.id })
unended_effect who place _ seat = Stays

-- ---- what is so of them

-- a granted wait of the session that isn't ended
abbrev pub Unended : ℕ → SeatView → GrantedWait → Type 0
Unended who seat wait = unended_of who seat.wait ≡ Some wait

-- what comes fits and has a name of its own, what goes was there, and what turns into another keeps its name
abbrev pub MayBe : {N : Type 0} → (Ticket → N) → ℕ → (Held → Type 0) → (Held → Type 0) → Effect Held → Type 0
MayBe name who fits had Stays = Unit {0}
MayBe name who fits had (Comes new) = fits new × ((ticket : Held) → had ticket → name (in_book_of who ticket) ≢ name (in_book_of who new))
MayBe name who fits had (Goes old) = had old
MayBe name who fits had (Unites gone old new) = had gone × had old × fits new × (name (in_book_of who new) ≡ name (in_book_of who old))
MayBe name who fits had (Turns old new) = had old × fits new × (name (in_book_of who new) ≡ name (in_book_of who old))

-- what becomes, by an effect at one place, of what a session had
pub record Makes {N : Type 0} (name : Ticket → N) (who place : ℕ) (fits : Held → Type 0) (effect : Effect Held) (had has : Held → Type 0) : Type 0 where
  pub becomes : Becomes effect had has
  pub at : Each (λ (ticket : Held). ticket.place ≡ place) effect
  pub may : MayBe name who fits had effect

-- it is the session's, or in a mode of the lock's kind
abbrev pub Fitting : Kind → SeatView → Held → Type 0
Fitting kind seat ticket = (HasGrantedTicket seat ticket ⊎ Awaits seat ticket) ⊎ IsTrue (is_mode_of kind ticket.mode)

-- what a change makes of a seat
pub record SeatMade (who place : ℕ) (kind : Kind) (change : Change) (seat : SeatView) : Type 0 where
  pub has : Makes ticket_id who place (Fitting kind seat) (has_effect place change seat) (HasGrantedTicket seat) (HasGrantedTicket (seat_after place change seat))
  pub waits : Makes (λ (ticket : Ticket). ticket.session) who place (Fitting kind seat) (wait_effect place change seat) (Awaits seat) (Awaits (seat_after place change seat))
  pub unended : Becomes (unended_effect who place change seat) (Unended who seat) (Unended who (seat_after place change seat))
  pub own : Each (λ (wait : GrantedWait). wait.session ≡ who) (unended_effect who place change seat)
  -- where another ticket waits, the wait stays as it is
  pub keeps : (ticket : Held) → Awaits seat ticket → Each (λ other. ticket ≢ other) (wait_effect place change seat) → (seat_after place change seat).wait ≡ seat.wait
  pub numbered : HasRisingNumbers (seat_after place change seat)

stays : {N : Type 0} {name : Ticket → N} {who place : ℕ} {fits had has : Held → Type 0} → Becomes Stays had has → Makes name who place fits Stays had has
stays becomes = record { becomes = becomes; at = tt; may = tt }

-- ---- held tickets

-- what is known of a wait's number, where these are held
abbrev WaitNumbered : List Held → ℕ → ℕ → Pending → Type 0
WaitNumbered held last_ticket last_wait wait =
    (wait.id ≡ last_ticket) × (wait.number ≤ last_wait) × ((ticket : Held) → Contains held ticket → ticket.id < wait.id)

-- a granted wait's ticket
abbrev Won : Option Pending → Held → Type 0
Won wait ticket = MatchOption wait ⊥ (λ (w : Pending). (w.settled ≡ Some settled_as.Granted) × (ticket ≡ ticket_of_wait w))

-- it has a number above those that are held
won-other : (held : List Held) (wait : Option Pending) (n m : ℕ) → MatchOption wait (Unit {0}) (WaitNumbered held n m) → (x : Held) → Contains held x
    → (ticket : Held) → Won wait ticket → ticket.id ≢ x.id
won-other held None n m numbered x among ticket won e = won
won-other held (Some w) n m numbered x among ticket won e =
    let lt = numbered.2 x among in
    let is : ticket.id ≡ w.id = ap (λ (h : Held). h.id) won.1 in
    omega arith

by-id : (held : List Held) → IsTrue (are_rising held) → AreApart (λ (h : Held). h.id) held
by-id held rising i j d lt within e = let below = pairs-from_rising held rising i j d lt within in omega arith

-- the held tickets change in order, and a wait stays
module _ (effect : Effect Held) (old now : List Held) (order : InOrder effect old now) (rising : IsTrue (are_rising old)) where
  members : Becomes effect (Contains old) (Contains now)
  members = order-members (λ (h : Held). h.id) effect old now (by-id old rising) order

  held-has : (wait : Option Pending) → ((ticket : Held) → Won wait ticket → Each (λ other. ticket ≢ other) effect)
      → Becomes effect (λ ticket. Contains old ticket ⊎ Won wait ticket) (λ ticket. Contains now ticket ⊎ Won wait ticket)
  held-has wait other ticket =
      through (either (members ticket).0 (λ won. won), either (members ticket).1 (λ won. won)) (after-beside ticket (Contains old ticket) (Won wait ticket) effect (other ticket))

  held-numbered : {pins : List ℕ} (wait : Option Pending) (n m : ℕ) → Joins below effect old → ((ticket : Held) → Contains old ticket → ticket.id ≤ n) → Each (λ (h : Held). h.id ≤ n) effect
      → MatchOption wait (Unit {0}) (λ w. WaitNumbered old n m w × Each (λ (h : Held). h.id < w.id) effect)
      → HasRisingNumbers (record { held = now; wait = wait; pins = pins; last_ticket = n; last_wait = m })
  held-numbered wait n m joins most each waits = record {
    rising = rising-from_pairs now (order-pairs below effect old now joins (pairs-from_rising old rising) order);
    held = λ ticket among. after-all (λ h. h.id ≤ n) effect ticket (Contains old ticket) (most ticket) each ((members ticket).0 among);
    wait = numbered wait waits;
  }
    where
      numbered : (o : Option Pending) → MatchOption o (Unit {0}) (λ w. WaitNumbered old n m w × Each (λ (h : Held). h.id < w.id) effect)
          → MatchOption o (Unit {0}) (WaitNumbered now n m)
      numbered None q = tt
      numbered (Some w) q = (q.0.0, q.0.1, λ ticket among. after-all (λ h. h.id < w.id) effect ticket (Contains old ticket) (q.0.2 ticket) q.1 ((members ticket).0 among))

-- the others have other numbers
round-number : (x : Held) (held : List Held) → AreApart (λ (h : Held). h.id) held → Contains held x
    → (before after : List Held) × (held ≡ before ++ x ∷ after) × (is_number x.id x ≡ true) × ((t : Held) → Contains (before ++ after) t → is_number x.id t ≡ false)
round-number x held apart among =
    let whole = split-at (λ (h : Held). h.id) (is_number x.id) x (is-number x.id x refl) (number-is x.id) held apart among in (
      before_first (is_number x.id) held,
      after_first (is_number x.id) held,
      whole,
      is-number x.id x refl,
      λ t there. not-number x.id t (pairs-others (λ (one other : Held). one.id ≢ other.id) (λ one other n e. n (sym e)) _ _ x (subst (AreApart (λ (h : Held). h.id)) whole apart) t there),
    )
  where
    is-number : (id : ℕ) (t : Held) → t.id ≡ id → is_number id t ≡ true
    is-number id t e = grind (arith, nat_tests)

    number-is : (id : ℕ) (t : Held) → is_number id t ≡ true → t.id ≡ id
    number-is id t e = grind (arith, nat_tests)

    not-number : (id : ℕ) (t : Held) → t.id ≢ id → is_number id t ≡ false
    not-number id t n = grind (arith, nat_tests)

-- the ticket of a number is left out
left-out : (x : Held) (held : List Held) → AreApart (λ (h : Held). h.id) held → Contains held x → LeavesOrder x held (filter (λ ticket. not (is_number x.id ticket)) held)
left-out x held apart among =
    let round = round-number x held apart among in
    let other : Held → Bool = λ ticket. not (is_number x.id ticket) in (
      round.0,
      round.1,
      round.2,
      ap (filter other) round.2 ∙ filter-append other round.0 (x ∷ round.1)
          ∙ (λ i. filter-all other round.0 (λ t there. ap not (round.4 t (Contains-append_left round.0 round.1 t there))) i
          ++ cond (not (round.3 i)) (x ∷ filter other round.1) (filter-all other round.1 (λ t there. ap not (round.4 t (Contains-append_right round.0 round.1 t there))) i)),
    )

-- and the ticket of a number gets another mode
in-turn : (x : Held) (mode : Mode) (held : List Held) → AreApart (λ (h : Held). h.id) held → Contains held x
    → TakesTurn x (held_in_mode mode x) held (map (λ ticket. if is_number x.id ticket then held_in_mode mode ticket else ticket) held)
in-turn x mode held apart among =
    let round = round-number x held apart among in
    let change : Held → Held = λ ticket. if is_number x.id ticket then held_in_mode mode ticket else ticket in
    let other : (t : Held) → Contains (round.0 ++ round.1) t → change t ≡ t = λ t there i. if round.4 t there i then held_in_mode mode t else t in (
      round.0,
      round.1,
      round.2,
      ap (map change) round.2 ∙ map-append change round.0 (x ∷ round.1)
          ∙ (λ i. map-same change round.0 (λ t there. other t (Contains-append_left round.0 round.1 t there)) i
          ++ (if round.3 i then held_in_mode mode x else x) ∷ map-same change round.1 (λ t there. other t (Contains-append_right round.0 round.1 t there)) i),
    )

-- ---- by cases

-- the seat with this wait
abbrev with_wait : SeatView → Option Pending → SeatView
with_wait seat wait = record seat { wait = wait }

no-granted : (settled : Option Settled) → settled ≡ None → settled ≢ Some settled_as.Granted
no-granted settled e f = cc

module _ (who place : ℕ) (kind : Kind) (seat : SeatView) where
  abbrev Made : Change → Option Pending → Type 0
  Made change wait = HasRisingNumbers (with_wait seat wait) → SeatMade who place kind change (with_wait seat wait)

  gain : (mode : Mode) → IsTrue (is_mode_of kind mode) → Made (Gain mode) None
  gain mode fits numbered =
      let new = new_held place mode seat in
      let later : (ticket : Held) → Contains seat.held ticket → ticket.id < new.id = λ ticket among. let le = numbered.held ticket among in omega arith in
      record {
        has = record {
          becomes = held-has (Comes new) seat.held (seat.held ++ new ∷ []) refl numbered.rising None (λ ticket none. absurd none);
          at = refl;
          may = (
            inr fits,
            λ ticket had e. elim had [
              | inl held ↦ let lt = later ticket held in let is : ticket.id ≡ new.id = ap (λ (id : ℕ × ℕ). id.1) e in omega arith
              | inr none ↦ none
            ],
          );
        };
        waits = stays (λ ticket. same);
        unended = λ won. same;
        own = tt;
        keeps = λ ticket waits other. refl;
        numbered = held-numbered (Comes new) seat.held (seat.held ++ new ∷ []) refl numbered.rising None (seat.last_ticket + 1) seat.last_wait later
            (λ ticket among. let lt = later ticket among in omega arith) (omega arith) tt;
      }

  queue : (mode : Mode) → IsTrue (is_mode_of kind mode) → Made (Queue mode) None
  queue mode fits numbered = record {
    has = stays (λ ticket. (either (λ held. held) (λ won. let e = won.0 in cc), either (λ held. held) (λ none. absurd none)));
    waits = record {
      becomes = λ ticket. ((λ waits. inr waits.1), λ had. elim had [ inl none ↦ absurd none | inr e ↦ ((λ (f : None ≡ Some settled_as.Granted). cc), e) ]);
      at = refl;
      may = (inr fits, λ ticket none e. none);
    };
    unended = λ won. same;
    own = tt;
    keeps = λ ticket none other. absurd none;
    numbered = record {
      rising = numbered.rising;
      held = λ ticket among. let le = numbered.held ticket among in omega arith;
      wait = (omega arith, omega arith, λ ticket among. let le = numbered.held ticket among in omega arith);
    };
  }

  -- a held ticket has a smaller number than the one that is waited for
  under : (x : Held) → Contains seat.held x → (wait : Option Pending) → MatchOption wait (Unit {0}) (WaitNumbered seat.held seat.last_ticket seat.last_wait)
      → MatchOption wait (Unit {0}) (λ w. WaitNumbered seat.held seat.last_ticket seat.last_wait w × (x.id < w.id))
  under x held None q = tt
  under x held (Some w) q = (q, q.2 x held)

  lose : (x : Held) (wait : Option Pending) → Contains seat.held x → x.place ≡ place → Made (Lose x) wait
  lose x wait held at numbered =
      let order = left-out x seat.held (by-id seat.held numbered.rising) held in
      record {
        has = record {
          becomes = held-has (Goes x) seat.held (without_ticket x.id seat).held order numbered.rising wait
              (λ ticket won e. won-other seat.held wait seat.last_ticket seat.last_wait numbered.wait x held ticket won (ap (λ (h : Held). h.id) e));
          at = at;
          may = inl held;
        };
        waits = stays (λ ticket. same);
        unended = λ won. same;
        own = tt;
        keeps = λ ticket waits apart. refl;
        numbered = held-numbered (Goes x) seat.held (without_ticket x.id seat).held order numbered.rising wait seat.last_ticket seat.last_wait tt numbered.held
            (numbered.held x held) (under x held wait numbered.wait);
      }

  -- and with another mode it has still
  under_both : (x : Held) (mode : Mode) → Contains seat.held x → (wait : Option Pending)
      → MatchOption wait (Unit {0}) (WaitNumbered seat.held seat.last_ticket seat.last_wait)
      → MatchOption wait (Unit {0}) (λ w. WaitNumbered seat.held seat.last_ticket seat.last_wait w × Each (λ (h : Held). h.id < w.id) (Turns x (held_in_mode mode x)))
  under_both x mode held None q = tt
  under_both x mode held (Some w) q = (q, (q.2 x held, q.2 x held))

  alter : (x : Held) (mode : Mode) (wait : Option Pending) → Contains seat.held x → x.place ≡ place → IsTrue (is_mode_of kind mode) → Made (Alter x mode) wait
  alter x mode wait held at fits numbered =
      let order = in-turn x mode seat.held (by-id seat.held numbered.rising) held in
      let effect = Turns x (held_in_mode mode x) in
      let now = (with_ticket_in x.id mode seat).held in
      let other : (ticket : Held) → Won wait ticket → ticket.id ≢ x.id = λ ticket won.
      won-other seat.held wait seat.last_ticket seat.last_wait numbered.wait x held ticket won in
      record {
        has = record {
          becomes = held-has effect seat.held now order numbered.rising wait
              (λ ticket won. ((λ e. other ticket won (ap (λ (h : Held). h.id) e)), λ e. other ticket won (ap (λ (h : Held). h.id) e)));
          at = (at, at);
          may = (inl held, inr fits, refl);
        };
        waits = stays (λ ticket. same);
        unended = λ won. same;
        own = tt;
        keeps = λ ticket waits apart. refl;
        numbered = held-numbered effect seat.held now order numbered.rising wait seat.last_ticket seat.last_wait ((λ y lt. lt), λ y lt. lt) numbered.held
            (numbered.held x held, numbered.held x held) (under_both x mode held wait numbered.wait);
      }

  fold : (old new : Held) → Contains seat.held old → Contains seat.held new → old.place ≡ place → new.place ≡ place → old.id ≢ new.id
      → IsTrue (is_mode_of kind new.mode) → Made (Fold old new) None
  fold old new held going at there two fits numbered =
      let mid = without_ticket new.id seat in
      let left = left-out new seat.held (by-id seat.held numbered.rising) going in
      let stays_held = (order-members (λ (h : Held). h.id) (Goes new) seat.held mid.held (by-id seat.held numbered.rising) left old).1
      (held, λ e. two (ap (λ (h : Held). h.id) e)) in
      let rising = (lose new None going there numbered).numbered.rising in
      let effect = Unites new old (held_in_mode new.mode old) in
      let now = (with_ticket_in old.id new.mode mid).held in
      let order : InOrder effect seat.held now = (mid.held, left, in-turn old new.mode mid.held (by-id mid.held rising) stays_held) in
      record {
        has = record {
          becomes = held-has effect seat.held now order numbered.rising None (λ ticket none. absurd none);
          at = (there, at, at);
          may = (inl going, inl held, inr fits, refl);
        };
        waits = stays (λ ticket. same);
        unended = λ won. same;
        own = tt;
        keeps = λ ticket waits apart. refl;
        numbered = held-numbered effect seat.held now order numbered.rising None seat.last_ticket seat.last_wait ((λ y lt. lt), λ y lt. lt) numbered.held
            (numbered.held new going, numbered.held old held, numbered.held old held) tt;
      }

  module _ (wait : Pending) (at : wait.place ≡ place) where
    admit : (ticket : Ticket) → wait.settled ≡ None → held_at place ticket ≡ ticket_of_wait wait → Made (Admit ticket) (Some wait)
    admit x unsettled is numbered = record {
      has = record {
        becomes = λ ticket. (
          (λ has. elim has [ inl held ↦ inl (inl held) | inr won ↦ inr (won.1 ∙ sym is) ]),
          λ had. elim had [
            | inl h ↦ either (λ held. held) (λ won. absurd (no-granted wait.settled unsettled won.0)) h
            | inr e ↦ inr (refl, e ∙ is)
          ],
        );
        at = refl;
        may = (
          inl (inr (no-granted wait.settled unsettled, is)),
          λ ticket had e. elim had [
            | inl held ↦ (let lt = numbered.wait.2 ticket held in
                let one : ticket.id ≡ x.number = ap (λ (id : ℕ × ℕ). id.1) e in
                let two : x.number ≡ wait.id = ap (λ (h : Held). h.id) is in
                omega arith)
            | inr won ↦ no-granted wait.settled unsettled won.0
          ],
        );
      };
      waits = record {
        becomes = λ ticket. ((λ waits. absurd (waits.0 refl)), λ waited. absurd (waited.1 (waited.0.1 ∙ sym is)));
        at = refl;
        may = (no-granted wait.settled unsettled, is);
      };
      unended = λ won.
          let before = not_granted who wait (no-granted wait.settled unsettled) in
          let number : wait.id ≡ x.number = ap (λ (h : Held). h.id) (sym is) in
          let come : GrantedWait = record { session = who; wait = wait.number; ticket = x.number } in
          let now : Some (record { session = who; wait = wait.number; ticket = wait.id }) ≡ Some come = λ i. Some (record { session = who; wait = wait.number; ticket = number i }) in
          ((λ is_won. inr (cc)), λ either. elim either [ inl had ↦ cc | inr e ↦ cc ]);
      own = refl;
      keeps = λ ticket waits other. absurd (other (waits.1 ∙ sym is));
      numbered = record { rising = numbered.rising; held = numbered.held; wait = numbered.wait };
    }

    settle : (how : Settled) → wait.settled ≡ None → how ≢ settled_as.Granted → Made (Settle how) (Some wait)
    settle how unsettled lost numbered = record {
      has = stays (λ ticket. (either (λ held. held) (λ won. let e = won.0 in absurd (lost (cc))), either (λ held. held) (λ won. absurd (no-granted wait.settled unsettled won.0))));
      waits = record {
        becomes = λ ticket. (
          (λ waits. inr waits.1),
          λ had. ((λ (e : Some how ≡ Some settled_as.Granted). lost (cc)), elim had [ inl other ↦ absurd (other.1 other.0.1) | inr e ↦ e ]),
        );
        at = (at, at);
        may = ((no-granted wait.settled unsettled, refl), inl (inr (no-granted wait.settled unsettled, refl)), refl);
      };
      unended = λ won.
          let before = not_granted who wait (no-granted wait.settled unsettled) in
          let now = not_granted who (record wait { settled = Some how }) (λ (e : Some how ≡ Some settled_as.Granted). lost (cc)) in
          ((λ e. cc), λ e. cc);
      own = tt;
      keeps = λ ticket waits other. absurd (other.0 waits.1);
      numbered = record { rising = numbered.rising; held = numbered.held; wait = numbered.wait };
    }

    leave : wait.settled ≢ Some settled_as.Granted → Made (Leave wait) (Some wait)
    leave lost numbered = record {
      has = stays (λ ticket. (either (λ held. held) (λ none. absurd none), either (λ held. held) (λ won. absurd (lost won.0))));
      waits = record {
        becomes = λ ticket. ((λ none. absurd none), λ waited. absurd (waited.1 waited.0.1));
        at = at;
        may = (lost, refl);
      };
      unended = λ won. let before = not_granted who wait lost in ((λ e. cc), λ e. cc);
      own = tt;
      keeps = λ ticket waits other. absurd (other waits.1);
      numbered = record { rising = numbered.rising; held = numbered.held; wait = tt };
    }

    take_up : wait.settled ≡ Some settled_as.Granted → Made (Take_up wait) (Some wait)
    take_up granted numbered = record {
      has = stays (λ ticket. (
        (λ has. elim has [ inl held ↦ either (λ before. before) (λ e. (granted, e)) ((push-gains seat.held (ticket_of_wait wait) ticket).0 held) | inr none ↦ absurd none ]),
        λ had. inl ((push-gains seat.held (ticket_of_wait wait) ticket).1 (either (λ held. held) (λ won. won.1) had)),
      ));
      waits = stays (λ ticket. ((λ none. absurd none), λ waited. absurd (waited.0 granted)));
      unended = λ won.
          let gone : GrantedWait = record { session = who; wait = wait.number; ticket = wait.id } in
          let before : unended_of who (Some wait) ≡ Some gone = ap (unended_at who wait) granted in
          ((λ e. cc), λ had. let e = had.0 in absurd (had.1 (cc)));
      own = refl;
      keeps = λ ticket waits other. absurd (waits.0 granted);
      numbered = held-numbered (Comes (ticket_of_wait wait)) seat.held (seat.held ++ ticket_of_wait wait ∷ []) refl numbered.rising None seat.last_ticket seat.last_wait
          numbered.wait.2 numbered.held (let e = numbered.wait.0 in omega arith) tt;
    }

-- two tickets that may be merged have two numbers and one place, and the one that goes is at least as strong
module _ (old new : Held) (may : may_merge old new ≡ true) where
  merged_parts : (not (old.id == new.id) ≡ true) × ((old.place == new.place) ≡ true) × (covers new.mode old.mode ≡ true)
  merged_parts =
      let whole = and_parts (not (old.id == new.id) && old.place == new.place) (covers new.mode old.mode) may in
      let both = and_parts (not (old.id == new.id)) (old.place == new.place) whole.0 in
      (both.0, both.1, whole.1)

  pub merged_numbers : old.id ≢ new.id
  merged_numbers e = clash (old.id == new.id) (eq-eqb old.id new.id e) merged_parts.0
    where
      clash : (b : Bool) → b ≡ true → not b ≡ true → ⊥
      clash true is apart = cc
      clash false is apart = cc

  pub merged_place : old.place ≡ new.place
  merged_place = eqb-true old.place new.place merged_parts.1

  pub merged_mode : covers new.mode old.mode ≡ true
  merged_mode = merged_parts.2

-- where an option is one, what is so of it is so of that
pub at-some : {T : Type 0} (P : T → Type 0) (o : Option T) (x : T) → o ≡ Some x → MatchOption o ⊥ P → P x
at-some P o x is m = subst (λ p. MatchOption p ⊥ P) is m

module _ (core : Core) (who place : ℕ) (tied : IsTied core) where
  abbrev seat : SeatView
  seat = seat_at who core

  abbrev kind : Kind
  kind = lock_kind (book_at place core)

  -- a change that may be made does that to the seat
  pub seat-made : (change : Change) → May who place change core → SeatMade who place kind change seat
  seat-made change may = made change may.allows
    where
      with : (change : Change) (wait : Option Pending) → seat.wait ≡ wait → Made who place kind seat change wait → SeatMade who place kind change seat
      with change wait is made = subst (λ o. Made who place kind seat change o) (sym is) made (tied.numbered who may.session)

      made : (change : Change) → Allows who place change seat (book_at place core) → SeatMade who place kind change seat
      made (Gain mode) allows = with (Gain mode) None allows.0 (gain who place kind seat mode allows.1)
      made (Lose ticket) allows = lose who place kind seat ticket seat.wait allows.0 allows.1 (tied.numbered who may.session)
      made (Queue mode) allows = with (Queue mode) None allows.0 (queue who place kind seat mode allows.1)
      made (Admit ticket) allows =
          let wait = allows.2 in
          let waits : Awaits seat (held_at place ticket) = waiting-own core who place tied may.session may.key ticket allows.1 allows.0 in
          let is : held_at place ticket ≡ ticket_of_wait wait.0 =
          (at-some (λ (w : Pending). (w.settled ≢ Some settled_as.Granted) × (held_at place ticket ≡ ticket_of_wait w)) seat.wait wait.0 wait.1 waits).1 in
          with (Admit ticket) (Some wait.0) wait.1 (admit who place kind seat wait.0 (sym (ap (λ (h : Held). h.place) is)) ticket wait.2 is)
      made (Settle how) allows = let wait = allows.0 in with (Settle how) (Some wait.0) wait.1 (settle who place kind seat wait.0 wait.3 how wait.2 allows.1)
      made (Leave wait) allows = with (Leave wait) (Some wait) allows.0 (leave who place kind seat wait allows.2 allows.1)
      made (Take_up wait) allows = with (Take_up wait) (Some wait) allows.0 (take_up who place kind seat wait allows.2 allows.1)
      made (Alter ticket mode) allows = alter who place kind seat ticket mode seat.wait allows.0 allows.1 allows.2 (tied.numbered who may.session)
      made (Fold old new) allows =
          with (Fold old new) None allows.0 (fold who place kind seat old new allows.1 allows.2 allows.3 allows.4 (merged_numbers old new allows.5)
          (tied.granted_by place may.key (in_book_of who new) ((granted-here core who place tied may.session may.key new allows.4).1 (inl allows.2))).1)
      made (Redefine ticket change) allows = record {
        has = stays (λ ticket. same);
        waits = stays (λ ticket. same);
        unended = λ won. same;
        own = tt;
        keeps = λ ticket waits other. refl;
        numbered = tied.numbered who may.session;
      }
