-- To grant a wait is to grant the waiter.
use Rattle.std.proofs.Common.{◌≡◌, ℕ, suc, true, inl, inr, [], ◌∷◌, ◌++◌, length, map, Some, refl, sym, ap, ◌∙◌, subst, arith, append_assoc, Contains, Option}
use Rattle.mdl_book.specs.Books as books
use Rattle.mdl_steps.proofs.WaitGrants.{granted_rule}
use Rattle.mdl_steps_laws.proofs.FirstLemmas.{Ask, BookView, Gains, GrantedWait, GrantingGrantsWaiters, IsGrantable, Lock, MayJoin, Slot, State, Stays, Ticket, Unsettled, View, admitting, after_wait, book_was, changes-by_lists, code_waits, find-contains, first_place, found-passes, goes_first, grantable_by, granted_of, holders_may_join, in_locks, in_rule, inside, is_passed, is_ticket, leaves_order, lock_stays, lock_turns, locks_keep, nat_told, not_waiting, now_there, one_seat, option_to_list, other_session, push-gains, same_definitions, settled_granted, some_session, ticket_of, unended_else, wait_in, waiter_by, waiter_is, waiting_by, waiting_same, waiting_session, waits, waits_else, waits_here, was_there}
use Rattle.mdl_steps_laws.proofs.WaitAsks.{asks_for}

pub granting_grants_waiters : GrantingGrantsWaiters
granting_grants_waiters s r keys keys_are i key at id me seat session ticket number h may some_theirs found =
    let n : ℕ = wait_in number 2 in
    let wish : Ticket = may.wish in
    let w : View = (settled_granted (length s.homes) (suc i) session ticket number me).0 in
    let s′ : State Slot View = after_wait s session (wait_in number 2) id (settled_granted (length s.homes) (suc i) session ticket number me) in
    let some_number = some_session s r keys keys_are i key at id me.0 seat h may.recorded in
    let r′ = granted_rule s r id session me seat some_number some_theirs (suc i) ticket number (first_place s r i key (in_rule s r keys keys_are i key at)) (inside s r keys keys_are i key at) h may found in (
      r′,
      λ x y told told′.
          let stays : Stays me.0 w = record { number = refl; fast = refl; directory = refl } in
          let now : waits s′ session ≡ n = waits_here s r session n id me.0 w (waiting_session s r session number found).1 in
          let apart = not_waiting s′ told′.0 y told′.2 told′.3 session (λ st e. (code_waits st).1 (let is = e in let word = now in omega arith)) in
          let here = in_locks s r keys keys_are i key at told.0 told.1 in
          let was = book_was s r keys keys_are i key at id me.0 seat h may.recorded (admitting session ticket) (λ b. b) session n w stays refl r′ x y told told′ in
          let turns = lock_turns s r keys keys_are i key at id me.0 seat h may.recorded (admitting session ticket) (λ b. b) session n w stays refl r′ x y told told′ in
          let same = lock_stays s r keys keys_are i key at id me.0 seat h may.recorded (admitting session ticket) (λ b. b) session n w stays refl r′ x y told told′ in
          let found_wish : ticket_of session ticket (told.0 key).book.waiting ≡ Some may.wish = subst (λ (b : BookView). ticket_of session ticket b.waiting ≡ Some may.wish) was may.waits in
          let wish_is = is_passed session ticket may.wish (found-passes session ticket (told.0 key).book.waiting may.wish found_wish) in
          let asks = asks_for s r told.0 told.1 key may.wish (find-contains (is_ticket session ticket) (told.0 key).book.waiting may.wish found_wish) in
          let lists : (told.0 key).fast ++ ((told.0 key).book.granted ++ option_to_list (ticket_of session ticket (told.0 key).book.waiting)) ≡ granted_of (told.0 key) ++ may.wish ∷ [] =
          ap (λ (o : Option Ticket). (told.0 key).fast ++ ((told.0 key).book.granted ++ option_to_list o)) found_wish ∙ sym (append_assoc (told.0 key).fast (told.0 key).book.granted (may.wish ∷ [])) in
          let wait : GrantedWait = record { session = may.wish.session; wait = number; ticket = may.wish.number } in
          record {
            unsettled = refl;
            grantable = subst (λ (m : ℕ). IsGrantable x m key may.wish.mode) (sym wish_is.0)
                (grantable_by told.0 x told.2 session key may.wish.mode h.noted (holders_may_join s r told.0 told.1 i key here id me.0 seat h may.recorded)
                (subst (λ (b : BookView). MayJoin session b h.noted may.wish.mode) was may.may)
                (subst (λ (b : BookView). goes_first (books.lock_kind b) b.waiting session may.wish.mode ≡ true) was may.first));
            leaves =
                let order = leaves_order session ticket (told.0 key).book.waiting may.wish found_wish (waits s) (waits s′) (λ u left.
                waits_else s r session n id me.0 w u.session (apart key u (subst (λ (l : Lock). Contains l.book.waiting u) (sym turns) left))) in (
                  order.0,
                  order.1,
                  waiting_by s told.0 x told.2 told.3 key ∙ order.2
                      ∙ (let is = waiter_is (waits s) may.wish number Unsettled (ap (waits s) wish_is.0 ∙ found) in λ j. order.0 ++ is j ∷ order.1),
                  waiting_by s′ told′.0 y told′.2 told′.3 key ∙ ap (λ (l : Lock). map (waiter_by (waits s′)) l.book.waiting) turns ∙ order.3,
                );
            elsewhere = λ k away. waiting_same s r session n id me.0 w seat stays x y told told′ k (same k away)
                (λ u among. apart k u (subst (λ (l : Lock). Contains l.book.waiting u) (sym (same k away)) among));
            granted = (changes-by_lists x y (λ k. granted_of (told.0 k)) (λ k. granted_of (told′.0 k)) key told.2.granted told′.2.granted (λ k away. ap granted_of (same k away))).0 may.wish
                (subst (Gains may.wish (granted_of (told.0 key))) (sym (ap granted_of turns ∙ lists)) (push-gains (granted_of (told.0 key)) may.wish));
            unended = λ g. (
              (λ among.
                  let granted = (told′.3.unended g).0 among in
                  elim (nat_told g.session session) [
                    | inl mine ↦
                        let before = was_there s id me.0 w seat refl (λ _. Unit {0}) (λ _. refl) granted.0 granted.1 granted.3 tt in
                        let number_is : before.0.number ≡ asks.view.number = before.2 ∙ granted.4 ∙ mine ∙ sym wish_is.0 ∙ sym asks.number_is in
                        let one : before.0 ≡ asks.view = one_seat s r granted.0 asks.seat before.0 asks.view before.1 asks.there number_is
                        (let is = asks.number_is in let of = wish_is.0 in omega arith) in
                        let both : Some granted.2 ≡ Some asks.ask = sym granted.5 ∙ sym before.3 ∙ ap (λ (u : View). u.asks) one ∙ asks.asks in
                        let ask_is : granted.2 ≡ asks.ask = cc in
                        let ticket_is : g.ticket ≡ may.wish.number = sym granted.6 ∙ ap (λ (b : Ask). b.number) ask_is ∙ asks.ticket_is in
                        let word : wait_in g.wait 2 ≡ wait_in number 2 = sym granted.7 ∙ ap (waits s′) mine ∙ now in
                        let wait_is : g.wait ≡ number = omega arith in
                        let session_is : g.session ≡ may.wish.session = mine ∙ sym wish_is.0 in
                        inr (λ j. record { session = session_is j; wait = wait_is j; ticket = ticket_is j })
                    | inr else ↦ inl ((told.3.unended g).1 ((unended_else s r session n id me.0 w seat stays (λ _. refl) g else).0 granted))
                  ]),
              λ either. elim either [
                | inl among ↦
                    let granted = (told.3.unended g).0 among in
                    (told′.3.unended g).1 ((unended_else s r session n id me.0 w seat stays (λ _. refl) g (other_session s g granted session (λ two. omega arith))).1 granted)
                | inr e ↦
                    let after = now_there s id me.0 w seat refl (λ _. Unit {0}) (λ _. refl) asks.seat asks.view asks.there tt in
                    subst (Contains y.unended) (sym e)
                    ((told′.3.unended (record { session = may.wish.session; wait = number; ticket = may.wish.number })).1
                    (asks.seat, after.0, asks.ask, after.1, after.2 ∙ asks.number_is, after.3 ∙ asks.asks, asks.ticket_is, ap (waits s′) wish_is.0 ∙ now))
              ],
            );
            definitions = same_definitions told.0 told′.0 x y told.2 told′.2
                (locks_keep s r keys keys_are i key at id me.0 seat h may.recorded (admitting session ticket) (λ b. b) session n w stays refl r′ x y told told′ (λ l. l.book.standing) refl);
          },
    )
