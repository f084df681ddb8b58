-- To end a wait is to end a granted one or a lost one.
use Rattle.std.proofs.Common.{◌≡◌, ℕ, suc, ◌*◌, true, inl, inr, ◌∷◌, ◌++◌, length, map, Some, None, refl, sym, ap, ◌∙◌, subst, arith, Contains, Option}
use Rattle.mdl_steps_laws.proofs.FirstLemmas.{Ask, EndingHolds, EndingLeaves, GrantedWait, IsGrantedWait, KeyName, Lock, Rule, Slot, State, Stays, Ticket, View, WaitState, after_wait, at_map, cancelling, code_by, code_of, code_waits, ended_granted, ended_lost, get_elem?, gone_rule, granted_of, in_locks, leaves_order, lock_else, lock_stays, lock_turns, locks_keep, nat_told, not_waiting, number_fits, one_seat, other_session, same_definitions, same_members, some, some_session, state_by, taken_over, taken_rule, unended_else, unended_same, wait_in, waiter_by, waiter_is, waiter_of, waiting_by, waiting_same, waits, waits_here, wished}
use Rattle.mdl_steps_laws.proofs.WaitAsks.{asked_waits}

-- ---- granted

-- a session that met its wait settled asks for something
asked : (s : State Slot View) (r : Rule s) (id : ℕ) (v : View) → get_elem? s.views id ≡ some v → (state : ℕ) → v.told ≡ Some state → (a : Ask) × (v.asks ≡ Some a)
asked s r id v seat state told = by_look v.asks refl
  where
    by_look : (o : Option Ask) → v.asks ≡ o → (a : Ask) × (v.asks ≡ Some a)
    by_look (Some a) e = (a, e)
    by_look None e =
        let own = r.waits_agree.each id (waiter_of v) (at_map waiter_of s.views id v seat) in
        let idle = own.idle e in
        let is = own.told state told in
        absurd (let some_state = is.0 in let word = is.1 in omega arith)

pub ending_holds : EndingHolds
ending_holds s r id me seat some_number met =
    let ask = asked s r id me.0 seat 2 met in
    let a : Ask = ask.0 in
    let session : ℕ = me.0.number in
    let n : ℕ = wait_in me.0.waits 0 in
    let w : View = (ended_granted (length s.homes) me).0 in
    let s′ : State Slot View = after_wait s me.0.number (wait_in me.0.waits 0) id (ended_granted (length s.homes) me) in
    let wait : GrantedWait = record { session = session; wait = me.0.waits; ticket = a.number } in
    let own = r.waits_agree.each id (waiter_of me.0) (at_map waiter_of s.views id me.0 seat) in
    let was : waits s session ≡ wait_in me.0.waits 2 = (let number = own.number in let state = (own.told 2 met).1 in omega arith) in
    let zero : 8 * me.0.waits ≡ wait_in me.0.waits 0 = omega arith in
    let r₀ : Rule (after_wait s me.0.number (8 * me.0.waits) id (ended_granted (length s.homes) me)) =
    subst (λ (o : Option Ask). Rule (after_wait s me.0.number (8 * me.0.waits) id (record (ended_granted (length s.homes) me).0 { slow = me.0.slow ++ taken_over o me.0.slow }, me.1))) (sym ask.1)
    (taken_rule s r id me seat some_number 2 met refl a ask.1) in
    let r′ : Rule s′ = subst (λ (m : ℕ). Rule (after_wait s me.0.number m id (ended_granted (length s.homes) me))) zero r₀ in (
      a,
      ask.1,
      (
        r′,
        λ x y told told′.
            let stays : Stays me.0 w = record { number = refl; fast = refl; directory = refl } in
            let now : waits s′ session ≡ n = waits_here s r session n id me.0 w (number_fits s r id me.0 seat) in
            let apart = not_waiting s told.0 x told.2 told.3 session (λ st e. (code_waits st).1 (let is = e in let word = was in omega arith)) in
            let same : (k : KeyName) → told′.0 k ≡ told.0 k = λ k. lock_else s r session n id me.0 w seat stays r′ told.0 told′.0 told.1 told′.1 k (λ j e. refl) in
            let stands : IsGrantedWait s wait = (id, me.0, a, seat, refl, ask.1, refl, was) in
            record {
              stands = (told.3.unended wait).1 stands;
              unended = λ g. (
                (λ among.
                    let granted = (told′.3.unended g).0 among in
                    let else = other_session s′ g granted session (λ two. omega arith) in
                    ((told.3.unended g).1 ((unended_else s r session n id me.0 w seat stays (λ differs. absurd (differs refl)) g else).0 granted), λ e. else (ap (λ (h : GrantedWait). h.session) e))),
                λ both.
                    let granted = (told.3.unended g).0 both.0 in
                    elim (nat_told g.session session) [
                      | inl mine ↦
                          let one : granted.1 ≡ me.0 = one_seat s r granted.0 id granted.1 me.0 granted.3 seat (granted.4 ∙ mine) some_number in
                          let asks : Some granted.2 ≡ Some a = sym granted.5 ∙ ap (λ (u : View). u.asks) one ∙ ask.1 in
                          let ask_is : granted.2 ≡ a = cc in
                          let number : g.ticket ≡ a.number = sym granted.6 ∙ ap (λ (b : Ask). b.number) ask_is in
                          let word : wait_in g.wait 2 ≡ wait_in me.0.waits 2 = sym granted.7 ∙ ap (waits s) mine ∙ was in
                          let wait_is : g.wait ≡ me.0.waits = omega arith in
                          absurd (both.1 (λ j. record { session = mine j; wait = wait_is j; ticket = number j }))
                      | inr else ↦ (told′.3.unended g).1 ((unended_else s r session n id me.0 w seat stays (λ differs. absurd (differs refl)) g else).1 granted)
                    ],
              );
              granted = same_members told.0 told′.0 x y told.2 told′.2 (λ k. ap granted_of (same k));
              waiting = λ k. waiting_same s r session n id me.0 w seat stays x y told told′ k (same k) (apart k);
              definitions = same_definitions told.0 told′.0 x y told.2 told′.2 (λ k. ap (λ (l : Lock). l.book.standing) (same k));
            },
      ),
    )

-- ---- lost

pub ending_leaves : EndingLeaves
ending_leaves s r keys keys_are i key at id me seat h may =
    let session : ℕ = me.0.number in
    let n : ℕ = wait_in me.0.waits 0 in
    let a : Ask = may.ask in
    let t : Ticket = wished session a in
    let w : View = (ended_lost (length s.homes) (suc i) may.ask.number may.state me).0 in
    let s′ : State Slot View = after_wait s me.0.number (wait_in me.0.waits 0) id (ended_lost (length s.homes) (suc i) may.ask.number may.state me) in
    let some_number = some_session s r keys keys_are i key at id me.0 seat h may.recorded in
    let own = r.waits_agree.each id (waiter_of me.0) (at_map waiter_of s.views id me.0 seat) in
    let number = own.number in
    let state = (own.told may.state may.told).1 in
    let most = own.state in
    let lost = may.lost in
    let how : WaitState = state_by may.state in
    let code : code_of (state_by may.state) ≡ may.state = code_by may.state (omega arith) (λ e. omega arith) (λ e. omega arith) in
    let was : waits s session ≡ wait_in me.0.waits may.state = omega arith in
    let zero : 8 * me.0.waits ≡ wait_in me.0.waits 0 = omega arith in
    let r′ : Rule s′ = subst (λ (m : ℕ). Rule (after_wait s me.0.number m id (ended_lost (length s.homes) (suc i) may.ask.number may.state me))) zero
    (gone_rule s r id me seat some_number may.state may.told (suc i) h may refl) in (
      state_by may.state,
      code,
      (
        r′,
        λ x y told told′.
            let stays : Stays me.0 w = record { number = refl; fast = refl; directory = refl } in
            let now : waits s′ session ≡ n = waits_here s r session n id me.0 w (number_fits s r id me.0 seat) in
            let apart = not_waiting s′ told′.0 y told′.2 told′.3 session (λ st e. (code_waits st).0 (let is = e in let word = now in omega arith)) in
            let found = asked_waits s r told.0 told.1 i key (in_locks s r keys keys_are i key at told.0 told.1) id me.0 seat may.ask may.asks may.here (λ two. omega arith) in
            let turns = lock_turns s r keys keys_are i key at id me.0 seat h may.recorded (cancelling session may.ask.number) (λ _. true) session n w stays refl r′ x y told told′ in
            let same = lock_stays s r keys keys_are i key at id me.0 seat h may.recorded (cancelling session may.ask.number) (λ _. true) session n w stays refl r′ x y told told′ in
            record {
              settled = λ e. (let one : code_of (state_by may.state) ≡ 1 = ap code_of e in omega arith);
              leaves =
                  let order = leaves_order session may.ask.number (told.0 key).book.waiting t found (waits s) (waits s′) (λ u left.
                  Rattle.mdl_steps.proofs.WaitFrame.waits_else s r session n id me.0 w u.session (apart key u (subst (λ (l : Lock). Contains l.book.waiting u) (sym turns) left))) in (
                    order.0,
                    order.1,
                    waiting_by s told.0 x told.2 told.3 key ∙ order.2
                        ∙ (let is = waiter_is (waits s) t me.0.waits (state_by may.state) (was ∙ ap (wait_in me.0.waits) (sym code)) in λ j. order.0 ++ is j ∷ order.1),
                    waiting_by s′ told′.0 y told′.2 told′.3 key ∙ ap (λ (l : Lock). map (waiter_by (waits s′)) l.book.waiting) turns ∙ order.3,
                  );
              elsewhere = λ k away. waiting_same s r session n id me.0 w seat stays x y told told′ k (same k away)
                  (λ u among. apart k u (subst (λ (l : Lock). Contains l.book.waiting u) (sym (same k away)) among));
              granted = same_members told.0 told′.0 x y told.2 told′.2
                  (locks_keep s r keys keys_are i key at id me.0 seat h may.recorded (cancelling session may.ask.number) (λ _. true) session n w stays refl r′ x y told told′ granted_of refl);
              unended = unended_same s r session n id me.0 w seat stays (λ else. absurd (else refl)) (λ two. omega arith) (λ two. omega arith) x y told.3 told′.3;
              definitions = same_definitions told.0 told′.0 x y told.2 told′.2
                  (locks_keep s r keys keys_are i key at id me.0 seat h may.recorded (cancelling session may.ask.number) (λ _. true) session n w stays refl r′ x y told told′ (λ l. l.book.standing) refl);
            },
      ),
    )
