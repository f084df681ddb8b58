-- To open a wait is to begin it.
use Rattle.std.proofs.Common.{◌≡◌, ◌≢◌, ℕ, suc, ◌+◌, ◌%◌, [], ◌∷◌, ◌++◌, length, map, refl, sym, ap, ◌∙◌, arith}
use Rattle.mdl_steps_laws.proofs.FirstLemmas.{Lock, OpeningBegins, Slot, State, Stays, Ticket, Unsettled, View, WaitState, after_wait, asked_ticket, at_map, code_of, code_waits, enqueueing, first_place, granted_of, in_rule, inside, lock_stays, lock_turns, locks_keep, map_joined, next_numbers_are_new, not_waiting, number_fits, opened, opened_rule, other_session, same_definitions, same_members, some_session, told_alike, unended_same, wait_in, waiter_by, waiter_is, waiter_of, waiting_by, waiting_same, waits, waits_else, waits_here}

pub opening_begins : OpeningBegins
opening_begins s r keys keys_are i key at id me seat mode h may =
    let session : ℕ = me.0.number in
    let n : ℕ = wait_in (me.0.waits + 1) 1 in
    let t : Ticket = asked_ticket mode me.0 in
    let w : View = (opened (length s.homes) (suc i) mode me).0 in
    let s′ : State Slot View = after_wait s me.0.number (wait_in (me.0.waits + 1) 1) id (opened (length s.homes) (suc i) mode me) in
    let some_number = some_session s r keys keys_are i key at id me.0 seat h may.recorded in
    let r′ = opened_rule s r id me seat some_number (suc i) (first_place s r i key (in_rule s r keys keys_are i key at)) (inside s r keys keys_are i key at) mode h may in (
      r′,
      λ a b told told′.
          let stays : Stays me.0 w = record { number = refl; fast = refl; directory = refl } in
          let own = r.waits_agree.each id (waiter_of me.0) (at_map waiter_of s.views id me.0 seat) in
          let idle : waits s session % 8 ≡ 0 = own.idle may.idle in
          let now : waits s′ session ≡ n = waits_here s r session n id me.0 w (number_fits s r id me.0 seat) in
          let no_code : (x : WaitState) → waits s session % 8 ≢ code_of x = λ x e. (code_waits x).0 (sym e ∙ idle) in
          let apart = not_waiting s told.0 a told.2 told.3 session no_code in
          let turns = lock_turns s r keys keys_are i key at id me.0 seat h may.recorded (enqueueing t) (λ b. b) session n w stays refl r′ a b told told′ in
          record {
            free = (
              (λ k waiter among same.
                  let word = told.3.waiting k waiter among in
                  let most = Rattle.mdl_steps_laws.proofs.WaitLists.code_most waiter.state in
                  let is : waits s session ≡ waits s waiter.ticket.session = ap (waits s) (sym same) in
                  no_code waiter.state (omega arith)),
              λ wait among. other_session s wait ((told.3.unended wait).0 among) session (λ two. omega arith),
            );
            new_number = next_numbers_are_new s r told.0 told.1 a told.2 id me.0 seat some_number;
            unsettled = refl;
            joins =
                waiting_by s′ told′.0 b told′.2 told′.3 key
                ∙ ap (λ (l : Lock). map (waiter_by (waits s′)) l.book.waiting) turns
                ∙ map_joined (waiter_by (waits s′)) (told.0 key).book.waiting (t ∷ [])
                ∙ (let first = told_alike (waits s) (waits s′) (told.0 key).book.waiting (λ u among. waits_else s r session n id me.0 w u.session (apart key u among)) ∙ sym (waiting_by s told.0 a told.2 told.3 key) in
                let last = waiter_is (waits s′) t (me.0.waits + 1) Unsettled now in
                λ j. first j ++ last j ∷ []);
            elsewhere = λ k away. waiting_same s r session n id me.0 w seat stays a b told told′ k
                (lock_stays s r keys keys_are i key at id me.0 seat h may.recorded (enqueueing t) (λ b. b) session n w stays refl r′ a b told told′ k away) (apart k);
            granted = same_members told.0 told′.0 a b told.2 told′.2 (locks_keep s r keys keys_are i key at id me.0 seat h may.recorded (enqueueing t) (λ b. b) session n w stays refl r′ a b told told′ granted_of refl);
            unended = unended_same s r session n id me.0 w seat stays (λ else. absurd (else refl)) (λ two. omega arith) (λ two. omega arith) a b told.3 told′.3;
            definitions = same_definitions told.0 told′.0 a b told.2 told′.2 (locks_keep s r keys keys_are i key at id me.0 seat h may.recorded (enqueueing t) (λ b. b) session n w stays refl r′ a b told told′ (λ l. l.book.standing) refl);
          },
    )
