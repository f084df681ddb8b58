-- To settle a wait as lost is to lose it.
use Rattle.std.proofs.Common.{◌≡◌, ℕ, suc, ◌-◌, ◌<◌, ◌≤◌, ◌∷◌, ◌++◌, length, map, Some, refl, sym, ap, ◌∙◌, arith}
use Rattle.mdl_steps.specs.declared.wait_word.Loss.TheVariants as loss
use Rattle.mdl_steps_laws.proofs.FirstLemmas.{Ask, KeyName, Lock, Loss, SettlingLoses, Slot, State, Stays, Ticket, Unsettled, View, after_wait, code_of, get_elem?, granted_of, in_locks, lock_else, lost_as, lost_rule, lost_state, one_seat, ruled_keys, same_definitions, same_members, settled_lost, some-injective, takes_turn, unended_same, wait_in, waiter_by, waiter_is, waiting_by, waiting_same, waiting_session, waits, waits_else, waits_here, wished}
use Rattle.mdl_steps_laws.proofs.WaitAsks.{asked_key, asked_waits, asks_for, others_wait}

-- how a wait is lost, as its word and as the system have it
lost_code : (how : Loss) → code_of (lost_as how) ≡ lost_state how
lost_code loss.Victim = refl
lost_code loss.Timeout = refl
lost_code loss.Killed = refl

lost_states : (how : Loss) → (2 < lost_state how) × (lost_state how ≤ 5)
lost_states loss.Victim = (omega arith, omega arith)
lost_states loss.Timeout = (omega arith, omega arith)
lost_states loss.Killed = (omega arith, omega arith)

pub settling_loses : SettlingLoses
settling_loses s r id me seat session number some_theirs found how =
    let state : ℕ = lost_state how in
    let states = lost_states how in
    let n : ℕ = wait_in number (lost_state how) in
    let w : View = (settled_lost (length s.homes) session number (lost_state how) me).0 in
    let s′ : State Slot View = after_wait s session (wait_in number (lost_state how)) id (settled_lost (length s.homes) session number (lost_state how) me) in
    let theirs = waiting_session s r session number found in
    let t = theirs.0 in
    let first = t.inside.0 in
    let last = t.inside.1 in
    let word : waits s t.view.number ≡ wait_in number 1 = ap (waits s) t.number_is ∙ found in
    let of = asked_key s r t.ask.place first last t.at t.view t.there t.ask t.asks refl (λ two. omega arith) in
    let key : KeyName = of.0 in
    let i : ℕ = t.ask.place - 1 in
    let place_is : t.ask.place ≡ suc (t.ask.place - 1) = omega arith in
    let ticket : Ticket = wished t.view.number t.ask in
    let r′ = lost_rule s r id session me seat some_theirs number (lost_state how) states.0 states.1 found in (
      of.0,
      wished t.view.number t.ask,
      t.number_is,
      (
        r′,
        λ x y told told′.
            let stays : Stays me.0 w = record { number = refl; fast = refl; directory = refl } in
            let now : waits s′ session ≡ n = waits_here s r session n id me.0 w theirs.1 in
            let same : (k : KeyName) → told′.0 k ≡ told.0 k = λ k. lock_else s r session n id me.0 w seat stays r′ told.0 told′.0 told.1 told′.1 k (λ j e. refl) in
            let at = in_locks s r r.keys (ruled_keys s r) (t.ask.place - 1) of.0 of.1 told.0 told.1 in
            let found_ticket = asked_waits s r told.0 told.1 (t.ask.place - 1) of.0 at t.at t.view t.there t.ask t.asks place_is (λ two. omega arith) in
            let some_number : 0 < t.view.number = (let is = t.number_is in omega arith) in
            let turn = takes_turn t.view.number t.ask.number (told.0 of.0).book.waiting (wished t.view.number t.ask) found_ticket (waits s) (waits s′) (λ u left.
            waits_else s r session n id me.0 w u.session (λ e. others_wait s r told.0 told.1 (t.ask.place - 1) of.0 at t.view.number t.ask.number some_number (wished t.view.number t.ask) found_ticket u left (e ∙ sym t.number_is))) in
            let was_waiter = waiter_is (waits s) (wished t.view.number t.ask) number Unsettled word in
            let now_waiter = waiter_is (waits s′) (wished t.view.number t.ask) number (lost_as how) (ap (waits s′) t.number_is ∙ now ∙ ap (wait_in number) (sym (lost_code how))) in
            record {
              unsettled = refl;
              lost = λ e. (let one = sym (lost_code how) ∙ ap code_of e in let more = states.0 in omega arith);
              settled = (
                turn.0,
                turn.1,
                waiting_by s told.0 x told.2 told.3 of.0 ∙ turn.2 ∙ (λ j. turn.0 ++ was_waiter j ∷ turn.1),
                waiting_by s′ told′.0 y told′.2 told′.3 of.0 ∙ ap (λ (l : Lock). map (waiter_by (waits s′)) l.book.waiting) (same of.0) ∙ turn.3 ∙ (λ j. turn.0 ++ now_waiter j ∷ turn.1),
              );
              elsewhere = λ k away. waiting_same s r session n id me.0 w seat stays x y told told′ k (same k) (λ u among e.
                  let asks = asks_for s r told.0 told.1 k u among in
                  let one : asks.view ≡ t.view = one_seat s r asks.seat t.at asks.view t.view asks.there t.there (asks.number_is ∙ e ∙ sym t.number_is) some_number in
                  let both : Some asks.ask ≡ Some t.ask = sym asks.asks ∙ ap (λ (v : View). v.asks) one ∙ t.asks in
                  let ask_is : asks.ask ≡ t.ask = cc in
                  let places = sym asks.place_is ∙ ap (λ (b : Ask). b.place) ask_is ∙ place_is in
                  let index_is : asks.index ≡ t.ask.place - 1 = (let p = places in omega arith) in
                  away (some-injective k of.0 (sym asks.at ∙ ap (get_elem? told.1.keys) index_is ∙ at)));
              granted = same_members told.0 told′.0 x y told.2 told′.2 (λ k. ap granted_of (same k));
              unended = unended_same s r session n id me.0 w seat stays (λ _. refl) (λ two. omega arith) (λ two. (let more = states.0 in let most = states.1 in omega arith)) x y told.3 told′.3;
              definitions = same_definitions told.0 told′.0 x y told.2 told′.2 (λ k. ap (λ (l : Lock). l.book.standing) (same k));
            },
      ),
    )
