-- Calls on the session's own wait: polls and timeouts.
use Rattle.std.proofs.Common.{◌≡◌, ◌≢◌, ℕ, ◌<◌, ◌≤◌, true, false, is_some, List, [], ◌∷◌, ◌++◌, Option, Some, None, inl, inr, refl, sym, ap, subst, ◌∙◌, arith}
use Rattle.mdl_calls.specs.declared.answers.Settled.TheVariants.{Granted}
use Rattle.mdl_shared.proofs.FirstLemmas.{Already, Ask, ByThisCall, IsMember, IsSettled, Is_settled, Joins, Killed, MeetsOwnWait, MissWait, NoWait, Pending, Poll_wait, ReadWait, Refused, SessionView, SettleWait, Settle_timeout, Settled, Settlement, Shows, TellsOwn, Timed_out, Timeout, Victim, WaitOk, data_of, done-nothing, if-clear, joins-still, lists_seen, nat_tests, refused, same-stays, settled-told, settled_of, settled_state, speaks, told-settled, wait_fault, wait_in, wait_state, wait_word, waiter_of, waits-asks}
use Rattle.mdl_shared.proofs.WaitSteps.{Watches, met-word, shows, stays-once, told-own, watches, word-step}

-- ---- how a wait is settled, by the state of its word

pub settled-is : (state : ℕ) (how : Settled) → settled_of state ≡ Some how → state ≡ settled_state how
settled-is state Granted e = grind (arith, nat_tests)
settled-is state Victim e = grind (arith, nat_tests)
settled-is state Timeout e = grind (arith, nat_tests)
settled-is state Killed e = grind (arith, nat_tests)

-- the other states
unsettled-is : (state : ℕ) → settled_of state ≡ None → state ≢ 0 → state ≤ 5 → state ≡ 1
unsettled-is state e busy most = grind (arith, nat_tests)

-- a settled one has one
pub settled-some : (state : ℕ) → 1 < state → state ≤ 5 → (how : Settled) × (settled_of state ≡ Some how)
settled-some state more most = by (settled_of state) refl
  where
    by : (o : Option Settled) → settled_of state ≡ o → (how : Settled) × (settled_of state ≡ Some how)
    by (Some how) e = (how, e)
    by None e =
        let busy : state ≢ 0 = λ none. omega (arith, more, none) in
        let one = unsettled-is state e busy most in absurd (omega (arith, more, one))

pub settled-more : (state : ℕ) (how : Settled) → state ≡ settled_state how → IsSettled state
settled-more state Granted is = omega (arith, is)
settled-more state Victim is = omega (arith, is)
settled-more state Timeout is = omega (arith, is)
settled-more state Killed is = omega (arith, is)

-- ---- the session's own wait

clear-wait : (asks : Option Ask) → is_some asks ≡ true → wait_fault asks ≡ None
clear-wait None e = cc
clear-wait (Some a) e = refl

-- without one both calls are refused
module _ {s : SessionView} (is : IsMember s) (idle : is_some s.me.0.asks ≡ false) where
  pub poll-refused : Joins (data_of s) (Poll_wait s.me.0.number) (Refused NoWait) (data_of s)
  poll-refused =
      refused s s (Poll_wait s.me.0.number) NoWait (same-stays s) (speaks is) refl (waits-asks s.me.0.asks s.me.0.waits ∙ idle) (λ state how is. cc) tt

  pub timeout-refused : Joins (data_of s) (Settle_timeout s.me.0.number) (Refused NoWait) (data_of s)
  timeout-refused =
      refused s s (Settle_timeout s.me.0.number) NoWait (same-stays s) (speaks is) refl (waits-asks s.me.0.asks s.me.0.waits ∙ idle) (λ state how is. cc) tt

module _ {s : SessionView} (is : IsMember s) (waiting : is_some s.me.0.asks ≡ true) (session found : ℕ) (mine : session ≡ s.me.0.number)
    (own : TellsOwn s.table.slots session found s.me.0) where
  ok : WaitOk s.table.slots found (waiter_of s.me.0)
  ok = own mine

  busy : wait_state found ≢ 0
  busy = by s.me.0.asks refl waiting
    where
      by : (o : Option Ask) → s.me.0.asks ≡ o → is_some o ≡ true → wait_state found ≢ 0
      by None asks some = cc
      by (Some a) asks some = (ok.asks a asks).0

  -- its word has the number of its last wait
  pub in-state : (state : ℕ) → wait_state found ≡ state → found ≡ wait_in s.me.0.waits state
  in-state state its = let last = ok.number in omega (arith, last, its)

  pub unsettled : settled_of (wait_state found) ≡ None → found ≡ wait_in s.me.0.waits 1
  unsettled e = in-state 1 (unsettled-is (wait_state found) e busy ok.state)

  -- what the session knew of it is so
  agreed : (o : Option Settled) → settled_of (wait_state found) ≡ o → (how : Settled) → (data_of s).settled ≡ Some how → o ≡ Some how
  agreed o its how knows = let h = settled-told s.me.0.told how knows in sym its ∙ ap settled_of (ok.told h.0 h.1).1 ∙ h.2

  -- ---- polls

  module _ {s′ : SessionView} (now : s′ ≡ word-step ReadWait session found found s.me.0.settles s) where
    pub polls : Watches s s′
    polls = watches ReadWait session found found s.me.0.settles s s′ now own (inl refl) refl refl

    polls-own : (state : ℕ) → wait_state found ≡ state → MeetsOwnWait state (lists_seen s.me.0) s s′
    polls-own state its =
        let met = met-word ReadWait session found found s.me.0.settles s s′ now in (
          (met.0, met.1, record { word = met.2.word_is ∙ ap (wait_word s.table.slots) mine; found = met.2.found ∙ in-state state its }),
          stays-once ReadWait session found found s.me.0.settles s s′ now refl refl,
        )

    pub poll-pending : settled_of (wait_state found) ≡ None
        → Joins (data_of s) (Poll_wait s.me.0.number) Pending (data_of s′) × Shows (Poll_wait s.me.0.number) Pending s s′
    poll-pending none = (
      joins-still s s′ (Poll_wait s.me.0.number) Pending (done-nothing polls.done) (speaks is) refl refl refl
          (waits-asks s.me.0.asks s.me.0.waits ∙ waiting) refl
          (λ state how met knows. let e : None ≡ state = cc in sym e ∙ agreed None none how knows) (λ how told. cc) refl (λ r. r) tt,
      shows polls (if-clear _ (wait_fault s.me.0.asks) (clear-wait s.me.0.asks waiting)) polls.did (ap (λ (x : SessionView). x.me.0.settles) now) tt (λ owes searches. (owes, searches))
          (polls-own 1 (unsettled-is (wait_state found) none busy ok.state)),
    )

    pub poll-settled : (one : Settled) → settled_of (wait_state found) ≡ Some one
        → Joins (data_of s) (Poll_wait s.me.0.number) (Is_settled one) (data_of s′) × Shows (Poll_wait s.me.0.number) (Is_settled one) s s′
    poll-settled one some =
        let its = settled-is (wait_state found) one some in
        let told = told-own ReadWait session found found s.me.0.settles s s′ now mine (settled-more (wait_state found) one its) ∙ ap Some its in (
          joins-still s s′ (Poll_wait s.me.0.number) (Is_settled one) (done-nothing polls.done) (speaks is) refl refl refl
              (waits-asks s.me.0.asks s.me.0.waits ∙ waiting) refl
              (λ state how met knows. let e : Some one ≡ state = cc in sym e ∙ agreed (Some one) some how knows)
              (λ how tells. let e : one ≡ how = cc in told-settled s′.me.0.told how (told ∙ ap (λ (x : Settled). Some (settled_state x)) e)) refl (λ r. r) tt,
          shows polls (if-clear _ (wait_fault s.me.0.asks) (clear-wait s.me.0.asks waiting)) polls.did (ap (λ (x : SessionView). x.me.0.settles) now) tt (λ owes searches. (owes, searches))
              (polls-own (settled_state one) its),
        )

  -- ---- timeouts

  module _ {s′ : SessionView} (wait : ℕ) (last : wait ≡ s.me.0.waits)
      (hit : found ≡ wait_in wait 1
      → s′ ≡ word-step SettleWait session (wait_in wait 1) (wait_in wait 4) (s.me.0.settles ++ record { session = session; wait = wait; state = 4 } ∷ []) s)
      (miss : found ≢ wait_in wait 1 → s′ ≡ word-step MissWait session found found s.me.0.settles s) where
    pub timeout-now : settled_of (wait_state found) ≡ None
        → Watches s s′ × Joins (data_of s) (Settle_timeout s.me.0.number) (Timed_out ByThisCall) (data_of s′) × Shows (Settle_timeout s.me.0.number) (Timed_out ByThisCall) s s′
    timeout-now none =
        let is_found = unsettled none ∙ ap (λ (w : ℕ). wait_in w 1) (sym last) in
        let now = hit is_found in
        let odd : wait_state (wait_in wait 1) ≡ 1 = omega arith in
        let four : wait_state (wait_in wait 4) ≡ 4 = omega arith in
        let all : List Settlement = s.me.0.settles ++ record { session = session; wait = wait; state = 4 } ∷ [] in
        let did = watches SettleWait session (wait_in wait 1) (wait_in wait 4) all s s′ now (subst (λ (w : ℕ). TellsOwn s.table.slots session w s.me.0) is_found own) (inr odd) refl refl in
        let met = met-word SettleWait session (wait_in wait 1) (wait_in wait 4) all s s′ now in
        let told = told-own SettleWait session (wait_in wait 1) (wait_in wait 4) all s s′ now mine (omega (arith, four)) ∙ ap Some four in (
          did,
          joins-still s s′ (Settle_timeout s.me.0.number) (Timed_out ByThisCall) (done-nothing did.done) (speaks is) refl refl refl
              (waits-asks s.me.0.asks s.me.0.waits ∙ waiting) refl
              (λ state how met knows. let e : None ≡ state = cc in sym e ∙ agreed None none how knows)
              (λ how tells. let e : Timeout ≡ how = cc in told-settled s′.me.0.told how (told ∙ ap (λ (x : Settled). Some (settled_state x)) e)) refl (λ r. r) tt,
          shows did (if-clear _ (wait_fault s.me.0.asks) (clear-wait s.me.0.asks waiting)) did.did (ap (λ (x : SessionView). x.me.0.settles) now ∙ ap (λ (n : ℕ). s.me.0.settles ++ record { session = n; wait = wait; state = 4 } ∷ []) mine
              ∙ ap (λ (w : ℕ). s.me.0.settles ++ record { session = s.me.0.number; wait = w; state = 4 } ∷ []) last) tt
              (λ owes searches. (owes, searches)) (
                (met.0, met.1, record { word = met.2.word_is ∙ ap (wait_word s.table.slots) mine; found = met.2.found ∙ ap (λ (w : ℕ). wait_in w 1) last }),
                stays-once SettleWait session (wait_in wait 1) (wait_in wait 4) all s s′ now refl refl,
              ),
        )

    pub timeout-already : (one : Settled) → settled_of (wait_state found) ≡ Some one
        → Watches s s′ × Joins (data_of s) (Settle_timeout s.me.0.number) (Timed_out (Already one)) (data_of s′) × Shows (Settle_timeout s.me.0.number) (Timed_out (Already one)) s s′
    timeout-already one some =
        let its = settled-is (wait_state found) one some in
        let more = settled-more (wait_state found) one its in
        let now = miss (λ open_is. let odd : wait_state found ≡ 1 = (let e = open_is in omega arith) in omega (arith, more, odd)) in
        let did = watches MissWait session found found s.me.0.settles s s′ now own (inl refl) refl refl in
        let met = met-word MissWait session found found s.me.0.settles s s′ now in
        let told = told-own MissWait session found found s.me.0.settles s s′ now mine more ∙ ap Some its in (
          did,
          joins-still s s′ (Settle_timeout s.me.0.number) (Timed_out (Already one)) (done-nothing did.done) (speaks is) refl refl refl
              (waits-asks s.me.0.asks s.me.0.waits ∙ waiting) refl
              (λ state how met knows. let e : Some one ≡ state = cc in sym e ∙ agreed (Some one) some how knows)
              (λ how tells. let e : one ≡ how = cc in told-settled s′.me.0.told how (told ∙ ap (λ (x : Settled). Some (settled_state x)) e)) refl (λ r. r) tt,
          shows did (if-clear _ (wait_fault s.me.0.asks) (clear-wait s.me.0.asks waiting)) did.did (ap (λ (x : SessionView). x.me.0.settles) now) tt
              (λ owes searches. (owes, searches)) (
                (met.0, met.1, record { word = met.2.word_is ∙ ap (wait_word s.table.slots) mine; found = met.2.found ∙ in-state (settled_state one) its }),
                stays-once MissWait session found found s.me.0.settles s s′ now refl refl,
              ),
        )

    pub timeouts : Watches s s′
    timeouts = by (settled_of (wait_state found)) refl
      where
        by : (o : Option Settled) → settled_of (wait_state found) ≡ o → Watches s s′
        by None none = (timeout-now none).0
        by (Some one) some = (timeout-already one some).0
