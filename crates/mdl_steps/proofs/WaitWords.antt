-- What the rule says of a session's wait word, as the word or what the session knows of it changes.
use Rattle.std.proofs.Common.{◌≡◌, ◌≢◌, ℕ, ◌+◌, ◌*◌, ◌%◌, ◌<◌, ◌≤◌, ◌==◌, ◌&&◌, cond, Some, None, sym, ap, ◌∙◌, subst, arith, nat_lt, ltb-true}
use Rattle.mdl_steps.proofs.Common.{Ask, View, WaitOk, Waiter, and_parts, meeting, wait_in, waiter_of}
use Rattle.mdl_steps.proofs.Views.{by_bool, other}

-- a session that met its own word goes on to know it
pub met_ok : (slots session word : ℕ) (v : View) → WaitOk slots word (waiter_of v) → WaitOk slots word (waiter_of (meeting session word v))
met_ok slots session word v ok = record {
  number = ok.number;
  state = ok.state;
  idle = ok.idle;
  asks = ok.asks;
  told = λ state e. by_bool (session == v.number && nat_lt 1 (word % 8))
      (λ settled.
      let is : Some (word % 8) ≡ Some state = sym (ap (λ b. cond b (Some (word % 8)) v.told) settled) ∙ e in
      let same : word % 8 ≡ state = cc in
      let more = ltb-true 1 (word % 8) (and_parts (session == v.number) (nat_lt 1 (word % 8)) settled).1 in
      (subst (λ (n : ℕ). 1 < n) same more, same))
      (λ open_. ok.told state (sym (ap (λ b. cond b (Some (word % 8)) v.told) open_) ∙ e));
}

-- another session's word tells it nothing of its own
pub met_else : (session word : ℕ) (v : View) → session ≢ v.number → meeting session word v ≡ v
met_else session word v else = λ i. record v { told = (ap (λ b. cond (b && nat_lt 1 (word % 8)) (Some (word % 8)) v.told) (other session v.number else)) i }

-- an unsettled wait is settled
pub settled_ok : (slots number state : ℕ) (x : Waiter) → 1 < state → state ≤ 5 → WaitOk slots (wait_in number 1) x → WaitOk slots (wait_in number state) x
settled_ok slots number state x more most ok = record {
  number = (let was = ok.number in omega arith);
  state = omega arith;
  idle = λ none. (let was = ok.idle none in absurd (omega arith));
  asks = λ a e. (let was = ok.asks a e in ((λ zero. omega arith), was.1, was.2, was.3));
  told = λ known e. (let was = ok.told known e in let one = was.0 in let is = was.1 in absurd (omega arith));
}

-- a wait is opened
pub opened_wait : (slots number : ℕ) (a : Ask) (v : View) → 0 < a.place → a.place < slots → 0 < v.number → WaitOk slots (wait_in (number + 1) 1) (record { number = v.number; waits = number + 1; asks = Some a; told = None })
opened_wait slots number a v first last some_number = record {
  number = omega arith;
  state = omega arith;
  idle = λ none. absurd (cc);
  asks = λ b e. (let same : a ≡ b = cc in ((λ zero. omega arith), subst (λ (x : Ask). 0 < x.place) same first, subst (λ (x : Ask). x.place < slots) same last, some_number));
  told = λ state none. absurd (cc);
}

-- and ended
pub ended_wait : (slots number session : ℕ) → WaitOk slots (8 * number) (record { number = session; waits = number; asks = None; told = None })
ended_wait slots number session = record {
  number = omega arith;
  state = omega arith;
  idle = λ none. omega arith;
  asks = λ a none. absurd (cc);
  told = λ state none. absurd (cc);
}
