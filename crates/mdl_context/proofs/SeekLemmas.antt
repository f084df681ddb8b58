-- Searches for deadlocks, one after another, and a wait that is given up.
use Rattle.std.proofs.Common.{◌≡◌, ℕ, zero, suc, ◌<◌, true, false, Option, Some, None, Ok, List, [], ◌∷◌, ◌++◌, refl, ap, arith}
use Rattle.std.specs.Prelude.{◌==◌, nat_lt, not, filter, find, is_some, IsTrue}
use Rattle.std.specs.List.{list_all}
use Rattle.std.proofs.lemmas.Bool.Decides.{nat_tests}
use Rattle.mdl_key.specs.declared.mode.Mode.{Mode}
use Rattle.mdl_calls.specs.declared.answers.Held.{Held}
use Rattle.mdl_calls.specs.declared.space_error.SpaceError.{SpaceError}
use Rattle.mdl_calls.specs.declared.answers.Ended.{Ended}
use Rattle.mdl_calls.specs.declared.answers.Ended.TheVariants as ended_as
use Rattle.mdl_calls.specs.declared.answers.Settled.{Settled}
use Rattle.mdl_calls.specs.declared.answers.Settled.TheVariants as settled_as
use Rattle.mdl_calls.specs.Words.{Answer, Refused, No_cycle, Victim_is, Lost, ended, Knowledge, IsCause, Call, Search, Settle_timeout, End_wait, SessionLocks, Wait, IsRising, are_rising, is_number, is_waiting, holds, gaining, ending, winning, giving_up, Runs, SearchEnd, Over, Cut_off, Failed, seeking}
use Rattle.mdl_calls.specs.declared.space_error.SpaceError.TheVariants.{OutOfMemory}
use Rattle.mdl_context.specs.Gains.{abandoning}

-- a search is refused only for memory
pub search-refused : (knows : Knowledge) (who : ℕ) (refusal : SpaceError) (own : SessionLocks) → IsCause knows (Search who) refusal own → refusal ≡ OutOfMemory
search-refused knows who OutOfMemory own cause = refl
search-refused knows who _ own cause = absurd cause

module _ {S : Type 0} (joins : S → Call → Answer → S → Type 0) (who : ℕ) where
  -- no cycle is left
  pub seek-none : (n : ℕ) (a b : S) → 0 < n → joins a (Search who) No_cycle b → Runs joins a (seeking n who) Over b
  unfolding seeking
  seek-none zero a b some step = absurd (omega (arith, some))
  seek-none (suc n) a b some step = (No_cycle, b, step, (refl, refl))

  -- the session is the victim
  pub seek-lost : (n : ℕ) (a b : S) (victim : ℕ) → 0 < n → victim ≡ who → joins a (Search who) (Victim_is victim) b → Runs joins a (seeking n who) Over b
  unfolding seeking
  seek-lost zero a b victim some same step = absurd (omega (arith, some))
  seek-lost (suc n) a b victim some same step = (Victim_is victim, b, step, rw (own-victim same) (refl, refl)) where
    own-victim : victim ≡ who → (victim == who) ≡ true
    own-victim e = grind (arith, nat_tests)

  -- a search is refused
  pub seek-failed : (n : ℕ) (a b : S) (refusal : SpaceError) → 0 < n → joins a (Search who) (Refused refusal) b → Runs joins a (seeking n who) (Failed refusal) b
  unfolding seeking
  seek-failed zero a b refusal some step = absurd (omega (arith, some))
  seek-failed (suc n) a b refusal some step = (Refused refusal, b, step, (refl, refl))

  -- another session is the victim, and the searches go on
  pub seek-on : (n : ℕ) (a mid b : S) (victim : ℕ) (end : SearchEnd) → (victim == who) ≡ false → joins a (Search who) (Victim_is victim) mid → Runs joins mid (seeking n who) end b
      → Runs joins a (seeking (suc n) who) end b
  unfolding seeking
  seek-on n a mid b victim end other step run = (Victim_is victim, mid, step, rw other run)

  -- no more searches are made
  pub seek-cut : (a : S) → Runs joins a (seeking 0 who) Cut_off a
  unfolding seeking
  seek-cut a = (refl, refl)

-- ---- a ticket that was gained last is given up

holds_last : (id : ℕ) (held : List Held) (ticket : Held) → ticket.id ≡ id → is_some (find (is_number id) (held ++ ticket ∷ [])) ≡ true
holds_last id [] ticket e = grind (arith, nat_tests)
holds_last id (x ∷ xs) ticket e = grind (arith, nat_tests, holds_last id xs ticket)

pub holds-gained : (id place : ℕ) (mode : Mode) (own : SessionLocks) → holds id (gaining id place mode own) ≡ true
holds-gained id place mode own = holds_last id own.held (record { id = id; place = place; mode = mode }) refl

below_last : (n : ℕ) (xs : List Held) (t : Held) → IsTrue (list_all (λ other. nat_lt n other.id) (xs ++ t ∷ [])) → n < t.id
below_last n [] t h = grind (arith, nat_tests)
below_last n (x ∷ xs) t h = grind (arith, nat_tests, below_last n xs t)

without_last : (id : ℕ) (xs : List Held) (t : Held) → t.id ≡ id → IsTrue (are_rising (xs ++ t ∷ [])) → filter (λ ticket. not (is_number id ticket)) (xs ++ t ∷ []) ≡ xs
without_last id [] t e h = grind (arith, nat_tests)
without_last id (x ∷ xs) t e h = grind (arith, nat_tests, below_last x.id xs t, without_last id xs t e)

pub gained-given_up : (id place : ℕ) (mode : Mode) (own : SessionLocks) → IsRising (gaining id place mode own) → giving_up id (gaining id place mode own) ≡ own
gained-given_up id place mode own rising =
    ap (λ (held : List Held). let o : SessionLocks = record own { held = held } in o) (without_last id own.held (record { id = id; place = place; mode = mode }) refl rising)

-- ---- a wait that is given up

-- a wait that ends without a ticket is lost
pub lost-otherwise : (end : Ended) → ((id : ℕ) → end ≡ ended_as.Granted id → ⊥) → (how : Settled) × (ended (Ok end) ≡ Lost how)
lost-otherwise (ended_as.Granted id) other = absurd (other id refl)
lost-otherwise ended_as.Victim other = (settled_as.Victim, refl)
lost-otherwise ended_as.Timeout other = (settled_as.Timeout, refl)
lost-otherwise ended_as.Killed other = (settled_as.Killed, refl)

-- the ticket of a wait that is ended is held
pub holds-won : (id : ℕ) (own : SessionLocks) → is_waiting own ≡ true → holds id (winning id own.wait own) ≡ true
holds-won id own waits = go own.wait waits where
  go : (wait : Option Wait) → is_some wait ≡ true → holds id (winning id wait own) ≡ true
  go None e = cc
  go (Some wait) e = holds-gained id wait.place wait.mode (ending own)

-- and once it is released, just the wait is gone
pub won-given_up : (id : ℕ) (own : SessionLocks) → is_waiting own ≡ true → IsRising (winning id own.wait own) → giving_up id (winning id own.wait own) ≡ ending own
won-given_up id own waits rising = go own.wait waits rising where
  go : (wait : Option Wait) → is_some wait ≡ true → IsRising (winning id wait own) → giving_up id (winning id wait own) ≡ ending own
  go None e rises = cc
  go (Some wait) e rises = gained-given_up id wait.place wait.mode (ending own) rises

module _ {S : Type 0} (joins : S → Call → Answer → S → Type 0) (who : ℕ) where
  -- a lost wait is given up
  pub abandon-lost : (a mid b : S) (answer : Answer) (how : Settled) → joins a (Settle_timeout who) answer mid → joins mid (End_wait who) (Lost how) b → Runs joins a (abandoning who) tt b
  abandon-lost a mid b answer how settled ended = (answer, mid, settled, (Lost how, b, ended, (refl, refl)))
