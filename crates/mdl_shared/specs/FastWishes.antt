-- A session after its request for a ticket (a wish) was tried on the fast path first, and then under the latch of the place.
use Rattle.std.specs.Prelude.{◌≡◌, ℕ, ◌+◌, [], ◌∷◌}
use Rattle.mdl_calls.specs.declared.answers.Attempt.TheVariants as attempt
use Rattle.mdl_calls.specs.declared.answers.Begun.TheVariants as begun
use Rattle.mdl_shared.specs.FirstWords.{AllMadeSlow, AreStepsOf, Attempt, Begun, DoesQuietly, Gain, GrantsAtLast, KeepsRoom, MeetsBlocked, MeetsGrantable, MeetsOpening, Mode, Opens, SessionView, ShowsStep, StepRecord}

-- ---- on the fast path

-- the session was granted a fast ticket with its next number at a place, by its last step
pub record GainsFast (place : ℕ) (mode : Mode) (id : ℕ) (a b : SessionView) : Type 0 where
  pub first : id ≡ a.me.0.next
  pub quiet : DoesQuietly place (Gain id mode ∷ []) a b
  pub met : GrantsAtLast place (Gain id mode) a.me b.me
  pub room : KeepsRoom 1 a.room b.room

-- the session did nothing, except that each of its fast tickets became slow by a step
pub record BecomesSlow (a b : SessionView) : Type 0 where
  pub quiet : DoesQuietly 0 [] a b
  pub unfast : b.me.0.fast ≡ []
  pub made : AllMadeSlow a b
  pub room : KeepsRoom 0 a.room b.room

-- ---- by the latch of the place

-- the session was granted a slow ticket with its next number at a place, and a step shows that its request could be granted
pub record GainsSlow (place : ℕ) (mode : Mode) (id : ℕ) (a b : SessionView) : Type 0 where
  pub first : id ≡ a.me.0.next
  pub quiet : DoesQuietly place (Gain id mode ∷ []) a b
  pub met : ShowsStep a b (MeetsGrantable place a.me.0.number mode (Gain id mode))
  pub room : KeepsRoom 1 a.room b.room

-- the session did nothing, and a step shows that its request couldn't be granted
pub record StaysBlocked (place : ℕ) (mode : Mode) (a b : SessionView) : Type 0 where
  pub quiet : DoesQuietly place [] a b
  pub met : ShowsStep a b (MeetsBlocked place a.me.0.number mode)
  pub room : KeepsRoom 0 a.room b.room

-- the session began its next wait at a place: a step shows that its request couldn't be granted, and the step after it opened the wait
pub record BeginsToWait (place : ℕ) (mode : Mode) (number : ℕ) (a b : SessionView) : Type 0 where
  pub next : number ≡ a.me.0.waits + 1
  pub table : b.table ≡ a.table
  pub sessions : b.sessions ≡ a.sessions
  pub pins : b.pins ≡ a.pins
  pub opens : Opens place mode a.me b.me
  pub met : (e f : StepRecord) × AreStepsOf a.me b.me e f × MeetsBlocked place a.me.0.number mode e
      × MeetsOpening a.table.slots place a.me.0.number a.me.0.waits a.me.0.next mode f
  pub room : KeepsRoom 0 a.room b.room

-- the result of a request that isn't waited for
abbrev pub HasTried : ℕ → Mode → Attempt → SessionView → SessionView → Type 0
HasTried place mode (attempt.Granted id) a b = GainsSlow place mode id a b
HasTried place mode attempt.WouldWait a b = StaysBlocked place mode a b

-- the result of a request that is waited for if it can't be granted
abbrev pub HasBegun : ℕ → Mode → Begun → SessionView → SessionView → Type 0
HasBegun place mode (begun.Granted id) a b = GainsSlow place mode id a b
HasBegun place mode (begun.Waiting number) a b = BeginsToWait place mode number a b
