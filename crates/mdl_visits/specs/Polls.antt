-- What a session meets in the words of waits, its own and those of others.
use Rattle.std.specs.Prelude.{◌≡◌, ◌≢◌, ℕ, ◌==◌, [], ◌∷◌, ◌++◌, Option, Some, None, if◌then◌else◌}
use Rattle.mdl_calls.specs.declared.answers.Settled.TheVariants.{Granted, Victim, Timeout, Killed}
use Rattle.mdl_calls.specs.declared.answers.Settled.{Settled}
use Rattle.mdl_steps.specs.declared.wait_word.Loss.TheVariants as loss
use Rattle.mdl_visits.specs.Prelude.{EndWait, Mine, StepRecord, granted_state, idle_state, lost_state, wait_in, wait_number, wait_state, wait_word}

-- the state of a wait that is settled in this way
abbrev pub settled_state : Settled → ℕ
settled_state Granted = granted_state
settled_state Victim = lost_state loss.Victim
settled_state Timeout = lost_state loss.Timeout
settled_state Killed = lost_state loss.Killed

-- a step that met the word of a session's wait: the session's last wait had this number, and was in this state
pub record MeetsWait (slots session number state : ℕ) (e : StepRecord) : Type 0 where
  pub word : e.word ≡ wait_word slots session
  pub found : e.found ≡ wait_in number state

-- the step by which a session ended its last wait, which had this number and was in this state
pub record EndsWait (slots session number state : ℕ) (e : StepRecord) : Type 0 where
  pub kind : e.kind ≡ EndWait
  pub wait : MeetsWait slots session number state e

-- the number of a session's wait, if it has one, by the wait's word
abbrev pub number_of_wait : ℕ → Option ℕ
number_of_wait word = if wait_state word == idle_state then None else Some (wait_number word)

-- a step that met this word of a session's wait
pub record MeetsWord (slots session word : ℕ) (e : StepRecord) : Type 0 where
  pub word_is : e.word ≡ wait_word slots session
  pub found : e.found ≡ word

-- a step that met the word of a session's wait, by which the session had a wait with this number, or none
pub record MeetsNumber (slots session : ℕ) (number : Option ℕ) (e : StepRecord) : Type 0 where
  pub word : e.word ≡ wait_word slots session
  pub told : number ≡ number_of_wait e.found

-- the session settled no wait between the two
abbrev pub SettlesNothing : Mine → Mine → Type 0
SettlesNothing m m′ = m′.0.settles ≡ m.0.settles

-- a step that met another word than this one of a session's wait
pub record MeetsOther (slots session word : ℕ) (e : StepRecord) : Type 0 where
  pub word_is : e.word ≡ wait_word slots session
  pub differs : e.found ≢ word

-- the session settled just one wait between the two, this one, to this state
abbrev pub Settles : ℕ → ℕ → ℕ → Mine → Mine → Type 0
Settles session wait state m m′ = m′.0.settles ≡ m.0.settles ++ record { session = session; wait = wait; state = state } ∷ []
