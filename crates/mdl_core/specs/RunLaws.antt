-- Laws of programs of calls over the lock space of one thread: when a run is the outcome, and the outcome a run.
use Rattle.std.specs.Prelude.{◌≡◌, ℕ, Bool, true, false}
use Rattle.std.specs.Option.{IfSome}
use Rattle.mdl_calls.specs.Words.{Call, caller, EachCall, IsFaithful, IsFrugal, Program, Runs, outcome_of}
use Rattle.mdl_core.specs.CoreCalls.{outcome}
use Rattle.mdl_core.specs.CoreJoins.{Joins, SpeaksFor}
use Rattle.mdl_core.specs.Cores.{Core}

-- if a program is faithful, that is, it replies a fault once memory ran out, then a run whose reply is no fault is the program's outcome
abbrev pub SureRuns : Type 0 → Type 0
SureRuns A =
    (is_fault : A → Bool) (program : Program A) (a b : Core) (reply : A) →
    IsFaithful (λ x. is_fault x ≡ true) program → is_fault reply ≡ false → Runs Joins a program reply b →
    outcome_of outcome program a ≡ (reply, b)

-- each run of a program that takes no memory is its outcome
abbrev pub FrugalRuns : Type 0 → Type 0
FrugalRuns A =
    (program : Program A) (a b : Core) (reply : A) → IsFrugal program → Runs Joins a program reply b →
    outcome_of outcome program a ≡ (reply, b)

-- the call's caller is the session, or it has no caller
abbrev pub IsMadeFor : ℕ → Call → Type 0
IsMadeFor who call = IfSome (caller call) (λ maker. maker ≡ who)

-- the outcome of a program is a run of it, if the space speaks for a session, and the caller of each call of the program is that
-- session, or it has no caller. Afterwards the space still speaks for each session that it spoke for.
abbrev pub OutcomesAreRuns : Type 0 → Type 0
OutcomesAreRuns A =
    (program : Program A) (a : Core) (who : ℕ) → SpeaksFor a who → EachCall (IsMadeFor who) program →
    let end = outcome_of outcome program a in
    Runs Joins a program end.0 end.1 × ((session : ℕ) → SpeaksFor a session → SpeaksFor end.1 session)
