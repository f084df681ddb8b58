-- A session that knows that its wait is settled reads the wait's word at most where it looks for a deadlock. It knows that after a timeout.
use Rattle.std.proofs.Common.{◌≡◌, ℕ, ◌≤◌, true, List, [], ◌∷◌, ◌++◌, length, is_some, Option, Result, Some, None, Ok, Err, inl, inr, refl, sym, ap, ◌∙◌, append-nil, arith}
use Rattle.std.proofs.lemmas.Bool.{false≢true}
use Rattle.mdl_calls.specs.declared.answers.Search.{Search as Found}
use Rattle.mdl_calls.specs.declared.answers.Search.TheVariants.{NoCycle, Victim}
use Rattle.mdl_calls.specs.declared.answers.Settled.{Settled}
use Rattle.mdl_calls.specs.declared.answers.Settled.TheVariants.{Timeout}
use Rattle.mdl_calls.specs.declared.answers.TimedOut.{TimedOut}
use Rattle.mdl_calls.specs.declared.answers.TimedOut.TheVariants.{Already, ByThisCall}
use Rattle.mdl_calls.specs.declared.space_error.SpaceError.{SpaceError}
use Rattle.mdl_calls.specs.Words.{Settle_timeout, searched, timed_out}
use Rattle.mdl_steps.specs.declared.step_kind.StepKind.TheVariants.{ReadWait}
use Rattle.mdl_steps.specs.declared.view.Ask.{Ask}
use Rattle.mdl_steps.specs.declared.view.StepRecord.{StepRecord}
use Rattle.mdl_steps.specs.Layout.{wait_word}
use Rattle.mdl_steps.specs.Lists.{Each}
use Rattle.mdl_steps.specs.Plays.{Mine}
use Rattle.mdl_steps.specs.WaitStates.{wait_in}
use Rattle.mdl_visits.specs.Polls.{settled_state}
use Rattle.mdl_shared.specs.SessionJoins.{Joins}
use Rattle.mdl_shared.specs.SessionViews.{SessionView, data_of, settled_told}
use Rattle.mdl_shared.specs.StepSpec.{TakesSteps}
use Rattle.mdl_shared.specs.calls.Search.{search_deadlock}

-- what is known was told
knows-told : (told : Option ℕ) (how : Settled) → settled_told told ≡ Some how → is_some told ≡ true
knows-told None how knows = cc
knows-told (Some state) how knows = refl

-- after a timeout it is
pub timeout-told : (a b : SessionView) (how : TimedOut) → Joins (data_of a) (Settle_timeout a.me.0.number) (timed_out (Ok how)) (data_of b) → is_some b.me.0.told ≡ true
timeout-told a b ByThisCall joined = knows-told b.me.0.told Timeout (joined.told Timeout refl)
timeout-told a b (Already how) joined = knows-told b.me.0.told how (joined.told how refl)

-- at most one step was made, which read the word of a wait
abbrev pub OnlyReads : SessionView → SessionView → Type 0
OnlyReads a b = (made : List StepRecord) × (b.me.0.log ≡ a.me.0.log ++ made) × (length made ≤ 1) × Each (λ (e : StepRecord). e.kind ≡ ReadWait) made

untold : {P : Type 0} (told : Option ℕ) → is_some told ≡ true → told ≡ None → P
untold told knows none = absurd (false≢true (sym (ap is_some none) ∙ knows))

pub settled-search : (a b : SessionView) (result : Result Found SpaceError) → is_some a.me.0.told ≡ true → TakesSteps search_deadlock (searched result) a b
    → (result ≡ Ok NoCycle) × OnlyReads a b
settled-search a b (Ok NoCycle) knows shown = (refl, by a.me.0.asks refl)
  where
    by : (asks : Option Ask) → a.me.0.asks ≡ asks → OnlyReads a b
    by None asks =
        let none : length {A = StepRecord} [] ≤ 1 = omega arith in
        ([], ap (λ (m : Mine). m.0.log) (shown.met.0 asks) ∙ sym (append-nil a.me.0.log), none, tt)
    by (Some ask) asks = elim (shown.met.1 (ap is_some asks)) [
      | inl e ↦ (
          let look : StepRecord = record { kind = ReadWait; deeds = []; word = wait_word a.table.slots a.me.0.number; found = wait_in a.me.0.waits (settled_state e.0); held = a.me.0.latches; directory = a.me.0.directory } in
          let one : length (look ∷ []) ≤ 1 = omega arith in
          (look ∷ [], ap (λ (m : Mine). m.0.log) e.1, one, (refl, tt))
          )
      | inr e ↦ untold a.me.0.told knows e.0.0
    ]
settled-search a b (Ok (Victim victim)) knows shown = untold a.me.0.told knows shown.met.1.0
settled-search a b (Err why) knows shown = untold a.me.0.told knows shown.met.1.0
