-- Steps between two of a session's views are steps between any two that are farther apart.
use Rattle.std.proofs.Common.{◌≡◌, ℕ, List, [], ◌∷◌, ◌++◌, refl, sym, ap, ◌∙◌, subst, append_assoc, append-nil, Option}
use Rattle.mdl_visits.proofs.Common.{AllQuiet, Deed, Does, Each, IsQuiet, IsStepOf, Keys, LatchRecord, LeavesBy, MakesMoreSteps, Mine, StaysOn, StaysQuiet, StaysThere, StepRecord, TakeLatch, and_made, deeds_of, latch_word, latched}

-- ---- what each element of a list is

module _ {X : Type 0} where
  pub each_append : (P : X → Type 0) (xs ys : List X) → Each P xs → Each P ys → Each P (xs ++ ys)
  each_append P [] ys all more = more
  each_append P (x ∷ xs) ys all more = (all.0, each_append P xs ys all.1 more)

  pub each_map : (P Q : X → Type 0) → ((x : X) → P x → Q x) → (xs : List X) → Each P xs → Each Q xs
  each_map P Q so [] all = tt
  each_map P Q so (x ∷ xs) all = (so x all.0, each_map P Q so xs all.1)

-- ---- steps

-- the list grew by a step and those beside it
pub goes_by : (a b : Mine) (e : StepRecord) → IsStepOf a b e → MakesMoreSteps a b
goes_by a b e step = (step.0 ++ e ∷ step.1, step.2 ∙ append_assoc a.0.log step.0 (e ∷ step.1))

-- or by none
pub goes_none : (m : Mine) → MakesMoreSteps m m
goes_none m = ([], sym (append-nil m.0.log))

module _ (a b c : Mine) where
  -- more steps follow
  pub step_before : MakesMoreSteps b c → (e : StepRecord) → IsStepOf a b e → IsStepOf a c e
  step_before more e step = (
    step.0,
    step.1 ++ more.0,
    more.1 ∙ ap (λ (log : List StepRecord). log ++ more.0) step.2 ∙ append_assoc (a.0.log ++ step.0) (e ∷ step.1) more.0,
  )

  -- or went before
  pub step_after : MakesMoreSteps a b → (e : StepRecord) → IsStepOf b c e → IsStepOf a c e
  step_after more e step = (
    more.0 ++ step.0,
    step.1,
    step.2 ∙ ap (λ (log : List StepRecord). (log ++ step.0) ++ e ∷ step.1) more.1 ∙ ap (λ (log : List StepRecord). log ++ e ∷ step.1) (append_assoc a.0.log more.0 step.0),
  )

  -- the last one stays the last
  pub leaves_after : StaysOn a b → (e : StepRecord) → LeavesBy b c e → LeavesBy a c e
  leaves_after more e step = (
    more.0 ++ step.0,
    step.1 ∙ ap (λ (log : List StepRecord). (log ++ step.0) ++ e ∷ []) more.1 ∙ ap (λ (log : List StepRecord). log ++ e ∷ []) (append_assoc a.0.log more.0 step.0),
    each_append StaysThere more.0 step.0 more.2 step.2,
  )

  pub goes_on : MakesMoreSteps a b → MakesMoreSteps b c → MakesMoreSteps a c
  goes_on first more = (first.0 ++ more.0, more.1 ∙ ap (λ (log : List StepRecord). log ++ more.0) first.1 ∙ append_assoc a.0.log first.0 more.0)

-- who stays on goes on
pub goes_staying : (a b : Mine) → StaysOn a b → MakesMoreSteps a b
goes_staying a b more = (more.0, more.1)

-- ---- deeds

-- the deeds of steps, and then those of further ones
deeds_append : (xs ys : List StepRecord) → deeds_of (xs ++ ys) ≡ deeds_of xs ++ deeds_of ys
deeds_append [] ys = refl
deeds_append (e ∷ xs) ys = ap (λ (ds : List Deed). e.deeds ++ ds) (deeds_append xs ys) ∙ sym (append_assoc e.deeds (deeds_of xs) (deeds_of ys))

pub deeds_then : (xs ys : List StepRecord) (ds more : List Deed) → deeds_of xs ≡ ds → deeds_of ys ≡ more → deeds_of (xs ++ ys) ≡ ds ++ more
deeds_then xs ys ds more first later =
    deeds_append xs ys ∙ ap (λ (all : List Deed). all ++ deeds_of ys) first ∙ ap (λ (all : List Deed). ds ++ all) later

-- where none were done at the first steps
pub none_then : (xs ys : List StepRecord) (ds : List Deed) → deeds_of xs ≡ [] → deeds_of ys ≡ ds → deeds_of (xs ++ ys) ≡ ds
none_then xs ys ds = deeds_then xs ys [] ds

-- of one session's calls, one after the other
pub does_then : (ds more : List Deed) (a b c : Mine) → Does ds a b → Does more b c → Does (ds ++ more) a c
does_then ds more a b c first later = (
  first.0 ++ later.0,
  later.1 ∙ ap (λ (log : List StepRecord). log ++ later.0) first.1 ∙ append_assoc a.0.log first.0 later.0,
  deeds_then first.0 later.0 ds more first.2 later.2,
)

-- ---- what the session has of the directory meanwhile

pub quiet_on : (a b c : Mine) → StaysQuiet a b → b.0.directory ≡ a.0.directory → StaysQuiet b c → StaysQuiet a c
quiet_on a b c first same more = (
  first.0 ++ more.0,
  more.1 ∙ ap (λ (log : List StepRecord). log ++ more.0) first.1 ∙ append_assoc a.0.log first.0 more.0,
  each_append (IsQuiet a.0.directory) first.0 more.0 first.2 (subst (λ (d : Option Keys). AllQuiet d more.0) same more.2),
)

-- one step was made
pub quiet_one : (e : StepRecord) (m m′ : Mine) → m′.0.log ≡ m.0.log ++ e ∷ [] → IsQuiet m.0.directory e → StaysQuiet m m′
quiet_one e m m′ log quiet = (e ∷ [], log, (quiet, tt))

-- the latch of a place is taken
pub quiet_taken : (place : ℕ) (h : LatchRecord) (made : List StepRecord) (a b : Mine) → AllQuiet a.0.directory made → b ≡ latched place h (and_made made a) → StaysQuiet a b
quiet_taken place h made a b had taken =
    let took : StepRecord = record { kind = TakeLatch; deeds = []; word = latch_word place; found = 0; held = h ∷ a.0.latches; directory = a.0.directory } in (
      made ++ took ∷ [],
      ap (λ (x : Mine). x.0.log) taken ∙ append_assoc a.0.log made (took ∷ []),
      each_append (IsQuiet a.0.directory) made (took ∷ []) had ((refl, refl), tt),
    )
