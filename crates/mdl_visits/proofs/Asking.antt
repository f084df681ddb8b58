-- A session asks whether tables have a definition, one after the other.
use Rattle.std.proofs.Common.{◌≡◌, ℕ, Bool, true, false, cond, List, [], ◌∷◌, ◌++◌, map, refl, sym, ap, ◌∙◌, append_assoc, append-nil, filter}
use Rattle.mdl_visits.proofs.Common.{All-push, All-weaker, Asked, HasAsked, IsStepOf, KnownKey, MakesMoreSteps, MakesSteps, Mine, StepRecord, WasAsked, defined_places, filter-append, map-append}

-- ---- steps of a call's parts are steps of the call

pub goes_on : (m m′ : Mine) → MakesSteps m m′ → MakesMoreSteps m m′
goes_on m m′ steps = (steps.0, ap (λ (x : Mine). x.0.log) steps.1)

pub goes_nowhere : (m : Mine) → MakesMoreSteps m m
goes_nowhere m = ([], sym (append-nil m.0.log))

pub step_within : (a b c d : Mine) (e : StepRecord) → MakesMoreSteps a b → IsStepOf b c e → MakesMoreSteps c d → IsStepOf a d e
step_within a b c d e before step after = (
  before.0 ++ step.0,
  step.1 ++ after.0,
  after.1
      ∙ ap (λ (log : List StepRecord). log ++ after.0) (step.2 ∙ ap (λ (log : List StepRecord). (log ++ step.0) ++ e ∷ step.1) before.1)
      ∙ append_assoc ((a.0.log ++ before.0) ++ step.0) (e ∷ step.1) after.0
      ∙ ap (λ (log : List StepRecord). log ++ e ∷ (step.1 ++ after.0)) (append_assoc a.0.log before.0 step.0),
)

asked_within : (who : ℕ) (a b c d : Mine) (x : Asked) → MakesMoreSteps a b → WasAsked who b c x → MakesMoreSteps c d → WasAsked who a d x
asked_within who a b c d x before was after = (was.0, step_within a b c d was.0 before was.1 after, was.2)

-- ---- one more table was asked

told_one : (t : KnownKey) (defined : Bool) → defined_places (record { table = t; defined = defined } ∷ []) ≡ cond defined (t.place ∷ []) []
told_one t true = refl
told_one t false = refl

told_more : (asked : List Asked) (t : KnownKey) (defined : Bool) → defined_places (asked ++ record { table = t; defined = defined } ∷ []) ≡ defined_places asked ++ cond defined (t.place ∷ []) []
told_more asked t defined =
    let one : Asked = record { table = t; defined = defined } in
    ap (map (λ (a : Asked). a.table.place)) (filter-append (λ (a : Asked). a.defined) asked (one ∷ []))
    ∙ map-append (λ (a : Asked). a.table.place) (filter (λ (a : Asked). a.defined) asked) (filter (λ (a : Asked). a.defined) (one ∷ []))
    ∙ ap (λ (rest : List ℕ). defined_places asked ++ rest) (told_one t defined)

pub asked_more : (who : ℕ) (tables : List KnownKey) (t : KnownKey) (places more : List ℕ) (defined : Bool) (old mid new : Mine) → HasAsked who tables places old mid → MakesSteps old mid → MakesSteps mid new
    → WasAsked who mid new (record { table = t; defined = defined }) → more ≡ places ++ cond defined (t.place ∷ []) []
    → HasAsked who (tables ++ t ∷ []) more old new
asked_more who tables t places more defined old mid new has before after was e =
    let one : Asked = record { table = t; defined = defined } in
    record {
      asked = has.asked ++ one ∷ [];
      each = All-push (WasAsked who old new) has.asked one
          (All-weaker (WasAsked who old mid) (WasAsked who old new) (λ x earlier. asked_within who old old mid new x (goes_nowhere old) earlier (goes_on mid new after)) has.asked has.each)
          (asked_within who old mid new new one (goes_on old mid before) was (goes_nowhere new));
      same = map-append (λ (a : Asked). a.table) has.asked (one ∷ []) ∙ ap (λ (ts : List KnownKey). ts ++ t ∷ []) has.same;
      those = e ∙ ap (λ (ps : List ℕ). ps ++ cond defined (t.place ∷ []) []) has.those ∙ sym (told_more has.asked t defined);
    }

-- of a call that did something before
pub asked_after : (who : ℕ) (tables : List KnownKey) (places : List ℕ) (old mid new : Mine) → MakesMoreSteps old mid → HasAsked who tables places mid new → HasAsked who tables places old new
asked_after who tables places old mid new before has = record {
  asked = has.asked;
  each = All-weaker (WasAsked who mid new) (WasAsked who old new) (λ x was. asked_within who old mid new new x before was (goes_nowhere new)) has.asked has.each;
  same = has.same;
  those = has.those;
}
