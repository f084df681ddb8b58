-- Passes that come back from a run.
use Rattle.std.proofs.Common.{◌≡◌, ◌≢◌, ◌∙◌, ap, map, sym, subst, ℕ, List, [], ◌∷◌, ◌++◌, ◌<◌, All, Option, Some, None, arith, false, get_or, length, true, inl, inr}
use Rattle.std.specs.Prelude.{Contains, MatchOption}
use Rattle.std.specs.declared.thread.PromisedHandle.{PromisedHandle}
use Rattle.std.specs.List.{range_with_len}
use Rattle.std.specs.List.Sorted.{IsPermutation}
use Rattle.std.proofs.lemmas.List.{map-append}
use Rattle.std.proofs.lemmas.List.Elements.{All-append, All-contains, All-cons, All-head, All-map, All-nil, All-tail, Contains-append_cases, Contains-append_left, Contains-append_right, Contains-get_or, Contains-push_cases, filter_passes}
use Rattle.std.proofs.lemmas.List.Sorted.{All-permutation, Contains-permutation, IsPermutation-append_comm, IsPermutation-cons, IsPermutation-map, IsPermutation-sym, IsPermutation-trans}
use Rattle.atomic_table.specs.Seated.{TableId}
use Rattle.mdl_key.specs.Words.{most_sessions}
use Rattle.mdl_syntax.specs.declared.script.Line.{Line}
use Rattle.mdl_shared.specs.declared.pass.Pass.{Pass}
use Rattle.mdl_shared.specs.Passes.{pass_number, pass_table}
use Rattle.mdl_script.specs.Runs.{ComeBack}
use Rattle.mdl_script.specs.Answers.{Options}
use Rattle.mdl_script.specs.RunTexts.{named_sessions, names_session}
use Rattle.mdl_script.specs.Turns.{IsAboutLines, IsTurn, pass_sent, passes_sent, sent_to}
use Rattle.mdl_script.specs.declared.on_thread.Answered.{Answered}
use Rattle.mdl_script.specs.declared.turns.AnswersOf.{AnswersOf}
use Rattle.mdl_script.specs.declared.turns.SessionThread.{SessionThread}
use Rattle.mdl_script.proofs.TurnLemmas.{HasAll}

-- what holds of all images holds of what they are images of
all-before : {X Y : Type 0} (f : Y → X) (P : X → Type 0) (ys : List Y) → All P (map f ys) → All (λ y. P (f y)) ys
all-before f P [] all = All-nil (λ y. P (f y))
all-before f P (y ∷ ys) all = All-cons (λ y. P (f y)) y ys (All-head P (f y) (map f ys) all) (all-before f P ys (All-tail P (f y) (map f ys) all))

-- what stands at a place is contained
at-place : (passes : List Pass) (k : ℕ) (d : Pass) (within : k < length passes) → Contains passes (get_or passes k d)
at-place passes k d within = Contains-get_or passes k d within

-- nothing is contained in no passes
none-within : (pass : Pass) → Contains [] pass → ⊥
none-within pass among = let within = among.1 in omega (arith, within)

-- ---- the passes that threads got

-- the pass that a thread got is of its session
sent-one : (P : ℕ → Type 0) (options : Options) (lines : List Line) (mine who : ℕ) (thread : Option (PromisedHandle Answered AnswersOf)) → P who →
    MatchOption thread (who ≡ mine) (λ t. (who ≢ mine) × (pass_number t.promise.pass.value ≡ who) × IsAboutLines options lines t.promise) →
    All (λ (pass : Pass). P (pass_number pass)) (sent_to thread)
sent-one P options lines mine who None is kept = All-nil (λ (pass : Pass). P (pass_number pass))
sent-one P options lines mine who (Some t) is kept =
    All-cons (λ (pass : Pass). P (pass_number pass)) t.promise.pass.value [] (subst P (sym kept.1) is) (All-nil (λ (pass : Pass). P (pass_number pass)))

-- so what holds of all sessions that have a turn holds of the passes that threads got
sent-all : (P : ℕ → Type 0) (options : Options) (lines : List Line) (mine : ℕ) (turns : List SessionThread) → All (IsTurn options lines mine) turns →
    All (λ (turn : SessionThread). P turn.who) turns → All (λ (pass : Pass). P (pass_number pass)) (passes_sent turns)
sent-all P options lines mine [] are all = All-nil (λ (pass : Pass). P (pass_number pass))
sent-all P options lines mine (turn ∷ turns) are all =
    All-append (λ (pass : Pass). P (pass_number pass)) (pass_sent turn) (passes_sent turns)
    (sent-one P options lines mine turn.who turn.thread
    (All-head (λ (t : SessionThread). P t.who) turn turns all) (All-head (IsTurn options lines mine) turn turns are))
    (sent-all P options lines mine turns (All-tail (IsTurn options lines mine) turn turns are) (All-tail (λ (t : SessionThread). P t.who) turn turns all))

-- the script names them
pub sent-named : (options : Options) (lines : List Line) (mine : ℕ) (turns : List SessionThread) → All (IsTurn options lines mine) turns →
    map (λ (turn : SessionThread). turn.who) turns ≡ named_sessions lines → All (λ (pass : Pass). names_session lines (pass_number pass) ≡ true) (passes_sent turns)
unfolding named_sessions
sent-named options lines mine turns are sessions =
    sent-all (λ who. names_session lines who ≡ true) options lines mine turns are
    (all-before (λ (turn : SessionThread). turn.who) (λ who. names_session lines who ≡ true) turns
    (subst (All (λ who. names_session lines who ≡ true)) (sym sessions) (filter_passes (names_session lines) (range_with_len 1 most_sessions))))

-- ---- all of them

-- the passes that threads got, and those that stayed, are those of the others
pub sent-given : (given sent left : List Pass) → IsPermutation given (sent ++ left) → HasAll given sent
sent-given given sent left same pass among =
    Contains-permutation (sent ++ left) given pass (IsPermutation-sym given (sent ++ left) same) (Contains-append_left sent left pass among)

-- those that come back are at the table at which they were
pub back-there : (table : TableId) (given sent left closed : List Pass) → IsPermutation given (sent ++ left) →
    map pass_table closed ≡ map pass_table sent → All (λ (pass : Pass). pass_table pass ≡ table) given →
    All (λ (pass : Pass). pass_table pass ≡ table) (left ++ closed)
back-there table given sent left closed same tables theirs =
    let There = λ (pass : Pass). pass_table pass ≡ table in
    let now : All There (sent ++ left) = All-permutation There given (sent ++ left) same theirs in
    let of_sent : All There sent = λ k d within. All-contains There (sent ++ left) _ now (Contains-append_left sent left _ (at-place sent k d within)) in
    let of_left : All There left = λ k d within. All-contains There (sent ++ left) _ now (Contains-append_right sent left _ (at-place left k d within)) in
    let of_closed : All There closed = all-before pass_table (λ (t : TableId). t ≡ table) closed
    (subst (All (λ (t : TableId). t ≡ table)) (sym tables) (All-map (λ (t : TableId). t ≡ table) pass_table sent of_sent)) in
    All-append There left closed of_left of_closed

-- all come back
pub others-back : (lines : List Line) (mine : ℕ) (given sent left closed : List Pass) → IsPermutation given (sent ++ left) →
    map pass_number closed ≡ map pass_number sent → All (λ (pass : Pass). names_session lines (pass_number pass) ≡ true) sent →
    ComeBack lines mine given (left ++ closed)
others-back lines mine given sent left closed same numbers named =
    let n = λ (pass : Pass). pass_number pass in
    let before : map n (sent ++ left) ≡ map n closed ++ map n left = map-append n sent left ∙ ap (λ xs. xs ++ map n left) (sym numbers) in
    let after : map n (left ++ closed) ≡ map n left ++ map n closed = map-append n left closed in
    let turned : IsPermutation (map n (sent ++ left)) (map n (left ++ closed)) =
    subst (λ xs. IsPermutation xs (map n (left ++ closed))) (sym before)
    (subst (IsPermutation (map n closed ++ map n left)) (sym after) (IsPermutation-append_comm (map n closed) (map n left))) in record {
      each = IsPermutation-trans (map n given) (map n (sent ++ left)) (map n (left ++ closed)) (IsPermutation-map n given (sent ++ left) same) turned;
      unnamed = λ pass among unnamed differs. elim (Contains-append_cases sent left pass (Contains-permutation given (sent ++ left) pass same among)) [
        | inl went ↦ absurd (let is : true ≡ false = sym (All-contains (λ (p : Pass). names_session lines (pass_number p) ≡ true) sent pass named went) ∙ unnamed in cc)
        | inr stayed ↦ Contains-append_left left closed pass stayed
      ];
    }

-- the asker's pass comes back, too
pub asker-back : (lines : List Line) (mine : ℕ) (asker closed : Pass) (others back : List Pass) → pass_number asker ≡ mine → pass_number closed ≡ pass_number asker →
    ComeBack lines mine others back → ComeBack lines mine (asker ∷ others) (closed ∷ back)
asker-back lines mine asker closed others back is same rest =
    let n = λ (pass : Pass). pass_number pass in record {
      each = subst (λ k. IsPermutation (map n (asker ∷ others)) (k ∷ map n back)) (sym same) (IsPermutation-cons (n asker) (map n others) (map n back) rest.each);
      unnamed = λ pass among unnamed differs. elim (Contains-append_cases (asker ∷ []) others pass among) [
        | inl one ↦ elim (Contains-push_cases [] asker pass one) [
          | inl nowhere ↦ absurd (none-within pass nowhere)
          | inr it ↦ absurd (differs (ap n (sym it) ∙ is))
        ]
        | inr other ↦ Contains-append_right (closed ∷ []) back pass (rest.unnamed pass other unnamed differs)
      ];
    }

-- the same of the passes in the order in which they were given
pub given-back : (lines : List Line) (mine : ℕ) (given passes back : List Pass) → IsPermutation given passes → ComeBack lines mine passes back → ComeBack lines mine given back
given-back lines mine given passes back same all =
    let n = λ (pass : Pass). pass_number pass in record {
      each = IsPermutation-trans (map n given) (map n passes) (map n back) (IsPermutation-map n given passes same) all.each;
      unnamed = λ pass among unnamed differs. all.unnamed pass (Contains-permutation given passes pass same among) unnamed differs;
    }
