-- Turns that are started one after the other.
use Rattle.std.proofs.Common.{◌≡◌, ◌∙◌, ◌≢◌, ◌≤◌, ◌<◌, ◌+◌, ◌-◌, ap, map, sym, subst, refl, ℕ, zero, suc, List, ◌++◌, [], ◌∷◌, Bool, true, false, All, filter, cond, arith, inl, inr}
use Rattle.std.specs.List.{range_with_len}
use Rattle.std.proofs.lemmas.Bool.Decides.{eqb_tells}
use Rattle.std.proofs.lemmas.List.{append-nil, append_assoc, flat_map_more, map-append}
use Rattle.std.proofs.lemmas.List.Elements.{All-append, All-cons, All-head, All-nil, All-tail, filter-append}
use Rattle.std.specs.List.Sorted.{IsPermutation}
use Rattle.std.proofs.lemmas.List.Sorted.{IsPermutation-append_right, IsPermutation-refl, IsPermutation-trans}
use Rattle.mdl_syntax.specs.declared.script.Line.{Line}
use Rattle.atomic_table.specs.Seated.{TableId}
use Rattle.mdl_key.specs.Words.{most_sessions}
use Rattle.mdl_shared.specs.declared.pass.Pass.{Pass}
use Rattle.mdl_shared.specs.Passes.{pass_table}
use Rattle.mdl_script.specs.declared.turns.SessionThread.{SessionThread}
use Rattle.mdl_script.specs.Answers.{Options}
use Rattle.mdl_script.specs.RunTexts.{named_sessions, names_session}
use Rattle.mdl_script.specs.Turns.{IsTurn, has_pass, pass_sent, passes_sent}

-- ---- numbers in order

range-more : (a n m : ℕ) → a + n ≡ m → range_with_len a n ++ m ∷ [] ≡ range_with_len a (suc n)
range-more a zero m same = let here : m ≡ a = omega (arith, same) in ap (λ k. k ∷ []) here
range-more a (suc n) m same = ap (λ xs. a ∷ xs) (range-more (a + 1) n m (omega (arith, same)))

one-kept : (p : ℕ → Bool) (m : ℕ) → p m ≡ true → filter p (m ∷ []) ≡ m ∷ []
one-kept p m is = ap (λ b. cond b (m ∷ []) []) is

one-left : (p : ℕ → Bool) (m : ℕ) → p m ≡ false → filter p (m ∷ []) ≡ []
one-left p m is = ap (λ b. cond b (m ∷ []) []) is

ranges-so : (who : ℕ) → 1 ≤ who → range_with_len 1 (who - 1) ++ who ∷ [] ≡ range_with_len 1 (who + 1 - 1)
ranges-so who least =
    let count : suc (who - 1) ≡ who + 1 - 1 = omega (arith, least) in
    range-more 1 (who - 1) who (omega (arith, least)) ∙ ap (range_with_len 1) count

-- what holds of all numbers of a row that pass a test holds of each
all-passing : (P : ℕ → Type 0) (p : ℕ → Bool) (a n x : ℕ) → All P (filter p (range_with_len a n)) → p x ≡ true → a ≤ x → x < a + n → P x
all-passing P p a zero x all is least most = absurd (omega arith)
all-passing P p a (suc n) x all is least most = by (λ later past. all-passing P p (a + 1) n x later is past (omega (arith, most))) (p a) refl all
  where
    by : (All P (filter p (range_with_len (a + 1) n)) → a + 1 ≤ x → P x) → (b : Bool) → p a ≡ b
        → All P (cond b (a ∷ filter p (range_with_len (a + 1) n)) (filter p (range_with_len (a + 1) n))) → P x
    by more true e kept = elim (eqb_tells a x) [
      | inl same ↦ subst P same.1 (All-head P a (filter p (range_with_len (a + 1) n)) kept)
      | inr other ↦ (let differs = other.1 in more (All-tail P a (filter p (range_with_len (a + 1) n)) kept) (omega (arith, least, differs)))
    ]
    by more false e kept = elim (eqb_tells a x) [
      | inl same ↦ absurd (let f : true ≡ false = sym is ∙ (ap p (sym same.1) ∙ e) in cc)
      | inr other ↦ (let differs = other.1 in more kept (omega (arith, least, differs)))
    ]

-- what holds of all sessions that are named holds of each
pub each_named : (P : ℕ → Type 0) (lines : List Line) (who : ℕ) → All P (named_sessions lines) → names_session lines who ≡ true → 1 ≤ who → who < most_sessions + 1 → P who
unfolding named_sessions
each_named P lines who all is least most = all-passing P (names_session lines) 1 most_sessions who all is least (omega (arith, most))

-- ---- turns

-- the turns of the sessions below one are started, and the passes of all others are left
pub record AreStarted (options : Options) (lines : List Line) (mine : ℕ) (table : TableId) (all : List Pass) (who : ℕ) (turns : List SessionThread) (passes : List Pass) : Type 0 where
  pub sessions : map (λ (turn : SessionThread). turn.who) turns ≡ filter (names_session lines) (range_with_len 1 (who - 1))
  pub are_turns : All (IsTurn options lines mine) turns
  pub sent : IsPermutation all (passes_sent turns ++ passes)
  pub theirs : All (λ (pass : Pass). pass_table pass ≡ table) passes
  pub left : (other : ℕ) → who ≤ other → has_pass passes other ≡ has_pass all other

-- none is, at first
pub started_none : (options : Options) (lines : List Line) (mine : ℕ) (table : TableId) (all : List Pass) → All (λ (pass : Pass). pass_table pass ≡ table) all →
    AreStarted options lines mine table all 1 [] all
started_none options lines mine table all are = record { sessions = refl; are_turns = All-nil _; sent = IsPermutation-refl all; theirs = are; left = λ other above. refl }

-- the passes that turns got, with that of one turn more
more_sent : (all : List Pass) (turns : List SessionThread) (passes left : List Pass) (turn : SessionThread) → IsPermutation all (passes_sent turns ++ passes) →
    IsPermutation passes (pass_sent turn ++ left) → IsPermutation all (passes_sent (turns ++ turn ∷ []) ++ left)
more_sent all turns passes left turn were is =
    let now = IsPermutation-trans all (passes_sent turns ++ passes) (passes_sent turns ++ (pass_sent turn ++ left)) were
    (IsPermutation-append_right (passes_sent turns) passes (pass_sent turn ++ left) is) in
    let same : passes_sent turns ++ (pass_sent turn ++ left) ≡ passes_sent (turns ++ turn ∷ []) ++ left =
    sym (append_assoc (passes_sent turns) (pass_sent turn) left) ∙ ap (λ xs. xs ++ left) (flat_map_more pass_sent [] turns turn) in
    subst (IsPermutation all) same now

-- one more is
pub started_more : (options : Options) (lines : List Line) (mine : ℕ) (table : TableId) (all : List Pass) (who : ℕ) (turns : List SessionThread) (passes left : List Pass) (turn : SessionThread) →
    AreStarted options lines mine table all who turns passes → 1 ≤ who → names_session lines who ≡ true →
    turn.who ≡ who → IsTurn options lines mine turn → IsPermutation passes (pass_sent turn ++ left) → All (λ (pass : Pass). pass_table pass ≡ table) left →
    ((other : ℕ) → other ≢ who → has_pass left other ≡ has_pass passes other) →
    AreStarted options lines mine table all (who + 1) (turns ++ turn ∷ []) left
started_more options lines mine table all who turns passes left turn was least named here is sent are others = record {
  sessions =
      map-append (λ (t : SessionThread). t.who) turns (turn ∷ []) ∙ (ap (λ n. map (λ (t : SessionThread). t.who) turns ++ n ∷ []) here
      ∙ (ap (λ xs. xs ++ who ∷ []) was.sessions
      ∙ (ap (λ xs. filter (names_session lines) (range_with_len 1 (who - 1)) ++ xs) (sym (one-kept (names_session lines) who named))
      ∙ (sym (filter-append (names_session lines) (range_with_len 1 (who - 1)) (who ∷ [])) ∙ ap (filter (names_session lines)) (ranges-so who least)))));
  are_turns = All-append (IsTurn options lines mine) turns (turn ∷ []) was.are_turns (All-cons (IsTurn options lines mine) turn [] is (All-nil _));
  sent = more_sent all turns passes left turn was.sent sent;
  theirs = are;
  left = λ other above. others other (λ same. absurd (omega (arith, same, above))) ∙ was.left other (omega (arith, above));
}

-- one that isn't named has no turn
pub started_past : (options : Options) (lines : List Line) (mine : ℕ) (table : TableId) (all : List Pass) (who : ℕ) (turns : List SessionThread) (passes : List Pass) →
    AreStarted options lines mine table all who turns passes → 1 ≤ who → names_session lines who ≡ false →
    AreStarted options lines mine table all (who + 1) turns passes
started_past options lines mine table all who turns passes was least unnamed = record {
  sessions =
      was.sessions ∙ (sym (append-nil _)
      ∙ (ap (λ xs. filter (names_session lines) (range_with_len 1 (who - 1)) ++ xs) (sym (one-left (names_session lines) who unnamed))
      ∙ (sym (filter-append (names_session lines) (range_with_len 1 (who - 1)) (who ∷ [])) ∙ ap (filter (names_session lines)) (ranges-so who least))));
  are_turns = was.are_turns;
  sent = was.sent;
  theirs = was.theirs;
  left = λ other above. was.left other (omega (arith, above));
}

-- all are, in the end
pub started_all : (options : Options) (lines : List Line) (mine : ℕ) (table : TableId) (all : List Pass) (who : ℕ) (turns : List SessionThread) (passes : List Pass) →
    AreStarted options lines mine table all who turns passes → most_sessions + 1 ≤ who → who ≤ most_sessions + 1 → map (λ (turn : SessionThread). turn.who) turns ≡ named_sessions lines
unfolding named_sessions
started_all options lines mine table all who turns passes was least most =
    let count : who - 1 ≡ most_sessions = omega (arith, least, most) in was.sessions ∙ ap (λ n. filter (names_session lines) (range_with_len 1 n)) count

-- the same of what is the same
pub started_as : (options : Options) (lines : List Line) (mine : ℕ) (table : TableId) (all : List Pass) (who : ℕ) (turns later : List SessionThread) (passes left : List Pass) →
    AreStarted options lines mine table all who turns passes → later ≡ turns → left ≡ passes → AreStarted options lines mine table all who later left
started_as options lines mine table all who turns later passes left was same alike =
    subst (λ xs. AreStarted options lines mine table all who xs left) (sym same)
    (subst (λ xs. AreStarted options lines mine table all who turns xs) (sym alike) was)
