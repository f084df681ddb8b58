-- The passes of a space: which is the first, and that a new space has one for each session.
use Rattle.std.proofs.Common.{◌≡◌, ◌≢◌, slice_index_or, ◌≤◌, ◌<◌, ◌+◌, ◌-◌, ◌∙◌, ap, sym, ℕ, zero, suc, List, [], ◌∷◌, Bool, true, false, All, filter, cond, length, get_or, refl, arith}
use Rattle.std.specs.Prelude.{◌==◌, Some, slice_get}
use Rattle.std.specs.List.{range_with_len}
use Rattle.std.specs.List.Sorted.{IsPermutation}
use Rattle.std.proofs.lemmas.Bool.Decides.{Decides-eqb}
use Rattle.std.proofs.lemmas.List.Elements.{All-cons, All-from_get_or, All-nil}
use Rattle.std.proofs.lemmas.List.Folds.{list_any_at}
use Rattle.atomic_table.specs.Seated.{TableId}
use Rattle.mdl_key.specs.Words.{most_sessions}
use Rattle.mdl_syntax.specs.declared.script.Line.{Line}
use Rattle.mdl_shared.specs.declared.pass.Pass.{Pass}
use Rattle.mdl_shared.specs.Passes.{ArePasses, pass_number, pass_table}
use Rattle.mdl_script.specs.RunTexts.{named_sessions, names_session}
use Rattle.mdl_script.specs.Turns.{has_pass}
use Rattle.mdl_script.proofs.TurnLemmas.{passes_left, theirs_left}

-- what holds of all numbers of a row holds of those that pass a test
all-of-range : (P : ℕ → Type 0) (p : ℕ → Bool) (a n : ℕ) → ((x : ℕ) → a ≤ x → x < a + n → P x) → All P (filter p (range_with_len a n))
all-of-range P p a zero each = All-nil P
all-of-range P p a (suc n) each = by (p a) (all-of-range P p (a + 1) n (λ x least most. each x (omega (arith, least)) (omega (arith, most))))
  where
    by : (b : Bool) → All P (filter p (range_with_len (a + 1) n)) → All P (cond b (a ∷ filter p (range_with_len (a + 1) n)) (filter p (range_with_len (a + 1) n)))
    by true rest = All-cons P a (filter p (range_with_len (a + 1) n)) (each a (omega arith) (omega arith)) rest
    by false rest = rest

-- all are passes of the space
pub all-theirs : (table : TableId) (passes : List Pass) → ArePasses table passes → All (λ (pass : Pass). pass_table pass ≡ table) passes
all-theirs table [] are = All-nil (λ (pass : Pass). pass_table pass ≡ table)
all-theirs table (p ∷ ps) are = All-from_get_or (λ (pass : Pass). pass_table pass ≡ table) (p ∷ ps) p (λ i within. (are i p within).theirs)

-- each number has one
pass-there : (table : TableId) (passes : List Pass) (d : Pass) (who : ℕ) → ArePasses table passes → 1 ≤ who → who - 1 < length passes → has_pass passes who ≡ true
pass-there table passes d who are least within =
    let number : pass_number (get_or passes (who - 1) d) ≡ who - 1 + 1 = (are (who - 1) d within).numbered in
    let same : who - 1 + 1 ≡ who = omega (arith, least) in
    list_any_at (λ (pass : Pass). pass_number pass == who) passes (who - 1) d within ((Decides-eqb (pass_number (get_or passes (who - 1) d)) who).1 (number ∙ same))

-- so each session that a script names has one
pub all-there : (table : TableId) (passes : List Pass) (lines : List Line) → ArePasses table passes → length passes ≡ most_sessions
    → All (λ who. has_pass passes who ≡ true) (named_sessions lines)
unfolding named_sessions
all-there table [] lines are many = absurd (cc)
all-there table (p ∷ ps) lines are many =
    all-of-range (λ who. has_pass (p ∷ ps) who ≡ true) (names_session lines) 1 most_sessions (λ x least most. pass-there table (p ∷ ps) p x are least (omega (arith, most, many)))

-- what is found at the first place is the first
pub first-is : (passes : List Pass) (first : Pass) → 1 ≤ length passes → first ≡ get_or passes 0 first → slice_get passes 0 ≡ Some first
first-is [] first some is = absurd (omega arith)
first-is (p ∷ ps) first some is = ap Some (sym is)

-- once the first is taken, it is one of the space's, and so are the others; each session but its own has its pass still
pub first-taken : (table : TableId) (lines : List Line) (passes others : List Pass) (first : Pass) → IsPermutation passes (first ∷ others)
    → All (λ (pass : Pass). pass_table pass ≡ table) passes → All (λ who. has_pass passes who ≡ true) (named_sessions lines)
    → (pass_table first ≡ table) × All (λ (pass : Pass). pass_table pass ≡ table) others
    × All (λ who. who ≢ pass_number first → has_pass others who ≡ true) (named_sessions lines)
first-taken table lines passes others first same theirs there =
    let left = theirs_left table passes others first theirs same in
    (left.0, left.1, λ k d within differs. passes_left passes others first (pass_number first) (slice_index_or (named_sessions lines) k d) refl differs same ∙ there k d within)
