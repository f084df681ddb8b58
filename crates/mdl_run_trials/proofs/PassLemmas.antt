-- The sessions that a script names, and their passes.
use Rattle.std.proofs.Common.{◌≡◌, sym, subst, ℕ, List, [], ◌∷◌, Bool, true, false, true≢false, ◌&&◌, ◌||◌, ◌≤◌, All, Some, arith, length, refl}
use Rattle.std.specs.Prelude.{◌==◌, slice_get}
use Rattle.std.specs.List.{list_all, range_with_len}
use Rattle.std.proofs.lemmas.Bool.Decides.{Decides-eqb}
use Rattle.std.proofs.lemmas.List.Elements.{All-weaker, filter_passes}
use Rattle.mdl_key.specs.Words.{most_sessions}
use Rattle.mdl_syntax.specs.declared.script.Line.{Line}
use Rattle.mdl_shared.specs.declared.pass.Pass.{Pass}
use Rattle.mdl_script.specs.RunTexts.{named_sessions, names_session}
use Rattle.mdl_script.specs.Turns.{has_pass}

-- where the session of each line has a pass, a session that some line names has one
one-there : (passes : List Pass) (lines : List Line) (who : ℕ) → list_all (λ (line : Line). has_pass passes line.session) lines ≡ true
    → names_session lines who ≡ true → has_pass passes who ≡ true
one-there passes [] who all named = absurd (true≢false (sym named))
one-there passes (line ∷ lines) who all named =
    by (line.session == who) refl (has_pass passes line.session) refl all named (one-there passes lines who)
  where
    by : (same : Bool) → (line.session == who) ≡ same → (there : Bool) → has_pass passes line.session ≡ there
        → (there && list_all (λ (line : Line). has_pass passes line.session) lines) ≡ true → (same || names_session lines who) ≡ true
        → (list_all (λ (line : Line). has_pass passes line.session) lines ≡ true → names_session lines who ≡ true → has_pass passes who ≡ true)
        → has_pass passes who ≡ true
    by true same true there all named rest = subst (λ x. has_pass passes x ≡ true) ((Decides-eqb line.session who).0 same) there
    by false same true there all named rest = rest all named
    by true same false there all named rest = absurd (true≢false (sym all))
    by false same false there all named rest = absurd (true≢false (sym all))

-- so all sessions that a script names have one
pub named_there : (passes : List Pass) (lines : List Line) → list_all (λ (line : Line). has_pass passes line.session) lines ≡ true
    → All (λ who. has_pass passes who ≡ true) (named_sessions lines)
unfolding named_sessions
named_there passes lines all =
    All-weaker (λ who. names_session lines who ≡ true) (λ who. has_pass passes who ≡ true) (λ who. one-there passes lines who all) _ (filter_passes (names_session lines) (range_with_len 1 most_sessions))

-- where there is a first pass, there is one
pub first_there : (passes : List Pass) (first : Pass) → slice_get passes 0 ≡ Some first → 1 ≤ length passes
first_there [] first is = absurd (cc)
first_there (p ∷ ps) first is = omega arith
