-- The set of the sessions that a script names, line by line.
use Rattle.std.proofs.Common.{◌≡◌, ℕ, ◌+◌, ◌<◌, ◌≤◌, Bool, true, false, ◌||◌, nat_eq, nat_le, List, length, get_or, take, refl, sym, ap, ◌∙◌, arith, inl, inr}
use Rattle.std.specs.Prelude.{◌==◌}
use Rattle.std.specs.FinSet as set
use Rattle.std.specs.Ordering.{nat_cmp}
use Rattle.std.specs.Cmp.{nat_cmp_total, unsigned_tied}
use Rattle.std.proofs.lemmas.Bool.{le-leb}
use Rattle.std.proofs.lemmas.Bool.Decides.{eqb_tells, nat_tests}
use Rattle.std.proofs.lemmas.List.Folds.{list_any_more}
use Rattle.mdl_calls.specs.Words.{is_within}
use Rattle.mdl_key.specs.Words.{most_sessions}
use Rattle.mdl_syntax.specs.declared.script.Line.{Line}
use Rattle.mdl_script.specs.RunTexts.{names_session}

-- the set has the sessions that these lines name
abbrev pub HasNamed : List Line → set.FinSet nat_cmp → Type 0
HasNamed lines named = (who : ℕ) → 1 ≤ who → who ≤ most_sessions → set.contains named who ≡ names_session lines who

one_noted : (who one : ℕ) (before : Bool) → (nat_eq who one || before) ≡ (before || nat_eq one who)
one_noted who one true = grind (arith, nat_tests)
one_noted who one false = grind (arith, nat_tests)

one_skipped : (who one : ℕ) (before : Bool) → 1 ≤ who → who ≤ most_sessions → is_within most_sessions one ≡ false → before ≡ (before || nat_eq one who)
one_skipped who one true least most none = refl
one_skipped who one false least most none = elim (eqb_tells one who) [
  | inl same ↦ (
      let low : nat_le 1 one ≡ true = le-leb 1 one (omega (arith, same.1, least)) in
      let high : nat_le one most_sessions ≡ true = le-leb one most_sessions (omega (arith, same.1, most)) in
      let within : is_within most_sessions one ≡ true = rw (low, high) refl in
      absurd (let f : true ≡ false = sym within ∙ none in cc))
  | inr other ↦ sym other.0
]

module _ (named : set.FinSet nat_cmp) (lines : List Line) (index : ℕ) (line : Line) (inside : index < length lines) (is : line ≡ get_or lines index line)
    (before : HasNamed (take index lines) named) where
  looked_at : (who : ℕ) → names_session (take (index + 1) lines) who ≡ (names_session (take index lines) who || nat_eq line.session who)
  looked_at who =
      list_any_more (λ (l : Line). l.session == who) lines index line inside
      ∙ ap (λ (l : Line). names_session (take index lines) who || nat_eq l.session who) (sym is)

  -- the session of the next line is put into it
  pub one-named : HasNamed (take (index + 1) lines) (set.insert named line.session)
  one-named who least most =
      set.contains-insert nat_cmp_total named line.session who
      ∙ rw (unsigned_tied who line.session, before who least most, looked_at who) (one_noted who line.session (names_session (take index lines) who))

  -- a number that no session has is left out
  pub one-passed : is_within most_sessions line.session ≡ false → HasNamed (take (index + 1) lines) named
  one-passed none who least most =
      before who least most ∙ rw (looked_at who) (one_skipped who line.session (names_session (take index lines) who) least most none)
