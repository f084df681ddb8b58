-- Who blocks the request alone is the only other session that is noted.
use Rattle.std.proofs.Common.{◌≡◌, ◌∙◌, ℕ, None, Some, inl, inr, sym, eq-eqb}
use Rattle.std.specs.Prelude.{◌==◌}
use Rattle.std.proofs.lemmas.Bool.{or_cases, or_left, or_right}
use Rattle.mdl_view.specs.Passes.{is_alone_before}
use Rattle.mdl_view.specs.SessionSets.{has}
use Rattle.mdl_view.proofs.AgainstLemmas.{alone_noted}
use Rattle.mdl_view.proofs.ways_out.add_sole_blocker.Goals as goal

some_same : (a b : ℕ) → Some a ≡ Some b → a ≡ b
some_same a b e = cc

none_some : (b : ℕ) → None ≡ Some b → ⊥
none_some b e = cc

pub returns-in_ok-insert-clause-put : goal.returns-in_ok-insert-clause-put
returns-in_ok-insert-clause-put c = λ session there.
    let old = has c.args.found.now session in
    elim (or_cases old (is_alone_before c.args.lock.now session c.args.ask) there) [
      | inl before ↦ c.in_ok-insert.ensures.put session ∙ or_left old (session == c.in-Some.session) before
      | inr alone ↦
          let noted = alone_noted c.args.lock.now c.args.ask c.in_ok-sessions.sessions session c.in_ok-sessions.ensures.sessions alone in
          let same = some_same c.in-Some.session session (sym c.in-Some.is ∙ c.only_other.ensures session noted.0 noted.1) in
          c.in_ok-insert.ensures.put session ∙ or_right old (session == c.in-Some.session) (eq-eqb session c.in-Some.session (sym same))
    ]

pub returns-in_default-clause-put : goal.returns-in_default-clause-put
returns-in_default-clause-put c = λ session there.
    elim (or_cases (has c.args.found.now session) (is_alone_before c.args.lock.now session c.args.ask) there) [
      | inl before ↦ before
      | inr alone ↦
          let noted = alone_noted c.args.lock.now c.args.ask c.in_ok-sessions.sessions session c.in_ok-sessions.ensures.sessions alone in
          absurd (none_some session (sym c.in_default.is ∙ c.only_other.ensures session noted.0 noted.1))
    ]
