-- The sessions that were found are put in.
use Rattle.std.proofs.Common.{not, ◌||◌, ◌∙◌, ap, length}
use Rattle.std.specs.Prelude.{◌==◌}
use Rattle.std.specs.List.{list_any}
use Rattle.mdl_view.specs.SessionSets.{has, taken_by}
use Rattle.mdl_view.proofs.TurnLemmas.{proceeds_at}
use Rattle.mdl_view.proofs.going_on.go_on_at.Goals as goal

pub returns-clause-value : goal.returns-clause-value
returns-clause-value c =
    let old = has c.args.ended.now in
    proceeds_at (taken_by c.args.act) c.args.lock.now old (has c.insert_all.new.self) c.in_ok-found.found.items (not c.is_empty.result) c.in_ok-found.ensures
    (λ session. c.in_ok-insert_all.ensures.put session ∙ ap (λ xs. old session || list_any (λ x. session == x) xs) c.as_slice-sessions.ensures.value)
    (ap not (c.is_empty.ensures ∙ ap (λ xs. length xs == 0) c.as_slice-sessions.ensures.value))
