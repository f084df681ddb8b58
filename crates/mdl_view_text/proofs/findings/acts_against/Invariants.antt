-- The acts so far.
use Rattle.std.proofs.Common.{◌≡◌, map, take}
use Rattle.mdl_view_text.specs.Findings.{act_against}
use Rattle.mdl_view_text.proofs.findings.acts_against.Given as goal

abbrev pub invariant-loop-session : goal.invariant-loop-session
invariant-loop-session l = l.acts.items ≡ map (act_against l.lock l.ask) (take l.session-index l.sessions)
