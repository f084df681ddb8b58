-- The session that is found is one that waits.
use Rattle.std.proofs.Common.{ap, sym, ◌∙◌}
use Rattle.mdl_script.specs.declared.play.Play.{Play}
use Rattle.mdl_script.specs.Plays.{world_of}
use Rattle.mdl_script.specs.Worlds.{session_waits}
use Rattle.mdl_script.proofs.SettleLemmas.{found-waits}
use Rattle.mdl_script.proofs.play.Play.settle_one.Goals as goal

pub go-requires-clause-session : goal.go-requires-clause-session
go-requires-clause-session c = (found-waits c.args.self.now c.in-Some.who c.requires.manned (sym c.in-Some.ensures.found)).0

pub go-requires-clause-waits : goal.go-requires-clause-waits
go-requires-clause-waits c =
    ap (λ (play : Play). session_waits (world_of play) c.in-Some.who) c.first_settled.ensures.same
    ∙ (found-waits c.args.self.now c.in-Some.who c.requires.manned (sym c.in-Some.ensures.found)).1
