-- A session that waits no more is struck.
use Rattle.std.proofs.Common.{ap, sym, ◌∙◌}
use Rattle.std.specs.Prelude.{filter, not, ◌==◌}
use Rattle.mdl_script.specs.Plays.{world_of}
use Rattle.mdl_script.proofs.PlayLemmas.{manned-again, struck-going}
use Rattle.mdl_script.proofs.play.Play.go.Goals as goal

pub returns-then-not-waits-clause-manned : goal.returns-then-not-waits-clause-manned
returns-then-not-waits-clause-manned c =
    let gone = c.in_ok-resume.ensures in
    let struck = struck-going c.args.who (world_of c.args.self.now) (world_of c.resume.new.self) c.requires.session gone.left (sym c.waits.ensures ∙ c.if-not-waits.true) in
    manned-again c.resume.new.self c.strike.new.self c.strike.ensures.space c.strike.ensures.players gone.all gone.seated
    (c.strike.ensures.struck ∙ ap (λ ws. filter (λ w. not (w == c.args.who)) ws) (gone.noted ∙ c.requires.manned.waiting) ∙ struck)
