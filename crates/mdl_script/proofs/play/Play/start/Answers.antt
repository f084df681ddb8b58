-- A session that begins to wait is noted.
use Rattle.std.proofs.Common.{ap, sym, ◌∙◌}
use Rattle.std.specs.Prelude.{insert}
use Rattle.std.proofs.lemmas.Result.{on_ok_weaker}
use Rattle.mdl_script.specs.Plays.{insertion_index, world_of}
use Rattle.mdl_script.proofs.PlayLemmas.{manned-again, noted-starting}
use Rattle.mdl_script.proofs.play.Play.start.Goals as goal

pub returns-then-waits-clause-manned : goal.returns-then-waits-clause-manned
returns-then-waits-clause-manned c =
    let begun = c.in_ok-begin.ensures in
    let who = c.args.line.now.session in
    let noted = noted-starting c.args.line.now (world_of c.args.self.now) (world_of c.begin.new.self) c.requires.session begun.left c.requires.idle (sym c.waits.ensures ∙ c.if-waits.true) in
    on_ok_weaker c.note.result
    (λ so. manned-again c.begin.new.self c.note.new.self c.note.ensures.space c.note.ensures.players begun.all begun.seated
    (so ∙ ap (λ ws. insert ws (insertion_index who ws) who) (begun.noted ∙ c.requires.manned.waiting) ∙ noted))
    c.note.ensures.noted
