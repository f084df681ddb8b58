-- A script names only sessions that there are.
use Rattle.mdl_script.proofs.SettleLemmas.{read-sessions}
use Rattle.mdl_script.proofs.replaying.space_after.Goals as goal

pub play_until-requires : goal.play_until-requires
play_until-requires c = rw c.lines.ensures (read-sessions c.args.text.now c.in_ok-script.script c.in_ok-script.ensures.parsed)
