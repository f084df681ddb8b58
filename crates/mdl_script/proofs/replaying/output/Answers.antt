-- A script names only sessions that there are.
use Rattle.std.proofs.Common.{◌≡◌, ℕ, List, Ok, subst}
use Rattle.mdl_syntax.specs.Scripts.{parsed}
use Rattle.mdl_script.proofs.SettleLemmas.{read-sessions}
use Rattle.mdl_script.proofs.replaying.output.Goals as goal

pub play_all-requires : goal.play_all-requires
play_all-requires c =
    let read = subst (λ (text : List ℕ). parsed text ≡ Ok c.in_ok-script.script) c.deref.ensures.value c.in_ok-script.ensures.parsed in
    rw c.lines.ensures (read-sessions c.args.text.items c.in_ok-script.script read)
