-- A settled wait ends, with its ticket or without.
use Rattle.std.proofs.Common.{◌≡◌, ap, refl}
use Rattle.mdl_context.specs.Contexts.{ContextView}
use Rattle.mdl_context.specs.Waits.{taking_up, without_wait}
use Rattle.mdl_context.proofs.AttendLemmas.{attends-won, attends-lost}
use Rattle.mdl_context.proofs.WaitLemmas.{is_ok-ended}
use Rattle.mdl_context.proofs.context.Context.end_wait.Goals as goal

pub unwrap-requires : goal.unwrap-requires
unwrap-requires g c =
    let settled = rw (← c.self.view_is) at c.requires.settled in
    is_ok-ended settled.0 _ (g.met.S.LockSpace.laws.agrees _ _ _ _ _ _ refl settled.1 c.end_wait.ensures)

pub win-requires-clause-attends : goal.win-requires-clause-attends
win-requires-clause-attends g c =
    let same : c.self.inside.who ≡ c.args.self.now.who = ap (λ (v : ContextView). v.who) c.self.view_is in
    let laws = g.met.S.LockSpace.laws in
    let step = rw (same, c.unwrap.ensures, c.in-Granted.is) at c.end_wait.ensures in
    attends-won g.S.LockSpace laws _ _ c.in-Granted.id c.args.self.now (taking_up c.in-Granted.id c.args.self.now) c.requires.attends step refl refl refl refl

pub lose-requires : goal.lose-requires
lose-requires g c =
    let same : c.self.inside.who ≡ c.args.self.now.who = ap (λ (v : ContextView). v.who) c.self.view_is in
    let laws = g.met.S.LockSpace.laws in
    let step = rw (same, c.unwrap.ensures, c.in-Victim.is) at c.end_wait.ensures in
    attends-lost g.S.LockSpace laws _ _ _ c.args.self.now (without_wait c.args.self.now) c.requires.attends step refl

pub lose-requires-in-Timeout : goal.lose-requires-in-Timeout
lose-requires-in-Timeout g c =
    let same : c.self.inside.who ≡ c.args.self.now.who = ap (λ (v : ContextView). v.who) c.self.view_is in
    let laws = g.met.S.LockSpace.laws in
    let step = rw (same, c.unwrap.ensures, c.in-Timeout.is) at c.end_wait.ensures in
    attends-lost g.S.LockSpace laws _ _ _ c.args.self.now (without_wait c.args.self.now) c.requires.attends step refl

pub lose-requires-in-Killed : goal.lose-requires-in-Killed
lose-requires-in-Killed g c =
    let same : c.self.inside.who ≡ c.args.self.now.who = ap (λ (v : ContextView). v.who) c.self.view_is in
    let laws = g.met.S.LockSpace.laws in
    let step = rw (same, c.unwrap.ensures, c.in-Killed.is) at c.end_wait.ensures in
    attends-lost g.S.LockSpace laws _ _ _ c.args.self.now (without_wait c.args.self.now) c.requires.attends step refl
