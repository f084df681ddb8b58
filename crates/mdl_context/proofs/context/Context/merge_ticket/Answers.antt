-- The second ticket is held beside the kept ones, and then it is gone.
use Rattle.std.proofs.Common.{◌≡◌, refl, ap}
use Rattle.std.specs.Prelude.{is_some}
use Rattle.mdl_context.proofs.GainLemmas.{idle-there}
use Rattle.mdl_context.proofs.UpgradeLemmas.{has-mergeable, has-rising, attends-united, attends-parted}
use Rattle.mdl_context.specs.Contexts.{ContextView}
use Rattle.mdl_context.proofs.context.Context.merge_ticket.Goals as goal

pub merge-requires-clause-idle : goal.merge-requires-clause-idle
merge-requires-clause-idle g c =
    let second = rw (← c.self.view_is) at c.requires.second in
    let idle = rw (← c.self.view_is) at c.requires.idle in
    ap is_some (idle-there _ _ second.4.serves idle)

pub merge-requires-clause-mergeable : goal.merge-requires-clause-mergeable
merge-requires-clause-mergeable g c =
    let second = rw (← c.self.view_is) at c.requires.second in
    has-mergeable c.args.id c.args.new c.args.mode c.args.space.now _ (g.met.S.LockSpace.laws.rising _ _ second.4.speaks) second

pub set_mode-requires : goal.set_mode-requires
set_mode-requires g c =
    let second = rw (← c.self.view_is) at c.requires.second in
    has-rising c.args.id c.args.new c.args.mode c.args.space.now _ (g.met.S.LockSpace.laws.rising _ _ second.4.speaks) second

pub returns-in-Ok-clause-attends : goal.returns-in-Ok-clause-attends
returns-in-Ok-clause-attends g c =
    let second = rw (← c.self.view_is) at c.requires.second in
    let idle = rw (← c.self.view_is) at c.requires.idle in
    attends-united c.args.id c.args.new c.args.mode c.args.space.now _ (g.met.S.LockSpace.laws.rising _ _ second.4.speaks) second c.merge.new.space _ c.merge.ensures.remembers c.merge.ensures.speaks
    (rw c.in-Ok.is at c.merge.ensures.own) refl c.set_mode.ensures.known c.set_mode.ensures.kept c.set_mode.ensures.wait (ap is_some idle)

pub returns-in-Err-clause-attends : goal.returns-in-Err-clause-attends
returns-in-Err-clause-attends g c =
    let second = rw (← c.self.view_is) at c.requires.second in
    let idle = rw (← c.self.view_is) at c.requires.idle in
    rw (← c.self.view_is)
    (attends-parted c.args.id c.args.new c.args.mode c.args.space.now _ (g.met.S.LockSpace.laws.rising _ _ second.4.speaks) second c.merge.new.space _ c.merge.ensures.remembers c.merge.ensures.speaks
    (rw c.in-Err.is at c.merge.ensures.own) refl refl refl refl (ap is_some idle))

pub returns-in-Err-clause-own : goal.returns-in-Err-clause-own
returns-in-Err-clause-own g c =
    let same : c.self.inside.who ≡ c.args.self.now.who = ap (λ (v : ContextView). v.who) c.self.view_is in
    rw (same, c.in-Err.is) at c.merge.ensures.own
