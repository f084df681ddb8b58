-- The mode is changed here as it is there, or nothing is.
use Rattle.std.proofs.Common.{◌≡◌, Ok, Err, refl, rules, sym, ap, ◌∙◌}
use Rattle.mdl_context.specs.Contexts.{ContextView}
use Rattle.mdl_context.proofs.AttendLemmas.{attends-still}
use Rattle.mdl_context.proofs.UpgradeLemmas.{attends-in_mode}
use Rattle.mdl_context.specs.declared.context_error.ContextError.TheVariants.{Space}
use Rattle.mdl_context.specs.Holdings.{context_of}
use Rattle.mdl_context.specs.Upgrades.{downgrading}
use Rattle.mdl_context.proofs.JustLemmas.{leaves-none}
use Rattle.mdl_context.proofs.LeftPinLemmas.{none-downgrading}
use Rattle.mdl_context.proofs.context.Context.downgrade.Goals as goal

pub returns-in-Ok-clause-attends : goal.returns-in-Ok-clause-attends
returns-in-Ok-clause-attends g c =
    let laws = g.met.S.LockSpace.laws in
    attends-in_mode g.S.LockSpace laws _ _ _ _ c.args.id (λ _. c.args.mode) _ _ (rw (← c.self.view_is) at c.requires) refl refl
    (rw c.in-Ok.is at c.downgrade.ensures) refl refl c.set_mode.ensures.known c.set_mode.ensures.kept c.set_mode.ensures.wait (sym c.is_waiting.ensures ∙ c.if-is_waiting.false)

pub returns-in-Err-clause-attends : goal.returns-in-Err-clause-attends
returns-in-Err-clause-attends g c =
    let same : c.self.inside.who ≡ c.args.self.now.who = ap (λ (v : ContextView). v.who) c.self.view_is in
    let laws = g.met.S.LockSpace.laws in
    attends-still g.S.LockSpace laws _ _ _ _ c.args.self.now c.requires refl refl refl (rw (same, c.in-Err.is) at c.downgrade.ensures)

pub returns-in-Err-clause-own : goal.returns-in-Err-clause-own
returns-in-Err-clause-own g c =
    let same : c.self.inside.who ≡ c.args.self.now.who = ap (λ (v : ContextView). v.who) c.self.view_is in
    g.met.S.LockSpace.laws.changes _ _ _ _ _ refl (rw (same, c.in-Err.is) at c.downgrade.ensures)

pub returns-in-Ok-clause-run : goal.returns-in-Ok-clause-run
returns-in-Ok-clause-run g c = search rules

pub returns-in-Ok-clause-tidy : goal.returns-in-Ok-clause-tidy
returns-in-Ok-clause-tidy g c =
    let laws = g.met.S.LockSpace.laws in
    leaves-none g.S.LockSpace laws c.args.space.now c.args.self.now c.requires (downgrading c.args.id c.args.mode c.args.self.now) c.downgrade.new.self (Ok tt, context_of c.self.inside.who c.set_mode.new.self)
    (none-downgrading g.S.LockSpace laws c.args.space.now c.args.self.now c.requires c.args.id c.args.mode) (returns-in-Ok-clause-run g c) (returns-in-Ok-clause-attends g c)

pub returns-in-Err-clause-run : goal.returns-in-Err-clause-run
returns-in-Err-clause-run g c = search rules

pub returns-in-Err-clause-tidy : goal.returns-in-Err-clause-tidy
returns-in-Err-clause-tidy g c =
    let laws = g.met.S.LockSpace.laws in
    leaves-none g.S.LockSpace laws c.args.space.now c.args.self.now c.requires (downgrading c.args.id c.args.mode c.args.self.now) c.downgrade.new.self (Err (Space c.in-Err.refusal), c.args.self.now)
    (none-downgrading g.S.LockSpace laws c.args.space.now c.args.self.now c.requires c.args.id c.args.mode) (returns-in-Err-clause-run g c) (returns-in-Err-clause-attends g c)
