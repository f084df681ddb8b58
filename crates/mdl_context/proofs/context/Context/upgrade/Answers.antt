-- The mode is changed here as it is there, or a second ticket is asked for, or nothing is changed.
use Rattle.std.proofs.Common.{◌≡◌, Ok, Err, refl, sym, ap, ◌∙◌, subst}
use Rattle.mdl_calls.specs.Causes.{Knowledge}
use Rattle.mdl_calls.specs.Words.{Refused, Upgraded, Would_wait, SessionLocks, Runs}
use Rattle.mdl_calls.specs.SessionLocks.{upgraded}
use Rattle.mdl_context.specs.declared.context_error.ContextError.TheVariants.{Space}
use Rattle.mdl_context.specs.declared.kept.Wanted.{Wanted}
use Rattle.mdl_context.specs.declared.request.Acquire.{Acquire}
use Rattle.mdl_context.specs.declared.request.Acquire.TheVariants.{Acquired}
use Rattle.mdl_context.specs.Contexts.{ContextView, ticket_kept}
use Rattle.mdl_context.specs.Holdings.{context_of}
use Rattle.mdl_context.specs.Requests.{Outcome}
use Rattle.mdl_context.specs.Upgrades.{upgrading, waiting_to_upgrade}
use Rattle.mdl_context.proofs.BeyondLemmas.{same-context}
use Rattle.mdl_context.proofs.AttendLemmas.{attends-still}
use Rattle.mdl_context.proofs.OthersLemmas.{leaves, for_upgrading}
use Rattle.mdl_context.proofs.GainLemmas.{placed-space, placed-upgrade}
use Rattle.mdl_context.proofs.UpgradeLemmas.{HasAsked, attends-in_mode, fault-none, fault-waiting, fault-absent, kept-number, wish-kept, wish-none, wait-fits, run-upgrading}
use Rattle.mdl_calls.proofs.FaithfulLemmas.{each_reply}
use Rattle.mdl_context.specs.Outcomes.{UpgradeComesTo}
use Rattle.mdl_context.proofs.OutcomeLemmas.{raised_upgrading}
use Rattle.std.specs.Prelude.{OnErr}
use Rattle.mdl_context.proofs.JustLemmas.{leaves-none}
use Rattle.mdl_context.proofs.LeftPinLemmas.{none-upgrading}
use Rattle.mdl_context.proofs.context.Context.upgrade.Goals as goal

pub returns-in_default-clause-refused : goal.returns-in_default-clause-refused
returns-in_default-clause-refused g c =
    let none = wish-none c.args.mode (ticket_kept c.args.id c.self.inside.holdings.kept) (sym c.upgrade_wish.ensures ∙ c.in_default.is) in
    rw (← c.self.view_is) (rw (fault-absent c.args.id (context_of c.self.inside.who c.self.inside.holdings) none) refl)

pub returns-then-is_waiting-clause-refused : goal.returns-then-is_waiting-clause-refused
returns-then-is_waiting-clause-refused g c =
    let its = wish-kept c.args.mode (ticket_kept c.args.id c.self.inside.holdings.kept) c.in-Some.wanted (sym c.upgrade_wish.ensures ∙ c.in-Some.is) in
    rw (← c.self.view_is) (rw (fault-waiting c.args.id (context_of c.self.inside.who c.self.inside.holdings) its.0 its.1 (sym c.is_waiting.ensures ∙ c.if-is_waiting.true)) refl)

pub wait_to_upgrade-requires-clause-attends : goal.wait_to_upgrade-requires-clause-attends
wait_to_upgrade-requires-clause-attends g c =
    let same : c.self.inside.who ≡ c.args.self.now.who = ap (λ (v : ContextView). v.who) c.self.view_is in
    let laws = g.met.S.LockSpace.laws in
    attends-still g.S.LockSpace laws _ _ _ _ c.args.self.now c.requires refl refl refl (rw (same, c.in-Ok-WouldWait.is, c.in-Ok-WouldWait.field-0-is) at c.upgrade_now.ensures)

pub wait_to_upgrade-requires-clause-kept : goal.wait_to_upgrade-requires-clause-kept
wait_to_upgrade-requires-clause-kept g c =
    let knows : Knowledge = g.S.LockSpace.knows c.args.space.now c.self.inside.who in
    let laws = g.met.S.LockSpace.laws in
    let step = rw (c.in-Ok-WouldWait.is, c.in-Ok-WouldWait.field-0-is) at c.upgrade_now.ensures in
    rw (← c.self.view_is)
    (wait-fits knows c.self.inside.who c.args.id c.args.mode (g.S.LockSpace.own c.args.space.now c.self.inside.who) (context_of c.self.inside.who c.self.inside.holdings) c.in-Some.wanted (rw (← c.self.view_is) at c.requires.serves)
    (sym c.upgrade_wish.ensures ∙ c.in-Some.is) (laws.explains _ _ _ _ _ refl step) (λ h held covered. laws.upgrades _ _ _ _ _ h held covered step))

pub returns-in-Ok-Upgraded-clause-refused : goal.returns-in-Ok-Upgraded-clause-refused
returns-in-Ok-Upgraded-clause-refused g c =
    let its = wish-kept c.args.mode (ticket_kept c.args.id c.self.inside.holdings.kept) c.in-Some.wanted (sym c.upgrade_wish.ensures ∙ c.in-Some.is) in
    rw (← c.self.view_is) (rw (fault-none c.args.id (context_of c.self.inside.who c.self.inside.holdings) its.0 its.1 (sym c.is_waiting.ensures ∙ c.if-is_waiting.false)) tt)

pub returns-in-Ok-Upgraded-clause-run : goal.returns-in-Ok-Upgraded-clause-run
returns-in-Ok-Upgraded-clause-run g c =
    let its = wish-kept c.args.mode (ticket_kept c.args.id c.self.inside.holdings.kept) c.in-Some.wanted (sym c.upgrade_wish.ensures ∙ c.in-Some.is) in
    let after = context_of c.self.inside.who c.strengthen.new.self in
    subst (λ (v : ContextView). Runs g.S.LockSpace.joins c.args.space.now (upgrading c.args.id c.args.mode v) (Ok (Acquired c.args.id), after) c.upgrade_now.new.self) c.self.view_is
    (run-upgrading g.S.LockSpace.joins c.args.id c.args.mode (context_of c.self.inside.who c.self.inside.holdings) its.0 Upgraded _ _ _ _ its.1 (sym c.is_waiting.ensures ∙ c.if-is_waiting.false)
    (rw (c.in-Ok-Upgraded.is, c.in-Ok-Upgraded.field-0-is) at c.upgrade_now.ensures) (
      rw (kept-number c.args.id c.self.inside.holdings.kept its.0 its.1) (ap (λ (v : ContextView). let o : Outcome Acquire = (Ok (Acquired c.args.id), v) in o)
          (sym (same-context c.self.inside.who _ _ _ _ _ _ c.strengthen.ensures.kept c.strengthen.ensures.known c.strengthen.ensures.wait))),
      refl,
    ))

pub returns-in-Ok-Upgraded-clause-attends : goal.returns-in-Ok-Upgraded-clause-attends
returns-in-Ok-Upgraded-clause-attends g c =
    let laws = g.met.S.LockSpace.laws in
    attends-in_mode g.S.LockSpace laws _ _ _ _ c.args.id (upgraded c.args.mode) _ _ (rw (← c.self.view_is) at c.requires) refl refl
    (rw (c.in-Ok-Upgraded.is, c.in-Ok-Upgraded.field-0-is) at c.upgrade_now.ensures) refl refl c.strengthen.ensures.known c.strengthen.ensures.kept c.strengthen.ensures.wait (sym c.is_waiting.ensures ∙ c.if-is_waiting.false)

pub returns-in-Ok-WouldWait-clause-refused : goal.returns-in-Ok-WouldWait-clause-refused
returns-in-Ok-WouldWait-clause-refused g c =
    let its = wish-kept c.args.mode (ticket_kept c.args.id c.self.inside.holdings.kept) c.in-Some.wanted (sym c.upgrade_wish.ensures ∙ c.in-Some.is) in
    rw (← c.self.view_is) (rw (fault-none c.args.id (context_of c.self.inside.who c.self.inside.holdings) its.0 its.1 (sym c.is_waiting.ensures ∙ c.if-is_waiting.false)) tt)

pub returns-in-Ok-WouldWait-clause-run : goal.returns-in-Ok-WouldWait-clause-run
returns-in-Ok-WouldWait-clause-run g c =
    let its = wish-kept c.args.mode (ticket_kept c.args.id c.self.inside.holdings.kept) c.in-Some.wanted (sym c.upgrade_wish.ensures ∙ c.in-Some.is) in
    let wanted : c.in-Some.wanted.mode ≡ c.args.mode = ap (λ (w : Wanted). w.mode) its.2 in
    let waited = subst (HasAsked g.S.LockSpace.joins c.args.id c.in-Some.wanted.mode c.upgrade_now.new.self (c.wait_to_upgrade.result, c.wait_to_upgrade.new.self) c.wait_to_upgrade.new.space) (sym c.self.view_is)
    c.wait_to_upgrade.ensures.run in
    subst (λ (v : ContextView). Runs g.S.LockSpace.joins c.args.space.now (upgrading c.args.id c.args.mode v) (c.wait_to_upgrade.result, c.wait_to_upgrade.new.self) c.wait_to_upgrade.new.space) c.self.view_is
    (run-upgrading g.S.LockSpace.joins c.args.id c.args.mode (context_of c.self.inside.who c.self.inside.holdings) its.0 Would_wait _ _ _ _ its.1 (sym c.is_waiting.ensures ∙ c.if-is_waiting.false)
    (rw (c.in-Ok-WouldWait.is, c.in-Ok-WouldWait.field-0-is) at c.upgrade_now.ensures)
    (subst (λ m. Runs g.S.LockSpace.joins c.upgrade_now.new.self (waiting_to_upgrade its.0 m (context_of c.self.inside.who c.self.inside.holdings)) (c.wait_to_upgrade.result, c.wait_to_upgrade.new.self) c.wait_to_upgrade.new.space) wanted
    (waited its.0 its.1)))

pub returns-in-Ok-WouldWait-clause-others : goal.returns-in-Ok-WouldWait-clause-others
returns-in-Ok-WouldWait-clause-others g c =
    let laws = g.met.S.LockSpace.laws in
    leaves g.S.LockSpace laws c.args.self.now.who (upgrading c.args.id c.args.mode c.args.self.now) _ _ (c.wait_to_upgrade.result, c.wait_to_upgrade.new.self)
    (for_upgrading c.args.id c.args.mode c.args.self.now) (returns-in-Ok-WouldWait-clause-run g c)

pub returns-in-Err-clause-refused : goal.returns-in-Err-clause-refused
returns-in-Err-clause-refused g c =
    let its = wish-kept c.args.mode (ticket_kept c.args.id c.self.inside.holdings.kept) c.in-Some.wanted (sym c.upgrade_wish.ensures ∙ c.in-Some.is) in
    rw (← c.self.view_is) (rw (fault-none c.args.id (context_of c.self.inside.who c.self.inside.holdings) its.0 its.1 (sym c.is_waiting.ensures ∙ c.if-is_waiting.false)) tt)

pub returns-in-Err-clause-run : goal.returns-in-Err-clause-run
returns-in-Err-clause-run g c =
    let its = wish-kept c.args.mode (ticket_kept c.args.id c.self.inside.holdings.kept) c.in-Some.wanted (sym c.upgrade_wish.ensures ∙ c.in-Some.is) in
    subst (λ (v : ContextView). Runs g.S.LockSpace.joins c.args.space.now (upgrading c.args.id c.args.mode v) (Err (Space c.in-Err.refusal), v) c.upgrade_now.new.self) c.self.view_is
    (run-upgrading g.S.LockSpace.joins c.args.id c.args.mode (context_of c.self.inside.who c.self.inside.holdings) its.0 (Refused c.in-Err.refusal) _ _ _ _ its.1 (sym c.is_waiting.ensures ∙ c.if-is_waiting.false)
    (rw c.in-Err.is at c.upgrade_now.ensures) (refl, refl))

pub returns-in-Err-clause-attends : goal.returns-in-Err-clause-attends
returns-in-Err-clause-attends g c =
    let same : c.self.inside.who ≡ c.args.self.now.who = ap (λ (v : ContextView). v.who) c.self.view_is in
    let laws = g.met.S.LockSpace.laws in
    attends-still g.S.LockSpace laws _ _ _ _ c.args.self.now c.requires refl refl refl (rw (same, c.in-Err.is) at c.upgrade_now.ensures)

pub returns-in-Err-clause-own : goal.returns-in-Err-clause-own
returns-in-Err-clause-own g c =
    let same : c.self.inside.who ≡ c.args.self.now.who = ap (λ (v : ContextView). v.who) c.self.view_is in
    g.met.S.LockSpace.laws.changes _ _ _ _ _ refl (rw (same, c.in-Err.is) at c.upgrade_now.ensures)

pub returns-in-Ok-WouldWait-clause-outcome : goal.returns-in-Ok-WouldWait-clause-outcome
returns-in-Ok-WouldWait-clause-outcome g c =
    each_reply g.S.LockSpace.joins (UpgradeComesTo c.args.id c.args.mode c.args.self.now) (upgrading c.args.id c.args.mode c.args.self.now) _ _ (c.wait_to_upgrade.result, c.wait_to_upgrade.new.self)
    (raised_upgrading c.args.id c.args.mode c.args.self.now) (returns-in-Ok-WouldWait-clause-run g c)

pub returns-in-Ok-WouldWait-clause-own : goal.returns-in-Ok-WouldWait-clause-own
returns-in-Ok-WouldWait-clause-own g c =
    let same : c.self.inside.who ≡ c.args.self.now.who = ap (λ (v : ContextView). v.who) c.self.view_is in
    let still : g.S.LockSpace.own c.upgrade_now.new.self c.args.self.now.who ≡ g.S.LockSpace.own c.args.space.now c.args.self.now.who =
    g.met.S.LockSpace.laws.changes _ _ _ _ _ refl (rw (same, c.in-Ok-WouldWait.is, c.in-Ok-WouldWait.field-0-is) at c.upgrade_now.ensures) in
    subst (λ (own : SessionLocks). OnErr c.wait_to_upgrade.result (g.S.LockSpace.own c.wait_to_upgrade.new.space c.args.self.now.who ≡ own)) still c.wait_to_upgrade.ensures.own

pub returns-in-Err-clause-placed : goal.returns-in-Err-clause-placed
returns-in-Err-clause-placed g c =
    placed-space c.in-Err.refusal
    (placed-upgrade _ c.self.inside.who c.args.id c.args.mode c.in-Err.refusal _ (g.met.S.LockSpace.laws.explains _ _ _ _ _ refl (rw c.in-Err.is at c.upgrade_now.ensures)))

pub returns-in-Ok-Upgraded-clause-tidy : goal.returns-in-Ok-Upgraded-clause-tidy
returns-in-Ok-Upgraded-clause-tidy g c =
    let laws = g.met.S.LockSpace.laws in
    leaves-none g.S.LockSpace laws c.args.space.now c.args.self.now c.requires (upgrading c.args.id c.args.mode c.args.self.now) c.upgrade_now.new.self (Ok (Acquired c.args.id), context_of c.self.inside.who c.strengthen.new.self)
    (none-upgrading g.S.LockSpace laws c.args.space.now c.args.self.now c.requires c.args.id c.args.mode) (returns-in-Ok-Upgraded-clause-run g c) (returns-in-Ok-Upgraded-clause-attends g c)

pub returns-in-Ok-WouldWait-clause-tidy : goal.returns-in-Ok-WouldWait-clause-tidy
returns-in-Ok-WouldWait-clause-tidy g c =
    let laws = g.met.S.LockSpace.laws in
    leaves-none g.S.LockSpace laws c.args.space.now c.args.self.now c.requires (upgrading c.args.id c.args.mode c.args.self.now) c.wait_to_upgrade.new.space (c.wait_to_upgrade.result, c.wait_to_upgrade.new.self)
    (none-upgrading g.S.LockSpace laws c.args.space.now c.args.self.now c.requires c.args.id c.args.mode) (returns-in-Ok-WouldWait-clause-run g c) c.wait_to_upgrade.ensures.attends

pub returns-in-Err-clause-tidy : goal.returns-in-Err-clause-tidy
returns-in-Err-clause-tidy g c =
    let laws = g.met.S.LockSpace.laws in
    leaves-none g.S.LockSpace laws c.args.space.now c.args.self.now c.requires (upgrading c.args.id c.args.mode c.args.self.now) c.upgrade_now.new.self (Err (Space c.in-Err.refusal), c.args.self.now)
    (none-upgrading g.S.LockSpace laws c.args.space.now c.args.self.now c.requires c.args.id c.args.mode) (returns-in-Err-clause-run g c) (returns-in-Err-clause-attends g c)
