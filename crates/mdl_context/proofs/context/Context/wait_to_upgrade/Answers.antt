-- A second ticket is had beside the kept ones, or waited for, or nothing has changed.
use Rattle.std.proofs.Common.{◌≡◌, ℕ, Some, Ok, Err, refl, sym, ap, ◌∙◌, subst}
use Rattle.std.specs.Prelude.{is_some}
use Rattle.mdl_context.specs.declared.context_error.ContextError.TheVariants.{Space}
use Rattle.mdl_context.specs.declared.kept.Wanted.{Wanted}
use Rattle.mdl_context.specs.declared.request.Acquire.TheVariants.{Acquired, MustWait}
use Rattle.mdl_context.specs.Holdings.{context_of}
use Rattle.mdl_context.specs.Upgrades.{HasSecond, with_ticket_mode}
use Rattle.mdl_context.proofs.BeyondLemmas.{same-context}
use Rattle.mdl_context.proofs.GainLemmas.{placed-merge, placed-space}
use Rattle.mdl_context.proofs.UpgradeLemmas.{wanted-pinned, HasAsked, has-gained, kept-number, attends-to-upgrade, run-united, run-parted, run-awaiting, run-unasked}
use Rattle.mdl_calls.specs.Words.{IsRising, giving_up}
use Rattle.mdl_context.specs.Contexts.{ContextView}
use Rattle.mdl_context.proofs.SeekLemmas.{gained-given_up}
use Rattle.mdl_context.proofs.context.Context.wait_to_upgrade.Goals as goal

pub merge_ticket-requires-clause-second : goal.merge_ticket-requires-clause-second
merge_ticket-requires-clause-second g c =
    let space = g.S.LockSpace in
    let idle = rw (← c.self.view_is) at c.requires.idle in
    let same = same-context c.self.inside.who _ _ _ _ _ _ c.reserve.ensures.kept c.reserve.ensures.known (c.reserve.ensures.wait ∙ sym idle) in
    subst (HasSecond space c.args.id c.in-Ok-Granted.new c.args.wanted.mode c.wait_at.new.space) (sym same)
    (has-gained c.args.space.now c.wait_at.new.space _ c.args.id c.in-Ok-Granted.new c.args.wanted (rw (← c.self.view_is) at c.requires.attends) c.wait_at.ensures.remembers c.wait_at.ensures.speaks
    (rw (c.in-Ok-Granted.is, c.in-Ok-Granted.field-0-is) at c.wait_at.ensures.own) (ap is_some idle) (rw (← c.self.view_is) at c.requires.kept))

pub returns-in-Ok-clause-run : goal.returns-in-Ok-clause-run
returns-in-Ok-clause-run g c =
    let idle = rw (← c.self.view_is) at c.requires.idle in
    let same = same-context c.self.inside.who _ _ _ _ _ _ c.reserve.ensures.kept c.reserve.ensures.known (c.reserve.ensures.wait ∙ sym idle) in
    let kept = rw (← c.self.view_is) at c.requires.kept in
    subst (HasAsked g.S.LockSpace.joins c.args.id c.args.wanted.mode c.args.space.now (Ok (Acquired c.args.id), c.merge_ticket.new.self) c.merge_ticket.new.space) c.self.view_is (λ ticket found.
    let fits = rw found at kept in
    let place : c.args.wanted.place ≡ ticket.place = ap (λ (w : Wanted). w.place) fits.0 in
    run-united g.S.LockSpace.joins ticket c.args.id c.args.wanted.mode _ c.merge_ticket.new.self (kept-number c.args.id c.self.inside.holdings.kept ticket found) c.in-Ok-Granted.new _ _ _
    (rw (place, c.in-Ok-Granted.is, c.in-Ok-Granted.field-0-is) at c.wait_at.ensures.run) (rw c.in-Ok.is at c.merge_ticket.ensures.run)
    ((rw c.in-Ok.is at c.merge_ticket.ensures.done) ∙ ap (with_ticket_mode c.args.id (λ _. c.args.wanted.mode)) same))

pub returns-in-Err-merge_ticket-clause-run : goal.returns-in-Err-merge_ticket-clause-run
returns-in-Err-merge_ticket-clause-run g c =
    let idle = rw (← c.self.view_is) at c.requires.idle in
    let same = same-context c.self.inside.who _ _ _ _ _ _ c.reserve.ensures.kept c.reserve.ensures.known (c.reserve.ensures.wait ∙ sym idle) in
    let kept = rw (← c.self.view_is) at c.requires.kept in
    subst (HasAsked g.S.LockSpace.joins c.args.id c.args.wanted.mode c.args.space.now (Err (Space c.in-Err-merge_ticket.refusal), c.merge_ticket.new.self) c.merge_ticket.new.space) c.self.view_is (λ ticket found.
    let fits = rw found at kept in
    let place : c.args.wanted.place ≡ ticket.place = ap (λ (w : Wanted). w.place) fits.0 in
    run-parted g.S.LockSpace.joins ticket c.args.id c.args.wanted.mode _ c.merge_ticket.new.self (kept-number c.args.id c.self.inside.holdings.kept ticket found) c.in-Ok-Granted.new
    c.in-Err-merge_ticket.refusal _ _ _ (rw (place, c.in-Ok-Granted.is, c.in-Ok-Granted.field-0-is) at c.wait_at.ensures.run) (rw c.in-Err-merge_ticket.is at c.merge_ticket.ensures.run)
    ((rw c.in-Err-merge_ticket.is at c.merge_ticket.ensures.unchanged) ∙ same))

pub returns-in-Ok-Waits-clause-run : goal.returns-in-Ok-Waits-clause-run
returns-in-Ok-Waits-clause-run g c =
    let kept = rw (← c.self.view_is) at c.requires.kept in
    subst (HasAsked g.S.LockSpace.joins c.args.id c.args.wanted.mode c.args.space.now (Ok (MustWait c.in-Ok-Waits.number), context_of c.self.inside.who c.begin_wait.new.self) c.wait_at.new.space) c.self.view_is (λ ticket found.
    let fits = rw found at kept in
    let place : c.args.wanted.place ≡ ticket.place = ap (λ (w : Wanted). w.place) fits.0 in
    run-awaiting g.S.LockSpace.joins ticket c.args.id c.args.wanted.mode _ _ (kept-number c.args.id c.self.inside.holdings.kept ticket found) c.in-Ok-Waits.number c.in-Ok-Waits.searched _ _
    (rw (place, c.in-Ok-Waits.is, c.in-Ok-Waits.field-0-is) at c.wait_at.ensures.run)
    (same-context c.self.inside.who _ _ _ _ _ _ (c.begin_wait.ensures.kept ∙ c.reserve.ensures.kept) (c.begin_wait.ensures.known ∙ c.reserve.ensures.known)
    (c.begin_wait.ensures.wait ∙ ap (λ (w : Wanted). Some (record w { searched = c.in-Ok-Waits.searched })) fits.0)))

pub returns-in-Ok-Waits-clause-attends : goal.returns-in-Ok-Waits-clause-attends
returns-in-Ok-Waits-clause-attends g c =
    attends-to-upgrade c.args.space.now c.wait_at.new.space _ _ c.args.id c.in-Ok-Waits.number c.args.wanted c.in-Ok-Waits.searched (rw (← c.self.view_is) at c.requires.attends)
    c.wait_at.ensures.remembers c.wait_at.ensures.speaks (rw (c.in-Ok-Waits.is, c.in-Ok-Waits.field-0-is) at c.wait_at.ensures.own) (rw (← c.self.view_is) at c.requires.kept)
    refl (c.begin_wait.ensures.known ∙ c.reserve.ensures.known) (c.begin_wait.ensures.kept ∙ c.reserve.ensures.kept) c.begin_wait.ensures.wait

pub returns-in-Err-clause-run : goal.returns-in-Err-clause-run
returns-in-Err-clause-run g c =
    let idle = rw (← c.self.view_is) at c.requires.idle in
    let same = same-context c.self.inside.who _ _ _ _ _ _ c.reserve.ensures.kept c.reserve.ensures.known (c.reserve.ensures.wait ∙ sym idle) in
    let kept = rw (← c.self.view_is) at c.requires.kept in
    subst (HasAsked g.S.LockSpace.joins c.args.id c.args.wanted.mode c.args.space.now (Err (Space c.in-Err.refusal), context_of c.self.inside.who c.reserve.new.self) c.wait_at.new.space) c.self.view_is (λ ticket found.
    let fits = rw found at kept in
    let place : c.args.wanted.place ≡ ticket.place = ap (λ (w : Wanted). w.place) fits.0 in
    run-unasked g.S.LockSpace.joins ticket c.args.id c.args.wanted.mode _ _ (kept-number c.args.id c.self.inside.holdings.kept ticket found) c.in-Err.refusal _ _
    (rw (place, c.in-Err.is) at c.wait_at.ensures.run) same)

pub returns-in-Err-merge_ticket-clause-own : goal.returns-in-Err-merge_ticket-clause-own
returns-in-Err-merge_ticket-clause-own g c =
    let same : c.self.inside.who ≡ c.args.self.now.who = ap (λ (v : ContextView). v.who) c.self.view_is in
    let new = c.in-Ok-Granted.new in
    let gained = rw (c.in-Ok-Granted.is, c.in-Ok-Granted.field-0-is) at c.wait_at.ensures.own in
    let gone = rw c.in-Err-merge_ticket.is at c.merge_ticket.ensures.own in
    subst (λ (who : ℕ). g.S.LockSpace.own c.merge_ticket.new.space who ≡ g.S.LockSpace.own c.args.space.now who) same
    (gone ∙ ap (giving_up new) gained
    ∙ gained-given_up new c.args.wanted.place c.args.wanted.mode _ (subst IsRising gained (g.met.S.LockSpace.laws.rising _ _ c.wait_at.ensures.speaks)))

pub wait_at-requires-clause-pinned : goal.wait_at-requires-clause-pinned
wait_at-requires-clause-pinned g c =
    wanted-pinned c.args.space.now (context_of c.self.inside.who c.self.inside.holdings) c.args.id c.args.wanted (rw (← c.self.view_is) at c.requires.attends) (rw (← c.self.view_is) at c.requires.kept)

pub returns-in-Err-merge_ticket-clause-placed : goal.returns-in-Err-merge_ticket-clause-placed
returns-in-Err-merge_ticket-clause-placed g c =
    placed-space c.in-Err-merge_ticket.refusal (placed-merge c.in-Err-merge_ticket.refusal (rw c.in-Err-merge_ticket.is at c.merge_ticket.ensures.refused))

pub returns-in-Err-clause-placed : goal.returns-in-Err-clause-placed
returns-in-Err-clause-placed g c = placed-space c.in-Err.refusal (rw c.in-Err.is at c.wait_at.ensures.placed)
