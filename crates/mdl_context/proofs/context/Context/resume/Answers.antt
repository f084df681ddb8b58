-- To look after the wait changes nothing that the session has.
use Rattle.std.proofs.Common.{ap, refl, rules, true, ◌≡◌}
use Rattle.std.specs.Prelude.{is_some}
use Rattle.mdl_calls.specs.Causes.{Knowledge}
use Rattle.mdl_context.specs.Contexts.{ContextView}
use Rattle.mdl_calls.specs.Words.{Ask, Poll_wait}
use Rattle.mdl_context.specs.Waits.{looking, ending_wait, resuming, searching_on}
use Rattle.mdl_context.proofs.AttendLemmas.{attends-still}
use Rattle.mdl_context.proofs.JustLemmas.{leaves-none}
use Rattle.mdl_context.proofs.LeftPinLemmas.{none-resuming}
use Rattle.mdl_context.proofs.OthersLemmas.{leaves, for_looking, for_searching_on, for_ending}
use Rattle.mdl_context.proofs.ServingLemmas.{waits-there, searched-waits}
use Rattle.mdl_context.proofs.WaitLemmas.{is_ok-polled}
use Rattle.mdl_calls.proofs.FaithfulLemmas.{each_reply}
use Rattle.mdl_context.specs.Outcomes.{WaitComesTo}
use Rattle.mdl_context.proofs.OutcomeLemmas.{resumes}
use Rattle.mdl_context.proofs.context.Context.resume.Goals as goal

pub unwrap-requires : goal.unwrap-requires
unwrap-requires g c =
    let knows : Knowledge = g.S.LockSpace.knows c.args.space.now c.self.inside.who in
    let waits : is_some c.self.inside.holdings.wait ≡ true = searched-waits _ _ c.is_searched.ensures c.in-Some-false.is in
    is_ok-polled knows c.self.inside.who _ _ (g.met.S.LockSpace.laws.explains _ _ _ _ _ refl c.poll_wait.ensures) (waits-there _ _ (rw (← c.self.view_is) at c.requires.serves) waits)

pub end_wait-requires-clause-attends : goal.end_wait-requires-clause-attends
end_wait-requires-clause-attends g c =
    let same : c.self.inside.who ≡ c.args.self.now.who = ap (λ (v : ContextView). v.who) c.self.view_is in
    let laws = g.met.S.LockSpace.laws in
    attends-still g.S.LockSpace laws _ _ _ _ c.args.self.now c.requires refl refl refl (rw (same, c.unwrap.ensures, c.in-Settled.is) at c.poll_wait.ensures)

pub search_on-requires-clause-attends : goal.search_on-requires-clause-attends
search_on-requires-clause-attends g c =
    let same : c.self.inside.who ≡ c.args.self.now.who = ap (λ (v : ContextView). v.who) c.self.view_is in
    let laws = g.met.S.LockSpace.laws in
    attends-still g.S.LockSpace laws _ _ _ _ c.args.self.now c.requires refl refl refl (rw (same, c.unwrap.ensures, c.in-Pending.is) at c.poll_wait.ensures)

pub returns-in-Some-true-clause-others : goal.returns-in-Some-true-clause-others
returns-in-Some-true-clause-others g c =
    let laws = g.met.S.LockSpace.laws in
    leaves g.S.LockSpace laws c.args.self.now.who (looking c.args.self.now) _ _ (c.look.result, c.look.new.self) (for_looking c.args.self.now) c.look.ensures.run

pub returns-in-Pending-clause-others : goal.returns-in-Pending-clause-others
returns-in-Pending-clause-others g c =
    let same : c.self.inside.who ≡ c.args.self.now.who = ap (λ (v : ContextView). v.who) c.self.view_is in
    let laws = g.met.S.LockSpace.laws in
    leaves g.S.LockSpace laws c.args.self.now.who (Ask (Poll_wait c.args.self.now.who) (λ _. searching_on c.args.self.now)) _ _ (c.search_on.result, c.search_on.new.self) (refl, λ _. for_searching_on c.args.self.now)
    (_, _, rw same at c.poll_wait.ensures, c.search_on.ensures.run)

pub returns-in-Settled-clause-others : goal.returns-in-Settled-clause-others
returns-in-Settled-clause-others g c =
    let same : c.self.inside.who ≡ c.args.self.now.who = ap (λ (v : ContextView). v.who) c.self.view_is in
    let laws = g.met.S.LockSpace.laws in
    leaves g.S.LockSpace laws c.args.self.now.who (Ask (Poll_wait c.args.self.now.who) (λ _. ending_wait c.args.self.now)) _ _ (c.end_wait.result, c.end_wait.new.self) (refl, λ _. for_ending c.args.self.now)
    (_, _, rw same at c.poll_wait.ensures, c.end_wait.ensures.run)

pub returns-in-Some-true-clause-run : goal.returns-in-Some-true-clause-run
returns-in-Some-true-clause-run g c = search rules

pub returns-in-Some-true-clause-outcome : goal.returns-in-Some-true-clause-outcome
returns-in-Some-true-clause-outcome g c =
    each_reply g.S.LockSpace.joins (WaitComesTo c.args.self.now) (resuming c.args.self.now) _ _ (c.look.result, c.look.new.self) (resumes c.args.self.now)
    (returns-in-Some-true-clause-run g c)

pub returns-in-Some-true-clause-tidy : goal.returns-in-Some-true-clause-tidy
returns-in-Some-true-clause-tidy g c =
    let laws = g.met.S.LockSpace.laws in
    leaves-none g.S.LockSpace laws c.args.space.now c.args.self.now c.requires (resuming c.args.self.now) c.look.new.space (c.look.result, c.look.new.self)
    (none-resuming g.S.LockSpace laws c.args.space.now c.args.self.now c.requires) (returns-in-Some-true-clause-run g c) c.look.ensures.attends

pub returns-in-Pending-clause-run : goal.returns-in-Pending-clause-run
returns-in-Pending-clause-run g c = search rules

pub returns-in-Pending-clause-outcome : goal.returns-in-Pending-clause-outcome
returns-in-Pending-clause-outcome g c =
    each_reply g.S.LockSpace.joins (WaitComesTo c.args.self.now) (resuming c.args.self.now) _ _ (c.search_on.result, c.search_on.new.self) (resumes c.args.self.now)
    (returns-in-Pending-clause-run g c)

pub returns-in-Pending-clause-tidy : goal.returns-in-Pending-clause-tidy
returns-in-Pending-clause-tidy g c =
    let laws = g.met.S.LockSpace.laws in
    leaves-none g.S.LockSpace laws c.args.space.now c.args.self.now c.requires (resuming c.args.self.now) c.search_on.new.space (c.search_on.result, c.search_on.new.self)
    (none-resuming g.S.LockSpace laws c.args.space.now c.args.self.now c.requires) (returns-in-Pending-clause-run g c) c.search_on.ensures.attends

pub returns-in-Settled-clause-run : goal.returns-in-Settled-clause-run
returns-in-Settled-clause-run g c = search rules

pub returns-in-Settled-clause-outcome : goal.returns-in-Settled-clause-outcome
returns-in-Settled-clause-outcome g c =
    each_reply g.S.LockSpace.joins (WaitComesTo c.args.self.now) (resuming c.args.self.now) _ _ (c.end_wait.result, c.end_wait.new.self) (resumes c.args.self.now)
    (returns-in-Settled-clause-run g c)

pub returns-in-Settled-clause-tidy : goal.returns-in-Settled-clause-tidy
returns-in-Settled-clause-tidy g c =
    let laws = g.met.S.LockSpace.laws in
    leaves-none g.S.LockSpace laws c.args.space.now c.args.self.now c.requires (resuming c.args.self.now) c.end_wait.new.space (c.end_wait.result, c.end_wait.new.self)
    (none-resuming g.S.LockSpace laws c.args.space.now c.args.self.now c.requires) (returns-in-Settled-clause-run g c) c.end_wait.ensures.attends
