-- To lose patience changes nothing that the session has, and settles its wait.
use Rattle.std.proofs.Common.{ap, refl, rules, sym, ◌∙◌, ◌≡◌}
use Rattle.mdl_calls.specs.Causes.{Knowledge}
use Rattle.mdl_context.specs.Contexts.{ContextView}
use Rattle.mdl_context.proofs.AttendLemmas.{attends-still}
use Rattle.mdl_context.proofs.ServingLemmas.{waits-there}
use Rattle.mdl_context.proofs.WaitLemmas.{is_ok-timed_out}
use Rattle.mdl_calls.specs.Words.{Ask, Settle_timeout}
use Rattle.mdl_context.specs.Waits.{ending_wait, giving_up_wait}
use Rattle.mdl_context.proofs.OthersLemmas.{leaves, for_ending}
use Rattle.mdl_context.proofs.JustLemmas.{leaves-none}
use Rattle.mdl_context.proofs.LeftPinLemmas.{none-giving_up_wait}
use Rattle.mdl_calls.proofs.FaithfulLemmas.{each_reply}
use Rattle.mdl_context.specs.Outcomes.{WaitComesTo}
use Rattle.mdl_context.proofs.OutcomeLemmas.{gives_up}
use Rattle.mdl_context.proofs.context.Context.give_up.Goals as goal

pub unwrap-requires : goal.unwrap-requires
unwrap-requires g c =
    let knows : Knowledge = g.S.LockSpace.knows c.args.space.now c.self.inside.who in
    let waits = waits-there _ _ (rw (← c.self.view_is) at c.requires.serves) (sym c.is_waiting.ensures ∙ c.if-not-is_waiting.false) in
    is_ok-timed_out knows c.self.inside.who _ _ (g.met.S.LockSpace.laws.explains _ _ _ _ _ refl c.settle_timeout.ensures) waits

pub end_wait-requires-clause-attends : goal.end_wait-requires-clause-attends
end_wait-requires-clause-attends g c =
    let same : c.self.inside.who ≡ c.args.self.now.who = ap (λ (v : ContextView). v.who) c.self.view_is in
    let laws = g.met.S.LockSpace.laws in
    attends-still g.S.LockSpace laws _ _ _ _ c.args.self.now c.requires refl refl refl (rw (same, c.unwrap.ensures) at c.settle_timeout.ensures)

pub returns-clause-others : goal.returns-clause-others
returns-clause-others g c =
    let same : c.self.inside.who ≡ c.args.self.now.who = ap (λ (v : ContextView). v.who) c.self.view_is in
    let laws = g.met.S.LockSpace.laws in
    leaves g.S.LockSpace laws c.args.self.now.who (Ask (Settle_timeout c.args.self.now.who) (λ _. ending_wait c.args.self.now)) _ _ (c.end_wait.result, c.end_wait.new.self) (refl, λ _. for_ending c.args.self.now)
    (_, _, rw same at c.settle_timeout.ensures, c.end_wait.ensures.run)

pub returns-clause-run : goal.returns-clause-run
returns-clause-run g c = search rules

pub returns-clause-outcome : goal.returns-clause-outcome
returns-clause-outcome g c =
    each_reply g.S.LockSpace.joins (WaitComesTo c.args.self.now) (giving_up_wait c.args.self.now) _ _ (c.end_wait.result, c.end_wait.new.self) (gives_up c.args.self.now)
    (returns-clause-run g c)

pub returns-clause-tidy : goal.returns-clause-tidy
returns-clause-tidy g c =
    let laws = g.met.S.LockSpace.laws in
    leaves-none g.S.LockSpace laws c.args.space.now c.args.self.now c.requires (giving_up_wait c.args.self.now) c.end_wait.new.space (c.end_wait.result, c.end_wait.new.self)
    (none-giving_up_wait g.S.LockSpace laws c.args.space.now c.args.self.now c.requires) (returns-clause-run g c) c.end_wait.ensures.attends
