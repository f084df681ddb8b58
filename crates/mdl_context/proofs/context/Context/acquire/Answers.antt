-- All calls are made for the session, and the terms are those of the request.
use Rattle.std.proofs.Common.{None, Some, refl, rules}
use Rattle.std.proofs.lemmas.Result.{on_err_weaker}
use Rattle.mdl_calls.proofs.FaithfulLemmas.{each_reply}
use Rattle.mdl_context.specs.declared.request.Acquire.{Acquire}
use Rattle.mdl_context.specs.Requests.{Outcome, acquiring_at, finding}
use Rattle.mdl_context.specs.Tidying.{IsTidy}
use Rattle.mdl_context.specs.Wishes.{wish_of_request}
use Rattle.mdl_context.proofs.AttendLemmas.{known-place}
use Rattle.mdl_context.proofs.LetGoLemmas.{had-same, tidy-same}
use Rattle.mdl_context.proofs.OthersLemmas.{leaves, for_reusing, for_finding}
use Rattle.mdl_context.proofs.StayTidyLemmas.{tidy-finding}
use Rattle.mdl_context.proofs.TidyLemmas.{debts-run}
use Rattle.mdl_context.proofs.context.Context.acquire.Goals as goal

pub gain_at-requires-clause-known : goal.gain_at-requires-clause-known
gain_at-requires-clause-known g c = known-place c.args.request.key.now c.args.self.now.known c.in-Some.place (search rules)

pub returns-in-Some-clause-others : goal.returns-in-Some-clause-others
returns-in-Some-clause-others g c =
    let laws = g.met.S.LockSpace.laws in
    leaves g.S.LockSpace laws c.args.self.now.who (acquiring_at c.in-Some.place (wish_of_request c.args.request) c.args.self.now) _ _ (c.gain_at.result, c.gain_at.new.self) (for_reusing _ _ _ c.args.self.now)
    ((rw c.terms.ensures at c.gain_at.ensures.run) c.args.request.key.now refl)

pub returns-in-None-clause-others : goal.returns-in-None-clause-others
returns-in-None-clause-others g c =
    let laws = g.met.S.LockSpace.laws in
    leaves g.S.LockSpace laws c.args.self.now.who (finding None (wish_of_request c.args.request) c.args.self.now) _ _ (c.look_up.result, c.look_up.new.self) (for_finding None (wish_of_request c.args.request) c.args.self.now) c.look_up.ensures.run

pub returns-in-Some-clause-own : goal.returns-in-Some-clause-own
returns-in-Some-clause-own g c =
    on_err_weaker c.gain_at.result (had-same g.S.LockSpace g.met.S.LockSpace.laws c.args.space.now c.gain_at.new.space c.args.self.now.who c.args.request.key.now) c.gain_at.ensures.own

pub returns-in-Some-clause-tidy : goal.returns-in-Some-clause-tidy
returns-in-Some-clause-tidy g c =
    let laws = g.met.S.LockSpace.laws in
    let before = c.args.self.now in
    let request = wish_of_request c.args.request in
    let run = (rw c.terms.ensures at c.gain_at.ensures.run) c.args.request.key.now refl in
    let end : Outcome Acquire = (c.gain_at.result, c.gain_at.new.self) in
    tidy-same g.S.LockSpace laws c.args.space.now c.gain_at.new.space before c.gain_at.new.self
    (debts-run g.S.LockSpace laws (acquiring_at c.in-Some.place request before) c.args.space.now c.gain_at.new.space end before.who c.requires.speaks run)
    c.requires c.gain_at.ensures.who
    (λ tidy. each_reply g.S.LockSpace.joins (λ outcome. IsTidy outcome.1) (finding (Some c.in-Some.place) request before) c.args.space.now c.gain_at.new.space end
    (tidy-finding (Some c.in-Some.place) request before tidy (search rules)) run) c.gain_at.ensures.known c.gain_at.ensures.pins

pub returns-then-is_waiting-clause-own : goal.returns-then-is_waiting-clause-own
returns-then-is_waiting-clause-own g c =
    had-same g.S.LockSpace g.met.S.LockSpace.laws c.args.space.now c.args.space.now c.args.self.now.who c.args.request.key.now refl

pub returns-in-Some-clause-placed : goal.returns-in-Some-clause-placed
returns-in-Some-clause-placed g c e = absurd (c.gain_at.ensures.placed e)

pub returns-in-None-clause-placed : goal.returns-in-None-clause-placed
returns-in-None-clause-placed g c = c.look_up.ensures.placed
