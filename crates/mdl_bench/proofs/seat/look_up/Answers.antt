-- The key was resolved, and room for tickets changes nothing.
use Rattle.mdl_calls.specs.Words.{placed}
use Rattle.mdl_bench.proofs.Knowing.{resolved-known, resolved-kept}
use Rattle.mdl_bench.proofs.seat.look_up.Goals as goal

pub returns-in-Ok-reserve_tickets-clause-known : goal.returns-in-Ok-reserve_tickets-clause-known
returns-in-Ok-reserve_tickets-clause-known g c =
    resolved-known c.args.session.now c.resolve.new.self c.reserve_tickets.new.self c.args.session.now.me.0.number c.in-Ok.place c.args.key.now
    c.in-Ok.ensures.joined c.reserve_tickets.ensures.same.0

pub returns-in-Ok-reserve_tickets-clause-kept : goal.returns-in-Ok-reserve_tickets-clause-kept
returns-in-Ok-reserve_tickets-clause-kept g c =
    resolved-kept c.args.session.now c.resolve.new.self c.reserve_tickets.new.self c.args.session.now.me.0.number c.args.key.now (placed c.resolve.result)
    c.resolve.ensures.joined c.reserve_tickets.ensures.same.0

pub returns-in-Err-reserve_tickets-clause-kept : goal.returns-in-Err-reserve_tickets-clause-kept
returns-in-Err-reserve_tickets-clause-kept g c =
    resolved-kept c.args.session.now c.resolve.new.self c.reserve_tickets.new.self c.args.session.now.me.0.number c.args.key.now (placed c.resolve.result)
    c.resolve.ensures.joined c.reserve_tickets.ensures.same.0
