-- What was found at last is what comes of it.
use Rattle.std.proofs.Common.{◌≡◌, Err, refl, subst, ◌∙◌, rules}
use Rattle.mdl_visits.proofs.Lemmas.{FindsAtOnce, finds_after, finds_free, only_reads_on, reads_none, reads_on}
use Rattle.mdl_visits.proofs.settle_victim.settle_victim.Goals as goal

pub returns-then-is_none : goal.returns-then-is_none
returns-then-is_none g c = record {
  reads = (refl, reads_none c.args.seat.now.me);
  found = finds_free c.args.graph.now c.args.seat.now (search rules);
  nothing = tt;
}

pub returns-in_err-cycle : goal.returns-in_err-cycle
returns-in_err-cycle g c =
    let refused : c.from_residual.result ≡ Err c.in_err-cycle.field-0.0 = search rules in
    record { reads = (refl, reads_none c.args.seat.now.me); found = rw refused tt; nothing = rw refused refl }

pub loop-init : goal.loop-init
loop-init g c = ((refl, reads_none c.args.seat.now.me), refl)

pub loop-preserved : goal.loop-preserved
loop-preserved g c =
    let once = c.in_ok-found.ensures in
    let missed = subst (FindsAtOnce c.args.graph.now c.loop.seat c.settle_victim_once.new.seat) c.in_default.is once.found in
    only_reads_on c.args.seat.now c.loop.seat c.settle_victim_once.new.seat c.loop.invariant (once.reads, missed.0)

pub returns-in_err-found : goal.returns-in_err-found
returns-in_err-found g c =
    let once = c.in_err-found.ensures in
    let reads = reads_on c.args.seat.now c.loop.seat c.settle_victim_once.new.seat c.loop.invariant.0 once.reads in
    let refused : c.from_residual-in_err-found.result ≡ Err c.in_err-found.field-0.0 = search rules in
    record { reads = reads; found = rw refused tt; nothing = rw refused (once.nothing ∙ c.loop.invariant.1) }

pub returns-in-Some-2 : goal.returns-in-Some-2
returns-in-Some-2 g c =
    let once = c.in_ok-found.ensures in
    let found = subst (FindsAtOnce c.args.graph.now c.loop.seat c.settle_victim_once.new.seat) c.in-Some-2.is once.found in
    record {
      reads = reads_on c.args.seat.now c.loop.seat c.settle_victim_once.new.seat c.loop.invariant.0 once.reads;
      found = finds_after c.args.graph.now c.args.seat.now c.loop.seat c.settle_victim_once.new.seat c.loop.invariant c.in-Some-2.found found;
      nothing = tt;
    }
