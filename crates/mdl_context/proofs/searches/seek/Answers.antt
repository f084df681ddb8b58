-- No search changes what the session has, and each is made as said.
use Rattle.std.proofs.Common.{◌≡◌, ◌<◌, ◌-◌, ◌+◌, suc, false, Err, rules, refl, ◌∙◌, subst, arith}
use Rattle.std.specs.Prelude.{◌==◌}
use Rattle.std.proofs.lemmas.Bool.Decides.{nat_tests}
use Rattle.mdl_calls.specs.Words.{Knowledge, Runs, Cut_off, seeking, most_searches}
use Rattle.mdl_context.proofs.AttendLemmas.{known-still}
use Rattle.mdl_context.proofs.SeekLemmas.{search-refused, seek-none, seek-lost, seek-failed, seek-on, seek-cut}
use Rattle.mdl_context.proofs.searches.seek.Goals as goal

pub returns-in_err-search-clause-run : goal.returns-in_err-search-clause-run
returns-in_err-search-clause-run g c =
    let left : 0 < most_searches - c.loop-turn._turn = omega (arith, c.loop-turn-test.true) in
    let refused : c.from_residual.result ≡ Err c.in_err-search.field-0.0 = search rules in
    rw refused (c.loop-turn.invariant.run _ _ (seek-failed g.S.LockSpace.joins c.args.who _ _ _ _ left c.in_err-search.ensures))

pub returns-in_err-search-clause-refused : goal.returns-in_err-search-clause-refused
returns-in_err-search-clause-refused g c =
    let knows : Knowledge = g.S.LockSpace.knows c.loop-turn.space c.args.who in
    let refused : c.from_residual.result ≡ Err c.in_err-search.field-0.0 = search rules in
    rw refused (search-refused knows c.args.who _ _ (g.met.S.LockSpace.laws.explains _ _ _ _ _ refl c.in_err-search.ensures))

pub returns-in_err-search-clause-own : goal.returns-in_err-search-clause-own
returns-in_err-search-clause-own g c = g.met.S.LockSpace.laws.changes _ _ _ _ _ refl c.in_err-search.ensures ∙ c.loop-turn.invariant.own

pub returns-in-NoCycle-clause-run : goal.returns-in-NoCycle-clause-run
returns-in-NoCycle-clause-run g c =
    let left : 0 < most_searches - c.loop-turn._turn = omega (arith, c.loop-turn-test.true) in
    c.loop-turn.invariant.run _ _ (seek-none g.S.LockSpace.joins c.args.who _ _ _ left (rw c.in-NoCycle.is at c.in_ok-search.ensures))

pub returns-in-NoCycle-clause-own : goal.returns-in-NoCycle-clause-own
returns-in-NoCycle-clause-own g c = g.met.S.LockSpace.laws.changes _ _ _ _ _ refl c.in_ok-search.ensures ∙ c.loop-turn.invariant.own

pub returns-in-Victim-clause-run : goal.returns-in-Victim-clause-run
returns-in-Victim-clause-run g c =
    let left : 0 < most_searches - c.loop-turn._turn = omega (arith, c.loop-turn-test.true) in
    c.loop-turn.invariant.run _ _ (seek-lost g.S.LockSpace.joins c.args.who _ _ _ c.in-Victim.victim left c.if-victim-who.true (rw c.in-Victim.is at c.in_ok-search.ensures))

pub returns-in-Victim-clause-own : goal.returns-in-Victim-clause-own
returns-in-Victim-clause-own g c = g.met.S.LockSpace.laws.changes _ _ _ _ _ refl c.in_ok-search.ensures ∙ c.loop-turn.invariant.own

pub loop-turn-preserved : goal.loop-turn-preserved
loop-turn-preserved g c =
    let laws = g.met.S.LockSpace.laws in
    let kept = c.loop-turn.invariant in
    let turn = c.loop-turn._turn in
    let joins = g.S.LockSpace.joins in
    let who = c.args.who in
    let count : suc (most_searches - (turn + 1)) ≡ most_searches - turn = omega (arith, c.loop-turn-test.true) in
    let other : (c.in-Victim.victim == who) ≡ false = grind (arith, nat_tests, c.if-victim-who.false) in
    record {
      speaks = laws.keeps _ _ _ _ _ kept.speaks c.in_ok-search.ensures;
      remembers = λ place key knew. known-still g.S.LockSpace laws _ _ _ _ _ kept.speaks refl c.in_ok-search.ensures place key (kept.remembers place key knew);
      own = laws.changes _ _ _ _ _ refl c.in_ok-search.ensures ∙ kept.own;
      run = λ b end rest. kept.run b end (subst (λ n. Runs joins c.loop-turn.space (seeking n who) end b) count
          (seek-on joins who _ _ _ b c.in-Victim.victim end other (rw c.in-Victim.is at c.in_ok-search.ensures) rest));
    }

pub returns-clause-run : goal.returns-clause-run
returns-clause-run g c =
    let none : 0 ≡ most_searches - c.loop-turn._turn = omega (arith, c.loop-turn-test.false) in
    c.loop-turn.invariant.run _ Cut_off (subst (λ n. Runs g.S.LockSpace.joins c.loop-turn.space (seeking n c.args.who) Cut_off c.loop-turn.space) none (seek-cut g.S.LockSpace.joins c.args.who _))
