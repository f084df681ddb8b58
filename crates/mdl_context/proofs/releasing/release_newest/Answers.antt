-- The newest ticket is held until it is released, and then it isn't.
use Rattle.std.proofs.Common.{◌≡◌, ◌-◌, ◌∙◌, length, take, sym, ap, arith}
use Rattle.mdl_calls.specs.SessionLocks.{SessionLocks}
use Rattle.mdl_context.specs.Contexts.{AreRising}
use Rattle.mdl_context.specs.Goings.{goes}
use Rattle.mdl_context.proofs.PlaceLemmas.{length-others, without-last}
use Rattle.mdl_context.proofs.ReleaseLemmas.{no_item, run-last, stays-last, holds-last, held-last}
use Rattle.mdl_context.proofs.SearchLemmas.{number-at}
use Rattle.mdl_context.proofs.releasing.release_newest.Goals as goal

pub release-requires-clause-held : goal.release-requires-clause-held
release-requires-clause-held g c =
    let known = c.loop-at.invariant in
    rw c.tickets.ensures (holds-last (goes c.args.going.now) c.loop-at.holdings.kept c.loop-at.at c.loop-at-test.true known.many (g.S.LockSpace.own c.loop-at.space c.args.who) known.held)

pub remove-requires-clause-rising : goal.remove-requires-clause-rising
remove-requires-clause-rising g c =
    let known = c.loop-at.invariant in
    rw known.held at (g.met.S.LockSpace.laws.rising _ _ known.speaks)

pub remove-requires-clause-here : goal.remove-requires-clause-here
remove-requires-clause-here g c =
    let known = c.loop-at.invariant in
    let rising : AreRising c.loop-at.holdings.kept = rw known.held at (g.met.S.LockSpace.laws.rising _ _ known.speaks) in
    let more = c.loop-at-test.true in
    rw c.tickets.ensures (number-at c.loop-at.holdings.kept (c.loop-at.at - 1) no_item rising (omega (arith, more, known.many)))

pub loop-at-preserved : goal.loop-at-preserved
loop-at-preserved g c =
    let p = goes c.args.going.now in
    let kept = c.loop-at.holdings.kept in
    let at = c.loop-at.at in
    let more = c.loop-at-test.true in
    let known = c.loop-at.invariant in
    let rising : AreRising kept = rw known.held at (g.met.S.LockSpace.laws.rising _ _ known.speaks) in
    let goes_now = rw c.tickets.ensures at (sym c.names.ensures ∙ c.if-not-names.false) in
    let others : c.remove.new.self.kept ≡ take (at - 1) kept = (rw c.tickets.ensures at c.remove.ensures.kept) ∙ without-last p kept at more known.many rising in
    let now : SessionLocks = g.S.LockSpace.own c.loop-at.space c.args.who in
    record {
      speaks = c.release.ensures.speaks;
      remembers = λ place key knew. c.release.ensures.remembers place key (known.remembers place key knew);
      many = ap length others ∙ length-others p kept at more known.many;
      run = λ b rest. known.run b (run-last p kept at more known.many g.S.LockSpace.joins c.args.who c.loop-at.space c.release.new.space b goes_now (rw c.tickets.ensures at c.release.ensures.released) (rw others at rest));
      kept = rw others (stays-last p kept at more known.many goes_now) ∙ known.kept;
      held = ap (λ (own : SessionLocks). own.held) (rw c.tickets.ensures at c.release.ensures.own)
          ∙ rw others (held-last p kept at more known.many now (g.met.S.LockSpace.laws.rising _ _ known.speaks) known.held);
      known = c.remove.ensures.known ∙ known.known;
      waits = c.remove.ensures.wait ∙ known.waits;
      wait = ap (λ (own : SessionLocks). own.wait) c.release.ensures.own ∙ known.wait;
      pins = ap (λ (own : SessionLocks). own.pins) c.release.ensures.own ∙ known.pins;
    }
