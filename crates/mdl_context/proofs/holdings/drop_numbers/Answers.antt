-- The number of each ticket that goes is taken out.
use Rattle.std.proofs.Common.{◌≤◌, ◌-◌, ◌∙◌, get_or, length, sym, arith}
use Rattle.mdl_context.specs.Goings.{goes}
use Rattle.mdl_context.specs.Indexes.{ticket_numbers, without_one}
use Rattle.mdl_context.proofs.PlaceLemmas.{index-less, rising-left, rising-numbers, left-has, left-without}
use Rattle.mdl_context.proofs.ReleaseLemmas.{no_item, left, left-stays}
use Rattle.mdl_context.proofs.SpareLemmas.{one-dropped}
use Rattle.mdl_context.proofs.holdings.drop_numbers.Goals as goal

pub remove-requires : goal.remove-requires
remove-requires c =
    let kept = c.args.tickets.now in
    let at = c.loop-at.at in
    let place = (get_or kept (at - 1) no_item).place in
    let p = goes c.args.going.now in
    rw (c.loop-at.invariant.index place) (rising-numbers place (left p at kept) (rising-left p at kept c.requires.rising))

pub loop-at-preserved-then-names : goal.loop-at-preserved-then-names
loop-at-preserved-then-names c =
    let kept = c.args.tickets.now in
    let at = c.loop-at.at in
    let t = get_or kept (at - 1) no_item in
    let more = c.loop-at-test.true in
    let inside : at ≤ length kept = omega (arith, c.loop-at.auto.at) in
    let p = goes c.args.going.now in
    let known = c.loop-at.invariant in
    let goes_now = sym c.names.ensures ∙ c.if-names.true in
    let rising = rising-left p at kept c.requires.rising in
    let has = left-has p kept at more inside c.requires.rising in
    let less = index-less (left p at kept) t.id t c.loop-at.by_place c.remove.new.self rising has known.index c.remove.ensures.numbers in
    record {
      index = rw (left-without p kept at more inside c.requires.rising goes_now) less;
      room = λ place there. c.remove.ensures.stays place (known.room place there);
      others = one-dropped c.args.by_place.now c.loop-at.by_place c.remove.new.self c.loop-at.spare c.mark.new.self t.place
          (without_one t.id (ticket_numbers t.place c.loop-at.by_place)) known.others c.remove.ensures.numbers c.mark.ensures.here c.mark.ensures.others;
      marked = λ place there. c.mark.ensures.others place (known.marked place there);
    }

pub loop-at-preserved : goal.loop-at-preserved
loop-at-preserved c =
    let kept = c.args.tickets.now in
    let at = c.loop-at.at in
    let inside : at ≤ length kept = omega (arith, c.loop-at.auto.at) in
    let p = goes c.args.going.now in
    let known = c.loop-at.invariant in
    let stays_now = sym c.names.ensures ∙ c.if-names.false in
    record {
      index = rw (left-stays p kept at c.loop-at-test.true inside stays_now) known.index;
      room = known.room;
      others = known.others;
      marked = known.marked;
    }
