-- One more ticket is written in each turn, until there is none, or no room for it.
use Rattle.std.proofs.Common.{◌≡◌, ◌∙◌, ◌<◌, ◌≤◌, length, Some, None, refl, sym, ap, arith}
use Rattle.std.specs.Prelude.{slice_get}
use Rattle.std.proofs.lemmas.Option.{get_or_from_slice_get, slice_get_within}
use Rattle.mdl_c_calls.specs.Listings.{waiting_at, waiting_row}
use Rattle.mdl_c_calls.specs.Managers.{Managed}
use Rattle.mdl_c_parts.proofs.WrittenLemmas.{no-more, written-more, written-to}
use Rattle.mdl_c_calls.proofs.manager.ServedSpace.write_waiting.Goals as goal

pub loop-at-init : goal.loop-at-init
loop-at-init c = record { written = refl; within = omega arith; same = refl }

pub loop-at-preserved : goal.loop-at-preserved
loop-at-preserved c =
    let now = c.args.self.now in let tickets = waiting_at c.args.place now.space in let before = c.loop-at.invariant in
    let found : slice_get tickets c.loop-at.at ≡ Some c.in-Some.ticket =
    ap (λ (m : Managed). slice_get (waiting_at c.args.place m.space) c.loop-at.at) (sym before.same) ∙ sym c.waiting_at.ensures ∙ c.in-Some.is in
    let more : c.loop-at.at < length tickets = slice_get_within tickets c.loop-at.at c.in-Some.ticket found in
    record {
      written = written-more (waiting_row now) tickets c.args.room.now c.loop-at.room c.loop-at.at c.in-Some.ticket c.waiting_row.result more c.loop-at-test.true before.written
          (c.waiting_row.ensures.told ∙ ap (λ m. waiting_row m c.in-Some.ticket) before.same
          ∙ ap (waiting_row now) (sym (get_or_from_slice_get tickets c.loop-at.at c.in-Some.ticket c.in-Some.ticket found)));
      within = omega (arith, more);
      same = c.waiting_row.ensures.unchanged ∙ before.same;
    }

pub returns-in_default-clause-written : goal.returns-in_default-clause-written
returns-in_default-clause-written c =
    let now = c.args.self.now in let tickets = waiting_at c.args.place now.space in let before = c.loop-at.invariant in
    let none : slice_get tickets c.loop-at.at ≡ None =
    ap (λ (m : Managed). slice_get (waiting_at c.args.place m.space) c.loop-at.at) (sym before.same) ∙ sym c.waiting_at.ensures ∙ c.in_default.is in
    let over : length tickets ≤ c.loop-at.at = no-more tickets c.loop-at.at none in
    before.written ∙ written-to (waiting_row now) tickets c.args.room.now c.loop-at.at (omega (arith, over, before.within, c.loop-at-test.true))

pub returns-in_default-clause-unchanged : goal.returns-in_default-clause-unchanged
returns-in_default-clause-unchanged c = c.loop-at.invariant.same

pub returns-clause-written : goal.returns-clause-written
returns-clause-written c =
    let now = c.args.self.now in let before = c.loop-at.invariant in
    before.written
    ∙ written-to (waiting_row now) (waiting_at c.args.place now.space) c.args.room.now c.loop-at.at
    (omega (arith, before.within, c.loop-at-test.false, c.loop-at.auto.at-end))

pub returns-clause-unchanged : goal.returns-clause-unchanged
returns-clause-unchanged c = c.loop-at.invariant.same
