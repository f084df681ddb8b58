-- The ticket has the other one's mode, and that one goes.
use Rattle.std.proofs.Common.{Some, [], ◌∷◌, inr, refl, sym, ap, ◌∙◌}
use Rattle.mdl_shared.proofs.Lemmas.{Alter, Lists, Lose, Merge, done-order, keeps-before, kept, lists-done, lists-visited, member, merge-idle, merge-joins, merge-passed, merge_fault, merges-slow, owed-both, quiet-visit, room-kept, slow-held, spared, unnumbered, visited, visited-owes, without_at}
use Rattle.mdl_shared.proofs.Members.{fast-struck}
use Rattle.mdl_shared.proofs.member.Member.merge_by_latch.Goals as goal

pub merge-requires-clause-at : goal.merge-requires-clause-at
merge-requires-clause-at g c = (slow-held c.args.self.now c.args.kept c.requires.may.unfast c.requires.may.held.0).0.at

pub merge-requires-clause-known : goal.merge-requires-clause-known
merge-requires-clause-known g c = (slow-held c.args.self.now c.args.kept c.requires.may.unfast c.requires.may.held.0).0.known

pub merge-requires-clause-may : goal.merge-requires-clause-may
merge-requires-clause-may g c =
    let m = c.args.self.now in
    let may = merge-passed c.args.kept c.args.gone m.asks c.requires.may.clear in record {
      idle = ap (λ (l : Lists). l.asks) (sym m.lists) ∙ merge-idle c.args.kept c.args.gone m.asks c.requires.may.clear;
      held = ((slow-held m c.args.kept c.requires.may.unfast c.requires.may.held.0).1.its, (slow-held m c.args.gone c.requires.may.unfast c.requires.may.held.1).1.its);
      two = may.0;
      here = may.1;
      covered = may.2;
    }

pub set_mode-requires : goal.set_mode-requires
set_mode-requires g c =
    let m = c.args.self.now in
    let t = c.args.kept in
    record { slow = unnumbered m t.number (spared (member m) t.number t (slow-held m t c.requires.may.unfast c.requires.may.held.0).1.its) }

pub invariant_of-self : goal.invariant_of-self
invariant_of-self g c =
    let m = c.args.self.now in
    let is = member m in
    let t = c.args.kept in
    let gone = c.args.gone in
    let one = slow-held m t c.requires.may.unfast c.requires.may.held.0 in
    let other = slow-held m gone c.requires.may.unfast c.requires.may.held.1 in
    let free = ap (λ (l : Lists). merge_fault (Some t) (Some gone) l.asks) (sym m.lists) ∙ c.requires.may.clear in
    let visit = c.merge.ensures.merged in
    let slow = merges-slow is t.place t.number gone.number gone.mode t gone one.1.its other.1.its in
    let done = visited m.seat c.merge.new.seat m.sessions slow visit in
    record {
      lawful = ∣ kept (Merge _ _ _) is (done-order done is (inr refl)) (merge-joins is t.number t one.0.its gone.number gone other.0.its free done) ∣₁;
      lists = lists-done m t.place (Alter t.number gone.mode ∷ Lose gone.number ∷ []) (lists-visited visit)
          (c.strike.ensures.struck.0 ∙ ap (without_at t.place gone.number) c.set_mode.ensures.changed.0)
          (fast-struck m t.place gone.number (spared is gone.number gone other.1.its)
          (c.strike.ensures.struck.1 ∙ ap (without_at t.place gone.number) c.set_mode.ensures.changed.1));
      room = λ ask asks.
          room-kept c.set_mode.new.self c.strike.new.self c.strike.ensures.rest.room (room-kept m.tickets c.set_mode.new.self c.set_mode.ensures.rest.room (m.room ask asks));
      owed = owed-both m (c.strike.ensures.rest.owes ∙ c.set_mode.ensures.rest.owes) (visited-owes visit);
    }

pub returns : goal.returns
returns g c =
    let m = c.args.self.now in
    let t = c.args.kept in
    let gone = c.args.gone in
    let one = slow-held m t c.requires.may.unfast c.requires.may.held.0 in
    let other = slow-held m gone c.requires.may.unfast c.requires.may.held.1 in
    let visit = c.merge.ensures.merged in
    let slow = merges-slow (member m) t.place t.number gone.number gone.mode t gone one.1.its other.1.its in
    record {
      done = record {
        merged = quiet-visit (visited m.seat c.merge.new.seat m.sessions slow visit) visit.1;
        met = c.merge.ensures.step;
        once = c.merge.ensures.once;
        room = keeps-before 0 m.tickets.room c.set_mode.new.self.room c.strike.new.self.room c.set_mode.ensures.rest.room c.strike.ensures.rest.room;
      };
    }
