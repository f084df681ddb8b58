-- The session may wish so, and what became of the wish is told by the visit.
use Rattle.std.proofs.Common.{Ok, [], ap, arith, inl, refl, ◌∙◌, ◌∷◌}
use Rattle.mdl_shared.proofs.Lemmas.{Gain, Lists, Try_now, below-seen, done-order, gained-by, keeps-same, kept, lists-done, lists-visited, may-wish, member, none-seen, owed-both, owed-visited, quiet-visit, still-member, try-granted, unasked, visited, visited-owes}
use Rattle.mdl_shared.proofs.member.Member.try_by_latch.Goals as goal

pub try_now-requires : goal.try_now-requires
try_now-requires g c =
    let m = c.args.self.now in
    let may = may-wish m c.args.place c.args.kind c.args.mode (c.requires.may.pinned, c.requires.may.clear) in record {
      may = record { at = may.at; wish = may.wish };
      number = ap (λ (l : Lists). l.next) m.lists;
    }

pub push_reserved-requires-clause-below : goal.push_reserved-requires-clause-below
push_reserved-requires-clause-below g c = below-seen c.args.self.now _ _ (refl, refl)

pub push_reserved-requires-clause-slow : goal.push_reserved-requires-clause-slow
push_reserved-requires-clause-slow g c = none-seen c.args.self.now c.args.place _ c.requires.may.unfast refl

pub overflow_add-self : goal.overflow_add-self
overflow_add-self g c =
    let m = c.args.self.now in
    let may = may-wish m c.args.place c.args.kind c.args.mode (c.requires.may.pinned, c.requires.may.clear) in
    omega (arith, may.below, ap (λ (l : Lists). l.next) m.lists)

pub invariant_of-self : goal.invariant_of-self
invariant_of-self g c =
    let m = c.args.self.now in
    let visit = (c.try_now.ensures.blocked (c.in-Ok-Blocked.is ∙ ap Ok c.in-Ok-Blocked.field-0-is)).0 in
    let done = visited m.seat c.try_now.new.seat m.sessions refl visit in
    record {
      lawful = ∣ still-member done (member m) ∣₁;
      lists = lists-done m c.args.place [] (lists-visited visit) refl refl;
      room = m.room;
      owed = owed-visited m visit;
    }

pub returns-in-Ok-Blocked : goal.returns-in-Ok-Blocked
returns-in-Ok-Blocked g c =
    let m = c.args.self.now in
    let went = c.try_now.ensures.blocked (c.in-Ok-Blocked.is ∙ ap Ok c.in-Ok-Blocked.field-0-is) in record {
      tried = record {
        quiet = quiet-visit (visited m.seat c.try_now.new.seat m.sessions refl went.0) went.0.1;
        met = went.1;
        room = keeps-same m.tickets.room;
      };
      unchanged = tt;
      once = c.try_now.ensures.once;
      refused = tt;
    }

pub invariant_of-self-in-Err-1 : goal.invariant_of-self-in-Err-1
invariant_of-self-in-Err-1 g c =
    let m = c.args.self.now in
    let visit = c.in-Err.ensures.refused.0 in
    let done = visited m.seat c.try_now.new.seat m.sessions refl visit in
    record {
      lawful = ∣ still-member done (member m) ∣₁;
      lists = lists-done m c.args.place [] (lists-visited visit) refl refl;
      room = m.room;
      owed = owed-visited m visit;
    }

pub invariant_of-self-2 : goal.invariant_of-self-2
invariant_of-self-2 g c =
    let m = c.args.self.now in
    let may = may-wish m c.args.place c.args.kind c.args.mode (c.requires.may.pinned, c.requires.may.clear) in
    let visit = (c.try_now.ensures.granted (c.in-Ok-Granted.is ∙ ap Ok c.in-Ok-Granted.field-0-is)).0 in
    let done = gained-by m c.try_now.new.seat c.args.place c.args.mode c.requires.may.unfast visit in
    record {
      lawful = ∣ kept (Try_now _ _ _) (member m) (done-order done (member m) (inl may.wish.idle)) (try-granted (member m) c.args.place c.args.mode may.clear (ap (λ (l : Lists). l.next) m.lists) done) ∣₁;
      lists = lists-done m c.args.place (Gain m.next c.args.mode ∷ []) (lists-visited visit) c.push_reserved.ensures.gained c.push_reserved.ensures.same;
      room = unasked m may.wish.idle _;
      owed = owed-both m c.push_reserved.ensures.owes (visited-owes visit);
    }

pub returns : goal.returns
returns g c =
    let m = c.args.self.now in
    let went = c.try_now.ensures.granted (c.in-Ok-Granted.is ∙ ap Ok c.in-Ok-Granted.field-0-is) in record {
      tried = record {
        first = ap (λ (l : Lists). l.next) m.lists;
        quiet = quiet-visit (gained-by m c.try_now.new.seat c.args.place c.args.mode c.requires.may.unfast went.0) went.0.1;
        met = went.1;
        room = c.push_reserved.ensures.room;
      };
      unchanged = tt;
      once = c.try_now.ensures.once;
      refused = tt;
    }
