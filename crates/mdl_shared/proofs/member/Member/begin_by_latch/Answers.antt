-- The session may wish so, and what became of the wish is told by the visit.
use Rattle.std.proofs.Common.{Ok, Option, [], ap, arith, inl, refl, subst, sym, ℕ, ◌+◌, ◌∙◌, ◌∷◌, ◌≡◌}
use Rattle.mdl_shared.proofs.Lemmas.{AreStepsOf, Ask, Begin_wait, Gain, HasRoom, Lists, MeetsBlocked, MeetsOpening, SessionView, StepRecord, begin-granted, begun-joins, begun-order, below-seen, done-order, gained-by, keeps-same, kept, lists-done, lists-visited, lists_seen, may-wish, member, none-seen, option_map_or, owed-both, owed-on, owed-visited, quiet-visit, still-member, unasked, unfast-seen, visited, visited-owes, waiting-lists}
use Rattle.mdl_shared.proofs.WishCalls.{begun}
use Rattle.mdl_shared.proofs.member.Member.begin_by_latch.Goals as goal

pub overflow_add-wait : goal.overflow_add-wait
overflow_add-wait g c =
    let m = c.args.self.now in
    let may = may-wish m c.args.place c.args.kind c.args.mode (c.requires.may.pinned, c.requires.may.clear) in
    omega (arith, may.below, (member m).fewer.0, ap (λ (l : Lists). l.waits) m.lists)

pub begin_wait-requires : goal.begin_wait-requires
begin_wait-requires g c =
    let m = c.args.self.now in
    let may = may-wish m c.args.place c.args.kind c.args.mode (c.requires.may.pinned, c.requires.may.clear) in
    let waits = ap (λ (l : Lists). l.waits) m.lists in record {
      may = record { at = may.at; wish = may.wish };
      new = record {
        unfast = unfast-seen m c.requires.may.unfast;
        is_next = ap (λ (l : Lists). l.next) m.lists;
        counts = (ap (λ (n : ℕ). n + 1) waits, omega (arith, may.below, (member m).fewer.0, waits));
      };
    }

pub invariant_of-self-in-Err-1 : goal.invariant_of-self-in-Err-1
invariant_of-self-in-Err-1 g c =
    let m = c.args.self.now in
    let visit = c.in-Err.ensures.refused.0 in
    let done = visited m.seat c.begin_wait.new.seat m.sessions refl visit in
    record {
      lawful = ∣ still-member done (member m) ∣₁;
      lists = lists-done m c.args.place [] (lists-visited visit) refl refl;
      room = m.room;
      owed = owed-visited m visit;
    }

-- ---- the ticket was granted

pub push_reserved-requires-clause-below : goal.push_reserved-requires-clause-below
push_reserved-requires-clause-below g c = below-seen c.args.self.now _ _ (refl, refl)

pub push_reserved-requires-clause-slow : goal.push_reserved-requires-clause-slow
push_reserved-requires-clause-slow g c = none-seen c.args.self.now c.args.place _ c.requires.may.unfast refl

pub overflow_add-self : goal.overflow_add-self
overflow_add-self g c =
    let m = c.args.self.now in
    let may = may-wish m c.args.place c.args.kind c.args.mode (c.requires.may.pinned, c.requires.may.clear) in
    omega (arith, may.below, ap (λ (l : Lists). l.next) m.lists)

pub invariant_of-self : goal.invariant_of-self
invariant_of-self g c =
    let m = c.args.self.now in
    let may = may-wish m c.args.place c.args.kind c.args.mode (c.requires.may.pinned, c.requires.may.clear) in
    let visit = (c.begin_wait.ensures.granted (c.in-Ok-Granted.is ∙ ap Ok c.in-Ok-Granted.field-0-is)).0 in
    let done = gained-by m c.begin_wait.new.seat c.args.place c.args.mode c.requires.may.unfast visit in
    record {
      lawful = ∣ kept (Begin_wait _ _ _) (member m) (done-order done (member m) (inl may.wish.idle)) (begin-granted (member m) c.args.place c.args.mode may.clear (ap (λ (l : Lists). l.next) m.lists) done) ∣₁;
      lists = lists-done m c.args.place (Gain m.next c.args.mode ∷ []) (lists-visited visit) c.push_reserved.ensures.gained c.push_reserved.ensures.same;
      room = unasked m may.wish.idle _;
      owed = owed-both m c.push_reserved.ensures.owes (visited-owes visit);
    }

pub returns-in-Ok-Granted : goal.returns-in-Ok-Granted
returns-in-Ok-Granted g c =
    let m = c.args.self.now in
    let went = c.begin_wait.ensures.granted (c.in-Ok-Granted.is ∙ ap Ok c.in-Ok-Granted.field-0-is) in record {
      begun = record {
        first = ap (λ (l : Lists). l.next) m.lists;
        quiet = quiet-visit (gained-by m c.begin_wait.new.seat c.args.place c.args.mode c.requires.may.unfast went.0) went.0.1;
        met = went.1;
        room = c.push_reserved.ensures.room;
      };
      unchanged = tt;
      once = c.begin_wait.ensures.once;
      refused = tt;
    }

-- ---- the session waits for it

pub invariant_of-self-2 : goal.invariant_of-self-2
invariant_of-self-2 g c =
    let m = c.args.self.now in
    let may = may-wish m c.args.place c.args.kind c.args.mode (c.requires.may.pinned, c.requires.may.clear) in
    let now = begun m.seat c.begin_wait.new.seat m.sessions {room = m.tickets.room} {pins = m.known.pins} (c.begin_wait.ensures.waiting (c.in-Ok-Waiting.is ∙ ap Ok c.in-Ok-Waiting.field-0-is)).0 in
    record {
      lawful = ∣ kept (Begin_wait _ _ _) (member m) (begun-order (member m) may.clear now (unfast-seen m c.requires.may.unfast)) (begun-joins (member m) may.clear now refl) ∣₁;
      lists = waiting-lists m c.args.place c.args.mode ∙ sym (ap (λ (x : SessionView). lists_seen x.me.0) now);
      room = λ ask asks. let place : c.args.place ≡ ask.place = ap (λ (o : Option Ask). option_map_or (λ (a : Ask). a.place) o 0) asks in subst (λ (p : ℕ). HasRoom p m.tickets.room) place c.requires.may.room;
      owed = owed-on m (ap (λ (x : SessionView). x.me.0.owes) now);
    }

pub returns : goal.returns
returns g c =
    let m = c.args.self.now in
    let went = c.begin_wait.ensures.waiting (c.in-Ok-Waiting.is ∙ ap Ok c.in-Ok-Waiting.field-0-is) in record {
      begun = record {
        next = ap (λ (l : Lists). l.waits + 1) m.lists;
        table = went.0.0;
        sessions = refl;
        pins = refl;
        opens = went.0.1;
        met = subst (λ (n : ℕ). (e f : StepRecord) × AreStepsOf m.seat.me c.begin_wait.new.seat.me e f × MeetsBlocked c.args.place m.seat.me.0.number c.args.mode e
            × MeetsOpening m.seat.table.slots c.args.place m.seat.me.0.number m.seat.me.0.waits n c.args.mode f) (ap (λ (l : Lists). l.next) m.lists) went.1;
        room = keeps-same m.tickets.room;
      };
      unchanged = tt;
      once = c.begin_wait.ensures.once;
      refused = tt;
    }
