-- All places are done, or one has no room.
use Rattle.std.proofs.Common.{rules, ◌≡◌, ◌<◌, ℕ, List, [], ◌∷◌, ◌++◌, length, Err, refl, sym, ap, subst, ◌∙◌}
use Rattle.mdl_shared.proofs.Lemmas.{Lists, SessionTicket, SlowsInTurn, but_at, keeps-before, keeps-same, none-listed, others-by_place, own_at, place-first, quiet-none, quiet-steps, quiet-then, same-lists, view_of}
use Rattle.mdl_shared.proofs.SlowPlaces.{all-slow, before-more, before-still, fewer-left, lacks-after, next-seen, none-before, same-at-first, slow-more, slow-still, stops-more, turn-more}
use Rattle.mdl_shared.proofs.member.Member.materialise_all.Goals as goal

pub loop-place-init : goal.loop-place-init
loop-place-init g c =
    let s = view_of c.args.self.now in
    record { idle = c.requires.idle; by_place = rw c.deref-rest.ensures.value c.in-Ok.ensures; done = quiet-none s; slow = same-at-first s; order = none-before s; turn = ([], (refl, refl)); room = keeps-same c.args.self.now.tickets.room }

pub loop-place-smaller : goal.loop-place-smaller
loop-place-smaller g c =
    let fast = c.in_ok-materialise_at.ensures.slow.0 in
    subst (λ (n : ℕ). n < length c.loop-place.self.tickets.fast) (sym (ap length fast)) (fewer-left c.in-Some.place c.loop-place.self.tickets.fast (place-first c.loop-place.self.tickets.fast c.loop-place.rest.now c.in-Some.place c.loop-place.invariant.by_place c.in-Some.ensures).1)

pub count_first-requires : goal.count_first-requires
count_first-requires g c =
    let next = place-first c.loop-place.self.tickets.fast c.loop-place.rest.now c.in-Some.place c.loop-place.invariant.by_place c.in-Some.ensures in
    record { rising = c.loop-place.invariant.by_place.1; least = next.0 }

pub materialise_at-requires-clause-some : goal.materialise_at-requires-clause-some
materialise_at-requires-clause-some g c = (place-first c.loop-place.self.tickets.fast c.loop-place.rest.now c.in-Some.place c.loop-place.invariant.by_place c.in-Some.ensures).1

pub materialise_at-requires-clause-these : goal.materialise_at-requires-clause-these
materialise_at-requires-clause-these g c = c.split_at.ensures.front ∙ c.count_first.ensures.these ∙ c.loop-place.invariant.by_place.0 c.in-Some.place

pub loop-place-preserved : goal.loop-place-preserved
loop-place-preserved g c =
    let m = c.loop-place.self in
    let n = c.materialise_at.new.self in
    let place = c.in-Some.place in
    let next = place-first c.loop-place.self.tickets.fast c.loop-place.rest.now c.in-Some.place c.loop-place.invariant.by_place c.in-Some.ensures in
    let done = c.materialise_at.ensures.done in
    let made = c.in_ok-materialise_at.ensures.slow in
    let fast = sym (ap (λ (l : Lists). l.fast) n.lists) ∙ made.0 ∙ ap (λ (l : Lists). but_at place l.fast) m.lists in
    record {
      idle = (same-lists m n done.done).asks ∙ c.loop-place.invariant.idle;
      by_place = rw (made.0, c.split_at.ensures.back)
          (others-by_place m.tickets.fast c.loop-place.rest.now place c.count_first.result c.loop-place.invariant.by_place c.count_first.ensures.others);
      done = quiet-then c.loop-place.invariant.done done;
      slow = slow-more (view_of c.args.self.now) (view_of m) (view_of n) place (quiet-steps c.loop-place.invariant.done) (quiet-steps done) c.loop-place.invariant.slow
          fast made.1;
      order = before-more (view_of c.args.self.now) (view_of m) (view_of n) place c.loop-place.invariant.order
          (subst (λ (us : List SessionTicket). 0 < length (own_at place us)) (ap (λ (l : Lists). l.fast) m.lists) next.1) (λ q before. ap (λ (l : Lists). own_at q l.fast) (sym m.lists) ∙ next.2 q before) fast;
      turn =
          let turn = c.loop-place.invariant.turn in (
            turn.0 ++ place ∷ [],
            subst (λ (us : List SessionTicket). SlowsInTurn (turn.0 ++ place ∷ []) c.args.self.now.seat.me.0.fast us c.args.self.now.seat.me n.seat.me) (sym fast)
                (turn-more turn.0 place c.args.self.now.seat.me.0.fast m.seat.me.0.fast c.args.self.now.seat.me m.seat.me n.seat.me turn.1
                (next-seen m place next.1 next.2) c.in_ok-materialise_at.ensures.once),
          );
      room = keeps-before 0 c.args.self.now.tickets.room m.tickets.room n.tickets.room c.loop-place.invariant.room c.materialise_at.ensures.room;
    }

pub returns-in_err-materialise_at-clause-done : goal.returns-in_err-materialise_at-clause-done
returns-in_err-materialise_at-clause-done g c = quiet-then c.loop-place.invariant.done c.materialise_at.ensures.done

pub returns-in_err-materialise_at-clause-refused : goal.returns-in_err-materialise_at-clause-refused
returns-in_err-materialise_at-clause-refused g c =
    let why = c.in_err-materialise_at.field-0.0 in
    let refused : c.from_residual.result ≡ Err why = search rules in
    rw refused (lacks-after (view_of c.args.self.now) (view_of c.loop-place.self) (view_of c.materialise_at.new.self) why (quiet-steps c.loop-place.invariant.done)
    c.loop-place.invariant.slow c.in_err-materialise_at.ensures.refused)

pub returns-in_err-materialise_at-clause-partly : goal.returns-in_err-materialise_at-clause-partly
returns-in_err-materialise_at-clause-partly g c =
    let m = c.loop-place.self in
    let n = c.materialise_at.new.self in
    let refused : c.from_residual.result ≡ Err c.in_err-materialise_at.field-0.0 = search rules in
    rw refused (slow-still (view_of c.args.self.now) (view_of m) (view_of n) (quiet-steps c.materialise_at.ensures.done) c.loop-place.invariant.slow
    (sym (ap (λ (l : Lists). l.fast) n.lists) ∙ c.in_err-materialise_at.ensures.fast ∙ ap (λ (l : Lists). l.fast) m.lists))

pub returns-in_err-materialise_at-clause-stops : goal.returns-in_err-materialise_at-clause-stops
returns-in_err-materialise_at-clause-stops g c =
    let m = c.loop-place.self in
    let n = c.materialise_at.new.self in
    let turn = c.loop-place.invariant.turn in
    let next = place-first c.loop-place.self.tickets.fast c.loop-place.rest.now c.in-Some.place c.loop-place.invariant.by_place c.in-Some.ensures in
    let refused : c.from_residual.result ≡ Err c.in_err-materialise_at.field-0.0 = search rules in
    rw refused (stops-more turn.0 m.seat.me.0.fast c.args.self.now.seat.me m.seat.me n.seat.me turn.1 c.in-Some.place
    (next-seen m c.in-Some.place next.1 next.2) c.in_err-materialise_at.ensures.stops)

pub returns-in_err-materialise_at-clause-order : goal.returns-in_err-materialise_at-clause-order
returns-in_err-materialise_at-clause-order g c =
    let m = c.loop-place.self in
    let n = c.materialise_at.new.self in
    let refused : c.from_residual.result ≡ Err c.in_err-materialise_at.field-0.0 = search rules in
    rw refused (before-still (view_of c.args.self.now) (view_of m) (view_of n) c.loop-place.invariant.order
    (sym (ap (λ (l : Lists). l.fast) n.lists) ∙ c.in_err-materialise_at.ensures.fast ∙ ap (λ (l : Lists). l.fast) m.lists))

pub returns-in_err-materialise_at-clause-room : goal.returns-in_err-materialise_at-clause-room
returns-in_err-materialise_at-clause-room g c =
    keeps-before 0 c.args.self.now.tickets.room c.loop-place.self.tickets.room c.materialise_at.new.self.tickets.room c.loop-place.invariant.room c.materialise_at.ensures.room

pub returns-clause-turn : goal.returns-clause-turn
returns-clause-turn g c =
    let m = c.loop-place.self in
    let turn = c.loop-place.invariant.turn in
    let unfast = none-listed m.tickets.fast c.loop-place.rest.now c.loop-place.invariant.by_place c.in_default-first_place.ensures in
    let none = sym (ap (λ (l : Lists). l.fast) m.lists) ∙ unfast in
    (turn.0, subst (λ (us : List SessionTicket). SlowsInTurn turn.0 c.args.self.now.seat.me.0.fast us c.args.self.now.seat.me m.seat.me) none turn.1)

pub returns-clause-slow : goal.returns-clause-slow
returns-clause-slow g c =
    let m = c.loop-place.self in
    let unfast = none-listed m.tickets.fast c.loop-place.rest.now c.loop-place.invariant.by_place c.in_default-first_place.ensures in
    (unfast, all-slow (view_of c.args.self.now) (view_of m) c.loop-place.invariant.slow (sym (ap (λ (l : Lists). l.fast) m.lists) ∙ unfast))

pub returns-in_default-clause-done : goal.returns-in_default-clause-done
returns-in_default-clause-done g c = quiet-none (view_of c.args.self.now)
