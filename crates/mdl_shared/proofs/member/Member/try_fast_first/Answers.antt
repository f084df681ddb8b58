-- The session pins the place. Where no fast ticket is granted its own become slow ones.
use Rattle.std.proofs.Common.{Err, [], ap, arith, refl, rules, subst, sym, ◌∙◌, ◌≡◌}
use Rattle.mdl_shared.proofs.Lemmas.{KeepsRoom, Lists, TicketList, keeps-before, kind-pinned, kind_known, kind_place, lists-done, member, member-room, place-within, quiet-steps, quiet-then, room-kept, unfast-seen, view_of}
use Rattle.mdl_shared.proofs.FastWishing.{fast-still, lacks-later, made-later, quiet-room}
use Rattle.mdl_shared.proofs.member.Member.try_fast_first.Goals as goal

pub reserve-requires : goal.reserve-requires
reserve-requires g c =
    let m = c.args.self.now in
    let known = ap (λ (l : Lists). kind_known c.args.place l.known) (sym m.lists) ∙ (kind-pinned c.args.place m.known.pins m.known.known c.requires.may.pinned).1 in
    let at = place-within (member m) c.args.place (kind_place c.args.place c.args.kind m.seat.me.0.known known) in
    omega (arith, at.1, (member m).narrow.1)

-- with more room it is the session that it was
pub invariant_of-self : goal.invariant_of-self
invariant_of-self g c =
    let m = c.args.self.now in
    let same = c.reserve.ensures.same in
    record {
      lawful = ∣ member-room (member m) c.reserve.new.self.room ∣₁;
      lists = lists-done m c.args.place [] refl same.0 same.1;
      room = λ ask asks. (let no = sym asks ∙ c.requires.may.idle in cc);
      owed = λ q. c.reserve.ensures.owes q ∙ m.owed q;
    }

pub returns-in_err-materialise : goal.returns-in_err-materialise
returns-in_err-materialise g c =
    let m = c.args.self.now in
    let tried = c.gain_unobtrusive.new.self in
    let now = c.materialise.new.self in
    let why = c.in_err-materialise.field-0.0 in
    let refused : c.from_residual.result ≡ Err why = search rules in
    let missed = c.in_default.ensures.unchanged in
    let quiet = quiet-room (view_of m) c.reserve.new.self.room missed.0 in
    let same = fast-still m tried (ap (λ (l : TicketList). l.fast) missed.1 ∙ c.reserve.ensures.same.1) in
    let later = c.materialise.ensures.done in
    let room = subst (λ (l : TicketList). KeepsRoom 0 l.room now.tickets.room) missed.1 c.materialise.ensures.room in
    rw refused (record {
      granted = tt;
      slow = λ is. cc;
      unchanged = (quiet-then quiet later, keeps-before 0 m.tickets.room c.reserve.new.self.room now.tickets.room c.reserve.ensures.kept room);
      refused = lacks-later c.args.place c.args.mode (view_of m) (view_of tried) (view_of now) (quiet-steps quiet) same c.in_default.ensures.closed
          c.in_err-materialise.ensures.stops c.in_err-materialise.ensures.refused;
    })

pub returns-clause-slow : goal.returns-clause-slow
returns-clause-slow g c =
    let m = c.args.self.now in
    let tried = c.gain_unobtrusive.new.self in
    let now = c.materialise.new.self in
    let missed = c.in_default.ensures.unchanged in
    let quiet = quiet-room (view_of m) c.reserve.new.self.room missed.0 in
    let same = fast-still m tried (ap (λ (l : TicketList). l.fast) missed.1 ∙ c.reserve.ensures.same.1) in
    let slow = c.in_ok-materialise.ensures.slow in
    let later = c.materialise.ensures.done in
    let room = subst (λ (l : TicketList). KeepsRoom 0 l.room now.tickets.room) missed.1 c.materialise.ensures.room in
    λ is. (
      record {
        quiet = quiet-then quiet later;
        unfast = unfast-seen now slow.0;
        made = made-later (view_of m) (view_of tried) (view_of now) (quiet-steps quiet) same slow.1;
        room = keeps-before 0 m.tickets.room c.reserve.new.self.room now.tickets.room c.reserve.ensures.kept room;
      },
      (tried.seat.me, c.in_default.ensures.closed, c.in_ok-materialise.ensures.turn),
      slow.0,
      room-kept c.reserve.new.self now.tickets room (search rules),
    )
