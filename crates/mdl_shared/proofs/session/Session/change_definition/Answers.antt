-- What stands under an exclusive ticket is changed, or the change is refused.
use Rattle.std.proofs.Common.{Bool, None, Some, [], ap, false, if◌then◌else◌, inr, refl, rules, ◌∙◌, ◌≡◌}
use Rattle.mdl_shared.proofs.Lemmas.{Change_definition, Mode, NotExclusive, NotHeld, X, change-joins, done-nothing, done-order, exclusive-slow, exclusive_fault, held-seen, keeps-same, kept, lists-done, lists-noted, lists-visited, may-visit, member, noted-by, noted-order, noted-owes, owed-both, owed-visited, room-kept, same_mode, session_at, slow-apart, ticket-known, unchanged-joins, unchanged-shows, unfit-joins, visited}
use Rattle.mdl_shared.proofs.session.Session.change_definition.Goals as goal

pub returns-in_default-clause-joined : goal.returns-in_default-clause-joined
returns-in_default-clause-joined g c =
    let m = c.self.inside.member in
    let none = held-seen m c.args.id c.get.result c.get.ensures.found ∙ c.in_default.is in
    rw (← c.self.view_is) (unfit-joins (member m) c.args.id c.args.change.now NotHeld (ap exclusive_fault none))

pub returns-then-ne-clause-joined : goal.returns-then-ne-clause-joined
returns-then-ne-clause-joined g c =
    let m = c.self.inside.member in
    let its = held-seen m c.args.id c.get.result c.get.ensures.found ∙ c.in-Some.is in
    let other : same_mode c.in-Some.held.mode X ≡ false = search (rules, c.ne.ensures, c.if-ne.true) in
    rw (← c.self.view_is)
    (unfit-joins (member m) c.args.id c.args.change.now NotExclusive (ap exclusive_fault its ∙ ap (λ (b : Bool). if b then None else Some NotExclusive) other))

pub change_definition-requires : goal.change_definition-requires
change_definition-requires g c =
    let m = c.self.inside.member in
    let is = member m in
    let t = c.in-Some.held in
    let its = held-seen m c.args.id c.get.result c.get.ensures.found ∙ c.in-Some.is in
    let own : t.mode ≡ X = search (rules, c.ne.ensures, c.if-ne.false) in
    record { at = may-visit is t.place (ticket-known is c.args.id t its); apart = slow-apart is; held = (c.args.id, t, exclusive-slow is c.args.id t its own, refl, own) }

pub invariant_of-member : goal.invariant_of-member
invariant_of-member g c =
    let m = c.self.inside.member in
    let is = member m in
    let t = c.in-Some.held in
    let its = held-seen m c.args.id c.get.result c.get.ensures.found ∙ c.in-Some.is in
    let own : t.mode ≡ X = search (rules, c.ne.ensures, c.if-ne.false) in
    let did = c.in-Err.ensures in
    let visit = did.unchanged in
    let done = visited m.seat c.change_definition.new.seat m.sessions refl visit in
    let joins = unchanged-joins is c.args.id t its (session_at c.change_definition.new.seat m.sessions m.tickets.room m.known.pins) c.args.change.now (ap (λ (mode : Mode). same_mode mode X) own) (done-nothing done) c.in-Err.why did.refused in
    record { lawful = ∣ kept (Change_definition _ _ _) is (done-order done is (inr refl)) joins ∣₁; lists = lists-done m t.place [] (lists-visited visit) refl refl; room = m.room; owed = owed-visited m visit }

pub returns-in-Err : goal.returns-in-Err
returns-in-Err g c =
    let m = c.self.inside.member in
    let is = member m in
    let t = c.in-Some.held in
    let its = held-seen m c.args.id c.get.result c.get.ensures.found ∙ c.in-Some.is in
    let own : t.mode ≡ X = search (rules, c.ne.ensures, c.if-ne.false) in
    let exclusive = ap (λ (mode : Mode). same_mode mode X) own in
    let did = c.in-Err.ensures in
    let s′ = session_at c.change_definition.new.seat m.sessions m.tickets.room m.known.pins in
    let done = visited m.seat c.change_definition.new.seat m.sessions refl did.unchanged in
    rw (c.from.ensures, ← c.self.view_is) (record {
      joined = unchanged-joins is c.args.id t its s′ c.args.change.now exclusive (done-nothing done) c.in-Err.why did.refused;
      shown = unchanged-shows is c.args.id t its s′ c.args.change.now exclusive did.unchanged.0 refl did.unchanged.1 c.in-Err.why did.refused did.once (keeps-same m.tickets.room);
    })

pub invariant_of-member-2 : goal.invariant_of-member-2
invariant_of-member-2 g c =
    let m = c.self.inside.member in
    let is = member m in
    let t = c.in-Some.held in
    let its = held-seen m c.args.id c.get.result c.get.ensures.found ∙ c.in-Some.is in
    let own : t.mode ≡ X = search (rules, c.ne.ensures, c.if-ne.false) in
    let changed = c.in-Ok.ensures.changed in
    let noted = noted-by changed.1.0 m.seat c.change_definition.new.seat m.sessions changed.0.0 changed.1.2 in
    let joins = change-joins is c.args.id t its (session_at c.change_definition.new.seat m.sessions c.note_all.new.self.room m.known.pins) c.args.change.now (ap (λ (mode : Mode). same_mode mode X) own) changed.1.0 c.in-Ok.version noted changed.1.1 changed.0.1 in
    record {
      lawful = ∣ kept (Change_definition _ _ _) is (noted-order noted is) joins ∣₁;
      lists = lists-noted m noted changed.1.1 c.note_all.ensures.noted;
      room = λ ask asks. room-kept m.tickets c.note_all.new.self c.note_all.ensures.rest.room (m.room ask asks);
      owed = owed-both m c.note_all.ensures.rest.owes (noted-owes noted);
    }

pub returns-clause-joined : goal.returns-clause-joined
returns-clause-joined g c =
    let m = c.self.inside.member in
    let t = c.in-Some.held in
    let its = held-seen m c.args.id c.get.result c.get.ensures.found ∙ c.in-Some.is in
    let own : t.mode ≡ X = search (rules, c.ne.ensures, c.if-ne.false) in
    let changed = c.in-Ok.ensures.changed in
    let noted = noted-by changed.1.0 m.seat c.change_definition.new.seat m.sessions changed.0.0 changed.1.2 in
    rw (← c.self.view_is)
    (change-joins (member m) c.args.id t its (session_at c.change_definition.new.seat m.sessions c.note_all.new.self.room m.known.pins) c.args.change.now (ap (λ (mode : Mode). same_mode mode X) own) changed.1.0 c.in-Ok.version noted changed.1.1 changed.0.1)
