-- The place of a key, by the session's own list or by the directory.
use Rattle.std.proofs.Common.{◌≡◌, Some, refl, sym, ap, subst, ◌∙◌, arith}
use Rattle.mdl_shared.proofs.Lemmas.{At_place, IsMember, Joins, Lists, Resolve, data_of, does-nothing, keeps-same, kept, key-is_known, known-joins, member, order-pinned, order-same, place_known, place_within, session_at, view_of}
use Rattle.mdl_shared.proofs.FirstLemmas.{with_place}
use Rattle.mdl_shared.proofs.session.Session.resolve.Goals as goal
use Rattle.mdl_visits.specs.KnownLists.{KnownList}

-- a place that the session knows is one of the table's, of which there are fewer than 16 bits can tell
pub overflow_cast-result : goal.overflow_cast-result
overflow_cast-result g c =
    let m = c.self.inside.member in
    let is = member m in
    let found : place_known c.args.key.now m.seat.me.0.known ≡ Some c.in-Some.place =
    ap (λ (l : Lists). place_known c.args.key.now l.known) (sym m.lists) ∙ sym c.place_of.ensures ∙ c.in-Some.is in
    let within = place_within _ c.in-Some.place c.args.key.now m.seat.me.0.known is.within found in
    let narrow = is.narrow in
    omega (arith, within.1, narrow.1)

pub pin-requires : goal.pin-requires
pin-requires g c = record { known = key-is_known c.self.inside.member.known.known c.args.key.now c.in-Some.place (sym c.place_of.ensures ∙ c.in-Some.is) }

pub invariant_of-self-inside : goal.invariant_of-self-inside
invariant_of-self-inside g c =
    let m = c.self.inside.member in
    let is = member m in
    let key = c.args.key.now in
    let place = c.in-Some.place in
    let found : place_known key m.seat.me.0.known ≡ Some place = ap (λ (l : Lists). place_known key l.known) (sym m.lists) ∙ sym c.place_of.ensures ∙ c.in-Some.is in
    record {
      lawful = ∣ subst (λ (k : KnownList). IsMember (session_at m.seat m.sessions m.tickets.room k.pins)) (sym c.pin.ensures.pins)
          (kept (Resolve _ _) is (order-pinned (with_place place m.known.pins) (order-same is)) (known-joins is key place found)) ∣₁;
      lists = ap (λ (k : KnownList). record { slow = m.tickets.slow; fast = m.tickets.fast; known = k.known; next = m.next; asks = m.asks; waits = m.waits }) c.pin.ensures.pins ∙ m.lists;
      room = m.room;
      owed = m.owed;
    }

pub returns-in-Some : goal.returns-in-Some
returns-in-Some g c =
    let m = c.self.inside.member in
    let s = view_of m in
    let is = member m in
    let key = c.args.key.now in
    let place = c.in-Some.place in
    let found : place_known key s.me.0.known ≡ Some place = ap (λ (l : Lists). place_known key l.known) (sym m.lists) ∙ sym c.place_of.ensures ∙ c.in-Some.is in
    let within = place_within _ place key s.me.0.known is.within found in
    rw (← c.self.view_is) (record {
      joined = subst (λ (k : KnownList). Joins (data_of s) (Resolve s.me.0.number key) (At_place place) (data_of (session_at m.seat m.sessions m.tickets.room k.pins)))
          (sym c.pin.ensures.pins) (known-joins is key place found);
      shown = record {
        table = refl;
        sessions = refl;
        refused = tt;
        did = does-nothing s.me;
        settled = refl;
        told = refl;
        met = (within.0, within.1, (λ known its. refl), λ none. let e = sym none ∙ found in cc);
        room = keeps-same m.tickets.room;
        debts = λ place owed. owed;
        owes = (refl, refl);
      };
    })

pub look_up-requires : goal.look_up-requires
look_up-requires g c =
    let m = c.self.inside.member in
    rw (← c.self.view_is) (record { unknown = ap (λ (l : Lists). place_known c.args.key.now l.known) (sym m.lists) ∙ sym c.place_of.ensures ∙ c.in_default.is })
