-- The new key is the last, its index stands under its place, and the mark of its place has the kind of its lock.
use Rattle.std.proofs.Common.{◌≡◌, ◌<◌, ◌≤◌, ℕ, rules, [], ◌∷◌, ◌++◌, length, refl, subst, sym, ap, arith, length-set}
use Rattle.mdl_calls.specs.Marks.{marked_from}
use Rattle.mdl_visits.proofs.KeyLists.{fewer_keys, indexed_more, inserted, kinds_more, mark_within, pins_kept}
use Rattle.mdl_visits.proofs.Pins.{pins_same}
use Rattle.mdl_visits.specs.declared.known_keys.Mark.{Mark}
use Rattle.mdl_visits.proofs.known_keys.KnownKeys.push_reserved.Goals as goal

pub overflow_cast-len : goal.overflow_cast-len
overflow_cast-len c =
    let entries = c.self.inside.places.entries in
    let fewer = fewer_keys entries c.self.inside.indexes.items c.args.key c.args.place c.self.invariant.indexed
    (rw (← c.self.view_is) at c.requires.unknown.1) (rw (← c.self.view_is) at c.requires.room.1) in
    omega (arith, fewer, c.self.invariant.narrow, c.len.ensures.len)

pub invariant_of-self : goal.invariant_of-self
invariant_of-self c =
    let entries = c.self.inside.places.entries in
    let indexes = c.self.inside.indexes.items in
    let marks = c.self.inside.marks.items in
    let mark : Mark = record { kind = c.kind.result; pinned = c.index_mut-2.result.now.pinned } in
    let last = inserted c.self.inside.places c.args.key c.args.place (rw (← c.self.view_is) at c.requires.unknown.0) in
    let new = rw (← c.self.view_is) at c.requires.unknown.1 in
    let within : c.args.place < length indexes = rw (← c.self.view_is) at c.requires.room.1 in
    let enough : length indexes ≤ length marks = c.self.invariant.enough in
    let more : c.insert.new.self.entries ≡ entries ++ (c.args.key, c.args.place) ∷ [] = search (rules, last) in record {
      indexed = rw more (rw c.len.ensures.len (indexed_more entries indexes c.args.key c.args.place c.self.invariant.indexed new within));
      narrow = subst (λ (n : ℕ). n ≤ 65536) (sym (length-set indexes c.args.place c.len.result)) c.self.invariant.narrow;
      kinds = rw more (kinds_more entries marks c.args.key c.args.place mark c.self.invariant.kinds new (omega (arith, within, enough)) c.kind.ensures);
      pinned = rw more (pins_kept entries marks c.args.key c.args.place mark c.self.invariant.pinned);
      enough = rw (length-set indexes c.args.place c.len.result, length-set marks c.args.place mark) enough;
    }

pub returns-clause-pins : goal.returns-clause-pins
returns-clause-pins c =
    let marks = c.self.inside.marks.items in
    let within : c.args.place < length c.self.inside.indexes.items = rw (← c.self.view_is) at c.requires.room.1 in
    let enough : length c.self.inside.indexes.items ≤ length marks = c.self.invariant.enough in
    let old = c.index_mut-2.result.now in
    let there = mark_within c.args.place marks old (omega (arith, within, enough)) c.index_mut-2.ensures.value in
    rw (← c.self.view_is) (ap (marked_from 0) (pins_same c.args.place marks old (record { kind = c.kind.result; pinned = old.pinned }) there refl))
