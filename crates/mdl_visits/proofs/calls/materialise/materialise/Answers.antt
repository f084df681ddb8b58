-- The tickets are granted in the book and then counted no longer, or there was no room for all of them.
use Rattle.std.proofs.Common.{◌≡◌, ◌≢◌, ◌<◌, [], length, sym, ap, ◌∙◌, arith, eqb-true}
use Rattle.mdl_visits.proofs.Lemmas.{nat_tests, nil_from_length, own_at}
use Rattle.mdl_visits.proofs.Materialising.{can_stand, done_once, lacks_room, may_materialise, may_put, nothing_done, nothing_fast, place_last, place_then, ready, refused_once, rests, was_materialised}
use Rattle.mdl_visits.proofs.calls.materialise.materialise.Goals as goal

pub returns-then-is_empty-clause-materialised : goal.returns-then-is_empty-clause-materialised
returns-then-is_empty-clause-materialised g c =
    let none = eqb-true (length c.args.fast.now) 0 (sym c.is_empty.ensures ∙ c.if-is_empty.true) in
    nothing_fast c.args.place c.args.seat.now (sym c.requires.these ∙ nil_from_length c.args.fast.now none)

pub write_gains-requires : goal.write_gains-requires
write_gains-requires g c =
    let raise = c.raise_flags.ensures in
    let r = ready c.await_latch-latch.ensures.arrives c.args.fast.now c.raise_flags.new.self raise.made raise.keeps c.requires.these c.requires.idle in
    record { can = (r.found.book, can_stand r) }

pub lower_flags_and_put-requires : goal.lower_flags_and_put-requires
lower_flags_and_put-requires g c =
    let raise = c.raise_flags.ensures in
    let r = ready c.await_latch-latch.ensures.arrives c.args.fast.now c.raise_flags.new.self raise.made raise.keeps c.requires.these c.requires.idle in
    record { worked = rests r (c.in-Err.ensures.refused r.found.book (can_stand r)).0 }

pub returns-in-Err-clause-refused : goal.returns-in-Err-clause-refused
returns-in-Err-clause-refused g c =
    let some : 0 < length c.args.fast.now = grind (arith, nat_tests) in
    let arrives = c.await_latch-latch.ensures.arrives in
    let raise = c.raise_flags.ensures in
    let r = ready arrives c.args.fast.now c.raise_flags.new.self raise.made raise.keeps c.requires.these c.requires.idle in
    let refused = c.in-Err.ensures.refused r.found.book (can_stand r) in
    let left = c.lower_flags_and_put.ensures.left in (
      nothing_done r refused.0 c.lower_flags_and_put.new.seat left.visited,
      lacks_room r refused.0 (length c.args.fast.now) c.in-Err.cause c.lower_flags_and_put.new.seat left.step refused.1,
      refused_once arrives c.raise_flags.new.self raise.made c.write_gains.new.seat c.lower_flags_and_put.new.seat refused.0 left.once,
      some,
    )

pub materialise-requires-clause-place : goal.materialise-requires-clause-place
materialise-requires-clause-place g c =
    let raise = c.raise_flags.ensures in
    let r = ready c.await_latch-latch.ensures.arrives c.args.fast.now c.raise_flags.new.self raise.made raise.keeps c.requires.these c.requires.idle in
    place_then r (c.in_default.ensures.written r.found.book (can_stand r))

pub materialise-requires-clause-moved : goal.materialise-requires-clause-moved
materialise-requires-clause-moved g c =
    let raise = c.raise_flags.ensures in
    let r = ready c.await_latch-latch.ensures.arrives c.args.fast.now c.raise_flags.new.self raise.made raise.keeps c.requires.these c.requires.idle in
    let wrote = c.in_default.ensures.written r.found.book (can_stand r) in
    (_, may_materialise r wrote c.args.kind c.requires.knows c.requires.once c.weigh.result c.weigh.ensures)

pub put_latch-requires-clause-place : goal.put_latch-requires-clause-place
put_latch-requires-clause-place g c =
    let raise = c.raise_flags.ensures in
    let r = ready c.await_latch-latch.ensures.arrives c.args.fast.now c.raise_flags.new.self raise.made raise.keeps c.requires.these c.requires.idle in
    let wrote = c.in_default.ensures.written r.found.book (can_stand r) in
    place_last r wrote c.materialise.ensures.made c.materialise.ensures.keeps

pub put_latch-requires-clause-put : goal.put_latch-requires-clause-put
put_latch-requires-clause-put g c =
    let raise = c.raise_flags.ensures in
    let r = ready c.await_latch-latch.ensures.arrives c.args.fast.now c.raise_flags.new.self raise.made raise.keeps c.requires.these c.requires.idle in
    let wrote = c.in_default.ensures.written r.found.book (can_stand r) in
    let some : 0 < length c.args.fast.now = grind (arith, nat_tests) in
    may_put r wrote c.materialise.ensures.made c.materialise.ensures.keeps some

pub returns-clause-materialised : goal.returns-clause-materialised
returns-clause-materialised g c =
    let raise = c.raise_flags.ensures in
    let r = ready c.await_latch-latch.ensures.arrives c.args.fast.now c.raise_flags.new.self raise.made raise.keeps c.requires.these c.requires.idle in
    let wrote = c.in_default.ensures.written r.found.book (can_stand r) in
    let makes = c.materialise.ensures.made in
    let puts = c.put_latch.ensures.made in
    let some : 0 < length c.args.fast.now = grind (arith, nat_tests) in
    let some_there : own_at c.args.place c.args.seat.now.me.0.fast ≢ [] =
    λ none. (let length_is : length c.args.fast.now ≡ 0 = ap length (c.requires.these ∙ none) in omega arith) in
    was_materialised r wrote makes c.materialise.ensures.keeps c.put_latch.new.self puts some_there
    (done_once c.await_latch-latch.ensures.arrives c.raise_flags.new.self raise.made _ _ _ c.put_latch.new.self wrote makes puts)
