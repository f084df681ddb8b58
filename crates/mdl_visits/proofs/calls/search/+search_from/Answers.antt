-- Each book is added under its latch, whose record stays until the latches of the places behind it are given back.
use Rattle.std.proofs.Common.{◌<◌, refl, ap, ◌∙◌, arith, rules}
use Rattle.mdl_visits.proofs.Lemmas.{IfOk-weaker, Mine, SeatState, back, carried_there, ended_here, ends_more, ends_still, finds_here, has_taken_more, may_put, may_put_still, may_take_more, mine, none_taken, place_there, put_still, reads_none, refused_still, same_search, sees_none_here, table_of}
use Rattle.mdl_visits.proofs.calls.search.+search_from.Goals as goal

pub add_to_graph-requires : goal.add_to_graph-requires
add_to_graph-requires g t c =
    let arrives = c.await_latch-latch.ensures.arrives in record { carried = (arrives.latch.book, arrives.holds.carried) }

pub put_latch-requires-clause-put : goal.put_latch-requires-clause-put
put_latch-requires-clause-put g t c =
    let latch = c.await_latch-latch in
    let copied : SeatState = c.add_to_graph.new.self in
    may_put c.args.place latch.result.place c.args.seat.now latch.new.seat copied latch.ensures.arrives.at latch.ensures.arrives.taken latch.ensures.arrives.came.0 c.add_to_graph.ensures.same copied (refl, reads_none copied.me)

-- ---- memory ran out

pub returns-in-Err-clause-ends : goal.returns-in-Err-clause-ends
returns-in-Err-clause-ends g t c =
    let a : SeatState = c.args.seat.now in
    let latch = c.await_latch-latch in
    let copied : SeatState = c.add_to_graph.new.self in
    let same = c.add_to_graph.ensures.same in
    let reads = back c.args.place latch.result.place a latch.new.seat copied latch.ensures.arrives.at latch.ensures.arrives.taken latch.ensures.arrives.came.0 same
    copied (refl, reads_none copied.me) c.put_latch.new.self c.put_latch.ensures.made c.requires.through.rising in
    ends_still _ c.args.place c.args.last c.args.graph.now a c.put_latch.new.self reads (record {
      reads = reads;
      found = tt;
      nothing = ap (λ (s : SeatState). s.me.0.settles) (c.put_latch.ensures.made) ∙ ap (λ (m : Mine). m.0.settles) (mine same ∙ latch.ensures.arrives.taken.3.1);
    })

pub returns-in-Err-clause-here : goal.returns-in-Err-clause-here
returns-in-Err-clause-here g t c = λ behind. (let nearer = c.if-place-last.false in absurd (omega arith))

pub returns-in-Err-clause-ended : goal.returns-in-Err-clause-ended
returns-in-Err-clause-ended g t c =
    let a : SeatState = c.args.seat.now in
    let latch = c.await_latch-latch in
    ap (λ (s : SeatState). s.me.0.searches) c.put_latch.ensures.made
    ∙ ap (λ (m : Mine). m.0.searches) (mine c.add_to_graph.ensures.same ∙ latch.ensures.arrives.taken.3.1)
    ∙ refused_still _ a.me.0.searches

-- ---- behind the last place

pub returns-then-place-last-clause-ends : goal.returns-then-place-last-clause-ends
returns-then-place-last-clause-ends g t c =
    let a : SeatState = c.args.seat.now in
    let next = c.requires.through.next in
    let settled : SeatState = c.settle_victim.new.seat in
    let ends = c.settle_victim.ensures in
    ends_still c.settle_victim.result c.args.place c.args.last c.args.graph.now a settled ends.reads (record {
      reads = ends.reads;
      found = IfOk-weaker c.settle_victim.result _ _ (λ found finds. finds_here c.args.place c.args.last c.args.graph.now a settled found (omega arith) finds) ends.found;
      nothing = ends.nothing;
    })

pub returns-then-place-last-clause-here : goal.returns-then-place-last-clause-here
returns-then-place-last-clause-here g t c = λ behind. c.settle_victim.ensures

pub returns-then-place-last-clause-ended : goal.returns-then-place-last-clause-ended
returns-then-place-last-clause-ended g t c =
    let a : SeatState = c.args.seat.now in
    let behind : c.args.last < c.args.place = (let is = c.if-place-last.true in omega arith) in
    ap (λ (m : Mine). m.0.searches) c.settle_victim.ensures.reads.1.reads.now ∙ none_taken c.settle_victim.result c.args.place c.args.last a.me.0.searches behind

-- ---- with the latches of the places behind

pub search_from-outcome-requires : goal.search_from-outcome-requires
search_from-outcome-requires g t c =
    let latch = c.await_latch-latch in
    let nearer = c.if-place-last.false in
    let through = may_take_more c.args.place latch.result.place c.args.seat.now latch.new.seat c.add_to_graph.new.self latch.ensures.arrives.at latch.ensures.arrives.taken latch.ensures.arrives.came.0 c.add_to_graph.ensures.same
    c.args.last c.requires.through (omega arith) in
    let added = c.in_default.ensures.added latch.ensures.arrives.taken.0.book
    (carried_there c.args.place latch.result.place c.args.seat.now latch.new.seat latch.new.seat latch.ensures.arrives.at latch.ensures.arrives.taken latch.ensures.arrives.came.0 refl) in
    let taken = has_taken_more c.args.place latch.result.place c.args.last c.args.graph.now c.add_to_graph.new.graph c.args.seat.now latch.new.seat c.add_to_graph.new.self
    latch.ensures.arrives.taken c.add_to_graph.ensures.same c.requires.taken added in
    λ κs live. (search rules, (search rules, (through, taken)))

pub put_once_searched-requires : goal.put_once_searched-requires
put_once_searched-requires g t c =
    let latch = c.await_latch-latch in
    let a = latch.ensures.arrives in
    let copied : SeatState = c.add_to_graph.new.self in
    let added = c.in_default.ensures.added a.taken.0.book
    (carried_there c.args.place latch.result.place c.args.seat.now latch.new.seat latch.new.seat a.at a.taken a.came.0 refl) in
    record {
      may = record {
        is_place = place_there latch.result.place (c.search_from-outcome.ensures.ends.reads.0 ∙ table_of c.add_to_graph.ensures.same) a.is_place;
        put = may_put_still latch.result.place copied c.search_from-outcome.new.seat
            (may_put c.args.place latch.result.place c.args.seat.now latch.new.seat copied a.at a.taken a.came.0 c.add_to_graph.ensures.same
            _ c.search_from-outcome.ensures.ends.reads);
        sees = sees_none_here c.args.place latch.result.place c.args.last c.args.seat.now latch.new.seat copied c.search_from-outcome.new.seat a.at a.taken
            a.came.0 c.add_to_graph.ensures.same c.args.graph.now c.add_to_graph.new.graph c.requires.taken added
            c.search_from-outcome.result c.finds_none-none.result c.finds_none-none.ensures c.search_from-outcome.ensures.here;
      };
    }

pub returns-clause-ends : goal.returns-clause-ends
returns-clause-ends g t c =
    let latch = c.await_latch-latch in
    let a : SeatState = c.args.seat.now in
    let copied : SeatState = c.add_to_graph.new.self in
    let added = c.in_default.ensures.added latch.ensures.arrives.taken.0.book
    (carried_there c.args.place latch.result.place a latch.new.seat latch.new.seat latch.ensures.arrives.at latch.ensures.arrives.taken latch.ensures.arrives.came.0 refl) in
    let same = same_search c.args.place latch.result.place c.args.last a latch.new.seat copied c.search_from-outcome.new.seat latch.ensures.arrives.at latch.ensures.arrives.taken
    latch.ensures.arrives.came.0 c.add_to_graph.ensures.same c.args.graph.now c.add_to_graph.new.graph c.requires.taken added in
    ends_more c.args.place latch.result.place c.args.last a latch.new.seat copied _ _
    latch.ensures.arrives.at latch.ensures.arrives.taken latch.ensures.arrives.came.0 c.add_to_graph.ensures.same c.search_from-outcome.ensures.ends.reads
    (put_still latch.result.place _ a copied c.search_from-outcome.new.seat c.put_once_searched.new.seat same c.put_once_searched.ensures.made) c.requires.through.rising
    c.args.graph.now c.add_to_graph.new.graph added c.search_from-outcome.result c.search_from-outcome.ensures.ends

pub returns-clause-here : goal.returns-clause-here
returns-clause-here g t c = λ behind. (let nearer = c.if-place-last.false in absurd (omega arith))

pub returns-clause-ended : goal.returns-clause-ended
returns-clause-ended g t c =
    let latch = c.await_latch-latch in
    let nearer = c.if-place-last.false in
    let added = c.in_default.ensures.added latch.ensures.arrives.taken.0.book
    (carried_there c.args.place latch.result.place c.args.seat.now latch.new.seat latch.new.seat latch.ensures.arrives.at latch.ensures.arrives.taken latch.ensures.arrives.came.0 refl) in
    ended_here c.args.place latch.result.place c.args.last c.args.seat.now latch.new.seat c.add_to_graph.new.self c.search_from-outcome.new.seat latch.ensures.arrives.at latch.ensures.arrives.taken
    latch.ensures.arrives.came.0 c.add_to_graph.ensures.same c.args.graph.now c.add_to_graph.new.graph c.requires.taken added
    c.search_from-outcome.result c.finds_none-none.result c.put_once_searched.new.seat c.finds_none-none.ensures (omega arith) c.put_once_searched.ensures.made c.search_from-outcome.ensures.ended
