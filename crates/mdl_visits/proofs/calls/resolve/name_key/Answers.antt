-- What was listed and what the place gets are copies of the key. Nobody has ever been at the next place, so that the empty book of the key may be
-- left there.
use Rattle.mdl_visits.proofs.Lemmas.{Mine, SeatState, ap, empty_book, is_listed, may_name_at, may_visit_next, mine, named_at, named_since, place_there, table_of, ◌∙◌}
use Rattle.mdl_visits.proofs.calls.resolve.name_key.Goals as goal

pub await_latch-latch-requires : goal.await_latch-latch-requires
await_latch-latch-requires g c =
    let new = c.requires.new in
    record { at = may_visit_next c.args.place c.args.key.now c.in_ok-listed.listed new.0 c.args.seat.now c.list_key.new.self new.1 (c.in_ok-list_key.ensures.listed new.0 new.1.holds.has.carried) }

pub name_book-requires : goal.name_book-requires
name_book-requires g c =
    let arrives = c.await_latch-latch.ensures.arrives in record { carried = (arrives.latch.book, arrives.holds.carried) }

pub put_latch_naming-requires-clause-place : goal.put_latch_naming-requires-clause-place
put_latch_naming-requires-clause-place g c =
    place_there c.await_latch-latch.result.place (table_of c.name_book.ensures.written) c.await_latch-latch.ensures.arrives.is_place

pub put_latch_naming-requires-clause-put : goal.put_latch_naming-requires-clause-put
put_latch_naming-requires-clause-put g c =
    let new = c.requires.new in
    let key = c.in_ok-named.named in
    let latch = c.await_latch-latch in
    let taken = latch.ensures.arrives.taken in
    let is = is_listed c.args.place c.args.key.now c.in_ok-listed.listed new.0 c.args.seat.now c.list_key.new.self new.1 (c.in_ok-list_key.ensures.listed new.0 new.1.holds.has.carried)
    key c.in_ok-listed.ensures.cases c.in_ok-named.ensures.cases in
    (key, new.0, taken.0, may_name_at c.args.place latch.result.place key new.0 taken.0 taken.3.0 c.list_key.new.self.me latch.new.seat.me c.name_book.new.self.me latch.ensures.arrives.at taken.1 is taken.3.1 (mine c.name_book.ensures.written))

pub returns-clause-named : goal.returns-clause-named
returns-clause-named g c =
    let new = c.requires.new in
    let place = c.args.place in
    let key = c.in_ok-named.named in
    let latch = c.await_latch-latch in
    let taken = latch.ensures.arrives.taken in
    let l : SeatState = c.list_key.new.self in
    let listed = c.in_ok-list_key.ensures.listed new.0 new.1.holds.has.carried in
    let is = is_listed place c.args.key.now c.in_ok-listed.listed new.0 c.args.seat.now l new.1 listed key c.in_ok-listed.ensures.cases c.in_ok-named.ensures.cases in
    let written = mine c.name_book.ensures.written in
    let may = may_name_at place latch.result.place key new.0 taken.0 taken.3.0 l.me latch.new.seat.me c.name_book.new.self.me latch.ensures.arrives.at taken.1 is taken.3.1 written in
    let put = c.put_latch_naming.ensures.made (empty_book key) may.holds.carried in
    let alone = ap (λ (m : Mine). m.0.latches) (mine listed) ∙ new.1.holds.alone in
    named_since place c.args.key.now c.in_ok-listed.listed new.0 c.args.seat.now l new.1 listed key c.put_latch_naming.new.self c.in_ok-named.ensures.cases (
      table_of put ∙ table_of c.name_book.ensures.written ∙ latch.ensures.arrives.came.0,
      named_at place latch.result.place key new.0 taken.0 taken.3.0 l.me latch.new.seat.me c.name_book.new.self.me latch.ensures.arrives.at taken.1 is taken.3.1 written
          c.put_latch_naming.new.self.me alone taken.3.2 taken.3.3 (mine put),
    )
