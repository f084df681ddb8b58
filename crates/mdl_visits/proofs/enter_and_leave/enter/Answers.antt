-- The record of the latch stays in hand from the take to the read.
use Rattle.mdl_visits.proofs.Lemmas.{Enters, IsFresh, can_be_granted, entered_within, enters, lock_kind, mine, place_there, raised, subst, sym, table_of, true, ℕ, ◌∙◌}
use Rattle.mdl_visits.proofs.enter_and_leave.enter.Goals as goal

pub read_word-word-requires-clause-held : goal.read_word-word-requires-clause-held
read_word-word-requires-clause-held g c =
    let a = c.await_latch-latch.ensures.arrives in
    (raised true c.args.obtrusive a.latch, (c.raise_flags.ensures.keeps a.latch a.latch.book a.holds).recorded)

pub returns : goal.returns
returns g c =
    let seat = c.args.seat.now in
    let mode = c.args.mode in
    let obtrusive = c.args.obtrusive in
    let latch = c.await_latch-latch in
    let word = c.read_word-word in
    let now = word.new.self in
    let q = latch.result.place in
    let a = latch.ensures.arrives in
    let h = a.latch in
    let can = can_be_granted (lock_kind h.book) h.book.granted h.book.waiting word.result.0 seat.me.0.number mode in
    let holds = word.ensures.keeps (raised true obtrusive h) h.book (c.raise_flags.ensures.keeps h h.book a.holds) in
    let raise = c.raise_flags.ensures.made in
    let table = table_of word.ensures.made ∙ table_of raise.1 in
    let there = enters q raise.0 word.result.0 obtrusive mode h seat.me latch.new.seat.me c.raise_flags.new.self.me now.me (subst (λ (p : ℕ). IsFresh p h seat.me) (sym a.at) a.fresh)
    a.came.1 (mine raise.1) (mine word.ensures.made) holds in
    record {
      entered = (
        can,
        record {
          at = a.at;
          is_place = place_there q table a.is_place;
          kind = c.requires.wish.0;
          wish = c.requires.wish.1;
          obtrusive = obtrusive;
          asks = c.requires.wish.2;
          entered = (table ∙ a.came.0, subst (λ (p : ℕ). Enters p obtrusive word.result.0 mode can seat.me now.me) a.at there);
        },
      );
      within = entered_within a obtrusive word.result.0 raise (mine word.ensures.made);
    }
