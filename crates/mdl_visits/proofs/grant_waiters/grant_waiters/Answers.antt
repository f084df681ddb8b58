-- Each turn tries one session, until nobody is next.
use Rattle.std.proofs.Common.{◌≡◌, ◌<◌, sym, ◌∙◌, subst}
use Rattle.std.specs.FinSet as set
use Rattle.mdl_visits.proofs.Lemmas.{AreTried, ForgetsNobody, GrantsWaits, Holds, IsTriedOrGranted, Mine, ReschedulesInTurn, TableId, fewer_untried, forgets_nobody, grants_read, is_next, looks_ahead, mine, nat_cmp, nobody_next, noting, place_there, read_before, rescheduled_read, rescheduled_then, steps_of, table_of, tried_first, turn_done}
use Rattle.mdl_visits.proofs.Serving.{WasRead, read_first}
use Rattle.mdl_visits.proofs.grant_waiters.grant_waiters.Goals as goal

pub loop-index-init : goal.loop-index-init
loop-index-init c =
    let here = c.requires.here in
    let h = here.latch in
    let m : Mine = c.args.seat.now.me in
    let a : Mine = c.read_word-word.new.self.me in
    let id = c.args.seat.now.table in
    let place = c.args.latch.now.place in
    let word = c.read_word-word.result.0 in
    let made = mine c.read_word-word.ensures.made in
    record {
      table = table_of c.read_word-word.ensures.made;
      held = (noting word h, c.read_word-word.ensures.keeps h h.book here.holds, grants_read word h here.is_so, tried_first id place c.all-untried.result (noting word h) m a c.all-untried.ensures);
      read = read_first place word m a made;
      way = rescheduled_read id place m word h.book m a here.holds.carried made;
    }

pub next_grantable_at-requires : goal.next_grantable_at-requires
next_grantable_at-requires c = let held = c.loop-index.invariant.held in record { carried = (held.0.book, held.1.carried) }

pub grant_waiter-requires : goal.grant_waiter-requires
grant_waiter-requires c =
    let place = c.args.latch.now.place in
    let same = c.next_grantable_at.ensures.same in
    let held = c.loop-index.invariant.held in
    let h = held.0 in
    record {
      here = record {
        is_place = place_there place (table_of same ∙ c.loop-index.invariant.table) c.requires.here.is_place;
        latch = h;
        holds = subst (λ (x : Mine). Holds place h h.book x) (sym {A = Mine} (mine same)) held.1;
        is_so = (is_next c.read_word-word.result.0 c.in-Some.index c.in-Some.ticket c.loop-index.untried h held.2 (c.in-Some.ensures.told h.book held.1.carried)).0;
      };
    }

pub loop-index-smaller : goal.loop-index-smaller
loop-index-smaller c =
    let held = c.loop-index.invariant.held in
    let h = held.0 in
    let there = (is_next c.read_word-word.result.0 c.in-Some.index c.in-Some.ticket c.loop-index.untried h held.2 (c.in-Some.ensures.told h.book held.1.carried)).1 in
    subst (λ (s : set.FinSet nat_cmp). set.len s < set.len c.loop-index.untried) (sym c.remove.ensures) (fewer_untried c.loop-index.untried c.in-Some.ticket.session there)

pub loop-index-preserved : goal.loop-index-preserved
loop-index-preserved c =
    let id = c.args.seat.now.table in
    let place = c.args.latch.now.place in
    let word = c.read_word-word.result.0 in
    let session = c.in-Some.ticket.session in
    let number = c.in-Some.ticket.number in
    let untried = c.loop-index.untried in
    let m : Mine = c.args.seat.now.me in
    let a : Mine = c.next_grantable_at.new.self.me in
    let b : Mine = c.grant_waiter.new.seat.me in
    let same : a ≡ c.loop-index.seat.me = mine c.next_grantable_at.ensures.same in
    let table = table_of c.next_grantable_at.ensures.same ∙ c.loop-index.invariant.table in
    let held = c.loop-index.invariant.held in
    let h = held.0 in
    let has = subst (λ (x : Mine). Holds place h h.book x) (sym same) held.1 in
    let way : GrantsWaits id place m m a = subst (GrantsWaits id place m m) (sym same) c.loop-index.invariant.way in
    let read : WasRead place word m a = subst (WasRead place word m) (sym same) c.loop-index.invariant.read in
    let tried = subst (λ (x : Mine). AreTried id place untried h m x) (sym same) held.3 in
    let next = is_next word c.in-Some.index c.in-Some.ticket untried h held.2 (c.in-Some.ensures.told h.book held.1.carried) in
    let ready = next.0.0 in
    let in_turn : ReschedulesInTurn id place session number a b = subst (λ (t : TableId). ReschedulesInTurn t place session number a b) table c.grant_waiter.ensures.in_turn.1 in
    let more = in_turn m h has (looks_ahead id place word untried h m a held.2 read tried c.in-Some.ticket next.2) in
    let goes = steps_of id place m a b more in
    let served : IsTriedOrGranted id place session number h a b = subst (λ (t : TableId). IsTriedOrGranted t place session number h a b) table (c.grant_waiter.ensures.tried h has) in
    let done = turn_done id place session number word h m a b untried (steps_of id place m m a way) goes has held.2 ready served tried in
    record {
      table = c.grant_waiter.ensures.in_turn.0 ∙ table;
      held = (done.0, done.1, done.2, subst (λ (s : set.FinSet nat_cmp). AreTried id place s done.0 m b) (sym c.remove.ensures) done.3);
      read = read_before place word m a b goes read;
      way = rescheduled_then id place m m a b way more;
    }

pub returns : goal.returns
returns c =
    let id = c.args.seat.now.table in
    let place = c.args.latch.now.place in
    let m : Mine = c.args.seat.now.me in
    let same = c.next_grantable_at.ensures.same in
    let inv = c.loop-index.invariant in
    let h = inv.held.0 in
    let none = nobody_next c.read_word-word.result.0 c.loop-index.untried h (c.in_default.ensures.told h.book inv.held.1.carried) in
    let forgets = forgets_nobody id place c.read_word-word.result.0 c.loop-index.untried h m c.loop-index.seat.me inv.held.2 inv.read inv.held.3 none in
    record {
      all = record {
        none = record {
          is_place = place_there place (table_of same ∙ inv.table) c.requires.here.is_place;
          latch = h;
          holds = subst (λ (x : Mine). Holds place h h.book x) (sym {A = Mine} (mine same)) inv.held.1;
          is_so = (inv.held.2.0, subst (ForgetsNobody id place h m) (sym {A = Mine} (mine same)) forgets, inv.held.2.2);
        };
        granted = (table_of same ∙ inv.table, subst (GrantsWaits id place m m) (sym {A = Mine} (mine same)) inv.way);
      };
    }
