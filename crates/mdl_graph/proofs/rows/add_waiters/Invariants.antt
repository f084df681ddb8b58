-- The wishes and rows of those that wait so far stand behind those that there were.
use Rattle.std.proofs.Common.{◌≡◌, ◌≤◌, ℕ, ◌++◌, false, length, map, take}
use Rattle.std.specs.Prelude.{◌&&◌, ◌||◌, ◌==◌, filter}
use Rattle.std.specs.FinSet as set
use Rattle.std.specs.List.{list_any}
use Rattle.mdl_graph.specs.WaitsFor.{is_unsettled, is_tied, wish_of}
use Rattle.mdl_graph.specs.Searches.{holds, are_joined, AreOfModes}
use Rattle.mdl_graph.proofs.rows.add_waiters.Given as goal

abbrev pub invariant-loop-ticket : goal.invariant-loop-ticket
invariant-loop-ticket l = record {
  wishes_len : length l.fn.wishes.items ≤ length l.wishes.items;
  wishes_kept : take (length l.fn.wishes.items) l.wishes.items ≡ l.fn.wishes.items;
  ranks_len : length l.fn.ranks.items ≤ length l.ranks.items;
  ranks_kept : take (length l.fn.ranks.items) l.ranks.items ≡ l.fn.ranks.items;
  waits_len : length l.fn.waits.items ≤ length l.waits.items;
  waits_kept : take (length l.fn.waits.items) l.waits.items ≡ l.fn.waits.items;
  stands_len : length l.fn.stands.items ≤ length l.stands.items;
  stands_kept : take (length l.fn.stands.items) l.stands.items ≡ l.fn.stands.items;
  begun : l.first ≡ length l.fn.ranks.items;
  known : (row session : ℕ) → length l.ranks.items ≤ row → holds l.waits.items row session ≡ false;
  fresh : (row session : ℕ) → length l.ranks.items ≤ row → holds l.stands.items session row ≡ false;
  modes : AreOfModes (set.contains l.settled) l.book l.first l.ranks.items l.stands.items;
  wishes : l.wishes.items ≡ l.fn.wishes.items ++ map (wish_of l.book) (filter (λ ticket. is_unsettled (set.contains l.settled) ticket.session) (take l.ticket-index l.ticket-items));
  ties : (waiter other : ℕ) → are_joined l.waits.items l.stands.items waiter other
      ≡ (are_joined l.fn.waits.items l.fn.stands.items waiter other
      || (is_unsettled (set.contains l.settled) waiter
      && list_any (λ wish. wish.session == waiter && is_tied (set.contains l.settled) l.book other wish) (take l.ticket-index l.ticket-items)));
}
