-- The granted tickets are written, and then the waiting ones behind them.
use Rattle.std.proofs.Common.{◌≡◌, ◌∙◌, ℕ, ◌+◌, ◌-◌, min, [], List, ◌++◌, length, map, take, drop, Some, sym, ap, subst, arith}
use Rattle.std.specs.Option.{option_copied, option_map_or}
use Rattle.std.proofs.lemmas.List.{length-append, length-map}
use Rattle.mdl_book.specs.declared.book_view.BookView.{BookView}
use Rattle.mdl_c_parts.specs.Rows.{room_written}
use Rattle.mdl_c_calls.specs.Listings.{LockTold, granted_row, keyed_book, lock_rows, waiting_at, waiting_row}
use Rattle.mdl_c_parts.proofs.WrittenLemmas.{written-both}
use Rattle.mdl_c_calls.proofs.manager.ServedSpace.tell_lock.Goals as goal

pub returns-clause-told : goal.returns-clause-told
returns-clause-told c =
    let now = c.args.self.now in let room = c.args.room.now in let book = c.in_ok-book.book.now in
    let is : keyed_book c.args.place now.space ≡ Some book = sym c.book.ensures ∙ ap option_copied c.in_ok-book.was in
    let granted = map (granted_row now) book.granted in
    let waiting = map (waiting_row now) book.waiting in
    let front = c.write_granted.new.room in
    let n = c.min-front.result in
    let behind : waiting_at c.args.place now.space ≡ book.waiting = ap (λ o. option_map_or (λ (b : BookView). b.waiting) o []) is in
    let first : length c.granted-granted.result.now ≡ length granted = ap length c.granted-granted.ensures ∙ sym (length-map book.granted (granted_row now)) in
    let second : length c.waiting.result.now ≡ length waiting = ap length c.waiting.ensures ∙ sym (length-map book.waiting (waiting_row now)) in
    let fits : n ≡ min (length granted) (length room) = c.min-front.ensures ∙ ap (λ (k : ℕ). min k (length room)) first in
    let count : length c.granted-granted.result.now + length c.waiting.result.now ≡ length (lock_rows now book) = omega (arith, length-append granted waiting, first, second) in
    let written = take n front ++ (c.write_waiting.new.room ++ drop (length front - n) (drop n front)) in
    subst (λ o. LockTold now o room written (Some (length c.granted-granted.result.now + length c.waiting.result.now))) (sym is) (
      written-both granted waiting room front c.write_waiting.new.room n fits
          (c.write_granted.ensures ∙ ap (λ (xs : List _). room_written (map (granted_row now) xs) room) c.granted-granted.ensures)
          (c.write_waiting.ensures.written ∙ ap (λ (xs : List _). room_written (map (waiting_row now) xs) (take (length front - n) (drop n front))) behind),
      ap Some count,
    )
