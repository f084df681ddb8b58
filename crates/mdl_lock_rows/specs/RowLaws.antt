-- No row is lost.
use Rattle.std.specs.Prelude.{Bool, ◌&&◌, ◌||◌, not, ◌==◌, nat_lt, List, ◌++◌, IsTrue}
use Rattle.std.specs.List.{list_all, list_any}
use Rattle.mdl_view.specs.Locks.{LockView}
use Rattle.mdl_lock_rows.specs.declared.row.OtherRow.{OtherRow}
use Rattle.mdl_lock_rows.specs.declared.row.Row.{Row}
use Rattle.mdl_lock_rows.specs.declared.row_class.LeftOut.{LeftOut}
use Rattle.mdl_lock_rows.specs.Classes.{same_class}
use Rattle.mdl_lock_rows.specs.Keys.{KeyNames, same_key}
use Rattle.mdl_lock_rows.specs.Numbering.{keys_of, left_out_of, owners_of, thread_of_row, threads_of}
use Rattle.mdl_lock_rows.specs.Owners.{OwnerView}
use Rattle.mdl_lock_rows.specs.ServerNames.{is_granted, is_settled, is_waiting}
use Rattle.mdl_lock_rows.specs.Tables.{changers_of, lock_at}

-- whether a row is of a lock that is held, waited for, or was waited for until now
abbrev pub is_current : Row → Bool
is_current row = is_granted row.status || (is_waiting row.status || is_settled row.status)

-- whether a lock has a ticket of the number of a row's line
abbrev pub has_ticket_of : Row → LockView → Bool
has_ticket_of row lock = list_any (λ ticket. ticket.number == row.line) (lock.granted ++ (lock.waiting ++ lock.settled))

-- whether a row is at the lock of a key
abbrev pub is_listed_at : List Row → Row → KeyNames → Bool
is_listed_at rows row key = same_key row.key key && has_ticket_of row (lock_at (threads_of rows) (changers_of rows) rows key)

-- whether a row's thread is among the owners, and the row at the lock of its key
abbrev pub is_listed : List Row → Row → Bool
is_listed rows row =
    list_any (λ (owner : OwnerView). owner.thread == thread_of_row row) (owners_of rows)
    && (not (is_current row) || list_any (is_listed_at rows row) (keys_of rows))

-- whether a row that is left out is counted, and counted as waiting if it waits
abbrev pub is_counted : OtherRow → LeftOut → Bool
is_counted row left_out = same_class row.class left_out.class && (nat_lt 0 left_out.count && (not row.is_waiting || nat_lt 0 left_out.waiting))

-- no row is lost
abbrev pub NoRowIsLost : Type 0
NoRowIsLost =
    ((rows : List Row) → IsTrue (list_all (is_listed rows) rows))
    × ((rows : List OtherRow) → IsTrue (list_all (λ row. list_any (is_counted row) (left_out_of rows)) rows))
