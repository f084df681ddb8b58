-- A lock as a server's rows show it: the tickets that hold it, those that wait for it in order of arrival, and those whose wait is over without
-- a grant (a victim, a timeout, a killed statement) and that are about to go. After MySQL 5.7: `MDL_lock` of sql/mdl.h. Rows need not be lawful:
-- tickets that clash may be granted together, since the server's table isn't a snapshot of one moment.
use Rattle.std.specs.Prelude.{Bool, false, true, List, [], map}
use Rattle.mdl_key.specs.Words.{kind_of}
use Rattle.mdl_book.specs.declared.book_view.BookView.{BookView}
use Rattle.mdl_book.specs.declared.ticket.Ticket as book
use Rattle.mdl_view.specs.declared.lock_mode.LockKind.{LockKind}
use Rattle.mdl_view.specs.declared.lock_mode.LockMode.TheVariants.{Mdl}
use Rattle.mdl_view.specs.declared.ticket.Ticket.{Ticket}
use Rattle.mdl_view.specs.Modes.{lock_kind_of}

pub record LockView : Type 0 where
  pub kind : LockKind
  pub granted : List Ticket
  pub waiting : List Ticket
  pub settled : List Ticket

-- a lock without tickets
abbrev pub empty_lock : LockKind → LockView
empty_lock kind = record { kind = kind; granted = []; waiting = []; settled = [] }

-- ---- books

-- a ticket of a book as a ticket of a lock
abbrev pub ticket_from : Bool → book.Ticket → Ticket
ticket_from of_statement ticket = record {
  number = ticket.number;
  session = ticket.session;
  mode = Mdl ticket.mode;
  of_statement = of_statement;
}

-- what a session holds stays if its statement is killed: a book doesn't know of statements
abbrev pub granted_ticket : book.Ticket → Ticket
granted_ticket ticket = ticket_from false ticket

-- a request goes with its statement
abbrev pub waiting_ticket : book.Ticket → Ticket
waiting_ticket ticket = ticket_from true ticket

-- the lock of a book. A book has no settled waits: they leave it at once
abbrev pub lock_of_book : BookView → LockView
lock_of_book book = record {
  kind = lock_kind_of (kind_of book.key.namespace);
  granted = map granted_ticket book.granted;
  waiting = map waiting_ticket book.waiting;
  settled = [];
}
