-- The ranges of bytes and numbers. All data of a program is in them: a byte of a `Vec<u8>` is below 256, and a `usize` or `u64` below 2 ^ 64.
use Rattle.std.specs.Prelude.{ℕ, ◌^◌, ◌<◌, List, All, IfSome}
use Rattle.mdl_lock_rows.specs.Owners.{OwnerView}
use Rattle.mdl_lock_rows.specs.declared.row_class.LeftOut.{LeftOut}
use Rattle.mdl_view.specs.Acts.{target_of}
use Rattle.mdl_view.specs.Locks.{LockView}
use Rattle.mdl_view.specs.declared.act.Act.{Act}
use Rattle.mdl_view.specs.declared.at_lock.AtLock.{AtLock}
use Rattle.mdl_view.specs.declared.blocking.Blocking.{Blocking}
use Rattle.mdl_view.specs.declared.ticket.Ticket.{Ticket}
use Rattle.mdl_view_text.specs.Names.{NamesView}
use Rattle.mdl_view_text.specs.declared.findings.BlockedWait.{BlockedWait}
use Rattle.mdl_view_text.specs.declared.findings.Findings.{Findings}
use Rattle.mdl_view_text.specs.declared.findings.WayFound.{WayFound}

abbrev pub AreBytes : List ℕ → Type 0
AreBytes text = All (λ byte. byte < 256) text

abbrev pub Fits64 : ℕ → Type 0
Fits64 n = n < 2 ^ 64

pub record OwnerFits (owner : OwnerView) : Type 0 where
  pub thread : Fits64 owner.thread
  pub connection : IfSome owner.connection Fits64

pub record NamesFit (names : NamesView) : Type 0 where
  pub locks : All AreBytes names.locks
  pub owners : All OwnerFits names.owners

abbrev pub TicketFits : Ticket → Type 0
TicketFits ticket = Fits64 ticket.session

abbrev pub AtLockFits : AtLock → Type 0
AtLockFits at = TicketFits at.ticket

pub record LeftOutFits (left : LeftOut) : Type 0 where
  pub object_type : AreBytes left.class.object_type
  pub lock_type : AreBytes left.class.lock_type
  pub count : Fits64 left.count
  pub waiting : Fits64 left.waiting

pub record LockFits (lock : LockView) : Type 0 where
  pub granted : All TicketFits lock.granted
  pub waiting : All TicketFits lock.waiting
  pub settled : All TicketFits lock.settled

pub record BlockingFits (blocking : Blocking) : Type 0 where
  pub waiter : TicketFits blocking.waiter
  pub other : TicketFits blocking.other

abbrev pub ActFits : Act → Type 0
ActFits act = Fits64 (target_of act)

pub record WayFits (found : WayFound) : Type 0 where
  pub act : ActFits found.way.act
  pub held : All AtLockFits found.held.items
  pub at_once : All AtLockFits found.at_once.items
  pub in_turn : All AtLockFits found.in_turn.items

pub record BlockedFits (wait : BlockedWait) : Type 0 where
  pub at : AtLockFits wait.at
  pub blockers : Fits64 wait.blockers
  pub acts : All ActFits wait.acts.items

pub record FindingsFit (found : Findings) : Type 0 where
  pub unexplained : All AtLockFits found.unexplained.items
  pub ways : All WayFits found.ways.items
  pub more_ways : Fits64 found.more_ways
  pub joint : All BlockedFits found.joint.items
  pub more_joint : Fits64 found.more_joint
  pub stuck : All BlockedFits found.stuck.items
  pub stuck_count : Fits64 found.stuck_count
