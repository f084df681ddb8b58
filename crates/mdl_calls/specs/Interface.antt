-- The interface of a lock space, after MySQL 5.7: its calls, which are those of `MDL_context` in sql/mdl.h, here as calls of numbered sessions, and their
-- answers. What each call promises stands in its own file of `calls`.
use Rattle.mdl_defs.specs.declared.change.Change.TheVariants as change
use Rattle.mdl_calls.specs.Prelude.{Bool, Change, Definition, Err, Held, KeyName, List, Mode, Ok, Option, OutOfMemory, Result, Settled, SpaceError, Vec, VersionedDefinition, false, true, ℕ}
use Rattle.mdl_calls.specs.declared.answers.Attempt.TheVariants as attempt_at
use Rattle.mdl_calls.specs.declared.answers.Attempt.{Attempt}
use Rattle.mdl_calls.specs.declared.answers.Begun.TheVariants as begun_as
use Rattle.mdl_calls.specs.declared.answers.Begun.{Begun}
use Rattle.mdl_calls.specs.declared.answers.Ended.TheVariants as ended_as
use Rattle.mdl_calls.specs.declared.answers.Ended.{Ended}
use Rattle.mdl_calls.specs.declared.answers.Poll.TheVariants as poll_as
use Rattle.mdl_calls.specs.declared.answers.Poll.{Poll}
use Rattle.mdl_calls.specs.declared.answers.Search.TheVariants as search_as
use Rattle.mdl_calls.specs.declared.answers.Search.{Search as Found}
use Rattle.mdl_calls.specs.declared.answers.Settled.TheVariants as settled_as
use Rattle.mdl_calls.specs.declared.answers.TimedOut.{TimedOut}
use Rattle.mdl_calls.specs.declared.answers.Upgrade.TheVariants as upgrade_as
use Rattle.mdl_calls.specs.declared.answers.Upgrade.{Upgrade}

-- ---- calls

-- a call, with the session that makes it and its arguments
pub data Call : Type 0 where
  -- the place of a key
  Resolve : (who : ℕ) (key : KeyName) → Call
  -- a lock, if it can be granted without waiting
  Try_now : (who place : ℕ) (mode : Mode) → Call
  -- a lock, or otherwise a wait for it
  Begin_wait : (who place : ℕ) (mode : Mode) → Call
  -- a deadlock that the caller's wait is part of
  Search : (who : ℕ) → Call
  -- the state of the caller's wait
  Poll_wait : (who : ℕ) → Call
  -- the timeout of the caller's wait
  Settle_timeout : (who : ℕ) → Call
  -- the end of the caller's wait, once it is settled
  End_wait : (who : ℕ) → Call
  -- the number of a session's wait
  Wait_of : (target : ℕ) → Call
  -- the kill of a session's wait of this number
  Kill : (target number : ℕ) → Call
  -- the release of a held ticket
  Release : (who id : ℕ) → Call
  -- a second ticket beside a held one
  Clone_ticket : (who id : ℕ) (mode : Mode) → Call
  -- a stronger mode of a held ticket, if it can be granted without waiting
  Upgrade_now : (who id : ℕ) (mode : Mode) → Call
  -- two held tickets of one place merged into one
  Merge : (who old new : ℕ) → Call
  -- a weaker mode of a held ticket
  Downgrade : (who id : ℕ) (mode : Mode) → Call
  -- the version and the definition at a held ticket's place
  Read_definition : (who id : ℕ) → Call
  -- a change of the definition at a held ticket's place
  Change_definition : (who id : ℕ) (change : Change) → Call
  -- the tables of a schema that have a definition
  Tables_of : (who : ℕ) (schema : List ℕ) → Call
  -- the key of a place
  Key_of : (who place : ℕ) → Call
  -- like `Read_definition`, with the session's cache
  Read_kept : (who id : ℕ) → Call
  -- the tickets that the caller holds
  List_held : (who : ℕ) → Call
  -- the end of the caller's pin of a place
  Unpin : (who place : ℕ) → Call

-- whether a change of a definition may need memory: dropping the definition doesn't
abbrev pub change_takes_memory : Change → Bool
change_takes_memory change.Drop = false
change_takes_memory _ = true

-- ---- answers

-- the answer of a call: what it returns
pub data Answer : Type 0 where
  Refused : SpaceError → Answer
  Done : Answer
  At_place : (place : ℕ) → Answer
  Granted : (id : ℕ) → Answer
  Would_wait : Answer
  Waits : (number : ℕ) → Answer
  No_cycle : Answer
  Victim_is : (session : ℕ) → Answer
  Pending : Answer
  Is_settled : Settled → Answer
  Timed_out : TimedOut → Answer
  Lost : Settled → Answer
  Has_wait : Option ℕ → Answer
  Has_killed : Bool → Answer
  Upgraded : Answer
  Reads : (version : ℕ) → Option Definition → Answer
  Changed : (version : ℕ) → Answer
  Tables : (places : List ℕ) → Answer
  Key_is : KeyName → Answer
  Holds : List Held → Answer

-- whether the call was refused because memory ran out
abbrev pub finds_no_memory : Answer → Bool
finds_no_memory (Refused OutOfMemory) = true
finds_no_memory _ = false

-- the answers to the calls, by the results that the methods return
abbrev pub placed : Result ℕ SpaceError → Answer
placed (Ok place) = At_place place
placed (Err refusal) = Refused refusal

abbrev pub attempted : Result Attempt SpaceError → Answer
attempted (Ok (attempt_at.Granted id)) = Granted id
attempted (Ok attempt_at.WouldWait) = Would_wait
attempted (Err refusal) = Refused refusal

abbrev pub begun : Result Begun SpaceError → Answer
begun (Ok (begun_as.Granted id)) = Granted id
begun (Ok (begun_as.Waiting number)) = Waits number
begun (Err refusal) = Refused refusal

abbrev pub searched : Result Found SpaceError → Answer
searched (Ok search_as.NoCycle) = No_cycle
searched (Ok (search_as.Victim session)) = Victim_is session
searched (Err refusal) = Refused refusal

abbrev pub polled : Result Poll SpaceError → Answer
polled (Ok poll_as.Pending) = Pending
polled (Ok (poll_as.Settled how)) = Is_settled how
polled (Err refusal) = Refused refusal

abbrev pub timed_out : Result TimedOut SpaceError → Answer
timed_out (Ok end) = Timed_out end
timed_out (Err refusal) = Refused refusal

abbrev pub ended : Result Ended SpaceError → Answer
ended (Ok (ended_as.Granted id)) = Granted id
ended (Ok ended_as.Victim) = Lost settled_as.Victim
ended (Ok ended_as.Timeout) = Lost settled_as.Timeout
ended (Ok ended_as.Killed) = Lost settled_as.Killed
ended (Err refusal) = Refused refusal

abbrev pub done : Result (Unit {0}) SpaceError → Answer
done (Ok _) = Done
done (Err refusal) = Refused refusal

abbrev pub cloned : Result ℕ SpaceError → Answer
cloned (Ok id) = Granted id
cloned (Err refusal) = Refused refusal

abbrev pub upgrade_tried : Result Upgrade SpaceError → Answer
upgrade_tried (Ok upgrade_as.Upgraded) = Upgraded
upgrade_tried (Ok upgrade_as.WouldWait) = Would_wait
upgrade_tried (Err refusal) = Refused refusal

abbrev pub listed : {Z : Type 0} → Result (Vec Held Z) SpaceError → Answer
listed (Ok tickets) = Holds tickets.items
listed (Err refusal) = Refused refusal

abbrev pub read : Result VersionedDefinition SpaceError → Answer
read (Ok standing) = Reads standing.version standing.definition
read (Err refusal) = Refused refusal

abbrev pub keyed : Result KeyName SpaceError → Answer
keyed (Ok key) = Key_is key
keyed (Err refusal) = Refused refusal

abbrev pub tables_told : {Z : Type 0} → Result (Vec ℕ Z) SpaceError → Answer
tables_told (Ok places) = Tables places.items
tables_told (Err refusal) = Refused refusal

abbrev pub redefined : Result ℕ SpaceError → Answer
redefined (Ok version) = Changed version
redefined (Err refusal) = Refused refusal
