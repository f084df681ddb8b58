-- The codes of the calls that are refused if a session has a context, and of the calls of contexts. Those from 48 on are the refusals of a context,
-- which come before those of its space.
use Rattle.std.specs.Prelude.{ℕ, Bool, Option, Some, None, Result, Ok, Err, if◌then◌else◌}
use Rattle.mdl_calls.specs.Words.{Answer}
use Rattle.mdl_context.specs.declared.context_error.ContextError.{ContextError}
use Rattle.mdl_context.specs.declared.context_error.ContextError.TheVariants.{StaleSavepoint, NotHeld, Waiting, Space}
use Rattle.mdl_context.specs.declared.request.Mark as context
use Rattle.mdl_context.specs.declared.request.Acquire.{Acquire}
use Rattle.mdl_context.specs.declared.request.Acquire.TheVariants as acquire
use Rattle.mdl_context.specs.declared.request.Resume.{Resume}
use Rattle.mdl_context.specs.declared.request.Resume.TheVariants as resume
use Rattle.mdl_context.specs.declared.request.Tried.{Tried}
use Rattle.mdl_context.specs.declared.request.Tried.TheVariants as tried
use Rattle.mdl_c_parts.specs.Codes.{cause_code, no_memory, no_session, settled_code, would_wait}
use Rattle.mdl_c_calls.specs.declared.mark.Mark.{Mark}
use Rattle.mdl_c_calls.specs.declared.unserved.Unserved.{Unserved}
use Rattle.mdl_c_calls.specs.declared.unserved.Unserved.TheVariants as unserved

-- the context keeps no such ticket
abbrev pub not_kept : ℕ
not_kept = 49

-- the code of why a manager refuses a session's call
abbrev pub unserved_code : Unserved → ℕ
unserved_code unserved.NoSession = no_session
unserved_code unserved.HasContext = 25
unserved_code unserved.NoContext = 26
unserved_code unserved.InUse = 27
unserved_code unserved.OutOfMemory = no_memory

-- a call's result as an answer of the space, unless the manager refused the call
abbrev pub answered : {R : Type 0} → (R → Answer) → Result R Unserved → Result Answer Unserved
answered answer (Ok r) = Ok (answer r)
answered answer (Err why) = Err why

-- the code of a result, or of the manager's refusal
abbrev pub served_code : {R : Type 0} → (R → ℕ) → Result R Unserved → ℕ
served_code code (Ok answer) = code answer
served_code code (Err why) = unserved_code why

-- the code of why a context refuses a call
abbrev pub fault_code : ContextError → ℕ
fault_code StaleSavepoint = 48
fault_code NotHeld = not_kept
fault_code Waiting = 50
fault_code (Space cause) = cause_code cause

-- the code of a context's call that is done or refused
abbrev pub done_code : {A : Type 0} → Result A ContextError → ℕ
done_code (Ok answer) = 0
done_code (Err fault) = fault_code fault

-- the code of a request of a context: the lock is held, waited for, or refused
abbrev pub acquire_code : Result Acquire ContextError → ℕ
acquire_code (Ok (acquire.Acquired id)) = 0
acquire_code (Ok (acquire.MustWait number)) = 2
acquire_code (Err fault) = fault_code fault

-- the code of a request that doesn't wait: the lock is held, can't be had now, or is refused
abbrev pub tried_code : Result Tried ContextError → ℕ
tried_code (Ok (tried.Acquired id)) = 0
tried_code (Ok tried.WouldWait) = would_wait
tried_code (Err fault) = fault_code fault

-- the code that says whether the context keeps a ticket
abbrev pub kept_code : Bool → ℕ
kept_code is_kept = if is_kept then 0 else not_kept

-- the code of a context's wait: it goes on, has ended, or the call is refused
abbrev pub resume_code : Result Resume ContextError → ℕ
resume_code (Ok resume.Waiting) = 2
resume_code (Ok (resume.Acquired id)) = 0
resume_code (Ok (resume.Lost how)) = settled_code how
resume_code (Err fault) = fault_code fault

-- the number that is written: of the ticket, or of the wait. If there is none, the old number stays.
abbrev pub acquire_told : Option (Result Acquire ContextError) → ℕ → ℕ
acquire_told (Some (Ok (acquire.Acquired id))) old = id
acquire_told (Some (Ok (acquire.MustWait number))) old = number
acquire_told _ old = old

-- the number that is written: of the ticket. If there is none, the old number stays.
abbrev pub tried_told : Option (Result Tried ContextError) → ℕ → ℕ
tried_told (Some (Ok (tried.Acquired id))) old = id
tried_told _ old = old

-- the number that is written: of the ticket that was waited for. If there is none, the old number stays.
abbrev pub resume_told : Option (Result Resume ContextError) → ℕ → ℕ
resume_told (Some (Ok (resume.Acquired id))) old = id
resume_told _ old = old

-- a context's mark as C keeps it
abbrev pub mark_in_c : context.Mark → Mark
mark_in_c mark = record { statement = mark.statement; transaction = mark.transaction }

-- a mark of C as a context takes it
abbrev pub mark_in_context : Mark → context.Mark
mark_in_context mark = record { statement = mark.statement; transaction = mark.transaction }

-- the mark that is written. If there is none, the old one stays.
abbrev pub mark_told : Option context.Mark → Mark → Mark
mark_told (Some mark) old = mark_in_c mark
mark_told None old = old
