-- The codes that C gets. Those below 16 are answers, the others refusals. Those from 32 on are the refusals of a lock space, in the order of its
-- errors.
use Rattle.std.specs.Prelude.{ℕ, ◌==◌, Option, Some, None, if◌then◌else◌}
use Rattle.mdl_key.specs.declared.mode.Duration.{Duration}
use Rattle.mdl_key.specs.declared.mode.Duration.TheVariants.{Statement, Transaction, Explicit}
use Rattle.mdl_key.specs.declared.mode.Mode.{Mode}
use Rattle.mdl_key.specs.declared.mode.Mode.TheVariants.{IX, S, SH, SR, SW, SWLP, SU, SRO, SNW, SNRW, X}
use Rattle.mdl_key.specs.declared.namespace.Namespace.{Namespace}
use Rattle.mdl_key.specs.declared.namespace.Namespace.TheVariants.{Global, Schema, Table, Commit, UserLevelLock}
use Rattle.mdl_key.specs.declared.key_error.Utf8NameError.{Utf8NameError}
use Rattle.mdl_key.specs.declared.key_error.Utf8NameError.TheVariants as name
use Rattle.mdl_calls.specs.declared.answers.Settled.{Settled}
use Rattle.mdl_calls.specs.declared.answers.Settled.TheVariants as settled
use Rattle.mdl_calls.specs.declared.new_error.NewError.{NewError}
use Rattle.mdl_calls.specs.declared.new_error.NewError.TheVariants as new
use Rattle.mdl_calls.specs.declared.space_error.SpaceError.{SpaceError}
use Rattle.mdl_calls.specs.declared.space_error.SpaceError.TheVariants.{NoPlace, NotHeld, NotUpgradable, NotExclusive, AlreadyWaiting, BadMode, VersionFull, NoWait, Unsettled, CounterFull, Full, Def, WrongKind, OutOfMemory, InUse}

-- the version of the library and of its headers: 600 is 0.6.0
abbrev pub library_version : ℕ
library_version = 600

-- the lock can't be granted now
abbrev pub would_wait : ℕ
would_wait = 1

-- there is no manager (closed), there is one already, it has no such session, there is no such mode
abbrev pub closed : ℕ
closed = 16

abbrev pub is_open_already : ℕ
is_open_already = 17

abbrev pub no_session : ℕ
no_session = 18

abbrev pub no_mode : ℕ
no_mode = 21

-- a name isn't UTF-8
abbrev pub bad_byte : ℕ
bad_byte = 24

-- there is no such duration, there is no such namespace
abbrev pub no_duration : ℕ
no_duration = 28

abbrev pub no_namespace : ℕ
no_namespace = 29

-- the program was built with the headers of another version
abbrev pub other_version : ℕ
other_version = 30

-- the session doesn't pin the place, or the place has no key, or all places are in use
abbrev pub no_place : ℕ
no_place = 32

-- the key doesn't take the mode
abbrev pub bad_mode : ℕ
bad_mode = 37

-- the session has no wait
abbrev pub no_wait : ℕ
no_wait = 39

-- memory ran out
abbrev pub no_memory : ℕ
no_memory = 45

-- the mode of a number, in the order of MySQL 5.7
abbrev pub mode_at : ℕ → Option Mode
mode_at number =
    if number == 0 then Some IX
    else (if number == 1 then Some S
    else (if number == 2 then Some SH
    else (if number == 3 then Some SR
    else (if number == 4 then Some SW
    else (if number == 5 then Some SWLP
    else (if number == 6 then Some SU
    else (if number == 7 then Some SRO
    else (if number == 8 then Some SNW
    else (if number == 9 then Some SNRW
    else (if number == 10 then Some X else None))))))))))

-- the duration of a number, in the order of MySQL 5.7
abbrev pub duration_at : ℕ → Option Duration
duration_at number =
    if number == 0 then Some Statement
    else (if number == 1 then Some Transaction
    else (if number == 2 then Some Explicit else None))

-- the namespace of a number, in the order of MySQL 5.7, which has other namespaces between them
abbrev pub namespace_at : ℕ → Option Namespace
namespace_at number =
    if number == 0 then Some Global
    else (if number == 1 then Some Schema
    else (if number == 2 then Some Table
    else (if number == 3 then Some Commit
    else (if number == 4 then Some UserLevelLock else None))))

-- the code of why a manager can't be made
abbrev pub new_code : NewError → ℕ
new_code new.BadPlaces = 19
new_code new.BadSessions = 20
new_code new.OutOfMemory = no_memory

-- the code of why a key can't be made
abbrev pub name_code : Utf8NameError → ℕ
name_code name.EmptyName = 22
name_code name.LongName = 23
name_code name.OutOfMemory = no_memory

-- the code of why the space refuses a call
abbrev pub cause_code : SpaceError → ℕ
cause_code NoPlace = no_place
cause_code NotHeld = 33
cause_code NotUpgradable = 34
cause_code NotExclusive = 35
cause_code AlreadyWaiting = 36
cause_code BadMode = bad_mode
cause_code VersionFull = 38
cause_code NoWait = no_wait
cause_code Unsettled = 40
cause_code CounterFull = 41
cause_code Full = 42
cause_code (Def _) = 43
cause_code WrongKind = 44
cause_code OutOfMemory = no_memory
cause_code InUse = 46

-- the code of how a wait is settled
abbrev pub settled_code : Settled → ℕ
settled_code settled.Granted = 0
settled_code settled.Victim = 3
settled_code settled.Timeout = 4
settled_code settled.Killed = 5
