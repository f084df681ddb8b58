-- `change_definition`: a change of the definition at a held ticket's place, which gets the next version. It is refused if no such ticket is held, if it isn't
-- held in mode X, if what stands there can't be changed so, or if memory runs out. Dropping a definition takes no memory. It changes no ticket and no wait.
use Rattle.std.specs.Prelude.{◌≡◌, ℕ, Bool, true, false, Option, Some, None}
use Rattle.mdl_defs.specs.declared.def_error.DefError.TheVariants as fault
use Rattle.mdl_calls.specs.FirstWords.{Answer, CallSpec, Change, Changed, ChangesThere, Def, Held, IsRefusedFor, Knowledge, NotExclusive, NotHeld, OfHeld, OutOfMemory, ReadsNothing, Refused, SessionData, SessionLocks, SpaceError, VersionFull, WrongKind, X, change_takes_memory, holds, same_mode, ticket_held, unchanged}

-- its answers
abbrev pub answers : Answer → Bool
answers (Refused why) = true
answers (Changed version) = true
answers _ = false

-- the ticket is held in mode X
abbrev pub IsExclusive : ℕ → SessionLocks → Type 0
IsExclusive id own = OfHeld id own (λ ticket. same_mode ticket.mode X ≡ true)

-- why it is refused. That memory ran out is told as such, and never as a fault of the definition.
abbrev pub cause : ℕ → Change → SpaceError → Knowledge → SessionLocks → Type 0
cause id change NotHeld knows own = holds id own ≡ false
cause id change NotExclusive knows own = OfHeld id own (λ ticket. same_mode ticket.mode X ≡ false)
cause id change VersionFull knows own = IsExclusive id own
cause id change (Def fault.OutOfMemory) knows own = ⊥
cause id change (Def _) knows own = IsExclusive id own
cause id change WrongKind knows own = IsExclusive id own
cause id change OutOfMemory knows own = change_takes_memory change ≡ true
cause id change _ knows own = ⊥

-- the definition at the ticket's place was changed
abbrev pub redefines : ℕ → Answer → Option ℕ
redefines id (Changed version) = Some id
redefines id _ = None

-- the session met what stood at the ticket's place, and notes and has read what the change made of it
abbrev pub reads : ℕ → Change → Answer → SessionData → SessionData → Type 0
reads id change (Changed version) a b = OfHeld id a.own (λ ticket. ChangesThere change version a b ticket.place)
reads id change _ a b = ReadsNothing a b

-- under a ticket in mode X it is refused only for what it met there, or for want of memory
abbrev pub says : ℕ → Change → Answer → SessionData → SessionData → Type 0
says id change (Refused why) a b = (ticket : Held) → ticket_held id a.own ≡ Some ticket → IsRefusedFor change why a ticket
says id change (Changed version) a b = Unit {0}
says id change _ a b = ⊥

-- the call
abbrev pub change_definition : ℕ → ℕ → Change → CallSpec
change_definition who id change = record (unchanged who) {
  takes_memory = change_takes_memory change;
  answers = answers;
  clear = λ knows own. IsExclusive id own;
  cause = cause id change;
  redefines = redefines id;
  reads = reads id change;
  says = says id change;
}
