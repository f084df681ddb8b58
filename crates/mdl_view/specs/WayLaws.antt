-- Laws of the waits that end in turn after an act.
use Rattle.std.specs.Prelude.{◌≡◌, ℕ, Bool, ◌&&◌, ◌||◌, ◌==◌, List, All, IsTrue}
use Rattle.std.specs.List.{Contains, list_all, list_any}
use Rattle.mdl_view.specs.declared.act.Act.{Act}
use Rattle.mdl_view.specs.Acts.{ends, is_taken}
use Rattle.mdl_view.specs.AtOnce.{at_once}
use Rattle.mdl_view.specs.Blockings.{is_blocked}
use Rattle.mdl_view.specs.GoingOn.{EndAfter, Sessions, in_turn, is_free, is_gone}
use Rattle.mdl_view.specs.Locks.{LockView}

-- which sessions end in turn after an act is determined
abbrev pub EndsAreDetermined : Type 0
EndsAreDetermined = (act : Act) (locks : List LockView) (one other : Sessions) → EndAfter act locks one → EndAfter act locks other
    → (session : ℕ) → one session ≡ other session

-- whether a session has a blocked wait, and each ticket that blocks it has gone: the act took it, or its session is among those that ended
abbrev pub is_freed_at : Act → Sessions → ℕ → LockView → Bool
is_freed_at act ended session lock =
    list_any (λ ask. (ask.session == session) && (is_blocked lock ask && is_free lock (is_gone (is_taken act) ended) ask)) lock.waiting

abbrev pub is_freed : Act → Sessions → List LockView → ℕ → Bool
is_freed act ended locks session = list_any (is_freed_at act ended session) locks

-- a session ends in turn only if the act ends it, or each ticket that blocks a wait of it has gone. So no single one of several sessions that block
-- a wait is ever said to be enough
abbrev pub NobodyEndsBlocked : Type 0
NobodyEndsBlocked = (act : Act) (locks : List LockView) (ended : Sessions) → EndAfter act locks ended
    → (session : ℕ) → IsTrue (ended session) → IsTrue (ends act session || is_freed act ended locks session)

-- each request goes if its session's statement is killed, as a server's requests do
abbrev pub are_of_statements : List LockView → Bool
are_of_statements locks = list_all (λ lock. list_all (λ ask. ask.of_statement) lock.waiting) locks

-- what is granted at once after an act goes on in turn
abbrev pub GrantedGoOn : Type 0
GrantedGoOn = (act : Act) (locks : List LockView) (ended : Sessions) → IsTrue (are_of_statements locks) → EndAfter act locks ended
    → All (Contains (in_turn act ended locks)) (at_once act locks)
