-- The tickets of a session by duration, after MySQL 5.7: `MDL_context` of sql/mdl.h and sql/mdl.cc. MySQL's savepoints point at
-- the newest tickets. That a mark counts tickets instead is this project's own choice.
use Rattle.std.specs.Prelude.{◌≡◌, ◌≢◌, ℕ, Bool, true, false, not, ◌&&◌, ◌||◌, ◌==◌, nat_lt, List, ◌++◌, map, filter, find, drop, length, reverse, All, Option, None, MatchOption, IsTrue}
use Rattle.std.specs.List.{last_or, list_any}
use Rattle.std.specs.Map.{lookup}
use Rattle.std.specs.Option.{IfSome, option_and_then, option_map, option_map_or}
use Rattle.mdl_key.specs.declared.mode.Mode.{Mode}
use Rattle.mdl_key.specs.declared.mode.Duration.{Duration}
use Rattle.mdl_key.specs.declared.mode.Duration.TheVariants.{Statement, Transaction, Explicit}
use Rattle.mdl_key.specs.declared.namespace.Namespace.{Namespace}
use Rattle.mdl_key.specs.declared.namespace.Namespace.TheVariants.{UserLevelLock}
use Rattle.mdl_key.specs.Keys.{KeyName, key_eq}
use Rattle.mdl_key.specs.Modes.{kind_of, is_mode_of}
use Rattle.mdl_defs.specs.declared.versioned_definition.VersionedDefinition.{VersionedDefinition}
use Rattle.mdl_calls.specs.declared.answers.Held.{Held}
use Rattle.mdl_calls.specs.declared.answers.Settled.{Settled}
use Rattle.mdl_calls.specs.SessionLocks.{SessionLocks, Wait, are_rising, is_pinned}
use Rattle.mdl_system.specs.Strength.{covers}
use Rattle.mdl_calls.specs.declared.lock_space.LockSpace.{Ghosts}
use Rattle.mdl_context.specs.declared.kept.Kept.{Kept}
use Rattle.mdl_context.specs.declared.kept.Wanted.{Wanted}
use Rattle.mdl_context.specs.declared.request.Mark.{Mark}

-- a context: its session, the session's tickets in the order in which it got them, the keys with known places, in the order in
-- which they became known, and the wait that isn't ended yet
pub record ContextView : Type 0 where
  pub who : ℕ
  pub kept : List Kept
  pub known : List (KeyName × ℕ)
  pub wait : Option Wanted

-- the rank of a duration: statement, transaction, explicit
abbrev pub duration_rank : Duration → ℕ
duration_rank Statement = 0
duration_rank Transaction = 1
duration_rank Explicit = 2

-- whether a ticket is kept for this duration
abbrev pub lasts : Duration → Kept → Bool
lasts duration ticket = duration_rank ticket.duration == duration_rank duration

-- the tickets of a duration, in rising number
abbrev pub tickets_for : Duration → List Kept → List Kept
tickets_for duration kept = filter (lasts duration) kept

-- the session's current mark: how many tickets of the statement and of the transaction it keeps
abbrev pub current_mark : List Kept → Mark
current_mark kept = record { statement = length (tickets_for Statement kept); transaction = length (tickets_for Transaction kept) }

-- whether a mark is stale: fewer tickets of the statement or of the transaction are kept than it counted
abbrev pub is_stale : Mark → List Kept → Bool
is_stale mark kept = nat_lt (length (tickets_for Statement kept)) mark.statement || nat_lt (length (tickets_for Transaction kept)) mark.transaction

-- the tickets of a duration after the first `most`
abbrev pub beyond : Duration → ℕ → List Kept → List Kept
beyond duration most kept = drop most (tickets_for duration kept)

-- tickets that are listed in the order in which the session got them, the newest first
abbrev pub newest_first : List Kept → List Kept
newest_first kept = reverse kept

-- the tickets beyond the counts of a mark, those of the statement first, of each duration the newest first. Unless tickets have
-- become transactional since the mark, these are the ones that were gained since
abbrev pub beyond_mark : Mark → List Kept → List Kept
beyond_mark mark kept = newest_first (beyond Statement mark.statement kept) ++ newest_first (beyond Transaction mark.transaction kept)

-- the tickets that end with a statement, the newest first
abbrev pub of_statement : List Kept → List Kept
of_statement kept = newest_first (tickets_for Statement kept)

-- the tickets that end with a transaction, those of the statement first, of each duration the newest first
abbrev pub of_transaction : List Kept → List Kept
of_transaction kept = of_statement kept ++ newest_first (tickets_for Transaction kept)

-- whether one of the tickets has this number
abbrev pub has_number : List Kept → ℕ → Bool
has_number tickets id = list_any (λ ticket. ticket.id == id) tickets

-- the kept ticket with a number, if there is one
abbrev pub ticket_kept : ℕ → List Kept → Option Kept
ticket_kept id kept = find (λ ticket. ticket.id == id) kept

-- the tickets of a list whose numbers don't occur in another list
abbrev pub without_tickets : List Kept → List Kept → List Kept
without_tickets gone kept = filter (λ ticket. not (has_number gone ticket.id)) kept

-- the place of a key, if it is known
abbrev pub place_known : KeyName → List (KeyName × ℕ) → Option ℕ
place_known key known = lookup (key_eq key) known

-- whether a place is that of a known key
abbrev pub is_known_place : List (KeyName × ℕ) → ℕ → Bool
is_known_place known place = list_any (λ entry. entry.1 == place) known

-- whether a namespace is that of user-level locks
abbrev pub is_of_user_locks : Namespace → Bool
is_of_user_locks UserLevelLock = true
is_of_user_locks _ = false

-- whether a place is that of a known user-level lock
abbrev pub is_user_lock : List (KeyName × ℕ) → ℕ → Bool
is_user_lock known place = list_any (λ entry. entry.1 == place && is_of_user_locks entry.0.namespace) known

-- whether the session waits for a user-level lock
abbrev pub waits_for_user_lock : ContextView → Bool
waits_for_user_lock context = option_map_or (λ wanted. is_user_lock context.known wanted.place) context.wait false

-- the number of the ticket at a place that was gained last
abbrev pub last_at : ℕ → List Kept → Option ℕ
last_at place kept = last_or None (map (λ ticket. ticket.id) (filter (λ ticket. ticket.place == place) kept))

-- the number of the ticket of a key that was gained last
abbrev pub last_ticket : KeyName → ContextView → Option ℕ
last_ticket key context = option_and_then (λ place. last_at place context.kept) (place_known key context.known)

-- whether a ticket is at this place, in a mode at least as strong as this one
abbrev pub covers_at : ℕ → Mode → Kept → Bool
covers_at place mode ticket = ticket.place == place && covers ticket.mode mode

-- whether the session has a ticket of a key in a mode at least as strong as this one, which is a mode of the key's kind
abbrev pub holds_as_strong : KeyName → Mode → ContextView → Bool
holds_as_strong key mode context =
    is_mode_of (kind_of key.namespace) mode
    && option_map_or (λ place. list_any (covers_at place mode) context.kept) (place_known key context.known) false

-- a kept ticket as the lock space shows it, without its duration
abbrev pub held_of : Kept → Held
held_of ticket = record { id = ticket.id; place = ticket.place; mode = ticket.mode }

-- the numbers of kept tickets rise
abbrev pub AreRising : List Kept → Type 0
AreRising kept = IsTrue (are_rising (map held_of kept))

-- the place and the mode that are waited for, in the lock space and in a context
abbrev pub wish_there : Wait → ℕ × Mode
wish_there wait = (wait.place, wait.mode)

abbrev pub wish_here : Wanted → ℕ × Mode
wish_here wanted = (wanted.place, wanted.mode)

-- a context keeps exactly the tickets that the session holds in the lock space, and waits for the same place and mode as the
-- session does there
pub record Serves (own : SessionLocks) (context : ContextView) : Type 0 where
  pub held : own.held ≡ map held_of context.kept
  pub wait : option_map wish_there own.wait ≡ option_map wish_here context.wait

-- a wait can upgrade a ticket: the ticket is at the place that is waited for, and the wanted mode is at least as strong as its
-- own
abbrev pub IsUpgradedBy : Wanted → Kept → Type 0
IsUpgradedBy wanted ticket = (ticket.place ≡ wanted.place) × (covers wanted.mode ticket.mode ≡ true)

-- a wait is for a known place. If it is to upgrade a ticket, that ticket is kept at this place, and the wanted mode is at least
-- as strong as its own
abbrev pub IsAwaited : List (KeyName × ℕ) → List Kept → Wanted → Type 0
IsAwaited known kept wanted =
    (is_known_place known wanted.place ≡ true) × IfSome wanted.upgrades (λ id. MatchOption (ticket_kept id kept) ⊥ (IsUpgradedBy wanted))

-- the lock space speaks for the context's session, and the context keeps what the session has there. The session knows each
-- place that the context knows, with its key, and pins it. So the place keeps its key, and locks can be requested there. Each
-- ticket is at one of these places, and so is the wait. The members are the space's definitions of the trait `LockSpace`
pub record Attends {S : Type 0} (members : Ghosts S) (space : S) (context : ContextView) : Type 0 where
  pub speaks : members.speaks_for space context.who
  pub serves : Serves (members.own space context.who) context
  pub known : All (λ entry. members.knows space context.who entry.1 entry.0) context.known
  pub pinned : All (λ entry. is_pinned entry.1 (members.own space context.who) ≡ true) context.known
  pub places : All (λ ticket. is_known_place context.known ticket.place ≡ true) context.kept
  pub wish : IfSome context.wait (IsAwaited context.known context.kept)

-- a session's wait is settled, in one way or another
abbrev pub HasSettledWait : {S : Type 0} → (S → ℕ → Settled → Type 0) → S → ℕ → Type 0
HasSettledWait is_settled space who = (how : Settled) × is_settled space who how

-- a lock space still speaks for each of its sessions, and the standings that a session has met stay met
abbrev pub KeepsMet : {S : Type 0} → Ghosts S → S → S → Type 0
KeepsMet members before after =
    (w : ℕ) → members.speaks_for before w →
    members.speaks_for after w × ((place : ℕ) (standing : VersionedDefinition) → members.has_met before w place standing → members.has_met after w place standing)

-- a lock space still speaks for all sessions except one, and nothing changes for them: each has what it had, and knows what it
-- knew. The standings that any session has met stay met
abbrev pub LeavesOthers : {S : Type 0} → Ghosts S → ℕ → S → S → Type 0
LeavesOthers members who before after =
    ((w : ℕ) → w ≢ who → members.speaks_for before w →
    members.speaks_for after w × (members.own after w ≡ members.own before w)
    × ((place : ℕ) (key : KeyName) → members.knows before w place key → members.knows after w place key))
    × KeepsMet members before after
