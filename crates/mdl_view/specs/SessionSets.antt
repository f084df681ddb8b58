-- Representations: how a set of sessions is stored, and what is noted of the sessions whose tickets block a mode: the first two, and whether there
-- are more.
use Rattle.std.specs.Prelude.{◌≡◌, ℕ, Bool, true, false, not, ◌&&◌, ◌||◌, ◌==◌, slice_index_or}
use Rattle.std.specs.List.{list_any}
use Rattle.mdl_view.specs.declared.act.Act.{Act}
use Rattle.mdl_view.specs.declared.few_sessions.FewSessions.{FewSessions}
use Rattle.mdl_view.specs.declared.few_sessions.FewSessions.TheVariants.{Nobody, One, Two, More}
use Rattle.mdl_view.specs.declared.lock_mode.LockMode.{LockMode}
use Rattle.mdl_view.specs.declared.session_set.SessionSet.{SessionSet}
use Rattle.mdl_view.specs.declared.ticket.Ticket.{Ticket}
use Rattle.mdl_view.specs.Acts.{is_taken}
use Rattle.mdl_view.specs.GoingOn.{Sessions, no_ticket}
use Rattle.mdl_view.specs.Locks.{LockView}
use Rattle.mdl_view.specs.Modes.{lock_clashes, lock_waits_behind}
use Rattle.std.specs.Prelude.{Option, Some, None}

-- whether a set has a session
abbrev pub has : SessionSet → Sessions
has set session = slice_index_or set.members.items session set.rest

-- which tickets an act takes, if there is an act
abbrev pub taken_by : Option Act → Ticket → Bool
taken_by None = no_ticket
taken_by (Some act) = is_taken act

-- ---- few sessions

-- whether a session is neither of these
abbrev pub is_apart : ℕ → ℕ → ℕ → Bool
is_apart one other session = not (session == one) && not (session == other)

-- what is noted is of different sessions
abbrev pub IsFew : FewSessions → Type 0
IsFew Nobody = Unit {0}
IsFew (One a) = Unit {0}
IsFew (Two a b) = (a == b) ≡ false
IsFew More = Unit {0}

-- whether some session that was noted is neither of these. Of three different ones, one is
abbrev pub some_apart : FewSessions → ℕ → ℕ → Bool
some_apart Nobody one other = false
some_apart (One a) one other = is_apart one other a
some_apart (Two a b) one other = is_apart one other a || is_apart one other b
some_apart More one other = true

-- whether two sessions that were noted are other ones than this
abbrev pub several_apart : FewSessions → ℕ → Bool
several_apart Nobody own = false
several_apart (One a) own = false
several_apart (Two a b) own = not (a == own) && not (b == own)
several_apart More own = true

-- whether a granted ticket that hasn't gone blocks requests in a mode, and its session is neither of these
abbrev pub holds_apart : LockView → (Ticket → Bool) → LockMode → ℕ → ℕ → Ticket → Bool
holds_apart lock gone mode one other held = lock_clashes lock.kind mode held.mode && not (gone held) && is_apart one other held.session

-- likewise of a waiting one
abbrev pub waits_apart : LockView → (Ticket → Bool) → LockMode → ℕ → ℕ → Ticket → Bool
waits_apart lock gone mode one other pending = lock_waits_behind lock.kind mode pending.mode && not (gone pending) && is_apart one other pending.session

-- whether some ticket does
abbrev pub is_against : LockView → (Ticket → Bool) → LockMode → ℕ → ℕ → Bool
is_against lock gone mode one other = list_any (holds_apart lock gone mode one other) lock.granted || list_any (waits_apart lock gone mode one other) lock.waiting

-- these are the sessions whose tickets block a mode and haven't gone
pub record AreAgainst (lock : LockView) (gone : Ticket → Bool) (mode : LockMode) (few : FewSessions) : Type 0 where
  pub sorted_out : IsFew few
  pub apart : (one other : ℕ) → some_apart few one other ≡ is_against lock gone mode one other
