-- The passes of a space's sessions.
use Rattle.std.specs.Prelude.{◌≡◌, ℕ, ◌+◌, ◌<◌, List, [], length, slice_index_or}
use Rattle.mdl_shared.specs.FirstWords.{Member, SessionView, TableId, arc_value, enrolled_seat, session_at, session_count, word_count}
use Rattle.mdl_shared.specs.declared.manager.Manager.{Manager}
use Rattle.mdl_shared.specs.declared.pass.Pass.{Pass}

-- the table of a space
abbrev pub manager_table : Manager → TableId
manager_table manager = (arc_value manager.table).shared.table_id

-- the value of a session, open or not: what it is at the table
abbrev pub view_of : Member → SessionView
view_of m = session_at m.seat m.sessions m.tickets.room m.known.pins

-- the value of a pass's session once it is opened
abbrev pub pass_view : Pass → SessionView
pass_view pass = view_of pass.member

-- the table at which a pass's session has its seat
abbrev pub pass_table : Pass → TableId
pass_table pass = (pass_view pass).table

-- the number of a pass's session
abbrev pub pass_number : Pass → ℕ
pass_number pass = (pass_view pass).me.0.number

-- a pass of the session with this number at this table, in a space of as many sessions as the table has words for. The session knows, has and pins nothing,
-- and its only step was the one that drew its number
pub record IsPass (table : TableId) (number : ℕ) (pass : Pass) : Type 0 where
  pub theirs : pass_table pass ≡ table
  pub numbered : pass_number pass ≡ number
  pub sessions : (pass_view pass).sessions ≡ session_count table.slots table.words
  pub fresh : (pass_view pass).me ≡ (enrolled_seat table number).me
  pub unpinned : (pass_view pass).pins ≡ []

-- the passes of the sessions from 1 on, in order
abbrev pub ArePasses : TableId → List Pass → Type 0
ArePasses table passes = (k : ℕ) (d : Pass) → k < length passes → IsPass table (k + 1) (slice_index_or passes k d)

-- a new space with these numbers of places and sessions, whose passes these are
abbrev pub IsNewSpace : ℕ → ℕ → Manager → List Pass → Type 0
IsNewSpace places sessions manager passes =
    ((manager_table manager).slots ≡ places + 1) × ((manager_table manager).words ≡ word_count (places + 1) sessions) × (length passes ≡ sessions)
    × ArePasses (manager_table manager) passes
