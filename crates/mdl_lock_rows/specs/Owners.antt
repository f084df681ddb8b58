-- The threads that hold locks or wait for them, and what rows say of their sessions.
use Rattle.std.specs.Prelude.{ℕ, Bool, not, ◌&&◌, ◌||◌, ◌==◌, List, [], ◌∷◌, length, Option, None, is_some, if◌then◌else◌}

-- a thread, and what a row says of its session: the number of its connection, and texts as they are in the row. A text is empty if the row has
-- NULL or no such column
pub record OwnerView : Type 0 where
  pub thread : ℕ
  pub connection : Option ℕ
  pub user : List ℕ
  pub host : List ℕ
  pub command : List ℕ
  pub time : List ℕ
  pub info : List ℕ
  pub transaction_started : List ℕ

-- a thread of which nothing more is known
abbrev pub bare : ℕ → OwnerView
bare thread = record { thread = thread; connection = None; user = []; host = []; command = []; time = []; info = []; transaction_started = [] }

-- whether a text is there
abbrev pub is_there : List ℕ → Bool
is_there text = not (length text == 0)

-- whether anything is known of a thread's session
abbrev pub is_described : OwnerView → Bool
is_described owner =
    is_some owner.connection || is_there owner.user || is_there owner.host || is_there owner.command || is_there owner.time
    || is_there owner.info || is_there owner.transaction_started

-- what is known of a thread: what the first says of it that says anything
abbrev pub described_by : List OwnerView → ℕ → OwnerView
described_by [] thread = bare thread
described_by (owner ∷ owners) thread = if (owner.thread == thread) && is_described owner then owner else described_by owners thread

-- ---- representations

-- what is known of a thread, after one more row of it: what the first one said, unless it said nothing
abbrev pub described_too : OwnerView → OwnerView → OwnerView
described_too more owner = if is_described more && not (is_described owner) then more else owner
