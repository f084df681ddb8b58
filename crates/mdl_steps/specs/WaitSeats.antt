-- What must hold for a caller to make a step on a wait word.
use Rattle.std.specs.Prelude.{◌≡◌, ℕ, ◌<◌, true, false, [], Some, None}
use Rattle.mdl_steps.specs.FirstWords.{Ask, Flagged, IsLost, KnowsPlace, LatchRecord, MayJoin, Mode, TableId, Ticket, can_be_granted, enqueueing, goes_first, held_at, is_mode_of, lock_kind, ticket_of, wait_word}
use Rattle.mdl_steps.specs.Plays.{Mine}
use Rattle.mdl_steps.specs.WaitPlays.{asked_ticket}

-- the table has a wait word for the session
abbrev pub IsSession : TableId → ℕ → Type 0
IsSession id session = (0 < session) × (wait_word id.slots session < id.words)

-- the seat holds the latch of the place and may open a wait for a mode there: the session waits for nothing, has no fast ticket at all, has looked up
-- the place's key, and the flags are up that the lists need with its ticket. The wish can't be granted by the book and a word. If the flag OBTRUSIVE is
-- up, that is the noted word, which counts exactly the fast tickets. Otherwise the mode is unobtrusive, and the word says nothing
pub record MayOpen (place : ℕ) (mode : Mode) (h : LatchRecord) (m : Mine) : Type 0 where
  pub recorded : held_at place m.0.latches ≡ Some h
  pub idle : m.0.asks ≡ None
  pub unfast : m.0.fast ≡ []
  pub known : KnowsPlace m.0 place
  pub mode_is : is_mode_of (lock_kind h.book) mode ≡ true
  pub flagged : Flagged (enqueueing (asked_ticket mode m.0) h.book) h.slow h.obtrusive
  pub word : ℕ
  pub read : h.obtrusive ≡ true → (h.noted ≡ Some word) × (h.exact ≡ true)
  pub blocked : can_be_granted (lock_kind h.book) h.book.granted h.book.waiting word m.0.number mode ≡ false

-- the seat holds the latch of the place, and the waiting ticket of a session there is compatible with all that other sessions hold, and is behind no
-- other session's waiting ticket
pub record MayGrant (place session ticket : ℕ) (h : LatchRecord) (m : Mine) : Type 0 where
  pub recorded : held_at place m.0.latches ≡ Some h
  pub wish : Ticket
  pub waits : ticket_of session ticket h.book.waiting ≡ Some wish
  pub may : MayJoin session h.book h.noted wish.mode
  pub first : goes_first (lock_kind h.book) h.book.waiting session wish.mode ≡ true

-- the seat met its own wait lost, and holds the latch of the place where its ticket waits
pub record MayCancel (place : ℕ) (h : LatchRecord) (m : Mine) : Type 0 where
  pub recorded : held_at place m.0.latches ≡ Some h
  pub state : ℕ
  pub told : m.0.told ≡ Some state
  pub lost : IsLost state
  pub ask : Ask
  pub asks : m.0.asks ≡ Some ask
  pub here : ask.place ≡ place
