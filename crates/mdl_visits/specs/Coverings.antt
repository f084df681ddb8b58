-- A mode that fits a place, and one that a ticket of the session covers.
use Rattle.std.specs.Prelude.{◌≡◌, ◌≢◌, ℕ, true, Some, None}
use Rattle.mdl_visits.specs.FirstWords.{KnownKey, Mode, SessionTicket, View, covers, get_elem?, is_mode_of, kind_of, numbered, some}

-- the session has looked up a key whose place this is, and the mode is one of its kind
abbrev pub FitsAt : View → ℕ → Mode → Type 0
FitsAt v place mode = (i : ℕ) × (k : KnownKey) × (get_elem? v.known i ≡ some k) × (k.place ≡ place) × (is_mode_of (kind_of k.key.namespace) mode ≡ true)

-- a second ticket, with this number and in this mode, can be made of one: the session has no wait, that ticket is a slow one of it, the number is the next
-- one, the mode fits the place, and the ticket's own mode covers it
pub record CanClone (ticket : SessionTicket) (number : ℕ) (mode : Mode) (v : View) : Type 0 where
  pub idle : v.asks ≡ None
  pub held : numbered ticket.number v.slow ≡ Some ticket
  pub next : number ≡ v.next
  pub fits : FitsAt v ticket.place mode
  pub covered : covers ticket.mode mode ≡ true

-- a ticket can get a stronger mode: it is a slow one of the session, with this number and at this place, and the mode covers its own
pub record MayRise (place number : ℕ) (mode : Mode) (v : View) : Type 0 where
  pub held : SessionTicket
  pub there : numbered number v.slow ≡ Some held
  pub here : held.place ≡ place
  pub stronger : covers mode held.mode ≡ true

-- a ticket can get the mode of another one, which is released: the session has no wait, both are slow tickets of it, they are two, at one place, and the
-- mode of the one released covers that of the other
pub record CanMerge (kept gone : SessionTicket) (v : View) : Type 0 where
  pub idle : v.asks ≡ None
  pub held : (numbered kept.number v.slow ≡ Some kept) × (numbered gone.number v.slow ≡ Some gone)
  pub two : kept.number ≢ gone.number
  pub here : kept.place ≡ gone.place
  pub covered : covers gone.mode kept.mode ≡ true
