-- What a call does to its caller's tickets, wait and pins, and which numbers it gives them: its effect.
use Rattle.std.specs.Prelude.{◌≡◌, ℕ, Bool, true, false}
use Rattle.mdl_key.specs.declared.mode.Mode.{Mode}
use Rattle.mdl_calls.specs.SessionLocks.{DrawsTicket, DrawsWait, Numbers, SessionLocks, changing, cloning, ending, gaining, giving_up, merging, pinning, ticket_held, unpinning, upgraded, waiting, winning}

-- the effect of a call
pub data Effect : Type 0 where
  -- nothing changes
  Keeps : Effect
  -- the caller gets a ticket
  Gains : (id place : ℕ) (mode : Mode) → Effect
  -- its wait begins
  Begins : (number place : ℕ) (mode : Mode) → Effect
  -- its wait ends with the ticket that it waited for
  Wins : (id : ℕ) → Effect
  -- its wait ends without a ticket
  Ends : Effect
  -- a ticket is released
  GivesUp : (id : ℕ) → Effect
  -- it gets a second ticket beside a held one
  Clones : (copy id : ℕ) (mode : Mode) → Effect
  -- a ticket gets a mode, unless its own covers that already
  Raises : (id : ℕ) (mode : Mode) → Effect
  -- a ticket gets the mode of another one, which is released
  Merges : (old new : ℕ) → Effect
  -- a ticket gets a mode
  Lowers : (id : ℕ) (mode : Mode) → Effect
  -- the caller pins a place
  Pins : (place : ℕ) → Effect
  -- it gives up its pin of a place
  Unpins : (place : ℕ) → Effect

-- what the caller has afterwards
abbrev pub own_by : Effect → SessionLocks → SessionLocks
own_by Keeps own = own
own_by (Gains id place mode) own = gaining id place mode own
own_by (Begins number place mode) own = waiting number place mode own
own_by (Wins id) own = winning id own.wait own
own_by Ends own = ending own
own_by (GivesUp id) own = giving_up id own
own_by (Clones copy id mode) own = cloning copy mode (ticket_held id own) own
own_by (Raises id mode) own = changing id (upgraded mode) own
own_by (Merges old new) own = merging old new (ticket_held new own) own
own_by (Lowers id mode) own = changing id (λ _. mode) own
own_by (Pins place) own = pinning place own
own_by (Unpins place) own = unpinning place own

-- which numbers it gets. The ticket of an ended wait has the number that it got when the wait began, which is still the last one.
abbrev pub DrawsBy : Effect → Numbers → Numbers → Type 0
DrawsBy (Gains id place mode) before after = DrawsTicket id before after
DrawsBy (Begins number place mode) before after = DrawsWait number before after
DrawsBy (Wins id) before after = (id ≡ before.last_ticket) × (after ≡ before)
DrawsBy (Clones copy id mode) before after = DrawsTicket copy before after
DrawsBy _ before after = after ≡ before

-- whether the caller's wait ended
abbrev pub ends : Effect → Bool
ends (Wins id) = true
ends Ends = true
ends _ = false
