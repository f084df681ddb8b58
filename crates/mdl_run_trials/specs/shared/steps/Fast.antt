-- A session that has fast tickets at the place of one key, and nothing else.
use Rattle.std.specs.Prelude.{◌≡◌, ℕ, ◌+◌, List, [], ◌∷◌, length, Some, None}
use Rattle.mdl_key.specs.declared.mode.Mode.{Mode}
use Rattle.mdl_key.specs.declared.namespace.Kind.{Kind}
use Rattle.mdl_steps.specs.declared.view.SessionTicket.{SessionTicket}
use Rattle.mdl_steps.specs.FastPlays.{fast_own}
use Rattle.mdl_steps.specs.SeatStates.{SeatState}
use Rattle.mdl_steps.specs.Seats.{IsPlace}
use Rattle.mdl_visits.specs.Idle.{HoldsNoLatch}
use Rattle.mdl_key.specs.KeyLookups.{kind_known}

-- fast tickets at a place in these modes, numbered one after the other
abbrev pub fast_from : ℕ → ℕ → List Mode → List SessionTicket
fast_from place number [] = []
fast_from place number (mode ∷ modes) = fast_own number place mode None ∷ fast_from place (number + 1) modes

-- the session has fast tickets in these modes at a place whose key it knows, numbered from `number` on, and nothing else
pub record HasFastAlone (place : ℕ) (kind : Kind) (number : ℕ) (modes : List Mode) (s : SeatState) : Type 0 where
  pub placed : IsPlace s.table place
  pub known : kind_known place s.me.0.known ≡ Some kind
  pub idle : HoldsNoLatch s.me
  pub asks : s.me.0.asks ≡ None
  pub slow : s.me.0.slow ≡ []
  pub fast : s.me.0.fast ≡ fast_from place number modes
  pub next : s.me.0.next ≡ number + length modes
