-- What a context knows after its calls, whatever the lock space answered: only places where it has something.
use Rattle.std.specs.Prelude.{ℕ, List}
use Rattle.std.specs.Option.{IfSome}
use Rattle.mdl_key.specs.declared.mode.Mode.{Mode}
use Rattle.mdl_calls.specs.Words.{Each, Program}
use Rattle.mdl_context.specs.declared.kept.Kept.{Kept}
use Rattle.mdl_context.specs.Contexts.{ContextView, IsAwaited}
use Rattle.mdl_context.specs.Releases.{releasing, releasing_tickets}
use Rattle.mdl_context.specs.Requests.{Outcome, acquiring, trying}
use Rattle.mdl_context.specs.Tidying.{IsTidy}
use Rattle.mdl_context.specs.Upgrades.{upgrading, downgrading}
use Rattle.mdl_context.specs.Waits.{resuming, giving_up_wait}
use Rattle.mdl_context.specs.Wishes.{Wish}

-- after tickets were released the context has something at each place that it knows
abbrev pub ReleasesLeaveTidy : Type 0
ReleasesLeaveTidy = (gone : List Kept) (context : ContextView) → Each (λ outcome. IsTidy outcome.1) (releasing_tickets gone context)

-- if a context has something at each place that it knows, it still does after this program
abbrev pub KeepsTidy : {A : Type 0} → ContextView → Program (Outcome A) → Type 0
KeepsTidy context program = IsTidy context → Each (λ outcome. IsTidy outcome.1) program

-- that holds of each request for a lock, of each upgrade, downgrade and release of a ticket, and of each wait that goes on or is given up. A
-- wait to upgrade a ticket needs that ticket
abbrev pub CallsStayTidy : Type 0
CallsStayTidy =
    (context : ContextView) →
    ((request : Wish) → KeepsTidy context (acquiring request context) × KeepsTidy context (trying request context))
    × ((id : ℕ) (mode : Mode) → KeepsTidy context (upgrading id mode context) × KeepsTidy context (downgrading id mode context))
    × ((id : ℕ) → KeepsTidy context (releasing id context))
    × (IfSome context.wait (IsAwaited context.known context.kept) →
    KeepsTidy context (resuming context) × KeepsTidy context (giving_up_wait context))
