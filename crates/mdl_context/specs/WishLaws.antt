-- What a wish (a request for a lock) results in, whatever the lock space answers.
use Rattle.std.specs.Prelude.{◌≡◌, ℕ, Bool, true, [], ◌∷◌, ◌++◌, Some, None, Ok, Err}
use Rattle.std.specs.List.{Contains}
use Rattle.mdl_key.specs.declared.mode.Duration.TheVariants.{Explicit}
use Rattle.mdl_calls.specs.declared.answers.Held.{Held}
use Rattle.mdl_calls.specs.Words.{Each, Give}
use Rattle.mdl_system.specs.Strength.{covers}
use Rattle.mdl_context.specs.declared.kept.Kept.{Kept}
use Rattle.mdl_context.specs.declared.request.Acquire.TheVariants.{Acquired, MustWait}
use Rattle.mdl_context.specs.Wishes.{Wish}
use Rattle.mdl_context.specs.Contexts.{ContextView, lasts, place_known}
use Rattle.mdl_context.specs.Holdings.{earliest, kept_ticket, wanted_of}
use Rattle.mdl_context.specs.declared.request.Acquire.{Acquire}
use Rattle.mdl_context.specs.declared.request.Tried.{Tried}
use Rattle.mdl_context.specs.declared.request.Tried.TheVariants as try_as
use Rattle.mdl_context.specs.Requests.{Outcome, acquiring, is_reusable, trying}

-- a ticket fits a request: it is at this place, in a mode at least as strong, and of the requested duration
abbrev pub IsAsWished : ℕ → Wish → Kept → Type 0
IsAsWished place request ticket = (ticket.place ≡ place) × (covers ticket.mode request.mode ≡ true) × (lasts request.duration ticket ≡ true)

-- a request is met by the ticket of this number: the context keeps it, at the place of the key, and it fits the request
abbrev pub IsHad : Wish → ℕ → ContextView → Type 0
IsHad request id context =
    (place : ℕ) × (ticket : Kept) × (place_known request.key context.known ≡ Some place) × Contains context.kept ticket × (ticket.id ≡ id)
    × IsAsWished place request ticket

-- the result of a request: it is met by the returned ticket, or the context waits for a ticket that fits it, at the place of the key,
-- or its tickets and its wait are unchanged
abbrev pub IsMet : Wish → ContextView → Outcome Acquire → Type 0
IsMet request before (Ok (Acquired id), after) = IsHad request id after
IsMet request before (Ok (MustWait number), after) =
    (place : ℕ) × (searched : Bool) × (place_known request.key after.known ≡ Some place)
    × (after.wait ≡ Some (wanted_of place request searched)) × (after.kept ≡ before.kept)
IsMet request before (Err error, after) = (after.kept ≡ before.kept) × (after.wait ≡ before.wait)

-- the result of a request that doesn't wait: it is met by the returned ticket, or the context's tickets and its wait are unchanged
abbrev pub IsMetAtOnce : Wish → ContextView → Outcome Tried → Type 0
IsMetAtOnce request before (Ok (try_as.Acquired id), after) = IsHad request id after
IsMetAtOnce request before (Ok try_as.WouldWait, after) = (after.kept ≡ before.kept) × (after.wait ≡ before.wait)
IsMetAtOnce request before (Err error, after) = (after.kept ≡ before.kept) × (after.wait ≡ before.wait)

-- each request has such a result, whether it waits or not
abbrev pub WishesAreMet : Type 0
WishesAreMet =
    (request : Wish) (context : ContextView) →
    Each (IsMet request context) (acquiring request context) × Each (IsMetAtOnce request context) (trying request context)

-- the returned ticket, if there is one, is new, and is after all others
abbrev pub GainsATicket : Wish → ContextView → Outcome Acquire → Type 0
GainsATicket request before (Ok (Acquired id), after) = (place : ℕ) × (after.kept ≡ before.kept ++ kept_ticket id place request ∷ [])
GainsATicket request before _ = Unit {0}

-- the same for a request that doesn't wait
abbrev pub GainsAtOnce : Wish → ContextView → Outcome Tried → Type 0
GainsAtOnce request before (Ok (try_as.Acquired id), after) = (place : ℕ) × (after.kept ≡ before.kept ++ kept_ticket id place request ∷ [])
GainsAtOnce request before _ = Unit {0}

-- a request with explicit duration gets a new ticket of its own
abbrev pub ExplicitWishesGain : Type 0
ExplicitWishesGain =
    (request : Wish) (context : ContextView) → request.duration ≡ Explicit →
    Each (GainsATicket request context) (acquiring request context) × Each (GainsAtOnce request context) (trying request context)

-- if tickets at the place of the key can be used again, the earliest of them is, no call of the space is made, and nothing changes
abbrev pub TicketsAreUsedAgain : Type 0
TicketsAreUsedAgain =
    (request : Wish) (context : ContextView) (place : ℕ) (ticket : Held) → context.wait ≡ None →
    place_known request.key context.known ≡ Some place → earliest (is_reusable place request) context.kept ≡ Some ticket →
    (acquiring request context ≡ Give (Ok (Acquired ticket.id), context))
    × (trying request context ≡ Give (Ok (try_as.Acquired ticket.id), context))
