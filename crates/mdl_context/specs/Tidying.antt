-- How a context lets go of places: once it has nothing more at a place, its session gives up the pin there, so that the space can give the place to
-- another key. This project's own choice, as MySQL 5.7 has no places: there `MDL_map` of sql/mdl.cc drops a lock that nobody has or waits for.
use Rattle.std.specs.Prelude.{◌≡◌, ◌⊎◌, ℕ, Bool, true, false, not, ◌||◌, ◌==◌, List, [], ◌∷◌, All, filter, map}
use Rattle.std.specs.List.{list_any}
use Rattle.std.specs.Option.{option_map_or}
use Rattle.mdl_calls.specs.declared.lock_space.LockSpace.{Ghosts}
use Rattle.mdl_calls.specs.SessionLocks.{is_pinned}
use Rattle.mdl_calls.specs.Words.{Unpin, Program, Give, Ask, ◌>>◌}
use Rattle.mdl_context.specs.Contexts.{ContextView, is_known_place}
use Rattle.mdl_context.specs.Holdings.{is_kept_at}
use Rattle.mdl_context.specs.Requests.{Outcome}

-- whether the context has something at a place: a ticket, or its wait
abbrev pub is_needed : ContextView → ℕ → Bool
is_needed context place = list_any (is_kept_at place) context.kept || option_map_or (λ wanted. wanted.place == place) context.wait false

-- the known places where the context has nothing, in the order in which their keys became known
abbrev pub unneeded : ContextView → List ℕ
unneeded context = filter (λ place. not (is_needed context place)) (map (λ entry. entry.1) context.known)

-- the context that knows only the places where it has something
abbrev pub tidied : ContextView → ContextView
tidied context = record context { known = filter (λ entry. is_needed context entry.1) context.known }

-- the program that gives up a session's pins of places, one after the other
abbrev pub unpinning_all : ℕ → List ℕ → Program (Unit {0})
unpinning_all who [] = Give tt
unpinning_all who (place ∷ places) = Ask (Unpin who place) (λ _. unpinning_all who places)

-- the end of a call with this outcome: the context lets go of the places where it has nothing
abbrev pub tidying : {A : Type 0} → Outcome A → Program (Outcome A)
tidying (reply, context) = unpinning_all context.who (unneeded context) >> Give (reply, tidied context)

-- the context has something at each place that it knows
abbrev pub IsTidy : ContextView → Type 0
IsTidy context = All (λ entry. is_needed context entry.1 ≡ true) context.known

-- the session pins only places where the context has something, and owes no reschedule
abbrev pub PinsJustNeeded : {S : Type 0} → Ghosts S → S → ContextView → Type 0
PinsJustNeeded members space context =
    ((place : ℕ) → is_pinned place (members.own space context.who) ≡ true → is_needed context place ≡ true)
    × ((place : ℕ) → members.owes space context.who place → ⊥)

-- a call leaves no pin behind: if the session pinned only places where the context had something, it does so after the call. The same holds of the
-- places that the context knows, whatever the session pins besides
abbrev pub StaysTidy : {S : Type 0} → Ghosts S → S → ContextView → S → ContextView → Type 0
StaysTidy members a before b after = (IsTidy before → IsTidy after) × (PinsJustNeeded members a before → PinsJustNeeded members b after)

-- of a place that the context knew and knows no longer, the session has no pin any more, unless it owed the place a reschedule
abbrev pub LetsGo : {S : Type 0} → Ghosts S → S → ContextView → S → ContextView → Type 0
LetsGo members a before b after =
    (place : ℕ) → is_known_place before.known place ≡ true → is_known_place after.known place ≡ false
    → (is_pinned place (members.own b before.who) ≡ false) ⊎ members.owes a before.who place
