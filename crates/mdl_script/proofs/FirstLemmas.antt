-- The world at first: its sessions have nothing, and the space attends to them.
use Rattle.std.proofs.Common.{◌≡◌, ℕ, zero, suc, ◌<◌, ◌≤◌, ◌+◌, ◌-◌, false, List, [], ◌∷◌, ◌++◌, length, get_or, map, None, option_map, refl, sym, ap, ◌∙◌, subst, arith}
use Rattle.std.specs.Prelude.{is_some, replicate}
use Rattle.std.specs.List.{range_with_len}
use Rattle.std.proofs.lemmas.List.Elements.{All-nil}
use Rattle.std.proofs.lemmas.List.FromFn.{get_or-map-range_with_len, length-map-range_with_len}
use Rattle.mdl_calls.specs.Words.{HasNothing}
use Rattle.mdl_key.specs.Words.{most_sessions}
use Rattle.mdl_core.specs.Seats.{SeatView, empty_seat, locks_of_seat}
use Rattle.mdl_core.specs.Words as core
use Rattle.mdl_core.specs.Words.{Core, SpeaksFor, locks_at}
use Rattle.mdl_space.specs.CoreMembers.{core_space}
use Rattle.mdl_context.specs.Contexts.{Attends, wish_there}
use Rattle.mdl_script.specs.declared.play.Play.{Play}
use Rattle.mdl_script.specs.declared.play.Player as kept
use Rattle.mdl_script.specs.Plays.{AreSeated, IsManned, new_player, numbered_player}
use Rattle.mdl_script.specs.Worlds.{World, first_core, first_world, session_waits, sessions, unasked_player, waiting_in}
use Rattle.mdl_script.proofs.ListLemmas.{filter-none}
use Rattle.mdl_script.proofs.PlayLemmas.{SpeakForAll, waits-at}

-- ---- players

map-more : {A : Type 0} (f : ℕ → A) (a n m : ℕ) → a + n ≡ m → map f (range_with_len a n) ++ f m ∷ [] ≡ map f (range_with_len a (suc n))
map-more f a zero m same = let here : m ≡ a = omega (arith, same) in ap (λ k. f k ∷ []) here
map-more f a (suc n) m same = ap (λ xs. f a ∷ xs) (map-more f (a + 1) n m (omega (arith, same)))

-- one more session
pub new-more : (players : List kept.Player) (who : ℕ) → 1 ≤ who → players ≡ map new_player (range_with_len 1 (who - 1))
    → players ++ new_player who ∷ [] ≡ map new_player (range_with_len 1 (who + 1 - 1))
new-more players who least so =
    let count : suc (who - 1) ≡ who + 1 - 1 = omega (arith, least) in
    ap (λ xs. xs ++ new_player who ∷ []) so ∙ map-more new_player 1 (who - 1) who (omega (arith, least)) ∙ ap (λ n. map new_player (range_with_len 1 n)) count

-- all of them
pub new-all : (players : List kept.Player) (who : ℕ) → most_sessions + 1 ≤ who → who ≤ most_sessions + 1 → players ≡ map new_player (range_with_len 1 (who - 1)) → players ≡ map new_player sessions
unfolding sessions
new-all players who least most so = let same : who - 1 ≡ most_sessions = omega (arith, least, most) in so ∙ ap (λ n. map new_player (range_with_len 1 n)) same

-- ---- the space at first

-- what these have is nothing
abbrev AreFresh : List SeatView → Type 0
AreFresh [] = Unit {0}
AreFresh (seat ∷ seats) = HasNothing (locks_of_seat seat) × AreFresh seats

fresh-replicate : (n : ℕ) → AreFresh (replicate n empty_seat)
fresh-replicate zero = tt
fresh-replicate (suc n) = ((refl, refl), fresh-replicate n)

fresh-at : (seats : List SeatView) (i : ℕ) → AreFresh seats → HasNothing (locks_of_seat (get_or seats i empty_seat))
fresh-at [] i fresh = (refl, refl)
fresh-at (seat ∷ seats) zero fresh = fresh.0
fresh-at (seat ∷ seats) (suc i) fresh = fresh-at seats i fresh.1

first-seats : first_core.seats ≡ record { held = []; wait = None; pins = []; last_ticket = 1; last_wait = 0 } ∷ replicate (most_sessions - 1) empty_seat
unfolding core.admitting_up_to
first-seats = refl

first-own : (who : ℕ) → HasNothing (locks_at first_core who)
first-own who = fresh-at first_core.seats (who - 1) (subst AreFresh (sym first-seats) ((refl, refl), fresh-replicate (most_sessions - 1)))

-- ---- they are seated

attended-first : (core : Core) (who : ℕ) → SpeaksFor core who → HasNothing (locks_at core who) → Attends core_space core (new_player who).runner.context
attended-first core who speaks has =
    record { speaks = speaks; serves = record { held = has.0; wait = ap (option_map wish_there) has.1 }; known = All-nil _; pinned = All-nil _; places = All-nil _; wish = tt }

seated-first : (core : Core) (a n : ℕ) → ((who : ℕ) → a ≤ who → who < a + n → SpeaksFor core who) → ((who : ℕ) → HasNothing (locks_at core who)) → AreSeated core a (map new_player (range_with_len a n))
seated-first core a zero speaks has = tt
seated-first core a (suc n) speaks has = (
  refl,
  record { attends = attended-first core a (speaks a (omega arith) (omega arith)) (has a); met = λ one among. tt },
  seated-first core (a + 1) n (λ who least most. speaks who (omega arith) (omega arith)) has,
)

-- ---- the world

players-first : (a n : ℕ) → map numbered_player (map new_player (range_with_len a n)) ≡ map unasked_player (range_with_len a n)
players-first a zero = refl
players-first a (suc n) = ap (λ xs. unasked_player a ∷ xs) (players-first (a + 1) n)

pub first-of : (core : Core) (players : List kept.Player) → core ≡ first_core → players ≡ map new_player sessions
    → let world : World = record { core = core; players = map numbered_player players } in world ≡ first_world
unfolding sessions
first-of core players space all = rw (space, all) (ap (λ ps. let world : World = record { core = first_core; players = ps } in world) (players-first 1 most_sessions))

-- none of so many sessions waits
none-waits : (core : Core) (n who : ℕ) → 1 ≤ who → who < 1 + n
    → session_waits (record { core = core; players = map numbered_player (map new_player (range_with_len 1 n)) }) who ≡ false
none-waits core n who least most =
    waits-at core (map new_player (range_with_len 1 n)) who (new_player who) least (omega (arith, most, length-map-range_with_len new_player 1 n))
    ∙ ap (λ (player : kept.Player). is_some player.runner.work)
    (get_or-map-range_with_len new_player 1 n (who - 1) who (new_player who) (omega (arith, least, most)) (omega (arith, least)))

nobody-waits : (core : Core) → let world : World = record { core = core; players = map numbered_player (map new_player sessions) } in waiting_in world ≡ []
unfolding sessions
nobody-waits core =
    let world : World = record { core = core; players = map numbered_player (map new_player (range_with_len 1 most_sessions)) } in
    filter-none (session_waits world) 1 most_sessions (none-waits core most_sessions)

pub first-manned : (play : Play) → play.space ≡ first_core → SpeakForAll play.space → play.players.items ≡ map new_player sessions → play.waiting.items ≡ [] → IsManned play
unfolding sessions
first-manned play space speaks all none = record {
  all = ap length all ∙ length-map-range_with_len new_player 1 most_sessions;
  seated = subst (AreSeated play.space 1) (sym all) (seated-first play.space 1 most_sessions (λ who least most. speaks who least (omega arith)) (λ who. subst (λ core. HasNothing (locks_at core who)) (sym space) (first-own who)));
  waiting = none ∙ sym (ap (λ ps. let world : World = record { core = play.space; players = map numbered_player ps } in waiting_in world) all ∙ nobody-waits play.space);
}
