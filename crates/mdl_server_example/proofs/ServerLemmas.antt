-- Sessions over one lock space, of which one makes calls.
use Rattle.std.proofs.Common.{◌≡◌, ℕ, zero, suc, ◌<◌, ◌≤◌, ◌+◌, ◌-◌, List, [], ◌∷◌, ◌++◌, length, get_or, set, map, option_map, refl, sym, ap, ◌∙◌, subst, arith}
use Rattle.std.specs.Prelude.{replicate}
use Rattle.std.specs.List.{range_with_len}
use Rattle.std.proofs.lemmas.List.Elements.{All-nil}
use Rattle.mdl_calls.specs.Words.{HasNothing}
use Rattle.mdl_core.specs.Seats.{SeatView, empty_seat, locks_of_seat}
use Rattle.mdl_core.specs.Words.{Core, SpeaksFor, empty_core, locks_at}
use Rattle.mdl_space.specs.CoreMembers.{core_space}
use Rattle.mdl_context.specs.Contexts.{LeavesOthers, wish_there}
use Rattle.mdl_stmt.specs.Attendance.{AttendsWith}
use Rattle.mdl_stmt.proofs.AttendanceLemmas.{attends-besides, attends-empty}
use Rattle.mdl_stmt.specs.KeptStages.{OwnedView}
use Rattle.mdl_server_example.specs.Servers.{AreServed, new_session}

-- ---- one of them makes calls

-- each of them is served
served-at : (space : Core) (first i : ℕ) (xs : List OwnedView) (d : OwnedView) → AreServed space first xs → i < length xs
    → ((get_or xs i d).context.who ≡ first + i) × AttendsWith core_space space (get_or xs i d).context (get_or xs i d).cache
served-at space first i [] d served inside = absurd (omega (arith, inside))
served-at space first zero (x ∷ xs) d served inside = (served.0 ∙ omega arith, served.1)
served-at space first (suc i) (x ∷ xs) d served inside =
    let rest = served-at space (first + 1) i xs d served.2 (omega (arith, inside)) in (rest.0 ∙ omega arith, rest.1)

-- so is the one of this index
pub served-one : (space : Core) (i : ℕ) (xs : List OwnedView) (x : OwnedView) → AreServed space 1 xs → i < length xs → x ≡ get_or xs i x
    → (x.context.who ≡ 1 + i) × AttendsWith core_space space x.context x.cache
served-one space i xs x served inside here =
    subst (λ (y : OwnedView). (y.context.who ≡ 1 + i) × AttendsWith core_space space y.context y.cache) (sym here) (served-at space 1 i xs x served inside)

-- an earlier one has
still-served : (before after : Core) (first who : ℕ) (xs : List OwnedView) → LeavesOthers core_space who before after → who < first
    → AreServed before first xs → AreServed after first xs
still-served before after first who [] leaves later served = tt
still-served before after first who (x ∷ xs) leaves later served = (
  served.0,
  attends-besides core_space before after x.context x.cache who leaves (λ e. omega (arith, served.0, e, later)) served.1,
  still-served before after (first + 1) who xs leaves (omega (arith, later)) served.2,
)

-- one of them has
served-then : (before after : Core) (first i : ℕ) (xs : List OwnedView) (x : OwnedView) → AreServed before first xs → i < length xs
    → x.context.who ≡ first + i → AttendsWith core_space after x.context x.cache → LeavesOthers core_space (first + i) before after
    → AreServed after first (set xs i x)
served-then before after first i [] x served inside who attends leaves = absurd (omega (arith, inside))
served-then before after first zero (y ∷ ys) x served inside who attends leaves =
    (who ∙ omega arith, attends, still-served before after (first + 1) (first + 0) ys leaves (omega arith) served.2)
served-then before after first (suc i) (y ∷ ys) x served inside who attends leaves =
    let same : first + 1 + i ≡ first + suc i = omega arith in (
      served.0,
      attends-besides core_space before after y.context y.cache (first + suc i) leaves (λ e. omega (arith, served.0, e)) served.1,
      served-then before after (first + 1) i ys x served.2 (omega (arith, inside)) (who ∙ sym same) attends
          (subst (λ n. LeavesOthers core_space n before after) (sym same) leaves),
    )

-- the one of this index has
pub served-again : (before after : Core) (i : ℕ) (xs : List OwnedView) (x y : OwnedView) → AreServed before 1 xs → i < length xs → x ≡ get_or xs i x
    → y.context.who ≡ x.context.who → AttendsWith core_space after y.context y.cache → LeavesOthers core_space x.context.who before after
    → AreServed after 1 (set xs i y)
served-again before after i xs x y served inside here who attends leaves =
    let whose = (served-one before i xs x served inside here).0 in
    served-then before after 1 i xs y served inside (who ∙ whose) attends (subst (λ n. LeavesOthers core_space n before after) whose leaves)

-- the first of them has left
pub served-rest : (before after : Core) (first : ℕ) (x : OwnedView) (xs all : List OwnedView) → all ≡ x ∷ xs → AreServed before first all
    → LeavesOthers core_space x.context.who before after → AreServed after (first + 1) xs
served-rest before after first x xs all same served leaves =
    let each = subst (AreServed before first) same served in
    still-served before after (first + 1) x.context.who xs leaves (omega (arith, each.0)) each.2

-- ---- they are new

map-more : {A : Type 0} (f : ℕ → A) (a n m : ℕ) → a + n ≡ m → map f (range_with_len a n) ++ f m ∷ [] ≡ map f (range_with_len a (suc n))
map-more f a zero m same = let here : m ≡ a = omega (arith, same) in ap (λ k. f k ∷ []) here
map-more f a (suc n) m same = ap (λ xs. f a ∷ xs) (map-more f (a + 1) n m (omega (arith, same)))

-- one more session
pub new-more : (xs : List OwnedView) (n : ℕ) → xs ≡ map new_session (range_with_len 1 n) → xs ++ new_session (n + 1) ∷ [] ≡ map new_session (range_with_len 1 (n + 1))
new-more xs n so =
    let count : suc n ≡ n + 1 = omega arith in
    ap (λ ys. ys ++ new_session (n + 1) ∷ []) so ∙ map-more new_session 1 n (n + 1) (omega arith) ∙ ap (λ k. map new_session (range_with_len 1 k)) count

-- what these have is nothing
abbrev AreFresh : List SeatView → Type 0
AreFresh [] = Unit {0}
AreFresh (seat ∷ seats) = HasNothing (locks_of_seat seat) × AreFresh seats

fresh-replicate : (n : ℕ) → AreFresh (replicate n empty_seat)
fresh-replicate zero = tt
fresh-replicate (suc n) = ((refl, refl), fresh-replicate n)

fresh-at : (seats : List SeatView) (i : ℕ) → AreFresh seats → HasNothing (locks_of_seat (get_or seats i empty_seat))
fresh-at [] i fresh = (refl, refl)
fresh-at (seat ∷ seats) zero fresh = fresh.0
fresh-at (seat ∷ seats) (suc i) fresh = fresh-at seats i fresh.1

attended-new : (space : Core) (who : ℕ) → SpeaksFor space who → HasNothing (locks_at space who) → AttendsWith core_space space (new_session who).context (new_session who).cache
attended-new space who speaks has =
    attends-empty core_space space (new_session who).context (new_session who).cache refl
    (record { speaks = speaks; serves = record { held = has.0; wait = ap (option_map wish_there) has.1 }; known = All-nil _; pinned = All-nil _; places = All-nil _; wish = tt })

served-new : (space : Core) (a n : ℕ) → ((who : ℕ) → a ≤ who → who < a + n → SpeaksFor space who) → ((who : ℕ) → HasNothing (locks_at space who))
    → AreServed space a (map new_session (range_with_len a n))
served-new space a zero speaks has = tt
served-new space a (suc n) speaks has =
    (refl, attended-new space a (speaks a (omega arith) (omega arith)) (has a), served-new space (a + 1) n (λ who least most. speaks who (omega (arith, least)) (omega (arith, most))) has)

-- a new space serves new sessions
pub served-first : (space : Core) (places n : ℕ) (xs : List OwnedView) → space ≡ empty_core places n → ((who : ℕ) → 1 ≤ who → who ≤ n → SpeaksFor space who)
    → xs ≡ map new_session (range_with_len 1 n) → AreServed space 1 xs
served-first space places n xs made speaks new =
    subst (AreServed space 1) (sym new)
    (served-new space 1 n (λ who least most. speaks who least (omega (arith, most)))
    (λ who. subst (λ (core : Core). HasNothing (locks_at core who)) (sym made) (fresh-at (replicate n empty_seat) (who - 1) (fresh-replicate n))))
