-- The sessions whose waits are settled, one after the other, and the room into which they are written.
use Rattle.std.proofs.Common.{◌≡◌, ◌∙◌, ℕ, zero, suc, ◌+◌, ◌≤◌, Bool, true, false, not, ◌&&◌, ◌==◌, if◌then◌else◌, cond, List, [], ◌∷◌, ◌++◌, filter, length, set, Option, Some, None, option_map, refl, sym, ap, subst, arith}
use Rattle.std.specs.Prelude.{nat_le, slice_set}
use Rattle.std.specs.Option.{option_map_or}
use Rattle.std.specs.List.{range_with_len}
use Rattle.std.proofs.lemmas.List.{append-nil, length-append, set_past}
use Rattle.std.proofs.lemmas.List.Elements.{filter-append}
use Rattle.mdl_core.specs.declared.pending.Pending.{Pending}
use Rattle.mdl_core.specs.CoreCalls.{has_settled}
use Rattle.mdl_core.specs.Words.{seat_at}
use Rattle.mdl_space.specs.SettledWaits.{settled_waits}
use Rattle.mdl_space.proofs.SettledLemmas.{none-settled}
use Rattle.mdl_c_parts.specs.Rows.{room_written}
use Rattle.mdl_c_calls.specs.Listings.{IsNoted, has_settled_wait, is_newly_settled, newly_settled, noted, noted_to, settled_number, settled_sessions, told_number}
use Rattle.mdl_c_calls.specs.Managers.{Managed, has_member, session_count_of}
use Rattle.mdl_c_parts.proofs.WrittenLemmas.{written-none}

-- ---- the room

-- nothing is written past the room
pub left_past : (room : List ℕ) (index who : ℕ) → length room ≤ index → room ≡ set room index who
left_past room index who past = sym (set_past room index who past)

-- one more is written behind those that are
written-behind_all : (items room : List ℕ) (who : ℕ) → set (room_written items room) (length items) who ≡ room_written (items ++ who ∷ []) room
written-behind_all [] [] who = refl
written-behind_all [] (entry ∷ room) who = ap (λ xs. who ∷ xs) (sym (written-none room))
written-behind_all (item ∷ items) [] who = refl
written-behind_all (item ∷ items) (entry ∷ room) who = ap (λ xs. item ∷ xs) (written-behind_all items room who)

pub written-one : (items room now next : List ℕ) (count who : ℕ) → now ≡ room_written items room → count ≡ length items → next ≡ set now count who
    → (next ≡ room_written (items ++ who ∷ []) room) × (count + 1 ≡ length (items ++ who ∷ []))
written-one items room now next count who written counted put = (
  put ∙ ap (λ xs. set xs count who) written ∙ ap (λ k. set (room_written items room) k who) counted ∙ written-behind_all items room who,
  omega (arith, counted, length-append items (who ∷ [])),
)

-- ---- the sessions

-- those up to this number of which something is so
abbrev pub picked_to : (ℕ → Bool) → ℕ → List ℕ
picked_to p most = filter p (range_with_len 1 most)

range-more : (a n m : ℕ) → a + n ≡ m → range_with_len a n ++ m ∷ [] ≡ range_with_len a (suc n)
range-more a zero m same = let here : m ≡ a = omega (arith, same) in ap (λ k. k ∷ []) here
range-more a (suc n) m same = ap (λ xs. a ∷ xs) (range-more (a + 1) n m (omega (arith, same)))

picked-more : (p : ℕ → Bool) (n : ℕ) → picked_to p (n + 1) ≡ picked_to p n ++ filter p ((n + 1) ∷ [])
picked-more p n =
    let count : suc n ≡ n + 1 = omega arith in
    let range : range_with_len 1 n ++ (n + 1) ∷ [] ≡ range_with_len 1 (n + 1) = range-more 1 n (n + 1) (omega arith) ∙ ap (range_with_len 1) count in
    ap (filter p) (sym range) ∙ filter-append p (range_with_len 1 n) ((n + 1) ∷ [])

-- it is so of the next session, which is written
pub picked-put : (p : ℕ → Bool) (room now next : List ℕ) (n count : ℕ) → now ≡ room_written (picked_to p n) room → count ≡ length (picked_to p n)
    → p (n + 1) ≡ true → next ≡ set now count (n + 1)
    → (next ≡ room_written (picked_to p (n + 1)) room) × (count + 1 ≡ length (picked_to p (n + 1)))
picked-put p room now next n count written counted picked put =
    let kept : filter p ((n + 1) ∷ []) ≡ (n + 1) ∷ [] = ap (λ b. cond b ((n + 1) ∷ []) []) picked in
    let more : picked_to p (n + 1) ≡ picked_to p n ++ (n + 1) ∷ [] = picked-more p n ∙ ap (λ xs. picked_to p n ++ xs) kept in
    subst (λ (xs : List ℕ). (next ≡ room_written xs room) × (count + 1 ≡ length xs)) (sym more)
    (written-one (picked_to p n) room now next count (n + 1) written counted put)

-- it isn't so of the next session
pub picked-passed : (p : ℕ → Bool) (n : ℕ) → p (n + 1) ≡ false → picked_to p n ≡ picked_to p (n + 1)
picked-passed p n other =
    let left : filter p ((n + 1) ∷ []) ≡ [] = ap (λ b. cond b ((n + 1) ∷ []) []) other in
    sym (picked-more p n ∙ ap (λ xs. picked_to p n ++ xs) left ∙ append-nil (picked_to p n))

-- ---- the numbers that are told

noted-suc : (manager : Managed) (told : List ℕ) (n : ℕ) (number : Option ℕ) → settled_number (n + 1) manager ≡ number
    → noted_to manager told (n + 1) ≡ option_map_or (λ k. slice_set (noted_to manager told n) n k) number (noted_to manager told n)
noted-suc manager told n number is =
    let count : n + 1 ≡ suc n = omega arith in
    ap (noted_to manager told) count
    ∙ ap (λ o. option_map_or (λ k. slice_set (noted_to manager told n) n k) o (noted_to manager told n))
    (ap (λ k. settled_number k manager) (sym count) ∙ is)

-- that of the next session's wait is
pub noted-put : (manager : Managed) (told now next : List ℕ) (n number : ℕ) → now ≡ noted_to manager told n → settled_number (n + 1) manager ≡ Some number
    → next ≡ slice_set now n number → next ≡ noted_to manager told (n + 1)
noted-put manager told now next n number noted is put = put ∙ ap (λ xs. slice_set xs n number) noted ∙ sym (noted-suc manager told n (Some number) is)

-- there is no such wait
pub noted-passed : (manager : Managed) (told now : List ℕ) (n : ℕ) → now ≡ noted_to manager told n → settled_number (n + 1) manager ≡ None
    → now ≡ noted_to manager told (n + 1)
noted-passed manager told now n noted is = noted ∙ sym (noted-suc manager told n None is)

-- ---- no session

filter-none : (p : ℕ → Bool) (a n : ℕ) → ((k : ℕ) → p k ≡ false) → filter p (range_with_len a n) ≡ []
filter-none p a zero none = refl
filter-none p a (suc n) none = rw (none a, filter-none p (a + 1) n none) refl

not-settled : (member settled : Bool) → settled ≡ false → (member && settled) ≡ false
not-settled true settled none = none
not-settled false settled none = refl

-- where no wait is settled, none is told
unsettled : (manager : Managed) → settled_waits manager.space.seats ≡ 0 → (who : ℕ) → has_settled_wait manager who ≡ false
unsettled manager none who = not-settled (has_member who manager) (has_settled manager.space who) (none-settled manager.space none who)

pub settled-none : (manager : Managed) → settled_waits manager.space.seats ≡ 0 → settled_sessions manager ≡ []
settled-none manager none = filter-none (has_settled_wait manager) 1 (session_count_of manager) (unsettled manager none)

unnumbered : (manager : Managed) → settled_waits manager.space.seats ≡ 0 → (who : ℕ) → settled_number who manager ≡ None
unnumbered manager none who =
    ap (λ b. if b then option_map (λ (wait : Pending). wait.number) (seat_at who manager.space).wait else None) (unsettled manager none who)

pub newly-none : (manager : Managed) (told : List ℕ) → settled_waits manager.space.seats ≡ 0 → newly_settled manager told ≡ []
newly-none manager told none =
    filter-none (is_newly_settled manager told) 1 (session_count_of manager)
    (λ who. ap (λ o. option_map_or (λ number. not (number == told_number who told)) o false) (unnumbered manager none who))

-- nor is a number
unnoted : (manager : Managed) (told : List ℕ) (n : ℕ) → ((who : ℕ) → settled_number who manager ≡ None) → noted_to manager told n ≡ told
unnoted manager told zero none = refl
unnoted manager told (suc n) none =
    ap (λ o. option_map_or (λ k. slice_set (noted_to manager told n) n k) o (noted_to manager told n)) (none (suc n)) ∙ unnoted manager told n none

noted-none : (manager : Managed) (told : List ℕ) → settled_waits manager.space.seats ≡ 0 → noted manager told ≡ told
noted-none manager told none = unnoted manager told (session_count_of manager) (unnumbered manager none)

pub noted-still : (manager : Managed) (told : List ℕ) (room : ℕ) → settled_waits manager.space.seats ≡ 0 → IsNoted manager told told room
noted-still manager told room none = by (nat_le (length (newly_settled manager told)) room) where
  by : (fits : Bool) → told ≡ (if fits then noted manager told else told)
  by true = sym (noted-none manager told none)
  by false = refl
