-- The sessions of a manager that have a context, and what the calls of the others leave them.
use Rattle.std.proofs.Common.{◌≡◌, ◌≢◌, ℕ, zero, suc, false, ◌<◌, ◌≤◌, ◌+◌, List, [], ◌∷◌, length, get_or, set, Option, Some, None, refl, sym, ap, ◌∙◌, subst, arith, inl, inr}
use Rattle.std.specs.Prelude.{replicate}
use Rattle.std.proofs.lemmas.Bool.{true≢false}
use Rattle.std.proofs.lemmas.Bool.Decides.{eqb_tells}
use Rattle.mdl_key.specs.Keys.{KeyName}
use Rattle.mdl_calls.specs.Words.{Answer, Call, Resolve, caller, SessionLocks, own_after}
use Rattle.mdl_core.specs.CoreJoins.{Joins}
use Rattle.mdl_core.specs.Words.{Core, Knows, SpeaksFor, locks_at}
use Rattle.mdl_core.proofs.CallLaws.{core-changes, core-keeps, core-others, core-remembers}
use Rattle.mdl_core.proofs.CoreSound.{calls_keep-sound}
use Rattle.mdl_context.proofs.AttendLemmas.{attends-kept, resolved-keeps}
use Rattle.mdl_context.proofs.PinLemmas.{PinsStay, pins-rest, pins-same, unpins}
use Rattle.mdl_c_calls.specs.Managers.{AreAttended, IsAttended}
use Rattle.mdl_c_calls.specs.declared.seat.Seat.{Seat}
use Rattle.mdl_c_calls.specs.declared.seat.Seat.TheVariants.{Direct, Kept}

-- a session has the tickets and the wait that it had, and pins what it pinned
abbrev pub HasStill : SessionLocks → SessionLocks → Type 0
HasStill before after = (after.held ≡ before.held) × (after.wait ≡ before.wait) × PinsStay before after

-- the space goes on to speak for a session, which has what it had, and knows what it knew
abbrev pub IsSpared : Core → Core → ℕ → Type 0
IsSpared a b w =
    SpeaksFor a w → SpeaksFor b w × HasStill (locks_at a w) (locks_at b w) × ((place : ℕ) (key : KeyName) → Knows a w place key → Knows b w place key)

-- ---- calls

pub same-still : (before after : SessionLocks) → after ≡ before → HasStill before after
same-still before after same = (
  ap (λ (own : SessionLocks). own.held) same,
  ap (λ (own : SessionLocks). own.wait) same,
  pins-same before after (ap (λ (own : SessionLocks). own.pins) same),
)

-- to ask for the place of a key takes nothing from a session
pub resolved-still : (who : ℕ) (key : KeyName) (answer : Answer) (own : SessionLocks) → HasStill own (own_after (Resolve who key) answer own)
resolved-still who key answer own =
    let kept = resolved-keeps who key answer own in (kept.0, kept.1, pins-rest (Resolve who key) answer own refl)

-- a call spares those for whom it isn't made
pub spared-other : (a b : Core) (call : Call) (answer : Answer) (w : ℕ) → (caller call ≡ Some w → ⊥) → Joins a call answer b → IsSpared a b w
spared-other a b call answer w other joined speaks = (
  core-keeps calls_keep-sound a b call answer w speaks joined,
  same-still _ _ (core-others a b call answer w speaks other joined),
  λ place key. core-remembers a b call answer w place key speaks (λ theirs done. other (ap caller theirs)) joined,
)

-- and its caller, too, where it leaves the tickets, the wait and the pins of that
pub spared-still : (a b : Core) (call : Call) (answer : Answer) (w : ℕ) → unpins call ≡ false → ((own : SessionLocks) → HasStill own (own_after call answer own))
    → Joins a call answer b → IsSpared a b w
spared-still a b call answer w stays still joined speaks = (
  core-keeps calls_keep-sound a b call answer w speaks joined,
  same (caller call) refl,
  λ place key. core-remembers a b call answer w place key speaks (λ gone done. true≢false (ap unpins (sym gone) ∙ stays)) joined,
)
  where
    caller-still : locks_at b w ≡ own_after call answer (locks_at a w) → HasStill (locks_at a w) (locks_at b w)
    caller-still now =
        let kept = still (locks_at a w) in
        let there = same-still _ _ now in (there.0 ∙ kept.0, there.1 ∙ kept.1, λ place pinned. there.2 place (kept.2 place pinned))

    same : (o : Option ℕ) → caller call ≡ o → HasStill (locks_at a w) (locks_at b w)
    same None nobody = same-still _ _ (core-others a b call answer w speaks (λ mine. let no = sym nobody ∙ mine in cc) joined)
    same (Some v) theirs = elim (eqb_tells w v) [
      | inl is ↦ caller-still (core-changes a b call answer w (theirs ∙ ap Some (sym is.1)) joined)
      | inr not ↦ same-still _ _ (core-others a b call answer w speaks (λ mine. let no = sym theirs ∙ mine in not.1 (cc)) joined)
    ]

-- ---- contexts

-- a context is attended as before, where its session is spared
still-attended : (a b : Core) (w : ℕ) (seat : Seat) → IsSpared a b w → IsAttended a w seat → IsAttended b w seat
still-attended a b w Direct spared attended = tt
still-attended a b w (Kept context) spared attended =
    let kept = subst (IsSpared a b) (sym attended.0) spared attended.1.speaks in
    (attended.0, attends-kept a b context attended.1 kept.2 kept.1.2 kept.0 kept.1.0 kept.1.1)

-- so are all
pub all-attended : (a b : Core) (first : ℕ) (seats : List Seat) → ((w : ℕ) → first ≤ w → IsSpared a b w) → AreAttended a first seats → AreAttended b first seats
all-attended a b first [] spared all = tt
all-attended a b first (seat ∷ seats) spared all = (
  still-attended a b first seat (spared first (omega arith)) all.0,
  all-attended a b (first + 1) seats (λ w later. spared w (omega (arith, later))) all.1,
)

-- the session at this index makes a call, and no context keeps its tickets
pub direct-attended : (a b : Core) (first i : ℕ) (seats : List Seat) → ((w : ℕ) → w ≢ first + i → IsSpared a b w) → get_or seats i Direct ≡ Direct
    → AreAttended a first seats → AreAttended b first seats
direct-attended a b first i [] spared direct all = tt
direct-attended a b first zero (Direct ∷ seats) spared direct all =
    (tt, all-attended a b (first + 1) seats (λ w later. spared w (λ e. omega (arith, later, e))) all.1)
direct-attended a b first zero (Kept context ∷ seats) spared direct all = cc
direct-attended a b first (suc i) (seat ∷ seats) spared direct all = (
  still-attended a b first seat (spared first (λ e. omega (arith, e))) all.0,
  direct-attended a b (first + 1) i seats (λ w other. spared w (λ e. other (omega (arith, e)))) direct all.1,
)

-- the session at this index has this seat then
pub set-attended : (a b : Core) (first i : ℕ) (seats : List Seat) (seat : Seat) → ((w : ℕ) → w ≢ first + i → IsSpared a b w) → IsAttended b (first + i) seat
    → AreAttended a first seats → AreAttended b first (set seats i seat)
set-attended a b first i [] seat spared attended all = tt
set-attended a b first zero (before ∷ seats) seat spared attended all = (
  subst (λ w. IsAttended b w seat) (omega arith) attended,
  all-attended a b (first + 1) seats (λ w later. spared w (λ e. omega (arith, later, e))) all.1,
)
set-attended a b first (suc i) (before ∷ seats) seat spared attended all =
    let same : first + suc i ≡ first + 1 + i = omega arith in (
      still-attended a b first before (spared first (λ e. omega (arith, e))) all.0,
      set-attended a b (first + 1) i seats seat (λ w other. spared w (λ e. other (e ∙ same))) (subst (λ w. IsAttended b w seat) same attended) all.1,
    )

-- the seat at this index is attended
pub attended-at : (a : Core) (first i : ℕ) (seats : List Seat) (seat : Seat) → AreAttended a first seats → i < length seats → seat ≡ get_or seats i seat → IsAttended a (first + i) seat
attended-at a first i seats seat all inside here = subst (IsAttended a (first + i)) (sym here) (at first i seats seat all inside) where
  at : (first i : ℕ) (seats : List Seat) (d : Seat) → AreAttended a first seats → i < length seats → IsAttended a (first + i) (get_or seats i d)
  at first i [] d all inside = absurd (omega (arith, inside))
  at first zero (seat ∷ seats) d all inside = subst (λ w. IsAttended a w seat) (omega arith) all.0
  at first (suc i) (seat ∷ seats) d all inside = subst (λ w. IsAttended a w (get_or seats i d)) (omega arith) (at (first + 1) i seats d all.1 (omega (arith, inside)))

-- nobody has a context
pub none-attended : (a : Core) (first n : ℕ) → AreAttended a first (replicate n Direct)
none-attended a first zero = tt
none-attended a first (suc n) = (tt, none-attended a (first + 1) n)
