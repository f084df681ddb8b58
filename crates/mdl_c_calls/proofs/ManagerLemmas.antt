-- A manager goes on to serve its sessions and their contexts, whatever they ask for.
use Rattle.std.proofs.Common.{◌≡◌, ℕ, ◌<◌, ◌≤◌, ◌+◌, ◌-◌, ◌==◌, Bool, true, false, not, ◌&&◌, if◌then◌else◌, List, [], ◌∷◌, length, get_or, set, Option, Some, None, is_some, option_map, refl, sym, ap, ◌∙◌, subst, arith}
use Rattle.std.specs.Option.{option_or}
use Rattle.std.specs.Prelude.{replicate, slice_get}
use Rattle.std.proofs.lemmas.Bool.{false≢true}
use Rattle.std.proofs.lemmas.List.{length-replicate, length-set}
use Rattle.std.proofs.lemmas.List.Elements.{All-nil}
use Rattle.std.proofs.lemmas.Bool.Decides.{nat_tests}
use Rattle.std.proofs.lemmas.Option.{get_or_from_slice_get, slice_get_read, slice_get_within}
use Rattle.mdl_calls.specs.declared.answers.Held.{Held}
use Rattle.mdl_calls.specs.Words.{Answer, Call, caller, SessionLocks, Wait, own_after}
use Rattle.mdl_core.specs.Words.{Core, SpeaksFor, locks_at}
use Rattle.mdl_core.proofs.CallLaws.{core-keeps}
use Rattle.mdl_core.proofs.CoreSound.{calls_keep-sound}
use Rattle.mdl_core.proofs.SpaceLaws.{core-laws}
use Rattle.mdl_space.specs.CoreMembers.{core_space}
use Rattle.mdl_context.specs.Contexts.{Attends, ContextView, LeavesOthers, wish_there}
use Rattle.mdl_context.proofs.BeyondLemmas.{rising-kept}
use Rattle.mdl_context.proofs.OthersLemmas.{left-alone}
use Rattle.mdl_context.proofs.PinLemmas.{unpins}
use Rattle.mdl_c_calls.specs.Managers.{AreRisingAt, IsAttended, Managed, ServesAll, direct_fault, seat_of}
use Rattle.mdl_c_calls.specs.Transactions.{begin_fault, has_nothing, new_context}
use Rattle.mdl_c_calls.specs.declared.seat.Seat.{Seat}
use Rattle.mdl_c_calls.specs.declared.seat.Seat.TheVariants.{Direct, Kept}
use Rattle.mdl_c_calls.specs.declared.unserved.Unserved.{Unserved}
use Rattle.mdl_c_calls.specs.declared.unserved.Unserved.TheVariants.{InUse}
use Rattle.mdl_c_calls.proofs.ContextLemmas.{HasStill, all-attended, attended-at, direct-attended, none-attended, same-still, set-attended, spared-other, spared-still}

-- ---- seats

-- the seat at the index of a session
pub seat-at : (who i : ℕ) (manager : Managed) (seat : Seat) → who ≡ 1 + i → i < length manager.seats → seat ≡ get_or manager.seats i seat → seat_of who manager ≡ Some seat
seat-at who i manager seat is inside here =
    let some : (who == 0) ≡ false = grind (arith, nat_tests, is) in
    let index : who - 1 ≡ i = omega (arith, is) in
    ap (λ none. if none then None else slice_get manager.seats (who - 1)) some ∙ ap (slice_get manager.seats) index
    ∙ slice_get_read manager.seats (length manager.seats) i seat refl inside here

-- a session that makes calls by itself has a seat, which says so
pub direct-seat : (who : ℕ) (manager : Managed) → direct_fault (seat_of who manager) ≡ None
    → (1 ≤ who) × (who - 1 < length manager.seats) × (get_or manager.seats (who - 1) Direct ≡ Direct)
direct-seat who manager direct = by (who == 0) refl where
  there : (o : Option Seat) → slice_get manager.seats (who - 1) ≡ o → direct_fault o ≡ None → (who - 1 < length manager.seats) × (get_or manager.seats (who - 1) Direct ≡ Direct)
  there None found free = cc
  there (Some Direct) found free = (slice_get_within manager.seats (who - 1) Direct found, get_or_from_slice_get manager.seats (who - 1) Direct Direct found)
  there (Some (Kept context)) found free = cc

  by : (none : Bool) → (who == 0) ≡ none → (1 ≤ who) × (who - 1 < length manager.seats) × (get_or manager.seats (who - 1) Direct ≡ Direct)
  by true is = let fault = ap (λ none. direct_fault (if none then None else slice_get manager.seats (who - 1))) (sym is) ∙ direct in cc
  by false is =
      let fault = ap (λ none. direct_fault (if none then None else slice_get manager.seats (who - 1))) (sym is) ∙ direct in
      let seat = there (slice_get manager.seats (who - 1)) refl fault in (grind (arith, nat_tests, is), seat.0, seat.1)

-- ---- serving

-- a call that leaves its caller's tickets, wait and pins
pub serves-still : (a b : Core) (call : Call) (answer : Answer) (sessions : ℕ) (seats : List Seat) → unpins call ≡ false
    → ((own : SessionLocks) → HasStill own (own_after call answer own)) → ServesAll a sessions seats → core_space.joins a call answer b → ServesAll b sessions seats
serves-still a b call answer sessions seats stays still serves joined = record {
  seated = serves.seated;
  speaks = λ who least most. core-keeps calls_keep-sound a b call answer who (serves.speaks who least most) joined;
  attended = all-attended a b 1 seats (λ w later. spared-still a b call answer w stays still joined) serves.attended;
}

-- the space speaks for a session that makes calls by itself
pub direct-speaks : (space : Core) (who sessions : ℕ) (seats : List Seat) → direct_fault (seat_of who (record { space = space; seats = seats })) ≡ None
    → ServesAll space sessions seats → SpeaksFor space who
direct-speaks space who sessions seats direct serves =
    let seat = direct-seat who (record { space = space; seats = seats }) direct in serves.speaks who seat.0 (omega (arith, seat.0, seat.1, serves.seated))

-- and goes on to serve all after its call
pub serves-direct : (a b : Core) (call : Call) (answer : Answer) (who sessions : ℕ) (seats : List Seat) → caller call ≡ Some who
    → direct_fault (seat_of who (record { space = a; seats = seats })) ≡ None → ServesAll a sessions seats → core_space.joins a call answer b → ServesAll b sessions seats
serves-direct a b call answer who sessions seats mine direct serves joined =
    let seat = direct-seat who (record { space = a; seats = seats }) direct in
    let index : 1 + (who - 1) ≡ who = omega (arith, seat.0) in
    record {
      seated = serves.seated;
      speaks = λ w least most. core-keeps calls_keep-sound a b call answer w (serves.speaks w least most) joined;
      attended = direct-attended a b 1 (who - 1) seats
          (λ w other. spared-other a b call answer w (λ theirs. let e = sym mine ∙ theirs in other (same w who e ∙ sym index)) joined) seat.2 serves.attended;
    }
  where
    same : (w v : ℕ) → Some v ≡ Some w → w ≡ v
    same w v e = cc

-- the context of a session is attended
pub context-served : (a : Core) (i sessions : ℕ) (seats : List Seat) (seat : Seat) (context : ContextView) → ServesAll a sessions seats → i < length seats → seat ≡ get_or seats i seat
    → seat ≡ Kept context → (context.who ≡ 1 + i) × Attends core_space a context
context-served a i sessions seats seat context serves inside here is = subst (IsAttended a (1 + i)) is (attended-at a 1 i seats seat serves.attended inside here)

-- the numbers of the tickets at a seat rise
pub rising-seat : (a : Core) (i sessions : ℕ) (seats : List Seat) (seat : Seat) → ServesAll a sessions seats → i < length seats → seat ≡ get_or seats i seat → AreRisingAt seat
rising-seat a i sessions seats seat serves inside here = by seat (attended-at a 1 i seats seat serves.attended inside here) where
  by : (seat : Seat) → IsAttended a (1 + i) seat → AreRisingAt seat
  by Direct attended = tt
  by (Kept context) attended = rising-kept (locks_at a context.who) context (core-laws.rising a context.who attended.1.speaks) attended.1.serves

-- it has made calls, and its session has this seat then
pub serves-seated : (a b : Core) (i sessions : ℕ) (seats : List Seat) (seat : Seat) → ServesAll a sessions seats → i < length seats → IsAttended b (1 + i) seat
    → LeavesOthers core_space (1 + i) a b → ServesAll b sessions (set seats i seat)
serves-seated a b i sessions seats seat serves inside attended leaves = record {
  seated = length-set seats i seat ∙ serves.seated;
  speaks = λ w least most. (leaves.1 w (serves.speaks w least most)).0;
  attended = set-attended a b 1 i seats seat (λ w other speaks. let left = leaves.0 w other speaks in (left.0, same-still _ _ left.1, left.2)) attended serves.attended;
}

-- ---- contexts that begin

-- a session that has nothing
nothing : (held : List Held) (wait : Option Wait) (rest : Bool) → (length held == 0 && not (is_some wait) && rest) ≡ true → (held ≡ []) × (wait ≡ None)
nothing [] None rest is = (refl, refl)
nothing [] (Some some) rest is = absurd (false≢true is)
nothing (ticket ∷ tickets) wait rest is =
    let some : (length (ticket ∷ tickets) == 0) ≡ false = grind (arith, nat_tests) in
    absurd (false≢true (ap (λ b. b && not (is_some wait) && rest) (sym some) ∙ is))

-- one that can have a context makes calls by itself, and has nothing
begun : (who : ℕ) (manager : Managed) → begin_fault who manager ≡ None → (direct_fault (seat_of who manager) ≡ None) × (has_nothing (locks_at manager.space who) ≡ true)
begun who manager none = by (direct_fault (seat_of who manager)) (has_nothing (locks_at manager.space who)) none where
  by : (fault : Option Unserved) (free : Bool) → option_or fault (if free then None else Some InUse) ≡ None → (fault ≡ None) × (free ≡ true)
  by None true e = (refl, refl)
  by None false e = cc
  by (Some fault) free e = cc

-- a context that keeps nothing attends to it
pub serves-begun : (space : Core) (who sessions : ℕ) (seats : List Seat) (context : ContextView) → begin_fault who (record { space = space; seats = seats }) ≡ None
    → context ≡ new_context who → ServesAll space sessions seats → ServesAll space sessions (set seats (who - 1) (Kept context))
serves-begun space who sessions seats context none new serves =
    let can = begun who (record { space = space; seats = seats }) none in
    let seat = direct-seat who (record { space = space; seats = seats }) can.0 in
    let has = nothing (locks_at space who).held (locks_at space who).wait (length (locks_at space who).pins == 0) can.1 in
    let attends : Attends core_space space (new_context who) =
    record {
      speaks = direct-speaks space who sessions seats can.0 serves;
      serves = record { held = has.0; wait = ap (option_map wish_there) has.1 };
      known = All-nil _;
      pinned = All-nil _;
      places = All-nil _;
      wish = tt;
    } in
    serves-seated space space (who - 1) sessions seats (Kept context) serves seat.1
    (ap (λ (c : ContextView). c.who) new ∙ omega (arith, seat.0), subst (Attends core_space space) (sym new) attends) (left-alone core_space (1 + (who - 1)) space)

-- nobody has asked for anything
pub serves-new : (space : Core) (sessions : ℕ) (seats : List Seat) → ((who : ℕ) → 1 ≤ who → who ≤ sessions → SpeaksFor space who) → seats ≡ replicate sessions Direct
    → ServesAll space sessions seats
serves-new space sessions seats speaks new = subst (ServesAll space sessions) (sym new) (record {
  seated = length-replicate sessions Direct;
  speaks = speaks;
  attended = none-attended space 1 sessions;
})
