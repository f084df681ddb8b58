-- What the call of a session's context does to a manager, from what it does to the context and the space.
use Rattle.std.proofs.Common.{◌≡◌, ℕ, ◌<◌, ◌+◌, ◌-◌, List, [], length, get_or, set, Option, Some, None, option_map, Result, Ok, Err, OnOk, OnErr, refl, sym, ap, ap₂, ◌∙◌, subst, arith}
use Rattle.std.specs.Prelude.{map}
use Rattle.std.proofs.lemmas.Bool.{false≢true}
use Rattle.std.proofs.lemmas.List.{set-get_or}
use Rattle.mdl_key.specs.Refusals.{RefusesJust}
use Rattle.mdl_calls.specs.Words.{Give, HasNothing, Program, Runs, Wait}
use Rattle.mdl_core.specs.Words.{Core, locks_at}
use Rattle.mdl_space.specs.CoreMembers.{core_space}
use Rattle.mdl_context.specs.declared.context_error.ContextError.{ContextError}
use Rattle.mdl_context.specs.Contexts.{Attends, ContextView, LeavesOthers, held_of, wish_here, wish_there}
use Rattle.mdl_context.specs.Releases.{unless}
use Rattle.mdl_context.specs.Requests.{Outcome}
use Rattle.mdl_c_calls.specs.Managers.{Asks, IsAttended, Managed, ServesAll, context_fault, seat_of}
use Rattle.mdl_c_calls.specs.Transactions.{EndsContext, RunsFor, UnpinsAll, ending_from, with_seat}
use Rattle.mdl_c_calls.specs.declared.seat.Seat.{Seat}
use Rattle.mdl_c_calls.specs.declared.seat.Seat.TheVariants.{Direct, Kept}
use Rattle.mdl_c_calls.specs.declared.unserved.Unserved.TheVariants.{NoContext}
use Rattle.mdl_c_calls.proofs.ManagerLemmas.{context-served, seat-at, serves-seated}

-- a context is refused by this fault, or changes, and asks the space for nothing
pub run-unless : (fault : Option ContextError) (context changed next : ContextView) (result : Result (Unit {0}) ContextError) (space : Core) → RefusesJust fault result
    → OnOk result (next ≡ changed) → OnErr result (next ≡ context) → Runs core_space.joins space (unless fault context (Give (Ok tt, changed))) (result, next) space
run-unless None context changed next (Ok x) space refused done unchanged = (ap (λ after. (Ok tt, after)) (sym done), refl)
run-unless None context changed next (Err why) space refused done unchanged = absurd (false≢true refused)
run-unless (Some fault) context changed next (Ok x) space refused done unchanged = cc
run-unless (Some fault) context changed next (Err why) space refused done unchanged = (ap₂ (λ end after. (end, after)) (sym refused) (sym unchanged), refl)

-- this is the seat of a session, which is at this index
abbrev pub IsSeat : ℕ → ℕ → List Seat → Seat → Type 0
IsSeat who i seats seat = (who ≡ 1 + i) × (i < length seats) × (seat ≡ get_or seats i seat)

pub is-seat : (manager now : Managed) (who i : ℕ) (seat : Seat) → manager ≡ now → (who ≡ 1 + i) × (i < length now.seats) → seat ≡ get_or manager.seats i seat
    → IsSeat who i manager.seats seat
is-seat manager now who i seat same (is, inside) here = (is, subst (λ (m : Managed). i < length m.seats) (sym same) inside, here)

module _ (manager : Managed) (who i : ℕ) (seat : Seat) (is : IsSeat who i manager.seats seat) where
  there : seat_of who manager ≡ Some seat
  there = seat-at who i manager seat is.0 is.1 is.2

  has : (context : ContextView) → seat ≡ Kept context → seat_of who manager ≡ Some (Kept context)
  has context kept = there ∙ ap Some kept

  -- with another seat for it
  seated : (space : Core) (other : Seat) → record { space = space; seats = set manager.seats i other } ≡ with_seat who other (record manager { space = space })
  seated space other = let index : i ≡ who - 1 = omega (arith, is.0) in ap (λ n. record { space = space; seats = set manager.seats n other }) index

  -- no context keeps its tickets
  pub not-kept : seat ≡ Direct → (context_fault (seat_of who manager) ≡ Some NoContext) × (record { space = manager.space; seats = set manager.seats i seat } ≡ manager)
  not-kept direct = (
    ap context_fault (there ∙ ap Some direct),
    ap (λ seats. record { space = manager.space; seats = seats }) (ap (set manager.seats i) is.2 ∙ set-get_or manager.seats i seat),
  )

  -- the space serves its context
  pub context-attended : (sessions : ℕ) (context : ContextView) → ServesAll manager.space sessions manager.seats → seat ≡ Kept context → Attends core_space manager.space context
  context-attended sessions context serves kept = (context-served manager.space i sessions manager.seats seat context serves is.1 is.2 kept).1

  -- this has made calls, and then the session has this seat
  seated-then : (sessions : ℕ) (context : ContextView) (space : Core) (next : Seat) → ServesAll manager.space sessions manager.seats → seat ≡ Kept context
      → (context.who ≡ 1 + i → IsAttended space (1 + i) next) → LeavesOthers core_space context.who manager.space space → ServesAll space sessions (set manager.seats i next)
  seated-then sessions context space next serves kept attended leaves =
      let whose = (context-served manager.space i sessions manager.seats seat context serves is.1 is.2 kept).0 in
      serves-seated manager.space space i sessions manager.seats next serves is.1 (attended whose) (subst (λ w. LeavesOthers core_space w manager.space space) whose leaves)

  -- it keeps the session's tickets on
  pub serves-kept : (sessions : ℕ) (context next : ContextView) (space : Core) → ServesAll manager.space sessions manager.seats → seat ≡ Kept context → next.who ≡ context.who
      → Attends core_space space next → LeavesOthers core_space context.who manager.space space → ServesAll space sessions (set manager.seats i (Kept next))
  serves-kept sessions context next space serves kept who attends leaves =
      seated-then sessions context space (Kept next) serves kept (λ whose. (who ∙ whose, attends)) leaves

  -- it has ended
  pub serves-ended : (sessions : ℕ) (context : ContextView) (space : Core) (seats : List Seat) → seats ≡ set manager.seats i Direct → ServesAll manager.space sessions manager.seats
      → seat ≡ Kept context → LeavesOthers core_space context.who manager.space space → ServesAll space sessions seats
  serves-ended sessions context space seats ended serves kept leaves =
      subst (ServesAll space sessions) (sym ended) (seated-then sessions context space Direct serves kept (λ whose. tt) leaves)

  -- it makes a call
  pub runs-for : {A : Type 0} (program : ContextView → Program (Outcome A)) (context next : ContextView) (space : Core) (result : Result A ContextError) → seat ≡ Kept context
      → Runs core_space.joins manager.space (program context) (result, next) space
      → Asks (context_fault (seat_of who manager)) (λ r. RunsFor who program r manager (record { space = space; seats = set manager.seats i (Kept next) })) (Ok result)
      manager (record { space = space; seats = set manager.seats i (Kept next) })
  runs-for program context next space result kept run =
      (ap context_fault (has context kept), (context, next, space, has context kept, run, seated space (Kept next)))

  -- it ends
  pub leaves-seat : (context next : ContextView) (space rest : Core) (seats : List Seat) → seats ≡ set manager.seats i Direct → seat ≡ Kept context
      → Runs core_space.joins manager.space (ending_from context.wait context) (Ok tt, next) space → next.kept ≡ [] → next.wait ≡ None → UnpinsAll who space rest
      → Asks (context_fault (seat_of who manager)) (λ r. EndsContext who r manager (record { space = rest; seats = seats })) (Ok tt) manager (record { space = rest; seats = seats })
  leaves-seat context next space rest seats ended kept run gone idle unpinned = (
    ap context_fault (has context kept),
    (context, next, space, has context kept, run, gone, idle, (rest, unpinned, ap (λ seats. record { space = rest; seats = seats }) ended ∙ seated rest Direct)),
  )

  -- its session is the one that the call names
  pub same-session : (sessions : ℕ) (context next : ContextView) → ServesAll manager.space sessions manager.seats → seat ≡ Kept context → next.who ≡ context.who → next.who ≡ who
  same-session sessions context next serves kept same =
      same ∙ (context-served manager.space i sessions manager.seats seat context serves is.1 is.2 kept).0 ∙ sym is.0

  -- a context that keeps nothing and doesn't wait serves a session that has nothing
  pub nothing-left : (sessions : ℕ) (context next : ContextView) (space : Core) → ServesAll manager.space sessions manager.seats → seat ≡ Kept context → next.who ≡ context.who
      → Attends core_space space next → next.kept ≡ [] → next.wait ≡ None → HasNothing (locks_at space who)
  nothing-left sessions context next space serves kept same attends gone idle =
      subst (λ w. HasNothing (locks_at space w)) (same-session sessions context next serves kept same) (
        attends.serves.held ∙ ap (map held_of) gone,
        no-wait (locks_at space next.who).wait (attends.serves.wait ∙ ap (option_map wish_here) idle),
      )
    where
      no-wait : (wait : Option Wait) → option_map wish_there wait ≡ None → wait ≡ None
      no-wait None none = refl
      no-wait (Some w) none = cc
