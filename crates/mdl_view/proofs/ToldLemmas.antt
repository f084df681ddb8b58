-- What is told of two sessions, ticket by ticket and lock by lock.
use Rattle.std.proofs.Common.{◌≡◌, ◌∙◌, ℕ, suc, Bool, true, false, not, ◌&&◌, ◌||◌, List, [], ◌∷◌, map, filter, refl, ap, arith}
use Rattle.std.specs.Prelude.{◌==◌}
use Rattle.std.specs.List.{list_any}
use Rattle.std.proofs.lemmas.Bool.Decides.{nat_tests}
use Rattle.std.proofs.lemmas.List.Folds.{list_any-append}
use Rattle.mdl_key.specs.declared.mode.Mode.{Mode}
use Rattle.mdl_key.specs.declared.namespace.Kind.{Kind}
use Rattle.mdl_key.specs.declared.namespace.Kind.TheVariants.{Scoped, Object}
use Rattle.mdl_key.specs.Matrices.{clashes, waits_behind}
use Rattle.mdl_book.specs.declared.book_view.BookView.{BookView}
use Rattle.mdl_book.specs.declared.ticket.Ticket as booked
use Rattle.mdl_book.specs.Books.{lock_kind}
use Rattle.mdl_graph.specs.WaitsFor as graph
use Rattle.mdl_graph.specs.WaitsFor.{waits_ahead, is_tied, waits_at, waits_for}
use Rattle.mdl_view.specs.declared.blocking.Blocking.{Blocking}
use Rattle.mdl_view.specs.declared.blocking.Reason.TheVariants.{Holds, WaitsBefore}
use Rattle.mdl_view.specs.declared.lock_mode.LockMode.TheVariants.{Mdl}
use Rattle.mdl_view.specs.Blockings.{blocking, blockings_at, blockings_in, blockings_of, holds_against, waits_before}
use Rattle.mdl_view.specs.Locks.{granted_ticket, lock_of_book, waiting_ticket}
use Rattle.mdl_view.specs.Modes.{lock_clashes, lock_kind_of, lock_waits_behind}
use Rattle.mdl_view.specs.ViewLaws.{is_told, nobody}
use Rattle.mdl_view.proofs.AnyLemmas.{any_same, any_mapped, any_filtered, any_joined, any_and, and_or}

-- a pair of sessions, as a test of what is told
abbrev tells : ℕ → ℕ → Blocking → Bool
tells waiter other told = told.waiter.session == waiter && told.other.session == other

-- the request is of the one session, and not of the other
abbrev asks : ℕ → ℕ → ℕ → Bool
asks waiter other ask = ask == waiter && not (ask == other)

held_by : (held ask waiter other : ℕ) (clash : Bool)
    → ((not (held == ask) && clash) && (ask == waiter && held == other)) ≡ (asks waiter other ask && (held == other && clash))
held_by held ask waiter other true = grind (arith, nat_tests)
held_by held ask waiter other false = grind (arith, nat_tests)

same_clash : (kind : Kind) (ask held : Mode) → lock_clashes (lock_kind_of kind) (Mdl ask) (Mdl held) ≡ clashes kind ask held
same_clash Scoped ask held = refl
same_clash Object ask held = refl

same_behind : (kind : Kind) (ask pending : Mode) → lock_waits_behind (lock_kind_of kind) (Mdl ask) (Mdl pending) ≡ waits_behind kind ask pending
same_behind Scoped ask pending = refl
same_behind Object ask pending = refl

-- the granted tickets against a request
holders : (place : ℕ) (book : BookView) (ask : booked.Ticket) (waiter other : ℕ)
    → list_any (tells waiter other)
    (map (blocking place (waiting_ticket ask) Holds) (filter (holds_against (lock_of_book book) (waiting_ticket ask)) (map granted_ticket book.granted)))
    ≡ (asks waiter other ask.session && graph.holds_against book ask.mode other)
holders place book ask waiter other =
    let lock = lock_of_book book in
    let this = waiting_ticket ask in
    let point = λ (held : booked.Ticket).
    ap (λ clash. (not (held.session == ask.session) && clash) && (ask.session == waiter && held.session == other)) (same_clash (lock_kind book) ask.mode held.mode)
    ∙ held_by held.session ask.session waiter other (clashes (lock_kind book) ask.mode held.mode) in
    any_mapped (tells waiter other) (blocking place this Holds) (filter (holds_against lock this) (map granted_ticket book.granted))
    ∙ any_filtered (λ held. ask.session == waiter && held.session == other) (holds_against lock this) (map granted_ticket book.granted)
    ∙ any_mapped (λ held. holds_against lock this held && (ask.session == waiter && held.session == other)) granted_ticket book.granted
    ∙ any_same _ _ point book.granted
    ∙ any_and (asks waiter other ask.session) (λ held. held.session == other && clashes (lock_kind book) ask.mode held.mode) book.granted

-- the waiting tickets against it
waiters : (place : ℕ) (book : BookView) (ask : booked.Ticket) (waiter other : ℕ)
    → list_any (tells waiter other)
    (map (blocking place (waiting_ticket ask) WaitsBefore) (filter (waits_before (lock_of_book book) (waiting_ticket ask)) (map waiting_ticket book.waiting)))
    ≡ (asks waiter other ask.session && waits_ahead nobody book ask.mode other)
waiters place book ask waiter other =
    let lock = lock_of_book book in
    let this = waiting_ticket ask in
    let point = λ (pending : booked.Ticket).
    ap (λ behind. (not (pending.session == ask.session) && behind) && (ask.session == waiter && pending.session == other))
    (same_behind (lock_kind book) ask.mode pending.mode)
    ∙ held_by pending.session ask.session waiter other (waits_behind (lock_kind book) ask.mode pending.mode) in
    any_mapped (tells waiter other) (blocking place this WaitsBefore) (filter (waits_before lock this) (map waiting_ticket book.waiting))
    ∙ any_filtered (λ pending. ask.session == waiter && pending.session == other) (waits_before lock this) (map waiting_ticket book.waiting)
    ∙ any_mapped (λ pending. waits_before lock this pending && (ask.session == waiter && pending.session == other)) waiting_ticket book.waiting
    ∙ any_same _ _ point book.waiting
    ∙ any_and (asks waiter other ask.session) (λ pending. pending.session == other && waits_behind (lock_kind book) ask.mode pending.mode) book.waiting

apart : (a b c : Bool) → ((a && b) && c) ≡ (a && (b && c))
apart true b c = refl
apart false b c = refl

-- one waiting ticket
of_request : (place : ℕ) (book : BookView) (waiter other : ℕ) (ask : booked.Ticket)
    → list_any (tells waiter other) (blockings_of place (lock_of_book book) (waiting_ticket ask)) ≡ (ask.session == waiter && is_tied nobody book other ask)
of_request place book waiter other ask =
    let lock = lock_of_book book in
    let this = waiting_ticket ask in
    let holding = map (blocking place this Holds) (filter (holds_against lock this) lock.granted) in
    let pending = map (blocking place this WaitsBefore) (filter (waits_before lock this) lock.waiting) in
    let against = graph.holds_against book ask.mode other in
    let ahead = waits_ahead nobody book ask.mode other in
    let both = asks waiter other ask.session in
    list_any-append (tells waiter other) holding pending
    ∙ ap (λ b. b || list_any (tells waiter other) pending) (holders place book ask waiter other)
    ∙ ap (λ b. (both && against) || b) (waiters place book ask waiter other)
    ∙ and_or both against ahead ∙ apart (ask.session == waiter) (not (ask.session == other)) (against || ahead)

-- one lock
at_lock : (place : ℕ) (book : BookView) (waiter other : ℕ) → is_told (blockings_at place (lock_of_book book)) waiter other ≡ waits_at nobody book waiter other
at_lock place book waiter other =
    let lock = lock_of_book book in
    any_joined (tells waiter other) (blockings_of place lock) (map waiting_ticket book.waiting)
    ∙ any_mapped (λ ask. list_any (tells waiter other) (blockings_of place lock ask)) waiting_ticket book.waiting
    ∙ any_same _ _ (of_request place book waiter other) book.waiting

-- all locks
pub told : (place : ℕ) (books : List BookView) (waiter other : ℕ)
    → is_told (blockings_in place (map lock_of_book books)) waiter other ≡ waits_for nobody books waiter other
told place [] waiter other = refl
told place (book ∷ books) waiter other =
    list_any-append (tells waiter other) (blockings_at place (lock_of_book book)) (blockings_in (suc place) (map lock_of_book books))
    ∙ ap (λ b. b || is_told (blockings_in (suc place) (map lock_of_book books)) waiter other) (at_lock place book waiter other)
    ∙ ap (λ b. waits_at nobody book waiter other || b) (told (suc place) books waiter other)
