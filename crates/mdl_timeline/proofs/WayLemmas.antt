-- Who is in the way of a session, ticket by ticket.
use Rattle.std.proofs.Common.{◌≡◌, ◌≢◌, ◌∙◌, ℕ, zero, suc, ◌+◌, ◌<◌, ◌≤◌, Bool, true, false, not, ◌&&◌, ◌||◌, nat_eq, ◌∷◌, cond, filter, refl, ap, arith, inl, inr}
use Rattle.std.specs.List.{list_any, range_with_len}
use Rattle.std.specs.FinSet as set
use Rattle.std.specs.Ordering.{nat_cmp}
use Rattle.std.specs.Cmp.{nat_cmp_total, unsigned_tied}
use Rattle.std.proofs.lemmas.Bool.Decides.{eqb_tells, nat_tests}
use Rattle.mdl_key.specs.Words.{clashes, most_sessions, waits_behind}
use Rattle.mdl_book.specs.Books.{lock_kind}
use Rattle.mdl_book.specs.declared.book_view.BookView.{BookView}
use Rattle.mdl_book.specs.declared.ticket.Ticket.{Ticket}
use Rattle.mdl_graph.specs.WaitsFor.{holds_against, waits_ahead}
use Rattle.mdl_view.specs.ViewLaws.{nobody}
use Rattle.mdl_view.proofs.AnyLemmas.{any_and}
use Rattle.mdl_script.specs.Worlds.{sessions}
use Rattle.mdl_timeline.specs.Gains.{Gains}

-- ---- one session

noted : (who session other : ℕ) (before : Bool) → nat_eq session who ≡ false → (nat_eq other session || before) ≡ (before || (not (nat_eq who other) && nat_eq session other))
noted who session other true = grind (arith, nat_tests)
noted who session other false = grind (arith, nat_tests)

other-number : (a b : ℕ) → a ≢ b → nat_eq a b ≡ false
other-number a b isn't = elim (eqb_tells a b) [
  | inl same ↦ absurd (isn't same.1)
  | inr other ↦ other.0
]

-- another session is put into the set
pub gains-other : (who session : ℕ) (before : set.FinSet nat_cmp) → session ≢ who
    → Gains (λ other. not (nat_eq who other) && nat_eq session other) before (set.insert before session)
gains-other who session before differs other least most =
    set.contains-insert nat_cmp_total before session other
    ∙ rw (unsigned_tied other session) (noted who session other (set.contains before other) (other-number session who differs))

-- ---- one request

-- the same is gained by a test that agrees
gains-same : (one other : ℕ → Bool) (before after : set.FinSet nat_cmp) → ((session : ℕ) → one session ≡ other session) → Gains one before after → Gains other before after
gains-same one other before after same so session least most = so session least most ∙ ap (λ b. set.contains before session || b) (same session)

-- a granted ticket of a session is in the way of a request of another one
abbrev pub holder : BookView → Ticket → ℕ → Ticket → Bool
holder book wish session held = not (nat_eq wish.session session) && (nat_eq held.session session && clashes (lock_kind book) wish.mode held.mode)

-- a waiting one
abbrev pub waiter : BookView → Ticket → ℕ → Ticket → Bool
waiter book wish session pending = not (nat_eq wish.session session) && (nat_eq pending.session session && waits_behind (lock_kind book) wish.mode pending.mode)

pub gains-holders : (book : BookView) (wish : Ticket) (before after : set.FinSet nat_cmp) → Gains (λ session. list_any (holder book wish session) book.granted) before after
    → Gains (λ session. not (nat_eq wish.session session) && holds_against book wish.mode session) before after
gains-holders book wish before after =
    gains-same (λ session. list_any (holder book wish session) book.granted) (λ session. not (nat_eq wish.session session) && holds_against book wish.mode session) before after
    (λ session. any_and (not (nat_eq wish.session session)) (λ held. nat_eq held.session session && clashes (lock_kind book) wish.mode held.mode) book.granted)

pub gains-waiters : (book : BookView) (wish : Ticket) (before after : set.FinSet nat_cmp) → Gains (λ session. list_any (waiter book wish session) book.waiting) before after
    → Gains (λ session. not (nat_eq wish.session session) && waits_ahead nobody book wish.mode session) before after
gains-waiters book wish before after =
    gains-same (λ session. list_any (waiter book wish session) book.waiting) (λ session. not (nat_eq wish.session session) && waits_ahead nobody book wish.mode session)
    before after
    (λ session. any_and (not (nat_eq wish.session session)) (λ pending. nat_eq pending.session session && waits_behind (lock_kind book) wish.mode pending.mode) book.waiting)

-- ---- the sessions of a set in order

kept-alike : (p q : ℕ → Bool) (a n : ℕ) → ((k : ℕ) → a ≤ k → k < a + n → p k ≡ q k) → filter p (range_with_len a n) ≡ filter q (range_with_len a n)
kept-alike p q a zero same = refl
kept-alike p q a (suc n) same =
    ap (λ b. cond b (a ∷ filter p (range_with_len (a + 1) n)) (filter p (range_with_len (a + 1) n))) (same a (omega arith) (omega arith))
    ∙ ap (λ xs. cond (q a) (a ∷ xs) xs) (kept-alike p q (a + 1) n (λ k least most. same k (omega (arith, least)) (omega (arith, most))))

pub in-order : (test : ℕ → Bool) (those : set.FinSet nat_cmp) → Gains test set.empty those → filter (set.contains those) sessions ≡ filter test sessions
unfolding sessions
in-order test those so =
    kept-alike (set.contains those) test 1 most_sessions
    (λ k least most. so k least (omega (arith, most)) ∙ ap (λ b. b || test k) (set.contains-empty nat_cmp k))
