-- The waiter that is found first is the one that is admitted.
use Rattle.std.proofs.Common.{◌≡◌, ℕ, ◌≤◌, Bool, true, false, cond, List, [], ◌∷◌, ◌++◌, Some, None, refl, sym, ◌∙◌, ap, arith, append_assoc, append-nil, zero, suc}
use Rattle.std.specs.List.{find, count_by}
use Rattle.std.proofs.lemmas.List.Sums.{sum_by-cons}
use Rattle.std.proofs.lemmas.Bool.{false_from_ne_true}
use Rattle.std.proofs.lemmas.Bool.Decides.{nat_tests}
use Rattle.mdl_book.specs.declared.ticket.Ticket.{Ticket}
use Rattle.mdl_book.specs.Tickets.{is_ticket, ticket_of}
use Rattle.mdl_book.specs.declared.book_view.BookView.{BookView}
use Rattle.mdl_book.specs.Books.{lock_kind, admitting}
use Rattle.mdl_key.specs.declared.namespace.Kind.{Kind}
use Rattle.mdl_lock.specs.declared.answer.Answer.TheVariants.{Granted}
use Rattle.mdl_lock.specs.Answering.{answer_text, text_of}
use Rattle.mdl_lock.specs.Answers.{Lock, silent, after_answers, next_waiter, admitted, grants_at_most}
use Rattle.mdl_lock.specs.Locks.{IsScriptTicket, IsOrderly, lock_of}
use Rattle.mdl_lock.proofs.FindLemmas.{All-find, count-first}

-- where a ticket is found, there is one of its session and number
one_counted : (p : Ticket → Bool) (waiting : List Ticket) (ticket : Ticket) → find p waiting ≡ Some ticket
    → 1 ≤ count_by (is_ticket ticket.session ticket.number) waiting
one_counted p [] ticket found = cc
one_counted p (x ∷ xs) ticket found =
    let test = is_ticket ticket.session ticket.number in
    let counted = sum_by-cons (λ t. cond (test t) 1 0) x xs in
    elim (p x) as (λ b. cond b (Some x) (find p xs) ≡ Some ticket → 1 ≤ count_by test (x ∷ xs)) [
      | true ↦ λ e. let same : x ≡ ticket = cc in
          let itself : test x ≡ true = grind (arith, nat_tests) in omega (arith, count-first test x xs itself)
      | false ↦ λ e. let later = one_counted p xs ticket e in omega arith
    ] found

-- where a ticket is found, it is the one of its session and number if there is one only
pub ticket_of-found : (p : Ticket → Bool) (waiting : List Ticket) (ticket : Ticket) → count_by (is_ticket ticket.session ticket.number) waiting ≤ 1
    → find p waiting ≡ Some ticket → ticket_of ticket.session ticket.number waiting ≡ Some ticket
ticket_of-found p [] ticket one found = found
ticket_of-found p (x ∷ xs) ticket one found =
    let test = is_ticket ticket.session ticket.number in
    let counted = sum_by-cons (λ t. cond (test t) 1 0) x xs in
    elim (p x) as (λ b. cond b (Some x) (find p xs) ≡ Some ticket → ticket_of ticket.session ticket.number (x ∷ xs) ≡ Some ticket) [
      | true ↦ λ e. let same : x ≡ ticket = cc in grind (arith, nat_tests)
      | false ↦ λ e.
          let later = one_counted p xs ticket e in
          let other : test x ≡ false = false_from_ne_true _ (λ passes. omega (arith, count-first test x xs passes)) in
          rw other (ticket_of-found p xs ticket (omega arith) e)
    ] found

-- nothing more is granted where none can be
pub grants_end : (kind : Kind) (n : ℕ) (lock : Lock) → next_waiter kind lock ≡ None → grants_at_most kind n lock ≡ silent lock
grants_end kind zero lock none = refl
grants_end kind (suc n) lock none = rw none

-- one more is granted where one can be
pub grants_more : (kind : Kind) (n m : ℕ) (lock : Lock) (ticket : Ticket) → n ≡ suc m → next_waiter kind lock ≡ Some ticket
    → grants_at_most kind n lock ≡ after_answers (Granted ticket.session ticket.mode ∷ []) (grants_at_most kind m (admitted ticket lock))
grants_more kind n m lock ticket same some = rw (same, some)

-- the waiter that is granted is found by its session and number
pub record IsNamed (lists : BookView) (ticket : Ticket) : Type 0 where
  pub there : ticket_of ticket.session ticket.number lists.waiting ≡ Some ticket
  pub admits : lock_of (admitting ticket.session ticket.number lists) ≡ admitted ticket (lock_of lists)

pub named-next : (lists : BookView) (ticket : Ticket) → next_waiter (lock_kind lists) (lock_of lists) ≡ Some ticket → IsOrderly (lock_of lists) → IsNamed lists ticket
named-next lists ticket next orderly =
    let of_script = All-find IsScriptTicket _ lists.waiting ticket orderly.waiters next in
    let one : count_by (is_ticket ticket.session ticket.number) lists.waiting ≤ 1 = rw of_script.1 (omega (arith, orderly.one_each ticket.session)) in
    let there = ticket_of-found _ lists.waiting ticket one next in
    record { there = there; admits = rw there refl }

-- what was told where nothing is left to tell
pub told_end : (kind : Kind) (n : ℕ) (lock : Lock) (out whole : List ℕ) → next_waiter kind lock ≡ None
    → out ++ text_of (grants_at_most kind n lock).answers ≡ whole → out ≡ whole
told_end kind n lock out whole none told = let e = rw (grants_end kind n lock none) at told in sym (append-nil out) ∙ e

pub left_end : (kind : Kind) (n : ℕ) (lock whole : Lock) → next_waiter kind lock ≡ None → (grants_at_most kind n lock).lock ≡ whole → lock ≡ whole
left_end kind n lock whole none left = rw (grants_end kind n lock none) at left

-- one more line is told, and one turn less is left
pub told_more : (kind : Kind) (n m : ℕ) (lock : Lock) (ticket : Ticket) (out told whole : List ℕ) → n ≡ suc m → next_waiter kind lock ≡ Some ticket
    → told ≡ out ++ (answer_text (Granted ticket.session ticket.mode) ++ 10 ∷ []) → out ++ text_of (grants_at_most kind n lock).answers ≡ whole
    → told ++ text_of (grants_at_most kind m (admitted ticket lock)).answers ≡ whole
told_more kind n m lock ticket out told whole same some line all =
    let line_of : List ℕ = answer_text (Granted ticket.session ticket.mode) ++ 10 ∷ [] in
    let later : List ℕ = text_of (grants_at_most kind m (admitted ticket lock)).answers in
    let e : out ++ (line_of ++ later) ≡ whole = rw (grants_more kind n m lock ticket same some) at all in
    ap (λ x. x ++ later) line ∙ append_assoc out line_of later ∙ e

pub left_more : (kind : Kind) (n m : ℕ) (lock whole : Lock) (ticket : Ticket) → n ≡ suc m → next_waiter kind lock ≡ Some ticket
    → (grants_at_most kind n lock).lock ≡ whole → (grants_at_most kind m (admitted ticket lock)).lock ≡ whole
left_more kind n m lock whole ticket same some left = rw (grants_more kind n m lock ticket same some) at left
