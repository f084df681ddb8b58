-- A waiting ticket is granted by its index as by its session and number.
use Rattle.std.proofs.Common.{◌≡◌, ℕ, suc, ◌+◌, ◌≤◌, List, [], ◌++◌, length, Option, sym, ◌∙◌, ap, subst, arith, take, drop}
use Rattle.std.specs.Prelude.{slice_get}
use Rattle.std.specs.List.{position_or_len, find, remove}
use Rattle.std.specs.Option.{option_to_list}
use Rattle.std.proofs.lemmas.List.{append-nil, take_all, drop_all}
use Rattle.std.proofs.lemmas.List.Folds.{find_at}
use Rattle.std.proofs.lemmas.Option.{slice_get_past}
use Rattle.mdl_book.specs.declared.book_view.BookView.{BookView}
use Rattle.mdl_book.specs.declared.ticket.Ticket.{Ticket}
use Rattle.mdl_book.specs.Books.{admitting, admitting_by_index}
use Rattle.mdl_book.specs.Tickets.{is_ticket}

-- behind the last ticket there is none to grant
pub by_index-past : (index : ℕ) (lists : BookView) → length lists.waiting ≤ index → lists ≡ admitting_by_index index lists
by_index-past index lists past =
    let waiting : List Ticket = lists.waiting in
    let none : option_to_list (slice_get waiting index) ≡ [] = ap option_to_list (slice_get_past waiting index past) in
    let granted : lists.granted ≡ lists.granted ++ option_to_list (slice_get waiting index) = sym (rw none (append-nil lists.granted)) in
    let waits : waiting ≡ remove waiting index = sym (rw (take_all index waiting past, drop_all (suc index) waiting (omega (arith, past))) (append-nil waiting)) in
    ap (λ (tickets : List Ticket). record lists { granted = tickets }) granted
    ∙ ap (λ (tickets : List Ticket). record lists { granted = lists.granted ++ option_to_list (slice_get waiting index); waiting = tickets }) waits

-- at the index of the first of its session and number
by_index-first : (session number : ℕ) (lists : BookView) → admitting_by_index (position_or_len (is_ticket session number) lists.waiting) lists ≡ admitting session number lists
by_index-first session number lists =
    let test = is_ticket session number in
    let waiting : List Ticket = lists.waiting in
    let first : ℕ = position_or_len test waiting in
    let on : suc first ≡ first + 1 = omega arith in
    ap (λ (o : Option Ticket). record lists { granted = lists.granted ++ option_to_list o; waiting = remove waiting first }) (sym (find_at test waiting))
    ∙ ap (λ (n : ℕ). record lists { granted = lists.granted ++ option_to_list (find test waiting); waiting = take first waiting ++ drop n waiting }) on

pub by_index-admits : (session number index : ℕ) (lists : BookView) → position_or_len (is_ticket session number) lists.waiting ≡ index → admitting_by_index index lists ≡ admitting session number lists
by_index-admits session number index lists first = subst (λ (n : ℕ). admitting_by_index n lists ≡ admitting session number lists) first (by_index-first session number lists)
