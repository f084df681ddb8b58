-- Which waiters can be granted once a ticket is gone, and which after one of them was granted.
use Rattle.std.proofs.Common.{◌≡◌, ℕ, zero, suc, ◌+◌, ◌-◌, ◌^◌, ◌<◌, ◌≤◌, ◌==◌, ◌&&◌, ◌||◌, Bool, true, false, not, bit_and, min, nat_lt, List, [], ◌∷◌, ◌++◌, get_or, Option, Some, None, Ok, refl, sym, ◌∙◌, ap, arith, rules, ltb-true}
use Rattle.std.specs.Prelude.{slice_get}
use Rattle.std.specs.List.{find, All, list_all, count_by, before_first, after_first}
use Rattle.std.specs.Option.{ok_or, option_to_list}
use Rattle.std.specs.Int.{bit_at, bit_not, w16}
use Rattle.std.proofs.lemmas.Bool.{and_parts, and_from, false_from_ne_true}
use Rattle.std.proofs.lemmas.Bool.Decides.{nat_tests}
use Rattle.std.proofs.lemmas.List.Elements.{All-nil, All-cons, All-weaker}
use Rattle.std.proofs.lemmas.List.Folds.{find_at, list_all-append}
use Rattle.std.proofs.lemmas.List.Sums.{sum_by-cons, sum_by_push}
use Rattle.std.proofs.lemmas.Nat.Bits.{bit_at-lt, bit_at-zero, bit_at_and, bit_at_not}
use Rattle.mdl_key.specs.declared.namespace.Kind.{Kind}
use Rattle.mdl_key.specs.declared.namespace.Kind.TheVariants.{Scoped, Object}
use Rattle.mdl_key.specs.declared.mode.Mode.{Mode}
use Rattle.mdl_key.specs.Words.{bit_map, clashes, granted_conflicts, has_bit, mode_rank, all_modes, waits_behind}
use Rattle.mdl_key.proofs.MatrixLemmas.{clashes-symmetric, each_mode}
use Rattle.mdl_book.specs.declared.book_error.BookError.{BookError}
use Rattle.mdl_book.specs.declared.ticket.Ticket.{Ticket}
use Rattle.mdl_book.specs.Granting.{stands_beside, overtakes, is_compatible, goes_first}
use Rattle.mdl_book.specs.Tickets.{is_ticket, ticket_of, without}
use Rattle.mdl_book.proofs.CountLemmas.{rank-lt}
use Rattle.mdl_book.proofs.MarkLemmas.{granted_row-tells}
use Rattle.mdl_book.proofs.TicketLemmas.{All-without, first-same, parted}
use Rattle.mdl_lock.specs.Answers.{Lock, grantable_in, next_waiter, admitted}
use Rattle.mdl_lock.specs.Locks.{AreInModes, IsOrderly, IsScriptTicket, WereBlockedBy}
use Rattle.mdl_lock.specs.Output.{ForgetsNobody}
use Rattle.mdl_lock.proofs.Actions.{found_none}
use Rattle.mdl_lock.proofs.FindLemmas.{All-find, count-first}
use Rattle.mdl_lock.proofs.LockLemmas.{ticket_of-found}
use Rattle.mdl_lock.proofs.OrderLemmas.{one_if, orderly_admit}

-- ---- truth values

both : (a b : Bool) → (b ≡ true → a ≡ true) → (a && b) ≡ b
both true b h = refl
both false true h = absurd (cc (h refl))
both false false h = refl

unless : (a b : Bool) → (a ≡ false → b ≡ true) → b ≡ false → a ≡ true
unless true b h fails = refl
unless false b h fails = absurd (cc (h refl, fails))

neither : (a b : Bool) → (a ≡ true → b ≡ true) → b ≡ false → a ≡ false
neither true b h fails = absurd (cc (h refl, fails))
neither false b h fails = refl

or_not : (a b : Bool) → b ≡ false → (a || not b) ≡ true
or_not true b fails = refl
or_not false true fails = absurd (cc fails)
or_not false false fails = refl

not_other : (a b : Bool) → a ≡ false → (a || not b) ≡ true → b ≡ false
not_other true b fails h = absurd (cc fails)
not_other false true fails h = absurd (cc h)
not_other false false fails h = refl

relaxed : (own clash behind : Bool) → (behind ≡ true → clash ≡ true) → (own || not clash) ≡ true → (own || not behind) ≡ true
relaxed true clash behind to e = refl
relaxed false clash false to e = refl
relaxed false true true to e = e
relaxed false false true to e = absurd (cc (to refl))

-- ---- the bits of modes

left_bit : (p q : ℕ) → p < 2 → q < 2 → (min p (1 - q) == 1) ≡ ((p == 1) && not (q == 1))
left_bit zero zero small small′ = refl
left_bit zero (suc zero) small small′ = refl
left_bit zero (suc (suc q)) small small′ = absurd (omega arith)
left_bit (suc zero) zero small small′ = refl
left_bit (suc zero) (suc zero) small small′ = refl
left_bit (suc zero) (suc (suc q)) small small′ = absurd (omega arith)
left_bit (suc (suc p)) q small small′ = absurd (omega arith)

-- each row fits into 16 bits
rows_fit : (kind : Kind) → list_all (λ mode. nat_lt (bit_map (granted_conflicts kind mode)) (2 ^ 16)) all_modes ≡ true
rows_fit Scoped = refl
rows_fit Object = refl

row_fits : (kind : Kind) (mode : Mode) → bit_map (granted_conflicts kind mode) < 2 ^ 16
row_fits kind mode = ltb-true _ _ (each_mode (λ m. nat_lt (bit_map (granted_conflicts kind m)) (2 ^ 16)) (rows_fit kind) mode)

-- modes without those that clash with one
pub bits_beside : (kind : Kind) (granted : Mode) (modes : ℕ) (mode : Mode)
    → has_bit (bit_and modes (bit_not w16 (bit_map (granted_conflicts kind granted)))) mode ≡ (has_bit modes mode && not (clashes kind granted mode))
bits_beside kind granted modes mode =
    let row = bit_map (granted_conflicts kind granted) in
    let rank = mode_rank mode in
    let below = rank-lt mode in
    ap (λ (n : ℕ). n == 1) (bit_at_and modes (bit_not w16 row) rank ∙ ap (min (bit_at modes rank)) (bit_at_not w16 row rank (row_fits kind granted) (omega arith)))
    ∙ left_bit (bit_at modes rank) (bit_at row rank) (bit_at-lt modes rank) (bit_at-lt row rank)
    ∙ ap (λ (b : Bool). has_bit modes mode && not b) (granted_row-tells kind granted mode)

-- who waits behind a mode clashes with it
behind_clashes : (kind : Kind) (ask pending : Mode) → waits_behind kind ask pending ≡ true → clashes kind ask pending ≡ true
behind_clashes kind ask pending behind = search rules

-- the row of the mode that is gone has all that clash with it
pub in_row : (kind : Kind) (gone : Mode) (lock : Lock) → WereBlockedBy gone kind lock → AreInModes (bit_map (granted_conflicts kind gone)) kind lock
in_row kind gone lock blocked = λ k d inside can.
    let t : Ticket = get_or lock.waiting k d in granted_row-tells kind gone t.mode ∙ clashes-symmetric kind gone t.mode ∙ blocked k d inside can

-- ---- the first that can be granted

-- what passes one test only if it passes another is found by both
find-both : (p q : Ticket → Bool) (tickets : List Ticket) → All (λ t. p t ≡ true → q t ≡ true) tickets → find (λ t. q t && p t) tickets ≡ find p tickets
find-both p q tickets all =
    find_at (λ t. q t && p t) tickets
    ∙ ap (slice_get tickets) (first-same (λ t. q t && p t) p tickets (All-weaker (λ t. p t ≡ true → q t ≡ true) (λ t. (q t && p t) ≡ p t) (λ t. both (q t) (p t)) tickets all))
    ∙ sym (find_at p tickets)

-- the first that can be granted is the first in these modes that can be
pub next-in_modes : (kind : Kind) (modes : ℕ) (lock : Lock) → AreInModes modes kind lock
    → find (λ t. has_bit modes t.mode && grantable_in kind lock t.session t.mode) lock.waiting ≡ next_waiter kind lock
next-in_modes kind modes lock among = find-both (λ t. grantable_in kind lock t.session t.mode) (λ t. has_bit modes t.mode) lock.waiting among

-- there is none in no mode
pub next-in_none : (kind : Kind) (lock : Lock) → AreInModes 0 kind lock → next_waiter kind lock ≡ None
next-in_none kind lock among =
    sym (next-in_modes kind 0 lock among)
    ∙ found_none (λ t. has_bit 0 t.mode && grantable_in kind lock t.session t.mode) lock.waiting (λ t. ap (λ (n : ℕ). n == 1 && grantable_in kind lock t.session t.mode) (bit_at-zero (mode_rank t.mode)))

-- ---- a ticket is gone

-- all pass a test if the ticket that is gone passes it, and all that are left do
all_with : (test : Ticket → Bool) (session number : ℕ) (tickets : List Ticket) (gone : Ticket) → ticket_of session number tickets ≡ Some gone
    → test gone ≡ true → list_all test (without session number tickets) ≡ true → list_all test tickets ≡ true
all_with test session number tickets gone found passes others =
    let p = is_ticket session number in
    let before : List Ticket = before_first p tickets in
    let after : List Ticket = after_first p tickets in
    let parts = and_parts (list_all test before) (list_all test after) (sym (list_all-append test before after) ∙ others) in
    let split : tickets ≡ before ++ (gone ∷ after) = parted p tickets ∙ ap (λ (o : Option Ticket). before ++ (option_to_list o ++ after)) found in
    ap (list_all test) split ∙ list_all-append test before (gone ∷ after) ∙ and_from _ _ parts.0 (and_from _ _ passes parts.1)

pub some_from_ok : (found : Option Ticket) (ticket : Ticket) (error : BookError) → Ok ticket ≡ ok_or found error → found ≡ Some ticket
some_from_ok (Some other) ticket error is = cc
some_from_ok None ticket error is = cc

-- who can be granted once a granted ticket is gone clashes with it
pub blocked_by_granted : (kind : Kind) (session : ℕ) (gone : Ticket) (lock : Lock) → ticket_of session 1 lock.granted ≡ Some gone → ForgetsNobody kind lock
    → WereBlockedBy gone.mode kind (record lock { granted = without session 1 lock.granted })
blocked_by_granted kind session gone lock found nobody = λ k d inside can.
    let t : Ticket = get_or lock.waiting k d in
    unless (clashes kind t.mode gone.mode) (grantable_in kind lock t.session t.mode) (λ apart.
    let parts = and_parts (is_compatible kind (without session 1 lock.granted) t.session t.mode) (goes_first kind lock.waiting t.session t.mode) can in
    let beside : stands_beside kind t.session t.mode gone ≡ true = or_not (gone.session == t.session) (clashes kind t.mode gone.mode) apart in
    and_from _ _ (all_with (stands_beside kind t.session t.mode) session 1 lock.granted gone found beside parts.0) parts.1)
    (nobody k d inside)

-- and so does who can be granted once a waiting ticket is gone
pub blocked_by_waiting : (kind : Kind) (session : ℕ) (gone : Ticket) (lock : Lock) → ticket_of session 1 lock.waiting ≡ Some gone → ForgetsNobody kind lock
    → WereBlockedBy gone.mode kind (record lock { waiting = without session 1 lock.waiting })
blocked_by_waiting kind session gone lock found nobody =
    let left : Lock = record lock { waiting = without session 1 lock.waiting } in
    let Blocked = λ (t : Ticket). grantable_in kind left t.session t.mode ≡ true → clashes kind t.mode gone.mode ≡ true in
    let each : All Blocked lock.waiting = λ k d inside can.
    let t : Ticket = get_or lock.waiting k d in
    unless (clashes kind t.mode gone.mode) (grantable_in kind lock t.session t.mode) (λ apart.
    let parts = and_parts (is_compatible kind lock.granted t.session t.mode) (goes_first kind (without session 1 lock.waiting) t.session t.mode) can in
    let ahead : waits_behind kind t.mode gone.mode ≡ false = neither _ (clashes kind t.mode gone.mode) (behind_clashes kind t.mode gone.mode) apart in
    let overtaken : overtakes kind t.session t.mode gone ≡ true = or_not (gone.session == t.session) (waits_behind kind t.mode gone.mode) ahead in
    and_from _ _ parts.0 (all_with (overtakes kind t.session t.mode) session 1 lock.waiting gone found overtaken parts.1))
    (nobody k d inside) in
    All-without Blocked (is_ticket session 1) lock.waiting each

-- ---- a waiter is granted

none_from_zero : (p : Ticket → Bool) (tickets : List Ticket) → count_by p tickets ≡ 0 → All (λ t. p t ≡ false) tickets
none_from_zero p [] none = All-nil (λ t. p t ≡ false)
none_from_zero p (ticket ∷ tickets) none =
    let counted = sum_by-cons (one_if p) ticket tickets in
    All-cons (λ t. p t ≡ false) ticket tickets
    (false_from_ne_true _ (λ passes. omega (arith, none, count-first p ticket tickets passes)))
    (none_from_zero p tickets (omega (arith, none, counted)))

apart_from : (session : ℕ) (t : Ticket) → is_ticket session 1 t ≡ false → t.number ≡ 1 → (session == t.session) ≡ false
apart_from session t other one = grind (arith, nat_tests)

module _ (kind : Kind) (lock : Lock) (ticket : Ticket) (next : next_waiter kind lock ≡ Some ticket) (orderly : IsOrderly lock) where
  -- nobody else has the session of the waiter that is granted
  others : All (λ t. (ticket.session == t.session) ≡ false) (admitted ticket lock).waiting
  others =
      let later = orderly_admit lock _ ticket next orderly in
      let of_script = All-find IsScriptTicket _ lock.waiting ticket orderly.waiters next in
      let itself : is_ticket ticket.session 1 ticket ≡ true = let number = of_script.1 in grind (arith, nat_tests) in
      let one : one_if (is_ticket ticket.session 1) ticket ≡ 1 = rw itself refl in
      let none : count_by (is_ticket ticket.session 1) (admitted ticket lock).waiting ≡ 0 =
      omega (arith, later.one_each ticket.session, sum_by_push (one_if (is_ticket ticket.session 1)) lock.granted ticket, one) in
      let free = none_from_zero (is_ticket ticket.session 1) (admitted ticket lock).waiting none in
      λ k d inside. apart_from ticket.session (get_or (admitted ticket lock).waiting k d) (free k d inside) (later.waiters k d inside).1

  -- who can be granted then could be before, and doesn't clash with it
  pub still_in : (modes left : ℕ) → AreInModes modes kind lock → ((mode : Mode) → has_bit left mode ≡ (has_bit modes mode && not (clashes kind ticket.mode mode)))
      → AreInModes left kind (admitted ticket lock)
  still_in modes left among are = λ k d inside can.
      let waiting : List Ticket = (admitted ticket lock).waiting in
      let t : Ticket = get_or waiting k d in
      let of_script = All-find IsScriptTicket _ lock.waiting ticket orderly.waiters next in
      let one : count_by (is_ticket ticket.session ticket.number) lock.waiting ≤ 1 = rw of_script.1 (omega (arith, orderly.one_each ticket.session)) in
      let found = ticket_of-found _ lock.waiting ticket one next in
      let parts = and_parts (is_compatible kind (lock.granted ++ ticket ∷ []) t.session t.mode) (goes_first kind waiting t.session t.mode) can in
      let granted = and_parts (is_compatible kind lock.granted t.session t.mode) (is_compatible kind (ticket ∷ []) t.session t.mode)
      (sym (list_all-append (stands_beside kind t.session t.mode) lock.granted (ticket ∷ [])) ∙ parts.0) in
      let beside : stands_beside kind t.session t.mode ticket ≡ true = (and_parts (stands_beside kind t.session t.mode ticket) true granted.1).0 in
      let overtaken : overtakes kind t.session t.mode ticket ≡ true = relaxed _ _ _ (behind_clashes kind t.mode ticket.mode) beside in
      let before : grantable_in kind lock t.session t.mode ≡ true =
      and_from _ _ granted.0 (all_with (overtakes kind t.session t.mode) ticket.session ticket.number lock.waiting ticket found overtaken parts.1) in
      let Among = λ (x : Ticket). grantable_in kind lock x.session x.mode ≡ true → has_bit modes x.mode ≡ true in
      let was : has_bit modes t.mode ≡ true = All-without Among (is_ticket ticket.session ticket.number) lock.waiting among k d inside before in
      let apart : clashes kind ticket.mode t.mode ≡ false =
      clashes-symmetric kind ticket.mode t.mode ∙ not_other (ticket.session == t.session) (clashes kind t.mode ticket.mode) (others k d inside) beside in
      are t.mode ∙ ap (λ b. b && not (clashes kind ticket.mode t.mode)) was ∙ ap not apart
