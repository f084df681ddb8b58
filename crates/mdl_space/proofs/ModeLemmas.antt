-- A held ticket in another mode, in its session's hands and in the book of its place.
use Rattle.std.proofs.Common.{◌≡◌, ◌≢◌, ℕ, zero, suc, ◌<◌, ◌-◌, Bool, true, inl, inr, List, [], ◌∷◌, ◌++◌, length, length-set, map, get_or, Option, Some, None, Result, refl, sym, ap, subst, ◌∙◌, arith, set as set_at}
use Rattle.std.specs.Prelude.{not, ◌&&◌, ◌||◌, find, filter, is_some, position, Contains, IsOk, IsTrue, nat_le, nat_lt, if◌then◌else◌}
use Rattle.std.specs.List.{list_all, before_first, after_first}
use Rattle.std.specs.Option.{option_to_list}
use Rattle.std.proofs.lemmas.Bool.{and_parts}
use Rattle.std.proofs.lemmas.Bool.Decides.{nat_tests}
use Rattle.std.proofs.lemmas.List.Elements.{Contains-append_left, Contains-append_right, Contains-append_cases}
use Rattle.std.proofs.lemmas.List.Quantifiers.{position-Some}
use Rattle.std.proofs.lemmas.List.Sums.{AllPass-from_list_all, list_all-from_AllPass}
use Rattle.mdl_key.specs.declared.mode.Mode.{Mode}
use Rattle.mdl_key.specs.declared.namespace.Kind.{Kind}
use Rattle.mdl_key.specs.Words.{all_modes, is_mode_of}
use Rattle.mdl_key.specs.Refusals.{RefusesJust}
use Rattle.mdl_key.proofs.MatrixLemmas.{each_mode}
use Rattle.mdl_book.specs.declared.book_error.BookError.{BookError}
use Rattle.mdl_book.specs.declared.book_view.BookView.{BookView}
use Rattle.mdl_book.specs.declared.ticket.Ticket.{Ticket}
use Rattle.mdl_book.specs.Books.{change_fault, changing, lock_kind}
use Rattle.mdl_book.specs.Granting.{is_compatible, stands_beside}
use Rattle.mdl_book.specs.Tickets.{is_ticket, ticket_of, without}
use Rattle.mdl_book.proofs.FastLemmas.{may_stand-none}
use Rattle.mdl_book.proofs.TicketLemmas.{none_at, parted, find-passes, find-contains, All-without}
use Rattle.mdl_calls.specs.declared.answers.Held.{Held}
use Rattle.mdl_calls.specs.SessionLocks.{are_rising, is_number}
use Rattle.mdl_core.specs.CoreCalls.{is_lower}
use Rattle.mdl_core.specs.Words.{Core, SpeaksFor, IsTied, altering, book_at, seat_at, has_key, in_book_of}
use Rattle.mdl_core.proofs.CoreReads.{ticket-key}
use Rattle.mdl_system.specs.Strength.{covers, may_downgrade}
use Rattle.mdl_system.proofs.LawfulLemmas.{implied}
use Rattle.mdl_space.proofs.SearchLemmas.{rises}
use Rattle.mdl_space.proofs.SpeakingLemmas.{found_passing, clone-compatible}

-- ---- in the session's hands

-- the ticket of a number in another mode, and any other as it is
abbrev in_mode_if : ℕ → Mode → Held → Held
in_mode_if id mode ticket = if is_number id ticket then record ticket { mode = mode } else ticket

others_stay : (id : ℕ) (mode : Mode) (xs : List Held) → IsTrue (list_all (λ other. nat_lt id other.id) xs) → map (in_mode_if id mode) xs ≡ xs
others_stay id mode [] above = refl
others_stay id mode (x ∷ xs) above = grind (arith, nat_tests, others_stay id mode xs)

-- where the numbers rise, to write the ticket at its place is to change all of its number
changed_at : (id : ℕ) (mode : Mode) (xs : List Held) (at : ℕ) (ticket : Held) → IsTrue (are_rising xs) → at < length xs
    → ticket ≡ get_or xs at ticket → ticket.id ≡ id → set_at xs at (record ticket { mode = mode }) ≡ map (in_mode_if id mode) xs
changed_at id mode [] at ticket rising inside is here = absurd (omega arith)
changed_at id mode (x ∷ xs) zero ticket rising inside is here =
    let same : x.id ≡ id = sym (ap (λ (t : Held). t.id) is) ∙ here in
    let hit : is_number id x ≡ true = grind (arith, nat_tests) in
    let above : IsTrue (list_all (λ other. nat_lt id other.id) xs) = grind (arith, nat_tests) in
    let others = others_stay id mode xs above in
    rw (hit, others, is) refl
changed_at id mode (x ∷ xs) (suc at) ticket rising inside is here =
    let before : x.id < id = grind (arith, rises (x ∷ xs) 0 (suc at) ticket rising) in
    grind (arith, nat_tests, changed_at id mode xs at ticket)

pub with_mode_at : (id : ℕ) (mode : Mode) (xs : List Held) (at : ℕ) (ticket : Held) → IsTrue (are_rising xs) → Some at ≡ position (is_number id) xs
    → ticket ≡ get_or xs at ticket → set_at xs at (record ticket { mode = mode }) ≡ map (in_mode_if id mode) xs
with_mode_at id mode xs at ticket rising place is =
    let found = position-Some (is_number id) xs at ticket (sym place) in
    let here : ticket.id ≡ id = grind (arith, nat_tests, found.1) in
    changed_at id mode xs at ticket rising found.0 is here

none_changed : (id : ℕ) (mode : Mode) (xs : List Held) → find (is_number id) xs ≡ None → map (in_mode_if id mode) xs ≡ xs
none_changed id mode [] none = refl
none_changed id mode (x ∷ xs) none = grind (arith, nat_tests, none_changed id mode xs)

-- where no ticket has the number, all stay
pub with_mode_none : (id : ℕ) (mode : Mode) (xs : List Held) → None ≡ position (is_number id) xs → map (in_mode_if id mode) xs ≡ xs
with_mode_none id mode xs place = none_changed id mode xs (none_at (is_number id) xs place)

all_left : (test p : Held → Bool) (xs : List Held) → list_all test xs ≡ true → list_all test (filter p xs) ≡ true
all_left test p [] all = refl
all_left test p (x ∷ xs) all = grind (arith, all_left test p xs)

-- the numbers rise without some of the tickets
pub rising_left : (p : Held → Bool) (xs : List Held) → IsTrue (are_rising xs) → IsTrue (are_rising (filter p xs))
rising_left p [] rising = refl
rising_left p (x ∷ xs) rising = grind (arith, rising_left p xs, all_left (λ other. nat_lt x.id other.id) p xs)

-- ---- in the book

-- a place keeps its key as a ticket there gets another mode
pub altered-key : (who : ℕ) (ticket : Held) (mode : Mode) (core : Core) → has_key ticket.place (altering who ticket mode core) ≡ has_key ticket.place core
altered-key who ticket mode core =
    ap (λ n. nat_le 1 ticket.place && nat_le ticket.place n)
    (length-set core.books (ticket.place - 1) (changing who ticket.id mode (book_at ticket.place core)))

-- the book changes a ticket that stands in it to a mode that clashes with no other session's
pub changed_unrefused : (who id : ℕ) (mode : Mode) (book : BookView) (result : Result (Unit {0}) BookError) → RefusesJust (change_fault who id mode 0 book) result
    → is_some (ticket_of who id book.granted) ≡ true → is_compatible (lock_kind book) book.granted who mode ≡ true → IsOk result
changed_unrefused who id mode book result refuses stands compatible =
    let beside = may_stand-none (lock_kind book) book.granted who mode ∙ compatible in
    rw (stands, beside) at refuses

-- a ticket of another number stands where one goes
pub stands_without : (who kept gone : ℕ) (granted : List Ticket) → kept ≢ gone → is_some (ticket_of who kept granted) ≡ true
    → is_some (ticket_of who kept (without who gone granted)) ≡ true
stands_without who kept gone granted two stands = by (ticket_of who kept granted) refl stands
  where
    goes : Ticket → Bool
    goes = is_ticket who gone

    by : (o : Option Ticket) → ticket_of who kept granted ≡ o → is_some o ≡ true → is_some (ticket_of who kept (without who gone granted)) ≡ true
    by None found some = cc
    by (Some ticket) found some =
        let passes : is_ticket who kept ticket ≡ true = find-passes (is_ticket who kept) granted ticket found in
        let among : Contains granted ticket = find-contains (is_ticket who kept) granted ticket found in
        let split = subst (λ ts. Contains ts ticket) (parted (is_ticket who gone) granted) among in
        found_passing (is_ticket who kept) (without who gone granted) ticket
        (elim (Contains-append_cases (before_first (is_ticket who gone) granted) (option_to_list (ticket_of who gone granted) ++ after_first (is_ticket who gone) granted) ticket split) [
          | inl left ↦ Contains-append_left (before_first (is_ticket who gone) granted) (after_first (is_ticket who gone) granted) ticket left
          | inr right ↦ elim (Contains-append_cases (option_to_list (ticket_of who gone granted)) (after_first (is_ticket who gone) granted) ticket right) [
            | inl that ↦ absurd (isnt (ticket_of who gone granted) refl ticket passes that)
            | inr rest ↦ Contains-append_right (before_first (is_ticket who gone) granted) (after_first (is_ticket who gone) granted) ticket rest
          ]
        ]) passes
      where
        isnt : (o : Option Ticket) → ticket_of who gone granted ≡ o → (t : Ticket) → is_ticket who kept t ≡ true → Contains (option_to_list o) t → ⊥
        isnt None found t kept_passes (k, lt, at) = omega (arith, lt)
        isnt (Some other) found t kept_passes (zero, lt, at) =
            let gone_passes = find-passes (is_ticket who gone) granted other found in
            let same : other ≡ t = cc in
            two (grind (arith, nat_tests))
        isnt (Some other) found t kept_passes (suc k, lt, at) = omega (arith, lt)

-- a wish that clashes with no ticket clashes with none where one goes
pub compatible_without : (kind : Kind) (who gone session : ℕ) (mode : Mode) (granted : List Ticket) → is_compatible kind granted session mode ≡ true
    → is_compatible kind (without who gone granted) session mode ≡ true
compatible_without kind who gone session mode granted all =
    let test : Ticket → Bool = stands_beside kind session mode in
    list_all-from_AllPass test _ (All-without (λ a. test a ≡ true) (is_ticket who gone) granted (AllPass-from_list_all test granted all))

-- ---- modes that may stand

abbrev falls_covered : Mode → Mode → Bool
falls_covered held mode = not (may_downgrade held mode) || covers held mode

-- a mode covers those that it may be downgraded to
pub downgrade-covers : (held mode : Mode) → may_downgrade held mode ≡ true → covers held mode ≡ true
downgrade-covers held mode falls =
    implied (may_downgrade held mode) (covers held mode) (each_mode (falls_covered held) (each_mode (λ h. list_all (falls_covered h) all_modes) refl held) mode) falls

-- and itself
covers-itself : (mode : Mode) → covers mode mode ≡ true
covers-itself mode = each_mode (λ m. covers m m) refl mode

-- a mode that a held ticket may be downgraded to clashes with no other session's
pub lower-compatible : (core : Core) (who : ℕ) (ticket : Held) (mode : Mode) → SpeaksFor core who → Contains (seat_at who core).held ticket
    → is_lower mode ticket core ≡ true → is_compatible (lock_kind (book_at ticket.place core)) (book_at ticket.place core).granted who mode ≡ true
lower-compatible core who ticket mode speaks held lower =
    let parts = and_parts (may_downgrade ticket.mode mode) (is_mode_of (lock_kind (book_at ticket.place core)) mode) lower in
    clone-compatible core who ticket mode speaks held (downgrade-covers ticket.mode mode parts.0) parts.1

-- a held ticket clashes with no other session's
pub held-compatible : (core : Core) (who : ℕ) (ticket : Held) → SpeaksFor core who → Contains (seat_at who core).held ticket
    → is_compatible (lock_kind (book_at ticket.place core)) (book_at ticket.place core).granted who ticket.mode ≡ true
held-compatible core who ticket speaks held =
    let tied : IsTied core = speaks.1.tied in
    let key : has_key ticket.place core ≡ true = ticket-key core who ticket tied speaks.0 (inl (inl held)) in
    let own_fits = (tied.granted_by ticket.place key (in_book_of who ticket) ((tied.granted who ticket speaks.0 key).1 (inl held))).1 in
    clone-compatible core who ticket ticket.mode speaks held (covers-itself ticket.mode) own_fits
