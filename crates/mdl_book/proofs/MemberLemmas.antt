-- What asks something of each ticket of a list depends on its members alone; and who is forgotten as lists change.
use Rattle.std.proofs.Common.{◌≡◌, ◌↔◌, ℕ, Bool, true, false, not, ◌||◌, inl, inr, List, [], ◌∷◌, ◌++◌, get_or, Some, None, refl, sym, subst, ◌∙◌, ap, rules, arith}
use Rattle.std.specs.Prelude.{IsTrue, Contains}
use Rattle.std.specs.List.{list_all, find, before_first, after_first, position_or_len}
use Rattle.std.specs.Option.{option_to_list}
use Rattle.std.specs.FinSet as set
use Rattle.std.specs.Ordering.{nat_cmp}
use Rattle.std.proofs.lemmas.Bool.{and_parts, and_from}
use Rattle.std.proofs.lemmas.List.Elements.{All-contains, All-push, All-nil, Contains-get_or, Contains-append_left, Contains-append_right, Contains-append_cases}
use Rattle.std.proofs.lemmas.List.Folds.{list_all-append, find_at}
use Rattle.std.proofs.lemmas.Option.{slice_get_cases}
use Rattle.std.proofs.lemmas.List.Sums.{AllPass-from_list_all, list_all-from_AllPass, fails_before_first}
use Rattle.mdl_key.specs.declared.namespace.Kind.{Kind}
use Rattle.mdl_key.specs.declared.mode.Mode.{Mode}
use Rattle.mdl_key.specs.Matrices.{clashes, waits_behind}
use Rattle.mdl_book.specs.declared.ticket.Ticket.{Ticket}
use Rattle.mdl_book.specs.declared.book_view.BookView.{BookView}
use Rattle.mdl_book.specs.Books.{lock_kind, granting, admitting, enqueueing, is_ready_beside, next_grantable_beside, NoneForgotten}
use Rattle.mdl_book.specs.Granting.{stands_beside, overtakes, is_compatible, goes_first, is_grantable, is_lawful, IsGrantable}
use Rattle.mdl_book.specs.Tickets.{is_ticket, ticket_of, without}
use Rattle.mdl_book.proofs.GrantingLemmas.{lawful_part}
use Rattle.mdl_book.proofs.TicketLemmas.{parted, find-contains, find-passes}

-- the tickets of one list are among those of another
abbrev AreAmong : List Ticket → List Ticket → Type 0
AreAmong part whole = (ticket : Ticket) → Contains part ticket → Contains whole ticket

all-among : (whole part : List Ticket) → AreAmong part whole → (test : Ticket → Bool) → list_all test whole ≡ true → list_all test part ≡ true
all-among whole part among test all =
    list_all-from_AllPass test part (λ k d inside.
    All-contains (λ t. test t ≡ true) whole (get_or part k d) (AllPass-from_list_all test whole all) (among (get_or part k d) (Contains-get_or part k d inside)))

pub lawful-among : (kind : Kind) (whole part : List Ticket) → AreAmong part whole → is_lawful kind whole ≡ true → is_lawful kind part ≡ true
lawful-among kind whole part among = lawful_part kind whole part (all-among whole part among)

-- what is grantable is grantable where fewer are granted and fewer wait
pub grantable-among : (kind : Kind) (granted fewer waiting left : List Ticket) (session : ℕ) (mode : Mode) → AreAmong fewer granted → AreAmong left waiting
    → is_grantable kind granted waiting session mode ≡ true → is_grantable kind fewer left session mode ≡ true
grantable-among kind granted fewer waiting left session mode among behind grantable =
    let parts = and_parts (is_compatible kind granted session mode) (goes_first kind waiting session mode) grantable in
    and_from _ _ (all-among granted fewer among (stands_beside kind session mode) parts.0) (all-among waiting left behind (overtakes kind session mode) parts.1)

-- ---- who waits behind a ticket clashes with it

behind_clashes : (kind : Kind) (ask pending : Mode) → waits_behind kind ask pending ≡ true → clashes kind ask pending ≡ true
behind_clashes kind ask pending behind = search rules

relaxed : (own clash behind : Bool) → (behind ≡ true → clash ≡ true) → (own || not clash) ≡ true → (own || not behind) ≡ true
relaxed true clash behind to e = refl
relaxed false clash false to e = refl
relaxed false true true to e = e
relaxed false false true to e = absurd (cc (to refl))

-- so who stands beside a ticket overtakes it
overtakes-from_beside : (kind : Kind) (session : ℕ) (mode : Mode) (ticket : Ticket) → stands_beside kind session mode ticket ≡ true → overtakes kind session mode ticket ≡ true
overtakes-from_beside kind session mode ticket = relaxed _ _ _ (behind_clashes kind mode ticket.mode)

all-found : (test p : Ticket → Bool) (tickets : List Ticket) → list_all test (before_first p tickets ++ after_first p tickets) ≡ true → list_all test (option_to_list (find p tickets)) ≡ true
    → list_all test tickets ≡ true
all-found test p tickets others found =
    let parts = and_parts (list_all test (before_first p tickets)) (list_all test (after_first p tickets)) (sym (list_all-append test (before_first p tickets) (after_first p tickets)) ∙ others) in
    ap (list_all test) (parted p tickets)
    ∙ list_all-append test (before_first p tickets) (option_to_list (find p tickets) ++ after_first p tickets)
    ∙ and_from _ _ parts.0 (list_all-append test (option_to_list (find p tickets)) (after_first p tickets) ∙ and_from _ _ found parts.1)

-- what is grantable once the first waiting ticket of a session and number is granted, was grantable before
grantable-admitted : (kind : Kind) (fast granted waiting : List Ticket) (who number session : ℕ) (mode : Mode)
    → is_grantable kind (fast ++ (granted ++ option_to_list (ticket_of who number waiting))) (without who number waiting) session mode ≡ true
    → is_grantable kind (fast ++ granted) waiting session mode ≡ true
grantable-admitted kind fast granted waiting who number session mode grantable =
    let come : List Ticket = option_to_list (ticket_of who number waiting) in
    let parts = and_parts (is_compatible kind (fast ++ (granted ++ come)) session mode) (goes_first kind (without who number waiting) session mode) grantable in
    let beside : is_compatible kind come session mode ≡ true =
    all-among (fast ++ (granted ++ come)) come (λ t among. Contains-append_right fast (granted ++ come) t (Contains-append_right granted come t among)) (stands_beside kind session mode) parts.0 in
    let overtaken : list_all (overtakes kind session mode) come ≡ true =
    list_all-from_AllPass (overtakes kind session mode) come (λ k d inside.
    overtakes-from_beside kind session mode (get_or come k d) (AllPass-from_list_all (stands_beside kind session mode) come beside k d inside)) in
    and_from _ _
    (all-among (fast ++ (granted ++ come)) (fast ++ granted) (more_granted fast granted come) (stands_beside kind session mode) parts.0)
    (all-found (overtakes kind session mode) (is_ticket who number) waiting parts.1 overtaken)
  where
    more_granted : (fast granted come : List Ticket) → AreAmong (fast ++ granted) (fast ++ (granted ++ come))
    more_granted fast granted come t among = elim (Contains-append_cases fast granted t among) [
      | inl left ↦ Contains-append_left fast (granted ++ come) t left
      | inr right ↦ Contains-append_right fast (granted ++ come) t (Contains-append_left granted come t right)
    ]

without-among : (who number : ℕ) (waiting : List Ticket) → AreAmong (without who number waiting) waiting
without-among who number waiting t among =
    let p = is_ticket who number in
    subst (λ tickets. Contains tickets t) (sym (parted p waiting)) (elim (Contains-append_cases (before_first p waiting) (after_first p waiting) t among) [
      | inl left ↦ Contains-append_left (before_first p waiting) (option_to_list (find p waiting) ++ after_first p waiting) t left
      | inr right ↦ Contains-append_right (before_first p waiting) (option_to_list (find p waiting) ++ after_first p waiting) t
          (Contains-append_right (option_to_list (find p waiting)) (after_first p waiting) t right)
    ])

-- ---- who is forgotten

module _ (fast : List Ticket) (unsettled : set.FinSet nat_cmp) (lists : BookView) (none : NoneForgotten fast unsettled lists) where
  kept-by_granting : (ticket : Ticket) → AreAmong (fast ++ lists.granted) (fast ++ (lists.granted ++ ticket ∷ []))
  kept-by_granting ticket t among = elim (Contains-append_cases fast lists.granted t among) [
    | inl left ↦ Contains-append_left fast (lists.granted ++ ticket ∷ []) t left
    | inr right ↦ Contains-append_right fast (lists.granted ++ ticket ∷ []) t (Contains-append_left lists.granted (ticket ∷ []) t right)
  ]

  pub none-granting : (ticket : Ticket) → NoneForgotten fast unsettled (granting ticket lists)
  none-granting ticket t among waits grantable =
      none t among waits (grantable-among (lock_kind lists) _ _ _ _ t.session t.mode (kept-by_granting ticket) (λ u is. is) grantable)

  pub none-fast : (ticket : Ticket) → NoneForgotten (ticket ∷ fast) unsettled lists
  none-fast ticket t among waits grantable =
      none t among waits (grantable-among (lock_kind lists) (ticket ∷ (fast ++ lists.granted)) (fast ++ lists.granted) lists.waiting lists.waiting t.session t.mode (λ u is. Contains-append_right (ticket ∷ []) (fast ++ lists.granted) u is) (λ u is. is) grantable)

  pub none-admitting : (session number : ℕ) → NoneForgotten fast unsettled (admitting session number lists)
  none-admitting session number t among waits grantable =
      none t (without-among session number lists.waiting t among) waits (grantable-admitted (lock_kind lists) fast lists.granted lists.waiting session number t.session t.mode grantable)

  pub none-enqueueing : (ticket : Ticket)
      → (IsTrue (set.contains unsettled ticket.session) → IsGrantable (lock_kind lists) (fast ++ lists.granted) lists.waiting ticket.session ticket.mode → ⊥)
      → NoneForgotten fast unsettled (enqueueing ticket lists)
  none-enqueueing ticket refused t among waits grantable =
      let before : is_grantable (lock_kind lists) (fast ++ lists.granted) lists.waiting t.session t.mode ≡ true =
      grantable-among (lock_kind lists) _ _ _ _ t.session t.mode (λ u is. is) (λ u is. Contains-append_left lists.waiting (ticket ∷ []) u is) grantable in
      elim (Contains-append_cases lists.waiting (ticket ∷ []) t among) [
        | inl earlier ↦ none t earlier waits before
        | inr last ↦
            let same : ticket ≡ t = All-contains (λ u. ticket ≡ u) (ticket ∷ []) t (All-push (λ u. ticket ≡ u) [] ticket (All-nil _) refl) last in
            refused (subst (λ u. IsTrue (set.contains unsettled u.session)) (sym same) waits)
            (subst (λ u. is_grantable (lock_kind lists) (fast ++ lists.granted) lists.waiting u.session u.mode ≡ true) (sym same) before)
      ]

-- nothing is found exactly where no member passes
pub none-found : {X : Type 0} (p : X → Bool) (xs : List X) → (find p xs ≡ None) ↔ ((x : X) → Contains xs x → p x ≡ true → ⊥)
none-found {X} p xs = (fails, absent)
  where
    fails : find p xs ≡ None → (x : X) → Contains xs x → p x ≡ true → ⊥
    fails none x among passes =
        elim (slice_get_cases xs (position_or_len p xs)).1 [
          | inl w ↦ absurd (cc (find_at p xs, w.2))
          | inr w ↦
              let past = w.0 in
              let inside = among.1 in
              let here : get_or xs among.0 x ≡ x = among.2 in
              let before : p (get_or xs among.0 x) ≡ false = fails_before_first p xs among.0 x (omega arith) in
              cc
        ]

    absent : ((x : X) → Contains xs x → p x ≡ true → ⊥) → find p xs ≡ None
    absent none = elim (find p xs) as (λ o. find p xs ≡ o → o ≡ None) [
      | Some x ↦ λ found. absurd (none x (find-contains p xs x found) (find-passes p xs x found))
      | None ↦ λ _. refl
    ] refl

-- so no waiter is ready beside the fast tickets exactly where nobody is forgotten
pub none-ready : (fast : List Ticket) (unsettled : set.FinSet nat_cmp) (lists : BookView) → (next_grantable_beside fast unsettled lists ≡ None) ↔ NoneForgotten fast unsettled lists
none-ready fast unsettled lists =
    let each = none-found (is_ready_beside fast unsettled lists) lists.waiting in (
      (λ next t among waits grantable. each.0 next t among (and_from _ _ waits grantable)),
      (λ none. each.1 (λ t among ready.
          let parts = and_parts (set.contains unsettled t.session) (is_grantable (lock_kind lists) (fast ++ lists.granted) lists.waiting t.session t.mode) ready in
          none t among parts.0 parts.1)),
    )
