-- Granted tickets stay lawful where a compatible one joins them, where one goes, and where one changes to a compatible mode.
use Rattle.std.proofs.Common.{◌≡◌, ℕ, Bool, true, false, ◌&&◌, List, [], ◌∷◌, ◌++◌, get_or, Some, None, refl, sym, ap, ◌∙◌, subst, append_assoc, arith}
use Rattle.std.specs.List.{list_all, find, before_first, after_first}
use Rattle.std.specs.Option.{option_map, option_to_list}
use Rattle.std.proofs.lemmas.Bool.{and_parts, and_from, eqb-true}
use Rattle.std.proofs.lemmas.List.Folds.{list_all-append}
use Rattle.std.proofs.lemmas.List.Sums.{AllPass-from_list_all, list_all-from_AllPass}
use Rattle.std.proofs.lemmas.List.Elements.{All-push}
use Rattle.std.proofs.lemmas.Bool.Decides.{nat_tests}
use Rattle.mdl_key.specs.declared.namespace.Kind.{Kind}
use Rattle.mdl_key.specs.declared.mode.Mode.{Mode}
use Rattle.mdl_key.specs.Matrices.{clashes}
use Rattle.mdl_key.proofs.MatrixLemmas.{clashes-symmetric}
use Rattle.mdl_book.specs.declared.ticket.Ticket.{Ticket}
use Rattle.mdl_book.specs.Granting.{stands_beside, is_compatible, is_lawful, is_grantable}
use Rattle.mdl_book.specs.Tickets.{without, is_ticket, in_mode, with_mode}
use Rattle.mdl_book.proofs.TicketLemmas.{All-without, find-passes}

-- whether the first of two tickets stands beside the second
abbrev beside : Kind → Ticket → Ticket → Bool
beside kind a b = stands_beside kind a.session a.mode b

and_left : (a b : Bool) → (a && b) ≡ true → a ≡ true
and_left true b e = refl
and_left false b e = e

-- a ticket stands beside itself
beside-itself : (kind : Kind) (a : Ticket) → beside kind a a ≡ true
beside-itself kind a = grind (arith, nat_tests)

-- and beside another as that one stands beside it
beside-symmetric : (kind : Kind) (a b : Ticket) → beside kind a b ≡ true → beside kind b a ≡ true
beside-symmetric kind a b e =
    let s : clashes kind a.mode b.mode ≡ clashes kind b.mode a.mode = clashes-symmetric kind a.mode b.mode in grind (arith, nat_tests)

pub lawful_push : (kind : Kind) (granted : List Ticket) (ticket : Ticket) → is_compatible kind granted ticket.session ticket.mode ≡ true
    → is_lawful kind granted ≡ true → is_lawful kind (granted ++ ticket ∷ []) ≡ true
lawful_push kind granted ticket compatible lawful =
    let others = AllPass-from_list_all (beside kind ticket) granted compatible in
    let each = AllPass-from_list_all (λ a. list_all (beside kind a) granted) granted lawful in
    let last : list_all (beside kind ticket) (granted ++ ticket ∷ []) ≡ true =
    list_all-from_AllPass (beside kind ticket) _ (All-push (λ b. beside kind ticket b ≡ true) granted ticket others (beside-itself kind ticket)) in
    list_all-from_AllPass (λ a. list_all (beside kind a) (granted ++ ticket ∷ [])) _
    (All-push (λ a. list_all (beside kind a) (granted ++ ticket ∷ []) ≡ true) granted ticket
    (λ k d inside.
    let a : Ticket = get_or granted k d in
    list_all-from_AllPass (beside kind a) _
    (All-push (λ b. beside kind a b ≡ true) granted ticket (AllPass-from_list_all (beside kind a) granted (each k d inside)) (beside-symmetric kind ticket a (others k d inside))))
    last)

-- where each test that all of a list pass is passed by all of another, that one is lawful too
pub lawful_part : (kind : Kind) (granted part : List Ticket) → ((test : Ticket → Bool) → list_all test granted ≡ true → list_all test part ≡ true)
    → is_lawful kind granted ≡ true → is_lawful kind part ≡ true
lawful_part kind granted part passed lawful =
    let each = AllPass-from_list_all (λ a. list_all (beside kind a) granted) granted lawful in
    passed (λ a. list_all (beside kind a) part) (list_all-from_AllPass (λ a. list_all (beside kind a) part) granted (λ k d inside. passed (beside kind (get_or granted k d)) (each k d inside)))

-- what all of two lists pass is passed where the second loses its first ticket of a session and number
passed_without : (session number : ℕ) (fast granted : List Ticket) (test : Ticket → Bool) → list_all test (fast ++ granted) ≡ true → list_all test (fast ++ without session number granted) ≡ true
passed_without session number fast granted test all =
    let parts = and_parts (list_all test fast) (list_all test granted) (sym (list_all-append test fast granted) ∙ all) in
    list_all-append test fast (without session number granted)
    ∙ and_from _ _ parts.0 (list_all-from_AllPass test _ (All-without (λ a. test a ≡ true) (is_ticket session number) granted (AllPass-from_list_all test granted parts.1)))

-- what goes may stand beside other tickets, as fast ones
pub lawful_without-beside : (kind : Kind) (session number : ℕ) (fast granted : List Ticket) → is_lawful kind (fast ++ granted) ≡ true → is_lawful kind (fast ++ without session number granted) ≡ true
lawful_without-beside kind session number fast granted lawful =
    lawful_part kind (fast ++ granted) (fast ++ without session number granted) (passed_without session number fast granted) lawful

pub lawful_without : (kind : Kind) (session number : ℕ) (granted : List Ticket) → is_lawful kind granted ≡ true → is_lawful kind (without session number granted) ≡ true
lawful_without kind session number granted lawful = lawful_without-beside kind session number [] granted lawful

-- a ticket at the end, moved to a place before
moved : (a b c d : Bool) → ((a && (b && c)) && (d && true)) ≡ (a && (b && (d && c)))
moved true true true d = refl
moved true true false true = refl
moved true true false false = refl
moved true false c d = refl
moved false b c d = refl

passed_moved : (fast left right : List Ticket) (ticket : Ticket) (test : Ticket → Bool)
    → list_all test ((fast ++ (left ++ right)) ++ ticket ∷ []) ≡ true → list_all test (fast ++ (left ++ ticket ∷ right)) ≡ true
passed_moved fast left right ticket test all =
    list_all-append test fast (left ++ ticket ∷ right)
    ∙ ap (λ b. list_all test fast && b) (list_all-append test left (ticket ∷ right))
    ∙ sym (moved (list_all test fast) (list_all test left) (list_all test right) (test ticket))
    ∙ sym (list_all-append test (fast ++ (left ++ right)) (ticket ∷ [])
    ∙ ap (λ b. b && (test ticket && true)) (list_all-append test fast (left ++ right) ∙ ap (λ b. list_all test fast && b) (list_all-append test left right)))
    ∙ all

-- the first ticket of a session and number is of that session
session_of-found : (session number : ℕ) (granted : List Ticket) (ticket : Ticket) → find (is_ticket session number) granted ≡ Some ticket → ticket.session ≡ session
session_of-found session number granted ticket found =
    eqb-true _ _ (and_left _ _ (find-passes (is_ticket session number) granted ticket found))

-- a ticket changes its mode to a compatible one, in its place, beside other tickets, as fast ones
pub lawful_changed-beside : (kind : Kind) (session number : ℕ) (mode : Mode) (fast granted : List Ticket) → is_compatible kind (fast ++ granted) session mode ≡ true
    → is_lawful kind (fast ++ granted) ≡ true → is_lawful kind (fast ++ with_mode session number mode granted) ≡ true
lawful_changed-beside kind session number mode fast granted compatible lawful =
    let test = is_ticket session number in
    let left : List Ticket = before_first test granted in
    let right : List Ticket = after_first test granted in
    let kept : is_lawful kind (fast ++ (left ++ right)) ≡ true = lawful_without-beside kind session number fast granted lawful in
    elim (find test granted) as (λ o. find test granted ≡ o → is_lawful kind (fast ++ (left ++ (option_to_list (option_map (in_mode mode) o) ++ right))) ≡ true) [
      | Some ticket ↦ λ found.
          let stands : is_compatible kind (fast ++ (left ++ right)) ticket.session mode ≡ true =
          subst (λ s. is_compatible kind (fast ++ (left ++ right)) s mode ≡ true) (sym (session_of-found session number granted ticket found))
          (passed_without session number fast granted (stands_beside kind session mode) compatible) in
          lawful_part kind ((fast ++ (left ++ right)) ++ in_mode mode ticket ∷ []) (fast ++ (left ++ in_mode mode ticket ∷ right)) (passed_moved fast left right (in_mode mode ticket))
          (lawful_push kind (fast ++ (left ++ right)) (in_mode mode ticket) stands kept)
      | None ↦ λ _. kept
    ] refl

-- a grantable wish is compatible
pub compatible-from_grantable : (kind : Kind) (granted waiting : List Ticket) (ticket : Ticket) → is_grantable kind granted waiting ticket.session ticket.mode ≡ true
    → is_compatible kind granted ticket.session ticket.mode ≡ true
compatible-from_grantable kind granted waiting ticket = and_left _ _

-- a grantable ticket is granted, beside other tickets, as fast ones
pub lawful_admit-beside : (kind : Kind) (fast granted waiting : List Ticket) (ticket : Ticket) → is_grantable kind (fast ++ granted) waiting ticket.session ticket.mode ≡ true
    → is_lawful kind (fast ++ granted) ≡ true → is_lawful kind (fast ++ (granted ++ ticket ∷ [])) ≡ true
lawful_admit-beside kind fast granted waiting ticket grantable lawful =
    subst (λ tickets. is_lawful kind tickets ≡ true) (append_assoc fast granted (ticket ∷ []))
    (lawful_push kind (fast ++ granted) ticket (compatible-from_grantable kind (fast ++ granted) waiting ticket grantable) lawful)
