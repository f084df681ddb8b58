-- The counts of a word tell of its fast tickets just what a list of them would.
use Rattle.std.proofs.Common.{◌≡◌, ◌≢◌, ℕ, ◌+◌, ◌<◌, ◌≤◌, Bool, true, false, cond, not, ◌&&◌, ◌||◌, ◌==◌, List, [], ◌∷◌, ◌++◌, length, get_or, Some, None, refl, sym, ◌∙◌, ap, subst, append_assoc, arith, rules, zero, suc}
use Rattle.std.specs.Prelude.{slice_index, count_by}
use Rattle.std.specs.List.{list_any, find, All, Contains}
use Rattle.std.specs.Option.{option_map}
use Rattle.std.specs.FinSet as set
use Rattle.std.specs.Ordering.{nat_cmp}
use Rattle.std.proofs.lemmas.List.Elements.{All-nil, All-head, All-tail}
use Rattle.std.proofs.lemmas.Bool.{and_parts, and_from}
use Rattle.std.proofs.lemmas.Bool.Decides.{nat_tests}
use Rattle.std.proofs.lemmas.List.Folds.{list_all-append, list_all_at, Any-from_list_any}
use Rattle.std.proofs.lemmas.List.Sums.{sum_by-cons, get_or-le-sum_by, list_all-from_AllPass}
use Rattle.mdl_key.specs.declared.namespace.Kind.{Kind}
use Rattle.mdl_key.specs.declared.mode.Mode.{Mode}
use Rattle.mdl_key.specs.Words.{class_of, clashes}
use Rattle.mdl_word.specs.Words.{counts_of, count_with, blocks_by}
use Rattle.mdl_word.proofs.BlockLemmas.{blocks_by-from_clash, clash_from_blocks_by}
use Rattle.mdl_book.specs.declared.ticket.Ticket.{Ticket}
use Rattle.mdl_book.specs.declared.book_view.BookView.{BookView}
use Rattle.mdl_book.specs.Books.{lock_kind, AreOfNoWaiter, is_ready, is_ready_beside, next_grantable, next_grantable_beside}
use Rattle.mdl_book.specs.FastTickets.{is_of_class, CountsFastTickets, CoversFastTickets, AreOfOthers, may_stand, can_be_granted}
use Rattle.mdl_book.specs.Granting.{stands_beside, is_compatible, goes_first, is_grantable, is_lawful}
use Rattle.mdl_book.specs.Tickets.{with_index, with_mode}
use Rattle.mdl_book.proofs.GrantingLemmas.{lawful_push, lawful_changed-beside}
use Rattle.mdl_book.proofs.TicketLemmas.{find-passes, find-contains, first-same}

-- ---- classes

-- the modes of one class clash with the same requests
class_clashes : (kind : Kind) (ask a b : Mode) (class : ℕ) → class_of kind a ≡ Some class → class_of kind b ≡ Some class → clashes kind ask a ≡ clashes kind ask b
class_clashes kind ask a b class a_is b_is = search rules

-- there are three
class-lt : (kind : Kind) (mode : Mode) (class : ℕ) → class_of kind mode ≡ Some class → class < 3
class-lt kind mode class is = search rules

of_class : (kind : Kind) (ticket : Ticket) (class : ℕ) → class_of kind ticket.mode ≡ Some class → is_of_class kind class ticket ≡ true
of_class kind ticket class is = rw is (grind (arith, nat_tests))

class_of-is : (kind : Kind) (ticket : Ticket) (class : ℕ) → is_of_class kind class ticket ≡ true → class_of kind ticket.mode ≡ Some class
class_of-is kind ticket class is = grind (arith, nat_tests)

or_true : (b : Bool) → (b || true) ≡ true
or_true true = refl
or_true false = refl

and_swap : (a b : Bool) → (a && b) ≡ (b && a)
and_swap true true = refl
and_swap true false = refl
and_swap false true = refl
and_swap false false = refl

-- a ticket of another session doesn't count as one's own
other_alone : (ticket : Ticket) (session : ℕ) → ticket.session ≢ session → (ticket.session == session || not true) ≡ false
other_alone ticket session other = grind (arith, nat_tests)

-- ---- counts

-- where some are counted, one passes
any-from_count : {X : Type 0} (p : X → Bool) (xs : List X) → 0 < count_by p xs → list_any p xs ≡ true
any-from_count p [] some = absurd (omega arith)
any-from_count p (x ∷ xs) some =
    let counted = sum_by-cons (λ y. cond (p y) 1 0) x xs in
    elim (p x) as (λ b. count_by p (x ∷ xs) ≡ cond b 1 0 + count_by p xs → (b || list_any p xs) ≡ true) [
      | true ↦ λ _. refl
      | false ↦ λ e. any-from_count p xs (omega arith)
    ] counted

-- one that passes is counted
count-positive : {X : Type 0} (p : X → Bool) (xs : List X) (i : ℕ) (d : X) → i < length xs → p (get_or xs i d) ≡ true → 0 < count_by p xs
count-positive p xs i d inside passes =
    let one : cond {A = ℕ} (p (get_or xs i d)) 1 0 ≡ 1 = ap (λ b. cond b 1 0) passes in
    let least : cond {A = ℕ} (p (get_or xs i d)) 1 0 ≤ count_by p xs = get_or-le-sum_by (λ x. cond (p x) 1 0) xs i d inside in omega arith

-- two tests that agree on each element find the same
find-same : {X : Type 0} (p q : X → Bool) (xs : List X) → All (λ x. p x ≡ q x) xs → find p xs ≡ find q xs
find-same p q [] same = refl
find-same p q (x ∷ xs) same = rw (All-head (λ y. p y ≡ q y) x xs same, find-same p q xs (All-tail (λ y. p y ≡ q y) x xs same))

not-true : (b : Bool) → not b ≡ true → b ≡ false
not-true true e = cc
not-true false e = refl

-- ---- what fast tickets clash with

module _ {kind : Kind} {word : ℕ} {fast : List Ticket} (covers : CoversFastTickets kind word fast) where
  -- a fast ticket that clashes with a request blocks it
  clash_blocks : (ask : Mode) (i : ℕ) (d : Ticket) → i < length fast → clashes kind ask (get_or fast i d).mode ≡ true → blocks_by (counts_of word) kind ask ≡ true
  clash_blocks ask i d inside clash =
      let ticket : Ticket = get_or fast i d in
      elim (class_of kind ticket.mode) as (λ o. class_of kind ticket.mode ≡ o → blocks_by (counts_of word) kind ask ≡ true) [
        | Some class ↦ λ is.
            let some : 0 < count_by (is_of_class kind class) fast = count-positive (is_of_class kind class) fast i d inside (of_class kind ticket class is) in
            let counted : 0 < slice_index (counts_of word) class = omega (arith, covers.covered class (class-lt kind ticket.mode class is)) in
            let counted_with : 0 < count_with (counts_of word) kind ticket.mode = rw is counted in
            blocks_by-from_clash (counts_of word) kind ask ticket.mode counted_with clash
        | None ↦ λ is. let unobtrusive = covers.unobtrusive i d inside in absurd (cc)
      ] refl

  -- a request that isn't blocked stands beside them, whosever they are
  free-covered : (session : ℕ) (mode : Mode) → blocks_by (counts_of word) kind mode ≡ false → is_compatible kind fast session mode ≡ true
  free-covered session mode free =
      list_all-from_AllPass (stands_beside kind session mode) fast (λ i d inside.
      let ticket : Ticket = get_or fast i d in
      elim (clashes kind mode ticket.mode) as (λ b. clashes kind mode ticket.mode ≡ b → (ticket.session == session || not b) ≡ true) [
        | true ↦ λ clash. let blocks = clash_blocks mode i d inside clash in absurd (cc)
        | false ↦ λ _. or_true _
      ] refl)

  pub may_stand-covered : (granted : List Ticket) (session : ℕ) (mode : Mode) → may_stand kind granted word session mode ≡ true → is_compatible kind (fast ++ granted) session mode ≡ true
  may_stand-covered granted session mode stands =
      let parts = and_parts (is_compatible kind granted session mode) (not (blocks_by (counts_of word) kind mode)) stands in
      list_all-append (stands_beside kind session mode) fast granted ∙ and_from _ _ (free-covered session mode (not-true _ parts.1)) parts.0

  pub can_be_granted-covered : (granted waiting : List Ticket) (session : ℕ) (mode : Mode) → can_be_granted kind granted waiting word session mode ≡ true
      → is_grantable kind (fast ++ granted) waiting session mode ≡ true
  can_be_granted-covered granted waiting session mode grantable =
      let parts = and_parts (may_stand kind granted word session mode) (goes_first kind waiting session mode) grantable in
      and_from _ _ (may_stand-covered granted session mode parts.0) parts.1

  -- ---- what stays lawful beside fast tickets

  pub lawful_push-covered : (granted : List Ticket) (ticket : Ticket) → may_stand kind granted word ticket.session ticket.mode ≡ true
      → is_lawful kind (fast ++ granted) ≡ true → is_lawful kind (fast ++ (granted ++ ticket ∷ [])) ≡ true
  lawful_push-covered granted ticket stands lawful =
      subst (λ tickets. is_lawful kind tickets ≡ true) (append_assoc fast granted (ticket ∷ []))
      (lawful_push kind (fast ++ granted) ticket (may_stand-covered granted ticket.session ticket.mode stands) lawful)

  pub lawful_changed-covered : (granted : List Ticket) (session number : ℕ) (mode : Mode) → may_stand kind granted word session mode ≡ true
      → is_lawful kind (fast ++ granted) ≡ true → is_lawful kind (fast ++ with_mode session number mode granted) ≡ true
  lawful_changed-covered granted session number mode stands lawful =
      lawful_changed-beside kind session number mode fast granted (may_stand-covered granted session mode stands) lawful

  -- whoever is next waits, is unsettled and grantable
  pub next_grantable-covered : (unsettled : set.FinSet nat_cmp) (lists : BookView) (ticket : Ticket) → lock_kind lists ≡ kind → next_grantable word unsettled lists ≡ Some ticket
      → Contains lists.waiting ticket × (set.contains unsettled ticket.session ≡ true) × (is_grantable kind (fast ++ lists.granted) lists.waiting ticket.session ticket.mode ≡ true)
  next_grantable-covered unsettled lists ticket same next =
      let ready = find-passes (is_ready word unsettled lists) lists.waiting ticket next in
      let parts = and_parts (set.contains unsettled ticket.session) (can_be_granted (lock_kind lists) lists.granted lists.waiting word ticket.session ticket.mode) ready in
      (find-contains (is_ready word unsettled lists) lists.waiting ticket next, parts.0, can_be_granted-covered lists.granted lists.waiting ticket.session ticket.mode (rw same at parts.1))

-- the word that counts just these counts at least these
pub covers_of : {kind : Kind} {word : ℕ} {fast : List Ticket} → CountsFastTickets kind word fast → CoversFastTickets kind word fast
covers_of counts = record { unobtrusive = counts.unobtrusive; covered = λ class lt. omega (arith, counts.counted class lt) }

module _ {kind : Kind} {word : ℕ} {fast : List Ticket} (counts : CountsFastTickets kind word fast) where
  -- a request that is blocked clashes with a fast ticket
  blocks_clash : (ask : Mode) → blocks_by (counts_of word) kind ask ≡ true → (i : ℕ) × (ticket : Ticket) × (i < length fast) × (get_or fast i ticket ≡ ticket) × (clashes kind ask ticket.mode ≡ true)
  blocks_clash ask blocks =
      let found = clash_from_blocks_by (counts_of word) kind ask blocks in
      let held : Mode = found.0 in
      elim (class_of kind held) as (λ o. class_of kind held ≡ o → (i : ℕ) × (ticket : Ticket) × (i < length fast) × (get_or fast i ticket ≡ ticket) × (clashes kind ask ticket.mode ≡ true)) [
        | Some class ↦ λ is.
            let counted : 0 < slice_index (counts_of word) class = rw is at found.1 in
            let some : 0 < count_by (is_of_class kind class) fast = subst (λ n. 0 < n) (sym (counts.counted class (class-lt kind held class is))) counted in
            let at = Any-from_list_any (is_of_class kind class) fast (any-from_count (is_of_class kind class) fast some) in
            (at.0, at.1, at.2, at.3, class_clashes kind ask at.1.mode held class (class_of-is kind at.1 class at.4) is ∙ found.2)
        | None ↦ λ is. let none : 0 < 0 = rw is at found.1 in absurd (omega arith)
      ] refl

  -- as far as fast tickets of other sessions go, a request stands beside them exactly where the counts don't block it
  blocked-fast : (session : ℕ) (mode : Mode) → AreOfOthers session fast → not (blocks_by (counts_of word) kind mode) ≡ is_compatible kind fast session mode
  blocked-fast session mode others =
      elim (blocks_by (counts_of word) kind mode) as (λ b. blocks_by (counts_of word) kind mode ≡ b → not b ≡ is_compatible kind fast session mode) [
        | true ↦ λ blocks.
            let at = blocks_clash mode blocks in
            let ticket : Ticket = at.1 in
            let other = others at.0 ticket at.2 in
            let clash : clashes kind mode ticket.mode ≡ true = at.4 in
            let stands_not : stands_beside kind session mode (get_or fast at.0 ticket) ≡ false = rw (at.3, clash) (other_alone ticket session (subst (λ t. (t.session ≡ session) → ⊥) at.3 other)) in
            sym (list_all_at (stands_beside kind session mode) fast at.0 ticket at.2 stands_not)
        | false ↦ λ free. sym (free-covered (covers_of counts) session mode free)
      ] refl

  pub may_stand-fast : (granted : List Ticket) (session : ℕ) (mode : Mode) → AreOfOthers session fast → may_stand kind granted word session mode ≡ is_compatible kind (fast ++ granted) session mode
  may_stand-fast granted session mode others =
      ap (λ b. is_compatible kind granted session mode && b) (blocked-fast session mode others)
      ∙ and_swap (is_compatible kind granted session mode) (is_compatible kind fast session mode)
      ∙ sym (list_all-append (stands_beside kind session mode) fast granted)

  pub can_be_granted-fast : (granted waiting : List Ticket) (session : ℕ) (mode : Mode) → AreOfOthers session fast
      → can_be_granted kind granted waiting word session mode ≡ is_grantable kind (fast ++ granted) waiting session mode
  can_be_granted-fast granted waiting session mode others = ap (λ b. b && goes_first kind waiting session mode) (may_stand-fast granted session mode others)

  -- each waiter is ready or not
  ready-fast : (unsettled : set.FinSet nat_cmp) (lists : BookView) → lock_kind lists ≡ kind → AreOfNoWaiter lists fast
      → All (λ ticket. is_ready word unsettled lists ticket ≡ is_ready_beside fast unsettled lists ticket) lists.waiting
  ready-fast unsettled lists same others = λ i d inside.
      let ticket : Ticket = get_or lists.waiting i d in
      ap (λ b. set.contains unsettled ticket.session && b) (rw same (can_be_granted-fast lists.granted lists.waiting ticket.session ticket.mode (others i d inside)))

  -- the next waiter to grant is the same
  pub next_grantable-fast : (unsettled : set.FinSet nat_cmp) (lists : BookView) → lock_kind lists ≡ kind → AreOfNoWaiter lists fast → next_grantable word unsettled lists ≡ next_grantable_beside fast unsettled lists
  next_grantable-fast unsettled lists same others =
      find-same (is_ready word unsettled lists) (is_ready_beside fast unsettled lists) lists.waiting (ready-fast unsettled lists same others)

  -- so is its index
  pub next_grantable_at-fast : (unsettled : set.FinSet nat_cmp) (lists : BookView) → lock_kind lists ≡ kind → AreOfNoWaiter lists fast
      → option_map (with_index (is_ready word unsettled lists) lists.waiting) (next_grantable word unsettled lists)
      ≡ option_map (with_index (is_ready_beside fast unsettled lists) lists.waiting) (next_grantable_beside fast unsettled lists)
  next_grantable_at-fast unsettled lists same others =
      ap (λ (n : ℕ). option_map (λ (ticket : Ticket). (n, ticket)) (next_grantable word unsettled lists))
      (first-same (is_ready word unsettled lists) (is_ready_beside fast unsettled lists) lists.waiting (ready-fast unsettled lists same others))
      ∙ ap (option_map (with_index (is_ready_beside fast unsettled lists) lists.waiting)) (next_grantable-fast unsettled lists same others)

-- ---- a lock without fast tickets, whose word is 0

none_in : (class : ℕ) → 0 ≡ slice_index (counts_of 0) class
none_in zero = refl
none_in (suc zero) = refl
none_in (suc (suc zero)) = refl
none_in (suc (suc (suc class))) = refl

counts_none : (kind : Kind) → CountsFastTickets kind 0 []
counts_none kind = record { unobtrusive = All-nil _; counted = λ class _. none_in class }

pub may_stand-none : (kind : Kind) (granted : List Ticket) (session : ℕ) (mode : Mode) → may_stand kind granted 0 session mode ≡ is_compatible kind granted session mode
may_stand-none kind granted session mode = may_stand-fast (counts_none kind) granted session mode (All-nil _)

pub can_be_granted-none : (kind : Kind) (granted waiting : List Ticket) (session : ℕ) (mode : Mode) → can_be_granted kind granted waiting 0 session mode ≡ is_grantable kind granted waiting session mode
can_be_granted-none kind granted waiting session mode = can_be_granted-fast (counts_none kind) granted waiting session mode (All-nil _)

pub next_grantable-none : (unsettled : set.FinSet nat_cmp) (lists : BookView) → next_grantable 0 unsettled lists ≡ next_grantable_beside [] unsettled lists
next_grantable-none unsettled lists = next_grantable-fast (counts_none (lock_kind lists)) unsettled lists refl (λ _ _ _. All-nil _)
