-- Places in the order of their keys, and the tables of a schema among them.
use Rattle.std.proofs.Common.{◌≡◌, ◌≢◌, ◌⊎◌, ℕ, ◌+◌, ◌-◌, ◌<◌, ◌≤◌, ◌&&◌, Bool, true, false, cond, inl, inr, List, [], ◌∷◌, length, get_or, Some, is_some, refl, sym, ap, subst, ◌∙◌, arith, rules}
use Rattle.std.specs.Prelude.{AllPairs, Contains, filter}
use Rattle.std.specs.Cmp.{IsTotalOrder}
use Rattle.std.specs.Cmp.Rules.{comparing}
use Rattle.std.specs.List.{range_with_len}
use Rattle.std.specs.Ordering.{is_eq, is_lt, ordering_reverse}
use Rattle.std.specs.declared.cmp.Ordering.{Ordering}
use Rattle.std.specs.declared.cmp.Ordering.TheVariants.{Less, Equal, Greater}
use Rattle.std.proofs.lemmas.List.Elements.{All-cons, All-contains, All-contains_itself, All-filter, All-nil, Contains-get_or, filter_passes}
use Rattle.std.proofs.lemmas.List.FromFn.{get_or-range_with_len, length-range_with_len}
use Rattle.std.proofs.lemmas.List.Kept.{AllPairs-cons, AllPairs-filter}
use Rattle.std.proofs.lemmas.Bool.{and_parts, false≢true}
use Rattle.mdl_key.specs.Keys.{KeyName, key_cmp, key_eq, table_key}
use Rattle.mdl_book.specs.declared.book_view.BookView.{BookView}
use Rattle.mdl_calls.proofs.TableLemmas.{of-table, table-of}
use Rattle.mdl_calls.specs.Reads.{AreTablesOf, HasTableOf, is_table_of}
use Rattle.mdl_calls.specs.Words.{Tables}
use Rattle.mdl_core.specs.CoreJoins.{Knows}
use Rattle.mdl_core.specs.Cores.{Core, comes_before, has_defined_table, has_key, key_at, places_in_key_order, put_in_order, standing_at, table_places}
use Rattle.mdl_core.specs.CoreSystems.{system_of}
use Rattle.mdl_core.specs.Determined.{HasDefinedTable, PlaceComesBefore, ToTellTables, places_of}
use Rattle.mdl_core.specs.Ties.{AllMayStand, IsTied}
use Rattle.mdl_core.proofs.CallCases.{test_cases}
use Rattle.mdl_core.proofs.CoreGranted.{book_of-at}
use Rattle.mdl_core.proofs.CoreReads.{of_within, within}
use Rattle.mdl_core.proofs.PairLemmas.{all-from_members, none-in, pairs-head, pairs-tail}
use Rattle.mdl_core.proofs.PlaceAnswers.{key_of-place, place-of_key}
use Rattle.mdl_core.proofs.RightAnswers.{IsAnswer}
use Rattle.mdl_core.proofs.TicketLists.{same-ordered}
use Rattle.mdl_system.proofs.Deciding.{key-Decides}
use Rattle.mdl_system.proofs.OrderLemmas.{Contains-cons_cases, Contains-here, Contains-later}

-- ---- keys in their order

key-total : IsTotalOrder key_cmp
key-total = search (comparing, rules) depth 9

key-ties : (j k : KeyName) → key_eq j k ≡ is_eq (key_cmp j k)
key-ties = search (comparing, rules) depth 9

-- of two keys no more than one comes before the other
never-both : (j k : KeyName) → key_cmp j k ≡ Less → key_cmp k j ≡ Less → ⊥
never-both j k less back = let e : Less ≡ ordering_reverse Less = sym less ∙ key-total.antisymm j k ∙ ap ordering_reverse back in cc

-- and of two that differ one does
after-other : (j k : KeyName) → j ≢ k → is_lt (key_cmp j k) ≡ false → key_cmp k j ≡ Less
after-other j k apart later = by (key_cmp j k) refl
  where
    by : (how : Ordering) → key_cmp j k ≡ how → key_cmp k j ≡ Less
    by Less e = let f : true ≡ false = ap is_lt (sym e) ∙ later in cc
    by Equal e = absurd (apart ((key-Decides j k).0 (key-ties j k ∙ ap is_eq e)))
    by Greater e = key-total.antisymm k j ∙ ap ordering_reverse e

is-less : (how : Ordering) → is_lt how ≡ true → how ≡ Less
is-less Less e = refl
is-less Equal e = cc
is-less Greater e = cc

-- ---- places in the order of their keys

module _ (core : Core) where
  -- the key of the one place comes before that of the other
  abbrev Before : ℕ → ℕ → Type 0
  Before one other = key_cmp (key_at one core) (key_at other core) ≡ Less

  put-among : (place : ℕ) (places : List ℕ) (x : ℕ) → Contains (put_in_order core place places) x → Contains places x ⊎ (x ≡ place)
  put-among place [] x = Contains-cons_cases place [] x
  put-among place (other ∷ others) x =
      test_cases (λ l. Contains l x → Contains (other ∷ others) x ⊎ (x ≡ place)) (comes_before core place other)
      (place ∷ other ∷ others) (other ∷ put_in_order core place others)
      (λ _. Contains-cons_cases place (other ∷ others) x)
      (λ _ among. elim (Contains-cons_cases other (put_in_order core place others) x among) [
        | inl later ↦ elim (put-among place others x later) [ inl old ↦ inl (Contains-later other others x old) | inr new ↦ inr new ]
        | inr here ↦ inl (subst (Contains (other ∷ others)) (sym here) (Contains-here other others))
      ])

  put-here : (place : ℕ) (places : List ℕ) → Contains (put_in_order core place places) place
  put-here place [] = Contains-here place []
  put-here place (other ∷ others) =
      test_cases (λ l. Contains l place) (comes_before core place other) (place ∷ other ∷ others) (other ∷ put_in_order core place others)
      (λ _. Contains-here place (other ∷ others)) (λ _. Contains-later other (put_in_order core place others) place (put-here place others))

  put-keeps : (place : ℕ) (places : List ℕ) (x : ℕ) → Contains places x → Contains (put_in_order core place places) x
  put-keeps place [] x among = absurd (none-in x among)
  put-keeps place (other ∷ others) x among =
      test_cases (λ l. Contains l x) (comes_before core place other) (place ∷ other ∷ others) (other ∷ put_in_order core place others)
      (λ _. Contains-later place (other ∷ others) x among)
      (λ _. elim (Contains-cons_cases other others x among) [
        | inl later ↦ Contains-later other (put_in_order core place others) x (put-keeps place others x later)
        | inr here ↦ subst (Contains (other ∷ put_in_order core place others)) (sym here) (Contains-here other (put_in_order core place others))
      ])

  put-sorted : (place : ℕ) (places : List ℕ) → ((other : ℕ) → Contains places other → key_at place core ≢ key_at other core)
      → AllPairs Before places → AllPairs Before (put_in_order core place places)
  put-sorted place [] apart pairs = AllPairs-cons Before place [] (All-nil (Before place)) pairs
  put-sorted place (other ∷ others) apart pairs =
      test_cases (AllPairs Before) (comes_before core place other) (place ∷ other ∷ others) (other ∷ put_in_order core place others)
      (λ here. (
      let first : Before place other = is-less _ here in
      AllPairs-cons Before place (other ∷ others)
      (All-cons (Before place) other others first
      (all-from_members Before (Before place) others (λ x among. key-total.trans (key_at place core) (key_at other core) (key_at x core) first (pairs-head Before other others pairs x among))))
      pairs))
      (λ there. AllPairs-cons Before other (put_in_order core place others)
      (all-from_members Before (Before other) (put_in_order core place others) (λ x among. elim (put-among place others x among) [
        | inl old ↦ pairs-head Before other others pairs x old
        | inr new ↦ subst (Before other) (sym new) (after-other (key_at place core) (key_at other core) (apart other (Contains-here other others)) there)
      ]))
      (put-sorted place others (λ x among. apart x (Contains-later other others x among)) (pairs-tail Before other others pairs)))

  order-among : (places : List ℕ) (x : ℕ) → Contains (places_in_key_order core places) x → Contains places x
  order-among [] x among = among
  order-among (place ∷ places) x among = elim (put-among place (places_in_key_order core places) x among) [
    | inl later ↦ Contains-later place places x (order-among places x later)
    | inr here ↦ subst (Contains (place ∷ places)) (sym here) (Contains-here place places)
  ]

  order-keeps : (places : List ℕ) (x : ℕ) → Contains places x → Contains (places_in_key_order core places) x
  order-keeps [] x among = among
  order-keeps (place ∷ places) x among = elim (Contains-cons_cases place places x among) [
    | inl later ↦ put-keeps place (places_in_key_order core places) x (order-keeps places x later)
    | inr here ↦ subst (Contains (put_in_order core place (places_in_key_order core places))) (sym here) (put-here place (places_in_key_order core places))
  ]

  abbrev Differ : ℕ → ℕ → Type 0
  Differ one other = key_at one core ≢ key_at other core

  order-sorted : (places : List ℕ) → AllPairs Differ places → AllPairs Before (places_in_key_order core places)
  order-sorted [] apart = λ i j d lt short. absurd (omega arith)
  order-sorted (place ∷ places) apart =
      put-sorted place (places_in_key_order core places)
      (λ x among. pairs-head Differ place places apart x (order-among places x among))
      (order-sorted places (pairs-tail Differ place places apart))

-- ---- places of tables

from-range : (a n x : ℕ) → Contains (range_with_len a n) x → (a ≤ x) × (x < a + n)
from-range a n x (k, lt, e) =
    let short : k < n = (let long = length-range_with_len a n in omega arith) in
    let at = get_or-range_with_len a n k x short in (omega (arith, e, at), omega (arith, e, at))

to-range : (a n x : ℕ) → a ≤ x → x < a + n → Contains (range_with_len a n) x
to-range a n x least most =
    let short : x - a < n = omega arith in
    let at : get_or (range_with_len a n) (x - a) x ≡ x = (let there = get_or-range_with_len a n (x - a) x short in omega (arith, there)) in
    (x - a, (let long = length-range_with_len a n in omega arith), at)

to-filter : (p : ℕ → Bool) (xs : List ℕ) (x : ℕ) → Contains xs x → p x ≡ true → Contains (filter p xs) x
to-filter p [] x among passes = absurd (none-in x among)
to-filter p (y ∷ ys) x among passes = by (λ later. to-filter p ys x later passes) (p y) refl
  where
    by : (Contains ys x → Contains (filter p ys) x) → (b : Bool) → p y ≡ b → Contains (cond b (y ∷ filter p ys) (filter p ys)) x
    by rest true e = elim (Contains-cons_cases y ys x among) [
      | inl later ↦ Contains-later y (filter p ys) x (rest later)
      | inr here ↦ subst (Contains (y ∷ filter p ys)) (sym here) (Contains-here y (filter p ys))
    ]
    by rest false e = elim (Contains-cons_cases y ys x among) [
      | inl later ↦ rest later
      | inr here ↦ absurd (let f : true ≡ false = sym passes ∙ ap p here ∙ e in cc)
    ]

module _ (core : Core) (schema : List ℕ) where
  -- the places that are told are those of the schema's tables that have a definition
  pub told-table : (place : ℕ) → Contains (table_places schema core) place → (has_key place core ≡ true) × (has_defined_table schema core place ≡ true)
  told-table place told =
      let among = order-among core (filter (has_defined_table schema core) (range_with_len 1 (length core.books))) place told in
      let fits = from-range 1 (length core.books) place
      (All-contains (Contains (range_with_len 1 (length core.books))) (filter (has_defined_table schema core) (range_with_len 1 (length core.books))) place
      (All-filter (has_defined_table schema core) (Contains (range_with_len 1 (length core.books))) (range_with_len 1 (length core.books)) (All-contains_itself (range_with_len 1 (length core.books)))) among) in (
        of_within place (length core.books) fits.0 (omega (arith, fits.1)),
        All-contains (λ x. has_defined_table schema core x ≡ true) (filter (has_defined_table schema core) (range_with_len 1 (length core.books))) place
            (filter_passes (has_defined_table schema core) (range_with_len 1 (length core.books))) among,
      )

  pub table-told : (place : ℕ) → has_key place core ≡ true → has_defined_table schema core place ≡ true → Contains (table_places schema core) place
  table-told place has defined =
      let fits = within place (length core.books) has in
      order-keeps core (filter (has_defined_table schema core) (range_with_len 1 (length core.books))) place
      (to-filter (has_defined_table schema core) (range_with_len 1 (length core.books)) place (to-range 1 (length core.books) place fits.0 (omega (arith, fits.1))) defined)

  module _ (tied : IsTied core) where
    differ : AllPairs (Differ core) (range_with_len 1 (length core.books))
    differ i j d lt within_all same =
        let long = length-range_with_len 1 (length core.books) in
        let one = get_or-range_with_len 1 (length core.books) i d (omega arith) in
        let other = get_or-range_with_len 1 (length core.books) j d (omega arith) in
        let there : get_or (range_with_len 1 (length core.books)) i d ≡ get_or (range_with_len 1 (length core.books)) j d =
        tied.keys (get_or (range_with_len 1 (length core.books)) i d) (get_or (range_with_len 1 (length core.books)) j d)
        (of_within _ (length core.books) (omega (arith, one)) (omega (arith, one))) (of_within _ (length core.books) (omega (arith, other)) (omega (arith, other))) same in
        omega (arith, one, other, there)

    sorted : AllPairs (Before core) (table_places schema core)
    sorted =
        order-sorted core (filter (has_defined_table schema core) (range_with_len 1 (length core.books)))
        (AllPairs-filter (Differ core) (has_defined_table schema core) (range_with_len 1 (length core.books)) differ)

    -- a place with a definition has a version
    versioned : AllMayStand core → (place : ℕ) → has_key place core ≡ true → has_defined_table schema core place ≡ true
        → (standing_at place core).version ≢ 0
    versioned stand place has defined none =
        false≢true (sym (ap is_some ((stand place has).unchanged none)) ∙ (and_parts (is_table_of schema (key_at place core)) _ defined).1)

    -- a session that is told them knows them
    pub are-tables : AllMayStand core → (who : ℕ) → AreTablesOf (Knows core who) schema (table_places schema core)
    are-tables stand who = (
      all-from_members (Before core) (HasTableOf (Knows core who) schema) (table_places schema core) (λ place told. (
          let its = told-table place told in
          ((key_at place core).table, (its.0, sym (table-of schema (key_at place core) (and_parts _ _ its.1).0), inr (versioned stand place its.0 its.1))))),
      λ i j d lt short key later one other. (λ t. key_cmp (sym one.1 t) (sym other.1 t)) ∙ sorted i j d lt short,
    )

    -- ---- what is told

    defined-there : (place : ℕ) → has_key place core ≡ true → is_some (standing_at place core).definition ≡ is_some ((system_of core).definitions (key_at place core)).definition
    defined-there place has = ap (λ (book : BookView). is_some book.standing.definition) (sym (book_of-at core place tied has))

    has-defined : (place : ℕ) → Contains (table_places schema core) place → HasDefinedTable (system_of core) (places_of core) schema place
    has-defined place told =
        let its = told-table place told in
        let key = table-of schema (key_at place core) (and_parts _ _ its.1).0 in (
          (key_at place core).table,
          key_of-place core place its.0 ∙ ap (λ k. Some k) (sym key),
          ap (λ k. is_some ((system_of core).definitions k).definition) key ∙ sym (defined-there place its.0) ∙ (and_parts (is_table_of schema (key_at place core)) _ its.1).1,
        )

    of-defined : (place : ℕ) → HasDefinedTable (system_of core) (places_of core) schema place → Contains (table_places schema core) place
    of-defined place (table, at, defined) =
        let its = place-of_key core place (table_key schema table) at in
        let is : is_table_of schema (key_at place core) ≡ true = ap (is_table_of schema) its.1 ∙ of-table schema table in
        let some : is_some (standing_at place core).definition ≡ true =
        defined-there place its.0 ∙ ap (λ k. is_some ((system_of core).definitions k).definition) its.1 ∙ defined in
        table-told place its.0 ((λ t. is t && is_some (standing_at place core).definition) ∙ some)

    before : AllPairs (PlaceComesBefore (places_of core)) (table_places schema core)
    before i j d lt short =
        let one = told-table _ (Contains-get_or (table_places schema core) i d (omega arith)) in
        let other = told-table _ (Contains-get_or (table_places schema core) j d short) in
        (_, _, key_of-place core _ one.0, key_of-place core _ other.0, sorted i j d lt short)

    pub tells-tables : IsAnswer (ToTellTables (system_of core) (places_of core) schema) (Tables (table_places schema core))
    tells-tables y = (there, λ is. (table_places schema core, is, before, λ place. (has-defined place, of-defined place)))
      where
        never : (one other : ℕ) → PlaceComesBefore (places_of core) one other → PlaceComesBefore (places_of core) other one → ⊥
        never one other (key, later, at, after, less) (other_later, other_key, again, also, back) =
            let same : key ≡ other_key = (let e : Some key ≡ Some other_key = sym at ∙ also in cc) in
            let same_later : later ≡ other_later = (let e : Some later ≡ Some other_later = sym after ∙ again in cc) in
            never-both key later less ((λ t. key_cmp (same_later t) (same t)) ∙ back)

        there : ToTellTables (system_of core) (places_of core) schema y → y ≡ Tables (table_places schema core)
        there (tables, is, pairs, members) =
            is ∙ ap (λ ts. Tables ts) (same-ordered (PlaceComesBefore (places_of core)) never tables (table_places schema core) pairs before
            (λ place. ((λ among. of-defined place ((members place).0 among)), λ among. (members place).1 (has-defined place among))))
