-- The tables of a schema, sorted by their keys, of which each is another one.
use Rattle.std.proofs.Common.{◌≡◌, ℕ, zero, suc, ◌+◌, ◌-◌, Bool, true, false, List, [], ◌∷◌, get_or, Some, refl, sym, ap, ◌∙◌, arith, rules, All, Contains, slice_get}
use Rattle.std.proofs.lemmas.Map.Keys.{IsDistinct-IsPermutation, IsDistinct-cons, IsDistinct-from_apart, apart_from_distinct}
use Rattle.std.specs.Cmp.Rules.{comparing}
use Rattle.std.specs.declared.cmp.Ordering.{Ordering}
use Rattle.mdl_visits.proofs.Common.{All-append, All-cons, All-nil, All-permutation, AreAllTables, AreListed, Contains-append_left, Contains-append_right, Contains-permutation, Distinct, Each, Equal, Greater, IsDirectoryTable, IsDistinct, IsTotalOrder, KeyName, Keys, KnownKey, Less, StandThere, by_bool, is_eq, is_lt, is_table_of, key-Decides, key_cmp, key_eq, ordering_reverse, ranks_by, recursion_from_All, sorted_far, table_at, tables_from, tables_stand}
use Rattle.mdl_visits.proofs.KeyLists.{key_swap}

-- ---- keys

-- keys are in a total order, in which they are equal just where they are the same
pub key-total : IsTotalOrder key_cmp
key-total = search (comparing, rules) depth 9

pub key-ties : (j k : KeyName) → key_eq j k ≡ is_eq (key_cmp j k)
key-ties = search (comparing, rules) depth 9

other_key : (j k : KeyName) → ((j ≡ k) → ⊥) → key_eq j k ≡ false
other_key j k apart = by_bool (key_eq j k) (λ same. absurd (apart ((key-Decides j k).0 same))) (λ differ. differ)

-- of two that differ, that which isn't greater is less
less : (j k : KeyName) → key_eq j k ≡ false → is_lt (key_cmp k j) ≡ false → key_cmp j k ≡ Less
less j k apart after = by (key_cmp j k) refl
  where
    by : (how : Ordering) → key_cmp j k ≡ how → key_cmp j k ≡ Less
    by Less e = e
    by Equal e = let both : true ≡ false = sym (key-ties j k ∙ ap is_eq e) ∙ apart in absurd (cc)
    by Greater e = let both : true ≡ false = sym (ap is_lt (key-total.antisymm k j ∙ ap ordering_reverse e)) ∙ after in absurd (cc)

-- ---- the tables among some keys

abbrev one_table : ℕ → KeyName → KnownKey
one_table place key = record { key = key; place = place }

-- what holds of each key that is a table's holds of each table
module _ (schema : List ℕ) (P : KeyName → Type 0) where
  of_tables : (place : ℕ) (keys : List KeyName) → Each P keys → All (λ (t : KnownKey). P t.key) (tables_from schema place keys)
  of_tables place [] each = All-nil (λ (t : KnownKey). P t.key)
  of_tables place (key ∷ keys) each =
      All-append (λ (t : KnownKey). P t.key) (table_at schema place key) (tables_from schema (place + 1) keys)
      (by_bool (is_table_of schema key)
      (λ is. rw is (All-cons (λ (t : KnownKey). P t.key) (one_table place key) [] each.0 (All-nil (λ (t : KnownKey). P t.key))))
      (λ isnt. rw isnt (All-nil (λ (t : KnownKey). P t.key))))
      (of_tables (place + 1) keys each.1)

-- each is a table
tables_are : (schema : List ℕ) (place : ℕ) (keys : List KeyName) → All (λ (t : KnownKey). is_table_of schema t.key ≡ true) (tables_from schema place keys)
tables_are schema place [] = All-nil (λ (t : KnownKey). is_table_of schema t.key ≡ true)
tables_are schema place (key ∷ keys) =
    All-append (λ (t : KnownKey). is_table_of schema t.key ≡ true) (table_at schema place key) (tables_from schema (place + 1) keys)
    (by_bool (is_table_of schema key)
    (λ is. rw is (All-cons (λ (t : KnownKey). is_table_of schema t.key ≡ true) (one_table place key) [] is (All-nil (λ (t : KnownKey). is_table_of schema t.key ≡ true))))
    (λ isnt. rw isnt (All-nil (λ (t : KnownKey). is_table_of schema t.key ≡ true))))
    (tables_are schema (place + 1) keys)

-- each table is there
among : (schema : List ℕ) (place : ℕ) (keys : List KeyName) (t : KnownKey) (n : ℕ) → t.place ≡ place + n → slice_get keys n ≡ Some t.key → is_table_of schema t.key ≡ true
    → Contains (tables_from schema place keys) t
among schema place [] t n at there is = absurd (cc)
among schema place (key ∷ keys) t zero at there is =
    let same : key ≡ t.key = cc in
    let here : place ≡ t.place = omega (arith, at) in
    let table : is_table_of schema key ≡ true = ap (is_table_of schema) same ∙ is in
    let it : one_table place key ≡ t = (λ i. record { key = same i; place = here i }) in
    Contains-append_left (table_at schema place key) (tables_from schema (place + 1) keys) t (rw table (0, omega arith, it))
among schema place (key ∷ keys) t (suc n) at there is =
    Contains-append_right (table_at schema place key) (tables_from schema (place + 1) keys) t (among schema (place + 1) keys t n (omega (arith, at)) there is)

-- ---- they differ

abbrev same_key : KnownKey → KnownKey → Bool
same_key one other = key_eq one.key other.key

differ_from : (schema : List ℕ) (place : ℕ) (keys : List KeyName) → Distinct keys → IsDistinct same_key (tables_from schema place keys)
differ_from schema place [] distinct = IsDistinct-from_apart same_key [] (λ i j d before short. absurd (omega arith))
differ_from schema place (key ∷ keys) distinct =
    let rest = differ_from schema (place + 1) keys distinct.1 in
    by_bool (is_table_of schema key)
    (λ is. rw is (IsDistinct-cons same_key (one_table place key) (tables_from schema (place + 1) keys)
    (recursion_from_All (λ (t : KnownKey). key_eq key t.key ≡ false) (tables_from schema (place + 1) keys) (of_tables schema (λ other. key_eq key other ≡ false) (place + 1) keys (others keys distinct.0)))
    rest))
    (λ isnt. rw isnt rest)
  where
    others : (xs : List KeyName) → Each (λ other. (key ≡ other) → ⊥) xs → Each (λ other. key_eq key other ≡ false) xs
    others [] each = tt
    others (x ∷ xs) each = (other_key key x each.0, others xs each.1)

-- ---- so are the sorted ones

both : (schema : List ℕ) (k : Keys) (ts : List KnownKey) → StandThere k ts → All (λ (t : KnownKey). is_table_of schema t.key ≡ true) ts → All (IsDirectoryTable schema k) ts
both schema k ts stand are = λ i d short. ((stand i d short).0, (stand i d short).1, are i d short)

pub are_tables : (schema : List ℕ) (k : Keys) (tables : List KnownKey) → Distinct k.keys → AreListed schema k tables → AreAllTables schema k tables
are_tables schema k tables distinct listed = record {
  each = All-permutation (IsDirectoryTable schema k) (tables_from schema 1 k.keys) tables listed.all
      (both schema k (tables_from schema 1 k.keys) (tables_stand schema k) (tables_are schema 1 k.keys));
  every = λ t is. let first = is.0 in
      Contains-permutation (tables_from schema 1 k.keys) tables t listed.all (among schema 1 k.keys t (t.place - 1) (omega arith) is.1 is.2);
  in_order = λ i j d before short.
      less (get_or tables i d).key (get_or tables j d).key
      (apart_from_distinct same_key tables i j d
      (IsDistinct-IsPermutation same_key (λ one other. key_swap one.key other.key) (tables_from schema 1 k.keys) tables listed.all (differ_from schema 1 k.keys distinct)) before short)
      (sorted_far (λ (one other : KnownKey). is_lt (key_cmp one.key other.key)) (ranks_by key-total (λ (x : KnownKey). x.key)) tables listed.sorted i j d (omega (arith, before)) short);
}
