-- Locks that grow row by row, what is known of threads, and counts of rows that are left out.
use Rattle.std.proofs.Common.{◌≡◌, ◌∙◌, ℕ, ◌+◌, ◌<◌, ◌≤◌, true, false, not, ◌&&◌, Bool, cond, List, [], ◌∷◌, ◌++◌, length, get_or, take, map, filter, position, nat_eq, refl, sym, ap, append-nil, arith}
use Rattle.std.specs.List.{IsDistinct}
use Rattle.std.proofs.lemmas.List.{get_or-map, length-take-le, take_more, map-append}
use Rattle.std.proofs.lemmas.List.Elements.{filter-append}
use Rattle.std.proofs.lemmas.List.Sums.{count_by-le-length, count_by_more_no, count_by_more_yes}
use Rattle.std.specs.Prelude.{count_by}
use Rattle.mdl_view.specs.Locks.{LockView}
use Rattle.mdl_lock_rows.specs.declared.row.OtherRow.{OtherRow}
use Rattle.mdl_lock_rows.specs.declared.row.Row.{Row}
use Rattle.mdl_lock_rows.specs.declared.row.Status.{Status}
use Rattle.mdl_lock_rows.specs.declared.row_class.LeftOut.{LeftOut}
use Rattle.mdl_lock_rows.specs.Classes.{ClassName, same_class}
use Rattle.mdl_lock_rows.specs.Keys.{KeyNames, kind_of_type, same_key}
use Rattle.mdl_lock_rows.specs.Numbering.{counted_among, is_of_class, owners_among, waits_in_class, with_one}
use Rattle.mdl_lock_rows.specs.Owners.{OwnerView, bare, described_by, described_too, is_described}
use Rattle.mdl_lock_rows.specs.ServerNames.{is_granted, is_settled, is_waiting}
use Rattle.mdl_lock_rows.specs.Tables.{changed_at, is_at, lock_at, locks_among, ticket_of, tickets_at, with_ticket}
use Rattle.mdl_lock_rows.proofs.GrowLemmas.{changed, class-laws, key-laws, nat-laws}

module _ (threads changers : List ℕ) (rows : List Row) (i : ℕ) (row : Row) (inside : i < length rows) (this : row ≡ get_or rows i row) where
  -- the rows so far, and this one
  taken : take (i + 1) rows ≡ take i rows ++ row ∷ []
  taken = take_more rows i row inside ∙ ap (λ one. take i rows ++ one ∷ []) (sym this)

  tickets-more : (key : KeyNames) (test : Status → Bool)
      → tickets_at threads changers key test (take (i + 1) rows) ≡ tickets_at threads changers key test (take i rows) ++ tickets_at threads changers key test (row ∷ [])
  tickets-more key test =
      ap (λ list. map (ticket_of threads changers) (filter (is_at key test) list)) taken ∙ ap (map (ticket_of threads changers)) (filter-append (is_at key test) (take i rows) (row ∷ []))
      ∙ map-append (ticket_of threads changers) (filter (is_at key test) (take i rows)) (filter (is_at key test) (row ∷ []))

  -- a row of the key adds its ticket, and another one nothing
  tickets-here : (key : KeyNames) (test : Status → Bool) → same_key row.key key ≡ true
      → tickets_at threads changers key test (take (i + 1) rows)
      ≡ tickets_at threads changers key test (take i rows) ++ map (ticket_of threads changers) (filter (λ (row : Row). test row.status) (row ∷ []))
  tickets-here key test is =
      tickets-more key test ∙ ap (λ b. tickets_at threads changers key test (take i rows) ++ map (ticket_of threads changers) (cond (b && test row.status) (row ∷ []) [])) is

  tickets-there : (key : KeyNames) (test : Status → Bool) → same_key row.key key ≡ false
      → tickets_at threads changers key test (take (i + 1) rows) ≡ tickets_at threads changers key test (take i rows)
  tickets-there key test not =
      tickets-more key test ∙ ap (λ b. tickets_at threads changers key test (take i rows) ++ map (ticket_of threads changers) (cond (b && test row.status) (row ∷ []) [])) not
      ∙ append-nil (tickets_at threads changers key test (take i rows))

  lock-here : (key : KeyNames) → same_key row.key key ≡ true
      → lock_at threads changers (take (i + 1) rows) key ≡ with_ticket threads changers row (lock_at threads changers (take i rows) key)
  lock-here key is =
      λ j. record {
        kind = kind_of_type key.object_type;
        granted = tickets-here key is_granted is j;
        waiting = tickets-here key is_waiting is j;
        settled = tickets-here key is_settled is j;
      }

  lock-there : (key : KeyNames) → same_key row.key key ≡ false → lock_at threads changers (take (i + 1) rows) key ≡ lock_at threads changers (take i rows) key
  lock-there key not =
      λ j. record {
        kind = kind_of_type key.object_type;
        granted = tickets-there key is_granted not j;
        waiting = tickets-there key is_waiting not j;
        settled = tickets-there key is_settled not j;
      }

  -- the locks of keys that are all different
  pub locks-more : (keys : List KeyNames) (old new : List LockView) → IsDistinct same_key keys → old ≡ locks_among threads changers (take i rows) keys
      → new ≡ changed_at (position (same_key row.key) keys) (with_ticket threads changers row) old → new ≡ locks_among threads changers (take (i + 1) rows) keys
  locks-more keys old new apart so more =
      more ∙ ap (changed_at (position (same_key row.key) keys) (with_ticket threads changers row)) so
      ∙ changed same_key key-laws row.key (lock_at threads changers (take i rows)) (lock_at threads changers (take (i + 1) rows)) (with_ticket threads changers row) lock-here lock-there keys apart

-- ---- threads

described-there : (owners : List OwnerView) (owner : OwnerView) (thread : ℕ) → nat_eq owner.thread thread ≡ false → described_by (owners ++ owner ∷ []) thread ≡ described_by owners thread
described-there [] owner thread not = ap (λ b. cond (b && is_described owner) owner (bare thread)) not
described-there (one ∷ owners) owner thread not = ap (cond (nat_eq one.thread thread && is_described one) one) (described-there owners owner thread not)

under : (first more : Bool) (one owner : OwnerView) → is_described one ≡ true → described_too owner one ≡ one
under first more one owner is = by (is_described owner) (is_described one) is where
  by : (a b : Bool) → b ≡ true → cond (a && not b) owner one ≡ one
  by true true e = refl
  by false true e = refl
  by true false e = absurd (cc)
  by false false e = refl

described-here : (owners : List OwnerView) (owner : OwnerView) (thread : ℕ) → nat_eq owner.thread thread ≡ true
    → described_by (owners ++ owner ∷ []) thread ≡ described_too owner (described_by owners thread)
described-here [] owner thread is = ap (λ b. cond (b && is_described owner) owner (bare thread)) is ∙ by (is_described owner) where
  by : (b : Bool) → cond b owner (bare thread) ≡ cond (b && true) owner (bare thread)
  by true = refl
  by false = refl
described-here (one ∷ owners) owner thread is =
    ap (cond (nat_eq one.thread thread && is_described one) one) (described-here owners owner thread is) ∙ by (nat_eq one.thread thread) (is_described one) refl where
      by : (a b : Bool) → is_described one ≡ b
          → cond (a && b) one (described_too owner (described_by owners thread)) ≡ described_too owner (cond (a && b) one (described_by owners thread))
      by true true e = sym (under true true one owner e)
      by true false e = refl
      by false b e = refl

module _ (rows : List Row) (i : ℕ) (row : Row) (inside : i < length rows) (this : row ≡ get_or rows i row) where
  owners-taken : map (λ (row : Row). row.owner) (take (i + 1) rows) ≡ map (λ (row : Row). row.owner) (take i rows) ++ row.owner ∷ []
  owners-taken =
      ap (map (λ (row : Row). row.owner)) (take_more rows i row inside ∙ ap (λ one. take i rows ++ one ∷ []) (sym this))
      ∙ map-append (λ (row : Row). row.owner) (take i rows) (row ∷ [])

  -- what is known of threads that are all different
  pub owners-more : (threads : List ℕ) (old new : List OwnerView) → IsDistinct nat_eq threads → old ≡ owners_among (take i rows) threads
      → new ≡ changed_at (position (nat_eq row.owner.thread) threads) (described_too row.owner) old → new ≡ owners_among (take (i + 1) rows) threads
  owners-more threads old new apart so more =
      more ∙ ap (changed_at (position (nat_eq row.owner.thread) threads) (described_too row.owner)) so
      ∙ changed nat_eq nat-laws row.owner.thread (described_by (map (λ (row : Row). row.owner) (take i rows))) (described_by (map (λ (row : Row). row.owner) (take (i + 1) rows))) (described_too row.owner)
      (λ thread is. ap (λ owners. described_by owners thread) owners-taken ∙ described-here (map (λ (row : Row). row.owner) (take i rows)) row.owner thread is)
      (λ thread not. ap (λ owners. described_by owners thread) owners-taken ∙ described-there (map (λ (row : Row). row.owner) (take i rows)) row.owner thread not)
      threads apart

-- ---- rows that are left out

module _ (rows : List OtherRow) (i : ℕ) (row : OtherRow) (inside : i < length rows) (this : row ≡ get_or rows i row) where
  waits-more : (key : ClassName) → same_class key row.class ≡ true
      → count_by (waits_in_class key) (take (i + 1) rows) ≡ count_by (waits_in_class key) (take i rows) + cond row.is_waiting 1 0
  waits-more key is = by row.is_waiting refl where
    by : (b : Bool) → row.is_waiting ≡ b → count_by (waits_in_class key) (take (i + 1) rows) ≡ count_by (waits_in_class key) (take i rows) + cond b 1 0
    by true e =
        count_by_more_yes (waits_in_class key) rows i row inside (ap (waits_in_class key) (sym this) ∙ ap (λ b. b && row.is_waiting) is ∙ e)
    by false e =
        let no = count_by_more_no (waits_in_class key) rows i row inside (ap (waits_in_class key) (sym this) ∙ ap (λ b. b && row.is_waiting) is ∙ e) in
        omega (arith, no)

  count-here : (key : ClassName) → same_class row.class key ≡ true → counted_among (take (i + 1) rows) key ≡ with_one row.is_waiting (counted_among (take i rows) key)
  count-here key is =
      let passes : same_class key row.class ≡ true = class-laws.symm key row.class ∙ is in
      let count = count_by_more_yes (is_of_class key) rows i row inside (ap (is_of_class key) (sym this) ∙ passes) in
      λ j. record { class = key; count = count j; waiting = waits-more key passes j }

  count-there : (key : ClassName) → same_class row.class key ≡ false → counted_among (take (i + 1) rows) key ≡ counted_among (take i rows) key
  count-there key not =
      let fails : same_class key row.class ≡ false = class-laws.symm key row.class ∙ not in
      let count = count_by_more_no (is_of_class key) rows i row inside (ap (is_of_class key) (sym this) ∙ fails) in
      let waiting = count_by_more_no (waits_in_class key) rows i row inside (ap (waits_in_class key) (sym this) ∙ ap (λ b. b && row.is_waiting) fails) in
      λ j. record { class = key; count = count j; waiting = waiting j }

  -- the counts of classes that are all different
  pub counts-more : (keys : List ClassName) (old new : List LeftOut) → IsDistinct same_class keys → old ≡ map (counted_among (take i rows)) keys
      → new ≡ changed_at (position (same_class row.class) keys) (with_one row.is_waiting) old → new ≡ map (counted_among (take (i + 1) rows)) keys
  counts-more keys old new apart so more =
      more ∙ ap (changed_at (position (same_class row.class) keys) (with_one row.is_waiting)) so
      ∙ changed same_class class-laws row.class (counted_among (take i rows)) (counted_among (take (i + 1) rows)) (with_one row.is_waiting) count-here count-there keys apart

  -- as many as rows at most
  pub count-few : (keys : List ClassName) (list : List LeftOut) (place : ℕ) (d : LeftOut) → list ≡ map (counted_among (take i rows)) keys → place < length keys
      → ((get_or list place d).count ≤ i) × ((get_or list place d).waiting ≤ i)
  count-few keys list place d so within =
      let none : ClassName = record { object_type = []; lock_type = [] } in
      let key = get_or keys place none in
      let at : get_or list place d ≡ counted_among (take i rows) key =
      ap (λ (left_out : List LeftOut). get_or left_out place d) so ∙ get_or-map (counted_among (take i rows)) keys place none d within in
      let few = length-take-le i rows (omega arith) in (
        omega (arith, ap (λ (left_out : LeftOut). left_out.count) at, count_by-le-length (is_of_class key) (take i rows), few),
        omega (arith, ap (λ (left_out : LeftOut). left_out.waiting) at, count_by-le-length (waits_in_class key) (take i rows), few),
      )
