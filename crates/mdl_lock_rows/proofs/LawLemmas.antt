-- Each row is in the lock of its key, or counted.
use Rattle.std.proofs.Common.{◌≡◌, ◌∙◌, ℕ, ◌+◌, ◌==◌, Bool, true, false, not, ◌&&◌, ◌||◌, cond, List, [], ◌∷◌, ◌++◌, map, filter, nat_eq, nat_lt, ◌⊎◌, inl, inr, refl, sym, ap, arith}
use Rattle.std.specs.Prelude.{count_by}
use Rattle.std.specs.List.{list_all, list_any}
use Rattle.std.proofs.lemmas.Bool.{and_from, and_parts, eqb-true}
use Rattle.std.proofs.lemmas.Bool.Decides.{nat_tests}
use Rattle.std.proofs.lemmas.List.Folds.{list_any-append}
use Rattle.std.proofs.lemmas.List.Recursion.{is_count_by}
use Rattle.mdl_view.specs.declared.ticket.Ticket.{Ticket}
use Rattle.mdl_lock_rows.specs.declared.row.OtherRow.{OtherRow}
use Rattle.mdl_lock_rows.specs.declared.row.Row.{Row}
use Rattle.mdl_lock_rows.specs.declared.row.Status.{Status}
use Rattle.mdl_lock_rows.specs.Classes.{ClassName, same_class}
use Rattle.mdl_lock_rows.specs.Keys.{KeyNames, same_key}
use Rattle.mdl_lock_rows.specs.Numbering.{counted_among, is_of_class, keys_of, left_out_of, owners_of, thread_of_row, threads_of, waits_in_class}
use Rattle.mdl_lock_rows.specs.Owners.{OwnerView, described_by, is_described}
use Rattle.mdl_lock_rows.specs.RowLaws.{has_ticket_of, is_counted, is_current, is_listed, is_listed_at}
use Rattle.mdl_lock_rows.specs.ServerNames.{is_granted, is_settled, is_waiting}
use Rattle.mdl_lock_rows.specs.Tables.{changers_of, lock_at, ticket_of, tickets_at}
use Rattle.mdl_lock_rows.proofs.GrowLemmas.{class-laws}
use Rattle.mdl_lock_rows.proofs.NumberingLemmas.{all-there, class-itself, key-itself, nat-itself}

-- ---- lists

-- an element is in a list
abbrev IsIn : {A : Type 0} → A → List A → Type 0
IsIn x [] = ⊥
IsIn x (y ∷ ys) = (x ≡ y) ⊎ IsIn x ys

all-in : {A : Type 0} (p : A → Bool) (xs : List A) → ((x : A) → IsIn x xs → p x ≡ true) → list_all p xs ≡ true
all-in p [] each = refl
all-in p (x ∷ xs) each = and_from (p x) (list_all p xs) (each x (inl refl)) (all-in p xs (λ y is. each y (inr is)))

one-of : {A : Type 0} (p : A → Bool) (x : A) (xs : List A) → list_all p xs ≡ true → IsIn x xs → p x ≡ true
one-of p x [] all is = absurd is
one-of p x (y ∷ ys) all (inl e) = ap p e ∙ (and_parts (p y) (list_all p ys) all).0
one-of p x (y ∷ ys) all (inr is) = one-of p x ys (and_parts (p y) (list_all p ys) all).1 is

or-true : (a b : Bool) → b ≡ true → (a || b) ≡ true
or-true true b e = refl
or-true false b e = e

or-left : (a b : Bool) → a ≡ true → (a || b) ≡ true
or-left true b e = refl
or-left false b e = absurd (cc)

-- where an element passes one test, another passes of which the same is so
any-weaker : {A B : Type 0} (p : A → Bool) (q : B → Bool) (f : A → B) (xs : List A) → ((x : A) → p x ≡ true → q (f x) ≡ true) → list_any p xs ≡ true → list_any q (map f xs) ≡ true
any-weaker p q f [] each is = absurd (cc)
any-weaker p q f (x ∷ xs) each is = by (p x) refl (any-weaker p q f xs each) where
  by : (b : Bool) → p x ≡ b → (list_any p xs ≡ true → list_any q (map f xs) ≡ true) → (q (f x) || list_any q (map f xs)) ≡ true
  by true e rest = or-left (q (f x)) (list_any q (map f xs)) (each x e)
  by false e rest = or-true (q (f x)) (list_any q (map f xs)) (rest (ap (λ b. b || list_any p xs) (sym e) ∙ is))

abbrev amount : {A : Type 0} → (A → Bool) → List A → ℕ
amount p [] = 0
amount p (x ∷ xs) = cond (p x) (1 + amount p xs) (amount p xs)

some-more : (n : ℕ) → nat_lt 0 (1 + n) ≡ true
some-more n = grind (arith, nat_tests)

amount-some : {A : Type 0} (p : A → Bool) (x : A) (xs : List A) → IsIn x xs → p x ≡ true → nat_lt 0 (amount p xs) ≡ true
amount-some p x [] is e = absurd is
amount-some p x (y ∷ ys) (inl same) e =
    ap (λ b. nat_lt 0 (cond b (1 + amount p ys) (amount p ys))) (ap p (sym same) ∙ e) ∙ some-more (amount p ys)
amount-some p x (y ∷ ys) (inr is) e = by (p y) (amount p ys) (amount-some p x ys is e) where
  by : (b : Bool) (n : ℕ) → nat_lt 0 n ≡ true → nat_lt 0 (cond b (1 + n) n) ≡ true
  by true n some = some-more n
  by false n some = some

count-some : {A : Type 0} (p : A → Bool) (x : A) (xs : List A) → IsIn x xs → p x ≡ true → nat_lt 0 (count_by p xs) ≡ true
count-some p x xs is e = ap (nat_lt 0) (sym (is_count_by (amount p) p refl (λ x xs. refl) xs)) ∙ amount-some p x xs is e

-- ---- owners

described-thread : (owners : List OwnerView) (thread : ℕ) → (described_by owners thread).thread ≡ thread
described-thread [] thread = refl
described-thread (owner ∷ owners) thread = by (owner.thread == thread) (is_described owner) refl (described-thread owners thread) where
  by : (a b : Bool) → (owner.thread == thread) ≡ a → (described_by owners thread).thread ≡ thread → (cond (a && b) owner (described_by owners thread)).thread ≡ thread
  by true true e rest = eqb-true owner.thread thread e
  by true false e rest = rest
  by false b e rest = rest

has-owner : (rows : List Row) (row : Row) → IsIn row rows → list_any (λ (owner : OwnerView). owner.thread == thread_of_row row) (owners_of rows) ≡ true
has-owner rows row is =
    let owners = map (λ (row : Row). row.owner) rows in
    let there = one-of (λ row. list_any (nat_eq (thread_of_row row)) (threads_of rows)) row rows (all-there nat_eq thread_of_row nat-itself [] rows) is in
    any-weaker (nat_eq (thread_of_row row)) (λ (owner : OwnerView). owner.thread == thread_of_row row) (described_by owners) (threads_of rows)
    (λ thread same. ap (λ t. t == thread_of_row row) (described-thread owners thread ∙ sym (eqb-true (thread_of_row row) thread same)) ∙ nat-itself (thread_of_row row)) there

-- ---- tickets

module _ (threads changers : List ℕ) (key : KeyNames) (test : Status → Bool) (row : Row) where
  abbrev has : Ticket → Bool
  has ticket = ticket.number == row.line

  more : (other : Row) (rest : List Row) (b : Bool) → list_any has (map (ticket_of threads changers) rest) ≡ true
      → list_any has (map (ticket_of threads changers) (cond b (other ∷ rest) rest)) ≡ true
  more other rest true so = or-true (other.line == row.line) (list_any has (map (ticket_of threads changers) rest)) so
  more other rest false so = so

  tickets-have : (rows : List Row) → IsIn row rows → (same_key row.key key && test row.status) ≡ true → list_any has (tickets_at threads changers key test rows) ≡ true
  tickets-have [] is e = absurd is
  tickets-have (other ∷ rows) (inl same) e =
      let passes : (same_key other.key key && test other.status) ≡ true = ap (λ (row : Row). same_key row.key key && test row.status) (sym same) ∙ e in
      let rest = filter (λ (row : Row). same_key row.key key && test row.status) rows in
      ap (λ b. list_any has (map (ticket_of threads changers) (cond b (other ∷ rest) rest))) passes
      ∙ or-left (other.line == row.line) (list_any has (map (ticket_of threads changers) rest)) (ap (λ (one : Row). one.line == row.line) (sym same) ∙ nat-itself row.line)
  tickets-have (other ∷ rows) (inr is) e = more other (filter (λ (row : Row). same_key row.key key && test row.status) rows) (same_key other.key key && test other.status) (tickets-have rows is e)

module _ (rows : List Row) (row : Row) (is : IsIn row rows) (key : KeyNames) (same : same_key row.key key ≡ true) where
  abbrev lists : (Status → Bool) → List Ticket
  lists test = tickets_at (threads_of rows) (changers_of rows) key test rows

  in-list : (test : Status → Bool) → test row.status ≡ true → list_any (λ ticket. ticket.number == row.line) (lists test) ≡ true
  in-list test e = tickets-have (threads_of rows) (changers_of rows) key test row rows is (and_from (same_key row.key key) (test row.status) same e)

  in-lock : is_current row ≡ true → has_ticket_of row (lock_at (threads_of rows) (changers_of rows) rows key) ≡ true
  in-lock current =
      let p = λ (ticket : Ticket). ticket.number == row.line in
      list_any-append p (lists is_granted) (lists is_waiting ++ lists is_settled)
      ∙ ap (λ b. list_any p (lists is_granted) || b) (list_any-append p (lists is_waiting) (lists is_settled))
      ∙ by (is_granted row.status) (is_waiting row.status) refl refl current where
        by : (a b : Bool) → is_granted row.status ≡ a → is_waiting row.status ≡ b → (a || (b || is_settled row.status)) ≡ true
            → (list_any (λ ticket. ticket.number == row.line) (lists is_granted)
            || (list_any (λ ticket. ticket.number == row.line) (lists is_waiting) || list_any (λ ticket. ticket.number == row.line) (lists is_settled))) ≡ true
        by true b e f g = or-left _ _ (in-list is_granted e)
        by false true e f g = or-true _ _ (or-left _ _ (in-list is_waiting f))
        by false false e f g = or-true _ _ (or-true _ _ (in-list is_settled g))

  at-key : is_current row ≡ true → is_listed_at rows row key ≡ true
  at-key current = and_from _ _ same (in-lock current)

listed : (rows : List Row) (row : Row) → IsIn row rows → is_listed rows row ≡ true
listed rows row is = and_from _ _ (has-owner rows row is) (by (is_current row) refl) where
  by : (b : Bool) → is_current row ≡ b → (not b || list_any (is_listed_at rows row) (keys_of rows)) ≡ true
  by false e = refl
  by true e =
      let there = one-of (λ row. list_any (same_key row.key) (keys_of rows)) row rows (all-there same_key (λ row. row.key) key-itself [] rows) is in
      ap (list_any (is_listed_at rows row)) (sym (map-itself (keys_of rows)))
      ∙ any-weaker (same_key row.key) (is_listed_at rows row) (λ key. key) (keys_of rows) (λ key same. at-key rows row is key same e) there where
        map-itself : (keys : List KeyNames) → map (λ key. key) keys ≡ keys
        map-itself [] = refl
        map-itself (key ∷ keys) = ap (λ rest. key ∷ rest) (map-itself keys)

pub all-listed : (rows : List Row) → list_all (is_listed rows) rows ≡ true
all-listed rows = all-in (is_listed rows) rows (λ row is. listed rows row is)

-- ---- rows that are left out

counted : (rows : List OtherRow) (row : OtherRow) → IsIn row rows → list_any (is_counted row) (left_out_of rows) ≡ true
counted rows row is =
    let there = one-of (λ row. list_any (same_class row.class) _) row rows (all-there same_class (λ row. row.class) class-itself [] rows) is in
    any-weaker (same_class row.class) (is_counted row) (counted_among rows) _
    (λ class same. and_from _ _ same (and_from _ _ (count-some (is_of_class class) row rows is (class-laws.symm class row.class ∙ same)) (by class same row.is_waiting refl))) there where
      by : (class : ClassName) → same_class row.class class ≡ true → (b : Bool) → row.is_waiting ≡ b → (not b || nat_lt 0 (count_by (waits_in_class class) rows)) ≡ true
      by class same false e = refl
      by class same true e = count-some (waits_in_class class) row rows is (and_from _ _ (class-laws.symm class row.class ∙ same) e)

pub all-counted : (rows : List OtherRow) → list_all (λ row. list_any (is_counted row) (left_out_of rows)) rows ≡ true
all-counted rows = all-in (λ row. list_any (is_counted row) (left_out_of rows)) rows (λ row is. counted rows row is)
