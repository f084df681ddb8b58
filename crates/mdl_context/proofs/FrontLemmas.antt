-- What is left of tickets in rising number without those that pass a test behind the first so many.
use Rattle.std.proofs.Common.{◌≡◌, ℕ, zero, suc, Bool, true, false, List, [], ◌∷◌, ◌++◌, refl, sym, ap, ◌∙◌, subst, arith, take, drop}
use Rattle.std.specs.Prelude.{not, ◌||◌, ◌==◌, map, filter, if◌then◌else◌, IsTrue, nat_lt}
use Rattle.std.specs.List.{list_all}
use Rattle.std.proofs.lemmas.Bool.Decides.{nat_tests}
use Rattle.std.proofs.lemmas.List.{reverse-append}
use Rattle.mdl_key.specs.declared.mode.Duration.{Duration}
use Rattle.mdl_key.specs.declared.mode.Duration.TheVariants.{Statement, Transaction, Explicit}
use Rattle.mdl_context.specs.declared.kept.Kept.{Kept}
use Rattle.mdl_context.specs.declared.request.Mark.{Mark}
use Rattle.mdl_context.specs.Contexts.{lasts, duration_rank, tickets_for, beyond_mark, newest_first, has_number, without_tickets, held_of, AreRising}

-- all tickets have greater numbers
abbrev pub Above : ℕ → List Kept → Type 0
Above n tickets = IsTrue (list_all (λ other. nat_lt n other.id) (map held_of tickets))

pub above-filter : (n : ℕ) (p : Kept → Bool) (xs : List Kept) → Above n xs → Above n (filter p xs)
above-filter n p [] above = refl
above-filter n p (x ∷ xs) above = grind (arith, nat_tests, above-filter n p xs)

pub above-drop : (n m : ℕ) (xs : List Kept) → Above n xs → Above n (drop m xs)
above-drop n zero xs above = above
above-drop n (suc m) [] above = refl
above-drop n (suc m) (x ∷ xs) above = grind (arith, nat_tests, above-drop n m xs)

pub rising-filter : (p : Kept → Bool) (xs : List Kept) → AreRising xs → AreRising (filter p xs)
rising-filter p [] rising = refl
rising-filter p (x ∷ xs) rising = grind (arith, nat_tests, above-filter x.id p xs, rising-filter p xs)

-- tickets of greater numbers don't have this one
pub absent : (n : ℕ) (gone : List Kept) → Above n gone → has_number gone n ≡ false
absent n [] above = refl
absent n (x ∷ gone) above = grind (arith, nat_tests, absent n gone)

-- to take a ticket of a lower number too changes nothing
pub without-lower : (t : Kept) (gone xs : List Kept) → Above t.id xs → without_tickets (t ∷ gone) xs ≡ without_tickets gone xs
without-lower t gone [] above = refl
without-lower t gone (x ∷ xs) above = grind (arith, nat_tests, without-lower t gone xs)

-- without those that pass the test behind the first so many
abbrev pub front : (Kept → Bool) → ℕ → List Kept → List Kept
front q m [] = []
front q zero (t ∷ ts) = if q t then front q zero ts else t ∷ front q zero ts
front q (suc m) (t ∷ ts) = t ∷ (if q t then front q m ts else front q (suc m) ts)

pub left-beyond : (q : Kept → Bool) (m : ℕ) (kept : List Kept) → AreRising kept → without_tickets (drop m (filter q kept)) kept ≡ front q m kept
left-beyond q zero [] rising = refl
left-beyond q (suc m) [] rising = refl
left-beyond q zero (t ∷ ts) rising =
    grind (arith, nat_tests, left-beyond q zero ts, above-filter t.id q ts, absent t.id (filter q ts), without-lower t (filter q ts) ts)
left-beyond q (suc m) (t ∷ ts) rising =
    grind (
      arith,
      nat_tests,
      left-beyond q m ts,
      left-beyond q (suc m) ts,
      above-filter t.id q ts,
      above-drop t.id m (filter q ts),
      above-drop t.id (suc m) (filter q ts),
      absent t.id (drop m (filter q ts)),
      absent t.id (drop (suc m) (filter q ts)),
    )

pub front-same : (q : Kept → Bool) (m : ℕ) (kept : List Kept) → filter q (front q m kept) ≡ take m (filter q kept)
front-same q zero [] = refl
front-same q (suc m) [] = refl
front-same q zero (t ∷ ts) = grind (arith, front-same q zero ts)
front-same q (suc m) (t ∷ ts) = grind (arith, front-same q m ts, front-same q (suc m) ts)

pub front-other : (q r : Kept → Bool) → ((t : Kept) → r t ≡ true → q t ≡ false) → (m : ℕ) (kept : List Kept) → filter r (front q m kept) ≡ filter r kept
front-other q r apart zero [] = refl
front-other q r apart (suc m) [] = refl
front-other q r apart zero (t ∷ ts) = grind (arith, front-other q r apart zero ts, apart t)
front-other q r apart (suc m) (t ∷ ts) = grind (arith, front-other q r apart m ts, front-other q r apart (suc m) ts, apart t)

-- two lists go one after the other
has_number-append : (a b : List Kept) (n : ℕ) → has_number (a ++ b) n ≡ (has_number a n || has_number b n)
has_number-append [] b n = refl
has_number-append (y ∷ ys) b n = grind (arith, has_number-append ys b n)

pub without-append : (a b xs : List Kept) → without_tickets (a ++ b) xs ≡ without_tickets b (without_tickets a xs)
without-append a b [] = refl
without-append a b (x ∷ xs) = grind (arith, without-append a b xs, has_number-append a b x.id)

-- in whatever order tickets go, the same ones stay
or_comm : (a b : Bool) → (a || b) ≡ (b || a)
or_comm true true = refl
or_comm true false = refl
or_comm false true = refl
or_comm false false = refl

or_false : (b : Bool) → (b || false) ≡ b
or_false true = refl
or_false false = refl

pub has_number-newest : (gone : List Kept) (n : ℕ) → has_number (newest_first gone) n ≡ has_number gone n
has_number-newest [] n = refl
has_number-newest (x ∷ xs) n =
    ap (λ ys. has_number ys n) (reverse-append (x ∷ []) xs)
    ∙ has_number-append (newest_first xs) (x ∷ []) n
    ∙ ap (λ b. b || has_number (x ∷ []) n) (has_number-newest xs n)
    ∙ or_comm (has_number xs n) (has_number (x ∷ []) n)
    ∙ ap (λ b. b || has_number xs n) (or_false (x.id == n))

pub without-newest : (gone xs : List Kept) → without_tickets (newest_first gone) xs ≡ without_tickets gone xs
without-newest gone [] = refl
without-newest gone (x ∷ xs) = grind (arith, has_number-newest gone x.id, without-newest gone xs)

pub without-both : (a b xs : List Kept) → without_tickets (newest_first a ++ newest_first b) xs ≡ without_tickets b (without_tickets a xs)
without-both a b xs =
    without-append (newest_first a) (newest_first b) xs
    ∙ without-newest b (without_tickets (newest_first a) xs)
    ∙ ap (without_tickets b) (without-newest a xs)

-- durations are apart
pub apart : (d e : Duration) (different : (duration_rank d ≡ duration_rank e) → ⊥) (t : Kept) → lasts e t ≡ true → lasts d t ≡ false
apart d e different t same = grind (arith, nat_tests)

statement_apart : (e : Duration) (different : (duration_rank Statement ≡ duration_rank e) → ⊥) (m : ℕ) (kept : List Kept) → tickets_for e (front (lasts Statement) m kept) ≡ tickets_for e kept
statement_apart e different m kept = front-other (lasts Statement) (lasts e) (apart Statement e different) m kept

transaction_apart : (e : Duration) (different : (duration_rank Transaction ≡ duration_rank e) → ⊥) (m : ℕ) (kept : List Kept) → tickets_for e (front (lasts Transaction) m kept) ≡ tickets_for e kept
transaction_apart e different m kept = front-other (lasts Transaction) (lasts e) (apart Transaction e different) m kept

-- the tickets of the transaction are the same once those of the statement are gone
pub statement-gone : (m : ℕ) (kept : List Kept) → AreRising kept → tickets_for Transaction (without_tickets (drop m (tickets_for Statement kept)) kept) ≡ tickets_for Transaction kept
statement-gone m kept rising = ap (tickets_for Transaction) (left-beyond (lasts Statement) m kept rising) ∙ statement_apart Transaction (λ e. cc) m kept

-- what stays where the session goes back
pub left-since : (mark : Mark) (kept : List Kept) → AreRising kept
    → without_tickets (beyond_mark mark kept) kept ≡ front (lasts Transaction) mark.transaction (front (lasts Statement) mark.statement kept)
left-since mark kept rising =
    let m = mark.statement in
    let n = mark.transaction in
    let first = left-beyond (lasts Statement) m kept rising in
    let rising_then : AreRising (front (lasts Statement) m kept) = subst AreRising first (rising-filter (λ t. not (has_number (drop m (tickets_for Statement kept)) t.id)) kept rising) in
    without-both (drop m (tickets_for Statement kept)) (drop n (tickets_for Transaction kept)) kept
    ∙ ap (without_tickets (drop n (tickets_for Transaction kept))) first
    ∙ ap (λ gone. without_tickets (drop n gone) (front (lasts Statement) m kept)) (sym (statement_apart Transaction (λ e. cc) m kept))
    ∙ left-beyond (lasts Transaction) n (front (lasts Statement) m kept) rising_then

pub since-statement : (mark : Mark) (kept : List Kept) → AreRising kept → tickets_for Statement (without_tickets (beyond_mark mark kept) kept) ≡ take mark.statement (tickets_for Statement kept)
since-statement mark kept rising =
    ap (tickets_for Statement) (left-since mark kept rising)
    ∙ transaction_apart Statement (λ e. cc) mark.transaction (front (lasts Statement) mark.statement kept)
    ∙ front-same (lasts Statement) mark.statement kept

pub since-transaction : (mark : Mark) (kept : List Kept) → AreRising kept → tickets_for Transaction (without_tickets (beyond_mark mark kept) kept) ≡ take mark.transaction (tickets_for Transaction kept)
since-transaction mark kept rising =
    ap (tickets_for Transaction) (left-since mark kept rising)
    ∙ front-same (lasts Transaction) mark.transaction (front (lasts Statement) mark.statement kept)
    ∙ ap (take mark.transaction) (statement_apart Transaction (λ e. cc) mark.statement kept)

pub since-explicit : (mark : Mark) (kept : List Kept) → AreRising kept → tickets_for Explicit (without_tickets (beyond_mark mark kept) kept) ≡ tickets_for Explicit kept
since-explicit mark kept rising =
    ap (tickets_for Explicit) (left-since mark kept rising)
    ∙ transaction_apart Explicit (λ e. cc) mark.transaction (front (lasts Statement) mark.statement kept)
    ∙ statement_apart Explicit (λ e. cc) mark.statement kept

-- what stays where the tickets of a duration end
left_ended : (d : Duration) (kept : List Kept) → AreRising kept → without_tickets (newest_first (tickets_for d kept)) kept ≡ front (lasts d) 0 kept
left_ended d kept rising = without-newest (tickets_for d kept) kept ∙ left-beyond (lasts d) 0 kept rising

pub ending-same : (d : Duration) (kept : List Kept) → AreRising kept → tickets_for d (without_tickets (newest_first (tickets_for d kept)) kept) ≡ []
ending-same d kept rising = ap (tickets_for d) (left_ended d kept rising) ∙ front-same (lasts d) 0 kept

pub ending-other : (d e : Duration) (different : (duration_rank d ≡ duration_rank e) → ⊥) (kept : List Kept) → AreRising kept
    → tickets_for e (without_tickets (newest_first (tickets_for d kept)) kept) ≡ tickets_for e kept
ending-other d e different kept rising = ap (tickets_for e) (left_ended d kept rising) ∙ front-other (lasts d) (lasts e) (apart d e different) 0 kept

lasting : (d : Duration) (t : Kept) (ts us : List Kept) → us ≡ ts →
    (if duration_rank d == 0 then us else (if duration_rank d == 1 then us else t ∷ us)) ≡ (if duration_rank d == 2 then t ∷ ts else ts)
lasting Statement t ts us same = same
lasting Transaction t ts us same = same
lasting Explicit t ts us same = ap (λ xs. t ∷ xs) same

-- without those of a statement and of a transaction, just the explicit ones are left
pub only-explicit : (kept : List Kept) → front (lasts Transaction) 0 (front (lasts Statement) 0 kept) ≡ tickets_for Explicit kept
only-explicit [] = refl
only-explicit (t ∷ ts) = grind (arith, nat_tests, lasting t.duration t (tickets_for Explicit ts) (front (lasts Transaction) 0 (front (lasts Statement) 0 ts)) (only-explicit ts))
