-- The space of a script has no more keys than places, so that a schema has no more tables.
use Rattle.std.proofs.Common.{◌≡◌, ℕ, suc, ◌-◌, ◌≤◌, List, [], ◌∷◌, length, Option, Some, None, refl, ap, ◌∙◌, arith}
use Rattle.std.specs.Prelude.{filter, nat_le}
use Rattle.std.specs.List.{range_with_len}
use Rattle.std.proofs.lemmas.Bool.Decides.{nat_tests}
use Rattle.std.proofs.lemmas.List.{length-append, length-map, length-set}
use Rattle.std.proofs.lemmas.List.FromFn.{length-range_with_len}
use Rattle.std.proofs.lemmas.List.Sums.{count_by-le-length, length-filter}
use Rattle.mdl_key.specs.Keys.{KeyName}
use Rattle.mdl_book.specs.declared.book_view.BookView.{BookView}
use Rattle.mdl_book.specs.Books.{empty_book}
use Rattle.mdl_calls.specs.Words.{Answer, Call, Resolve, Tables_of, Program, Give, Ask, Grow, outcome_of}
use Rattle.mdl_core.specs.CoreCalls.{outcome, placing, replacing}
use Rattle.mdl_core.specs.Cores.{Core, comes_before, has_defined_table, index_of, places_in_key_order, put_in_order, table_places, unused_place}
use Rattle.mdl_core.specs.Determined.{Places, places_of}
use Rattle.mdl_core.proofs.CallCases.{option_cases, test_cases}
use Rattle.mdl_core.proofs.PlacesKept.{places-kept}
use Rattle.mdl_script_laws.specs.Turns.{AreFewTables}
use Rattle.mdl_script_laws.proofs.OutcomeLemmas.{EachBy}
use Rattle.mdl_script_laws.proofs.RowPauses.{Told}

-- a space has a place for each of its keys, of at most 256
pub record HasFewPlaces (core : Core) : Type 0 where
  pub books : length core.books ≤ core.places
  pub most : core.places ≤ 256

few-same : (a b : Core) → places_of b ≡ places_of a → HasFewPlaces a → HasFewPlaces b
few-same a b same few =
    let there = length-map b.books (λ (book : BookView). book.key) in
    let here = length-map a.books (λ (book : BookView). book.key) in
    let keys = ap (λ (p : Places). length p.keys) same in
    let most = ap (λ (p : Places). p.most) same in
    let books = few.books in
    let least = few.most in
    record { books = omega (arith, there, here, keys, most, books); most = omega (arith, most, least) }

-- a key that is given the place of another one makes no more of them
few-replacing : (who : ℕ) (key : KeyName) (found : Option ℕ) (core : Core) → HasFewPlaces core → HasFewPlaces (replacing who key found core).1
few-replacing who key None core few = few
few-replacing who key (Some place) core few =
    let same = length-set core.books (place - 1) (empty_book key) in
    let least = few.books in
    record { books = omega (arith, same, least); most = few.most }

-- a key is given a new place only where one is left
few-placing : (who : ℕ) (key : KeyName) (core : Core) → HasFewPlaces core → HasFewPlaces (placing who key (index_of key core.books) core).1
few-placing who key core few =
    option_cases (λ found. HasFewPlaces (placing who key found core).1) (index_of key core.books)
    (λ none. test_cases (λ (r : Answer × Core). HasFewPlaces r.1) (nat_le core.places (length core.books)) _ _
    (λ full. few-replacing who key (unused_place core) core few) (λ room. record {
      books = (let longer = length-append core.books (empty_book key ∷ []) in let least = few.books in grind (arith, nat_tests));
      most = few.most;
    }))
    (λ index found. record { books = few.books; most = few.most })

-- no other call gives a key a place
pub few-call : (call : Call) (core : Core) → HasFewPlaces core → HasFewPlaces (outcome call core).1
few-call (Resolve who key) core few = few-placing who key core few
few-call call core few = few-same core (outcome call core).1 (places-kept core call refl) few

-- so it is after a program
pub few-outcome : {A : Type 0} (program : Program A) (core : Core) → HasFewPlaces core → HasFewPlaces (outcome_of outcome program core).1
few-outcome (Give x) core few = few
few-outcome (Ask call next) core few = few-outcome (next (outcome call core).0) (outcome call core).1 (few-call call core few)
few-outcome (Grow refused found) core few = few-outcome found core few

-- ---- the tables of a schema

length-put : (core : Core) (place : ℕ) (places : List ℕ) → length (put_in_order core place places) ≡ suc (length places)
length-put core place [] = refl
length-put core place (other ∷ others) =
    test_cases (λ l. length l ≡ suc (length (other ∷ others))) (comes_before core place other) (place ∷ other ∷ others) (other ∷ put_in_order core place others)
    (λ _. refl) (λ _. ap suc (length-put core place others))

length-order : (core : Core) (places : List ℕ) → length (places_in_key_order core places) ≡ length places
length-order core [] = refl
length-order core (place ∷ places) = length-put core place (places_in_key_order core places) ∙ ap suc (length-order core places)

few-tables : (schema : List ℕ) (core : Core) → HasFewPlaces core → AreFewTables (table_places schema core)
few-tables schema core few =
    let all = range_with_len 1 (length core.books) in
    let told = length-order core (filter (has_defined_table schema core) all) in
    let kept = length-filter (has_defined_table schema core) all in
    let fewer = count_by-le-length (has_defined_table schema core) all in
    let long = length-range_with_len 1 (length core.books) in
    let books = few.books in
    let most = few.most in
    omega (arith, told, kept, fewer, long, books, most)

few-told : (call : Call) (core : Core) → HasFewPlaces core → Told AreFewTables call (outcome call core).0
few-told (Tables_of who schema) core few = few-tables schema core few
few-told _ core few = tt

-- what all replies are where schemas have no more tables, that of the outcome is
pub by-outcome : {A : Type 0} (P : A → Type 0) (program : Program A) (core : Core) → HasFewPlaces core → EachBy (Told AreFewTables) P program
    → P (outcome_of outcome program core).0
by-outcome P (Give x) core few each = each
by-outcome P (Ask call next) core few each =
    by-outcome P (next (outcome call core).0) (outcome call core).1 (few-call call core few) (each (outcome call core).0 (few-told call core few))
by-outcome P (Grow refused found) core few each = by-outcome P found core few each.1
