-- A session gives up all that it has: first what ends with the transaction, and then only explicit tickets are left.
use Rattle.std.proofs.Common.{◌≡◌, Bool, List, [], ◌∷◌, ◌++◌, refl, sym, ap, ◌∙◌, subst, arith}
use Rattle.std.specs.Prelude.{not, filter}
use Rattle.mdl_key.specs.declared.mode.Duration.TheVariants.{Explicit}
use Rattle.mdl_calls.specs.Words.{Answer, Call, Runs}
use Rattle.mdl_context.specs.declared.kept.Kept.{Kept}
use Rattle.mdl_context.specs.declared.request.Mark.{Mark}
use Rattle.mdl_context.specs.Contexts.{ContextView, AreRising, beyond, newest_first, tickets_for, lasts, of_transaction, without_tickets}
use Rattle.mdl_context.specs.Releases.{releasing_all}
use Rattle.mdl_context.proofs.FrontLemmas.{left-since, only-explicit, rising-filter, without-append, without-newest}
use Rattle.mdl_context.proofs.BeyondLemmas.{others-without, run-as, run-both}

-- ---- what stays

filter-twice : (q : Kept → Bool) (xs : List Kept) → filter q (filter q xs) ≡ filter q xs
filter-twice q [] = refl
filter-twice q (x ∷ xs) = grind (arith, filter-twice q xs)

filter-none : (q : Kept → Bool) (xs : List Kept) → filter (λ t. not (q t)) (filter q xs) ≡ []
filter-none q [] = refl
filter-none q (x ∷ xs) = grind (arith, filter-none q xs)

-- without what ends with the transaction only explicit tickets are left
pub left-explicit : (kept : List Kept) → AreRising kept → without_tickets (of_transaction kept) kept ≡ tickets_for Explicit kept
left-explicit kept rising =
    let start : Mark = record { statement = 0; transaction = 0 } in
    left-since start kept rising ∙ only-explicit kept

-- all of those are explicit
pub all-explicit : (kept left : List Kept) → left ≡ tickets_for Explicit kept → beyond Explicit 0 left ≡ left
all-explicit kept left is = ap (tickets_for Explicit) is ∙ filter-twice (lasts Explicit) kept ∙ sym is

-- and without them nothing is left
pub none-left : (kept left : List Kept) → AreRising kept → left ≡ tickets_for Explicit kept → without_tickets (beyond Explicit 0 left) left ≡ []
none-left kept left rising is =
    ap (λ (xs : List Kept). without_tickets (beyond Explicit 0 xs) xs) is
    ∙ sym (others-without (lasts Explicit) (tickets_for Explicit kept) (rising-filter (lasts Explicit) kept rising))
    ∙ filter-none (lasts Explicit) kept

-- what ends with the transaction went first, and then what was left
pub kept-all : (before mid left : ContextView) → AreRising before.kept → mid ≡ record before { kept = without_tickets (of_transaction before.kept) before.kept }
    → left ≡ record mid { kept = without_tickets (beyond Explicit 0 mid.kept) mid.kept }
    → left ≡ record before { kept = without_tickets (of_transaction before.kept ++ newest_first (tickets_for Explicit before.kept)) before.kept }
kept-all before mid left rising first second =
    let gone = of_transaction before.kept in
    let explicit = tickets_for Explicit before.kept in
    let stays = ap (λ (c : ContextView). c.kept) first ∙ left-explicit before.kept rising in
    let same : beyond Explicit 0 mid.kept ≡ explicit = all-explicit before.kept mid.kept stays ∙ stays in
    second
    ∙ ap (λ (c : ContextView). let context : ContextView = record c { kept = without_tickets (beyond Explicit 0 mid.kept) mid.kept } in context) first
    ∙ ap (λ (kept : List Kept). let context : ContextView = record before { kept = kept } in context)
    (ap (λ xs. without_tickets xs mid.kept) same ∙ sym (without-newest explicit mid.kept)
    ∙ ap (λ (xs : List Kept). without_tickets (newest_first explicit) xs) (ap (λ (c : ContextView). c.kept) first) ∙ sym (without-append gone (newest_first explicit) before.kept))

-- and nothing is kept then
pub nothing-kept : (before mid left : ContextView) → AreRising before.kept → mid ≡ record before { kept = without_tickets (of_transaction before.kept) before.kept }
    → left ≡ record mid { kept = without_tickets (beyond Explicit 0 mid.kept) mid.kept } → left.kept ≡ []
nothing-kept before mid left rising first second =
    let stays = ap (λ (c : ContextView). c.kept) first ∙ left-explicit before.kept rising in
    ap (λ (c : ContextView). c.kept) second ∙ none-left before.kept mid.kept rising stays

-- ---- runs

module _ {S : Type 0} (joins : S → Call → Answer → S → Type 0) where
  -- both are released
  pub run-all : (before mid : ContextView) (a between b : S) → AreRising before.kept → mid ≡ record before { kept = without_tickets (of_transaction before.kept) before.kept }
      → Runs joins a (releasing_all before.who (of_transaction before.kept)) tt between
      → Runs joins between (releasing_all mid.who (newest_first (beyond Explicit 0 mid.kept))) tt b
      → Runs joins a (releasing_all before.who (of_transaction before.kept ++ newest_first (tickets_for Explicit before.kept))) tt b
  run-all before mid a between b rising left first second =
      let stays = ap (λ (c : ContextView). c.kept) left ∙ left-explicit before.kept rising in
      let same : beyond Explicit 0 mid.kept ≡ tickets_for Explicit before.kept = all-explicit before.kept mid.kept stays ∙ stays in
      run-both joins before.who (of_transaction before.kept) (newest_first (tickets_for Explicit before.kept)) a between b first
      (subst (λ who. Runs joins between (releasing_all who (newest_first (tickets_for Explicit before.kept))) tt b) (ap (λ (c : ContextView). c.who) left)
      (run-as joins mid.who _ (newest_first (tickets_for Explicit before.kept)) between b (ap newest_first same) second))
