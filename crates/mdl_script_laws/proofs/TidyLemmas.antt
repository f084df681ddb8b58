-- Which tickets are left as a statement ends: none of a statement, and none of a transaction unless one is open. And which places are known then:
-- those alone where the session has something.
use Rattle.std.proofs.Common.{◌≡◌, ℕ, Bool, true, false, not, cond, List, [], ◌∷◌, ◌++◌, Result, Ok, refl, sym, ap, subst, ◌∙◌, arith}
use Rattle.std.specs.Prelude.{filter, map}
use Rattle.std.specs.List.{All}
use Rattle.std.proofs.lemmas.Bool.{false≢true}
use Rattle.std.proofs.lemmas.Bool.Decides.{nat_tests}
use Rattle.std.proofs.lemmas.List.Elements.{All-head, All-tail, filter_passes}
use Rattle.mdl_key.specs.declared.mode.Duration.TheVariants.{Statement, Transaction}
use Rattle.mdl_key.specs.Keys.{KeyName}
use Rattle.mdl_calls.specs.Words.{Give, ◌>>◌}
use Rattle.mdl_context.specs.declared.context_error.ContextError.{ContextError}
use Rattle.mdl_context.specs.declared.kept.Kept.{Kept}
use Rattle.mdl_context.specs.declared.request.Mark.{Mark}
use Rattle.mdl_context.specs.Contexts.{ContextView, beyond, beyond_mark, has_number, lasts, newest_first, of_transaction, tickets_for, without_tickets}
use Rattle.mdl_context.specs.Releases.{releasing_tickets}
use Rattle.mdl_context.specs.Tidying.{IsTidy as IsTidyContext, is_needed, tidied, tidying, unpinning_all}
use Rattle.mdl_context.proofs.BeyondLemmas.{without-none}
use Rattle.mdl_context.proofs.FrontLemmas.{has_number-newest}
use Rattle.mdl_rows.specs.declared.ending.Ending.{Ending}
use Rattle.mdl_rows.specs.declared.ending.Ending.TheVariants.{Answers, Misses, Falls, Starves}
use Rattle.mdl_rows.specs.declared.reply.Reply.{Reply}
use Rattle.mdl_rows.specs.Endings.{gone_at, state_after}
use Rattle.mdl_rows.specs.States.{State}

-- each of the tickets that passes the test has the number of one that goes
abbrev Covers : (Kept → Bool) → List Kept → List Kept → Type 0
Covers p gone [] = Unit {0}
Covers p gone (t ∷ ts) = (p t ≡ true → has_number gone t.id ≡ true) × Covers p gone ts

-- then none that passes it is left
none-left : (p : Kept → Bool) (gone kept : List Kept) → Covers p gone kept → filter p (without_tickets gone kept) ≡ []
none-left p gone [] covers = refl
none-left p gone (t ∷ ts) covers = grind (arith, covers.0, none-left p gone ts covers.1)

-- with more that go
covers-before : (p : Kept → Bool) (more gone kept : List Kept) → Covers p gone kept → Covers p (more ++ gone) kept
covers-before p more gone [] covers = tt
covers-before p more gone (t ∷ ts) covers = (λ passes. among more (covers.0 passes), covers-before p more gone ts covers.1) where
  among : (front : List Kept) → has_number gone t.id ≡ true → has_number (front ++ gone) t.id ≡ true
  among [] has = has
  among (x ∷ xs) has = grind (arith, among xs has)

covers-behind : (p : Kept → Bool) (gone more kept : List Kept) → Covers p gone kept → Covers p (gone ++ more) kept
covers-behind p gone more [] covers = tt
covers-behind p gone more (t ∷ ts) covers = (λ passes. among gone (covers.0 passes), covers-behind p gone more ts covers.1) where
  among : (front : List Kept) → has_number front t.id ≡ true → has_number (front ++ more) t.id ≡ true
  among [] has = absurd (false≢true has)
  among (x ∷ xs) has = grind (arith, nat_tests, among xs)

-- those that pass it go
covers-own : (p : Kept → Bool) (kept : List Kept) → Covers p (filter p kept) kept
covers-own p [] = tt
covers-own p (t ∷ ts) = by (p t) refl (covers-own p ts) where
  by : (b : Bool) → p t ≡ b → Covers p (filter p ts) ts → Covers p (filter p (t ∷ ts)) (t ∷ ts)
  by true passes rest =
      subst (λ gone. Covers p gone (t ∷ ts)) (sym (ap (λ b. cond b (t ∷ filter p ts) (filter p ts)) passes))
      (λ _. grind (arith, nat_tests), covers-before p (t ∷ []) (filter p ts) ts rest)
  by false fails rest =
      subst (λ gone. Covers p gone (t ∷ ts)) (sym (ap (λ b. cond b (t ∷ filter p ts) (filter p ts)) fails))
      (λ passes. absurd (false≢true (sym fails ∙ passes)), rest)

-- in whatever order they go
covers-newest : (p : Kept → Bool) (gone kept : List Kept) → Covers p gone kept → Covers p (newest_first gone) kept
covers-newest p gone [] covers = tt
covers-newest p gone (t ∷ ts) covers = (λ passes. has_number-newest gone t.id ∙ covers.0 passes, covers-newest p gone ts covers.1)

covers-all : (p : Kept → Bool) (kept : List Kept) → Covers p (newest_first (filter p kept)) kept
covers-all p kept = covers-newest p (filter p kept) kept (covers-own p kept)

-- ---- how statements end

-- the tickets of a statement, where it began with none
covers-since : (mark : Mark) (kept : List Kept) → mark.statement ≡ 0 → Covers (lasts Statement) (beyond_mark mark kept) kept
covers-since mark kept none =
    covers-behind (lasts Statement) (newest_first (beyond Statement mark.statement kept)) (newest_first (beyond Transaction mark.transaction kept)) kept
    (subst (λ n. Covers (lasts Statement) (newest_first (beyond Statement n kept)) kept) (sym none) (covers-all (lasts Statement) kept))

covers-statement : (kept : List Kept) → Covers (lasts Statement) (of_transaction kept) kept
covers-statement kept =
    covers-behind (lasts Statement) (newest_first (tickets_for Statement kept)) (newest_first (tickets_for Transaction kept)) kept (covers-all (lasts Statement) kept)

covers-transaction : (kept : List Kept) → Covers (lasts Transaction) (of_transaction kept) kept
covers-transaction kept =
    covers-before (lasts Transaction) (newest_first (tickets_for Statement kept)) (newest_first (tickets_for Transaction kept)) kept (covers-all (lasts Transaction) kept)

-- however it ends, the statement's go
covers-ending : (ending : Ending) (is_open : Bool) (mark : Mark) (kept : List Kept) → mark.statement ≡ 0
    → Covers (lasts Statement) (gone_at ending is_open mark kept) kept
covers-ending (Answers reply) true mark kept none = covers-all (lasts Statement) kept
covers-ending (Misses number) true mark kept none = covers-since mark kept none
covers-ending Starves true mark kept none = covers-since mark kept none
covers-ending (Answers reply) false mark kept none = covers-statement kept
covers-ending (Misses number) false mark kept none = covers-statement kept
covers-ending Starves false mark kept none = covers-statement kept
covers-ending Falls is_open mark kept none = covers-statement kept

-- and where no transaction is open then, the transaction's
covers-closed : (ending : Ending) (is_open : Bool) (mark : Mark) (kept : List Kept) (state : State) → state.is_open ≡ is_open
    → (state_after ending state).is_open ≡ false
    → Covers (lasts Transaction) (gone_at ending is_open mark kept) kept
covers-closed (Answers reply) true mark kept state same shut = absurd (false≢true (sym shut ∙ same))
covers-closed (Misses number) true mark kept state same shut = absurd (false≢true (sym shut ∙ same))
covers-closed Starves true mark kept state same shut = absurd (false≢true (sym shut ∙ same))
covers-closed (Answers reply) false mark kept state same shut = covers-transaction kept
covers-closed (Misses number) false mark kept state same shut = covers-transaction kept
covers-closed Starves false mark kept state same shut = covers-transaction kept
covers-closed Falls is_open mark kept state same shut = covers-transaction kept

pub none-of_statement : (ending : Ending) (is_open : Bool) (mark : Mark) (kept : List Kept) → mark.statement ≡ 0
    → tickets_for Statement (without_tickets (gone_at ending is_open mark kept) kept) ≡ []
none-of_statement ending is_open mark kept none =
    none-left (lasts Statement) (gone_at ending is_open mark kept) kept (covers-ending ending is_open mark kept none)

pub none-of_transaction : (ending : Ending) (mark : Mark) (kept : List Kept) (state : State) → (state_after ending state).is_open ≡ false
    → tickets_for Transaction (without_tickets (gone_at ending state.is_open mark kept) kept) ≡ []
none-of_transaction ending mark kept state shut =
    none-left (lasts Transaction) (gone_at ending state.is_open mark kept) kept (covers-closed ending state.is_open mark kept state refl shut)

-- ---- known places

-- once a context has let go of the places where it has nothing, it has something at each place that it knows
pub tidied-tidy : (context : ContextView) → IsTidyContext (tidied context)
tidied-tidy context = filter_passes (λ (entry : KeyName × ℕ). is_needed context entry.1) context.known

all-kept : {X : Type 0} (p : X → Bool) (xs : List X) → All (λ x. p x ≡ true) xs → filter p xs ≡ xs
all-kept p [] all = refl
all-kept p (x ∷ xs) all =
    ap (λ b. cond b (x ∷ filter p xs) (filter p xs)) (All-head (λ y. p y ≡ true) x xs all)
    ∙ ap (λ ys. x ∷ ys) (all-kept p xs (All-tail (λ y. p y ≡ true) x xs all))

none-unneeded : (needs : ℕ → Bool) (known : List (KeyName × ℕ)) → All (λ entry. needs entry.1 ≡ true) known
    → filter (λ place. not (needs place)) (map (λ entry. entry.1) known) ≡ []
none-unneeded needs [] all = refl
none-unneeded needs (x ∷ xs) all =
    let rest = filter (λ place. not (needs place)) (map (λ (entry : KeyName × ℕ). entry.1) xs) in
    ap (λ b. cond (not b) (x.1 ∷ rest) rest) (All-head (λ (entry : KeyName × ℕ). needs entry.1 ≡ true) x xs all)
    ∙ none-unneeded needs xs (All-tail (λ (entry : KeyName × ℕ). needs entry.1 ≡ true) x xs all)

-- it then has nothing to let go, and stays as it is
tidying-nothing : (reply : Result (Unit {0}) ContextError) (context : ContextView) → IsTidyContext context
    → tidying (reply, context) ≡ Give (reply, context)
tidying-nothing reply context tidy =
    ap (λ places. unpinning_all context.who places >> Give (reply, tidied context)) (none-unneeded (is_needed context) context.known tidy)
    ∙ ap (λ known. Give (reply, record context { known = known })) (all-kept (λ (entry : KeyName × ℕ). is_needed context entry.1) context.known tidy)

-- so it does where it gives up no ticket
pub releasing-nothing : (context : ContextView) → IsTidyContext context → releasing_tickets [] context ≡ Give (Ok tt, context)
releasing-nothing context tidy =
    ap (λ kept. tidying {A = Unit {0}} (Ok tt, record context { kept = kept })) (without-none context.kept) ∙ tidying-nothing (Ok tt) context tidy

-- ---- a statement that was answered

-- where there is none that has to go, none goes
pub none-gone : (is_open : Bool) (answer : Reply) (mark : Mark) (kept : List Kept) → tickets_for Statement kept ≡ []
    → (is_open ≡ false → tickets_for Transaction kept ≡ [])
    → gone_at (Answers answer) is_open mark kept ≡ []
none-gone true answer mark kept statement transaction = ap newest_first statement
none-gone false answer mark kept statement transaction =
    ap (λ xs. newest_first xs ++ newest_first (tickets_for Transaction kept)) statement ∙ ap newest_first (transaction refl)
