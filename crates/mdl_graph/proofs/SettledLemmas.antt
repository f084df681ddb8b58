-- Where fewer sessions are settled, more wait.
use Rattle.std.proofs.Common.{◌≡◌, ℕ, true, false, ◌&&◌, List, [], ◌∷◌, refl, sym, ◌∙◌, inl, inr}
use Rattle.std.specs.Prelude.{◌==◌, IsTrue, IsFalse, Any}
use Rattle.std.proofs.lemmas.Bool.{and_parts, and_from, false≢true}
use Rattle.mdl_book.specs.declared.book_view.BookView.{BookView}
use Rattle.mdl_graph.specs.Cycles.{leads, are_distinct, IsCycleThrough}
use Rattle.mdl_graph.specs.WaitsFor.{SessionTest, WaitsFor, waits_for}
use Rattle.mdl_graph.specs.GraphLaws.{IsBlockedAt}
use Rattle.mdl_graph.proofs.WaitingLemmas.{waits_by}

any_more : {X : Type 0} (P Q : X → Type 0) → ((x : X) → P x → Q x) → (xs : List X) → Any P xs → Any Q xs
any_more P Q more xs found = (found.0, found.1, found.2, found.3, more found.1 found.4)

module _ (settled fewer : SessionTest) (within : (session : ℕ) → IsTrue (fewer session) → IsTrue (settled session)) where
  unsettled : (session : ℕ) → IsFalse (settled session) → IsFalse (fewer session)
  unsettled session before = elim (fewer session) as (λ b. fewer session ≡ b → b ≡ false) [
    | true ↦ λ e. absurd (false≢true (sym before ∙ within session e))
    | false ↦ λ e. refl
  ] refl

  blocked : (waiter other : ℕ) (book : BookView) → IsBlockedAt settled waiter other book → IsBlockedAt fewer waiter other book
  blocked waiter other book found = (
    found.0,
    found.1,
    found.2,
    found.3,
    (
      found.4.0,
      elim found.4.1 [
        | inl holds ↦ inl holds
        | inr ahead ↦ inr (unsettled other ahead.0, ahead.1)
      ],
    ),
  )

  waits_still : (books : List BookView) (waiter other : ℕ) → WaitsFor settled books waiter other → WaitsFor fewer books waiter other
  waits_still books waiter other waits =
      let told = (waits_by settled books waiter other).0 waits in
      (waits_by fewer books waiter other).1
      (told.0, unsettled waiter told.1, any_more (IsBlockedAt settled waiter other) (IsBlockedAt fewer waiter other) (blocked waiter other) books told.2)

  leads_still : (books : List BookView) (target session : ℕ) (rest : List ℕ) → leads (waits_for settled books) target session rest ≡ true
      → leads (waits_for fewer books) target session rest ≡ true
  leads_still books target session [] leading = waits_still books session target leading
  leads_still books target session (next ∷ rest) leading =
      let parts = and_parts (waits_for settled books session next) (leads (waits_for settled books) target next rest) leading in
      and_from (waits_for fewer books session next) (leads (waits_for fewer books) target next rest)
      (waits_still books session next parts.0) (leads_still books target next rest parts.1)

  pub cycle_stays : (books : List BookView) (from : ℕ) (cycle : List ℕ) → IsCycleThrough (waits_for settled books) from cycle
      → IsCycleThrough (waits_for fewer books) from cycle
  cycle_stays books from [] is = absurd (false≢true is)
  cycle_stays books from (first ∷ rest) is =
      let parts = and_parts (first == from && are_distinct (first ∷ rest)) (leads (waits_for settled books) from first rest) is in
      and_from (first == from && are_distinct (first ∷ rest)) (leads (waits_for fewer books) from first rest)
      parts.0 (leads_still books from first rest parts.1)
