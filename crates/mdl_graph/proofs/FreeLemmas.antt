-- Whoever waits for nobody, or is waited for by nobody, stands in no cycle.
use Rattle.std.proofs.Common.{◌≡◌, ℕ, Bool, true, false, List, [], ◌∷◌, map, None, refl, sym, ap, ◌∙◌}
use Rattle.std.specs.Prelude.{◌==◌, ◌&&◌, ◌||◌, not}
use Rattle.std.specs.List.{list_any}
use Rattle.std.proofs.lemmas.Bool.{and_parts, false≢true}
use Rattle.std.specs.Option.{option_map}
use Rattle.mdl_book.specs.declared.book_view.BookView.{BookView}
use Rattle.mdl_graph.specs.declared.cycle.Member.{Member}
use Rattle.mdl_graph.specs.Cycles.{leads}
use Rattle.mdl_graph.specs.Graphs.{GraphView, waits, deadlock, deadlock_in, member_of}
use Rattle.mdl_graph.specs.Searches.{Pairs, are_joined, holds}
use Rattle.mdl_graph.specs.WaitsFor.{SessionTest, waits_for, wishes_in}
use Rattle.mdl_graph.proofs.CycleLaws.{none_chosen}
use Rattle.mdl_graph.proofs.FoundLemmas.{found_free}
use Rattle.mdl_graph.proofs.WalkLemmas.{cycle_leads}

neither : (a b : Bool) → (a || b) ≡ false → (a ≡ false) × (b ≡ false)
neither true b e = absurd (false≢true (sym e))
neither false b e = (refl, e)

-- a session that waits in no row waits for nobody
not_waiting : (pairs stands : Pairs) (from other : ℕ) → list_any (λ wait. wait.1 == from) pairs ≡ false → are_joined pairs stands from other ≡ false
not_waiting [] stands from other none = refl
not_waiting (wait ∷ pairs) stands from other none =
    let parts = neither (wait.1 == from) (list_any (λ (w : ℕ × ℕ). w.1 == from) pairs) none in
    rw (parts.0, not_waiting pairs stands from other parts.1) refl

-- nobody waits for a session that stands against no row
not_standing : (stands : Pairs) (from row : ℕ) → list_any (λ stand. stand.0 == from) stands ≡ false → holds stands from row ≡ false
not_standing [] from row none = refl
not_standing (stand ∷ stands) from row none =
    let parts = neither (stand.0 == from) (list_any (λ (s : ℕ × ℕ). s.0 == from) stands) none in
    rw (parts.0, not_standing stands from row parts.1) refl

not_waited_for : (pairs stands : Pairs) (waiter from : ℕ) → list_any (λ stand. stand.0 == from) stands ≡ false → are_joined pairs stands waiter from ≡ false
not_waited_for [] stands waiter from none = refl
not_waited_for (wait ∷ pairs) stands waiter from none =
    rw (not_standing stands from wait.0 none, not_waited_for pairs stands waiter from none) (nothing (wait.1 == waiter) (wait.1 == from)) where
      nothing : (a b : Bool) → ((a && (not b && false)) || false) ≡ false
      nothing true true = refl
      nothing true false = refl
      nothing false b = refl

-- ---- such a session stands in no cycle

no_first : (test : ℕ → ℕ → Bool) (from : ℕ) → ((other : ℕ) → test from other ≡ false) → (rest : List ℕ) → leads test from from rest ≡ true → ⊥
no_first test from none [] leading = false≢true (sym (none from) ∙ leading)
no_first test from none (next ∷ rest) leading = false≢true (sym (none next) ∙ (and_parts (test from next) (leads test from next rest) leading).0)

no_last : (test : ℕ → ℕ → Bool) (from : ℕ) → ((waiter : ℕ) → test waiter from ≡ false) → (session : ℕ) (rest : List ℕ) → leads test from session rest ≡ true → ⊥
no_last test from none session [] leading = false≢true (sym (none session) ∙ leading)
no_last test from none session (next ∷ rest) leading = no_last test from none next rest (and_parts (test session next) (leads test from next rest) leading).1

-- a session for which nobody waits at some locks is in no deadlock there
pub none_blocked : (settled : SessionTest) (books : List BookView) (from : ℕ) → ((waiter : ℕ) → waits_for settled books waiter from ≡ false) → deadlock_in settled books from ≡ None
none_blocked settled books from none =
    let waiting = waits_for settled books in
    let wishes = wishes_in settled books in
    ap (option_map (map (member_of wishes))) (none_chosen waiting (map (λ (wish : Member). wish.session) wishes) from
    (λ cycle is. let back = cycle_leads waiting from cycle is in no_last waiting from none from back.0 back.2))

module _ (graph : GraphView) (pairs stands : Pairs) (same : (waiter other : ℕ) → are_joined pairs stands waiter other ≡ waits graph waiter other) (from : ℕ) where
  pub waits_for_none : list_any (λ wait. wait.1 == from) pairs ≡ false → deadlock graph from ≡ None
  waits_for_none none =
      found_free graph (are_joined pairs stands) same from
      (λ cycle is. let back = cycle_leads (are_joined pairs stands) from cycle is in
      no_first (are_joined pairs stands) from (λ other. not_waiting pairs stands from other none) back.0 back.2)

  pub none_waits : list_any (λ stand. stand.0 == from) stands ≡ false → deadlock graph from ≡ None
  none_waits none =
      found_free graph (are_joined pairs stands) same from
      (λ cycle is. let back = cycle_leads (are_joined pairs stands) from cycle is in
      no_last (are_joined pairs stands) from (λ waiter. not_waited_for pairs stands waiter from none) from back.0 back.2)
