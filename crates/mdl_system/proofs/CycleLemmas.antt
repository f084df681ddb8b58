-- Cycles that are found by a test of who waits for whom, their members' weights, and their victims.
use Rattle.std.proofs.Common.{◌≡◌, ◌≢◌, ◌⊎◌, ℕ, ◌<◌, ◌≤◌, Bool, true, false, not, ◌&&◌, ◌==◌, inl, inr, List, [], ◌∷◌, length, get_or, Some, None, refl, sym, ap, subst, ◌∙◌, arith}
use Rattle.std.specs.Prelude.{Contains, AllPairs, All, MatchOption, IsTrue}
use Rattle.std.specs.List.{list_any}
use Rattle.std.proofs.lemmas.Bool.{and_parts, and_from, eqb-true, eq-eqb, false≢true}
use Rattle.std.proofs.lemmas.List.Elements.{All-contains, All-weaker, Contains-get_or}
use Rattle.std.proofs.lemmas.List.Kept.{AllPairs-cons}
use Rattle.mdl_book.specs.declared.book_view.BookView.{BookView}
use Rattle.mdl_graph.specs.declared.cycle.Member.{Member}
use Rattle.mdl_graph.specs.Cycles.{leads, are_distinct, is_chosen_before, IsCycleThrough}
use Rattle.mdl_graph.specs.GraphLaws.{sessions_of, IsFree, IsChosen, IsWaiting}
use Rattle.mdl_graph.specs.Graphs.{deadlock_in}
use Rattle.mdl_graph.specs.Victims.{victim_of}
use Rattle.mdl_graph.specs.WaitsFor.{SessionTest, waits_for}
use Rattle.mdl_graph.proofs.DeadlockLemmas.{deadlock_chosen, deadlock_waits}
use Rattle.mdl_graph.proofs.VictimLemmas.{victim_falls}
use Rattle.mdl_system.specs.Deadlocks.{Leads, IsCycle, IsLightest}
use Rattle.mdl_system.proofs.MemberLemmas.{any-found, any-from, apart-first, apart-rest, Contains-map, Contains-map_from}

-- ---- distinct sessions

pub distinct-found : (sessions : List ℕ) → are_distinct sessions ≡ true → AllPairs (λ one other. one ≢ other) sessions
distinct-found [] distinct = λ i j d lt inside. absurd (omega arith)
distinct-found (x ∷ xs) distinct =
    let parts = and_parts (not (list_any (λ other. x == other) xs)) (are_distinct xs) distinct in
    AllPairs-cons (λ one other. one ≢ other) x xs
    (λ k d inside same. absurd (false≢true (sym (ap not (any-from (λ other. x == other) xs (get_or xs k d) (Contains-get_or xs k d inside) (eq-eqb x (get_or xs k d) same))) ∙ parts.0)))
    (distinct-found xs parts.1)

pub distinct-from : (sessions : List ℕ) → AllPairs (λ one other. one ≢ other) sessions → are_distinct sessions ≡ true
distinct-from [] apart = refl
distinct-from (x ∷ xs) apart =
    and_from (not (list_any (λ other. x == other) xs)) (are_distinct xs) (none (list_any (λ other. x == other) xs) refl)
    (distinct-from xs (apart-rest (λ (y : ℕ). y) x xs apart))
  where
    none : (b : Bool) → list_any (λ other. x == other) xs ≡ b → not b ≡ true
    none true e = (let h = any-found (λ other. x == other) xs e in absurd (apart-first (λ (y : ℕ). y) x xs apart h.0 h.1 (eqb-true x h.0 h.2)))
    none false e = refl

-- ---- cycles by a test

module _ (waits : ℕ → ℕ → Bool) (Waits : ℕ → ℕ → Type 0) (found : (x y : ℕ) → waits x y ≡ true → Waits x y) where
  leads-found : (from session : ℕ) (rest : List ℕ) → leads waits from session rest ≡ true → Leads Waits from session rest
  leads-found from session [] e = found session from e
  leads-found from session (next ∷ rest) e =
      let parts = and_parts (waits session next) (leads waits from next rest) e in
      (found session next parts.0, leads-found from next rest parts.1)

  pub cycle-found : (from : ℕ) (cycle : List ℕ) → IsCycleThrough waits from cycle → IsCycle Waits from cycle
  cycle-found from [] is = absurd (false≢true is)
  cycle-found from (first ∷ rest) is =
      let parts = and_parts (first == from && are_distinct (first ∷ rest)) (leads waits from first rest) is in
      let begun = and_parts (first == from) (are_distinct (first ∷ rest)) parts.0 in
      let same : first ≡ from = eqb-true first from begun.0 in (
        rest,
        ap (λ (x : ℕ). x ∷ rest) same,
        distinct-found (first ∷ rest) begun.1,
        leads-found from from rest (ap (λ (x : ℕ). leads waits from x rest) (sym same) ∙ parts.1),
      )

-- the test need only pass for a tie to a session that has one on
module _ (waits : ℕ → ℕ → Bool) (Waits : ℕ → ℕ → Type 0) (passes : (x y z : ℕ) → Waits x y → Waits y z → waits x y ≡ true) where
  first-tie : (target session : ℕ) (rest : List ℕ) → Leads Waits target session rest → (next : ℕ) × Waits session next
  first-tie target session [] tie = (target, tie)
  first-tie target session (next ∷ rest) (tie, later) = (next, tie)

  leads-from : (target on session : ℕ) (rest : List ℕ) → Waits target on → Leads Waits target session rest → leads waits target session rest ≡ true
  leads-from target on session [] goes tie = passes session target on tie goes
  leads-from target on session (next ∷ rest) goes (tie, later) =
      let further = first-tie target next rest later in
      and_from (waits session next) (leads waits target next rest) (passes session next further.0 tie further.1) (leads-from target on next rest goes later)

  pub cycle-from : (from : ℕ) (cycle : List ℕ) → IsCycle Waits from cycle → IsCycleThrough waits from cycle
  cycle-from from cycle (rest, same, distinct, leading) =
      let on = first-tie from from rest leading in
      subst (λ c. IsCycleThrough waits from c) (sym same)
      (and_from (from == from && are_distinct (from ∷ rest)) (leads waits from from rest)
      (and_from (from == from) (are_distinct (from ∷ rest)) (eq-eqb from from refl)
      (distinct-from (from ∷ rest) (subst (λ c. AllPairs (λ one other. one ≢ other) c) same distinct)))
      (leads-from from on.0 from rest on.1 leading))

-- ---- victims

-- the victim of members each of whose sessions weighs what the member does, and nothing else
pub victim-is : (Weight : ℕ → ℕ → Type 0) → ((session one other : ℕ) → Weight session one → Weight session other → one ≡ other)
    → (members : List Member) → 0 < length members → All (λ (m : Member). Weight m.session m.weight) members → IsLightest Weight (sessions_of members) (victim_of members)
victim-is Weight once members some_member weighing =
    let h = victim_falls members some_member in
    let member : Member = h.1 in
    let among : Contains members member = (h.0, h.2, h.3) in
    let weighs : Weight member.session member.weight = All-contains (λ (m : Member). Weight m.session m.weight) members member weighing among in (
      subst (λ n. Contains (sessions_of members) n) h.4.0 (Contains-map (λ (m : Member). m.session) members member among),
      (
        member.weight,
        subst (λ n. Weight n member.weight) h.4.0 weighs,
        λ other heavier stands also.
            let from = Contains-map_from (λ (m : Member). m.session) members other stands in
            let its = All-contains (λ (m : Member). Weight m.session m.weight) members from.0 weighing from.1 in
            let same : heavier ≡ from.0.weight = once other heavier from.0.weight also (subst (λ n. Weight n from.0.weight) (sym from.2) its) in
            falls member from.0 other heavier (victim_of members) h.4.0 from.2 same
            (All-contains (λ (m : Member). (member.weight < m.weight) ⊎ ((member.weight ≡ m.weight) × (m.session ≤ member.session))) members from.0 h.4.1 from.1),
      ),
    )
  where
    falls : (member one : Member) (other heavier victim : ℕ) → member.session ≡ victim → other ≡ one.session → heavier ≡ one.weight
        → (member.weight < one.weight) ⊎ ((member.weight ≡ one.weight) × (one.session ≤ member.session))
        → (member.weight < heavier) ⊎ ((member.weight ≡ heavier) × (other ≤ victim))
    falls member one other heavier victim is own same (inl less) = inl (omega (arith, same, less))
    falls member one other heavier victim is own same (inr (weight, most)) = inr (weight ∙ sym same, omega (arith, is, own, most))

-- ---- the deadlock that is found by books

module _ (settled : SessionTest) (books : List BookView) (who : ℕ) where
  -- whoever is found to wait does so in one sense, and whoever waits in another sense is found to
  module _ (Found Waits : ℕ → ℕ → Type 0) (found : (x y : ℕ) → waits_for settled books x y ≡ true → Found x y)
      (passes : (x y z : ℕ) → Waits x y → Waits y z → waits_for settled books x y ≡ true) where
    pub none-of_books : deadlock_in settled books who ≡ None → (cycle : List ℕ) → IsCycle Waits who cycle → ⊥
    none-of_books none cycle is =
        let free = subst (λ o. MatchOption o (IsFree settled books who) (IsChosen settled books who)) none (deadlock_chosen settled books who) in
        free cycle (cycle-from (waits_for settled books) Waits passes who cycle is)

    pub some-of_books : (Weight : ℕ → ℕ → Type 0) → ((session one other : ℕ) → Weight session one → Weight session other → one ≡ other)
        → ((member : Member) → IsWaiting settled books member → Weight member.session member.weight)
        → (members : List Member) → deadlock_in settled books who ≡ Some members
        → IsCycle Found who (sessions_of members) × ((other : List ℕ) → IsCycle Waits who other → IsTrue (is_chosen_before (sessions_of members) other))
        × IsLightest Weight (sessions_of members) (victim_of members)
    some-of_books Weight once weighs members of_books =
        let chosen : IsChosen settled books who members =
        subst (λ o. MatchOption o (IsFree settled books who) (IsChosen settled books who)) of_books (deadlock_chosen settled books who) in
        let waiting : All (IsWaiting settled books) members =
        subst (λ o. MatchOption o (Unit {0}) (All (IsWaiting settled books))) of_books (deadlock_waits settled books who) in
        let two = chosen.two in (
          cycle-found (waits_for settled books) Found found who (sessions_of members) chosen.cycle,
          λ other is. chosen.first other (cycle-from (waits_for settled books) Waits passes who other is),
          victim-is Weight once members (omega (arith, two)) (All-weaker (IsWaiting settled books) (λ (m : Member). Weight m.session m.weight) weighs members waiting),
        )
