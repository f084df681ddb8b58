-- The walk from level to level is the chosen cycle.
use Rattle.std.proofs.Common.{◌≡◌, ℕ, zero, suc, ◌+◌, ◌-◌, ◌≤◌, ◌<◌, Bool, true, false, List, [], ◌∷◌, length, Option, Some, None, refl, ap, sym, subst, ◌∙◌, inl, inr, arith, cond}
use Rattle.std.specs.Prelude.{◌&&◌, ◌||◌, ◌==◌, nat_lt, IsTrue}
use Rattle.std.specs.List.{list_any}
use Rattle.std.specs.Option.{option_or, unwrap_or}
use Rattle.std.proofs.lemmas.Bool.{cases_lt, cases_eq, false≢true, eqb-true, eq-eqb, and_parts, and_from, or_from}
use Rattle.std.proofs.lemmas.Bool.Decides.{nat_tests}
use Rattle.mdl_graph.specs.Cycles.{leads, are_distinct, IsCycleThrough, in_order, is_chosen_before}
use Rattle.mdl_graph.specs.Searches.{level_of, is_at, IsSearched, IsOver, first_below, next_of, walk}

-- ---- the first number that passes

first_is : (test : ℕ → Bool) (n found : ℕ) → first_below test n ≡ Some found → (test found ≡ true) × (found < n)
first_is test zero found is = absurd (grind (arith, is))
first_is test (suc n) found is =
    elim (first_below test n) as (λ o. first_below test n ≡ o → option_or o (cond (test n) (Some n) None) ≡ Some found → (test found ≡ true) × (found < suc n)) [
      | Some other ↦ λ e same. let before = first_is test n found (e ∙ same) in (before.0, omega (arith, before.1))
      | None ↦ λ e same. elim (test n) as (λ b. test n ≡ b → cond b (Some n) None ≡ Some found → (test found ≡ true) × (found < suc n)) [
        | true ↦ λ passes here. let at : n ≡ found = grind (arith, here) in (ap test (sym at) ∙ passes, omega (arith, at))
        | false ↦ λ _ bad. absurd (grind (arith, bad))
      ] refl same
    ] refl is

first_least : (test : ℕ → Bool) (n number : ℕ) → test number ≡ true → number < n
    → (found : ℕ) × (first_below test n ≡ Some found) × (found ≤ number)
first_least test zero number passes inside = absurd (omega (arith, inside))
first_least test (suc n) number passes inside =
    elim (first_below test n) as (λ o. first_below test n ≡ o → (found : ℕ) × (option_or o (cond (test n) (Some n) None) ≡ Some found) × (found ≤ number)) [
      | Some other ↦ λ e. (
        other,
        refl,
        elim (cases_lt number n) [
          | inl less ↦ let before = first_least test n number passes less in let same : other ≡ before.0 = grind (arith, e, before.1) in omega (arith, same, before.2)
          | inr last ↦ omega (arith, (first_is test n other e).1, last)
        ],
      )
      | None ↦ λ e. elim (cases_lt number n) [
        | inl less ↦ absurd (let before = first_least test n number passes less in grind (arith, e, before.1))
        | inr last ↦ let same : number ≡ n = omega (arith, last, inside) in
            (n, rw (sym (ap test same) ∙ passes) refl, omega (arith, same))
      ]
    ] refl

-- a number that passes, and is the least that does
pub least_found : (test : ℕ → Bool) (n least session : ℕ) → least < n → test least ≡ true
    → ((number : ℕ) → number < n → test number ≡ true → least ≤ number) → least ≡ unwrap_or (first_below test n) session
least_found test n least session inside passes lower =
    let first = first_least test n least passes inside in
    let is = first_is test n first.0 first.1 in
    let same : least ≡ first.0 = omega (arith, first.2, lower first.0 is.1 is.0) in
    same ∙ sym (ap (λ (o : Option ℕ). unwrap_or o session) first.1)

-- where no number passes, none is found
pub none_found : (test : ℕ → Bool) (n session : ℕ) → ((number : ℕ) → number < n → test number ≡ true → ⊥) → session ≡ unwrap_or (first_below test n) session
none_found test n session none =
    elim (first_below test n) as (λ o. first_below test n ≡ o → session ≡ unwrap_or o session) [
      | Some found ↦ λ e. let is = first_is test n found e in absurd (none found is.1 is.0)
      | None ↦ λ _. refl
    ] refl

-- a step more than none asks for a level
pub next_by_level : (waits : ℕ → ℕ → Bool) (from : ℕ) (levels : List ℕ) (steps session found : ℕ) → 0 < steps
    → found ≡ unwrap_or (first_below (λ next. (level_of levels next == steps) && waits session next) (length levels)) session
    → found ≡ next_of waits from levels steps session
next_by_level waits from levels zero session found some is = absurd (omega (arith, some))
next_by_level waits from levels (suc n) session found some is = is

pub length_walk : (waits : ℕ → ℕ → Bool) (from : ℕ) (levels : List ℕ) (n session : ℕ) → length (walk waits from levels n session) ≡ n
length_walk waits from levels zero session = refl
length_walk waits from levels (suc n) session = ap suc (length_walk waits from levels n (next_of waits from levels n session))

-- one step of a walk
pub walk_more : (waits : ℕ → ℕ → Bool) (from : ℕ) (levels : List ℕ) (steps done session : ℕ) → done < steps
    → walk waits from levels (steps - done) session
    ≡ session ∷ walk waits from levels (steps - (done + 1)) (next_of waits from levels (steps - (done + 1)) session)
walk_more waits from levels steps done session inside =
    let one : steps - done ≡ suc (steps - (done + 1)) = omega arith in ap (λ (n : ℕ). walk waits from levels n session) one

-- where no step is left, it is over wherever it stands
pub walk_over : (waits : ℕ → ℕ → Bool) (from : ℕ) (levels : List ℕ) (left one other : ℕ) → left ≡ 0
    → walk waits from levels left one ≡ walk waits from levels left other
walk_over waits from levels zero one other none = refl
walk_over waits from levels (suc left) one other none = absurd (omega (arith, none))

-- a session that has a level is kept
pub level_inside : (levels : List ℕ) (session : ℕ) → 0 < level_of levels session → session < length levels
level_inside [] session some = absurd (omega (arith, some))
level_inside (level ∷ levels) zero some = omega arith
level_inside (level ∷ levels) (suc session) some = omega (arith, level_inside levels session some)

module _ (waits : ℕ → ℕ → Bool) (from : ℕ) (levels : List ℕ) (reach : ℕ) (searched : IsSearched waits from levels reach) where
  -- where a session has a level, it is so many steps away
  at_level : (session : ℕ) → 0 < level_of levels session → (m : ℕ) × (level_of levels session ≡ suc m) × (is_at levels from (suc m) session ≡ true)
  at_level session some =
      let m : ℕ = level_of levels session - 1 in
      let is : level_of levels session ≡ suc m = omega (arith, some) in
      (m, is, eq-eqb (level_of levels session) (suc m) is)

  -- whoever leads back in so many steps was reached in no more
  all_reached : (limit : ℕ) → ((m next : ℕ) → is_at levels from m next ≡ true → m ≤ limit → m < reach)
      → (rest : List ℕ) (session : ℕ) → leads waits from session rest ≡ true → length rest ≤ limit
      → (0 < level_of levels session) × (level_of levels session ≤ suc (length rest))
  all_reached limit near [] session leading short =
      let at : is_at levels from 0 from ≡ true = grind (arith, nat_tests) in
      searched.best 0 from session (near 0 from at (omega arith)) at leading
  all_reached limit near (next ∷ rest) session leading short =
      let parts = and_parts (waits session next) (leads waits from next rest) leading in
      let on = all_reached limit near rest next parts.1 (omega (arith, short)) in
      let at = at_level next on.0 in
      let here = searched.best (suc at.0) next session (near (suc at.0) next at.2 (omega (arith, on.1, at.1, short))) at.2 parts.0 in
      (here.0, omega (arith, here.1, on.1, at.1))

module _ (waits : ℕ → ℕ → Bool) (from : ℕ) (levels : List ℕ) (reach : ℕ) (searched : IsSearched waits from levels reach) (inside : from < length levels) where
  abbrev next : ℕ → ℕ → ℕ
  next n session = next_of waits from levels n session

  abbrev walked : ℕ → ℕ → List ℕ
  walked n session = walk waits from levels n session

  below : (m session : ℕ) → is_at levels from m session ≡ true → session < length levels
  below zero session at = let same : session ≡ from = eqb-true session from at in omega (arith, same, inside)
  below (suc m) session at = level_inside levels session (omega (arith, eqb-true (level_of levels session) (suc m) at))

  -- the next session is waited for, one step nearer, and the least that is
  record IsNext (m session other found : ℕ) : Type 0 where
    waiting : waits session found ≡ true
    at : is_at levels from m found ≡ true
    lower : found ≤ other

  next_is : (m session other : ℕ) → is_at levels from m other ≡ true → waits session other ≡ true → IsNext m session other (next m session)
  next_is m session other at waiting =
      let test : ℕ → Bool = λ x. is_at levels from m x && waits session x in
      let first = first_least test (length levels) other (and_from (is_at levels from m other) (waits session other) at waiting) (below m other at) in
      let passes = (first_is test (length levels) first.0 first.1).0 in
      let parts = and_parts (is_at levels from m first.0) (waits session first.0) passes in
      let same : next m session ≡ first.0 = ap (λ (o : Option ℕ). unwrap_or o session) first.1 in
      subst (λ (found : ℕ). IsNext m session other found) (sym same) (record { waiting = parts.1; at = parts.0; lower = first.2 })

  onward : (m session : ℕ) → level_of levels session ≡ suc m → (other : ℕ) × IsNext m session other (next m session)
  onward m session is = let back = searched.sound session m is in (back.0, next_is m session back.0 back.2 back.1)

  -- ---- the walk is a cycle

  walk_leads : (m session : ℕ) → level_of levels session ≡ suc m → leads waits from session (walked m (next m session)) ≡ true
  walk_leads zero session is =
      let on = (onward zero session is).1 in
      subst (λ (x : ℕ). waits session x ≡ true) (eqb-true (next zero session) from on.at) on.waiting
  walk_leads (suc m) session is =
      let on = (onward (suc m) session is).1 in
      let there : level_of levels (next (suc m) session) ≡ suc m = eqb-true (level_of levels (next (suc m) session)) (suc m) on.at in
      and_from (waits session (next (suc m) session)) (leads waits from (next (suc m) session) (walked m (next m (next (suc m) session)))) on.waiting
      (walk_leads m (next (suc m) session) there)

  -- nobody who is farther away stands on it
  not_on_it : (m session : ℕ) → is_at levels from m session ≡ true → (far : ℕ) → m < level_of levels far
      → list_any (λ other. far == other) (walked m session) ≡ false
  not_on_it zero session at far farther = refl
  not_on_it (suc m) session at far farther =
      let here : level_of levels session ≡ suc m = eqb-true (level_of levels session) (suc m) at in
      let apart : (far == session) ≡ false = elim (cases_eq far session) [
        | inl same ↦ absurd (omega (arith, ap (level_of levels) same, here, farther))
        | inr differ ↦ grind (arith, nat_tests, differ)
      ] in
      or_from (far == session) (list_any (λ other. far == other) (walked m (next m session))) apart
      (not_on_it m (next m session) (onward m session here).1.at far (omega (arith, farther)))

  walk_distinct : (m session : ℕ) → level_of levels session ≡ suc m → are_distinct (session ∷ walked m (next m session)) ≡ true
  walk_distinct zero session is = refl
  walk_distinct (suc m) session is =
      let on = (onward (suc m) session is).1 in
      let there : level_of levels (next (suc m) session) ≡ suc m = eqb-true (level_of levels (next (suc m) session)) (suc m) on.at in
      rw (not_on_it (suc m) (next (suc m) session) on.at session (omega (arith, is)), walk_distinct m (next (suc m) session) there) refl

  -- ---- no cycle comes before it

  -- up to the number of steps that were searched
  near_enough : (limit : ℕ) → limit < reach → (m next : ℕ) → is_at levels from m next ≡ true → m ≤ limit → m < reach
  near_enough limit inside m next at short = omega arith

  -- of all lists that lead back in as many steps the walk is the first in order
  walk_first : (m session : ℕ) → level_of levels session ≡ suc m → m < reach
      → (other : List ℕ) → leads waits from session other ≡ true → length other ≡ m → in_order (walked m (next m session)) other ≡ true
  walk_first zero session is near other leading long = refl
  walk_first (suc m) session is near [] leading long = absurd (omega (arith, long))
  walk_first (suc m) session is near (x ∷ rest) leading long =
      let parts = and_parts (waits session x) (leads waits from x rest) leading in
      let there = all_reached waits from levels reach searched m (near_enough m (omega arith)) rest x parts.1 (omega (arith, long)) in
      let at = at_level waits from levels reach searched x there.0 in
      let best = searched.best (suc at.0) x session (omega (arith, there.1, at.1, long, near)) at.2 parts.0 in
      let same_level : at.0 ≡ m = omega (arith, best.1, is, there.1, at.1, long) in
      let on = next_is (suc m) session x (subst (λ (k : ℕ). is_at levels from (suc k) x ≡ true) same_level at.2) parts.0 in
      let nearer : level_of levels (next (suc m) session) ≡ suc m = eqb-true (level_of levels (next (suc m) session)) (suc m) on.at in
      elim (cases_eq (next (suc m) session) x) [
        | inl same ↦
            let later = walk_first m (next (suc m) session) nearer (omega arith) rest (rw same parts.1) (omega (arith, long)) in
            let equal : (next (suc m) session == x) ≡ true = eq-eqb (next (suc m) session) x same in
            rw (equal, later) (elim (nat_lt (next (suc m) session) x) as (λ b. (b || true) ≡ true) [ true ↦ refl | false ↦ refl ])
        | inr apart ↦
            let less : nat_lt (next (suc m) session) x ≡ true = grind (arith, nat_tests, on.lower, apart) in
            rw less refl
      ]

  -- and none is shorter
  walk_shortest : (m session : ℕ) → level_of levels session ≡ suc m → m < reach
      → (other : List ℕ) → leads waits from session other ≡ true → m ≤ length other
  walk_shortest m session is near other leading = elim (cases_lt (length other) m) [
    | inl shorter ↦
        let there = all_reached waits from levels reach searched (length other) (near_enough (length other) (omega arith)) other session leading (omega arith) in
        absurd (omega (arith, there.1, is, shorter))
    | inr longer ↦ longer
  ]

  walk_chosen : (m session : ℕ) → level_of levels session ≡ suc m → m < reach
      → (other : List ℕ) → leads waits from session other ≡ true → is_chosen_before (session ∷ walked m (next m session)) (session ∷ other) ≡ true
  walk_chosen m session is near other leading =
      let long = length_walk waits from levels m (next m session) in
      let shortest = walk_shortest m session is near other leading in
      elim (cases_eq m (length other)) [
        | inl same ↦
            let first = walk_first m session is near other leading (sym same) in
            grind (arith, nat_tests, long, same, first)
        | inr apart ↦ grind (arith, nat_tests, long, shortest, apart)
      ]

-- ---- the chosen cycle

-- a cycle leads back to its first session
pub cycle_leads : (waits : ℕ → ℕ → Bool) (from : ℕ) (cycle : List ℕ) → IsCycleThrough waits from cycle
    → (rest : List ℕ) × (cycle ≡ from ∷ rest) × (leads waits from from rest ≡ true)
cycle_leads waits from [] is = absurd (false≢true is)
cycle_leads waits from (first ∷ rest) is =
    let parts = and_parts (first == from && are_distinct (first ∷ rest)) (leads waits from first rest) is in
    let begins = eqb-true first from (and_parts (first == from) (are_distinct (first ∷ rest)) parts.0).0 in
    (rest, ap (λ (s : ℕ). s ∷ rest) begins, subst (λ (s : ℕ). leads waits from s rest ≡ true) begins parts.1)

-- where the session that was asked for wasn't reached, it has no cycle
pub no_cycle : (waits : ℕ → ℕ → Bool) (from : ℕ) (levels : List ℕ) → IsOver waits from levels → level_of levels from ≡ 0
    → (cycle : List ℕ) → IsCycleThrough waits from cycle → ⊥
no_cycle waits from levels over none cycle is =
    let back = cycle_leads waits from cycle is in
    let there = all_reached waits from levels over.reach over.searched (length back.0) (λ m next at short. over.over none m next at) back.0 from back.2 (omega arith) in
    absurd (omega (arith, there.0, none))

-- and otherwise the walk is one, and before all others
pub record IsChosen (waits : ℕ → ℕ → Bool) (from : ℕ) (cycle : List ℕ) : Type 0 where
  pub is : IsCycleThrough waits from cycle
  pub first : (other : List ℕ) → IsCycleThrough waits from other → IsTrue (is_chosen_before cycle other)

pub walk_is_chosen : (waits : ℕ → ℕ → Bool) (from : ℕ) (levels : List ℕ) → IsOver waits from levels → 0 < level_of levels from
    → IsChosen waits from (walk waits from levels (level_of levels from) from)
walk_is_chosen waits from levels over found =
    let m : ℕ = level_of levels from - 1 in
    let is : level_of levels from ≡ suc m = omega (arith, found) in
    let near : m < over.reach = omega (arith, is, over.searched.within from) in
    let inside = level_inside levels from found in
    let begins : (from == from) ≡ true = grind (arith, nat_tests) in
    let distinct = walk_distinct waits from levels over.reach over.searched inside m from is in
    let leading = walk_leads waits from levels over.reach over.searched inside m from is in
    subst (λ (n : ℕ). IsChosen waits from (walk waits from levels n from)) (sym is) (record {
      is = rw (begins, distinct, leading) refl;
      first = λ other cycle.
          let other_back = cycle_leads waits from other cycle in
          subst (λ (o : List ℕ). is_chosen_before (from ∷ walk waits from levels m (next_of waits from levels m from)) o ≡ true) (sym other_back.1)
          (walk_chosen waits from levels over.reach over.searched inside m from is near other_back.0 other_back.2);
    })

-- it has two sessions at least, where nobody waits for itself
pub walk_of_two : (waits : ℕ → ℕ → Bool) (from : ℕ) (levels : List ℕ) → IsOver waits from levels → waits from from ≡ false → 0 < level_of levels from → 2 ≤ level_of levels from
walk_of_two waits from levels over apart some = elim (cases_lt (level_of levels from) 2) [
  | inl less ↦
      let one : level_of levels from ≡ suc 0 = omega (arith, less, some) in
      let back = over.searched.sound from 0 one in
      absurd (false≢true (sym apart ∙ subst (λ (x : ℕ). waits from x ≡ true) (eqb-true back.0 from back.2) back.1))
  | inr more ↦ more
]

-- the same waits are searched alike
pub over-same : (one two : ℕ → ℕ → Bool) (from : ℕ) (levels : List ℕ) → ((a b : ℕ) → one a b ≡ two a b) → IsOver one from levels → IsOver two from levels
over-same one two from levels same over = subst (λ (waits : ℕ → ℕ → Bool). IsOver waits from levels) (λ i a b. same a b i) over
