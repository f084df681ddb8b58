-- How a search by every path goes on.
use Rattle.std.proofs.Common.{◌≡◌, take, get_or, ℕ, zero, suc, ◌+◌, ◌-◌, ◌<◌, ◌≤◌, true, false, not, ◌&&◌, cond, List, [], ◌∷◌, ◌++◌, length, map, Option, Some, None, refl, sym, ap, subst, ◌∙◌, ◌⊎◌, inl, inr, arith}
use Rattle.std.specs.Prelude.{◌==◌, filter}
use Rattle.std.specs.Option.{option_map}
use Rattle.std.specs.List.{list_any}
use Rattle.std.proofs.lemmas.Bool.{and_parts, and_from, not-true, not_from_false, eqb-true, eq-eqb, ne_eqb, false≢true, cases_eq}
use Rattle.std.proofs.lemmas.Bool.Decides.{nat_tests}
use Rattle.std.proofs.lemmas.List.{take_more, get_or_append_left}
use Rattle.std.proofs.lemmas.List.Elements.{Contains-get_or}
use Rattle.mdl_graph.proofs.MemberLemmas.{among_these, among_left, among_right, among_filter, among_filtered, mapped, flat_mapped, appended}
use Rattle.mdl_graph.specs.Members.{Among, AreAmong}
use Rattle.mdl_graph.specs.Cycles.{leads, are_distinct, is_cycle_through, IsCycleThrough, is_chosen_before, first_of, lists_of, chosen_cycle}
use Rattle.mdl_graph.proofs.CycleOrder.{before_total, before_trans}
use Rattle.mdl_graph.proofs.CycleLaws.{listed, at_most, chosen_of, none_of, cycle_distinct}
use Rattle.mdl_space_trials.specs.base.deadlocks.Ways.{Search, search_of, better_of, waits_by, IsWay, IsWayBy, IsChosenOf}

-- ---- the same session before two lists changes nothing

before_pushed : (x : ℕ) (one other : List ℕ) → is_chosen_before one other ≡ true → is_chosen_before (x ∷ one) (x ∷ other) ≡ true
before_pushed x one other before = grind (arith, nat_tests, before)

nothing_before : (other : List ℕ) → is_chosen_before [] other ≡ true
nothing_before [] = refl
nothing_before (y ∷ other) = grind (arith, nat_tests)

among_none : (x : ℕ) (xs : List ℕ) → list_any (λ other. x == other) xs ≡ false → Among x xs → ⊥
among_none x [] none among = among
among_none x (y ∷ xs) none (inl same) = absurd (grind (arith, nat_tests, same, none))
among_none x (y ∷ xs) none (inr later) = among_none x xs (grind (arith, nat_tests, none)) later

none_among : (x : ℕ) (xs : List ℕ) → (Among x xs → ⊥) → list_any (λ other. x == other) xs ≡ false
none_among x [] none = refl
none_among x (y ∷ xs) none =
    let here : (x == y) ≡ false = ne_eqb x y (λ same. none (inl same)) in
    let later : list_any (λ other. x == other) xs ≡ false = none_among x xs (λ among. none (inr among)) in
    grind (arith, here, later)

-- what `contains` answers, with the element first
pub stands_in : (x : ℕ) (xs : List ℕ) → list_any (λ other. other == x) xs ≡ true → Among x xs
stands_in x [] e = false≢true e
stands_in x (y ∷ xs) e = elim (cases_eq x y) [
  | inl same ↦ inl same
  | inr apart ↦ inr (stands_in x xs (grind (arith, nat_tests, ne_eqb y x (λ same. apart (sym same)))))
]

pub stands_not_in : (x : ℕ) (xs : List ℕ) → list_any (λ other. other == x) xs ≡ false → Among x xs → ⊥
stands_not_in x [] e among = among
stands_not_in x (y ∷ xs) e (inl same) = absurd (grind (arith, nat_tests, same, e))
stands_not_in x (y ∷ xs) e (inr later) = stands_not_in x xs (grind (arith, nat_tests, e)) later

-- ---- one step on

module _ (search : Search) (path : List ℕ) (last most : ℕ) where
  -- the last one waits for the first
  pub at_once : search.waits last search.from ≡ true → IsChosenOf (IsWay search path last most) (Some [])
  at_once back = (
    record {
      leading = back;
      distinct = refl;
      apart = λ session among on_path. among;
      within = λ session among. absurd among;
      short = omega arith;
    },
    λ other way. nothing_before other,
  )

  -- all were tried
  from_tried : search.waits last search.from ≡ false → (list : List ℕ) → IsWay search path last most list → IsWayBy search path last most search.sessions list
  from_tried apart [] way = absurd (false≢true (sym apart ∙ way.leading))
  from_tried apart (next ∷ rest) way = (way.within next (inl refl), way)

  to_way : (nexts list : List ℕ) → IsWayBy search path last most nexts list → IsWay search path last most list
  to_way nexts [] way = absurd way
  to_way nexts (next ∷ rest) way = way.1

  pub all_tried : search.waits last search.from ≡ false → (found : Option (List ℕ))
      → IsChosenOf (IsWayBy search path last most search.sessions) found → IsChosenOf (IsWay search path last most) found
  all_tried apart None none = λ other way. none other (from_tried apart other way)
  all_tried apart (Some list) chosen = (to_way search.sessions list chosen.0, λ other way. chosen.1 other (from_tried apart other way))

  -- ways that go on with one session more
  with_next : (nexts : List ℕ) (next : ℕ) (list : List ℕ) → IsWayBy search path last most nexts list → IsWayBy search path last most (nexts ++ next ∷ []) list
  with_next nexts next [] way = way
  with_next nexts next (x ∷ rest) way = (among_left x nexts (next ∷ []) way.0, way.1)

  by_next : (nexts : List ℕ) (next : ℕ) (x : ℕ) (rest : List ℕ) → IsWayBy search path last most (nexts ++ next ∷ []) (x ∷ rest)
      → IsWayBy search path last most nexts (x ∷ rest) ⊎ ((x ≡ next) × IsWay search path last most (next ∷ rest))
  by_next nexts next x rest way = elim (appended x nexts (next ∷ []) way.0) [
    | inl before ↦ inl (before, way.1)
    | inr here ↦ elim here [
      | inl same ↦ inr (same, subst (λ (y : ℕ). IsWay search path last most (y ∷ rest)) same way.1)
      | inr later ↦ absurd later
    ]
  ]

  -- a next one that no way goes on with
  pub no_more : (nexts : List ℕ) (next : ℕ) (best : Option (List ℕ)) → ((rest : List ℕ) → IsWay search path last most (next ∷ rest) → ⊥)
      → IsChosenOf (IsWayBy search path last most nexts) best → IsChosenOf (IsWayBy search path last most (nexts ++ next ∷ [])) best
  no_more nexts next None dead none = refuted where
    refuted : (other : List ℕ) → IsWayBy search path last most (nexts ++ next ∷ []) other → ⊥
    refuted [] way = way
    refuted (x ∷ rest) way = elim (by_next nexts next x rest way) [ inl before ↦ none (x ∷ rest) before | inr here ↦ dead rest here.1 ]
  no_more nexts next (Some list) dead chosen = (with_next nexts next list chosen.0, first) where
    first : (other : List ℕ) → IsWayBy search path last most (nexts ++ next ∷ []) other → is_chosen_before list other ≡ true
    first [] way = absurd way
    first (x ∷ rest) way = elim (by_next nexts next x rest way) [ inl before ↦ chosen.1 (x ∷ rest) before | inr here ↦ absurd (dead rest here.1) ]

  -- a next one that the last does not wait for
  pub not_waited : (next : ℕ) → search.waits last next ≡ false → (rest : List ℕ) → IsWay search path last most (next ∷ rest) → ⊥
  not_waited next apart rest way =
      false≢true (sym apart ∙ (and_parts (search.waits last next) (leads search.waits search.from next rest) way.leading).0)

  -- one on the path already
  pub on_path : (next : ℕ) → Among next path → (rest : List ℕ) → IsWay search path last most (next ∷ rest) → ⊥
  on_path next among rest way = way.apart next (inl refl) among

  -- ---- a next one that may lead on

  shorter : (next : ℕ) (rest : List ℕ) → IsWay search path last most (next ∷ rest) → IsWay search (path ++ next ∷ []) next (most - 1) rest
  shorter next rest way =
      let parts = and_parts (not (list_any (λ other. next == other) rest)) (are_distinct rest) way.distinct in
      record {
        leading = (and_parts (search.waits last next) (leads search.waits search.from next rest) way.leading).1;
        distinct = parts.1;
        apart = λ session among on. elim (appended session path (next ∷ []) on) [
          | inl before ↦ way.apart session (inr among) before
          | inr here ↦ elim here [
            | inl same ↦ among_none next rest (not-true (list_any (λ other. next == other) rest) parts.0) (subst (λ (x : ℕ). Among x rest) same among)
            | inr later ↦ later
          ]
        ];
        within = λ session among. way.within session (inr among);
        short = omega (arith, way.short);
      }

  longer : (next : ℕ) (rest : List ℕ) → search.waits last next ≡ true → (Among next path → ⊥) → Among next search.sessions → 0 < most
      → IsWay search (path ++ next ∷ []) next (most - 1) rest → IsWay search path last most (next ∷ rest)
  longer next rest waited off inside some_left way = record {
    leading = and_from (search.waits last next) (leads search.waits search.from next rest) waited way.leading;
    distinct = and_from (not (list_any (λ other. next == other) rest)) (are_distinct rest)
        (not_from_false (list_any (λ other. next == other) rest)
        (none_among next rest (λ among. way.apart next among (among_right next path (next ∷ []) (inl refl)))))
        way.distinct;
    apart = λ session among on. elim among [
      | inl same ↦ off (subst (λ (x : ℕ). Among x path) same on)
      | inr later ↦ way.apart session later (among_left session path (next ∷ []) on)
    ];
    within = λ session among. elim among [
      | inl same ↦ subst (λ (x : ℕ). Among x search.sessions) (sym same) inside
      | inr later ↦ way.within session later
    ];
    short = omega (arith, way.short, some_left);
  }

  -- that leads nowhere
  pub nowhere : (nexts : List ℕ) (next : ℕ) (best : Option (List ℕ)) → IsChosenOf (IsWay search (path ++ next ∷ []) next (most - 1)) None
      → IsChosenOf (IsWayBy search path last most nexts) best → IsChosenOf (IsWayBy search path last most (nexts ++ next ∷ [])) best
  nowhere nexts next best none = no_more nexts next best (λ rest way. none rest (shorter next rest way))

  -- or by a chosen way
  pub somewhere : (nexts : List ℕ) (next : ℕ) (best : Option (List ℕ)) (rest : List ℕ)
      → search.waits last next ≡ true → (Among next path → ⊥) → Among next search.sessions → 0 < most
      → IsChosenOf (IsWay search (path ++ next ∷ []) next (most - 1)) (Some rest)
      → IsChosenOf (IsWayBy search path last most nexts) best
      → IsChosenOf (IsWayBy search path last most (nexts ++ next ∷ [])) (Some (first_of (next ∷ rest) best))
  somewhere nexts next None rest waited off inside some_left on none =
      ((among_right next nexts (next ∷ []) (inl refl), longer next rest waited off inside some_left on.0), first) where
        first : (other : List ℕ) → IsWayBy search path last most (nexts ++ next ∷ []) other → is_chosen_before (next ∷ rest) other ≡ true
        first [] way = absurd way
        first (x ∷ others) way = elim (by_next nexts next x others way) [
          | inl before ↦ absurd (none (x ∷ others) before)
          | inr here ↦ subst (λ (y : ℕ). is_chosen_before (next ∷ rest) (y ∷ others) ≡ true) (sym here.0)
              (before_pushed next rest others (on.1 others (shorter next others here.1)))
        ]
  somewhere nexts next (Some list) rest waited off inside some_left on chosen =
      elim (is_chosen_before (next ∷ rest) list) as (λ b. is_chosen_before (next ∷ rest) list ≡ b
      → IsChosenOf (IsWayBy search path last most (nexts ++ next ∷ [])) (Some (cond b (next ∷ rest) list))) [
        | true ↦ λ e. (
          (among_right next nexts (next ∷ []) (inl refl), longer next rest waited off inside some_left on.0),
          λ other way. elim (either other way) [
            | inl before ↦ before_trans (next ∷ rest) list other e (chosen.1 other before)
            | inr after ↦ after
          ],
        )
        | false ↦ λ e. (
          with_next nexts next list chosen.0,
          λ other way. elim (either other way) [
            | inl before ↦ chosen.1 other before
            | inr after ↦ before_trans list (next ∷ rest) other
                (elim (before_total (next ∷ rest) list) [ inl first ↦ absurd (false≢true (sym e ∙ first)) | inr second ↦ second ]) after
          ],
        )
      ] refl
    where
      either : (other : List ℕ) → IsWayBy search path last most (nexts ++ next ∷ []) other
          → IsWayBy search path last most nexts other ⊎ (is_chosen_before (next ∷ rest) other ≡ true)
      either [] way = absurd way
      either (x ∷ others) way = elim (by_next nexts next x others way) [
        | inl before ↦ inl before
        | inr here ↦ inr (subst (λ (y : ℕ). is_chosen_before (next ∷ rest) (y ∷ others) ≡ true) (sym here.0)
            (before_pushed next rest others (on.1 others (shorter next others here.1))))
      ]

-- ---- the whole

listed_within : (sessions : List ℕ) (n : ℕ) (list : List ℕ) → Among list (lists_of sessions n) → AreAmong list sessions
listed_within sessions zero list (inl same) = λ session among. absurd (subst (λ (xs : List ℕ). Among session xs) same among)
listed_within sessions zero list (inr later) = absurd later
listed_within sessions (suc n) list (inl same) = λ session among. absurd (subst (λ (xs : List ℕ). Among session xs) same among)
listed_within sessions (suc n) list (inr later) =
    let rest = flat_mapped (λ (rest : List ℕ). map (λ session. session ∷ rest) sessions) list (lists_of sessions n) later in
    let first = mapped (λ (session : ℕ). session ∷ rest.0) list sessions rest.2 in
    λ session among. elim (subst (λ (xs : List ℕ). Among session xs) first.2 among) [
      | inl same ↦ subst (λ (x : ℕ). Among x sessions) (sym same) first.1
      | inr after ↦ listed_within sessions n rest.0 rest.1 session after
    ]

-- a cycle of these sessions is a way on from its first one
cycle_way : (search : Search) (first : ℕ) (rest : List ℕ) → IsCycleThrough search.waits search.from (first ∷ rest) → AreAmong (first ∷ rest) search.sessions
    → (first ≡ search.from) × IsWay search (search.from ∷ []) search.from (length search.sessions) rest
cycle_way search first rest is within =
    let parts = and_parts (first == search.from && are_distinct (first ∷ rest)) (leads search.waits search.from first rest) is in
    let begun = and_parts (first == search.from) (are_distinct (first ∷ rest)) parts.0 in
    let apart = and_parts (not (list_any (λ other. first == other) rest)) (are_distinct rest) begun.1 in
    let same : first ≡ search.from = eqb-true first search.from begun.0 in
    let most : length (first ∷ rest) ≤ length search.sessions = at_most (first ∷ rest) search.sessions begun.1 within in (
      same,
      record {
        leading = subst (λ (x : ℕ). leads search.waits search.from x rest ≡ true) same parts.1;
        distinct = apart.1;
        apart = λ session among on. elim on [
          | inl at ↦ among_none first rest (not-true (list_any (λ other. first == other) rest) apart.0)
              (subst (λ (x : ℕ). Among x rest) (at ∙ sym same) among)
          | inr later ↦ later
        ];
        within = λ session among. within session (inr among);
        short = omega (arith, most);
      },
    )

way_cycle : (search : Search) (rest : List ℕ) → IsWay search (search.from ∷ []) search.from (length search.sessions) rest
    → IsCycleThrough search.waits search.from (search.from ∷ rest)
way_cycle search rest way =
    and_from (search.from == search.from && are_distinct (search.from ∷ rest)) (leads search.waits search.from search.from rest)
    (and_from (search.from == search.from) (are_distinct (search.from ∷ rest)) (eq-eqb search.from search.from refl)
    (and_from (not (list_any (λ other. search.from == other) rest)) (are_distinct rest)
    (not_from_false (list_any (λ other. search.from == other) rest)
    (none_among search.from rest (λ among. way.apart search.from among (inl refl))))
    way.distinct))
    way.leading

-- the chosen way on from a session gives the chosen cycle through it
pub found_chosen : (search : Search) (found : Option (List ℕ)) → Among search.from search.sessions
    → IsChosenOf (IsWay search (search.from ∷ []) search.from (length search.sessions)) found
    → chosen_cycle search.waits search.sessions search.from ≡ option_map (λ rest. search.from ∷ rest) found
found_chosen search None inside none =
    none_of (filter (is_cycle_through search.waits search.from) (lists_of search.sessions (length search.sessions))) refuted where
      refuted : (other : List ℕ) → Among other (filter (is_cycle_through search.waits search.from) (lists_of search.sessions (length search.sessions))) → ⊥
      refuted other among =
          let parts = among_filtered (is_cycle_through search.waits search.from) other (lists_of search.sessions (length search.sessions)) among in
          taken other parts.1 (listed_within search.sessions (length search.sessions) other parts.0)
        where
          taken : (list : List ℕ) → IsCycleThrough search.waits search.from list → AreAmong list search.sessions → ⊥
          taken [] is within = false≢true is
          taken (first ∷ rest) is within = none rest (cycle_way search first rest is within).1
found_chosen search (Some rest) inside chosen =
    let lists = lists_of search.sessions (length search.sessions) in
    let is : IsCycleThrough search.waits search.from (search.from ∷ rest) = way_cycle search rest chosen.0 in
    let within : AreAmong (search.from ∷ rest) search.sessions = λ session among. elim among [
      | inl same ↦ subst (λ (x : ℕ). Among x search.sessions) (sym same) inside
      | inr later ↦ chosen.0.within session later
    ] in
    let most : length (search.from ∷ rest) ≤ length search.sessions =
    at_most (search.from ∷ rest) search.sessions (cycle_distinct search.waits search.from (search.from ∷ rest) is) within in
    chosen_of (filter (is_cycle_through search.waits search.from) lists) (search.from ∷ rest)
    (among_filter (is_cycle_through search.waits search.from) (search.from ∷ rest) lists
    (listed search.sessions (search.from ∷ rest) (length search.sessions) within most) is)
    (λ other among. let parts = among_filtered (is_cycle_through search.waits search.from) other lists among in
    first other parts.1 (listed_within search.sessions (length search.sessions) other parts.0)) where
      first : (list : List ℕ) → IsCycleThrough search.waits search.from list → AreAmong list search.sessions → is_chosen_before (search.from ∷ rest) list ≡ true
      first [] is within = absurd (false≢true is)
      first (head ∷ others) is within =
          let way = cycle_way search head others is within in
          subst (λ (x : ℕ). is_chosen_before (search.from ∷ rest) (x ∷ others) ≡ true) (sym way.0)
          (before_pushed search.from rest others (chosen.1 others way.1))

-- where the session isn't one of these, no cycle of these goes through it
pub no_cycle_through : (search : Search) → (Among search.from search.sessions → ⊥) → chosen_cycle search.waits search.sessions search.from ≡ None
no_cycle_through search off = none_of (filter (is_cycle_through search.waits search.from) (lists_of search.sessions (length search.sessions))) refuted where
  refuted : (other : List ℕ) → Among other (filter (is_cycle_through search.waits search.from) (lists_of search.sessions (length search.sessions))) → ⊥
  refuted other among =
      let parts = among_filtered (is_cycle_through search.waits search.from) other (lists_of search.sessions (length search.sessions)) among in
      taken other parts.1 (listed_within search.sessions (length search.sessions) other parts.0)
    where
      taken : (list : List ℕ) → IsCycleThrough search.waits search.from list → AreAmong list search.sessions → ⊥
      taken [] is within = false≢true is
      taken (first ∷ rest) is within = off (subst (λ (x : ℕ). Among x search.sessions) (cycle_way search first rest is within).0 (within first (inl refl)))

-- ---- the search on these pairs, session by session

module _ (ties : List (ℕ × ℕ)) (sessions path : List ℕ) (last most : ℕ) where
  -- the next session leads nowhere
  pub step_dead : (i : ℕ) (best : Option (List ℕ)) → i < length sessions
      → (waits_by ties last (get_or sessions i 0) ≡ false) ⊎ (list_any (λ other. other == get_or sessions i 0) path ≡ true)
      → IsChosenOf (IsWayBy (search_of ties sessions path) path last most (take i sessions)) best
      → IsChosenOf (IsWayBy (search_of ties sessions path) path last most (take (i + 1) sessions)) best
  step_dead i best inside why so_far =
      let search = search_of ties sessions path in
      let next = get_or sessions i 0 in
      let dead : (rest : List ℕ) → IsWay search path last most (next ∷ rest) → ⊥ = elim why [
        | inl apart ↦ not_waited search path last most next apart
        | inr on ↦ on_path search path last most next (stands_in next path on)
      ] in
      subst (λ (nexts : List ℕ). IsChosenOf (IsWayBy search path last most nexts) best) (sym (take_more sessions i 0 inside))
      (no_more search path last most (take i sessions) next best dead so_far)

  -- the next session leads on, or nowhere
  pub step_on : (i : ℕ) (best found way : Option (List ℕ)) (longer : List ℕ) → i < length sessions → 0 < length path → 0 < most
      → waits_by ties last (get_or sessions i 0) ≡ true → list_any (λ other. other == get_or sessions i 0) path ≡ false
      → longer ≡ path ++ get_or sessions i 0 ∷ []
      → IsChosenOf (IsWay (search_of ties sessions longer) longer (get_or sessions i 0) (most - 1)) way
      → found ≡ better_of best (get_or sessions i 0) way
      → IsChosenOf (IsWayBy (search_of ties sessions path) path last most (take i sessions)) best
      → IsChosenOf (IsWayBy (search_of ties sessions path) path last most (take (i + 1) sessions)) found
  step_on i best found way longer inside begun some_left waited off is_longer on is_better so_far =
      let search = search_of ties sessions path in
      let next = get_or sessions i 0 in
      let from : get_or longer 0 0 ≡ get_or path 0 0 = ap (λ (xs : List ℕ). get_or xs 0 0) is_longer ∙ get_or_append_left path (next ∷ []) 0 0 begun in
      let same_search : search_of ties sessions longer ≡ search =
      ap (λ (first : ℕ). record { waits = waits_by ties; sessions = sessions; from = first }) from in
      let here : IsChosenOf (IsWay search (path ++ next ∷ []) next (most - 1)) way =
      subst (λ (xs : List ℕ). IsChosenOf (IsWay search xs next (most - 1)) way) is_longer
      (subst (λ (s : Search). IsChosenOf (IsWay s longer next (most - 1)) way) same_search on) in
      subst (λ (nexts : List ℕ). IsChosenOf (IsWayBy search path last most nexts) found) (sym (take_more sessions i 0 inside))
      (subst (IsChosenOf (IsWayBy search path last most (take i sessions ++ next ∷ []))) (sym is_better) (stepped way here))
    where
      stepped : (way : Option (List ℕ)) → IsChosenOf (IsWay (search_of ties sessions path) (path ++ get_or sessions i 0 ∷ []) (get_or sessions i 0) (most - 1)) way
          → IsChosenOf (IsWayBy (search_of ties sessions path) path last most (take i sessions ++ get_or sessions i 0 ∷ [])) (better_of best (get_or sessions i 0) way)
      stepped None none = nowhere (search_of ties sessions path) path last most (take i sessions) (get_or sessions i 0) best none so_far
      stepped (Some rest) some_way =
          somewhere (search_of ties sessions path) path last most (take i sessions) (get_or sessions i 0) best rest waited
          (stands_not_in (get_or sessions i 0) path off) (among_these sessions (get_or sessions i 0) (Contains-get_or sessions i 0 inside)) some_left some_way so_far
