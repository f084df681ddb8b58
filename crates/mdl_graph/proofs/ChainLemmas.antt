-- Links among the sessions that are equally many steps away.
use Rattle.std.proofs.Common.{◌≡◌, ◌≢◌, ℕ, zero, suc, ◌≤◌, ◌<◌, ◌+◌, ◌-◌, List, length, refl, ap, sym, subst, ◌∙◌, inl, inr, arith, get_or-set_same, get_or-set_other}
use Rattle.std.specs.Prelude.{slice_set, slice_index}
use Rattle.std.proofs.lemmas.Bool.{cases_eq, cases_lt}
use Rattle.std.proofs.lemmas.List.{length-set}
use Rattle.mdl_graph.specs.Searches.{IsFirst, AreChained, level_of}

-- ---- one session more

-- it is the first of its number
first-new : (levels : List ℕ) (steps session : ℕ) → session < length levels → level_of levels session ≡ steps → IsFirst levels steps session (suc session)
first-new levels steps session inside is = record {
  here = λ other same. let at : other ≡ session = omega (arith, same) in rw at (omega arith, inside, is);
  none = λ other from within level. (omega arith, omega (arith, from));
}

-- and of no other number
first-other : (levels : List ℕ) (steps session at : ℕ) → (level_of levels session ≢ steps) → IsFirst levels steps (suc session) at → IsFirst levels steps session at
first-other levels steps session at apart is = record {
  here = λ other same. let was = is.here other same in (omega (arith, was.0), was.1, was.2);
  none = λ other from within level. elim (cases_lt session other) [
    | inl later ↦ is.none other (omega (arith, later)) within level
    | inr here ↦ let same : other ≡ session = omega (arith, from, here) in absurd (apart (sym (ap (level_of levels) same) ∙ level))
  ];
}

pub chained-more : (levels firsts afters : List ℕ) (session more : ℕ) → more ≡ suc session → session < length levels → level_of levels session < length firsts
    → AreChained levels firsts afters more
    → AreChained levels (slice_set firsts (level_of levels session) (session + 1)) (slice_set afters session (slice_index firsts (level_of levels session))) session
chained-more levels firsts afters session more is_more inside near chained =
    let level : ℕ = level_of levels session in
    let next : ℕ = slice_index firsts level in
    let one : session + 1 ≡ suc session = omega arith in
    record {
      same = length-set afters session next ∙ chained.same;
      first = λ steps short. elim (cases_eq steps level) [
        | inl same ↦
            let at : slice_index (slice_set firsts level (session + 1)) steps ≡ suc session = rw same (get_or-set_same firsts level (session + 1) 0 near ∙ one) in
            rw at (first-new levels steps session inside (sym same))
        | inr apart ↦
            let at : slice_index (slice_set firsts level (session + 1)) steps ≡ slice_index firsts steps = get_or-set_other firsts level steps (session + 1) 0 apart in
            let was : IsFirst levels steps (suc session) (slice_index firsts steps) =
            subst (λ (least : ℕ). IsFirst levels steps least (slice_index firsts steps)) is_more
            (chained.first steps (omega (arith, short, length-set firsts level (session + 1)))) in
            rw at (first-other levels steps session (slice_index firsts steps) (λ is. apart (sym is)) was)
      ];
      after = λ other from within reached. elim (cases_lt session other) [
        | inl later ↦
            let at : slice_index (slice_set afters session next) other ≡ slice_index afters other =
            get_or-set_other afters session other next 0 (λ same. omega (arith, later, same)) in
            rw at (chained.after other (omega (arith, later, is_more)) within (omega (arith, reached, length-set firsts level (session + 1))))
        | inr here ↦
            let same : other ≡ session = omega (arith, from, here) in
            let at : slice_index (slice_set afters session next) session ≡ next = get_or-set_same afters session next 0 (omega (arith, inside, chained.same)) in
            let was : IsFirst levels level (session + 1) next =
            subst (λ (least : ℕ). IsFirst levels level least next) (is_more ∙ sym one) (chained.first level near) in
            rw (same, at) was
      ];
    }

-- a session that is farther away than the links go
pub chained-skip : (levels firsts afters : List ℕ) (session more : ℕ) → more ≡ suc session → length firsts ≤ level_of levels session
    → AreChained levels firsts afters more → AreChained levels firsts afters session
chained-skip levels firsts afters session more is_more far chained = record {
  same = chained.same;
  first = λ steps short.
      first-other levels steps session (slice_index firsts steps) (λ is. omega (arith, is, far, short))
      (subst (λ (least : ℕ). IsFirst levels steps least (slice_index firsts steps)) is_more (chained.first steps short));
  after = λ other from within reached. elim (cases_lt session other) [
    | inl later ↦ chained.after other (omega (arith, later, is_more)) within reached
    | inr here ↦
        let same : other ≡ session = omega (arith, from, here) in
        absurd (omega (arith, far, reached, ap (level_of levels) same))
  ];
}

-- ---- the way from the first session of a number to its last

-- how many sessions are left from one on, by one more than its number; none by 0
abbrev pub left_from : ℕ → ℕ → ℕ
left_from count zero = zero
left_from count (suc session) = count - session

pub fewer_left : (count at after : ℕ) → 0 < at → at ≤ count → ((next : ℕ) → after ≡ suc next → (at ≤ next) × (next < count))
    → left_from count after < left_from count at
fewer_left count zero after some inside later = absurd (omega (arith, some))
fewer_left count (suc session) zero some inside later = omega (arith, inside)
fewer_left count (suc session) (suc next) some inside later = let on = later next refl in omega (arith, on.0, on.1)
