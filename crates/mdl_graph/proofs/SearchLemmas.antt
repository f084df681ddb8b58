-- A search that goes one step further.
use Rattle.std.proofs.Common.{◌≡◌, ℕ, zero, suc, ◌≤◌, ◌<◌, Bool, true, false, not, List, refl, sym, subst, ◌∙◌, ◌⊎◌, inl, inr, arith}
use Rattle.std.specs.Prelude.{◌&&◌, ◌==◌}
use Rattle.std.specs.List.{list_any}
use Rattle.std.proofs.lemmas.Bool.{cases_order, false≢true, eqb-true, eq-eqb}
use Rattle.std.proofs.lemmas.Bool.Decides.{nat_tests}
use Rattle.std.proofs.lemmas.List.Folds.{Any-from_list_any, list_any-from_Any}
use Rattle.mdl_graph.specs.Searches.{stands_in, level_of, opened, is_at, IsSearched, IsOver}

-- what is known stays
pub opened-known : (steps : ℕ) (is_open : Bool) (known k : ℕ) → known ≡ suc k → opened steps is_open known ≡ suc k
opened-known steps is_open known k is = let some : (known == 0) ≡ false = grind (arith, nat_tests, is) in rw some is

-- and what isn't is the step, where it is open
pub opened-new : (steps : ℕ) (is_open : Bool) (known k : ℕ) → known ≡ 0 → opened steps is_open known ≡ suc k → (is_open ≡ true) × (steps ≡ suc k)
opened-new steps is_open known k none is =
    let empty : (known == 0) ≡ true = grind (arith, nat_tests, none) in
    elim is_open as (λ b. opened steps b known ≡ suc k → (b ≡ true) × (steps ≡ suc k)) [
      | true ↦ λ e. (refl, (rw empty at e))
      | false ↦ λ e. absurd (let bad : known ≡ suc k = rw empty at e in omega (arith, bad, none))
    ] is

zero_or_more : (k : ℕ) → (k ≡ 0) ⊎ ((m : ℕ) × (k ≡ suc m))
zero_or_more zero = inl refl
zero_or_more (suc m) = inr (m, refl)

module _ (waits : ℕ → ℕ → Bool) (from n : ℕ) (old new : List ℕ) (front : List ℕ)
    (searched : IsSearched waits from old n) (at_front : (session : ℕ) → stands_in front session ≡ is_at old from n session)
    (steps : (session : ℕ) → level_of new session ≡ opened (suc n) (list_any (waits session) front) (level_of old session)) where
  -- what was reached stays
  kept : (session k : ℕ) → level_of old session ≡ suc k → level_of new session ≡ suc k
  kept session k was = steps session ∙ opened-known (suc n) (list_any (waits session) front) (level_of old session) k was

  -- who is new waits for one of those that were looked at
  record IsNew (session k : ℕ) : Type 0 where
    first : level_of old session ≡ 0
    here : n ≡ k
    next : ℕ
    waiting : waits session next ≡ true
    at : is_at old from n next ≡ true

  found : (session k : ℕ) → level_of new session ≡ suc k → (level_of old session ≡ suc k) ⊎ IsNew session k
  found session k is = elim (zero_or_more (level_of old session)) [
    | inl none ↦
        let open_now = opened-new (suc n) (list_any (waits session) front) (level_of old session) k none (sym (steps session) ∙ is) in
        let any = Any-from_list_any (waits session) front open_now.0 in
        inr (record {
          first = none;
          here = omega (arith, open_now.1);
          next = any.1;
          waiting = any.4;
          at = sym (at_front any.1) ∙ list_any-from_Any (λ other. any.1 == other) front (any.0, any.1, any.2, any.3, eq-eqb any.1 any.1 refl);
        })
    | inr some ↦ inl (some.1 ∙ sym (kept session some.0 some.1) ∙ is)
  ]

  at_kept : (m session : ℕ) → is_at old from m session ≡ true → is_at new from m session ≡ true
  at_kept zero session at = at
  at_kept (suc m) session at = eq-eqb (level_of new session) (suc m) (kept session m (eqb-true (level_of old session) (suc m) at))

  at_old : (m session : ℕ) → m ≤ n → is_at new from m session ≡ true → is_at old from m session ≡ true
  at_old zero session near at = at
  at_old (suc m) session near at = elim (found session m (eqb-true (level_of new session) (suc m) at)) [
    | inl was ↦ eq-eqb (level_of old session) (suc m) was
    | inr is ↦ absurd (omega (arith, is.here, near))
  ]

  -- a session that waits for one of those that are looked at
  best_here : (next session : ℕ) → is_at old from n next ≡ true → waits session next ≡ true → (0 < level_of new session) × (level_of new session ≤ suc n)
  best_here next session at waiting = elim (zero_or_more (level_of old session)) [
    | inl none ↦
        let stands = Any-from_list_any (λ other. next == other) front (at_front next ∙ at) in
        let is_open : list_any (waits session) front ≡ true =
        list_any-from_Any (waits session) front (stands.0, stands.1, stands.2, stands.3, subst (λ (x : ℕ). waits session x ≡ true) (eqb-true next stands.1 stands.4) waiting) in
        let empty : (level_of old session == 0) ≡ true = eq-eqb (level_of old session) 0 none in
        let is : level_of new session ≡ suc n = steps session ∙ rw (empty, is_open) refl in
        (omega (arith, is), omega (arith, is))
    | inr some ↦ (omega (arith, kept session some.0 some.1), omega (arith, kept session some.0 some.1, some.1, searched.within session))
  ]

  best : (m next session : ℕ) → m < suc n → is_at new from m next ≡ true → waits session next ≡ true → (0 < level_of new session) × (level_of new session ≤ suc m)
  best m next session near at waiting = elim (cases_order m n) [
    | inl same ↦
        let was : is_at old from n next ≡ true = subst (λ (k : ℕ). is_at old from k next ≡ true) same (at_old m next (omega arith) at) in
        let here = best_here next session was waiting in
        (here.0, omega (arith, here.1, same))
    | inr apart ↦ elim apart [
      | inl less ↦
          let was = searched.best m next session less (at_old m next (omega arith) at) waiting in
          elim (zero_or_more (level_of old session)) [
            | inl none ↦ absurd (omega (arith, was.0, none))
            | inr some ↦ (omega (arith, kept session some.0 some.1), omega (arith, kept session some.0 some.1, some.1, was.1))
          ]
      | inr more ↦ absurd (omega arith)
    ]
  ]

  pub further : IsSearched waits from new (suc n)
  further = record {
    sound = λ session m is. elim (found session m is) [
      | inl was ↦ let back = searched.sound session m was in (back.0, back.1, at_kept m back.0 back.2)
      | inr is ↦ (is.next, is.waiting, at_kept m is.next (subst (λ (k : ℕ). is_at old from k is.next ≡ true) is.here is.at))
    ];
    within = λ session. elim (zero_or_more (level_of new session)) [
      | inl none ↦ omega (arith, none)
      | inr some ↦ elim (found session some.0 some.1) [
        | inl was ↦ omega (arith, some.1, was, searched.within session)
        | inr is ↦ omega (arith, some.1, is.here)
      ]
    ];
    best = best;
  }

  -- those that were reached are those so many steps away
  pub reached_further : (session : ℕ) → ((level_of old session == 0) && not (level_of new session == 0)) ≡ is_at new from (suc n) session
  reached_further session = elim (zero_or_more (level_of new session)) [
    | inl none ↦
        let empty : (level_of new session == 0) ≡ true = eq-eqb (level_of new session) 0 none in
        let apart : (level_of new session == suc n) ≡ false = grind (arith, nat_tests, none) in
        rw (empty, apart) (elim (level_of old session == 0) as (λ b. (b && false) ≡ false) [ true ↦ refl | false ↦ refl ])
    | inr some ↦
        let full : (level_of new session == 0) ≡ false = grind (arith, nat_tests, some.1) in
        elim (found session some.0 some.1) [
          | inl was ↦
              let known : (level_of old session == 0) ≡ false = grind (arith, nat_tests, was) in
              let near : (level_of new session == suc n) ≡ false = grind (arith, nat_tests, some.1, was, searched.within session) in
              rw (known, near) refl
          | inr is ↦
              let unknown : (level_of old session == 0) ≡ true = eq-eqb (level_of old session) 0 is.first in
              let there : (level_of new session == suc n) ≡ true = grind (arith, nat_tests, some.1, is.here) in
              rw (unknown, full, there) refl
        ]
  ]

-- ---- the beginning and the end

-- where the session that was asked for was reached
pub over_found : (waits : ℕ → ℕ → Bool) (from : ℕ) (levels : List ℕ) (n : ℕ) → IsSearched waits from levels n
    → 0 < level_of levels from → IsOver waits from levels
over_found waits from levels n searched found = record {
  reach = n;
  searched = searched;
  over = λ none m session at. absurd (omega (arith, found, none));
}

-- nobody is farther away than was searched
too_far : (waits : ℕ → ℕ → Bool) (from : ℕ) (levels : List ℕ) (n : ℕ) → IsSearched waits from levels n
    → (m session : ℕ) → n < m → is_at levels from m session ≡ true → ⊥
too_far waits from levels n searched zero session more at = absurd (omega arith)
too_far waits from levels n searched (suc m) session more at =
    absurd (omega (arith, searched.within session, eqb-true (level_of levels session) (suc m) at, more))

-- where nobody is so many steps away
pub over_none : (waits : ℕ → ℕ → Bool) (from : ℕ) (levels : List ℕ) (n : ℕ) → IsSearched waits from levels n
    → ((session : ℕ) → is_at levels from n session ≡ false) → IsOver waits from levels
over_none waits from levels n searched nobody = record {
  reach = n;
  searched = searched;
  over = λ none m session at. elim (cases_order m n) [
    | inl same ↦ absurd (false≢true (sym (nobody session) ∙ subst (λ (k : ℕ). is_at levels from k session ≡ true) same at))
    | inr apart ↦ elim apart [
      | inl less ↦ less
      | inr more ↦ absurd (too_far waits from levels n searched m session more at)
    ]
  ];
}
