-- Lists of a session's tickets, in which the one of a number at a place keeps the version that is noted under it.
use Rattle.std.proofs.Common.{◌≡◌, ◌≢◌, ℕ, ◌<◌, ◌==◌, Bool, true, not, cond, inl, inr, List, [], ◌∷◌, ◌++◌, map, Some, refl, sym, ap, ◌∙◌, subst, arith, Contains, Option, eq-eqb, eqb-true}
use Rattle.mdl_steps_laws.proofs.Common.{Alter, BookView, Contains-append_cases, Contains-append_left, Contains-append_right, Contains-cons_cases, Contains-here, Contains-later, Contains-map, Contains-map_from, Contains-none, Contains-push_cases, Deed, Gain, Lose, May, MayAll, Mode, SessionTicket, View, all_owned, and_parts, booked, by_bool, done, filter, is_own, next_after, note_at, noting_version, owned}

-- ---- filtered lists

module _ {X : Type 0} (p : X → Bool) where
  pub among_filter : (xs : List X) (x : X) → Contains (filter p xs) x → Contains xs x
  among_filter [] x among = absurd (Contains-none x among)
  among_filter (y ∷ ys) x among = by_bool (p y)
      (λ in_. let first : Contains (y ∷ filter p ys) x = rw in_ at among in elim (Contains-cons_cases y (filter p ys) x first) [
        | inl later ↦ Contains-later y ys x (among_filter ys x later)
        | inr e ↦ subst (Contains (y ∷ ys)) (sym e) (Contains-here y ys)
      ])
      (λ out. let rest : Contains (filter p ys) x = rw out at among in Contains-later y ys x (among_filter ys x rest))

  pub filter_among : (xs : List X) (x : X) → Contains xs x → p x ≡ true → Contains (filter p xs) x
  filter_among [] x among passes = absurd (Contains-none x among)
  filter_among (y ∷ ys) x among passes = elim (Contains-cons_cases y ys x among) [
    | inl later ↦ by_bool (p y)
        (λ in_. rw in_ (Contains-later y (filter p ys) x (filter_among ys x later passes)))
        (λ out. rw out (filter_among ys x later passes))
    | inr e ↦ (let first : p y ≡ true = ap p (sym e) ∙ passes in rw first (subst (Contains (y ∷ filter p ys)) (sym e) (Contains-here y (filter p ys))))
  ]

  pub filter_passes : (xs : List X) (x : X) → Contains (filter p xs) x → p x ≡ true
  filter_passes [] x among = absurd (Contains-none x among)
  filter_passes (y ∷ ys) x among = by_bool (p y)
      (λ in_. let first : Contains (y ∷ filter p ys) x = rw in_ at among in elim (Contains-cons_cases y (filter p ys) x first) [
        | inl later ↦ filter_passes ys x later
        | inr e ↦ ap p e ∙ in_
      ])
      (λ out. let rest : Contains (filter p ys) x = rw out at among in filter_passes ys x rest)

-- ---- the ticket of a number at a place

pub own_parts : (place number : ℕ) (t : SessionTicket) → is_own place number t ≡ true → (t.place ≡ place) × (t.number ≡ number)
own_parts place number t is = let parts = and_parts (t.place == place) (t.number == number) is in (eqb-true _ _ parts.0, eqb-true _ _ parts.1)

pub own_is : (place number : ℕ) (t : SessionTicket) → t.place ≡ place → t.number ≡ number → is_own place number t ≡ true
own_is place number t here same = rw (eq-eqb t.place place here, eq-eqb t.number number same) refl

module _ (place number version : ℕ) where
  -- the tickets of this number there: each was there before, with the note if that had it; and where there was one there is one
  pub record Kept (old new : List SessionTicket) : Type 0 where
    pub back : (t : SessionTicket) → Contains new t → is_own place number t ≡ true → (u : SessionTicket) × Contains old u × (is_own place number u ≡ true) × (u.noted ≡ Some version → t.noted ≡ Some version)
    pub ahead : (u : SessionTicket) → Contains old u → is_own place number u ≡ true → (t : SessionTicket) × Contains new t × (is_own place number t ≡ true)

  pub kept_same : (xs : List SessionTicket) → Kept xs xs
  kept_same xs = record { back = λ t among is. (t, among, is, λ e. e); ahead = λ t among is. (t, among, is) }

  pub kept_then : (xs ys zs : List SessionTicket) → Kept xs ys → Kept ys zs → Kept xs zs
  kept_then xs ys zs one two = record {
    back = λ t among is. (let u = two.back t among is in let v = one.back u.0 u.1 u.2 in (v.0, v.1, v.2, λ e. u.3 (v.3 e)));
    ahead = λ t among is. (let u = one.ahead t among is in two.ahead u.0 u.1 u.2);
  }

  pub kept_both : (xs xs′ ys ys′ : List SessionTicket) → Kept xs xs′ → Kept ys ys′ → Kept (xs ++ ys) (xs′ ++ ys′)
  kept_both xs xs′ ys ys′ one two = record {
    back = λ t among is. elim (Contains-append_cases xs′ ys′ t among) [
      | inl left ↦ (let u = one.back t left is in (u.0, Contains-append_left xs ys u.0 u.1, u.2, u.3))
      | inr right ↦ (let u = two.back t right is in (u.0, Contains-append_right xs ys u.0 u.1, u.2, u.3))
    ];
    ahead = λ t among is. elim (Contains-append_cases xs ys t among) [
      | inl left ↦ (let u = one.ahead t left is in (u.0, Contains-append_left xs′ ys′ u.0 u.1, u.2))
      | inr right ↦ (let u = two.ahead t right is in (u.0, Contains-append_right xs′ ys′ u.0 u.1, u.2))
    ];
  }

  -- one more of another number
  pub kept_push : (xs : List SessionTicket) (x : SessionTicket) → x.number ≢ number → Kept xs (xs ++ x ∷ [])
  kept_push xs x differs = record {
    back = λ t among is. elim (Contains-push_cases xs x t among) [
      | inl old ↦ (t, old, is, λ e. e)
      | inr new ↦ absurd (differs (ap (λ (o : SessionTicket). o.number) new ∙ (own_parts place number t is).1))
    ];
    ahead = λ t among is. (t, Contains-append_left xs (x ∷ []) t among, is);
  }

  -- each is changed to one of the same number and place, by which the note stays
  pub kept_map : (f : SessionTicket → SessionTicket) → ((t : SessionTicket) → is_own place number (f t) ≡ is_own place number t)
      → ((t : SessionTicket) → is_own place number t ≡ true → t.noted ≡ Some version → (f t).noted ≡ Some version) → (xs : List SessionTicket) → Kept xs (map f xs)
  kept_map f own notes xs = record {
    back = λ t among is.
        (let from = Contains-map_from f xs t among in
        let mine : is_own place number from.0 ≡ true = sym (own from.0) ∙ ap (is_own place number) (sym from.2) ∙ is in
        (from.0, from.1, mine, λ e. ap (λ (o : SessionTicket). o.noted) from.2 ∙ notes from.0 mine e));
    ahead = λ t among is. (f t, Contains-map f xs t among, own t ∙ is);
  }

  -- some go, but none of this number there
  pub kept_filter : (p : SessionTicket → Bool) → ((t : SessionTicket) → is_own place number t ≡ true → p t ≡ true) → (xs : List SessionTicket) → Kept xs (filter p xs)
  kept_filter p stays xs = record {
    back = λ t among is. (t, among_filter p xs t among, is, λ e. e);
    ahead = λ t among is. (t, filter_among p xs t among (stays t is), is);
  }

  -- a version is noted: where it is so there, that one
  pub kept_noting : (q noted : ℕ) → (q ≡ place → noted ≡ version) → (ts : List SessionTicket) → Kept ts (noting_version q noted ts)
  kept_noting q noted same ts = kept_map (λ t. cond (t.place == q) (record t { noted = Some noted }) t)
      (λ t. by_bool (t.place == q) (λ here. rw here refl) (λ away. rw away refl))
      (λ t mine was. by_bool (t.place == q)
      (λ here. rw here (ap (λ (n : ℕ). Some n) (same (sym (eqb-true t.place q here) ∙ (own_parts place number t mine).0))))
      (λ away. rw away was)) ts

  -- a deed at a place, by which it isn't lost
  pub kept_deed : (q : ℕ) (d : Deed) (ts : List SessionTicket) → ((n : ℕ) (mode : Mode) → d ≡ Gain n mode → n ≢ number) → (q ≡ place → d ≢ Lose number) → Kept ts (owned q d ts)
  kept_deed q (Gain n mode) ts new stays = kept_push ts (record { number = n; place = q; mode = mode; noted = note_at q ts }) (new n mode refl)
  kept_deed q (Alter n mode) ts new stays = kept_map (λ t. cond (is_own q n t) (record t { mode = mode }) t)
      (λ t. by_bool (is_own q n t) (λ hit. rw hit refl) (λ miss. rw miss refl))
      (λ t mine was. by_bool (is_own q n t) (λ hit. rw hit was) (λ miss. rw miss was)) ts
  kept_deed q (Lose n) ts new stays = kept_filter (λ t. not (is_own q n t))
      (λ t mine. by_bool (is_own q n t)
      (λ hit.
      let a = own_parts place number t mine in
      let b = own_parts q n t hit in
      absurd (stays (sym b.0 ∙ a.0) (ap (λ (m : ℕ). Lose m) (sym b.1 ∙ a.1))))
      (λ miss. rw miss refl)) ts

  -- several
  pub kept_deeds : (q : ℕ) (ds : List Deed) (v : View) (book : BookView) (noted : Option ℕ) → number < v.next → MayAll q v book noted ds → (q ≡ place → ¬ Contains ds (Lose number))
      → Kept v.slow (all_owned q ds v.slow)
  kept_deeds q [] v book noted below may stays = kept_same v.slow
  kept_deeds q (d ∷ ds) v book noted below may stays =
      kept_then v.slow (owned q d v.slow) (all_owned q ds (owned q d v.slow))
      (kept_deed q d v.slow (λ n mode is. new_number v book noted d may.0 n mode is below) (λ here is. stays here (subst (λ (x : Deed). Contains (x ∷ ds) (Lose number)) (sym is) (Contains-here (Lose number) ds))))
      (kept_deeds q ds (done q d v) (booked v.number d book) noted (grows d v.next below) may.1 (λ here among. stays here (Contains-later d ds (Lose number) among)))
    where
      grows : (d : Deed) (next : ℕ) → number < next → number < next_after d next
      grows (Gain n mode) next below = omega arith
      grows (Alter n mode) next below = below
      grows (Lose n) next below = below

      new_number : (v : View) (book : BookView) (noted : Option ℕ) (d : Deed) → May v book noted d → (n : ℕ) (mode : Mode) → d ≡ Gain n mode → number < v.next → n ≢ number
      new_number v book noted (Gain m mode′) may n mode is below same = (let is_next = may.0 in let e : m ≡ n = cc in omega arith)
      new_number v book noted (Alter m mode′) may n mode is below same = absurd (cc)
      new_number v book noted (Lose m) may n mode is below same = absurd (cc)
