-- Members of a granted list that loses a ticket, or has one in another mode.
use Rattle.std.proofs.Common.{◌≡◌, ◌≢◌, ℕ, true, inl, inr, List, [], ◌∷◌, ◌++◌, Some, None, sym, ap, ◌∙◌, subst, Contains}
use Rattle.mdl_steps_laws.proofs.Common.{Contains-cons_cases, Contains-here, Contains-later, Contains-none, Loses, Mode, Once, Replaces, Ticket, by_bool, in_mode, is_passed, is_ticket, ticket_of, with_mode, with_mode-hit, with_mode-miss, without, without-hit, without-miss}

-- ---- lists that begin alike

module _ {T : Type 0} where
  pub loses-first : (x t : T) (xs : List T) → x ≡ t → ((y : T) → Contains xs y → y ≢ t) → Loses t (x ∷ xs) xs
  loses-first x t xs same apart y = (
    (λ among. (Contains-later x xs y among, apart y among)),
    λ both. elim (Contains-cons_cases x xs y both.0) [ inl later ↦ later | inr here ↦ absurd (both.1 (here ∙ same)) ],
  )

  pub loses-later : (x t : T) (xs ys : List T) → x ≢ t → Loses t xs ys → Loses t (x ∷ xs) (x ∷ ys)
  loses-later x t xs ys differs loses y = (
    (λ among. elim (Contains-cons_cases x ys y among) [
      | inl later ↦ let was = (loses y).0 later in (Contains-later x xs y was.0, was.1)
      | inr here ↦ (subst (Contains (x ∷ xs)) (sym here) (Contains-here x xs), λ e. differs (sym here ∙ e))
    ]),
    λ both. elim (Contains-cons_cases x xs y both.0) [
      | inl later ↦ Contains-later x ys y ((loses y).1 (later, both.1))
      | inr here ↦ subst (Contains (x ∷ ys)) (sym here) (Contains-here x ys)
    ],
  )

  replaces-first : (x t u : T) (xs : List T) → x ≡ t → ((y : T) → Contains xs y → y ≢ t) → Replaces t u (x ∷ xs) (u ∷ xs)
  replaces-first x t u xs same apart y = (
    (λ among. elim (Contains-cons_cases u xs y among) [
      | inl later ↦ inl (Contains-later x xs y later, apart y later)
      | inr here ↦ inr here
    ]),
    λ either. elim either [
      | inl both ↦ elim (Contains-cons_cases x xs y both.0) [ inl later ↦ Contains-later u xs y later | inr here ↦ absurd (both.1 (here ∙ same)) ]
      | inr new ↦ subst (Contains (u ∷ xs)) (sym new) (Contains-here u xs)
    ],
  )

  replaces-later : (x t u : T) (xs ys : List T) → x ≢ t → Replaces t u xs ys → Replaces t u (x ∷ xs) (x ∷ ys)
  replaces-later x t u xs ys differs replaces y = (
    (λ among. elim (Contains-cons_cases x ys y among) [
      | inl later ↦ elim ((replaces y).0 later) [ inl was ↦ inl (Contains-later x xs y was.0, was.1) | inr new ↦ inr new ]
      | inr here ↦ inl (subst (Contains (x ∷ xs)) (sym here) (Contains-here x xs), λ e. differs (sym here ∙ e))
    ]),
    λ either. elim either [
      | inl both ↦ elim (Contains-cons_cases x xs y both.0) [
        | inl later ↦ Contains-later x ys y ((replaces y).1 (inl (later, both.1)))
        | inr here ↦ subst (Contains (x ∷ ys)) (sym here) (Contains-here x ys)
      ]
      | inr new ↦ Contains-later x ys y ((replaces y).1 (inr new))
    ],
  )

  pub loses-behind : (fs xs ys : List T) (t : T) → ((y : T) → Contains fs y → y ≢ t) → Loses t xs ys → Loses t (fs ++ xs) (fs ++ ys)
  loses-behind [] xs ys t apart loses = loses
  loses-behind (f ∷ fs) xs ys t apart loses =
      loses-later f t (fs ++ xs) (fs ++ ys) (apart f (Contains-here f fs)) (loses-behind fs xs ys t (λ y among. apart y (Contains-later f fs y among)) loses)

  pub replaces-behind : (fs xs ys : List T) (t u : T) → ((y : T) → Contains fs y → y ≢ t) → Replaces t u xs ys → Replaces t u (fs ++ xs) (fs ++ ys)
  replaces-behind [] xs ys t u apart replaces = replaces
  replaces-behind (f ∷ fs) xs ys t u apart replaces =
      replaces-later f t u (fs ++ xs) (fs ++ ys) (apart f (Contains-here f fs)) (replaces-behind fs xs ys t u (λ y among. apart y (Contains-later f fs y among)) replaces)

-- ---- the ticket of a session and number

module _ (session number : ℕ) where
  -- where none is found there is none
  pub none-passes : (ts : List Ticket) → ticket_of session number ts ≡ None → (t : Ticket) → Contains ts t → is_ticket session number t ≡ true → ⊥
  none-passes [] none t among is = Contains-none t among
  none-passes (x ∷ xs) none t among is = by_bool (is_ticket session number x)
      (λ hit. let found = rw hit at none in absurd (cc))
      (λ past. elim (Contains-cons_cases x xs t among) [
        | inl later ↦ none-passes xs (rw past at none) t later is
        | inr here ↦ let also : is_ticket session number x ≡ true = ap (is_ticket session number) (sym here) ∙ is in absurd (cc)
      ])

  -- what is found is one
  pub found-passes : (ts : List Ticket) (t : Ticket) → ticket_of session number ts ≡ Some t → is_ticket session number t ≡ true
  found-passes [] t found = absurd (cc)
  found-passes (x ∷ xs) t found = by_bool (is_ticket session number x)
      (λ hit. let first : Some x ≡ Some t = rw hit at found in let same : x ≡ t = cc in subst (λ y. is_ticket session number y ≡ true) same hit)
      (λ past. found-passes xs t (rw past at found))

  -- so it differs from each in a list where none is found
  pub found-apart : (t : Ticket) → is_ticket session number t ≡ true → (ts : List Ticket) → ticket_of session number ts ≡ None → (y : Ticket) → Contains ts y → y ≢ t
  found-apart t is ts none y among same = none-passes ts none y among (subst (λ u. is_ticket session number u ≡ true) (sym same) is)

  -- behind the first of its name there is none of it
  rest-none : (x : Ticket) (xs : List Ticket) → is_ticket session number x ≡ true → ticket_of x.session x.number xs ≡ None → ticket_of session number xs ≡ None
  rest-none x xs is none =
      let named = is_passed session number x is in
      subst (λ (a : ℕ). ticket_of a number xs ≡ None) named.0 (subst (λ (m : ℕ). ticket_of x.session m xs ≡ None) named.1 none)

  pub without-loses : (ts : List Ticket) → Once ts → (t : Ticket) → ticket_of session number ts ≡ Some t → Loses t ts (without session number ts)
  without-loses [] once t found = absurd (cc)
  without-loses (x ∷ xs) once t found =
      let is = found-passes (x ∷ xs) t found in
      by_bool (is_ticket session number x)
      (λ hit. let first : Some x ≡ Some t = rw hit at found in let same : x ≡ t = cc in
      subst (Loses t (x ∷ xs)) (sym (without-hit session number x xs hit)) (loses-first x t xs same (found-apart t is xs (rest-none x xs hit once.0))))
      (λ past. subst (Loses t (x ∷ xs)) (sym (without-miss session number x xs past))
      (loses-later x t xs (without session number xs) (λ e. let also : is_ticket session number x ≡ true = ap (is_ticket session number) e ∙ is in absurd (cc)) (without-loses xs once.1 t (rw past at found))))

  pub with_mode-replaces : (mode : Mode) (ts : List Ticket) → Once ts → (t : Ticket) → ticket_of session number ts ≡ Some t → Replaces t (in_mode mode t) ts (with_mode session number mode ts)
  with_mode-replaces mode [] once t found = absurd (cc)
  with_mode-replaces mode (x ∷ xs) once t found =
      let is = found-passes (x ∷ xs) t found in
      by_bool (is_ticket session number x)
      (λ hit. let first : Some x ≡ Some t = rw hit at found in let same : x ≡ t = cc in
      subst (Replaces t (in_mode mode t) (x ∷ xs)) (sym (with_mode-hit session number mode x xs hit ∙ ap (λ y. in_mode mode y ∷ xs) same))
      (replaces-first x t (in_mode mode t) xs same (found-apart t is xs (rest-none x xs hit once.0))))
      (λ past. subst (Replaces t (in_mode mode t) (x ∷ xs)) (sym (with_mode-miss session number mode x xs past))
      (replaces-later x t (in_mode mode t) xs (with_mode session number mode xs) (λ e. let also : is_ticket session number x ≡ true = ap (is_ticket session number) e ∙ is in absurd (cc)) (with_mode-replaces mode xs once.1 t (rw past at found))))
