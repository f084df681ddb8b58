-- Members of lists in which one element comes, goes or is changed.
use Rattle.std.proofs.Common.{◌≡◌, ◌≢◌, ◌⊎◌, ◌↔◌, ℕ, zero, suc, ◌<◌, inl, inr, List, ◌∷◌, ◌++◌, length, refl, sym, subst, arith}
use Rattle.std.specs.Prelude.{Contains, slice_index_or}
use Rattle.std.proofs.lemmas.List.Elements.{Contains-append_left, Contains-append_right, Contains-append_cases}
use Rattle.mdl_system.specs.Events.{Gains, Loses, Replaces, LeavesOrder, TakesTurn}

module _ {T : Type 0} where
  pub Contains-cons_cases : (x : T) (xs : List T) (y : T) → Contains (x ∷ xs) y → Contains xs y ⊎ (y ≡ x)
  Contains-cons_cases x xs y among = go among.0 among.1 among.2
    where
      go : (k : ℕ) → k < length (x ∷ xs) → slice_index_or (x ∷ xs) k y ≡ y → Contains xs y ⊎ (y ≡ x)
      go zero lt e = inr (sym e)
      go (suc k) lt e = inl (k, omega arith, e)

  pub Contains-here : (x : T) (xs : List T) → Contains (x ∷ xs) x
  Contains-here x xs = (0, omega arith, refl)

  pub Contains-later : (x : T) (xs : List T) (y : T) → Contains xs y → Contains (x ∷ xs) y
  Contains-later x xs y among = (suc among.0, (let lt = among.1 in omega arith), among.2)

  -- ---- one in the middle

  pub middle : (before after : List T) (x : T) → Contains (before ++ x ∷ after) x
  middle before after x = Contains-append_right before (x ∷ after) x (Contains-here x after)

  pub around : (before after : List T) (x y : T) → Contains (before ++ after) y → Contains (before ++ x ∷ after) y
  around before after x y among = elim (Contains-append_cases before after y among) [
    | inl early ↦ Contains-append_left before (x ∷ after) y early
    | inr late ↦ Contains-append_right before (x ∷ after) y (Contains-later x after y late)
  ]

  pub around_cases : (before after : List T) (x y : T) → Contains (before ++ x ∷ after) y → Contains (before ++ after) y ⊎ (y ≡ x)
  around_cases before after x y among = elim (Contains-append_cases before (x ∷ after) y among) [
    | inl early ↦ inl (Contains-append_left before after y early)
    | inr late ↦ elim (Contains-cons_cases x after y late) [ inl later ↦ inl (Contains-append_right before after y later) | inr here ↦ inr here ]
  ]

  pub within : (xs ys : List T) (x : T) → xs ≡ ys → Contains xs x → Contains ys x
  within xs ys x e among = subst (λ zs. Contains zs x) e among

  -- ---- one that goes

  pub gone-before : (x : T) (old new : List T) → LeavesOrder x old new → (y : T) → Contains new y → Contains old y
  gone-before x old new leaves y among = within _ old y (sym leaves.2) (around leaves.0 leaves.1 x y (within new _ y leaves.3 among))

  pub gone-after : (x : T) (old new : List T) → LeavesOrder x old new → (y : T) → Contains old y → Contains new y ⊎ (y ≡ x)
  gone-after x old new leaves y among = elim (around_cases leaves.0 leaves.1 x y (within old _ y leaves.2 among)) [
    | inl other ↦ inl (within _ new y (sym leaves.3) other)
    | inr same ↦ inr same
  ]

  -- ---- one that is changed

  pub changed-before : (x z : T) (old new : List T) → TakesTurn x z old new → (y : T) → Contains new y → Contains old y ⊎ (y ≡ z)
  changed-before x z old new turn y among = elim (around_cases turn.0 turn.1 z y (within new _ y turn.3 among)) [
    | inl other ↦ inl (within _ old y (sym turn.2) (around turn.0 turn.1 x y other))
    | inr same ↦ inr same
  ]

  pub changed-after : (x z : T) (old new : List T) → TakesTurn x z old new → (y : T) → Contains old y → Contains new y ⊎ (y ≡ x)
  changed-after x z old new turn y among = elim (around_cases turn.0 turn.1 x y (within old _ y turn.2 among)) [
    | inl other ↦ inl (within _ new y (sym turn.3) (around turn.0 turn.1 z y other))
    | inr same ↦ inr same
  ]

  pub changed-there : (x z : T) (old new : List T) → TakesTurn x z old new → Contains new z
  changed-there x z old new turn = within _ new z (sym turn.3) (middle turn.0 turn.1 z)

  -- ---- the members but for those that come and go

  pub gained-others : (t : T) (old new : List T) → Gains t old new → (x : T) → x ≢ t → Contains new x ↔ Contains old x
  gained-others t old new gains x other =
      ((λ among. elim ((gains x).0 among) [ inl before ↦ before | inr e ↦ absurd (other e) ]), λ among. (gains x).1 (inl among))

  pub lost-others : (t : T) (old new : List T) → Loses t old new → (x : T) → x ≢ t → Contains new x ↔ Contains old x
  lost-others t old new loses x other = ((λ among. ((loses x).0 among).0), λ among. (loses x).1 (among, other))

  pub replaced-others : (t u : T) (old new : List T) → Replaces t u old new → (x : T) → x ≢ t → x ≢ u → Contains new x ↔ Contains old x
  replaced-others t u old new replaces x not_t not_u =
      ((λ among. elim ((replaces x).0 among) [ inl before ↦ before.0 | inr e ↦ absurd (not_u e) ]), λ among. (replaces x).1 (inl (among, not_t)))
