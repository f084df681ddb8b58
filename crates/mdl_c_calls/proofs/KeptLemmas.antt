-- Whether a context keeps a ticket of a key shows in the keys at the places of its tickets.
use Rattle.std.proofs.Common.{◌≡◌, ℕ, Bool, true, false, ◌&&◌, ◌==◌, if◌then◌else◌, List, [], ◌∷◌, Option, Some, None, refl, sym, ap, ap₂, ◌∙◌, subst, arith, inl, inr}
use Rattle.std.specs.Prelude.{All, ◌||◌}
use Rattle.std.specs.List.{list_any}
use Rattle.std.specs.Option.{option_map_or}
use Rattle.std.proofs.lemmas.Bool.{false≢true}
use Rattle.std.proofs.lemmas.Bool.Decides.{eqb_tells, nat_tests}
use Rattle.std.proofs.lemmas.List.Elements.{All-head, All-tail}
use Rattle.mdl_key.specs.declared.mode.Mode.{Mode}
use Rattle.mdl_key.specs.Keys.{KeyName, key_eq}
use Rattle.mdl_system.specs.Strength.{covers}
use Rattle.mdl_system.proofs.Deciding.{key-Decides}
use Rattle.mdl_core.specs.Words.{Core, IsTied, Knows, has_key, key_at}
use Rattle.mdl_space.specs.CoreMembers.{core_space}
use Rattle.mdl_context.specs.declared.kept.Kept.{Kept}
use Rattle.mdl_context.specs.Contexts.{Attends, ContextView, covers_at, is_known_place, place_known}
use Rattle.mdl_context.proofs.AttendLemmas.{AreKnown, ArePlaced, known-there}
use Rattle.mdl_c_calls.specs.Listings.{is_place_of}

-- whether a ticket is of a key, in a mode at least as strong
abbrev pub is_of_key : KeyName → Mode → Core → Kept → Bool
is_of_key key mode space ticket = covers ticket.mode mode && is_place_of key ticket.place space

module _ (space : Core) (key : KeyName) where
  -- a place that has a key has this one, or another
  keyed : (place : ℕ) → has_key place space ≡ true → is_place_of key place space ≡ key_eq key (key_at place space)
  keyed place has = rw has refl

  unkeyed : (place : ℕ) → has_key place space ≡ false → is_place_of key place space ≡ false
  unkeyed place none = rw none refl

  -- a place where the key is
  found : (place : ℕ) → is_place_of key place space ≡ true → (has_key place space ≡ true) × (key_at place space ≡ key)
  found place is = by (has_key place space) refl where
    by : (has : Bool) → has_key place space ≡ has → (has_key place space ≡ true) × (key_at place space ≡ key)
    by true has = (has, sym ((key-Decides key (key_at place space)).0 (sym (keyed place has) ∙ is)))
    by false none = absurd (false≢true (sym (unkeyed place none) ∙ is))

  -- the key is at this place alone
  one-place : IsTied space → (place other : ℕ) → has_key place space ≡ true → key_at place space ≡ key → is_place_of key other space ≡ (other == place)
  one-place tied place other has is = by (is_place_of key other space) refl where
    by : (here : Bool) → is_place_of key other space ≡ here → here ≡ (other == place)
    by true here =
        let there = found other here in
        let same : other ≡ place = tied.keys other place there.0 has (there.1 ∙ sym is) in grind (arith, nat_tests)
    by false differs = elim (eqb_tells other place) [
      | inl same ↦ (
          let here : is_place_of key other space ≡ true = subst (λ p. is_place_of key p space ≡ true) (sym same.1) (keyed place has ∙ (key-Decides key (key_at place space)).1 (sym is)) in
          absurd (false≢true (sym differs ∙ here)))
      | inr not ↦ grind (arith, nat_tests, not.1)
    ]

  -- a key that isn't known is at no place of a known key
  unknown : (who : ℕ) (known : List (KeyName × ℕ)) (place : ℕ) → AreKnown Knows space who known → is_known_place known place ≡ true
      → place_known key known ≡ None → is_place_of key place space ≡ false
  unknown who [] place each there none = cc
  unknown who (entry ∷ known) place each there none =
      by (key_eq key entry.0) refl (entry.1 == place) refl
      (unknown who known place (All-tail (λ e. Knows space who e.1 e.0) entry known each))
    where
      by : (same : Bool) → key_eq key entry.0 ≡ same → (here : Bool) → (entry.1 == place) ≡ here
          → (is_known_place known place ≡ true → place_known key known ≡ None → is_place_of key place space ≡ false) → is_place_of key place space ≡ false
      by true same here is later = absurd (grind (arith, none, same))
      by false differs true is later =
          let at : entry.1 ≡ place = grind (arith, nat_tests, is) in
          let knows = subst (λ p. Knows space who p entry.0) at (All-head (λ e. Knows space who e.1 e.0) entry known each) in
          keyed place knows.0 ∙ ap (key_eq key) knows.1 ∙ differs
      by false differs false is later = later (grind (arith, there, is)) (grind (arith, none, differs))

  either-way : (a b : Bool) → (a && b) ≡ (b && a)
  either-way true true = refl
  either-way true false = refl
  either-way false true = refl
  either-way false false = refl

  -- the tickets at the place of a known key are those of the key
  at-place : IsTied space → (mode : Mode) (place : ℕ) → has_key place space ≡ true → key_at place space ≡ key → (kept : List Kept)
      → list_any (is_of_key key mode space) kept ≡ list_any (covers_at place mode) kept
  at-place tied mode place has is [] = refl
  at-place tied mode place has is (ticket ∷ kept) =
      ap₂ (λ (here later : Bool). here || later)
      (ap (λ (b : Bool). covers ticket.mode mode && b) (one-place tied place ticket.place has is) ∙ either-way (covers ticket.mode mode) (ticket.place == place))
      (at-place tied mode place has is kept)

  -- where the key isn't known, there are none
  nowhere : (who : ℕ) (known : List (KeyName × ℕ)) (mode : Mode) → AreKnown Knows space who known → place_known key known ≡ None → (kept : List Kept)
      → ArePlaced known kept → list_any (is_of_key key mode space) kept ≡ false
  nowhere who known mode each none [] placed = refl
  nowhere who known mode each none (ticket ∷ kept) placed =
      let here = unknown who known ticket.place each (All-head (λ (t : Kept). is_known_place known t.place ≡ true) ticket kept placed) none in
      ap₂ (λ (here later : Bool). here || later) (ap (λ (b : Bool). covers ticket.mode mode && b) here ∙ either-way (covers ticket.mode mode) false)
      (nowhere who known mode each none kept (All-tail (λ (t : Kept). is_known_place known t.place ≡ true) ticket kept placed))

  -- what a context tells of a key
  pub kept-by_key : (context : ContextView) (mode : Mode) → Attends core_space space context
      → list_any (is_of_key key mode space) context.kept
      ≡ option_map_or (λ place. list_any (covers_at place mode) context.kept) (place_known key context.known) false
  kept-by_key context mode attends = by (place_known key context.known) refl where
    by : (place : Option ℕ) → place_known key context.known ≡ place
        → list_any (is_of_key key mode space) context.kept ≡ option_map_or (λ place. list_any (covers_at place mode) context.kept) place false
    by None none = nowhere context.who context.known mode attends.known none context.kept attends.places
    by (Some place) is =
        let there = known-there Knows space context.who key context.known place attends.known is in
        at-place attends.speaks.1.tied mode place there.0 there.1 context.kept
