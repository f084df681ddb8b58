-- A key has one place, and a place has one key: so the tickets of a key are those at its known place.
use Rattle.std.proofs.Common.{◌≡◌, ℕ, Bool, true, false, List, [], ◌∷◌, Option, Some, None, refl, sym, ap, ◌∙◌, subst, arith}
use Rattle.std.specs.Prelude.{◌==◌, not, All, filter}
use Rattle.std.proofs.lemmas.List.Elements.{All-head, All-tail}
use Rattle.mdl_key.specs.Keys.{KeyName, key_eq}
use Rattle.mdl_system.proofs.Deciding.{key-Decides}
use Rattle.mdl_calls.specs.declared.lock_space.LockSpace.{Ghosts}
use Rattle.mdl_calls.specs.MemberLaws.{LawsOf}
use Rattle.mdl_context.specs.declared.kept.Kept.{Kept}
use Rattle.mdl_context.specs.Contexts.{AreRising, place_known, is_known_place, without_tickets}
use Rattle.mdl_context.specs.Holdings.{is_kept_at}
use Rattle.mdl_context.specs.NameLaws.{NamesAreGivenUp}
use Rattle.mdl_context.specs.Releases.{at_known_place}
use Rattle.mdl_context.proofs.BeyondLemmas.{rising-kept, others-without, without-none}
use Rattle.mdl_context.proofs.PlaceLemmas.{equal}

none-pass : (p : Kept → Bool) (kept : List Kept) → filter p (filter (λ t. not (p t)) kept) ≡ []
none-pass p [] = refl
none-pass p (t ∷ ts) = grind (arith, none-pass p ts)

module _ {S : Type 0} (members : Ghosts S) (laws : LawsOf members) where
  module _ (space : S) (who : ℕ) (speaks : members.speaks_for space who) (key : KeyName) where
    -- the place that a context knows is the key's
    knows-there : (known : List (KeyName × ℕ)) (place : ℕ) → All (λ (entry : KeyName × ℕ). members.knows space who entry.1 entry.0) known → place_known key known ≡ Some place → members.knows space who place key
    knows-there [] place all found = cc
    knows-there (e ∷ es) place all found = go (key_eq key e.0) refl (knows-there es place (All-tail (λ (entry : KeyName × ℕ). members.knows space who entry.1 entry.0) e es all)) where
      go : (b : Bool) → key_eq key e.0 ≡ b → (place_known key es ≡ Some place → members.knows space who place key) → members.knows space who place key
      go true same later =
          let here : e.1 ≡ place = grind (arith, found, same) in
          subst (λ k. members.knows space who place k) (sym ((key-Decides key e.0).0 same))
          (subst (λ p. members.knows space who p e.0) here (All-head (λ (entry : KeyName × ℕ). members.knows space who entry.1 entry.0) e es all))
      go false same later = later (grind (arith, found, same))

    -- the place of a key that a context doesn't know is none of its places
    not-there : (known : List (KeyName × ℕ)) (place : ℕ) → All (λ (entry : KeyName × ℕ). members.knows space who entry.1 entry.0) known → members.knows space who place key → place_known key known ≡ None
        → is_known_place known place ≡ false
    not-there [] place all knew none = refl
    not-there (e ∷ es) place all knew none = go (key_eq key e.0) refl (not-there es place (All-tail (λ (entry : KeyName × ℕ). members.knows space who entry.1 entry.0) e es all) knew) where
      other : key_eq key e.0 ≡ false → (b : Bool) → (e.1 == place) ≡ b → b ≡ false
      other differs true same =
          let there : members.knows space who place e.0 = subst (λ p. members.knows space who p e.0) (equal e.1 place same) (All-head (λ (entry : KeyName × ℕ). members.knows space who entry.1 entry.0) e es all) in
          let one : key ≡ e.0 = laws.one_key space who place key e.0 speaks knew there in
          absurd (grind (arith, differs, (key-Decides key e.0).1 one))
      other differs false same = refl

      go : (b : Bool) → key_eq key e.0 ≡ b → (place_known key es ≡ None → is_known_place es place ≡ false) → is_known_place (e ∷ es) place ≡ false
      go true same later = absurd (grind (arith, none, same))
      go false same later =
          let here : (e.1 == place) ≡ false = other same (e.1 == place) refl in
          let rest : is_known_place es place ≡ false = later (grind (arith, none, same)) in
          grind (arith, here, rest)

  none-at : (known : List (KeyName × ℕ)) (place : ℕ) (kept : List Kept) → All (λ (t : Kept). is_known_place known t.place ≡ true) kept → is_known_place known place ≡ false → filter (is_kept_at place) kept ≡ []
  none-at known place [] all none = refl
  none-at known place (t ∷ ts) all none = go (t.place == place) refl (none-at known place ts (All-tail (λ (x : Kept). is_known_place known x.place ≡ true) t ts all) none) where
    go : (b : Bool) → (t.place == place) ≡ b → filter (is_kept_at place) ts ≡ [] → filter (is_kept_at place) (t ∷ ts) ≡ []
    go true same rest =
        let there : is_known_place known place ≡ true = subst (λ p. is_known_place known p ≡ true) (equal t.place place same) (All-head (λ (x : Kept). is_known_place known x.place ≡ true) t ts all) in
        absurd (grind (arith, none, there))
    go false same rest = grind (arith, same, rest)

  pub names-given-up : NamesAreGivenUp members
  names-given-up space context key place attends knew = go (place_known key context.known) refl where
    go : (o : Option ℕ) → place_known key context.known ≡ o → filter (is_kept_at place) (without_tickets (at_known_place o context.kept) context.kept) ≡ []
    go None none =
        ap (filter (is_kept_at place)) (without-none context.kept)
        ∙ none-at context.known place context.kept attends.places (not-there space context.who attends.speaks key context.known place attends.known knew none)
    go (Some there) found =
        let same : place ≡ there = laws.one_place space context.who place there key attends.speaks knew (knows-there space context.who attends.speaks key context.known there attends.known found) in
        let rises : AreRising context.kept = rising-kept _ context (laws.rising space context.who attends.speaks) attends.serves in
        subst (λ p. filter (is_kept_at p) (without_tickets (filter (is_kept_at there) context.kept) context.kept) ≡ []) (sym same)
        (ap (filter (is_kept_at there)) (sym (others-without (is_kept_at there) context.kept rises)) ∙ none-pass (is_kept_at there) context.kept)
