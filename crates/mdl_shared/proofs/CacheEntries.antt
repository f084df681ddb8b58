-- What a cache keeps after a look, and after one definition more: each was kept before, or is the new one.
use Rattle.std.proofs.Common.{rules, ◌≡◌, ℕ, ◌-◌, true, List, [], ◌∷◌, take, Contains, Option, Some, None, inl, inr, refl, sym, subst, ◌∙◌}
use Rattle.lru.proofs.CallerLemmas.{Contains-lookup, Contains-promoted, Contains-remove_entry, Contains-take}
use Rattle.lru.proofs.Splits.{Contains-cons}
use Rattle.std.specs.Map.{lookup_entry, remove_entry}
use Rattle.mdl_shared.proofs.Common.{AreMet, CacheView, Definition, Kept, VersionedDefinition, by_bool, is_of, kept_first, kept_of, kept_standing, looked_at, option_map_or}

module _ (met : ℕ → VersionedDefinition → Type 0) (place version : ℕ) where
  -- what is kept of a version was met
  pub kept-met : (kept : List Kept) (d : Definition) → AreMet met kept → kept_of place version kept ≡ Some d → met place (kept_standing version d)
  kept-met kept d all its =
      let among = Contains-lookup (is_of place version) kept d its in
      let passes : is_of place version among.0 ≡ true = among.2 in
      let is : among.0 ≡ (place, version) = search rules in
      subst (λ (pair : ℕ × ℕ). met pair.0 (kept_standing pair.1 d)) is (all (among.0, d) among.1)

  -- and is, after a look
  pub met-looked : (kept : List Kept) → AreMet met kept → AreMet met (looked_at place version kept)
  met-looked kept all one among = all one (Contains-promoted (is_of place version) kept one among)

  -- and with one more that was met
  pub met-first : (d : Definition) (cache : CacheView) → AreMet met cache.kept → met place (kept_standing version d) → AreMet met (kept_first place version d cache)
  met-first d cache all its one among =
      elim (Contains-cons ((place, version), d) (rest (lookup_entry (is_of place version) cache.kept)) one among) [
        | inl same ↦ subst (λ (k : Kept). met k.0.0 (kept_standing k.0.1 k.1)) same its
        | inr later ↦ all one (before (lookup_entry (is_of place version) cache.kept) later)
      ]
    where
      rest : Option Kept → List Kept
      rest o = option_map_or (λ _. remove_entry (is_of place version) cache.kept) o (take (cache.capacity - 1) cache.kept)

      before : (o : Option Kept) → Contains (rest o) one → Contains cache.kept one
      before None later = Contains-take (cache.capacity - 1) cache.kept one later
      before (Some e) later = Contains-remove_entry (is_of place version) cache.kept one later

-- where nothing is kept of a version, a look leaves all
pub none-looked : (place version : ℕ) (kept : List Kept) → kept_of place version kept ≡ None → looked_at place version kept ≡ kept
none-looked place version kept none = by (lookup_entry (is_of place version) kept) refl
  where
    none-there : (es : List Kept) → kept_of place version es ≡ None → lookup_entry (is_of place version) es ≡ None
    none-there [] e = refl
    none-there (x ∷ xs) e =
        by_bool (is_of place version x.0)
        (λ hit. let no = rw hit at e in cc)
        (λ miss. rw miss (none-there xs (rw miss at e)))

    by : (o : Option Kept) → lookup_entry (is_of place version) kept ≡ o → option_map_or (λ one. one ∷ remove_entry (is_of place version) kept) o kept ≡ kept
    by None e = refl
    by (Some one) e = let no = sym e ∙ none-there kept none in cc
