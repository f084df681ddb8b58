-- What a session has read, in order: what was read last at each place, and the greatest version.
use Rattle.std.proofs.Common.{◌≡◌, ◌≢◌, ℕ, ◌≤◌, Bool, true, false, ◌&&◌, ◌==◌, List, [], ◌∷◌, ◌++◌, Option, Some, None, Contains, inl, inr, if◌then◌else◌, refl, sym, ap, subst, ◌∙◌, eq-eqb, arith, eqb-true}
use Rattle.std.proofs.lemmas.List.Elements.{Contains-append_left, Contains-append_right}
use Rattle.std.specs.Option.{option_or}
use Rattle.mdl_session_laws.proofs.Common.{IsLast, Reading, VersionedDefinition, and_from, is_newest, last_read, list_any-append, nat_tests, or_left, or_right, was_read}

-- of some readings and one more, the last one at its place
pub read-last : (reads : List Reading) (place : ℕ) (standing : VersionedDefinition)
    → last_read place (reads ++ record { place = place; standing = standing } ∷ []) ≡ Some standing
read-last [] place standing = grind (arith, nat_tests)
read-last (r ∷ later) place standing = grind (arith, nat_tests, read-last later place standing)

-- and at another place
pub read-elsewhere : (reads : List Reading) (place other : ℕ) (standing : VersionedDefinition) → other ≢ place
    → last_read other (reads ++ record { place = place; standing = standing } ∷ []) ≡ last_read other reads
read-elsewhere [] place other standing apart = grind (arith, nat_tests)
read-elsewhere (r ∷ later) place other standing apart =
    ap (λ o. option_or o (if r.place == other then Some r.standing else None)) (read-elsewhere later place other standing apart)

-- what was read stays read
pub stays-read : (reads more : List Reading) (place version : ℕ) → was_read place version reads ≡ true → was_read place version (reads ++ more) ≡ true
stays-read reads more place version was = grind (arith, list_any-append (λ (r : Reading). r.place == place && r.standing.version == version) reads more)

-- what was read last was read
pub last-was_read : (reads : List Reading) (place : ℕ) (standing : VersionedDefinition) → last_read place reads ≡ Some standing → was_read place standing.version reads ≡ true
last-was_read [] place standing e = cc
last-was_read (r ∷ later) place standing e = go (last_read place later) (last-was_read later place standing) e
  where
    here : (b : Bool) → (r.place == place) ≡ b → (if b then Some r.standing else None) ≡ Some standing → was_read place standing.version (r ∷ later) ≡ true
    here false at e = cc
    here true at e =
        let same : r.standing.version ≡ standing.version = cc in
        or_left _ (was_read place standing.version later) (and_from _ _ at (eq-eqb r.standing.version standing.version same))

    go : (o : Option VersionedDefinition) → (o ≡ Some standing → was_read place standing.version later ≡ true)
        → option_or o (if r.place == place then Some r.standing else None) ≡ Some standing → was_read place standing.version (r ∷ later) ≡ true
    go None was e = here (r.place == place) refl e
    go (Some s) was e = or_right (r.place == place && r.standing.version == standing.version) _ (was e)

-- and is one of those that were read
pub last-among : (reads : List Reading) (place : ℕ) (standing : VersionedDefinition) → last_read place reads ≡ Some standing
    → Contains reads (record { place = place; standing = standing })
last-among [] place standing e = cc
last-among (r ∷ later) place standing e = go (last_read place later) (last-among later place standing) e
  where
    here : (b : Bool) → (r.place == place) ≡ b → (if b then Some r.standing else None) ≡ Some standing
        → Contains (r ∷ later) (record { place = place; standing = standing })
    here false at e = cc
    here true at e =
        let same : r.standing ≡ standing = cc in
        let there = eqb-true r.place place at in
        subst (Contains (r ∷ later)) (λ i. record { place = there i; standing = same i }) (0, omega arith, refl)

    go : (o : Option VersionedDefinition) → (o ≡ Some standing → Contains later (record { place = place; standing = standing }))
        → option_or o (if r.place == place then Some r.standing else None) ≡ Some standing → Contains (r ∷ later) (record { place = place; standing = standing })
    go None among e = here (r.place == place) refl e
    go (Some s) among e = Contains-append_right (r ∷ []) later _ (among e)

-- nothing that was read is newer than the newest
pub newest-above : (reads : List Reading) (place version newest : ℕ) → was_read place version reads ≡ true → is_newest place newest reads ≡ true → version ≤ newest
newest-above [] place version newest was most = cc
newest-above (r ∷ later) place version newest was most = grind (arith, nat_tests, newest-above later place version newest)

-- what is newer than that, too
pub newest-up : (reads : List Reading) (place version newer : ℕ) → version ≤ newer → is_newest place version reads ≡ true → is_newest place newer reads ≡ true
newest-up [] place version newer up most = refl
newest-up (r ∷ later) place version newer up most = grind (arith, nat_tests, newest-up later place version newer)

-- one more at the place
pub newest-last : (reads : List Reading) (place : ℕ) (standing : VersionedDefinition) → is_newest place standing.version reads ≡ true
    → is_newest place standing.version (reads ++ record { place = place; standing = standing } ∷ []) ≡ true
newest-last [] place standing most = grind (arith, nat_tests)
newest-last (r ∷ later) place standing most = grind (arith, nat_tests, newest-last later place standing)

-- and at another one
pub newest-elsewhere : (reads : List Reading) (place other version : ℕ) (standing : VersionedDefinition) → other ≢ place → is_newest other version reads ≡ true
    → is_newest other version (reads ++ record { place = place; standing = standing } ∷ []) ≡ true
newest-elsewhere [] place other version standing apart most = grind (arith, nat_tests)
newest-elsewhere (r ∷ later) place other version standing apart most = grind (arith, nat_tests, newest-elsewhere later place other version standing)

-- ---- what was read last

-- it is what was read last at its place
pub last-here : (place : ℕ) (standing : VersionedDefinition) (before after : List Reading) → IsLast place standing before after → last_read place after ≡ Some standing
last-here place standing before after (inl e) = ap (last_read place) e ∙ read-last before place standing
last-here place standing before after (inr same) = ap (last_read place) same.0 ∙ same.1

-- and at other places the same was
pub last-elsewhere : (place other : ℕ) (standing : VersionedDefinition) (before after : List Reading) → IsLast place standing before after → other ≢ place
    → last_read other after ≡ last_read other before
last-elsewhere place other standing before after (inl e) apart = ap (last_read other) e ∙ read-elsewhere before place other standing apart
last-elsewhere place other standing before after (inr same) apart = ap (last_read other) same.0

-- what was read stays read
pub last-stays : (place at version : ℕ) (standing : VersionedDefinition) (before after : List Reading) → IsLast place standing before after
    → was_read at version before ≡ true → was_read at version after ≡ true
last-stays place at version standing before after (inl e) was = ap (was_read at version) e ∙ stays-read before _ at version was
last-stays place at version standing before after (inr same) was = ap (was_read at version) same.0 ∙ was

-- and among those that were read
pub last-keeps : (place : ℕ) (standing : VersionedDefinition) (before after : List Reading) (r : Reading) → IsLast place standing before after
    → Contains before r → Contains after r
last-keeps place standing before after r (inl e) among = subst (λ l. Contains l r) (sym e) (Contains-append_left before _ r among)
last-keeps place standing before after r (inr same) among = subst (λ l. Contains l r) (sym same.0) among

-- it is still the newest
pub last-newest : (place : ℕ) (standing : VersionedDefinition) (before after : List Reading) → IsLast place standing before after
    → is_newest place standing.version before ≡ true → is_newest place standing.version after ≡ true
last-newest place standing before after (inl e) most = ap (is_newest place standing.version) e ∙ newest-last before place standing most
last-newest place standing before after (inr same) most = ap (is_newest place standing.version) same.0 ∙ most

-- and elsewhere what was
pub last-newest_elsewhere : (place other version : ℕ) (standing : VersionedDefinition) (before after : List Reading) → IsLast place standing before after → other ≢ place
    → is_newest other version before ≡ true → is_newest other version after ≡ true
last-newest_elsewhere place other version standing before after (inl e) apart most =
    ap (is_newest other version) e ∙ newest-elsewhere before place other version standing apart most
last-newest_elsewhere place other version standing before after (inr same) apart most = ap (is_newest other version) same.0 ∙ most
