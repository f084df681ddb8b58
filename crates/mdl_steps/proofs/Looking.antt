-- Where a key stands in the directory.
use Rattle.std.proofs.Common.{◌≡◌, ℕ, zero, suc, ◌+◌, ◌-◌, ◌<◌, ◌≤◌, List, [], ◌∷◌, ◌++◌, false, refl, length, Some, None, sym, ap, ◌∙◌, arith, slice_get, nat_lt, ltb-true}
use Rattle.indexmap.specs.IndexSet.{insert_key}
use Rattle.mdl_system.proofs.Deciding.{key-Decides}
use Rattle.std.proofs.lemmas.Grind.{common_steps}
use Rattle.mdl_steps.proofs.Common.{KeyName, get_elem?, key_at, key_eq, list_any, place_among, position_or_len, some, some-injective, some-ne-none}
use Rattle.mdl_steps.proofs.Views.{by_bool}

-- how many keys stand before the first that is this one
before : KeyName → List KeyName → ℕ
before key keys = position_or_len (key_eq key) keys

none_before : (key : KeyName) (keys : List KeyName) → length keys ≤ before key keys → (i : ℕ) → get_elem? keys i ≡ some key → ⊥
unfolding before
none_before key [] past i there = some-ne-none key (sym there)
none_before key (x ∷ xs) past zero there =
    let same = (key-Decides key x).1 (sym (some-injective x key there)) in
    let at = rw same at past in
    absurd (omega arith)
none_before key (x ∷ xs) past (suc i) there =
    by_bool (key_eq key x)
    (λ same. let at = rw same at past in absurd (omega arith))
    (λ differs. let at = rw differs at past in none_before key xs (omega arith) i there)

none_like : (key : KeyName) (keys : List KeyName) → length keys ≤ before key keys → list_any (key_eq key) keys ≡ false
unfolding before
none_like key [] past = refl
none_like key (x ∷ xs) past =
    by_bool (key_eq key x)
    (λ same. let at = rw same at past in absurd (omega arith))
    (λ differs. let at = rw differs at past in rw differs (none_like key xs (omega arith)))

at_before : (key : KeyName) (keys : List KeyName) → before key keys < length keys → slice_get keys (before key keys) ≡ Some key
unfolding before
at_before key [] within = absurd (omega arith)
at_before key (x ∷ xs) within =
    by_bool (key_eq key x)
    (λ same. rw same (ap (λ (y : KeyName). Some y) (sym ((key-Decides key x).0 same))))
    (λ differs.
    let rest = rw differs at within in
    let next : 1 + before key xs ≡ suc (before key xs) = omega arith in
    rw differs (ap (slice_get (x ∷ xs)) next ∙ at_before key xs (omega arith)))

-- a key that has no place stands nowhere
pub not_there : (key : KeyName) (keys : List KeyName) → place_among key keys ≡ None → (i : ℕ) → get_elem? keys i ≡ some key → ⊥
unfolding before
not_there key keys none i there =
    let past : length keys ≤ before key keys = grind (arith, common_steps) in
    none_before key keys past i there

-- it goes last when it is listed
pub goes_last : (key : KeyName) (keys : List KeyName) → place_among key keys ≡ None → insert_key key_eq keys key ≡ keys ++ key ∷ []
unfolding before
goes_last key keys none =
    let past : length keys ≤ before key keys = grind (arith, common_steps) in
    rw (none_like key keys past) refl

-- one that has stands there
pub there : (key : KeyName) (keys : List KeyName) (place : ℕ) → place_among key keys ≡ Some place → (0 < place) × (key_at keys place ≡ Some key)
unfolding before
there key keys place e =
    by_bool (nat_lt (before key keys) (length keys))
    (λ within. (let at = rw within at e in let is : before key keys + 1 ≡ place = cc in let back : place - 1 ≡ before key keys = omega arith in
    (omega arith, ap (slice_get keys) back ∙ at_before key keys (ltb-true (before key keys) (length keys) within))))
    (λ past. let at = rw past at e in absurd (cc))
