-- Wishes of locks, made of numbers and names.
use Rattle.std.proofs.Common.{◌≡◌, ℕ, List, sym, subst}
use Rattle.std.specs.Prelude.{Some}
use Rattle.mdl_key.specs.Keys.{KeyName}
use Rattle.mdl_key.specs.declared.mode.Duration.{Duration}
use Rattle.mdl_key.specs.declared.mode.Mode.{Mode}
use Rattle.mdl_context.specs.Wishes.{Wish}
use Rattle.mdl_c_parts.specs.Codes.{duration_at, mode_at, namespace_at, no_duration, no_mode}
use Rattle.mdl_c_parts.specs.Names.{Given, NamedIn}
use Rattle.mdl_c_parts.proofs.NameLemmas.{named-done, named-refused}
use Rattle.mdl_c_calls.specs.Transactions.{MakesWish}

wish-given : (namespace : ℕ) (schema table : List ℕ) (mode_number duration_number : ℕ) (mode : Mode) (duration : Duration) (Done : Wish → Type 0) (Refused : ℕ → Type 0)
    → mode_at mode_number ≡ Some mode → duration_at duration_number ≡ Some duration
    → NamedIn (namespace_at namespace) schema table (λ key. Done (record { key = key; mode = mode; duration = duration })) Refused
    → MakesWish namespace schema table mode_number duration_number Done Refused
wish-given namespace schema table mode_number duration_number mode duration Done Refused is_mode is_duration named =
    let named_in = λ (m : Mode) (d : Duration). NamedIn (namespace_at namespace) schema table (λ key. Done (record { key = key; mode = m; duration = d })) Refused in
    subst (λ o. Given no_mode o (λ m. Given no_duration (duration_at duration_number) (λ d. named_in m d) Refused) Refused) (sym is_mode)
    (subst (λ o. Given no_duration o (λ d. named_in mode d) Refused) (sym is_duration) named)

-- a lock is wished for
pub wished : (namespace : ℕ) (schema table : List ℕ) (mode_number duration_number : ℕ) (mode : Mode) (duration : Duration) (key : KeyName) (Done : Wish → Type 0) (Refused : ℕ → Type 0)
    → mode_at mode_number ≡ Some mode → duration_at duration_number ≡ Some duration → NamedIn (namespace_at namespace) schema table (λ name. key ≡ name) (λ _. ⊥)
    → Done (record { key = key; mode = mode; duration = duration }) → MakesWish namespace schema table mode_number duration_number Done Refused
wished namespace schema table mode_number duration_number mode duration key Done Refused is_mode is_duration named done =
    wish-given namespace schema table mode_number duration_number mode duration Done Refused is_mode is_duration
    (named-done (namespace_at namespace) schema table key (λ name. Done (record { key = name; mode = mode; duration = duration })) Refused named done)

-- none is, since no key is named
pub unwished : (namespace : ℕ) (schema table : List ℕ) (mode_number duration_number : ℕ) (mode : Mode) (duration : Duration) (code : ℕ) (Done : Wish → Type 0) (Refused : ℕ → Type 0)
    → mode_at mode_number ≡ Some mode → duration_at duration_number ≡ Some duration → NamedIn (namespace_at namespace) schema table (λ _. ⊥) (λ wrong. code ≡ wrong)
    → Refused code → MakesWish namespace schema table mode_number duration_number Done Refused
unwished namespace schema table mode_number duration_number mode duration code Done Refused is_mode is_duration named refused =
    wish-given namespace schema table mode_number duration_number mode duration Done Refused is_mode is_duration
    (named-refused (namespace_at namespace) schema table code (λ name. Done (record { key = name; mode = mode; duration = duration })) Refused named refused)
