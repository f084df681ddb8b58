-- When the counts of a word block a request.
use Rattle.std.proofs.Common.{◌≡◌, ℕ, ◌<◌, Bool, true, ◌&&◌, inl, inr, nat_lt, List, [], ◌∷◌, lit<}
use Rattle.std.specs.Prelude.{IsTrue}
use Rattle.std.specs.List.{list_any}
use Rattle.std.proofs.lemmas.Bool.{and_parts, and_from, or_cases, lt-ltb, ltb-true}
use Rattle.std.proofs.lemmas.List.Folds.{list_any_at}
use Rattle.mdl_key.specs.declared.namespace.Kind.{Kind}
use Rattle.mdl_key.specs.declared.mode.Mode.{Mode}
use Rattle.mdl_key.specs.declared.mode.Mode.TheVariants.{IX, S, SH, SR, SW, SWLP, SU, SRO, SNW, SNRW, X}
use Rattle.mdl_key.specs.Words.{all_modes, clashes, Clashes}
use Rattle.mdl_word.specs.Words.{count_with, blocks_by}

-- an element that passes the test
pub passes_from_list_any : {T : Type 0} (test : T → Bool) (xs : List T) → list_any test xs ≡ true → (x : T) × (test x ≡ true)
passes_from_list_any test [] e = absurd (cc)
passes_from_list_any test (x ∷ xs) e = elim (or_cases _ _ e) [ inl here ↦ (x, here) | inr later ↦ passes_from_list_any test xs later ]

-- each mode is among all modes
pub list_any-mode : (test : Mode → Bool) (mode : Mode) → test mode ≡ true → list_any test all_modes ≡ true
list_any-mode test IX e = list_any_at test all_modes 0 IX (lit< tt) e
list_any-mode test S e = list_any_at test all_modes 1 IX (lit< tt) e
list_any-mode test SH e = list_any_at test all_modes 2 IX (lit< tt) e
list_any-mode test SR e = list_any_at test all_modes 3 IX (lit< tt) e
list_any-mode test SW e = list_any_at test all_modes 4 IX (lit< tt) e
list_any-mode test SWLP e = list_any_at test all_modes 5 IX (lit< tt) e
list_any-mode test SU e = list_any_at test all_modes 6 IX (lit< tt) e
list_any-mode test SRO e = list_any_at test all_modes 7 IX (lit< tt) e
list_any-mode test SNW e = list_any_at test all_modes 8 IX (lit< tt) e
list_any-mode test SNRW e = list_any_at test all_modes 9 IX (lit< tt) e
list_any-mode test X e = list_any_at test all_modes 10 IX (lit< tt) e

-- a counted ticket that clashes blocks
pub blocks_by-from_clash : (counts : List ℕ) (kind : Kind) (ask held : Mode) → 0 < count_with counts kind held → Clashes kind ask held → IsTrue (blocks_by counts kind ask)
blocks_by-from_clash counts kind ask held counted clash =
    list_any-mode (λ m. nat_lt 0 (count_with counts kind m) && clashes kind ask m) held (and_from _ _ (lt-ltb _ _ counted) clash)

-- what blocks is a counted ticket that clashes
pub clash_from_blocks_by : (counts : List ℕ) (kind : Kind) (ask : Mode) → IsTrue (blocks_by counts kind ask) → (held : Mode) × (0 < count_with counts kind held) × Clashes kind ask held
clash_from_blocks_by counts kind ask e =
    let at = passes_from_list_any (λ m. nat_lt 0 (count_with counts kind m) && clashes kind ask m) all_modes e in
    let parts = and_parts (nat_lt 0 (count_with counts kind at.0)) (clashes kind ask at.0) at.1 in
    (at.0, ltb-true _ _ parts.0, parts.1)
