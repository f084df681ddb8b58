-- Facts about the matrices, by looking at each of their entries.
use Rattle.std.proofs.Common.{◌≡◌, ◌↔◌, Bool, true, false, cond, not, ◌||◌, IsTrue, List, [], ◌∷◌, refl, sym, ◌∙◌, lit<}
use Rattle.std.specs.List.{list_all}
use Rattle.std.proofs.lemmas.Bool.{both_ways}
use Rattle.std.proofs.lemmas.List.Sums.{AllPass-from_list_all}
use Rattle.mdl_key.specs.declared.namespace.Kind.{Kind}
use Rattle.mdl_key.specs.declared.namespace.Kind.TheVariants.{Scoped, Object}
use Rattle.mdl_key.specs.declared.mode.Mode.{Mode}
use Rattle.mdl_key.specs.declared.mode.Mode.TheVariants.{IX, S, SH, SR, SW, SWLP, SU, SRO, SNW, SNRW, X}
use Rattle.mdl_key.specs.Modes.{all_modes}
use Rattle.mdl_key.specs.Matrices.{clashes}
use Rattle.mdl_key.specs.Classes.{is_at_least, IsAtLeast}

-- what the test gives at each mode
pub each_mode : (test : Mode → Bool) → list_all test all_modes ≡ true → (mode : Mode) → test mode ≡ true
each_mode test all IX = AllPass-from_list_all test all_modes all 0 IX (lit< tt)
each_mode test all S = AllPass-from_list_all test all_modes all 1 IX (lit< tt)
each_mode test all SH = AllPass-from_list_all test all_modes all 2 IX (lit< tt)
each_mode test all SR = AllPass-from_list_all test all_modes all 3 IX (lit< tt)
each_mode test all SW = AllPass-from_list_all test all_modes all 4 IX (lit< tt)
each_mode test all SWLP = AllPass-from_list_all test all_modes all 5 IX (lit< tt)
each_mode test all SU = AllPass-from_list_all test all_modes all 6 IX (lit< tt)
each_mode test all SRO = AllPass-from_list_all test all_modes all 7 IX (lit< tt)
each_mode test all SNW = AllPass-from_list_all test all_modes all 8 IX (lit< tt)
each_mode test all SNRW = AllPass-from_list_all test all_modes all 9 IX (lit< tt)
each_mode test all X = AllPass-from_list_all test all_modes all 10 IX (lit< tt)

-- two answers are the same
abbrev pub same : Bool → Bool → Bool
same a b = cond a b (not b)

pub same-true : (a b : Bool) → same a b ≡ true → a ≡ b
same-true true true e = refl
same-true true false e = sym e
same-true false true e = e
same-true false false e = refl

-- whether the clashes of a mode are symmetric
abbrev is_symmetric_at : Kind → Mode → Bool
is_symmetric_at kind a = list_all (λ b. same (clashes kind a b) (clashes kind b a)) all_modes

symmetric_kind : (kind : Kind) → list_all (is_symmetric_at kind) all_modes ≡ true
symmetric_kind Scoped = refl
symmetric_kind Object = refl

-- clashing is symmetric
pub clashes-symmetric : (kind : Kind) (a b : Mode) → clashes kind a b ≡ clashes kind b a
clashes-symmetric kind a b = same-true _ _ (each_mode (λ x. same (clashes kind a x) (clashes kind x a)) (each_mode (is_symmetric_at kind) (symmetric_kind kind) a) b)

-- whether what clashes with b, at one mode, clashes with a
abbrev clashes_too : Kind → Mode → Mode → Mode → Bool
clashes_too kind a b held = not (clashes kind b held) || clashes kind a held

-- strength by rows is strength at each mode
abbrev is_by_modes_at : Kind → Mode → Mode → Bool
is_by_modes_at kind a b = same (is_at_least kind a b) (list_all (clashes_too kind a b) all_modes)

by_modes_kind : (kind : Kind) → list_all (λ a. list_all (is_by_modes_at kind a) all_modes) all_modes ≡ true
by_modes_kind Scoped = refl
by_modes_kind Object = refl

by_modes : (kind : Kind) (a b : Mode) → is_at_least kind a b ≡ list_all (clashes_too kind a b) all_modes
by_modes kind a b = same-true _ _ (each_mode (is_by_modes_at kind a) (each_mode (λ x. list_all (is_by_modes_at kind x) all_modes) (by_modes_kind kind) a) b)

too-from : (weaker stronger : Bool) → (not weaker || stronger) ≡ true → weaker ≡ true → stronger ≡ true
too-from true stronger e is = e
too-from false stronger e is = absurd (both_ways false refl is)

from-too : (weaker stronger : Bool) → (weaker ≡ true → stronger ≡ true) → (not weaker || stronger) ≡ true
from-too true stronger f = f refl
from-too false stronger f = refl

-- a test that each mode passes is passed by each mode of a list
pub every : (test : Mode → Bool) → ((mode : Mode) → test mode ≡ true) → (modes : List Mode) → list_all test modes ≡ true
every test passes [] = refl
every test passes (mode ∷ modes) = rw (passes mode) (every test passes modes)

-- the test of strength is exact
pub at_least-exact : (kind : Kind) (a b : Mode) → IsTrue (is_at_least kind a b) ↔ IsAtLeast kind a b
at_least-exact kind a b = (
  (λ e held. too-from _ _ (each_mode (clashes_too kind a b) (sym (by_modes kind a b) ∙ e) held)),
  (λ f. by_modes kind a b ∙ every (clashes_too kind a b) (λ held. from-too _ _ (f held)) all_modes),
)
