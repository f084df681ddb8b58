-- Tests of all elements and of some element, against the facts that they decide.
use Rattle.std.proofs.Common.{◌≡◌, Bool, true, List, get_or, ◌↔◌}
use Rattle.std.specs.List.{list_any, All, Any}
use Rattle.std.proofs.lemmas.List.Elements.{Contains-get_or}
use Rattle.std.proofs.lemmas.List.Folds.{Any-from_list_any, list_any-from_Any}
use Rattle.mdl_graph.proofs.MemberLemmas.{contained, among_these}
use Rattle.mdl_graph.specs.Members.{Among}

-- a test that decides a fact of each element decides whether it is so of some element
pub any_by : {X : Type 0} (test : X → Bool) (P : X → Type 0) → ((x : X) → (test x ≡ true) ↔ P x) → (xs : List X)
    → (list_any test xs ≡ true) ↔ Any P xs
any_by test P decides xs = (
  λ e. let found = Any-from_list_any test xs e in (found.0, found.1, found.2, found.3, (decides found.1).0 found.4),
  λ found. list_any-from_Any test xs (found.0, found.1, found.2, found.3, (decides found.1).1 found.4),
)

pub any_among : {X : Type 0} (P : X → Type 0) (x : X) (xs : List X) → Among x xs → P x → Any P xs
any_among P x xs among holds = let place = contained xs x among in (place.0, x, place.1, place.2, holds)

pub all_among : {X : Type 0} (P : X → Type 0) (xs : List X) → ((x : X) → Among x xs → P x) → All P xs
all_among P xs each k d inside = each (get_or xs k d) (among_these xs (get_or xs k d) (Contains-get_or xs k d inside))
