-- The victim of a cycle falls before all its members.
use Rattle.std.proofs.Common.{◌≡◌, ◌<◌, ◌≤◌, true, false, List, [], ◌∷◌, length, cond, refl, ◌⊎◌, inl, inr, arith}
use Rattle.std.specs.Prelude.{Any}
use Rattle.std.proofs.lemmas.Bool.{cases_lt}
use Rattle.std.proofs.lemmas.Bool.Decides.{nat_tests}
use Rattle.mdl_graph.specs.declared.cycle.Member.{Member}
use Rattle.mdl_graph.specs.Members.{Among}
use Rattle.mdl_graph.specs.Victims.{falls_before, weakest, victim_of}
use Rattle.mdl_graph.specs.GraphLaws.{FallsAmong}
use Rattle.mdl_graph.proofs.AnyLemmas.{any_among, all_among}

-- one member falls before another, or is it
abbrev Falls : Member → Member → Type 0
Falls member other = (member.weight < other.weight) ⊎ ((member.weight ≡ other.weight) × (other.session ≤ member.session))

falls_itself : (member : Member) → Falls member member
falls_itself member = inr (refl, omega arith)

falls_told : (one other : Member) → falls_before one other ≡ true → Falls one other
falls_told one other e = elim (cases_lt one.weight other.weight) [
  | inl less ↦ inl less
  | inr least ↦ inr (grind (arith, nat_tests), grind (arith, nat_tests))
]

falls_else : (one other : Member) → falls_before one other ≡ false → Falls other one
falls_else one other e = elim (cases_lt other.weight one.weight) [
  | inl less ↦ inl less
  | inr least ↦ inr (grind (arith, nat_tests), grind (arith, nat_tests))
]

falls_on : (one other third : Member) → Falls one other → Falls other third → Falls one third
falls_on one other third (inl less) (inl next) = inl (omega (arith, less, next))
falls_on one other third (inl less) (inr next) = inl (omega (arith, less, next.0))
falls_on one other third (inr same) (inl next) = inl (omega (arith, same.0, next))
falls_on one other third (inr same) (inr next) = inr (omega (arith, same.0, next.0), omega (arith, same.1, next.1))

-- one of these members falls before all of them
record IsWeakest (found member : Member) (rest : List Member) : Type 0 where
  among : Among found (member ∷ rest)
  falls : (other : Member) → Among other (member ∷ rest) → Falls found other

-- and before one more that the first of them falls before
joined : (found member next : Member) (rest : List Member) → falls_before member next ≡ true → IsWeakest found member rest → IsWeakest found member (next ∷ rest)
joined found member next rest e least = record {
  among = elim least.among [ inl same ↦ inl same | inr later ↦ inr (inr later) ];
  falls = λ other among. elim among [
    | inl same ↦ least.falls other (inl same)
    | inr later ↦ elim later [
      | inl same ↦ rw same (falls_on found member next (least.falls member (inl refl)) (falls_told member next e))
      | inr rest_of ↦ least.falls other (inr rest_of)
    ]
  ];
}

taken_over : (found member next : Member) (rest : List Member) → falls_before member next ≡ false → IsWeakest found next rest → IsWeakest found member (next ∷ rest)
taken_over found member next rest e least = record {
  among = inr least.among;
  falls = λ other among. elim among [
    | inl same ↦ rw same (falls_on found next member (least.falls next (inl refl)) (falls_else member next e))
    | inr later ↦ least.falls other later
  ];
}

weakest_is : (member : Member) (rest : List Member) → IsWeakest (weakest member rest) member rest
weakest_is member [] = record {
  among = inl refl;
  falls = λ other among. elim among [ inl same ↦ rw same (falls_itself member) | inr later ↦ absurd later ];
}
weakest_is member (next ∷ rest) =
    let kept = weakest_is member rest in
    let taken = weakest_is next rest in
    elim (falls_before member next) as (λ b. falls_before member next ≡ b → IsWeakest (weakest (cond b member next) rest) member (next ∷ rest)) [
      | true ↦ λ e. joined (weakest member rest) member next rest e kept
      | false ↦ λ e. taken_over (weakest next rest) member next rest e taken
    ] refl

pub victim_falls : (members : List Member) → 0 < length members
    → Any (λ member. (member.session ≡ victim_of members) × FallsAmong members member) members
victim_falls [] some_member = absurd (omega (arith, some_member))
victim_falls (member ∷ rest) some_member =
    let least = weakest_is member rest in
    any_among (λ (one : Member). (one.session ≡ victim_of (member ∷ rest)) × FallsAmong (member ∷ rest) one) (weakest member rest) (member ∷ rest)
    least.among (refl, all_among (Falls (weakest member rest)) (member ∷ rest) least.falls)
