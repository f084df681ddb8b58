-- Laws of the chosen cycle: it is a cycle, no cycle comes before it, and only where there is none is none chosen.
use Rattle.std.proofs.Common.{◌≡◌, ℕ, ◌<◌, ◌≤◌, zero, suc, Bool, true, false, List, [], ◌∷◌, length, map, cond, Some, None, refl, sym, ap, subst, ◌∙◌, inl, inr, arith}
use Rattle.std.specs.Prelude.{not, ◌&&◌, ◌==◌, filter, IsTrue}
use Rattle.std.specs.List.{list_any, Contains}
use Rattle.std.proofs.lemmas.Bool.{and_parts, eqb-true, false≢true}
use Rattle.std.proofs.lemmas.Bool.Decides.{nat_tests}
use Rattle.std.proofs.lemmas.List.Elements.{filter_agree}
use Rattle.mdl_graph.proofs.CycleOrder.{before_total, before_itself, before_trans, before_same}
use Rattle.mdl_graph.proofs.MemberLemmas.{among_map, among_flat_map, among_filter, among_filtered, among_these}
use Rattle.mdl_graph.specs.Members.{Among, AreAmong}
use Rattle.mdl_graph.specs.Cycles.{leads, are_distinct, is_cycle_through, IsCycleThrough, is_chosen_before, first_of, first_chosen, lists_of, chosen_cycle}

-- ---- the chosen one of some cycles

-- of two lists the one that is chosen is one of them, and no other one comes before it
record IsFirst (found one : List ℕ) (others : List (List ℕ)) : Type 0 where
  among : Among found (one ∷ others)
  first : (other : List ℕ) → Among other (one ∷ others) → is_chosen_before found other ≡ true

first_joined : (one found other : List ℕ) (others : List (List ℕ)) → IsFirst found other others
    → IsFirst (first_of one (Some found)) one (other ∷ others)
first_joined one found other others least =
    elim (is_chosen_before one found) as (λ b. is_chosen_before one found ≡ b → IsFirst (cond b one found) one (other ∷ others)) [
      | true ↦ λ e. record {
        among = inl refl;
        first = λ third among. elim among [
          | inl same ↦ rw same (before_itself one)
          | inr later ↦ before_trans one found third e (least.first third later)
        ];
      }
      | false ↦ λ e. record {
        among = inr least.among;
        first = λ third among. elim among [
          | inl same ↦ rw same (elim (before_total one found) [
            | inl before ↦ absurd (false≢true (sym e ∙ before))
            | inr after ↦ after
          ])
          | inr later ↦ least.first third later
        ];
      }
    ] refl

first_is : (one : List ℕ) (others : List (List ℕ)) → IsFirst (first_of one (first_chosen others)) one others
first_is one [] = record {
  among = inl refl;
  first = λ other among. elim among [ inl same ↦ rw same (before_itself one) | inr later ↦ absurd later ];
}
first_is one (other ∷ others) = first_joined one (first_of other (first_chosen others)) other others (first_is other others)

-- a list that stands among these and comes before all is the chosen one
pub chosen_of : (cycles : List (List ℕ)) (cycle : List ℕ) → Among cycle cycles
    → ((other : List ℕ) → Among other cycles → is_chosen_before cycle other ≡ true) → first_chosen cycles ≡ Some cycle
chosen_of [] cycle among first = absurd among
chosen_of (one ∷ others) cycle among first =
    let least = first_is one others in
    ap Some (before_same (first_of one (first_chosen others)) cycle (least.first cycle among) (first (first_of one (first_chosen others)) least.among))

chosen_among : (cycles : List (List ℕ)) (cycle : List ℕ) → first_chosen cycles ≡ Some cycle
    → Among cycle cycles × ((other : List ℕ) → Among other cycles → is_chosen_before cycle other ≡ true)
chosen_among [] cycle found = absurd (grind (arith, found))
chosen_among (one ∷ others) cycle found =
    let least = first_is one others in
    let same : first_of one (first_chosen others) ≡ cycle = cc in
    subst (λ (found : List ℕ). Among found (one ∷ others) × ((other : List ℕ) → Among other (one ∷ others) → is_chosen_before found other ≡ true))
    same (least.among, least.first)

none_among : (cycles : List (List ℕ)) → first_chosen cycles ≡ None → (other : List ℕ) → Among other cycles → ⊥
none_among [] none other among = among
none_among (one ∷ others) none other among = absurd (grind (arith, none))

pub none_of : (cycles : List (List ℕ)) → ((other : List ℕ) → Among other cycles → ⊥) → first_chosen cycles ≡ None
none_of [] none = refl
none_of (one ∷ others) none = absurd (none one (inl refl))

-- ---- every cycle of these sessions is among the lists

pub listed : (sessions cycle : List ℕ) (n : ℕ) → AreAmong cycle sessions → length cycle ≤ n → Among cycle (lists_of sessions n)
listed sessions [] zero within short = inl refl
listed sessions [] (suc n) within short = inl refl
listed sessions (x ∷ xs) zero within short = absurd (omega (arith, short))
listed sessions (x ∷ xs) (suc n) within short =
    inr (among_flat_map (λ rest. map (λ session. session ∷ rest) sessions) xs (x ∷ xs) (lists_of sessions n)
    (listed sessions xs n (λ session among. within session (inr among)) (omega (arith, short)))
    (among_map (λ (session : ℕ). session ∷ xs) x sessions (within x (inl refl))))

-- ---- distinct sessions among these are at most as many

abbrev is_other : ℕ → ℕ → Bool
is_other x y = not (x == y)

fewer : (x : ℕ) (ys : List ℕ) → length (filter (is_other x) ys) ≤ length ys
fewer x [] = omega arith
fewer x (y ∷ ys) = grind (arith, nat_tests, fewer x ys)

fewer_without : (x : ℕ) (ys : List ℕ) → Among x ys → length (filter (is_other x) ys) < length ys
fewer_without x [] among = absurd among
fewer_without x (y ∷ ys) (inl same) = grind (arith, nat_tests, same, fewer x ys)
fewer_without x (y ∷ ys) (inr later) = grind (arith, nat_tests, fewer_without x ys later)

differs : (x y : ℕ) (xs : List ℕ) → not (list_any (λ other. x == other) xs) ≡ true → Among y xs → is_other x y ≡ true
differs x y [] none among = absurd among
differs x y (z ∷ xs) none (inl same) = grind (arith, nat_tests, same, none)
differs x y (z ∷ xs) none (inr later) = differs x y xs (grind (arith, nat_tests, none)) later

pub at_most : (xs ys : List ℕ) → are_distinct xs ≡ true → AreAmong xs ys → length xs ≤ length ys
at_most [] ys distinct within = omega arith
at_most (x ∷ xs) ys distinct within =
    let apart = and_parts (not (list_any (λ other. x == other) xs)) (are_distinct xs) distinct in
    let rest : length xs ≤ length (filter (is_other x) ys) =
    at_most xs (filter (is_other x) ys) apart.1
    (λ y among. among_filter (is_other x) y ys (within y (inr among)) (differs x y xs apart.0 among)) in
    omega (arith, rest, fewer_without x ys (within x (inl refl)))

-- ---- the members of a cycle

leads_on : (waits : ℕ → ℕ → Bool) (target session : ℕ) (rest : List ℕ) → leads waits target session rest ≡ true
    → (member : ℕ) → Among member (session ∷ rest) → (other : ℕ) × (waits member other ≡ true)
leads_on waits target session [] leading member (inl same) = (target, ap (λ (x : ℕ). waits x target) same ∙ leading)
leads_on waits target session [] leading member (inr later) = absurd later
leads_on waits target session (next ∷ rest) leading member (inl same) =
    (next, ap (λ (x : ℕ). waits x next) same ∙ (and_parts (waits session next) (leads waits target next rest) leading).0)
leads_on waits target session (next ∷ rest) leading member (inr later) =
    leads_on waits target next rest (and_parts (waits session next) (leads waits target next rest) leading).1 member later

-- a cycle taken apart
record IsRound (waits : ℕ → ℕ → Bool) (from first : ℕ) (rest : List ℕ) : Type 0 where
  begins : first ≡ from
  distinct : are_distinct (first ∷ rest) ≡ true
  leading : leads waits from first rest ≡ true

round_of : (waits : ℕ → ℕ → Bool) (from first : ℕ) (rest : List ℕ) → IsCycleThrough waits from (first ∷ rest) → IsRound waits from first rest
round_of waits from first rest cycle =
    let parts = and_parts (first == from && are_distinct (first ∷ rest)) (leads waits from first rest) cycle in
    let begun = and_parts (first == from) (are_distinct (first ∷ rest)) parts.0 in
    record { begins = eqb-true first from begun.0; distinct = begun.1; leading = parts.1 }

member_waits : (waits : ℕ → ℕ → Bool) (from : ℕ) (cycle : List ℕ) → IsCycleThrough waits from cycle
    → (member : ℕ) → Among member cycle → (other : ℕ) × (waits member other ≡ true)
member_waits waits from [] is member among = absurd among
member_waits waits from (first ∷ rest) is member among = leads_on waits from first rest (round_of waits from first rest is).leading member among

pub cycle_distinct : (waits : ℕ → ℕ → Bool) (from : ℕ) (cycle : List ℕ) → IsCycleThrough waits from cycle → are_distinct cycle ≡ true
cycle_distinct waits from [] is = refl
cycle_distinct waits from (first ∷ rest) is = (round_of waits from first rest is).distinct

-- ---- the laws

-- each session that waits is one of these
abbrev AllWaitersAmong : (ℕ → ℕ → Bool) → List ℕ → Type 0
AllWaitersAmong waits sessions = (waiter other : ℕ) → waits waiter other ≡ true → Contains sessions waiter

all_cycles : (waits : ℕ → ℕ → Bool) (sessions : List ℕ) (from : ℕ) (cycle : List ℕ) → AllWaitersAmong waits sessions
    → IsCycleThrough waits from cycle → Among cycle (filter (is_cycle_through waits from) (lists_of sessions (length sessions)))
all_cycles waits sessions from cycle waiters is =
    let within : AreAmong cycle sessions = λ member among.
    let to = member_waits waits from cycle is member among in among_these sessions member (waiters member to.0 to.1) in
    among_filter (is_cycle_through waits from) cycle (lists_of sessions (length sessions))
    (listed sessions cycle (length sessions) within (at_most cycle sessions (cycle_distinct waits from cycle is) within)) is

-- a cycle before all others is the chosen one
pub chosen_is : (waits : ℕ → ℕ → Bool) (sessions : List ℕ) (from : ℕ) (cycle : List ℕ)
    → ((waiter other : ℕ) → waits waiter other ≡ true → Contains sessions waiter)
    → IsCycleThrough waits from cycle
    → ((other : List ℕ) → IsCycleThrough waits from other → IsTrue (is_chosen_before cycle other))
    → chosen_cycle waits sessions from ≡ Some cycle
chosen_is waits sessions from cycle waiters is first =
    let lists = lists_of sessions (length sessions) in
    chosen_of (filter (is_cycle_through waits from) lists) cycle (all_cycles waits sessions from cycle waiters is)
    (λ other among. first other (among_filtered (is_cycle_through waits from) other lists among).1)

-- where no list is a cycle, none is chosen
pub none_chosen : (waits : ℕ → ℕ → Bool) (sessions : List ℕ) (from : ℕ)
    → ((other : List ℕ) → IsCycleThrough waits from other → ⊥) → chosen_cycle waits sessions from ≡ None
none_chosen waits sessions from none =
    let lists = lists_of sessions (length sessions) in
    none_of (filter (is_cycle_through waits from) lists)
    (λ other among. none other (among_filtered (is_cycle_through waits from) other lists among).1)

-- the chosen one is a cycle
pub chosen_cycles : (waits : ℕ → ℕ → Bool) (sessions : List ℕ) (from : ℕ) (cycle : List ℕ)
    → chosen_cycle waits sessions from ≡ Some cycle → IsCycleThrough waits from cycle
chosen_cycles waits sessions from cycle found =
    let lists = lists_of sessions (length sessions) in
    (among_filtered (is_cycle_through waits from) cycle lists (chosen_among (filter (is_cycle_through waits from) lists) cycle found).0).1

-- and comes before every other cycle
pub chosen_first : (waits : ℕ → ℕ → Bool) (sessions : List ℕ) (from : ℕ) (cycle : List ℕ)
    → ((waiter other : ℕ) → waits waiter other ≡ true → Contains sessions waiter)
    → chosen_cycle waits sessions from ≡ Some cycle
    → (other : List ℕ) → IsCycleThrough waits from other → IsTrue (is_chosen_before cycle other)
chosen_first waits sessions from cycle waiters found other is =
    (chosen_among (filter (is_cycle_through waits from) (lists_of sessions (length sessions))) cycle found).1 other
    (all_cycles waits sessions from other waiters is)

-- where none is chosen, no list is a cycle
pub chosen_none : (waits : ℕ → ℕ → Bool) (sessions : List ℕ) (from : ℕ)
    → ((waiter other : ℕ) → waits waiter other ≡ true → Contains sessions waiter)
    → chosen_cycle waits sessions from ≡ None → (other : List ℕ) → IsCycleThrough waits from other → ⊥
chosen_none waits sessions from waiters none other is =
    none_among (filter (is_cycle_through waits from) (lists_of sessions (length sessions))) none other
    (all_cycles waits sessions from other waiters is)

-- each member of a cycle waits for a session
pub member_of_cycle_waits : (waits : ℕ → ℕ → Bool) (from : ℕ) (cycle : List ℕ) (session : ℕ)
    → IsCycleThrough waits from cycle → Contains cycle session → (other : ℕ) × (waits session other ≡ true)
member_of_cycle_waits waits from cycle session is contains = member_waits waits from cycle is session (among_these cycle session contains)

-- ---- the same waits have the same cycles

leads_same : (one two : ℕ → ℕ → Bool) → ((a b : ℕ) → one a b ≡ two a b) → (target session : ℕ) (rest : List ℕ)
    → leads one target session rest ≡ leads two target session rest
leads_same one two same target session [] = same session target
leads_same one two same target session (next ∷ rest) = rw (same session next, leads_same one two same target next rest)

pub cycle_through_same : (one two : ℕ → ℕ → Bool) → ((a b : ℕ) → one a b ≡ two a b) → (from : ℕ) (cycle : List ℕ)
    → is_cycle_through one from cycle ≡ is_cycle_through two from cycle
cycle_through_same one two same from [] = refl
cycle_through_same one two same from (first ∷ rest) = ap (λ (b : Bool). first == from && are_distinct (first ∷ rest) && b) (leads_same one two same from first rest)

pub chosen_same : (one two : ℕ → ℕ → Bool) (sessions : List ℕ) (from : ℕ) → ((a b : ℕ) → one a b ≡ two a b)
    → chosen_cycle one sessions from ≡ chosen_cycle two sessions from
chosen_same one two sessions from same =
    ap first_chosen (filter_agree (is_cycle_through one from) (is_cycle_through two from) (cycle_through_same one two same from) (lists_of sessions (length sessions)))
