-- Which known places may be unneeded, as tickets, waits and keys come and go.
use Rattle.std.proofs.Common.{◌≡◌, ◌⊎◌, inl, inr, ℕ, Bool, true, false, List, [], ◌∷◌, ◌++◌, length, Option, Some, None, refl, sym, ap, subst, ◌∙◌, arith}
use Rattle.std.specs.Prelude.{◌||◌, ◌==◌, not, filter, map, if◌then◌else◌}
use Rattle.std.specs.Option.{option_map, option_map_or}
use Rattle.std.proofs.lemmas.Bool.Decides.{nat_tests}
use Rattle.std.proofs.lemmas.List.Elements.{All-head, All-push, All-tail, All-weaker, filter_passes}
use Rattle.mdl_key.specs.Keys.{KeyName}
use Rattle.mdl_calls.specs.Words.{Answer, Call, Runs}
use Rattle.mdl_calls.specs.declared.lock_space.LockSpace.{Ghosts}
use Rattle.mdl_calls.specs.MemberLaws.{LawsOf}
use Rattle.mdl_context.specs.declared.kept.Wanted.{Wanted}
use Rattle.mdl_context.specs.declared.spare.Spare.{Spare}
use Rattle.mdl_context.specs.declared.spare.Spare.TheVariants.{Nowhere, At}
use Rattle.mdl_context.specs.Contexts.{Attends, ContextView}
use Rattle.mdl_context.specs.Holdings.{needs_place, search_over}
use Rattle.mdl_context.specs.Indexes.{Index, ticket_numbers}
use Rattle.mdl_context.specs.Spares.{AreMarked, HasOneKey, marks}
use Rattle.mdl_context.specs.Tidying.{unpinning_all}
use Rattle.mdl_context.proofs.KnownLemmas.{Entry, all-parts}

-- ---- either of two tests

either-of : (a b : Bool) → (a || b) ≡ true → (a ≡ true) ⊎ (b ≡ true)
either-of true b passes = inl refl
either-of false b passes = inr passes

first-of : (a b : Bool) → a ≡ true → (a || b) ≡ true
first-of true b passes = refl
first-of false b passes = cc

second-of : (a b : Bool) → b ≡ true → (a || b) ≡ true
second-of true b passes = refl
second-of false b passes = passes

same-place : (p q : ℕ) → (p == q) ≡ true → p ≡ q
same-place p q same = grind (arith, nat_tests)

-- ---- marks that stay

-- what was needed or marked still is
pub still-marked : (before after : Spare) (needed needs : ℕ → Bool) (known : List Entry)
    → ((q : ℕ) → (needed q || marks before q) ≡ true → (needs q || marks after q) ≡ true) → AreMarked before needed known → AreMarked after needs known
still-marked before after needed needs known so are =
    All-weaker (λ (e : Entry). (needed e.1 || marks before e.1) ≡ true) (λ (e : Entry). (needs e.1 || marks after e.1) ≡ true) (λ (e : Entry) is. so e.1 is) known are

-- a place with a number more
numbered : (numbers : List ℕ) (id : ℕ) → not (length (numbers ++ id ∷ []) == 0) ≡ true
numbered [] id = grind (arith, nat_tests)
numbered (n ∷ ns) id = grind (arith, nat_tests)

module _ (known : List Entry) (before after : Index) (place : ℕ) where
  -- a ticket comes, or that which was waited for
  pub marked-more : (id : ℕ) (waited waits : Option Wanted) (spare left : Spare)
      → ((q : ℕ) → ticket_numbers q after ≡ (if place == q then ticket_numbers place before ++ id ∷ [] else ticket_numbers q before))
      → ((q : ℕ) → (place == q) ≡ false → option_map_or (λ (w : Wanted). w.place == q) waited false ≡ true → option_map_or (λ (w : Wanted). w.place == q) waits false ≡ true)
      → ((q : ℕ) → (place == q) ≡ false → marks spare q ≡ true → marks left q ≡ true)
      → AreMarked spare (needs_place before waited) known → AreMarked left (needs_place after waits) known
  marked-more id waited waits spare left told still others are = still-marked spare left (needs_place before waited) (needs_place after waits) known so are where
    so : (q : ℕ) → (needs_place before waited q || marks spare q) ≡ true → (needs_place after waits q || marks left q) ≡ true
    so q is = by (place == q) refl where
      by : (here : Bool) → (place == q) ≡ here → (needs_place after waits q || marks left q) ≡ true
      by true here =
          let numbers : ticket_numbers q after ≡ ticket_numbers place before ++ id ∷ [] = told q ∙ rw here refl in
          first-of (needs_place after waits q) (marks left q)
          (first-of _ _ (ap (λ (ns : List ℕ). not (length ns == 0)) numbers ∙ numbered (ticket_numbers place before) id))
      by false apart =
          let numbers : ticket_numbers q after ≡ ticket_numbers q before = told q ∙ rw apart refl in
          elim (either-of (needs_place before waited q) (marks spare q) is) [
            | inl needed ↦ first-of (needs_place after waits q) (marks left q) (elim (either-of _ _ needed) [
              | inl has ↦ first-of _ _ (ap (λ (ns : List ℕ). not (length ns == 0)) numbers ∙ has)
              | inr waiting ↦ second-of _ _ (still q apart waiting)
            ])
            | inr marked ↦ second-of (needs_place after waits q) (marks left q) (others q apart marked)
          ]

-- tickets go, and their places are marked
pub marked-less : (known : List Entry) (before after : Index) (wait : Option Wanted) (spare left : Spare)
    → ((q : ℕ) → (marks left q ≡ true) ⊎ (ticket_numbers q after ≡ ticket_numbers q before)) → ((q : ℕ) → marks spare q ≡ true → marks left q ≡ true)
    → AreMarked spare (needs_place before wait) known → AreMarked left (needs_place after wait) known
marked-less known before after wait spare left told stay are = still-marked spare left (needs_place before wait) (needs_place after wait) known so are where
  so : (q : ℕ) → (needs_place before wait q || marks spare q) ≡ true → (needs_place after wait q || marks left q) ≡ true
  so q is = elim (told q) [
    | inl marked ↦ second-of (needs_place after wait q) (marks left q) marked
    | inr same ↦ elim (either-of (needs_place before wait q) (marks spare q) is) [
      | inl needed ↦ first-of (needs_place after wait q) (marks left q) (elim (either-of _ _ needed) [
        | inl has ↦ first-of _ _ (ap (λ (ns : List ℕ). not (length ns == 0)) same ∙ has)
        | inr waiting ↦ second-of _ _ waiting
      ])
      | inr marked ↦ second-of (needs_place after wait q) (marks left q) (stay q marked)
    ]
  ]

-- those at one place
pub marked-one : (known : List Entry) (before after : Index) (wait : Option Wanted) (spare left : Spare) (place : ℕ) (numbers : List ℕ)
    → ((q : ℕ) → ticket_numbers q after ≡ (if place == q then numbers else ticket_numbers q before)) → marks left place ≡ true
    → ((q : ℕ) → marks spare q ≡ true → marks left q ≡ true) → AreMarked spare (needs_place before wait) known → AreMarked left (needs_place after wait) known
marked-one known before after wait spare left place numbers told here stay are = marked-less known before after wait spare left either stay are where
  either : (q : ℕ) → (marks left q ≡ true) ⊎ (ticket_numbers q after ≡ ticket_numbers q before)
  either q = by (place == q) refl where
    by : (at : Bool) → (place == q) ≡ at → (marks left q ≡ true) ⊎ (ticket_numbers q after ≡ ticket_numbers q before)
    by true at = inl (subst (λ p. marks left p ≡ true) (same-place place q at) here)
    by false apart = inr (told q ∙ rw apart refl)

-- one more of several
pub one-dropped : (start before after : Index) (spare left : Spare) (place : ℕ) (numbers : List ℕ)
    → ((q : ℕ) → (marks spare q ≡ true) ⊎ (ticket_numbers q before ≡ ticket_numbers q start))
    → ((q : ℕ) → ticket_numbers q after ≡ (if place == q then numbers else ticket_numbers q before)) → marks left place ≡ true
    → ((q : ℕ) → marks spare q ≡ true → marks left q ≡ true)
    → (q : ℕ) → (marks left q ≡ true) ⊎ (ticket_numbers q after ≡ ticket_numbers q start)
one-dropped start before after spare left place numbers so_far told here stay q = elim (so_far q) [
  | inl marked ↦ inl (stay q marked)
  | inr same ↦ by (place == q) refl same
] where
  by : (at : Bool) → (place == q) ≡ at → ticket_numbers q before ≡ ticket_numbers q start → (marks left q ≡ true) ⊎ (ticket_numbers q after ≡ ticket_numbers q start)
  by true at same = inl (subst (λ p. marks left p ≡ true) (same-place place q at) here)
  by false apart same = inr (told q ∙ rw apart refl ∙ same)

-- a wait begins
pub marked-waiting : (known : List Entry) (index : Index) (wanted : Wanted) (spare left : Spare)
    → ((q : ℕ) → (wanted.place == q) ≡ false → marks spare q ≡ true → marks left q ≡ true)
    → AreMarked spare (needs_place index None) known → AreMarked left (needs_place index (Some wanted)) known
marked-waiting known index wanted spare left others are = still-marked spare left (needs_place index None) (needs_place index (Some wanted)) known so are where
  so : (q : ℕ) → (needs_place index None q || marks spare q) ≡ true → (needs_place index (Some wanted) q || marks left q) ≡ true
  so q is = by (wanted.place == q) refl where
    still : (has : Bool) → (has || false) ≡ true → (has || (wanted.place == q)) ≡ true
    still true needed = refl
    still false needed = cc

    by : (here : Bool) → (wanted.place == q) ≡ here → (needs_place index (Some wanted) q || marks left q) ≡ true
    by true here = first-of (needs_place index (Some wanted) q) (marks left q) (second-of _ _ here)
    by false apart = elim (either-of (needs_place index None q) (marks spare q) is) [
      | inl needed ↦ first-of (needs_place index (Some wanted) q) (marks left q) (still (not (length (ticket_numbers q index) == 0)) needed)
      | inr marked ↦ second-of (needs_place index (Some wanted) q) (marks left q) (others q apart marked)
    ]

-- it ends, and its place is marked
pub marked-ended : (known : List Entry) (index : Index) (wanted : Wanted) (spare left : Spare) → marks left wanted.place ≡ true
    → ((q : ℕ) → marks spare q ≡ true → marks left q ≡ true)
    → AreMarked spare (needs_place index (Some wanted)) known → AreMarked left (needs_place index None) known
marked-ended known index wanted spare left here stay are = still-marked spare left (needs_place index (Some wanted)) (needs_place index None) known so are where
  so : (q : ℕ) → (needs_place index (Some wanted) q || marks spare q) ≡ true → (needs_place index None q || marks left q) ≡ true
  so q is = elim (either-of (needs_place index (Some wanted) q) (marks spare q) is) [
    | inl needed ↦ elim (either-of _ _ needed) [
      | inl has ↦ first-of (needs_place index None q) (marks left q) (first-of _ _ has)
      | inr at ↦ second-of (needs_place index None q) (marks left q) (subst (λ p. marks left p ≡ true) (same-place wanted.place q at) here)
    ]
    | inr marked ↦ second-of (needs_place index None q) (marks left q) (stay q marked)
  ]

-- that its searches are over changes no place
pub marked-searched : (known : List Entry) (index : Index) (wait : Option Wanted) (spare : Spare)
    → AreMarked spare (needs_place index wait) known → AreMarked spare (needs_place index (option_map search_over wait)) known
marked-searched known index None spare are = are
marked-searched known index (Some wanted) spare are = are

-- a key comes, and its place is marked
pub marked-learnt : (known : List Entry) (needs : ℕ → Bool) (spare left : Spare) (key : KeyName) (place : ℕ) → marks left place ≡ true
    → ((q : ℕ) → marks spare q ≡ true → marks left q ≡ true) → AreMarked spare needs known → AreMarked left needs (known ++ (key, place) ∷ [])
marked-learnt known needs spare left key place here stay are =
    All-push (λ (e : Entry). (needs e.1 || marks left e.1) ≡ true) known (key, place)
    (still-marked spare left needs needs known so are) (second-of (needs place) (marks left place) here)
  where
    so : (q : ℕ) → (needs q || marks spare q) ≡ true → (needs q || marks left q) ≡ true
    so q is = elim (either-of (needs q) (marks spare q) is) [
      | inl needed ↦ first-of (needs q) (marks left q) needed
      | inr marked ↦ second-of (needs q) (marks left q) (stay q marked)
    ]

-- where all that is known is needed, no mark is wanted
pub marked-needed : (known : List Entry) (needs : ℕ → Bool) (spare : Spare) → AreMarked spare needs (filter (λ (e : Entry). needs e.1) known)
marked-needed known needs spare =
    All-weaker (λ (e : Entry). needs e.1 ≡ true) (λ (e : Entry). (needs e.1 || marks spare e.1) ≡ true) (λ (e : Entry) is. first-of (needs e.1) (marks spare e.1) is)
    (filter (λ (e : Entry). needs e.1) known) (filter_passes (λ (e : Entry). needs e.1) known)

-- the key that came last goes
snoc-of : {X : Type 0} (xs : List X) → (xs ≡ []) ⊎ ((before : List X) × (last : X) × (xs ≡ before ++ last ∷ []))
snoc-of [] = inl refl
snoc-of (x ∷ xs) = elim (snoc-of xs) [
  | inl none ↦ inr ([], x, ap (λ rest. x ∷ rest) none)
  | inr some ↦ inr (x ∷ some.0, some.1, ap (λ rest. x ∷ rest) some.2)
]

pub marked-front : (known left : List Entry) (needs : ℕ → Bool) (spare : Spare) → ((before : List Entry) (last : Entry) → known ≡ before ++ last ∷ [] → left ≡ before)
    → (known ≡ [] → left ≡ []) → AreMarked spare needs known → AreMarked spare needs left
marked-front known left needs spare front none are = elim (snoc-of known) [
  | inl empty ↦ subst (AreMarked spare needs) (empty ∙ sym (none empty)) are
  | inr some ↦
      subst (AreMarked spare needs) (sym (front some.0 some.1 some.2))
      (all-parts (λ (e : Entry). (needs e.1 || marks spare e.1) ≡ true) some.0 (some.1 ∷ []) (subst (AreMarked spare needs) some.2 are)).0
]

-- ---- what isn't needed

module _ (needs : ℕ → Bool) where
  -- nothing, if no place is marked
  pub none-spare : (known : List Entry) → AreMarked Nowhere needs known → filter (λ p. not (needs p)) (map (λ (e : Entry). e.1) known) ≡ []
  none-spare [] are = refl
  none-spare (e ∷ es) are =
      let rest = none-spare es (All-tail (λ (e : Entry). (needs e.1 || marks Nowhere e.1) ≡ true) e es are) in
      elim (either-of (needs e.1) (marks Nowhere e.1) (All-head (λ (e : Entry). (needs e.1 || marks Nowhere e.1) ≡ true) e es are)) [
        | inl needed ↦ rw needed rest
        | inr never ↦ absurd (cc)
      ]

  module _ (place : ℕ) (spare : needs place ≡ false) where
    -- of marked or needed places this one isn't needed, and the others are
    only-here : (q : ℕ) → (needs q || (place == q)) ≡ true → not (needs q) ≡ (q == place)
    only-here q is = by (place == q) refl (either-of (needs q) (place == q) is) where
      by : (at : Bool) → (place == q) ≡ at → (needs q ≡ true) ⊎ ((place == q) ≡ true) → not (needs q) ≡ (q == place)
      by true at either = let one : place ≡ q = same-place place q at in grind (arith, nat_tests, one, spare)
      by false apart (inl needed) = rw needed (grind (arith, nat_tests, apart))
      by false apart (inr at) = absurd (cc)

    -- only this place, if it alone is marked
    pub one-spare : (known : List Entry) → AreMarked (At place) needs known
        → filter (λ p. not (needs p)) (map (λ (e : Entry). e.1) known) ≡ filter (λ p. p == place) (map (λ (e : Entry). e.1) known)
    one-spare [] are = refl
    one-spare (e ∷ es) are =
        let rest = one-spare es (All-tail (λ (e : Entry). (needs e.1 || marks (At place) e.1) ≡ true) e es are) in
        let here = only-here e.1 (All-head (λ (e : Entry). (needs e.1 || marks (At place) e.1) ≡ true) e es are) in
        rw (here, rest) refl

    pub others-needed : (known : List Entry) → AreMarked (At place) needs known → filter (λ (e : Entry). not (e.1 == place)) known ≡ filter (λ (e : Entry). needs e.1) known
    others-needed [] are = refl
    others-needed (e ∷ es) are =
        let rest = others-needed es (All-tail (λ (e : Entry). (needs e.1 || marks (At place) e.1) ≡ true) e es are) in
        let here = only-here e.1 (All-head (λ (e : Entry). (needs e.1 || marks (At place) e.1) ≡ true) e es are) in
        let back : not (e.1 == place) ≡ needs e.1 = ap not (sym here) ∙ twice (needs e.1) in
        rw (back, rest) refl
      where
        twice : (b : Bool) → not (not b) ≡ b
        twice true = refl
        twice false = refl

-- nor is this one unneeded, if it is needed after all
pub none-here : (needs : ℕ → Bool) (place : ℕ) → needs place ≡ true → (known : List Entry) → AreMarked (At place) needs known
    → filter (λ p. not (needs p)) (map (λ (e : Entry). e.1) known) ≡ []
none-here needs place needed known are = none-spare needs known (still-marked (At place) Nowhere needs needs known so are) where
  so : (q : ℕ) → (needs q || marks (At place) q) ≡ true → (needs q || marks Nowhere q) ≡ true
  so q is = elim (either-of (needs q) (place == q) is) [
    | inl here ↦ first-of (needs q) false here
    | inr at ↦ first-of (needs q) false (subst (λ p. needs p ≡ true) (same-place place q at) needed)
  ]

-- so no pin is given up
pub run-none : {S : Type 0} (joins : S → Call → Answer → S → Type 0) (a : S) (who : ℕ) (places : List ℕ) → places ≡ [] → Runs joins a (unpinning_all who places) tt a
run-none joins a who places none = subst (λ (ps : List ℕ). Runs joins a (unpinning_all who ps) tt a) (sym none) (refl, refl)

-- ---- one key at a place

-- the keys that a context knows at a place are one, as the space has one there
pub one-key : {S : Type 0} (members : Ghosts S) (laws : LawsOf members) (space : S) (context : ContextView) (place : ℕ) → Attends members space context → HasOneKey place context.known
one-key members laws space context place attends key other (i, inside, is) (j, within, there) =
    laws.one_key space context.who place key other attends.speaks
    (subst (λ (e : Entry). members.knows space context.who e.1 e.0) is (attends.known i (key, place) inside))
    (subst (λ (e : Entry). members.knows space context.who e.1 e.0) there (attends.known j (other, place) within))
