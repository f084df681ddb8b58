-- Keys that are put in their places stand in their order, each once.
use Rattle.std.proofs.Common.{◌≡◌, ◌⊎◌, List, [], ◌∷◌, inl, inr, refl, sym, ap, subst, ◌∙◌, arith, rules}
use Rattle.std.specs.Prelude.{AllPairs, Contains}
use Rattle.std.specs.Cmp.{IsTotalOrder}
use Rattle.std.specs.Cmp.Rules.{comparing}
use Rattle.std.specs.Ordering.{is_eq, ordering_reverse}
use Rattle.std.specs.declared.cmp.Ordering.{Ordering}
use Rattle.std.specs.declared.cmp.Ordering.TheVariants.{Less, Equal, Greater}
use Rattle.std.proofs.lemmas.List.Elements.{All-cons, All-nil}
use Rattle.std.proofs.lemmas.List.Kept.{AllPairs-cons}
use Rattle.mdl_key.specs.Keys.{KeyName, key_cmp, key_eq}
use Rattle.mdl_core.proofs.PairLemmas.{all-from_members, none-in, pairs-head, pairs-tail}
use Rattle.mdl_system.proofs.Deciding.{key-Decides}
use Rattle.mdl_system.proofs.OrderLemmas.{Contains-cons_cases, Contains-here, Contains-later}
use Rattle.mdl_rows.specs.KeyOrder.{inserted_in_order, placed_all, put}
use Rattle.mdl_script_laws.specs.KeysInOrder.{KeyComesBefore, KeysStandInOrder}

key-total : IsTotalOrder key_cmp
key-total = search (comparing, rules) depth 9

key-ties : (j k : KeyName) → key_eq j k ≡ is_eq (key_cmp j k)
key-ties = search (comparing, rules) depth 9

-- neither comes before the other only where both are one
same-key : (j k : KeyName) → key_cmp j k ≡ Equal → j ≡ k
same-key j k e = (key-Decides j k).0 (key-ties j k ∙ ap is_eq e)

-- ---- one key more

placed-among : (key : KeyName) (keys : List KeyName) (x : KeyName) → Contains (inserted_in_order key keys) x → Contains keys x ⊎ (x ≡ key)
placed-among key [] x among = Contains-cons_cases key [] x among
placed-among key (other ∷ others) x among = by (key_cmp key other) (placed-among key others x) among where
  by : (how : Ordering) → (Contains (inserted_in_order key others) x → Contains others x ⊎ (x ≡ key)) → Contains (put key how other others (inserted_in_order key others)) x → Contains (other ∷ others) x ⊎ (x ≡ key)
  by Less rest there = Contains-cons_cases key (other ∷ others) x there
  by Equal rest there = inl there
  by Greater rest there = elim (Contains-cons_cases other (inserted_in_order key others) x there) [
    | inl later ↦ elim (rest later) [ inl old ↦ inl (Contains-later other others x old) | inr new ↦ inr new ]
    | inr here ↦ inl (subst (Contains (other ∷ others)) (sym here) (Contains-here other others))
  ]

placed-here : (key : KeyName) (keys : List KeyName) → Contains (inserted_in_order key keys) key
placed-here key [] = Contains-here key []
placed-here key (other ∷ others) = by (key_cmp key other) refl (placed-here key others) where
  by : (how : Ordering) → key_cmp key other ≡ how → Contains (inserted_in_order key others) key → Contains (put key how other others (inserted_in_order key others)) key
  by Less e rest = Contains-here key (other ∷ others)
  by Equal e rest = subst (Contains (other ∷ others)) (sym (same-key key other e)) (Contains-here other others)
  by Greater e rest = Contains-later other (inserted_in_order key others) key rest

placed-keeps : (key : KeyName) (keys : List KeyName) (x : KeyName) → Contains keys x → Contains (inserted_in_order key keys) x
placed-keeps key [] x among = absurd (none-in x among)
placed-keeps key (other ∷ others) x among = by (key_cmp key other) (placed-keeps key others x) where
  by : (how : Ordering) → (Contains others x → Contains (inserted_in_order key others) x) → Contains (put key how other others (inserted_in_order key others)) x
  by Less rest = Contains-later key (other ∷ others) x among
  by Equal rest = among
  by Greater rest = elim (Contains-cons_cases other others x among) [
    | inl later ↦ Contains-later other (inserted_in_order key others) x (rest later)
    | inr here ↦ subst (Contains (other ∷ inserted_in_order key others)) (sym here) (Contains-here other (inserted_in_order key others))
  ]

placed-sorted : (key : KeyName) (keys : List KeyName) → AllPairs KeyComesBefore keys → AllPairs KeyComesBefore (inserted_in_order key keys)
placed-sorted key [] pairs = AllPairs-cons KeyComesBefore key [] (All-nil (KeyComesBefore key)) pairs
placed-sorted key (other ∷ others) pairs =
    by (key_cmp key other) refl (placed-sorted key others (pairs-tail KeyComesBefore other others pairs)) where
      by : (how : Ordering) → key_cmp key other ≡ how → AllPairs KeyComesBefore (inserted_in_order key others) → AllPairs KeyComesBefore (put key how other others (inserted_in_order key others))
      by Less first rest =
          AllPairs-cons KeyComesBefore key (other ∷ others)
          (All-cons (KeyComesBefore key) other others first
          (all-from_members KeyComesBefore (KeyComesBefore key) others
          (λ x among. key-total.trans key other x first (pairs-head KeyComesBefore other others pairs x among))))
          pairs
      by Equal same rest = pairs
      by Greater later rest =
          AllPairs-cons KeyComesBefore other (inserted_in_order key others)
          (all-from_members KeyComesBefore (KeyComesBefore other) (inserted_in_order key others) (λ x among. elim (placed-among key others x among) [
            | inl old ↦ pairs-head KeyComesBefore other others pairs x old
            | inr new ↦ subst (KeyComesBefore other) (sym new) (key-total.antisymm other key ∙ ap ordering_reverse later)
          ]))
          rest

-- ---- all keys

all-among : (keys among : List KeyName) (x : KeyName) → Contains (placed_all keys among) x → Contains keys x ⊎ Contains among x
all-among [] among x there = inr there
all-among (key ∷ keys) among x there = elim (all-among keys (inserted_in_order key among) x there) [
  | inl later ↦ inl (Contains-later key keys x later)
  | inr old ↦ elim (placed-among key among x old) [
    | inl before ↦ inr before
    | inr here ↦ inl (subst (Contains (key ∷ keys)) (sym here) (Contains-here key keys))
  ]
]

all-keep : (keys among : List KeyName) (x : KeyName) → Contains among x → Contains (placed_all keys among) x
all-keep [] among x there = there
all-keep (key ∷ keys) among x there = all-keep keys (inserted_in_order key among) x (placed-keeps key among x there)

all-there : (keys among : List KeyName) (x : KeyName) → Contains keys x → Contains (placed_all keys among) x
all-there [] among x there = absurd (none-in x there)
all-there (key ∷ keys) among x there = elim (Contains-cons_cases key keys x there) [
  | inl later ↦ all-there keys (inserted_in_order key among) x later
  | inr here ↦ all-keep keys (inserted_in_order key among) x (subst (Contains (inserted_in_order key among)) (sym here) (placed-here key among))
]

all-sorted : (keys among : List KeyName) → AllPairs KeyComesBefore among → AllPairs KeyComesBefore (placed_all keys among)
all-sorted [] among pairs = pairs
all-sorted (key ∷ keys) among pairs = all-sorted keys (inserted_in_order key among) (placed-sorted key among pairs)

pub stand-in_order : KeysStandInOrder
stand-in_order keys = (
  all-sorted keys [] (λ i j d lt short. absurd (omega arith)),
  λ key. (
    (λ there. elim (all-among keys [] key there) [ inl old ↦ old | inr none ↦ absurd (none-in key none) ]),
    all-there keys [] key,
  ),
)
