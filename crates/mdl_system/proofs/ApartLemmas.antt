-- BookView of waiters of different sessions.
use Rattle.std.proofs.Common.{◌≡◌, ◌≢◌, suc, inl, inr, List, [], ◌∷◌, ◌++◌, get_or, sym, subst, arith}
use Rattle.std.specs.Prelude.{Contains, All, AllPairs}
use Rattle.std.proofs.lemmas.List.Elements.{All-contains, Contains-get_or}
use Rattle.std.proofs.lemmas.List.Kept.{AllPairs-cons}
use Rattle.std.proofs.lemmas.List.Quantifiers.{all_pairs_push}
use Rattle.mdl_system.specs.Systems.{Waiter}
use Rattle.mdl_system.specs.Events.{LeavesOrder, TakesTurn}
use Rattle.mdl_system.proofs.OrderLemmas.{Contains-cons_cases, around, around_cases, middle, within}

-- two waiters are of different sessions
abbrev pub apart : Waiter → Waiter → Type 0
apart earlier later = earlier.ticket.session ≢ later.ticket.session

all-from_members : (P : Waiter → Type 0) (xs : List Waiter) → ((x : Waiter) → Contains xs x → P x) → All P xs
all-from_members P xs f k d lt = f (get_or xs k d) (Contains-get_or xs k d lt)

apart-head : (x : Waiter) (xs : List Waiter) → AllPairs apart (x ∷ xs) → (y : Waiter) → Contains xs y → apart x y
apart-head x xs pairs y among = All-contains (apart x) xs y (λ k d lt. pairs 0 (suc k) d (omega arith) (omega arith)) among

apart-tail : (x : Waiter) (xs : List Waiter) → AllPairs apart (x ∷ xs) → AllPairs apart xs
apart-tail x xs pairs i j d lt within = pairs (suc i) (suc j) d (omega arith) (omega arith)

-- the others are of other sessions
apart-others : (before after : List Waiter) (x : Waiter) → AllPairs apart (before ++ x ∷ after) → (y : Waiter) → Contains (before ++ after) y → apart y x
apart-others [] after x pairs y among = λ e. apart-head x after pairs y among (sym e)
apart-others (b ∷ bs) after x pairs y among = elim (Contains-cons_cases b (bs ++ after) y among) [
  | inl later ↦ apart-others bs after x (apart-tail b (bs ++ x ∷ after) pairs) y later
  | inr e ↦ subst (λ (z : Waiter). apart z x) (sym e) (apart-head b (bs ++ x ∷ after) pairs x (middle bs after x))
]

-- and without one, or with another of its session in its place, all are still apart
apart-fewer : (before after : List Waiter) (x : Waiter) → AllPairs apart (before ++ x ∷ after) → AllPairs apart (before ++ after)
apart-fewer [] after x pairs = apart-tail x after pairs
apart-fewer (b ∷ bs) after x pairs =
    AllPairs-cons apart b (bs ++ after) (all-from_members (apart b) (bs ++ after) (λ y among. apart-head b (bs ++ x ∷ after) pairs y (around bs after x y among)))
    (apart-fewer bs after x (apart-tail b (bs ++ x ∷ after) pairs))

apart-changed : (before after : List Waiter) (x z : Waiter) → x.ticket ≡ z.ticket → AllPairs apart (before ++ x ∷ after) → AllPairs apart (before ++ z ∷ after)
apart-changed [] after x z e pairs =
    AllPairs-cons apart z after (all-from_members (apart z) after (λ y among. subst (λ t. t.session ≢ y.ticket.session) e (apart-head x after pairs y among)))
    (apart-tail x after pairs)
apart-changed (b ∷ bs) after x z e pairs =
    AllPairs-cons apart b (bs ++ z ∷ after) (all-from_members (apart b) (bs ++ z ∷ after)
    (λ y among. elim (around_cases bs after z y among) [
      | inl other ↦ apart-head b (bs ++ x ∷ after) pairs y (around bs after x y other)
      | inr same ↦ subst (λ (w : Waiter). apart b w) (sym same) (subst (λ t. b.ticket.session ≢ t.session) e (apart-head b (bs ++ x ∷ after) pairs x (middle bs after x)))
    ]))
    (apart-changed bs after x z e (apart-tail b (bs ++ x ∷ after) pairs))

module _ (old new : List Waiter) (x : Waiter) where
  pub leaves-apart : LeavesOrder x old new → AllPairs apart old → AllPairs apart new
  leaves-apart leaves pairs =
      subst (AllPairs apart) (sym leaves.3) (apart-fewer leaves.0 leaves.1 x (subst (AllPairs apart) leaves.2 pairs))

  pub leaves-others : LeavesOrder x old new → AllPairs apart old → (y : Waiter) → Contains new y → apart y x
  leaves-others leaves pairs y among =
      apart-others leaves.0 leaves.1 x (subst (AllPairs apart) leaves.2 pairs) y (within new _ y leaves.3 among)

  pub turn-apart : (z : Waiter) → x.ticket ≡ z.ticket → TakesTurn x z old new → AllPairs apart old → AllPairs apart new
  turn-apart z e turn pairs =
      subst (AllPairs apart) (sym turn.3) (apart-changed turn.0 turn.1 x z e (subst (AllPairs apart) turn.2 pairs))

  pub joins-apart : new ≡ old ++ x ∷ [] → ((y : Waiter) → Contains old y → apart y x) → AllPairs apart old → AllPairs apart new
  joins-apart joins others pairs =
      subst (AllPairs apart) (sym joins) (all_pairs_push apart old x pairs (λ k d lt. others (get_or old k d) (Contains-get_or old k d lt)))
