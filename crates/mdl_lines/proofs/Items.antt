-- Reading words one after another: what the next call of an iterator gives, where its list is known.
use Rattle.std.proofs.Common.{◌≡◌, ◌<◌, List, [], ◌∷◌, length, get_or, refl, sym, subst}
use Rattle.std.specs.Prelude.{Option, Some, None}
use Rattle.std.specs.Iterator.{Yields}
use Rattle.std.proofs.lemmas.Iterator.{YieldsList}
use Rattle.std.proofs.lemmas.Iterator.Consumers.{YieldsList-turn, YieldsList-end}

module _ {S A B : Type 0} {steps : S → Option A → S → Type 0} {v : A → B} {s : S} where
  -- an item is the first of the list, and the rest is left
  pub next_some : (r : Option A) (x : A) (t : S) → r ≡ Some x → steps s r t → (ys : List B) → YieldsList steps v s ys → (zs : List B) × ((ys ≡ v x ∷ zs) × YieldsList steps v t zs)
  next_some r x t is p [] e = absurd (e.runs x t (subst (λ o. steps s o t) is p))
  next_some r x t is p (y ∷ ys) e = let k = e.runs.1 x t (subst (λ o. steps s o t) is p) in (ys, ((λ i. sym k.0 i ∷ ys), record { runs = k.1 }))

  -- no item, where the list is empty
  pub next_none : (r : Option A) (t : S) → r ≡ None → steps s r t → (ys : List B) → YieldsList steps v s ys → ys ≡ []
  next_none r t is p [] e = refl
  next_none r t is p (y ∷ ys) e = absurd (e.runs.0 t (subst (λ o. steps s o t) is p))

  -- in a loop, the next item is the one at its place in the list
  pub item_at : (xs : List A) (t : S) → Yields steps s xs t → (r : Option A) (x : A) (u : S) → r ≡ Some x → steps t r u → (all : List B) → YieldsList steps v s all → (length xs < length all) × (v x ≡ get_or all (length xs) (v x))
  item_at xs t y r x u is p all e = YieldsList-turn e xs t y r u x is p

  -- at its end, all items came
  pub all_came : (xs : List A) (t : S) → Yields steps s xs t → (r : Option A) (u : S) → r ≡ None → steps t r u → (all : List B) → YieldsList steps v s all → length xs ≡ length all
  all_came xs t y r u is p all e = (YieldsList-end e xs t y r u is p).1
