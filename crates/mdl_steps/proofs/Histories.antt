-- The rule holds of each table that is reached, and a whole step that keeps it may be made there.
use Rattle.std.proofs.Common.{◌≡◌, ℕ, ◌<◌, List, [], ◌∷◌, length, get_or, refl, sym, ap, ◌∙◌, length-set}
use Rattle.atomic_table.specs.Table.{stepped}
use Rattle.mdl_steps.proofs.Common.{Act, Allows, IsWhole, Makes, Maybe, Mine, Reached, ReachedFor, Rule, Slot, Step, TableChange, Valid, View, carried_after, chain, get_elem?, gives, homes_after, keeps, none, put_back, some, step, takes, word_count}
use Rattle.mdl_steps.proofs.Lift.{Table}
use Rattle.mdl_steps.proofs.Opens.{opens}

pub reached-rule : (s : Table) → Reached s → Rule s
reached-rule s (Reached.Opens sessions words slots open_) = opens sessions words slots open_
reached-rule s (Reached.Goes _ _ before rule turn whole) = rule

-- what is shown of a step on a table that leaves this number in its word: its seat afterwards, what it does with slots, that the rule holds then, what its
-- session knows, and that it is a whole step of some kind
abbrev pub Shows : Table → ℕ → Mine → Step Slot → ℕ → (Mine → Type 0) → Type 0
Shows s id me st left then =
    (w : View) × (a : Act Slot) × Valid s.homes me.1 a × Rule (stepped s st.word left id me.1 w a)
    × (told : then (w, carried_after me.1 a))
    × (makes : then (w, carried_after me.1 a) → Makes st me (get_or s.words st.word 0) (w, carried_after me.1 a)) × IsWhole s left a (makes told)

-- slots are moved, but there are as many
put_length : (hs : List (Maybe Slot)) (c : List (ℕ × Slot)) → length (put_back hs c) ≡ length hs
put_length hs [] = refl
put_length hs (x ∷ xs) = length-set hs x.0 (some x.1)

pub homes_length : (hs : List (Maybe Slot)) (c : List (ℕ × Slot)) (act : Act Slot) → length (homes_after hs c act) ≡ length hs
homes_length hs c keeps = refl
homes_length hs c (takes k y) = length-set hs k _
homes_length hs c gives = put_length hs c
homes_length hs c (chain a b) = homes_length (homes_after hs c a) (carried_after c a) b ∙ homes_length hs c a

module _ (slots id word a b : ℕ) (me : Mine) (f : ℕ → ℕ) (then : ℕ → Mine → Type 0) where
  -- the step is shown of each table of so many slots where the rule holds, and which has words for this number of sessions
  abbrev pub ShownFor : ℕ → Type 0
  ShownFor room =
      (s : Table) → Rule s → length s.words ≡ word_count (length s.homes) room → length s.homes ≡ slots → get_elem? s.views id ≡ some me.0 → get_or s.words word 0 < 18446744073709551616
      → Shows s id me (step slots word a b none) (f (get_or s.words word 0)) (then (get_or s.words word 0))

  pub goes_on_for : (room : ℕ) → ShownFor room → Allows (ReachedFor room) slots id me word f then
  goes_on_for room shown s before size seat fits =
      let k = shown s (reached-rule s before.0) before.1 size seat fits in (
        k.0,
        k.1,
        k.2,
        (
          Reached.Goes s (stepped s word (f (get_or s.words word 0)) id me.1 k.0 k.1) before.0 k.3
              (TableChange.Steps id me (k.0, carried_after me.1 k.1) (step slots word a b none) (f (get_or s.words word 0)) k.1 seat (k.5 k.4) refl)
              (sym size, k.2, refl, k.6),
          length-set s.words word (f (get_or s.words word 0)) ∙ before.1 ∙ ap (λ (n : ℕ). word_count n room) (sym (homes_length s.homes me.1 k.1)),
        ),
        k.4,
      )

  -- the step is shown of each table of so many slots where the rule holds
  abbrev pub Shown : Type 0
  Shown =
      (s : Table) → Rule s → length s.homes ≡ slots → get_elem? s.views id ≡ some me.0 → get_or s.words word 0 < 18446744073709551616
      → Shows s id me (step slots word a b none) (f (get_or s.words word 0)) (then (get_or s.words word 0))

  pub goes_on : Shown → (room : ℕ) → Allows (ReachedFor room) slots id me word f then
  goes_on shown room = goes_on_for room (λ s r wide. shown s r)
