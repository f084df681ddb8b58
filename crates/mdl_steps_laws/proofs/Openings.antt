-- At the start nobody holds or waits.
use Rattle.std.proofs.Common.{◌≡◌, ℕ, zero, suc, ◌<◌, List, [], ◌∷◌, length, map, Some, None, refl, sym, ap, ◌∙◌, subst, arith, Contains}
use Rattle.mdl_steps.specs.declared.slot.Slot.TheVariants as slot
use Rattle.mdl_steps_laws.proofs.Common.{Contains-none, Definition, GrantedWait, Holding, IsOpening, IsTold, KeyName, Keys, Lock, Slot, System, View, Waiter, at_inside, at_map, blank, empty_lock, get_elem?, granted_of, in_book, latch_word, numbers_for, opening, some, some-injective, some-ne-none}
use Rattle.mdl_steps_laws.proofs.TableLocks.{one_directory}

module _ (sessions : ℕ) (words : List ℕ) (slots : List Slot) (open_ : IsOpening sessions words slots) (a : System Definition)
    (told : IsTold (opening words slots (blank 0 (numbers_for sessions 0 0))) a) where
  abbrev start : View
  start = blank 0 (numbers_for sessions 0 0)

  some_slot : 0 < length slots
  some_slot = at_inside slots 0 (slot.Directory (record { keys = [] })) open_.directory

  no_keys : told.1.keys ≡ []
  no_keys =
      let first = some_slot in
      ap (λ (k : Keys). k.keys) (one_directory (record { keys = told.1.keys }) (record { keys = [] })
      (sym (told.1.keys_are.free (open_.zeros (latch_word 0) (λ e. omega arith))) ∙ at_map some slots 0 (slot.Directory (record { keys = [] })) open_.directory))

  no_lock : (key : KeyName) → told.0 key ≡ empty_lock key
  no_lock key = told.1.without_place key (λ i at. some-ne-none key (sym (subst (λ (ks : List KeyName). get_elem? ks i ≡ some key) no_keys at)))

  pub none_granted : (held : Holding) → Contains a.granted held → ⊥
  none_granted held among = Contains-none (in_book held) (subst (λ (l : Lock). Contains (granted_of l) (in_book held)) (no_lock held.key) ((told.2.granted held).0 among))

  pub none_waiting : (key : KeyName) → a.waiting key ≡ []
  none_waiting key = empty (a.waiting key) (told.2.waiting key ∙ ap (λ (l : Lock). l.book.waiting) (no_lock key))
    where
      empty : (ws : List Waiter) → map (λ (w : Waiter). w.ticket) ws ≡ [] → ws ≡ []
      empty [] e = refl
      empty (w ∷ ws) e = absurd (cc)

  pub nobody_waits : (key : KeyName) (w : Waiter) → Contains (a.waiting key) w → ⊥
  nobody_waits key w among = Contains-none w (subst (λ (ws : List Waiter). Contains ws w) (none_waiting key) among)

  pub none_unended : (wait : GrantedWait) → Contains a.unended wait → ⊥
  none_unended wait among =
      let granted = (told.3.unended wait).0 among in
      let is : start ≡ granted.1 = only granted.0 granted.1 granted.3 in
      let none : None ≡ Some granted.2 = ap (λ (v : View). v.asks) is ∙ granted.5 in absurd (cc)
    where
      only : (j : ℕ) (v : View) → get_elem? (start ∷ []) j ≡ some v → start ≡ v
      only zero v at = some-injective start v at
      only (suc j) v at = absurd (some-ne-none v (sym at))
