-- The system by the lists of its locks.
use Rattle.std.proofs.Common.{◌≡◌, ◌≢◌, ◌⊎◌, ◌↔◌, ℕ, Bool, true, false, ◌==◌, ◌||◌, not, inl, inr, List, map, get_or, refl, sym, ap, subst, ◌∙◌}
use Rattle.std.specs.Prelude.{IsTrue, Contains, Decides}
use Rattle.std.specs.List.{list_all}
use Rattle.std.proofs.lemmas.Bool.Decides.{eqb_tells, Decides-and, Decides-at, Decides-by_and, Decides-like}
use Rattle.std.proofs.lemmas.List.Elements.{All-contains, Contains-get_or}
use Rattle.std.proofs.lemmas.List.Folds.{list_all-map}
use Rattle.mdl_key.specs.declared.namespace.Kind.{Kind}
use Rattle.mdl_key.specs.declared.mode.Mode.{Mode}
use Rattle.mdl_key.specs.Words.{KeyName, clashes, Clashes, waits_behind, WaitsBehind}
use Rattle.mdl_book.specs.declared.ticket.Ticket.{Ticket}
use Rattle.mdl_book.specs.Granting as book
use Rattle.mdl_system.specs.Systems.{Holding, Waiter, System, lock_kind, IsLawful, IsGrantable}
use Rattle.mdl_system.specs.Events.{Gains, Loses, Replaces, SameElsewhere}
use Rattle.mdl_system.specs.BookLaws.{in_book, of_lock, IsGrantedByLists}
use Rattle.mdl_system.proofs.Deciding.{key_told}

-- a test of each element, and what it says of each member
each-Decides : {T : Type 0} (p : T → Bool) (P : T → Type 0) → ((x : T) → Decides (p x) (P x)) → (xs : List T)
    → Decides (list_all p xs) ((x : T) → Contains xs x → P x)
each-Decides p P each xs =
    Decides-like (list_all p xs) (λ all x among. All-contains P xs x all among) (λ f k d lt. f (get_or xs k d) (Contains-get_or xs k d lt))
    (Decides-by_and p P (list_all p) each refl (λ _ _. refl) xs)

-- one's own, or not in the way
apart-Decides : (own other : ℕ) (test : Bool) → Decides (own == other || not test) (own ≢ other → IsTrue test → ⊥)
apart-Decides own other test = go (eqb_tells own other) test
  where
    go : ((own == other) ≡ true) × (own ≡ other) ⊎ ((own == other) ≡ false) × (own ≢ other) → (t : Bool) → Decides (own == other || not t) (own ≢ other → IsTrue t → ⊥)
    go (inl e) t = ((λ _ others _. others e.1), λ _. ap (λ b. b || not t) e.0)
    go (inr e) true = ((λ h _ _. let no : false ≡ true = sym (ap (λ b. b || false) e.0) ∙ h in cc), λ f. absurd (f e.1 refl))
    go (inr e) false = ((λ _ _ h. cc), λ _. ap (λ b. b || true) e.0)

pub compatible-Decides : (kind : Kind) (granted : List Ticket) (session : ℕ) (mode : Mode)
    → Decides (book.is_compatible kind granted session mode) ((t : Ticket) → Contains granted t → t.session ≢ session → Clashes kind mode t.mode → ⊥)
compatible-Decides kind granted session mode =
    each-Decides (book.stands_beside kind session mode) (λ t. t.session ≢ session → Clashes kind mode t.mode → ⊥)
    (λ t. apart-Decides t.session session (clashes kind mode t.mode)) granted

goes_first-Decides : (kind : Kind) (waiting : List Waiter) (session : ℕ) (mode : Mode)
    → Decides (book.goes_first kind (map (λ (waiter : Waiter). waiter.ticket) waiting) session mode)
    ((w : Waiter) → Contains waiting w → w.ticket.session ≢ session → WaitsBehind kind mode w.ticket.mode → ⊥)
goes_first-Decides kind waiting session mode =
    Decides-at _ _ (list_all-map (book.overtakes kind session mode) (λ (w : Waiter). w.ticket) waiting)
    (each-Decides (λ w. book.overtakes kind session mode w.ticket) (λ w. w.ticket.session ≢ session → WaitsBehind kind mode w.ticket.mode → ⊥)
    (λ w. apart-Decides w.ticket.session session (waits_behind kind mode w.ticket.mode)) waiting)

lawful-Decides : (kind : Kind) (granted : List Ticket)
    → Decides (book.is_lawful kind granted) ((t : Ticket) → Contains granted t → (u : Ticket) → Contains granted u → u.session ≢ t.session → Clashes kind t.mode u.mode → ⊥)
lawful-Decides kind granted =
    each-Decides (λ t. book.is_compatible kind granted t.session t.mode) (λ t. (u : Ticket) → Contains granted u → u.session ≢ t.session → Clashes kind t.mode u.mode → ⊥)
    (λ t. compatible-Decides kind granted t.session t.mode) granted

module _ {D : Type 0} (system : System D) (lists : KeyName → List Ticket) (by : IsGrantedByLists system lists) where
  into_list : (held : Holding) (key : KeyName) → Contains system.granted held → held.key ≡ key → Contains (lists key) (in_book held)
  into_list held key among same = subst (λ k. Contains (lists k) (in_book held)) same ((by held).0 among)

  out_of_list : (key : KeyName) (t : Ticket) → Contains (lists key) t → Contains system.granted (of_lock key t)
  out_of_list key t among = (by (of_lock key t)).1 among

  pub lawful-by_lists : IsLawful system ↔ ((key : KeyName) → book.IsLawful (lock_kind key) (lists key))
  lawful-by_lists = (
    (λ lawful key. (lawful-Decides (lock_kind key) (lists key)).1 (λ t p u q other clash.
        lawful (of_lock key t) (of_lock key u) (out_of_list key t p) (out_of_list key u q) refl (λ e. other (sym e)) clash)),
    λ all one other p q same apart clash. (lawful-Decides (lock_kind one.key) (lists one.key)).0 (all one.key)
        (in_book one) (into_list one one.key p refl) (in_book other) (into_list other one.key q (sym same)) (λ e. apart (sym e)) clash,
  )

  pub grantable-by_lists : (session : ℕ) (key : KeyName) (mode : Mode)
      → IsGrantable system session key mode
      ↔ book.IsGrantable (lock_kind key) (lists key) (map (λ (waiter : Waiter). waiter.ticket) (system.waiting key)) session mode
  grantable-by_lists session key mode =
      let compatible = compatible-Decides (lock_kind key) (lists key) session mode in
      let first = goes_first-Decides (lock_kind key) (system.waiting key) session mode in
      let both = Decides-and _ _ compatible first in (
        (λ g. both.1 ((λ t among other clash. g.0 (of_lock key t) (out_of_list key t among) refl other clash), g.1)),
        λ e. ((λ held among same other clash. (both.0 e).0 (in_book held) (into_list held key among same) other clash), (both.0 e).1),
      )

-- ---- changes of one list

-- a ticket of a key is known by its place in the book
of_lock-from_book : (held : Holding) (key : KeyName) (t : Ticket) → held.key ≡ key → in_book held ≡ t → held ≡ of_lock key t
of_lock-from_book held key t k e = λ i. record { session = (e i).session; number = (e i).number; key = k i; mode = (e i).mode }

module _ {D : Type 0} (a b : System D) (old new : KeyName → List Ticket) (key : KeyName) (before : IsGrantedByLists a old) (after : IsGrantedByLists b new) (same : SameElsewhere key old new) where
  here-before : (held : Holding) → held.key ≡ key → Contains a.granted held ↔ Contains (old key) (in_book held)
  here-before held k = subst (λ j. Contains a.granted held ↔ Contains (old j) (in_book held)) k (before held)

  here-after : (held : Holding) → held.key ≡ key → Contains b.granted held ↔ Contains (new key) (in_book held)
  here-after held k = subst (λ j. Contains b.granted held ↔ Contains (new j) (in_book held)) k (after held)

  elsewhere : (held : Holding) → held.key ≢ key → Contains b.granted held ↔ Contains a.granted held
  elsewhere held n =
      let list : new held.key ≡ old held.key = same held.key n in (
        (λ p. (before held).1 (subst (λ ts. Contains ts (in_book held)) list ((after held).0 p))),
        λ p. (after held).1 (subst (λ ts. Contains ts (in_book held)) (sym list) ((before held).0 p)),
      )

  gains-by_lists : (come : Ticket) → Gains come (old key) (new key) → Gains (of_lock key come) a.granted b.granted
  gains-by_lists come gains held = elim (key_told held.key key) [
    | inl k ↦ (
      (λ p. elim ((gains (in_book held)).0 ((here-after held k).0 p)) [ inl was ↦ inl ((here-before held k).1 was) | inr e ↦ inr (of_lock-from_book held key come k e) ]),
      λ either. (here-after held k).1 (elim either [ inl p ↦ (gains (in_book held)).1 (inl ((here-before held k).0 p)) | inr e ↦ (gains (in_book held)).1 (inr (ap in_book e)) ]),
    )
    | inr n ↦ ((λ p. inl ((elsewhere held n).0 p)), λ either. elim either [ inl p ↦ (elsewhere held n).1 p | inr e ↦ absurd (n (ap (λ (h : Holding). h.key) e)) ])
  ]

  loses-by_lists : (gone : Ticket) → Loses gone (old key) (new key) → Loses (of_lock key gone) a.granted b.granted
  loses-by_lists gone loses held = elim (key_told held.key key) [
    | inl k ↦ (
      (λ p. let left = (loses (in_book held)).0 ((here-after held k).0 p) in ((here-before held k).1 left.0, λ e. left.1 (ap in_book e))),
      λ p. (here-after held k).1 ((loses (in_book held)).1 ((here-before held k).0 p.0, λ e. p.1 (of_lock-from_book held key gone k e))),
    )
    | inr n ↦ ((λ p. ((elsewhere held n).0 p, λ e. n (ap (λ (h : Holding). h.key) e))), λ p. (elsewhere held n).1 p.0)
  ]

  replaces-by_lists : (gone come : Ticket) → Replaces gone come (old key) (new key) → Replaces (of_lock key gone) (of_lock key come) a.granted b.granted
  replaces-by_lists gone come replaces held = elim (key_told held.key key) [
    | inl k ↦ (
      (λ p. elim ((replaces (in_book held)).0 ((here-after held k).0 p)) [
        | inl left ↦ inl ((here-before held k).1 left.0, λ e. left.1 (ap in_book e))
        | inr e ↦ inr (of_lock-from_book held key come k e)
      ]),
      λ either. (here-after held k).1 (elim either [
        | inl p ↦ (replaces (in_book held)).1 (inl ((here-before held k).0 p.0, λ e. p.1 (of_lock-from_book held key gone k e)))
        | inr e ↦ (replaces (in_book held)).1 (inr (ap in_book e))
      ]),
    )
    | inr n ↦ (
      (λ p. inl ((elsewhere held n).0 p, λ e. n (ap (λ (h : Holding). h.key) e))),
      λ either. elim either [ inl p ↦ (elsewhere held n).1 p.0 | inr e ↦ absurd (n (ap (λ (h : Holding). h.key) e)) ],
    )
  ]

pub changes-by_lists : {D : Type 0} (a b : System D) (old new : KeyName → List Ticket) (key : KeyName) → IsGrantedByLists a old → IsGrantedByLists b new → SameElsewhere key old new
    → ((come : Ticket) → Gains come (old key) (new key) → Gains (of_lock key come) a.granted b.granted)
    × ((gone : Ticket) → Loses gone (old key) (new key) → Loses (of_lock key gone) a.granted b.granted)
    × ((gone come : Ticket) → Replaces gone come (old key) (new key) → Replaces (of_lock key gone) (of_lock key come) a.granted b.granted)
changes-by_lists a b old new key before after same =
    (gains-by_lists a b old new key before after same, loses-by_lists a b old new key before after same, replaces-by_lists a b old new key before after same)
