-- What the steps on the words of waits have in common, as events of the system that the table tells.
use Rattle.std.proofs.Common.{◌≡◌, ◌≢◌, ℕ, suc, ◌<◌, ◌≤◌, ◌==◌, Bool, cond, inl, inr, List, length, map, Some, refl, sym, ap, ◌∙◌, subst, arith, Contains}
use Rattle.mdl_steps_laws.proofs.Common.{AreKeysOf, AreLocksOf, BookView, Definition, IsTold, KeyName, LatchRecord, Lock, Rule, SameAt, SameMembers, Slot, State, System, Tells, Ticket, View, at_map, get_elem?, granted_of, held_at, held_at-changed, held_at-unchanged, holder_at, in_book, key_told, some, some-injective, versioned, waits, waits_else}
use Rattle.mdl_steps_laws.proofs.TableLocks.{first_place, last_place, same_keys}
use Rattle.mdl_steps_laws.proofs.WaitLists.{told_alike, waiting_by}
use Rattle.mdl_steps_laws.proofs.WaitSteps.{Stays, after, lock_else, lock_here}
use Rattle.mdl_steps_laws.proofs.WaitsTold.{waiter_by}

-- ---- two systems that locks tell

module _ (old new : KeyName → Lock) (a b : System Definition) (before : Tells old a) (behind : Tells new b) where
  pub same_members : ((k : KeyName) → granted_of (new k) ≡ granted_of (old k)) → SameMembers a.granted b.granted
  same_members same held = (
    (λ among. (before.granted held).1 (subst (λ ts. Contains ts (in_book held)) (same held.key) ((behind.granted held).0 among))),
    λ among. (behind.granted held).1 (subst (λ ts. Contains ts (in_book held)) (sym (same held.key)) ((before.granted held).0 among)),
  )

  pub same_definitions : ((k : KeyName) → (new k).book.standing ≡ (old k).book.standing) → SameAt a.definitions b.definitions
  same_definitions same k = behind.definitions k ∙ ap versioned (same k) ∙ sym (before.definitions k)

-- ---- what the rule says of a seat

-- its number is one of those that there may be
pub number_fits : (s : State Slot View) (r : Rule s) (id : ℕ) (v : View) → get_elem? s.views id ≡ some v → v.number ≤ r.most
number_fits s r id v seat =
    let below = r.enrolled.below id v.number (at_map (λ (x : View). x.number) s.views id v seat) in
    let given = r.enrolled.given in
    let last = r.enrolled.last in
    omega arith

-- and another seat has another
pub one_seat : (s : State Slot View) (r : Rule s) (i j : ℕ) (u v : View) → get_elem? s.views i ≡ some u → get_elem? s.views j ≡ some v → u.number ≡ v.number → 0 < v.number → u ≡ v
one_seat s r i j u v there seat same some_number =
    let one = at_map (λ (x : View). x.number) s.views i u there ∙ ap (λ (n : ℕ). some n) same in
    let other = at_map (λ (x : View). x.number) s.views j v seat in
    some-injective u v (sym there ∙ ap (get_elem? s.views) (r.enrolled.apart i j v.number one other some_number) ∙ seat)

-- ---- the waiters of a lock that stays

module _ (s : State Slot View) (r : Rule s) (session n id : ℕ) (v w : View) (seat : get_elem? s.views id ≡ some v) (stays : Stays v w)
    (a b : System Definition) (told : IsTold s a) (told′ : IsTold (after s r session n id v w seat stays) b) where
  pub waiting_same : (k : KeyName) → told′.0 k ≡ told.0 k → ((t : Ticket) → Contains (told.0 k).book.waiting t → t.session ≢ session) → b.waiting k ≡ a.waiting k
  waiting_same k same apart =
      let s′ : State Slot View = after s r session n id v w seat stays in
      waiting_by (after s r session n id v w seat stays) told′.0 b told′.2 told′.3 k
      ∙ ap (λ (l : Lock). map (waiter_by (waits (after s r session n id v w seat stays))) l.book.waiting) same
      ∙ told_alike (waits s) (waits (after s r session n id v w seat stays)) (told.0 k).book.waiting (λ t among. waits_else s r session n id v w t.session (apart t among))
      ∙ sym (waiting_by s told.0 a told.2 told.3 k)

-- ---- the place of a key

module _ (s : State Slot View) (r : Rule s) (keys : List KeyName) (keys_are : AreKeysOf s keys) (i : ℕ) (key : KeyName) (at : get_elem? keys i ≡ some key) where
  pub in_rule : get_elem? r.keys i ≡ some key
  in_rule = subst (λ (ks : List KeyName). get_elem? ks i ≡ some key) (same_keys s r keys keys_are) at

  pub in_locks : (locks : KeyName → Lock) (are : AreLocksOf s locks) → get_elem? are.keys i ≡ some key
  in_locks locks are = subst (λ (ks : List KeyName). get_elem? ks i ≡ some key) (sym (same_keys s r are.keys are.keys_are)) in_rule

  pub inside : suc i < length s.homes
  inside = last_place s r i key in_rule

  module _ (id : ℕ) (v : View) (seat : get_elem? s.views id ≡ some v) (h : LatchRecord) (holds : held_at (suc i) v.latches ≡ Some h) where
    pub some_session : 0 < v.number
    some_session = ((r.places (suc i) (first_place s r i key in_rule) inside).held id (holder_at (suc i) v) (at_map (holder_at (suc i)) s.views id v seat) h holds).some_session

    -- the session that holds its latch changes the book in its record so, and whether that says that something was freed
    module _ (change : BookView → BookView) (frees : Bool → Bool) (session n : ℕ) (w : View) (stays : Stays v w)
        (latches : w.latches ≡ map (λ x. cond (x.place == suc i) (record x { book = change x.book; freed = frees x.freed }) x) v.latches)
        (r′ : Rule (after s r session n id v w seat stays)) (a b : System Definition) (told : IsTold s a) (told′ : IsTold (after s r session n id v w seat stays) b) where
      pub book_was : h.book ≡ (told.0 key).book
      book_was = (told.1.book_is i key (in_locks told.0 told.1)).taken id v seat h holds

      pub lock_turns : told′.0 key ≡ record { fast = (told.0 key).fast; book = change (told.0 key).book }
      lock_turns =
          lock_here s r session n id v w seat stays r′ told.0 told′.0 told.1 told′.1 key i (in_locks told.0 told.1) (record h { book = change h.book; freed = frees h.freed })
          (ap (held_at (suc i)) latches ∙ held_at-changed (suc i) (λ x. record x { book = change x.book; freed = frees x.freed }) (λ x. refl) v.latches h holds)
          ∙ ap (λ (b : BookView). record { fast = (told.0 key).fast; book = change b }) book_was

      pub lock_stays : (k : KeyName) → k ≢ key → told′.0 k ≡ told.0 k
      lock_stays k away =
          lock_else s r session n id v w seat stays r′ told.0 told′.0 told.1 told′.1 k (λ j there.
          ap (held_at (suc j)) latches ∙ held_at-unchanged (suc i) (λ x. record x { book = change x.book; freed = frees x.freed }) (λ x. refl) (suc j) v.latches
          (λ same. away (some-injective k key (sym there ∙ ap (get_elem? told.1.keys) (let e = same in omega arith) ∙ in_locks told.0 told.1))))

      -- what holds of the book before and after holds of all locks
      pub locks_keep : {T : Type 0} → (f : Lock → T) → f (record { fast = (told.0 key).fast; book = change (told.0 key).book }) ≡ f (told.0 key) → (k : KeyName) → f (told′.0 k) ≡ f (told.0 k)
      locks_keep f same k = elim (key_told k key) [
        | inl here ↦ subst (λ (x : KeyName). f (told′.0 x) ≡ f (told.0 x)) (sym here) (ap f lock_turns ∙ same)
        | inr away ↦ ap f (lock_stays k away)
      ]
