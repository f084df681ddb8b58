-- The steps by which deeds and changes of definitions come to be of the table do them in the locks that it tells.
use Rattle.std.proofs.Common.{◌≡◌, ◌≢◌, ℕ, suc, ◌==◌, ◌+◌, ◌*◌, ◌<◌, ◌≤◌, Bool, inl, inr, List, [], ◌∷◌, ◌++◌, length, map, set, get_or, Some, refl, sym, ap, ◌∙◌, subst, arith, length-set, get_or-set_other, get_or-set_same}
use Rattle.mdl_book.specs.Books as books
use Rattle.mdl_steps.proofs.Books.{all_done_fast}
use Rattle.mdl_steps.specs.declared.slot.Slot.TheVariants as slot
use Rattle.mdl_steps_laws.proofs.Common.{AreKeysOf, AreLocksOf, BookView, Deed, IsBookAt, KeyName, LatchRecord, Lock, Maybe, Mine, Rule, SameElsewhere, SessionTicket, Slot, State, VersionedDefinition, View, after_put, all_booked, all_fast, all_fast-noted, at_inside, at_map, at_set, by_bool, fast_at, flags_lowered, get_elem?, held_at, held_at-changed, held_at-unchanged, held_at-undropped, holder_at, latch_word, lock_word, lowered, map-set, noting_version, own_at, part_at, redefined, restood, set_else, set_here, some, standing_after, ticket_by, unlatched, version_word, waits}
use Rattle.mdl_steps_laws.proofs.OneLock.{one_lock}
use Rattle.mdl_steps_laws.proofs.StepLaws.{LoweringDoes, PuttingDoes, WritingRedefines}
use Rattle.mdl_steps_laws.proofs.TableLocks.{first_place, into_rule, last_place, ruled_book}

-- the waits' words have no part in the fast tickets
pub any_waits : (f g : ℕ → ℕ) (q : ℕ) (views : List View) → all_fast (map (part_at f q) views) ≡ all_fast (map (part_at g q) views)
any_waits f g q [] = refl
any_waits f g q (v ∷ vs) = ap (λ ts. map (ticket_by v.number) (own_at q v.fast) ++ ts) (any_waits f g q vs)

-- what a step of a seat at one place leaves: its number, its fast tickets, and the records of other latches
pub record Leaves (place : ℕ) (v w : View) : Type 0 where
  pub number : w.number ≡ v.number
  pub fast : (number q : ℕ) → map (ticket_by number) (own_at q w.fast) ≡ map (ticket_by number) (own_at q v.fast)
  pub held_else : (q : ℕ) → q ≢ place → held_at q w.latches ≡ held_at q v.latches

module _ (s : State Slot View) (place n m id : ℕ) (homes : List (Maybe Slot)) (v w : View) (seat : get_elem? s.views id ≡ some v) (leaves : Leaves place v w)
    (near : (8 * place ≤ n) × (n < 8 * place + 8)) (home_else : (q : ℕ) → q ≢ place → get_elem? homes q ≡ get_elem? s.homes q) where
  abbrev pub after : State Slot View
  after = record { words = set s.words n m; homes = homes; views = set s.views id w }

  pub latch_else : (q : ℕ) → q ≢ place → get_or (set s.words n m) (latch_word q) 0 ≡ get_or s.words (latch_word q) 0
  latch_else q else = get_or-set_other s.words n (latch_word q) m 0 (let low = near.0 in let high = near.1 in λ e. else (omega arith))

  pub fast_same : (q : ℕ) → fast_at after q ≡ fast_at s q
  fast_same q =
      any_waits (waits after) (waits s) q (set s.views id w)
      ∙ ap all_fast (map-set (part_at (waits s) q) s.views id w)
      ∙ all_fast-noted (map (part_at (waits s) q) s.views) id (part_at (waits s) q v) (part_at (waits s) q w)
      (at_map (part_at (waits s) q) s.views id v seat) (leaves.fast w.number q ∙ ap (λ (n : ℕ). map (ticket_by n) (own_at q v.fast)) leaves.number)

  pub keys_same : 0 < place → w.directory ≡ v.directory → (keys : List KeyName) → AreKeysOf s keys → AreKeysOf after keys
  keys_same first directory keys are = record {
    free = λ none. home_else 0 (λ e. omega arith) ∙ are.free (sym (latch_else 0 (λ e. omega arith)) ∙ none);
    taken = λ j u there k has. elim (at_set s.views id j w u there) [
      | inl mine ↦ are.taken id v seat k (sym directory ∙ ap (λ (x : View). x.directory) mine.1 ∙ has)
      | inr other ↦ are.taken j u other.1 k has
    ];
  }

  pub book_else : (q : ℕ) → q ≢ place → (book : BookView) → IsBookAt s q book → IsBookAt after q book
  book_else q else book is = record {
    free = λ none. home_else q else ∙ is.free (sym (latch_else q else) ∙ none);
    taken = λ j u there h has. elim (at_set s.views id j w u there) [
      | inl mine ↦ is.taken id v seat h (sym (leaves.held_else q else) ∙ ap (λ (x : View). held_at q x.latches) mine.1 ∙ has)
      | inr other ↦ is.taken j u other.1 h has
    ];
  }

-- the views after the two steps
put_leaves : (place : ℕ) (ds : List Deed) (me : Mine) → Leaves place me.0 (unlatched place ds me).0
put_leaves place ds me = record {
  number = refl;
  fast = λ number q. ap (λ (ts : List SessionTicket). map (ticket_by number) (own_at q ts)) (all_done_fast place ds me.0);
  held_else = λ q else. held_at-undropped place q me.0.latches else;
}

lowering_leaves : (place : ℕ) (ds : List Deed) (found : ℕ) (book : BookView) (slow obtrusive : Bool) (me : Mine) → Leaves place me.0 (flags_lowered place ds found book slow obtrusive me).0
lowering_leaves place ds found book slow obtrusive me = record {
  number = refl;
  fast = λ number q. ap (λ (ts : List SessionTicket). map (ticket_by number) (own_at q ts)) (all_done_fast place ds me.0);
  held_else = λ q else. held_at-unchanged place (lowered ds book slow obtrusive) (λ x. refl) q me.0.latches else;
}

pub putting_does : PuttingDoes
putting_does s r old new are i key at id me seat h holds ds r′ done =
    let place : ℕ = suc i in
    let book : BookView = all_booked me.0.number ds h.book in
    let here = into_rule s r old are i key at in
    let first = first_place s r i key here in
    let last = last_place s r i key here in
    let homes : List (Maybe Slot) = set s.homes place (some (slot.Place book)) in
    let w : View = (unlatched place ds me).0 in
    let leaves = put_leaves place ds me in
    let near : (8 * place ≤ latch_word place) × (latch_word place < 8 * place + 8) = (omega arith, omega arith) in
    let home_else : (q : ℕ) → q ≢ place → get_elem? homes q ≡ get_elem? s.homes q = λ q else. set_else s.homes place q (some (slot.Place book)) else in
    let last′ : place < length homes = (let size = length-set s.homes place (some (slot.Place book)) in omega arith) in
    let none : get_or (set s.words (latch_word place) 0) (latch_word place) 0 ≡ 0 = get_or-set_same s.words (latch_word place) 0 0 (let wide = r.wide in omega arith) in
    let is : IsBookAt (after_put s place ds book id me) place book = record {
      free = λ _. set_here s.homes place (some (slot.Place book)) last;
      taken = λ j u there g has.
          let ok = (r′.places place first last′).held j (holder_at place u) (at_map (holder_at place) (set s.views id w) j u there) g has in
          let mine = ok.mine in let some_number = ok.some_session in absurd (omega arith);
    } in
    let booked : book ≡ (new key).book = ap (all_booked me.0.number ds) ((are.book_is i key at).taken id me.0 seat h holds) ∙ sym (ap (λ (l : Lock). l.book) done.0) in
    one_lock s (after_put s place ds book id me) r old new are
    (keys_same s place (latch_word place) 0 id homes me.0 w seat leaves near home_else first refl are.keys are.keys_are) i key at
    (λ q _ else. fast_same s place (latch_word place) 0 id homes me.0 w seat leaves near home_else q)
    (λ q _ else. book_else s place (latch_word place) 0 id homes me.0 w seat leaves near home_else q else)
    (ap (λ (l : Lock). l.fast) done.0 ∙ are.fast_are i key at ∙ sym (fast_same s place (latch_word place) 0 id homes me.0 w seat leaves near home_else place))
    (subst (IsBookAt (after_put s place ds book id me) place) booked is) done.1

-- a step of the holder of a latch, after which its record has the new book
module _ (s : State Slot View) (r : Rule s) (old new : KeyName → Lock) (are : AreLocksOf s old) (i : ℕ) (key : KeyName) (at : get_elem? are.keys i ≡ some key)
    (id : ℕ) (v w : View) (seat : get_elem? s.views id ≡ some v) (leaves : Leaves (suc i) v w) (directory : w.directory ≡ v.directory) (n m : ℕ) (near : (8 * suc i ≤ n) × (n < 8 * suc i + 8)) where
  recorded : Rule (record { words = set s.words n m; homes = s.homes; views = set s.views id w }) → (h : LatchRecord) → held_at (suc i) w.latches ≡ Some h
      → h.book ≡ (new key).book → (new key).fast ≡ (old key).fast → SameElsewhere key old new
      → AreLocksOf (record { words = set s.words n m; homes = s.homes; views = set s.views id w }) new
  recorded r′ h has book fast elsewhere =
      let place : ℕ = suc i in
      let s′ : State Slot View = record { words = set s.words n m; homes = s.homes; views = set s.views id w } in
      let here = into_rule s r old are i key at in
      let first = first_place s r i key here in
      let last = last_place s r i key here in
      let home_else : (q : ℕ) → q ≢ place → get_elem? s.homes q ≡ get_elem? s.homes q = λ q else. refl in
      let ruled = ruled_book s′ r′ place first last in
      let is : h.book ≡ (r′.places place first last).book = ruled.taken id w (set_here s.views id w (at_inside s.views id v seat)) h has in
      one_lock s s′ r old new are (keys_same s place n m id s.homes v w seat leaves near home_else first directory are.keys are.keys_are) i key at
      (λ q _ else. fast_same s place n m id s.homes v w seat leaves near home_else q)
      (λ q _ else. book_else s place n m id s.homes v w seat leaves near home_else q else)
      (fast ∙ are.fast_are i key at ∙ sym (fast_same s place n m id s.homes v w seat leaves near home_else place))
      (subst (IsBookAt s′ place) (sym is ∙ book) ruled) elsewhere

pub lowering_does : LoweringDoes
lowering_does s r old new are i key at id me seat h holds ds found left slow obtrusive r′ done =
    let place : ℕ = suc i in
    let book : BookView = all_booked me.0.number ds h.book in
    recorded s r old new are i key at id me.0 (flags_lowered place ds found book slow obtrusive me).0 seat (lowering_leaves place ds found book slow obtrusive me) refl
    (lock_word place) left (omega arith, omega arith) r′ (lowered ds book slow obtrusive h)
    (held_at-changed place (lowered ds book slow obtrusive) (λ x. refl) me.0.latches h holds)
    (ap (all_booked me.0.number ds) ((are.book_is i key at).taken id me.0 seat h holds) ∙ sym (ap (λ (l : Lock). l.book) done.0))
    (ap (λ (l : Lock). l.fast) done.0) done.1

-- what is noted under tickets changes none of them
pub noted_alike : (place version number q : ℕ) (ts : List SessionTicket) → map (ticket_by number) (own_at q (noting_version place version ts)) ≡ map (ticket_by number) (own_at q ts)
noted_alike place version number q [] = refl
noted_alike place version number q (t ∷ ts) = by_bool (t.place == place)
    (λ here. by_bool (t.place == q)
    (λ at. rw (here, at) (ap (λ us. ticket_by number t ∷ us) (noted_alike place version number q ts)))
    (λ away. rw (here, away) (noted_alike place version number q ts)))
    (λ elsewhere. by_bool (t.place == q)
    (λ at. rw (elsewhere, at) (ap (λ us. ticket_by number t ∷ us) (noted_alike place version number q ts)))
    (λ away. rw (elsewhere, away) (noted_alike place version number q ts)))

pub writing_redefines : WritingRedefines
writing_redefines s r old new are i key at id me seat h holds change r′ done elsewhere =
    let place : ℕ = suc i in
    let standing : VersionedDefinition = standing_after change h.book.standing in
    recorded s r old new are i key at id me.0 (redefined place standing me).0 seat (record {
      number = refl;
      fast = λ number q. noted_alike place standing.version number q me.0.fast;
      held_else = λ q else. held_at-unchanged place (restood standing) (λ x. refl) q me.0.latches else;
    }) refl (version_word place) standing.version (omega arith, omega arith) r′ (restood standing h)
    (held_at-changed place (restood standing) (λ x. refl) me.0.latches h holds)
    (ap (books.redefining change) ((are.book_is i key at).taken id me.0 seat h holds) ∙ sym (ap (λ (l : Lock). l.book) done))
    (ap (λ (l : Lock). l.fast) done) elsewhere
