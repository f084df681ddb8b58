-- The book of a place after a step on the wait of a session, which changes the session's part there.
use Rattle.std.proofs.Common.{◌≡◌, ◌≢◌, ℕ, Bool, true, false, cond, List, [], ◌∷◌, ◌++◌, map, set, length, Some, None, refl, sym, ap, ◌∙◌, subst, inl, inr, arith, append_assoc, Option}
use Rattle.mdl_steps.proofs.FirstLemmas.{BookOk, BookView, Each, KeyName, Kind, Lawful, NoteAgrees, Once, Part, PartOk, SessionTicket, SlowHeld, Ticket, WaitingOk, admitting, all-without, all_fast, and_from, and_parts, at_set, by_bool, cancelling, cases_eq, due, enqueueing, get_elem?, is_compatible, is_itself, is_lawful, is_mode_of, is_passed, is_ticket, lawful_push, list_all, list_all-append, lock_kind, of-push_other, of-without_other, of-without_own, of_other, of_other_number, once-push, once-without, option_to_list, owned_set, pending, some, ticket_by, ticket_of, waiting_kept, waiting_set, without}
use Rattle.mdl_steps.proofs.Deeds.{all_fast-set}
use Rattle.mdl_steps.proofs.Desks.{each-append}

-- ---- look-ups

-- what all tickets of a list are, one that is found is
all_found : (test : Ticket → Bool) (a m : ℕ) (ts : List Ticket) (t : Ticket) → list_all test ts ≡ true → ticket_of a m ts ≡ Some t → test t ≡ true
all_found test a m [] t all found = absurd (cc)
all_found test a m (x ∷ xs) t all found =
    let both = and_parts (test x) (list_all test xs) all in
    by_bool (is_ticket a m x)
    (λ hit. let is : x ≡ t = (let first : cond (is_ticket a m x) (Some x) (ticket_of a m xs) ≡ Some x = ap (λ b. cond b (Some x) (ticket_of a m xs)) hit in cc) in subst (λ (y : Ticket). test y ≡ true) is both.0)
    (λ miss. all_found test a m xs t both.1 (sym (ap (λ b. cond b (Some x) (ticket_of a m xs)) miss) ∙ found))

-- a ticket that isn't in the list stands last in it
push_found : (t : Ticket) (ts : List Ticket) → ticket_of t.session t.number ts ≡ None → ticket_of t.session t.number (ts ++ t ∷ []) ≡ Some t
push_found t [] none = rw (is_itself t) refl
push_found t (x ∷ xs) none = by_bool (is_ticket t.session t.number x)
    (λ hit. let some : Some x ≡ None = sym (ap (λ b. cond b (Some x) (ticket_of t.session t.number xs)) hit) ∙ none in absurd (cc))
    (λ miss. ap (λ b. cond b (Some x) (ticket_of t.session t.number (xs ++ t ∷ []))) miss
    ∙ push_found t xs (sym (ap (λ b. cond b (Some x) (ticket_of t.session t.number xs)) miss) ∙ none))

-- and first in it
pub first_found : (t : Ticket) (ts : List Ticket) → ticket_of t.session t.number (t ∷ ts) ≡ Some t
first_found t ts = rw (is_itself t) refl

first_other : (a m : ℕ) (t : Ticket) (ts : List Ticket) → is_ticket a m t ≡ false → ticket_of a m (t ∷ ts) ≡ ticket_of a m ts
first_other a m t ts miss = rw miss refl

-- it makes no difference at which end it stands
turned : (t : Ticket) (ts : List Ticket) → ticket_of t.session t.number ts ≡ None → (m : ℕ) → ticket_of t.session m (ts ++ t ∷ []) ≡ ticket_of t.session m (t ∷ ts)
turned t ts none m = elim (cases_eq m t.number) [
  | inl e ↦ subst (λ (k : ℕ). ticket_of t.session k (ts ++ t ∷ []) ≡ ticket_of t.session k (t ∷ ts)) (sym e) (push_found t ts none ∙ sym (first_found t ts))
  | inr e ↦
      let miss : is_ticket t.session m t ≡ false = of_other_number t.session m t (λ d. e (sym d)) in
      of-push_other t.session m t ts miss ∙ sym (first_other t.session m t ts miss)
]

-- ---- the session's part is another

module _ (key : Option KeyName) (version : ℕ) (parts : List Part) (book : BookView) (id : ℕ) (x : Part) (at : get_elem? parts id ≡ some x)
    (alone : (j : ℕ) (z : Part) → get_elem? parts j ≡ some z → z.number ≡ x.number → j ≡ id)
    (ok : BookOk key version parts book) where
  pub fast_kept : (y : Part) → y.number ≡ x.number → y.fast ≡ x.fast → all_fast (set parts id y) ≡ all_fast parts
  fast_kept y number fast = all_fast-set parts id x y at number fast

  mine : PartOk book x
  mine = ok.each id x at

  book_set : (granted waiting : List Ticket) (y : Part) → y.number ≡ x.number → y.fast ≡ x.fast → y.reads ≡ x.reads
      → Lawful (lock_kind book) (all_fast parts) granted → Once granted
      → ((a m : ℕ) → a ≢ x.number → ticket_of a m granted ≡ ticket_of a m book.granted)
      → SlowHeld granted y → Each (NoteAgrees book) y.slow
      → WaitingOk (lock_kind book) (set parts id y) waiting
      → (key ≡ None → (granted ≡ []) × (waiting ≡ []))
      → BookOk key version (set parts id y) (record book { granted = granted; waiting = waiting })
  book_set granted waiting y number fast reads lawful once else slow notes waits vacant =
      let same : all_fast (set parts id y) ≡ all_fast parts = fast_kept y number fast in
      record {
        lawful = rw same lawful;
        once = once;
        owned = owned_set parts id x y at number book.granted granted else ok.owned;
        waiting = waits;
        version_is = ok.version_is;
        stands = ok.stands;
        named = record {
          key_is = ok.named.key_is;
          vacant = λ none. (let was = ok.named.vacant none in let empty = vacant none in ((empty.0, empty.1, was.0.2), same ∙ was.1));
        };
        each = λ j z there. elim (at_set parts id j y z there) [
          | inl here ↦ subst (λ (p : Part). PartOk (record book { granted = granted; waiting = waiting }) p) here.1 (record {
            few = (let few = mine.few in let is : length y.fast ≡ length x.fast = ap length fast in omega arith);
            slow_held = slow;
            versions_agree = record {
              reads = subst (λ rs. Each (Rattle.mdl_steps.specs.Rule.ReadAgrees book) rs) (sym reads) mine.versions_agree.reads;
              fast = subst (λ ts. Each (NoteAgrees book) ts) (sym fast) mine.versions_agree.fast;
              slow = notes;
            };
          })
          | inr other ↦
              let theirs = ok.each j z other.1 in
              let differs : z.number ≢ x.number = λ e. other.0 (alone j z other.1 e) in
              record {
                few = theirs.few;
                slow_held = record { same = λ m. else z.number m differs ∙ theirs.slow_held.same m; apart = theirs.slow_held.apart };
                versions_agree = record { reads = theirs.versions_agree.reads; fast = theirs.versions_agree.fast; slow = theirs.versions_agree.slow };
              }
        ];
      }

  abbrev pub asked : Ticket → ℕ → Part
  asked t state = record x { asks = Some (record { ticket = t; state = state }) }

  -- what the session waits for, as far as it stands in the granted list or in the waiting one
  none_due : x.asks ≡ None → (m : ℕ) → ticket_of x.number m book.granted ≡ ticket_of x.number m (map (ticket_by x.number) x.slow)
  none_due e m = mine.slow_held.same m ∙ ap (λ o. ticket_of x.number m (option_to_list (due o) ++ map (ticket_by x.number) x.slow)) e

  not_due : (t : Ticket) (state : ℕ) → x.asks ≡ Some (record { ticket = t; state = state }) → state ≢ 2
      → (m : ℕ) → ticket_of x.number m book.granted ≡ ticket_of x.number m (map (ticket_by x.number) x.slow)
  not_due t state e lost m =
      mine.slow_held.same m ∙ ap (λ o. ticket_of x.number m (option_to_list (due o) ++ map (ticket_by x.number) x.slow)) e
      ∙ ap (λ b. ticket_of x.number m (option_to_list (cond b (Some t) None) ++ map (ticket_by x.number) x.slow)) (Rattle.std.proofs.Common.ne_eqb state 2 lost)

  in_waiting : (t : Ticket) (state : ℕ) → x.asks ≡ Some (record { ticket = t; state = state }) → state ≢ 2 → (m : ℕ) → ticket_of x.number m book.waiting ≡ ticket_of x.number m (t ∷ [])
  in_waiting t state e lost m =
      ok.waiting.same id x at m ∙ ap (λ o. ticket_of x.number m (option_to_list (pending o))) e
      ∙ ap (λ b. ticket_of x.number m (option_to_list (cond b None (Some t)))) (Rattle.std.proofs.Common.ne_eqb state 2 lost)

  -- its ticket is there
  there_waiting : (t : Ticket) (state : ℕ) → x.asks ≡ Some (record { ticket = t; state = state }) → state ≢ 2 → t.session ≡ x.number → ticket_of x.number t.number book.waiting ≡ Some t
  there_waiting t state e lost own =
      in_waiting t state e lost t.number ∙ subst (λ (n : ℕ). ticket_of n t.number (t ∷ []) ≡ Some t) own (first_found t [])

  some_waiting : (t : Ticket) (m : ℕ) → ticket_of x.number m book.waiting ≡ Some t → {P : Type 0} → key ≡ None → P
  some_waiting t m found none = (let empty = (ok.named.vacant none).0.1 in let gone : None ≡ Some t = ap (ticket_of x.number m) (sym empty) ∙ found in absurd (cc))

  same_slow : (y : Part) → y.number ≡ x.number → y.slow ≡ x.slow → due y.asks ≡ None
      → ((m : ℕ) → ticket_of x.number m book.granted ≡ ticket_of x.number m (map (ticket_by x.number) x.slow)) → SlowHeld book.granted y
  same_slow y number slow none same = record {
    same = λ m. ap (λ n. ticket_of n m book.granted) number ∙ same m ∙ (λ i. ticket_of (sym number i) m (option_to_list (sym none i) ++ map (ticket_by (sym number i)) (sym slow i)));
    apart = λ t e. (let gone : None ≡ Some t = sym none ∙ e in absurd (cc));
  }

  -- without it the session has none there
  gone_waiting : (t : Ticket) (state : ℕ) → x.asks ≡ Some (record { ticket = t; state = state }) → state ≢ 2 → t.session ≡ x.number
      → (m : ℕ) → ticket_of x.number m (without x.number t.number book.waiting) ≡ None
  gone_waiting t state e lost own m = elim (cases_eq m t.number) [
    | inl same ↦ subst (λ (k : ℕ). ticket_of x.number k (without x.number t.number book.waiting) ≡ None) (sym same) (of-without_own x.number t.number book.waiting ok.waiting.once)
    | inr differs ↦
        of-without_other x.number t.number x.number m (λ u hit. of_other_number x.number m u (λ d. differs (sym d ∙ (is_passed x.number t.number u hit).1))) book.waiting
        ∙ in_waiting t state e lost m ∙ first_other x.number m t [] (of_other_number x.number m t (λ d. differs (sym d)))
  ]

  -- ---- a wait is opened

  pub opened_ok : (t : Ticket) → x.asks ≡ None → t.session ≡ x.number → is_mode_of (lock_kind book) t.mode ≡ true → ((k : KeyName) × (key ≡ Some k))
      → BookOk key version (set parts id (asked t 1)) (enqueueing t book)
  opened_ok t e own mode some_key =
      let empty : (m : ℕ) → ticket_of x.number m book.waiting ≡ None = λ m. ok.waiting.same id x at m ∙ ap (λ o. ticket_of x.number m (option_to_list (pending o))) e in
      let new : ticket_of t.session t.number book.waiting ≡ None = ap (λ (n : ℕ). ticket_of n t.number book.waiting) own ∙ empty t.number in
      book_set book.granted (book.waiting ++ t ∷ []) (asked t 1) refl refl refl ok.lawful ok.once (λ a m d. refl)
      (same_slow (asked t 1) refl refl refl (none_due e)) mine.versions_agree.slow
      (waiting_set parts id x (asked t 1) at refl (lock_kind book) book.waiting (book.waiting ++ t ∷ []) alone
      (once-push t book.waiting new ok.waiting.once)
      (list_all-append (λ u. is_mode_of (lock_kind book) u.mode) book.waiting (t ∷ []) ∙ and_from _ _ ok.waiting.modes (and_from (is_mode_of (lock_kind book) t.mode) true mode refl))
      (λ m. subst (λ (n : ℕ). ticket_of n m (book.waiting ++ t ∷ []) ≡ ticket_of n m (t ∷ [])) own
      (turned t book.waiting new m ∙ ap (λ o. cond (is_ticket t.session m t) (Some t) o) (ap (λ (n : ℕ). ticket_of n m book.waiting) own ∙ empty m)))
      (λ a m d. of-push_other a m t book.waiting (of_other a m t (λ s. d (sym s ∙ own))))
      ok.waiting)
      (λ none. let k = some_key.1 in absurd (cc))

  -- ---- a wait is settled as lost

  pub lost_ok : (t : Ticket) (state : ℕ) → x.asks ≡ Some (record { ticket = t; state = 1 }) → state ≢ 2 → BookOk key version (set parts id (asked t state)) book
  lost_ok t state e lost =
      let due_none : due (asked t state).asks ≡ None = ap (λ b. cond b (Some t) None) (Rattle.std.proofs.Common.ne_eqb state 2 lost) in
      let waits : pending (asked t state).asks ≡ pending x.asks = ap (λ b. cond b None (Some t)) (Rattle.std.proofs.Common.ne_eqb state 2 lost) ∙ sym (ap pending e) in
      book_set book.granted book.waiting (asked t state) refl refl refl ok.lawful ok.once (λ a m d. refl)
      (same_slow (asked t state) refl refl due_none (not_due t 1 e (λ two. omega arith))) mine.versions_agree.slow
      (waiting_kept parts id x (asked t state) at refl (lock_kind book) book.waiting waits ok.waiting)
      (λ none. let was = (ok.named.vacant none).0 in (was.0, was.1))

  -- ---- a wait is granted

  pub granted_ok : (t : Ticket) → x.asks ≡ Some (record { ticket = t; state = 1 }) → t.session ≡ x.number
      → ticket_of x.number t.number (map (ticket_by x.number) x.slow) ≡ None
      → is_compatible (lock_kind book) (all_fast parts ++ book.granted) x.number t.mode ≡ true
      → BookOk key version (set parts id (asked t 2)) (admitting x.number t.number book)
  granted_ok t e own apart compatible =
      let kind : Kind = lock_kind book in
      let found : ticket_of x.number t.number book.waiting ≡ Some t = there_waiting t 1 e (λ two. omega arith) own in
      let slow : (m : ℕ) → ticket_of x.number m book.granted ≡ ticket_of x.number m (map (ticket_by x.number) x.slow) = not_due t 1 e (λ two. omega arith) in
      let new : ticket_of t.session t.number book.granted ≡ None = ap (λ (n : ℕ). ticket_of n t.number book.granted) own ∙ slow t.number ∙ apart in
      let waiting : List Ticket = without x.number t.number book.waiting in
      let modes_are = and_parts (list_all (λ u. is_mode_of kind u.mode) (all_fast parts)) (list_all (λ u. is_mode_of kind u.mode) book.granted)
      (sym (list_all-append (λ u. is_mode_of kind u.mode) (all_fast parts) book.granted) ∙ ok.lawful.modes) in
      let is_mode : is_mode_of kind t.mode ≡ true = all_found (λ u. is_mode_of kind u.mode) x.number t.number book.waiting t ok.waiting.modes found in
      subst (λ (o : Option Ticket). BookOk key version (set parts id (asked t 2)) (record book { granted = book.granted ++ option_to_list o; waiting = without x.number t.number book.waiting })) (sym found)
      (book_set (book.granted ++ t ∷ []) (without x.number t.number book.waiting) (asked t 2) refl refl refl
      (record {
        compatible = subst (λ ts. is_lawful (lock_kind book) ts ≡ true) (append_assoc (all_fast parts) book.granted (t ∷ []))
            (lawful_push (lock_kind book) (all_fast parts ++ book.granted) t (subst (λ (n : ℕ). is_compatible (lock_kind book) (all_fast parts ++ book.granted) n t.mode ≡ true) (sym own) compatible) ok.lawful.compatible);
        modes = list_all-append (λ u. is_mode_of (lock_kind book) u.mode) (all_fast parts) (book.granted ++ t ∷ [])
            ∙ and_from _ _ modes_are.0 (list_all-append (λ u. is_mode_of (lock_kind book) u.mode) book.granted (t ∷ []) ∙ and_from _ _ modes_are.1 (and_from (is_mode_of (lock_kind book) t.mode) true is_mode refl));
        unobtrusive = ok.lawful.unobtrusive;
      })
      (once-push t book.granted new ok.once)
      (λ a m d. of-push_other a m t book.granted (of_other a m t (λ s. d (sym s ∙ own))))
      (record {
        same = λ m. subst (λ (n : ℕ). ticket_of n m (book.granted ++ t ∷ []) ≡ ticket_of n m (t ∷ map (ticket_by x.number) x.slow)) own
            (turned t book.granted new m ∙ by_first m slow);
        apart = λ u same. (let is : t ≡ u = cc in subst (λ (y : Ticket). ticket_of x.number y.number (map (ticket_by x.number) x.slow) ≡ None) is apart);
      })
      mine.versions_agree.slow
      (waiting_set parts id x (asked t 2) at refl (lock_kind book) book.waiting (without x.number t.number book.waiting) alone
      (once-without x.number t.number book.waiting ok.waiting.once)
      (all-without x.number t.number (λ u. is_mode_of (lock_kind book) u.mode) book.waiting ok.waiting.modes)
      (λ m. gone_waiting t 1 e (λ two. omega arith) own m)
      (λ a m d. of-without_other x.number t.number a m (λ u hit. of_other a m u (λ s. d (sym s ∙ (is_passed x.number t.number u hit).0))) book.waiting)
      ok.waiting)
      (λ none. some_waiting t t.number found none))
    where
      by_first : (m : ℕ) → ((k : ℕ) → ticket_of x.number k book.granted ≡ ticket_of x.number k (map (ticket_by x.number) x.slow))
          → ticket_of t.session m (t ∷ book.granted) ≡ ticket_of t.session m (t ∷ map (ticket_by x.number) x.slow)
      by_first m slow = ap (λ o. cond (is_ticket t.session m t) (Some t) o)
          (ap (λ (n : ℕ). ticket_of n m book.granted) own ∙ slow m ∙ ap (λ (n : ℕ). ticket_of n m (map (ticket_by x.number) x.slow)) (sym own))

  -- ---- a granted wait is ended

  pub taken_ok : (t : Ticket) (own : SessionTicket) → x.asks ≡ Some (record { ticket = t; state = 2 }) → t ≡ ticket_by x.number own → NoteAgrees book own
      → BookOk key version (set parts id (record x { asks = None; slow = x.slow ++ own ∷ [] })) book
  taken_ok t own e is agrees =
      let y : Part = record x { asks = None; slow = x.slow ++ own ∷ [] } in
      let apart : ticket_of x.number t.number (map (ticket_by x.number) x.slow) ≡ None = mine.slow_held.apart t (ap due e) in
      let same : (m : ℕ) → ticket_of x.number m book.granted ≡ ticket_of x.number m (t ∷ map (ticket_by x.number) x.slow) =
      λ m. mine.slow_held.same m ∙ ap (λ o. ticket_of x.number m (option_to_list (due o) ++ map (ticket_by x.number) x.slow)) e in
      let own_is : t.session ≡ x.number = ap (λ (u : Ticket). u.session) is in
      book_set book.granted book.waiting (record x { asks = None; slow = x.slow ++ own ∷ [] }) refl refl refl ok.lawful ok.once (λ a m d. refl)
      (record {
        same = λ m. same m
            ∙ subst (λ (n : ℕ). ticket_of n m (t ∷ map (ticket_by x.number) x.slow) ≡ ticket_of n m (map (ticket_by x.number) x.slow ++ t ∷ [])) own_is
            (sym (turned t (map (ticket_by x.number) x.slow) (subst (λ (n : ℕ). ticket_of n t.number (map (ticket_by x.number) x.slow) ≡ None) (sym own_is) apart) m))
            ∙ ap (ticket_of x.number m) (ap (λ (u : Ticket). map (ticket_by x.number) x.slow ++ u ∷ []) is ∙ sym (map_last x.slow));
        apart = λ u none. absurd (cc);
      })
      (each-append _ x.slow (own ∷ []) mine.versions_agree.slow (agrees, tt))
      (waiting_kept parts id x (record x { asks = None; slow = x.slow ++ own ∷ [] }) at refl (lock_kind book) book.waiting (sym (ap pending e)) ok.waiting)
      (λ none. let was = (ok.named.vacant none).0 in (was.0, was.1))
    where
      map_last : (ts : List SessionTicket) → map (ticket_by x.number) (ts ++ own ∷ []) ≡ map (ticket_by x.number) ts ++ ticket_by x.number own ∷ []
      map_last [] = refl
      map_last (u ∷ us) = ap (λ xs. ticket_by x.number u ∷ xs) (map_last us)

  -- ---- a lost wait is ended

  pub cancelled_ok : (t : Ticket) (state : ℕ) → x.asks ≡ Some (record { ticket = t; state = state }) → state ≢ 2 → t.session ≡ x.number
      → BookOk key version (set parts id (record x { asks = None })) (cancelling x.number t.number book)
  cancelled_ok t state e lost own =
      book_set book.granted (without x.number t.number book.waiting) (record x { asks = None }) refl refl refl ok.lawful ok.once (λ a m d. refl)
      (same_slow (record x { asks = None }) refl refl refl (not_due t state e lost)) mine.versions_agree.slow
      (waiting_set parts id x (record x { asks = None }) at refl (lock_kind book) book.waiting (without x.number t.number book.waiting) alone
      (once-without x.number t.number book.waiting ok.waiting.once)
      (all-without x.number t.number (λ u. is_mode_of (lock_kind book) u.mode) book.waiting ok.waiting.modes)
      (gone_waiting t state e lost own)
      (λ a m d. of-without_other x.number t.number a m (λ u hit. of_other a m u (λ s. d (sym s ∙ (is_passed x.number t.number u hit).0))) book.waiting)
      ok.waiting)
      (λ none. some_waiting t t.number (there_waiting t state e lost own) none)
