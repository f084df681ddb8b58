-- A fast grant is a grant of the system that the table tells, and a fast release a release.
use Rattle.std.proofs.Common.{◌≡◌, ◌≢◌, ℕ, zero, suc, ◌+◌, ◌-◌, ◌%◌, ◌^◌, ◌==◌, Bool, true, cond, inl, inr, List, [], ◌∷◌, ◌++◌, length, map, set, get_or, Some, refl, sym, ap, ◌∙◌, subst, arith, get_or-set_other, ◌↔◌, Contains, Option, None, eq-eqb, eqb-true}
use Rattle.mdl_book.specs.Books as books
use Rattle.mdl_book.specs.Granting as book
use Rattle.mdl_steps.proofs.FastSteps.{within}
use Rattle.mdl_system.specs.Systems.{lock_kind}
use Rattle.mdl_steps_laws.proofs.FirstLemmas.{AreKeysOf, Ask, Asking, BookView, Contains-append_cases, Contains-append_left, Contains-append_right, Contains-cons_cases, Contains-here, Contains-later, Contains-map, Contains-map_from, Contains-none, Definition, ElseSame, Gains, GrantingFastGrants, HasNoWait, IsBookAt, IsTold, KeyName, Lock, Lose, Loses, Mine, Part, ReleasingFastReleases, Rule, SameElsewhere, SameMembers, SameWaits, SessionTicket, Slot, State, System, Ticket, View, WaitState, after_word, all_fast, all_fast-noted, alone_parts, among_filter, and_from, and_parts, any_waits, asking_at, at_map, at_set, but_own, by_bool, cell, changes-by_lists, code_most, code_of, code_waits, due, fast_at, fast_own, filter, first_place, found-apart, get_elem?, grantable-by_lists, granted_fast, granted_of, granted_rule, held_at, in_book, in_locks, in_rule, inside, is_own, is_ticket, key_told, latch_word, lock_word, loses-behind, loses-first, loses-later, map-append, map-set, next_numbers_are_new, none_slow, of_lock, option_to_list, other_session, own_at, own_at-push, own_else-push, own_parts, owned_else, part_at, push-gains, released_fast, released_rule, same_book, same_definitions, same_keys, some, some-injective, some-ne-none, ticket_by, ticket_of, wait_word, waiter_of, waits, wish_grantable, word_at}
use Rattle.mdl_steps_laws.proofs.OneLock.{one_lock}
use Rattle.mdl_steps_laws.proofs.ToldDeeds.{lists_stay, turns_by}
use Rattle.mdl_steps_laws.proofs.WaitMet.{waits_rest}

-- ---- members

gains-front : {T : Type 0} (t : T) (xs ys zs : List T) → Gains t xs ys → Gains t (xs ++ zs) (ys ++ zs)
gains-front t xs ys zs gains y = (
  (λ among. elim (Contains-append_cases ys zs y among) [
    | inl in_first ↦ elim ((gains y).0 in_first) [ inl old ↦ inl (Contains-append_left xs zs y old) | inr new ↦ inr new ]
    | inr in_second ↦ inl (Contains-append_right xs zs y in_second)
  ]),
  λ either. elim either [
    | inl old ↦ elim (Contains-append_cases xs zs y old) [ inl in_first ↦ Contains-append_left ys zs y ((gains y).1 (inl in_first)) | inr in_second ↦ Contains-append_right ys zs y in_second ]
    | inr new ↦ Contains-append_left ys zs y ((gains y).1 (inr new))
  ],
)

gains-later : {T : Type 0} (t : T) (zs xs ys : List T) → Gains t xs ys → Gains t (zs ++ xs) (zs ++ ys)
gains-later t zs xs ys gains y = (
  (λ among. elim (Contains-append_cases zs ys y among) [
    | inl in_first ↦ inl (Contains-append_left zs xs y in_first)
    | inr in_second ↦ elim ((gains y).0 in_second) [ inl old ↦ inl (Contains-append_right zs xs y old) | inr new ↦ inr new ]
  ]),
  λ either. elim either [
    | inl old ↦ elim (Contains-append_cases zs xs y old) [ inl in_first ↦ Contains-append_left zs ys y in_first | inr in_second ↦ Contains-append_right zs ys y ((gains y).1 (inl in_second)) ]
    | inr new ↦ Contains-append_right zs ys y ((gains y).1 (inr new))
  ],
)

-- all sessions' fast tickets, where one session has one more
fast-gains : (parts : List Part) (id : ℕ) (x : Part) (own : SessionTicket) → get_elem? parts id ≡ some x
    → Gains (ticket_by x.number own) (all_fast parts) (all_fast (set parts id (record x { fast = x.fast ++ own ∷ [] })))
fast-gains [] id x own at = absurd (some-ne-none x (sym at))
fast-gains (z ∷ zs) zero x own at =
    subst (λ (w : Part). Gains (ticket_by x.number own) (map (ticket_by w.number) w.fast ++ all_fast zs) (map (ticket_by x.number) (x.fast ++ own ∷ []) ++ all_fast zs)) (sym (some-injective z x at))
    (gains-front (ticket_by x.number own) (map (ticket_by x.number) x.fast) (map (ticket_by x.number) (x.fast ++ own ∷ [])) (all_fast zs)
    (subst (Gains (ticket_by x.number own) (map (ticket_by x.number) x.fast)) (sym (map-append (ticket_by x.number) x.fast (own ∷ []))) (push-gains (map (ticket_by x.number) x.fast) (ticket_by x.number own))))
fast-gains (z ∷ zs) (suc id) x own at =
    gains-later (ticket_by x.number own) (map (ticket_by z.number) z.fast) (all_fast zs) (all_fast (set zs id (record x { fast = x.fast ++ own ∷ [] }))) (fast-gains zs id x own at)

-- the same where one goes

loses-front : {T : Type 0} (t : T) (xs ys zs : List T) → ((y : T) → Contains zs y → y ≢ t) → Loses t xs ys → Loses t (xs ++ zs) (ys ++ zs)
loses-front t xs ys zs apart loses y = (
  (λ among. elim (Contains-append_cases ys zs y among) [
    | inl in_first ↦ (let was = (loses y).0 in_first in (Contains-append_left xs zs y was.0, was.1))
    | inr in_second ↦ (Contains-append_right xs zs y in_second, apart y in_second)
  ]),
  λ both. elim (Contains-append_cases xs zs y both.0) [ inl in_first ↦ Contains-append_left ys zs y ((loses y).1 (in_first, both.1)) | inr in_second ↦ Contains-append_right ys zs y in_second ],
)

one_list : {T : Type 0} (x y : T) (xs ys : List T) → x ∷ xs ≡ y ∷ ys → (x ≡ y) × (xs ≡ ys)
one_list x y xs ys e = (cc, cc)

-- the one that passes a test passes it
pub only_passes : (test : SessionTicket → Bool) (ts : List SessionTicket) (t : SessionTicket) → filter test ts ≡ t ∷ [] → test t ≡ true
only_passes test [] t e = absurd (cc)
only_passes test (o ∷ os) t e = by_bool (test o)
    (λ is. subst (λ (u : SessionTicket). test u ≡ true) (one_list o t (filter test os) [] (rw is at e)).0 is)
    (λ isnt. only_passes test os t (rw isnt at e))

module _ (n place number : ℕ) where
  -- where none is of the number, none goes
  none_goes : (ts : List SessionTicket) → filter (is_own place number) ts ≡ [] → but_own place number ts ≡ ts
  none_goes [] e = refl
  none_goes (o ∷ os) e = by_bool (is_own place number o)
      (λ is. (let some_one = rw is at e in absurd (cc)))
      (λ isnt. rw isnt (ap (λ xs. o ∷ xs) (none_goes os (rw isnt at e))))

  none_there : (ts : List SessionTicket) → filter (is_own place number) ts ≡ [] → (t : Ticket) → t.number ≡ number → (y : Ticket) → Contains (map (ticket_by n) (own_at place ts)) y → y ≢ t
  none_there [] e t is y among = absurd (Contains-none y among)
  none_there (o ∷ os) e t is y among = by_bool (o.place == place)
      (λ here. by_bool (o.number == number)
      (λ same. (let some_one = rw (here, same) at e in absurd (cc)))
      (λ differs. elim (Contains-cons_cases (ticket_by n o) (map (ticket_by n) (own_at place os)) y (subst (λ (b : Bool). Contains (map (ticket_by n) (cond {A = List SessionTicket} b (o ∷ own_at place os) (own_at place os))) y) here among)) [
        | inl later ↦ none_there os (rw (here, differs) at e) t is y later
        | inr first ↦ λ same. (let number_is : o.number ≡ number = ap (λ (u : Ticket). u.number) (sym first ∙ same) ∙ is in let equal = eq-eqb o.number number number_is in absurd (cc))
      ]))
      (λ away. none_there os (rw away at e) t is y (subst (λ (b : Bool). Contains (map (ticket_by n) (cond {A = List SessionTicket} b (o ∷ own_at place os) (own_at place os))) y) away among))

  own-loses : (ts : List SessionTicket) (t : SessionTicket) → filter (is_own place number) ts ≡ t ∷ [] → Loses (ticket_by n t) (map (ticket_by n) (own_at place ts)) (map (ticket_by n) (own_at place (but_own place number ts)))
  own-loses [] t e = absurd (cc)
  own-loses (o ∷ os) t e =
      let t_is : t.number ≡ number = eqb-true _ _ (and_parts (t.place == place) (t.number == number) (only_passes (is_own place number) (o ∷ os) t e)).1 in
      by_bool (o.place == place)
      (λ here. by_bool (o.number == number)
      (λ same.
      let both = one_list o t (filter (is_own place number) os) [] (rw (here, same) at e) in
      rw (here, same) (subst (λ (us : List SessionTicket). Loses (ticket_by n t) (ticket_by n o ∷ map (ticket_by n) (own_at place os)) (map (ticket_by n) (own_at place us))) (sym (none_goes os both.1))
      (loses-first (ticket_by n o) (ticket_by n t) (map (ticket_by n) (own_at place os)) (ap (ticket_by n) both.0) (none_there os both.1 (ticket_by n t) t_is))))
      (λ differs. rw (here, differs, here)
      (loses-later (ticket_by n o) (ticket_by n t) (map (ticket_by n) (own_at place os)) (map (ticket_by n) (own_at place (but_own place number os)))
      (λ equal. (let number_is : o.number ≡ number = ap (λ (u : Ticket). u.number) equal ∙ t_is in let so = eq-eqb o.number number number_is in absurd (cc)))
      (own-loses os t (rw (here, differs) at e)))))
      (λ away. rw (away, away) (own-loses os t (rw away at e)))

-- all sessions' fast tickets, where one session has one less
fast-loses : (parts : List Part) (id place number : ℕ) (x : Part) (ts : List SessionTicket) (t : SessionTicket) → get_elem? parts id ≡ some x → x.fast ≡ own_at place ts
    → ((j : ℕ) (z : Part) → get_elem? parts j ≡ some z → z.number ≡ x.number → j ≡ id) → filter (is_own place number) ts ≡ t ∷ []
    → (owes : Bool) → Loses (ticket_by x.number t) (all_fast parts) (all_fast (set parts id (record x { fast = own_at place (but_own place number ts); owes = owes })))
fast-loses [] id place number x ts t at fast alone only owes = absurd (some-ne-none x (sym at))
fast-loses (z ∷ zs) zero place number x ts t at fast alone only owes =
    subst (λ (w : Part). Loses (ticket_by x.number t) (map (ticket_by w.number) w.fast ++ all_fast zs) (map (ticket_by x.number) (own_at place (but_own place number ts)) ++ all_fast zs)) (sym (some-injective z x at))
    (loses-front (ticket_by x.number t) (map (ticket_by x.number) x.fast) (map (ticket_by x.number) (own_at place (but_own place number ts))) (all_fast zs)
    (λ y among. others_apart zs (λ j u there same. (let e = alone (suc j) u there same in omega arith)) y among)
    (subst (λ (us : List SessionTicket). Loses (ticket_by x.number t) (map (ticket_by x.number) us) (map (ticket_by x.number) (own_at place (but_own place number ts)))) (sym fast) (own-loses x.number place number ts t only)))
  where
    others_apart : (ps : List Part) → ((j : ℕ) (u : Part) → get_elem? ps j ≡ some u → u.number ≢ x.number) → (y : Ticket) → Contains (all_fast ps) y → y ≢ ticket_by x.number t
    others_apart [] apart y among = absurd (Contains-none y among)
    others_apart (p ∷ ps) apart y among = elim (Contains-append_cases (map (ticket_by p.number) p.fast) (all_fast ps) y among) [
      | inl theirs ↦ λ e. (let from = Contains-map_from (ticket_by p.number) p.fast y theirs in apart zero p refl (ap (λ (u : Ticket). u.session) (sym from.2 ∙ e)))
      | inr later ↦ others_apart ps (λ j u there. apart (suc j) u there) y later
    ]
fast-loses (z ∷ zs) (suc id) place number x ts t at fast alone only owes =
    loses-behind (map (ticket_by z.number) z.fast) (all_fast zs) (all_fast (set zs id (record x { fast = own_at place (but_own place number ts); owes = owes }))) (ticket_by x.number t)
    (λ y among e. (let from = Contains-map_from (ticket_by z.number) z.fast y among in let same = alone zero z refl (ap (λ (u : Ticket). u.session) (sym from.2 ∙ e)) in absurd (omega arith)))
    (fast-loses zs id place number x ts t at fast (λ j u there same. (let e = alone (suc j) u there same in omega arith)) only owes)

-- and the ticket is among them
fast_there : (parts : List Part) (id place number : ℕ) (x : Part) (ts : List SessionTicket) (t : SessionTicket) → get_elem? parts id ≡ some x → x.fast ≡ own_at place ts → filter (is_own place number) ts ≡ t ∷ []
    → Contains (all_fast parts) (ticket_by x.number t)
fast_there [] id place number x ts t at fast only = absurd (some-ne-none x (sym at))
fast_there (z ∷ zs) zero place number x ts t at fast only =
    Contains-append_left (map (ticket_by z.number) z.fast) (all_fast zs) (ticket_by x.number t)
    (subst (λ (w : Part). Contains (map (ticket_by w.number) w.fast) (ticket_by x.number t)) (sym (some-injective z x at))
    (Contains-map (ticket_by x.number) x.fast t (subst (λ (us : List SessionTicket). Contains us t) (sym fast) (among ts only))))
  where
    among : (us : List SessionTicket) → filter (is_own place number) us ≡ t ∷ [] → Contains (own_at place us) t
    among [] e = absurd (cc)
    among (u ∷ us) e = by_bool (u.place == place)
        (λ here. by_bool (u.number == number)
        (λ same. rw here (subst (Contains (u ∷ own_at place us)) (one_list u t (filter (is_own place number) us) [] (rw (here, same) at e)).0 (Contains-here u (own_at place us))))
        (λ differs. rw here (Contains-later u (own_at place us) t (among us (rw (here, differs) at e)))))
        (λ away. rw away (among us (rw away at e)))
fast_there (z ∷ zs) (suc id) place number x ts t at fast only =
    Contains-append_right (map (ticket_by z.number) z.fast) (all_fast zs) (ticket_by x.number t) (fast_there zs id place number x ts t at fast only)

-- ---- a step on the word of a place, by which a session has other fast tickets there, and perhaps another record of its latch

module _ (s : State Slot View) (r : Rule s) (keys : List KeyName) (keys_are : AreKeysOf s keys) (i : ℕ) (key : KeyName) (at : get_elem? keys i ≡ some key)
    (id n : ℕ) (me : Mine) (w : View) (seat : get_elem? s.views id ≡ some me.0) (number : w.number ≡ me.0.number) (asks : w.asks ≡ me.0.asks)
    (held_else : (q : ℕ) → q ≢ suc i → held_at q w.latches ≡ held_at q me.0.latches) (directory : w.directory ≡ me.0.directory) (fast_away : (q : ℕ) → q ≢ suc i → own_at q w.fast ≡ own_at q me.0.fast) where
  abbrev pub then_state : State Slot View
  then_state = record { words = set s.words (lock_word (suc i)) n; homes = s.homes; views = set s.views id w }

  latch_same : (q : ℕ) → get_or (set s.words (lock_word (suc i)) n) (latch_word q) 0 ≡ get_or s.words (latch_word q) 0
  latch_same q = get_or-set_other s.words (lock_word (suc i)) (latch_word q) n 0 (λ e. omega arith)

  pub wait_same : (m : ℕ) → waits then_state m ≡ waits s m
  wait_same m = let last = inside s r keys keys_are i key at in get_or-set_other s.words (lock_word (suc i)) (wait_word (length s.homes) m) n 0 (λ e. omega arith)

  -- the fast tickets at a place
  pub fast_then : (q : ℕ) → fast_at then_state q ≡ all_fast (set (map (part_at (waits s) q) s.views) id (part_at (waits s) q w))
  fast_then q = any_waits (waits then_state) (waits s) q (set s.views id w) ∙ ap all_fast (map-set (part_at (waits s) q) s.views id w)

  fast_else : (q : ℕ) → q ≢ suc i → fast_at then_state q ≡ fast_at s q
  fast_else q else =
      fast_then q
      ∙ all_fast-noted (map (part_at (waits s) q) s.views) id (part_at (waits s) q me.0) (part_at (waits s) q w) (at_map (part_at (waits s) q) s.views id me.0 seat)
      (λ j. map (ticket_by (number j)) (fast_away q else j))

  keys_then : AreKeysOf then_state keys
  keys_then = record {
    free = λ none. keys_are.free (sym (latch_same 0) ∙ none);
    taken = λ j u there k has. elim (at_set s.views id j w u there) [
      | inl mine ↦ keys_are.taken id me.0 seat k (sym directory ∙ ap (λ (x : View). x.directory) mine.1 ∙ has)
      | inr other ↦ keys_are.taken j u other.1 k has
    ];
  }

  pub book_then : (q : ℕ) → held_at q w.latches ≡ held_at q me.0.latches → (b : BookView) → IsBookAt s q b → IsBookAt then_state q b
  book_then q same b is = record {
    free = λ none. is.free (sym (latch_same q) ∙ none);
    taken = λ j u there h has. elim (at_set s.views id j w u there) [
      | inl mine ↦ is.taken id me.0 seat h (sym same ∙ ap (λ (x : View). held_at q x.latches) mine.1 ∙ has)
      | inr other ↦ is.taken j u other.1 h has
    ];
  }

  -- the book at the place has the same waiting list and the same standing definition
  module _ (r′ : Rule then_state) (a b : System Definition) (told : IsTold s a) (told′ : IsTold then_state b) (then_book : BookView) (is : IsBookAt then_state (suc i) then_book)
      (waiting : then_book.waiting ≡ (told.0 key).book.waiting) (standing : then_book.standing ≡ (told.0 key).book.standing) where
    abbrev pub lock : Lock
    lock = record { fast = fast_at then_state (suc i); book = then_book }

    at_told : get_elem? told.1.keys i ≡ some key
    at_told = in_locks s r keys keys_are i key at told.0 told.1

    pub turns : (told′.0 key ≡ lock) × SameElsewhere key told.0 told′.0
    turns = turns_by then_state r′ key lock told.0 told′.0 told′.1
        (λ new here else. one_lock s then_state r told.0 new told.1
        (subst (AreKeysOf then_state) (same_keys s r keys keys_are ∙ sym (same_keys s r told.1.keys told.1.keys_are)) keys_then)
        i key at_told (λ q _ away. fast_else q away) (λ q _ away. book_then q (held_else q away))
        (ap (λ (l : Lock). l.fast) here) (subst (IsBookAt then_state (suc i)) (sym (ap (λ (l : Lock). l.book) here)) is) else)

    pub standing_stays : (k : KeyName) → (told′.0 k).book.standing ≡ (told.0 k).book.standing
    standing_stays k = elim (key_told k key) [
      | inl here ↦ subst (λ (x : KeyName). (told′.0 x).book.standing ≡ (told.0 x).book.standing) (sym here) (ap (λ (l : Lock). l.book.standing) turns.0 ∙ standing)
      | inr away ↦ ap (λ (l : Lock). l.book.standing) (turns.1 k away)
    ]

    pub waits_stay : SameWaits a b
    waits_stay = waits_rest s id me.0 w seat number asks (set s.words (lock_word (suc i)) n) s.homes wait_same a b told told′ (lists_stay key lock told.0 told′.0 turns waiting)

    pub rest_stays : ElseSame a b
    rest_stays = record { waits = waits_stay; definitions = same_definitions told.0 told′.0 a b told.2 told′.2 standing_stays }

    -- the granted tickets of the system change as those of the lock do
    pub same_by : SameMembers (granted_of (told.0 key)) (granted_of lock) → SameMembers a.granted b.granted
    same_by alike held =
        let at_key : (k : KeyName) (t : Ticket) → Contains (granted_of (told′.0 k)) t ↔ Contains (granted_of (told.0 k)) t = λ k t. elim (key_told k key) [
          | inl here ↦ subst (λ (x : KeyName). Contains (granted_of (told′.0 x)) t ↔ Contains (granted_of (told.0 x)) t) (sym here)
              (subst (λ (l : Lock). Contains (granted_of l) t ↔ Contains (granted_of (told.0 key)) t) (sym turns.0) (alike t))
          | inr away ↦ subst (λ (l : Lock). Contains (granted_of l) t ↔ Contains (granted_of (told.0 k)) t) (sym (turns.1 k away)) ((λ among. among), λ among. among)
        ] in (
          (λ among. (told.2.granted held).1 ((at_key held.key (in_book held)).0 ((told′.2.granted held).0 among))),
          λ among. (told′.2.granted held).1 ((at_key held.key (in_book held)).1 ((told.2.granted held).0 among)),
        )

    module _ (granted : then_book.granted ≡ (told.0 key).book.granted) where
      -- what comes to the fast tickets of the lock comes to the system
      pub gains_by : (t : Ticket) → Gains t (fast_at s (suc i)) (fast_at then_state (suc i)) → Gains (of_lock key t) a.granted b.granted
      gains_by t gains =
          (changes-by_lists a b (λ k. granted_of (told.0 k)) (λ k. granted_of (told′.0 k)) key told.2.granted told′.2.granted (λ k away. ap granted_of (turns.1 k away))).0 t
          (subst (λ ts. Gains t (granted_of (told.0 key)) ts) (sym (ap granted_of turns.0 ∙ ap (λ (ts : List Ticket). fast_at then_state (suc i) ++ ts) granted))
          (gains-front t (told.0 key).fast (fast_at then_state (suc i)) (told.0 key).book.granted
          (subst (λ ts. Gains t ts (fast_at then_state (suc i))) (sym (told.1.fast_are i key at_told)) gains)))

      -- and what goes from them goes from it
      pub loses_by : (t : Ticket) → ((y : Ticket) → Contains (told.0 key).book.granted y → y ≢ t) → Loses t (fast_at s (suc i)) (fast_at then_state (suc i)) → Loses (of_lock key t) a.granted b.granted
      loses_by t apart loses =
          (changes-by_lists a b (λ k. granted_of (told.0 k)) (λ k. granted_of (told′.0 k)) key told.2.granted told′.2.granted (λ k away. ap granted_of (turns.1 k away))).1 t
          (subst (λ ts. Loses t (granted_of (told.0 key)) ts) (sym (ap granted_of turns.0 ∙ ap (λ (ts : List Ticket). fast_at then_state (suc i) ++ ts) granted))
          (loses-front t (told.0 key).fast (fast_at then_state (suc i)) (told.0 key).book.granted apart
          (subst (λ ts. Loses t ts (fast_at then_state (suc i))) (sym (told.1.fast_are i key at_told)) loses)))

-- ---- a session that asks for nothing has no wait

pub no_wait : (s : State Slot View) (r : Rule s) (id : ℕ) (me : Mine) → get_elem? s.views id ≡ some me.0 → me.0.asks ≡ None → (a : System Definition) → IsTold s a → HasNoWait a me.0.number
no_wait s r id me seat idle a told =
    let own = r.waits_agree.each id (waiter_of me.0) (at_map waiter_of s.views id me.0 seat) in
    let rests : waits s me.0.number % 8 ≡ 0 = own.idle idle in
    let no_code : (x : WaitState) → waits s me.0.number % 8 ≢ code_of x = λ x e. (code_waits x).0 (sym e ∙ rests) in (
      (λ k waiter among same.
          let word = told.3.waiting k waiter among in
          let most = code_most waiter.state in
          let is : waits s me.0.number ≡ waits s waiter.ticket.session = ap (waits s) (sym same) in
          no_code waiter.state (omega arith)),
      λ wait among. other_session s wait ((told.3.unended wait).0 among) me.0.number (λ two. omega arith),
    )

-- ---- a fast grant

pub granting_fast_grants : GrantingFastGrants
granting_fast_grants s r keys keys_are i key at id me seat some_number mode noted one may down =
    let place : ℕ = suc i in
    let w : View = (granted_fast place mode noted (word_at s place) me).0 in
    let first = first_place s r i key (in_rule s r keys keys_are i key at) in
    let last = inside s r keys keys_are i key at in
    let own : SessionTicket = fast_own me.0.next place mode noted in
    let r′ : Rule (after_word s place (word_at s place + one) id (granted_fast place mode noted (word_at s place) me)) = granted_rule (length s.homes) id place me first last s r refl seat mode noted one may down in
    let away : (q : ℕ) → q ≢ place → own_at q w.fast ≡ own_at q me.0.fast = λ q else. own_else-push place q own me.0.fast refl else in (
      r′,
      λ a b told told′.
          let ready = wish_grantable (length s.homes) id place me first last s r refl seat mode noted one may down in
          let book_is = same_book s r place first (within (length s.homes) id place me first last s r refl seat) (told.0 key).book (told.1.book_is i key (in_locks s r keys keys_are i key at told.0 told.1)) in
          let fast_is = told.1.fast_are i key (in_locks s r keys keys_are i key at told.0 told.1) in
          let stays = book_then s r keys keys_are i key at id (word_at s place + one) me w seat refl refl (λ q else. refl) refl away place refl (told.0 key).book (told.1.book_is i key (in_locks s r keys keys_are i key at told.0 told.1)) in
          record {
            free = no_wait s r id me seat may.idle a told;
            new_number = next_numbers_are_new s r told.0 told.1 a told.2 id me.0 seat some_number;
            grantable =
                (grantable-by_lists a (λ k. granted_of (told.0 k)) told.2.granted me.0.number key mode).1
                (subst (λ ws. book.is_grantable (lock_kind key) (granted_of (told.0 key)) ws me.0.number mode ≡ true) (sym (told.2.waiting key))
                (subst (λ (k : KeyName). book.is_grantable (lock_kind k) (granted_of (told.0 key)) (told.0 key).book.waiting me.0.number mode ≡ true) (told.2.keyed key)
                (subst (λ ts. book.is_grantable (books.lock_kind (told.0 key).book) (ts ++ (told.0 key).book.granted) (told.0 key).book.waiting me.0.number mode ≡ true) (sym fast_is)
                (subst (λ (b : BookView). book.is_grantable (books.lock_kind b) (fast_at s place ++ b.granted) b.waiting me.0.number mode ≡ true) (sym book_is) ready))));
            granted = gains_by s r keys keys_are i key at id (word_at s place + one) me w seat refl refl (λ q else. refl) refl away r′ a b told told′ (told.0 key).book stays refl refl refl (ticket_by me.0.number own)
                (subst (Gains (ticket_by me.0.number own) (fast_at s place)) (sym (fast_then s r keys keys_are i key at id (word_at s place + one) me w seat refl refl (λ q else. refl) refl away place
                ∙ ap (λ (ts : List SessionTicket). all_fast (set (cell s place).parts id (record (part_at (waits s) place me.0) { fast = ts }))) (own_at-push place own me.0.fast refl)))
                (fast-gains (cell s place).parts id (part_at (waits s) place me.0) own (at_map (part_at (waits s) place) s.views id me.0 seat)));
            rest = rest_stays s r keys keys_are i key at id (word_at s place + one) me w seat refl refl (λ q else. refl) refl away r′ a b told told′ (told.0 key).book stays refl refl;
          },
    )

-- ---- a fast release

pub asks_nothing : (asks : Option Ask) → ((a : Ask) → asks ≡ Some a → ⊥) → asks ≡ None
asks_nothing None never = refl
asks_nothing (Some a) never = absurd (never a refl)

pub releasing_fast_releases : ReleasingFastReleases
releasing_fast_releases s r keys keys_are i key at id me seat some_number number one may =
    let place : ℕ = suc i in
    let w : View = (released_fast place number (word_at s place) me).0 in
    let n : ℕ = (word_at s place + (2 ^ 64 - one)) % 2 ^ 64 in
    let first = first_place s r i key (in_rule s r keys keys_are i key at) in
    let last = inside s r keys keys_are i key at in
    let t : Ticket = ticket_by me.0.number may.ticket in
    let idle : me.0.asks ≡ None = asks_nothing me.0.asks (λ a e. (let no_fast = (r.views id me.0 seat).0.unfast a e in let nothing : [] ≡ may.ticket ∷ [] = ap (filter (is_own place number)) (sym no_fast) ∙ may.only in absurd (cc))) in
    let r′ : Rule (after_word s place n id (released_fast place number (word_at s place) me)) = released_rule (length s.homes) id place me first last number one may s r refl seat some_number in
    let away : (q : ℕ) → q ≢ place → own_at q w.fast ≡ own_at q me.0.fast = λ q else. owned_else place q (Lose number) me.0.fast else in
    let part_there = at_map (part_at (waits s) place) s.views id me.0 seat in
    let own_is : is_own place number may.ticket ≡ true = only_passes (is_own place number) me.0.fast may.ticket may.only in
    let named = own_parts place number may.ticket own_is in
    let among : Contains me.0.fast may.ticket =
    among_filter (is_own place number) me.0.fast may.ticket (subst (λ (ts : List SessionTicket). Contains ts may.ticket) (sym may.only) (Contains-here may.ticket [])) in
    let not_slow : ticket_of me.0.number number (map (ticket_by me.0.number) (own_at place me.0.slow)) ≡ None =
    subst (λ (m : ℕ). ticket_of me.0.number m (map (ticket_by me.0.number) (own_at place me.0.slow)) ≡ None) named.1 (none_slow s r id me.0 seat place may.ticket among named.0) in (
      r′,
      λ a b told told′.
          let ok = r.places place first last in
          let book_is = same_book s r place first last (told.0 key).book (told.1.book_is i key (in_locks s r keys keys_are i key at told.0 told.1)) in
          let not_granted : ticket_of me.0.number number (told.0 key).book.granted ≡ None =
          ap (λ (b : BookView). ticket_of me.0.number number b.granted) book_is
          ∙ (ok.book_ok.each id (part_at (waits s) place me.0) part_there).slow_held.same number
          ∙ ap (λ (o : Option Asking). ticket_of me.0.number number (option_to_list (due o) ++ map (ticket_by me.0.number) (own_at place me.0.slow))) (ap (asking_at place me.0.number (waits s me.0.number)) idle)
          ∙ not_slow in
          let is : is_ticket me.0.number number t ≡ true = and_from _ _ (eq-eqb me.0.number me.0.number refl) (eq-eqb may.ticket.number number named.1) in
          let apart : (y : Ticket) → Contains (told.0 key).book.granted y → y ≢ t = found-apart me.0.number number t is (told.0 key).book.granted not_granted in
          let loses = fast-loses (cell s place).parts id place number (part_at (waits s) place me.0) me.0.fast may.ticket part_there refl (alone_parts s r place id me.0 seat some_number) may.only (part_at (waits s) place w).owes in
          let fast_is = fast_then s r keys keys_are i key at id n me w seat refl refl (λ q else. refl) refl away place in
          let stays = book_then s r keys keys_are i key at id n me w seat refl refl (λ q else. refl) refl away place refl (told.0 key).book (told.1.book_is i key (in_locks s r keys keys_are i key at told.0 told.1)) in
          record {
            held = (
              (told.2.granted (of_lock key t)).1 (Contains-append_left (told.0 key).fast (told.0 key).book.granted t
                  (subst (λ ts. Contains ts t) (sym (told.1.fast_are i key (in_locks s r keys keys_are i key at told.0 told.1))) (fast_there (cell s place).parts id place number (part_at (waits s) place me.0) me.0.fast may.ticket part_there refl may.only))),
              refl,
              λ wait among same. absurd ((no_wait s r id me seat idle a told).1 wait among same),
            );
            granted = loses_by s r keys keys_are i key at id n me w seat refl refl (λ q else. refl) refl away r′ a b told told′ (told.0 key).book stays refl refl refl t apart (subst (Loses t (fast_at s place)) (sym fast_is) loses);
            rest = rest_stays s r keys keys_are i key at id n me w seat refl refl (λ q else. refl) refl away r′ a b told told′ (told.0 key).book stays refl refl;
          },
    )
