-- What a record tells of those who wait, before and after one of them is granted.
use Rattle.std.proofs.Common.{◌≡◌, ℕ, suc, ◌+◌, ◌<◌, Bool, true, false, cond, ◌||◌, List, [], ◌∷◌, ◌++◌, length, take, Some, None, refl, sym, ap, ◌∙◌, subst, inl, inr, arith, length-append, Option, ◌⊎◌, find, not, lt-ltb}
use Rattle.mdl_book.proofs.MemberLemmas.{none-found}
use Rattle.std.specs.FinSet as set
use Rattle.mdl_visits.proofs.Common.{BookView, Contains, Contains-append_cases, Contains-append_left, Contains-append_right, IsGrantableAt, IsOrderlyLatch, LatchRecord, MayJoin, Once, TellsLists, Ticket, admitting, after_first, ahead_of, and_from, and_parts, any_obtrusive, before_first, blocks_by, by_bool, can_be_granted, cases_eq, counts_of, find-passes, goes_first, has_obtrusive, has_tickets, is_compatible, is_itself, is_obtrusive, is_passed, is_ready, is_ticket, list_any, list_any-append, lock_kind, may_stand, nat_cmp, next_grantable, noting, of-without_other, of-without_own, once-without, option_map, option_to_list, or_right, parted, position_or_len, ticket_of, with_admitted, with_index, without, without-hit, without-miss}

-- waits may be granted by a record whose flags tell the lists and this word of the lock, which is noted while the flag OBTRUSIVE is up, and counts exactly
abbrev pub MayReschedule : ℕ → LatchRecord → Type 0
MayReschedule word h = IsOrderlyLatch h × (h.obtrusive ≡ true → h.noted ≡ Some word) × (h.obtrusive ≡ true → h.exact ≡ true)

-- ---- one of the list is taken out

module _ (session number : ℕ) where
  -- it is one of those that are asked, or another is
  any_split : (p : Ticket → Bool) (ts : List Ticket) (t : Ticket) → ticket_of session number ts ≡ Some t → list_any p ts ≡ (p t || list_any p (without session number ts))
  any_split p [] t found = absurd (cc)
  any_split p (x ∷ xs) t found = by_bool (is_ticket session number x)
      (λ hit. let is : x ≡ t = (let first : cond (is_ticket session number x) (Some x) (ticket_of session number xs) ≡ Some x = ap (λ b. cond b (Some x) (ticket_of session number xs)) hit in cc) in
      ap (λ (y : Ticket). p y || list_any p xs) is ∙ ap (λ ys. p t || list_any p ys) (sym (without-hit session number x xs hit)))
      (λ miss. ap (λ b. p x || b) (any_split p xs t (sym (ap (λ b. cond b (Some x) (ticket_of session number xs)) miss) ∙ found)) ∙ swap (p x) (p t) (list_any p (without session number xs))
      ∙ ap (λ ys. p t || list_any p ys) (sym (without-miss session number x xs miss)))
    where
      swap : (a b c : Bool) → (a || (b || c)) ≡ (b || (a || c))
      swap true true c = refl
      swap true false c = refl
      swap false b c = refl

  some_there : (ts : List Ticket) (t : Ticket) → ticket_of session number ts ≡ Some t → 0 < length ts
  some_there [] t found = absurd (cc)
  some_there (x ∷ xs) t found = omega arith

  -- who is found after that was found before
  pub found_before : (ts : List Ticket) → Once ts → (a m : ℕ) (t : Ticket) → ticket_of a m (without session number ts) ≡ Some t → ticket_of a m ts ≡ Some t
  found_before ts once a m t found = elim (cases_eq a session) [
    | inl who ↦ elim (cases_eq m number) [
      | inl same ↦ let none : ticket_of a m (without session number ts) ≡ None =
          ap (λ (k : ℕ). ticket_of k m (without session number ts)) who ∙ ap (λ (k : ℕ). ticket_of session k (without session number ts)) same ∙ of-without_own session number ts once in
          absurd (cc)
      | inr other ↦ kept (λ _ e. other e)
    ]
    | inr other ↦ kept (λ e _. other e)
  ]
    where
      kept : (a ≡ session → m ≡ number → ⊥) → ticket_of a m ts ≡ Some t
      kept apart =
          sym (of-without_other session number a m (λ x hit. by_bool (is_ticket a m x)
          (λ also. let is = is_passed session number x hit in let that = is_passed a m x also in absurd (apart (sym that.0 ∙ is.0) (sym that.1 ∙ is.1)))
          (λ no. no)) ts)
          ∙ found

-- ---- after a waiting ticket is granted

admitted_flags : (g o w : Bool) → (g || (o || w)) ≡ ((g || (o || false)) || w)
admitted_flags true o w = refl
admitted_flags false true w = refl
admitted_flags false false w = refl

tells_admitted : (session number : ℕ) (book : BookView) (t : Ticket) (slow obtrusive : Bool) → ticket_of session number book.waiting ≡ Some t → TellsLists book slow obtrusive
    → TellsLists (admitting session number book) slow obtrusive
tells_admitted session number book t slow obtrusive found exact =
    let test : Ticket → Bool = λ x. is_obtrusive (lock_kind book) x.mode in
    subst (λ (o : Option Ticket). TellsLists (record (admitting session number book) { granted = book.granted ++ option_to_list o }) slow obtrusive) (sym found) (
      exact.0 ∙ (let more = some_there session number book.waiting t found in lt-ltb 0 (length book.granted + length book.waiting) (omega arith))
          ∙ sym (let longer = length-append book.granted (t ∷ []) in lt-ltb 0 (length (book.granted ++ t ∷ []) + length (without session number book.waiting)) (omega arith)),
      exact.1 ∙ ap (λ b. any_obtrusive (lock_kind book) book.granted || b) (any_split session number test book.waiting t found)
          ∙ admitted_flags (any_obtrusive (lock_kind book) book.granted) (is_obtrusive (lock_kind book) t.mode) (any_obtrusive (lock_kind book) (without session number book.waiting))
          ∙ ap (λ b. b || any_obtrusive (lock_kind book) (without session number book.waiting)) (sym (list_any-append test book.granted (t ∷ []))),
    )

pub grants_on : (word session number : ℕ) (h : LatchRecord) (t : Ticket) → ticket_of session number h.book.waiting ≡ Some t → MayReschedule word h → MayReschedule word (with_admitted session number h)
grants_on word session number h t found may = (
  (
    record {
      once = once-without session number h.book.waiting may.0.0.once;
      single = λ a i j x y first second.
          may.0.0.single a i j x y (found_before session number h.book.waiting may.0.0.once a i x first) (found_before session number h.book.waiting may.0.0.once a j y second);
    },
    tells_admitted session number h.book t h.slow h.obtrusive found may.0.1,
  ),
  may.1,
  may.2,
)

-- lists that hold an obtrusive ticket hold one
some_any : (p : Ticket → Bool) (ts : List Ticket) → list_any p ts ≡ true → 0 < length ts
some_any p [] e = absurd (cc)
some_any p (t ∷ ts) e = omega arith

ticketed : (book : BookView) → has_obtrusive book ≡ true → has_tickets book ≡ true
ticketed book e = lt-ltb 0 (length book.granted + length book.waiting) (by_bool (any_obtrusive (lock_kind book) book.granted)
    (λ granted. let some = some_any (λ (t : Ticket). is_obtrusive (lock_kind book) t.mode) book.granted granted in omega arith)
    (λ none. let some = some_any (λ (t : Ticket). is_obtrusive (lock_kind book) t.mode) book.waiting (sym (ap (λ (b : Bool). b || any_obtrusive (lock_kind book) book.waiting) none) ∙ e) in omega arith))

-- once the word was read, waits may be granted by it
pub grants_read : (word : ℕ) (h : LatchRecord) → IsOrderlyLatch h → MayReschedule word (noting word h)
grants_read word h orderly = (orderly, (λ up. rw up refl), λ up. rw up (orderly.1.0 ∙ ticketed h.book (sym orderly.1.1 ∙ up)))

-- nobody else of its session waits
none_of_session : (word session number : ℕ) (h : LatchRecord) (t : Ticket) → ticket_of session number h.book.waiting ≡ Some t → MayReschedule word h
    → (m : ℕ) → ticket_of session m (with_admitted session number h).book.waiting ≡ None
none_of_session word session number h t found may m =
    elim (ticket_of session m (without session number h.book.waiting)) as (λ o. ticket_of session m (without session number h.book.waiting) ≡ o → o ≡ None) [
      | Some x ↦ λ there.
          let same : m ≡ number = may.0.0.single session m number x t (found_before session number h.book.waiting may.0.0.once session m x there) found in
          let none : ticket_of session m (without session number h.book.waiting) ≡ None = ap (λ (k : ℕ). ticket_of session k (without session number h.book.waiting)) same ∙ of-without_own session number h.book.waiting may.0.0.once in
          sym there ∙ none
      | None ↦ λ _. refl
    ] refl

-- who waits then waited before
pub waits_still : (session number : ℕ) (h : LatchRecord) (t : Ticket) → Contains (with_admitted session number h).book.waiting t → Contains h.book.waiting t
waits_still session number h t among =
    let p = is_ticket session number in
    let ts = h.book.waiting in
    subst (λ (xs : List Ticket). Contains xs t) (sym (parted p ts)) (elim (Contains-append_cases (before_first p ts) (after_first p ts) t among) [
      | inl left ↦ Contains-append_left (before_first p ts) (option_to_list (find p ts) ++ after_first p ts) t left
      | inr right ↦ Contains-append_right (before_first p ts) (option_to_list (find p ts) ++ after_first p ts) t (Contains-append_right (option_to_list (find p ts)) (after_first p ts) t right)
    ])

-- and who arrived before another waits
pub waits_ahead : (session number : ℕ) (ts : List Ticket) (t : Ticket) → Contains (ahead_of session number ts) t → Contains ts t
waits_ahead session number ts t among =
    let p = is_ticket session number in
    subst (λ (xs : List Ticket). Contains xs t) (sym (parted p ts)) (Contains-append_left (before_first p ts) (option_to_list (find p ts) ++ after_first p ts) t among)

-- a ticket that waits is found
found_there : (ts : List Ticket) (t : Ticket) → Contains ts t → (u : Ticket) × (ticket_of t.session t.number ts ≡ Some u)
found_there ts t among =
    elim (ticket_of t.session t.number ts) as (λ o. ticket_of t.session t.number ts ≡ o → (u : Ticket) × (ticket_of t.session t.number ts ≡ Some u)) [
      | Some u ↦ λ is. (u, is)
      | None ↦ λ none. absurd ((none-found (is_ticket t.session t.number) ts).0 none t among (is_itself t))
    ] refl

-- of a session that waits by this number there is no other
pub only_one : (word session number : ℕ) (h : LatchRecord) (t u : Ticket) → ticket_of session number h.book.waiting ≡ Some t → MayReschedule word h → Contains h.book.waiting u → u.session ≡ session → u.number ≡ number
only_one word session number h t u found may among same =
    let there = found_there h.book.waiting u among in
    may.0.0.single session u.number number there.0 t (subst (λ (who : ℕ). ticket_of who u.number h.book.waiting ≡ Some there.0) same there.1) found

-- and none once it is granted
pub gone : (word session number : ℕ) (h : LatchRecord) (t u : Ticket) → ticket_of session number h.book.waiting ≡ Some t → MayReschedule word h → Contains (with_admitted session number h).book.waiting u → u.session ≡ session → ⊥
gone word session number h t u found may among same =
    let there = found_there (with_admitted session number h).book.waiting u among in
    let none = none_of_session word session number h t found may u.number in
    let one = subst (λ (who : ℕ). ticket_of who u.number (with_admitted session number h).book.waiting ≡ Some there.0) same there.1 in
    absurd (cc)

-- ---- the next one

-- the first that passes a test is found by its session and number
found_by_id : (p : Ticket → Bool) (ts : List Ticket) (t : Ticket) → Once ts → find p ts ≡ Some t → ticket_of t.session t.number ts ≡ Some t
found_by_id p [] t once found = absurd (cc)
found_by_id p (x ∷ xs) t once found = by_bool (p x)
    (λ hit. let is : x ≡ t = (let first : cond (p x) (Some x) (find p xs) ≡ Some x = ap (λ b. cond b (Some x) (find p xs)) hit in cc) in
    subst (λ (y : Ticket). cond (is_ticket t.session t.number y) (Some y) (ticket_of t.session t.number xs) ≡ Some t) (sym is) (rw (is_itself t) refl))
    (λ miss.
    let later : find p xs ≡ Some t = sym (ap (λ b. cond b (Some x) (find p xs)) miss) ∙ found in
    let there = found_by_id p xs t once.1 later in
    by_bool (is_ticket t.session t.number x)
    (λ same.
    let is = is_passed t.session t.number x same in
    let none : ticket_of t.session t.number xs ≡ None = subst (λ (a : ℕ). ticket_of a t.number xs ≡ None) is.0 (subst (λ (m : ℕ). ticket_of x.session m xs ≡ None) is.1 once.0) in
    absurd (cc))
    (λ other. rw other there))

-- it may join
may_join : (word : ℕ) (h : LatchRecord) (t : Ticket) → MayReschedule word h → ticket_of t.session t.number h.book.waiting ≡ Some t → may_stand (lock_kind h.book) h.book.granted word t.session t.mode ≡ true
    → MayJoin t.session h.book h.noted t.mode
may_join word h t may there stands = by_bool (is_obtrusive (lock_kind h.book) t.mode)
    (λ obtrusive.
    let test : Ticket → Bool = λ x. is_obtrusive (lock_kind h.book) x.mode in
    let up : h.obtrusive ≡ true =
    may.0.1.1 ∙ ap (λ b. any_obtrusive (lock_kind h.book) h.book.granted || b) (any_split t.session t.number test h.book.waiting t there ∙ ap (λ b. b || any_obtrusive (lock_kind h.book) (without t.session t.number h.book.waiting)) obtrusive)
    ∙ or_right (any_obtrusive (lock_kind h.book) h.book.granted) true refl in
    inr (inl (word, may.1 up, stands)))
    (λ plain. inl (plain, (and_parts (is_compatible (lock_kind h.book) h.book.granted t.session t.mode) (not (blocks_by (counts_of word) (lock_kind h.book) t.mode)) stands).0))

-- ---- with its index

-- the index of the first that passes, which passes or not
first_hit : (p : Ticket → Bool) (x : Ticket) (xs : List Ticket) → p x ≡ true → position_or_len p (x ∷ xs) ≡ 0
first_hit p x xs hit = ap (λ b. cond (not b) (1 + position_or_len p xs) 0) hit

first_miss : (p : Ticket → Bool) (x : Ticket) (xs : List Ticket) → p x ≡ false → position_or_len p (x ∷ xs) ≡ 1 + position_or_len p xs
first_miss p x xs miss = ap (λ b. cond (not b) (1 + position_or_len p xs) 0) miss

-- the first that passes a test is the first of its session and number
first_by_id : (p : Ticket → Bool) (ts : List Ticket) (t : Ticket) → Once ts → find p ts ≡ Some t → position_or_len (is_ticket t.session t.number) ts ≡ position_or_len p ts
first_by_id p [] t once found = absurd (cc)
first_by_id p (x ∷ xs) t once found = by_bool (p x)
    (λ hit. let is : x ≡ t = (let first : cond (p x) (Some x) (find p xs) ≡ Some x = ap (λ b. cond b (Some x) (find p xs)) hit in cc) in
    let own : is_ticket t.session t.number x ≡ true = subst (λ (y : Ticket). is_ticket t.session t.number y ≡ true) (sym is) (is_itself t) in
    first_hit (is_ticket t.session t.number) x xs own ∙ sym (first_hit p x xs hit))
    (λ miss.
    let later : find p xs ≡ Some t = sym (ap (λ b. cond b (Some x) (find p xs)) miss) ∙ found in
    let there = found_by_id p xs t once.1 later in
    by_bool (is_ticket t.session t.number x)
    (λ same.
    let is = is_passed t.session t.number x same in
    let none : ticket_of t.session t.number xs ≡ None = subst (λ (a : ℕ). ticket_of a t.number xs ≡ None) is.0 (subst (λ (m : ℕ). ticket_of x.session m xs ≡ None) is.1 once.0) in
    absurd (cc))
    (λ another.
    first_miss (is_ticket t.session t.number) x xs another ∙ ap (λ (n : ℕ). 1 + n) (first_by_id p xs t once.1 later) ∙ sym (first_miss p x xs miss)))

-- what is told of the first, with its index
told_at : (p : Ticket → Bool) (ts : List Ticket) (o : Option Ticket) (index : ℕ) (t : Ticket) → ◌≡◌ {A = Option (ℕ × Ticket)} (Some (index, t)) (option_map (with_index p ts) o)
    → (o ≡ Some t) × (position_or_len p ts ≡ index)
told_at p ts None index t told = absurd (cc)
told_at p ts (Some u) index t told =
    let same : ◌≡◌ {A = ℕ × Ticket} (index, t) (position_or_len p ts, u) = cc in
    (ap Some (sym (ap (λ (x : ℕ × Ticket). x.1) same)), sym (ap (λ (x : ℕ × Ticket). x.0) same))

pub is_next : (word index : ℕ) (t : Ticket) (untried : set.FinSet nat_cmp) (h : LatchRecord) → MayReschedule word h
    → ◌≡◌ {A = Option (ℕ × Ticket)} (Some (index, t)) (option_map (with_index (is_ready word untried h.book) h.book.waiting) (next_grantable word untried h.book))
    → IsGrantableAt index t.session t.number h × (set.contains untried t.session ≡ true) × (next_grantable word untried h.book ≡ Some t)
is_next word index t untried h may told =
    let first = told_at (is_ready word untried h.book) h.book.waiting (next_grantable word untried h.book) index t told in
    let ready : is_ready word untried h.book t ≡ true = find-passes (is_ready word untried h.book) h.book.waiting t first.0 in
    let parts = and_parts (set.contains untried t.session) (can_be_granted (lock_kind h.book) h.book.granted h.book.waiting word t.session t.mode) ready in
    let can = and_parts (may_stand (lock_kind h.book) h.book.granted word t.session t.mode) (goes_first (lock_kind h.book) h.book.waiting t.session t.mode) parts.1 in
    let there = found_by_id (is_ready word untried h.book) h.book.waiting t may.0.0.once first.0 in (
      (record { wish = t; waits = there; beside = may_join word h t may there can.0; first = can.1 }, first_by_id (is_ready word untried h.book) h.book.waiting t may.0.0.once first.0 ∙ first.1),
      parts.0,
      first.0,
    )

-- nobody is
pub nobody_next : (word : ℕ) (untried : set.FinSet nat_cmp) (h : LatchRecord)
    → ◌≡◌ {A = Option (ℕ × Ticket)} None (option_map (with_index (is_ready word untried h.book) h.book.waiting) (next_grantable word untried h.book)) → next_grantable word untried h.book ≡ None
nobody_next word untried h told = nothing (next_grantable word untried h.book) told
  where
    nothing : (o : Option Ticket) → ◌≡◌ {A = Option (ℕ × Ticket)} None (option_map (with_index (is_ready word untried h.book) h.book.waiting) o) → o ≡ None
    nothing None e = refl
    nothing (Some t) e = absurd (cc)

-- where none of these is next, each was taken out or can't be granted
pub not_ready : (word : ℕ) (untried : set.FinSet nat_cmp) (h : LatchRecord) (tickets : List Ticket) → find (is_ready word untried h.book) tickets ≡ None
    → (t : Ticket) → Contains tickets t
    → (set.contains untried t.session ≡ false) ⊎ (can_be_granted (lock_kind h.book) h.book.granted h.book.waiting word t.session t.mode ≡ false)
not_ready word untried h tickets none t among =
    let fails = (none-found (is_ready word untried h.book) tickets).0 none t among in
    by_bool (set.contains untried t.session)
    (λ left. by_bool (can_be_granted (lock_kind h.book) h.book.granted h.book.waiting word t.session t.mode)
    (λ can. absurd (fails (and_from _ _ left can)))
    (λ cannot. inr cannot))
    (λ tried. inl tried)

-- before the first that passes a test there is none
none_before : (p q : Ticket → Bool) (ts : List Ticket) (t : Ticket) → find p ts ≡ Some t → q t ≡ true → find p (before_first q ts) ≡ None
none_before p q [] t found here = absurd (cc)
none_before p q (x ∷ xs) t found here =
    by_bool (q x)
    (λ hit. ap (find p) (first-hit q x xs hit))
    (λ miss.
    ap (find p) (first-miss q x xs miss)
    ∙ by_bool (p x)
    (λ passes. let is : x ≡ t = (let first : cond (p x) (Some x) (find p xs) ≡ Some x = ap (λ b. cond b (Some x) (find p xs)) passes in cc) in
    let no : q t ≡ false = subst (λ (y : Ticket). q y ≡ false) is miss in
    absurd (cc))
    (λ fails. ap (λ b. cond b (Some x) (find p (before_first q xs))) fails ∙ none_before p q xs t (sym (ap (λ b. cond b (Some x) (find p xs)) fails) ∙ found) here))
  where
    first-hit : (q : Ticket → Bool) (x : Ticket) (xs : List Ticket) → q x ≡ true → before_first q (x ∷ xs) ≡ []
    first-hit q x xs e = rw e refl

    on : (k : ℕ) → 1 + k ≡ suc k
    on k = omega arith

    first-miss : (q : Ticket → Bool) (x : Ticket) (xs : List Ticket) → q x ≡ false → before_first q (x ∷ xs) ≡ x ∷ before_first q xs
    first-miss q x xs e = rw e (λ i. take (on (position_or_len q xs) i) (x ∷ xs))

-- nor before the next one
pub none_ahead : (word : ℕ) (t : Ticket) (untried : set.FinSet nat_cmp) (h : LatchRecord) → next_grantable word untried h.book ≡ Some t
    → find (is_ready word untried h.book) (ahead_of t.session t.number h.book.waiting) ≡ None
none_ahead word t untried h next = none_before (is_ready word untried h.book) (is_ticket t.session t.number) h.book.waiting t next (is_itself t)

-- a ticket that is found has the number that it was looked up by
pub found_number : (session number : ℕ) (ts : List Ticket) (t : Ticket) → ticket_of session number ts ≡ Some t → t.number ≡ number
found_number session number ts t found = (is_passed session number t (find-passes (is_ticket session number) ts t found)).1
