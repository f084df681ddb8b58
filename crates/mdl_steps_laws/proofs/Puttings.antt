-- Who holds a latch and looked the waiters through leaves none forgotten.
use Rattle.std.proofs.Common.{◌≡◌, ◌⊎◌, ℕ, suc, ◌%◌, ◌<◌, not, Bool, true, false, inl, inr, List, [], ◌∷◌, ◌++◌, length, zero, map, get_or, Some, refl, sym, ap, ◌∙◌, subst, arith, rules, Contains}
use Rattle.mdl_word.proofs.BlockLemmas.{clash_from_blocks_by}
use Rattle.mdl_steps_laws.proofs.FirstLemmas.{AreOfOthers, BookView, Contains-map, CountsFastTickets, Definition, IsGrantable, IsKeyAt, IsTold, KeyName, Kind, LatchRecord, Mine, Mode, NoneForgottenAt, Rule, Slot, State, System, TellsLists, Ticket, Unsettled, View, Waiter, and_from, and_parts, blocks_by, by_bool, can_be_granted, can_be_granted-fast, clashes, code_of, count_with, counts_of, fast_at, get_elem?, goes_first, grantable-by_lists, granted_of, has_obtrusive, held_at, is_compatible, is_grantable, is_obtrusive, kind_of, list_any, lock_kind, or_parts, same_keys, some, waits}
use Rattle.mdl_steps_laws.proofs.FastRests.{waiters_have_no_fast_tickets}

-- ---- where no ticket of the book is obtrusive, no counts block a request

-- no counted mode clashes with an unobtrusive one
uncounted : (kind : Kind) (counts : List ℕ) (ask held : Mode) → is_obtrusive kind ask ≡ false → 0 < count_with counts kind held → clashes kind ask held ≡ true → ⊥
uncounted kind counts ask held plain counted clash = search (rules, arith)

pub unblocked : (kind : Kind) (word : ℕ) (ask : Mode) → is_obtrusive kind ask ≡ false → not (blocks_by (counts_of word) kind ask) ≡ true
unblocked kind word ask plain = by_bool (blocks_by (counts_of word) kind ask)
    (λ blocks. let h = clash_from_blocks_by (counts_of word) kind ask blocks in absurd (uncounted kind (counts_of word) ask h.0 plain h.1 h.2))
    (λ free. rw free refl)

pub none_any : (test : Ticket → Bool) (ts : List Ticket) → list_any test ts ≡ false → (k : ℕ) (t : Ticket) → k < length ts → get_or ts k t ≡ t → test t ≡ false
none_any test [] none k t inside is = absurd (omega arith)
none_any test (x ∷ xs) none zero t inside is = subst (λ (y : Ticket). test y ≡ false) is (or_parts (test x) (list_any test xs) none).0
none_any test (x ∷ xs) none (suc k) t inside is = none_any test xs (or_parts (test x) (list_any test xs) none).1 k t (omega arith) is

-- ---- the waiter can't be granted

-- each waiting ticket of the record's book was looked at: its wait isn't unsettled any more, or it can't be granted with this word
abbrev pub AreLookedAt : (ℕ → ℕ) → ℕ → LatchRecord → Type 0
AreLookedAt wait_of word h =
    (t : Ticket) → Contains h.book.waiting t →
    (wait_of t.session % 8 ≡ 1 → ⊥) ⊎ (can_be_granted (lock_kind h.book) h.book.granted h.book.waiting word t.session t.mode ≡ false)

module _ (s : State Slot View) (r : Rule s) (place : ℕ) (key : KeyName) (is_key : IsKeyAt s place key) (id : ℕ) (m : Mine) (seat : get_elem? s.views id ≡ some m.0)
    (h : LatchRecord) (has : held_at place m.0.latches ≡ Some h) (exact : TellsLists h.book h.slow h.obtrusive)
    (word : ℕ) (counts : h.obtrusive ≡ true → CountsFastTickets (lock_kind h.book) word (fast_at s place)) (looked : AreLookedAt (waits s) word h)
    (a : System Definition) (told : IsTold s a) where
  abbrev i : ℕ
  i = is_key.2.0

  at : get_elem? told.1.keys i ≡ some key
  at = subst (λ (ks : List KeyName). get_elem? ks i ≡ some key) (same_keys s r is_key.0 is_key.1 ∙ sym (same_keys s r told.1.keys told.1.keys_are)) is_key.2.2

  book : h.book ≡ (told.0 key).book
  book = (told.1.book_is i key at).taken id m.0 seat h (subst (λ (p : ℕ). held_at p m.0.latches ≡ Some h) is_key.2.1 has)

  fast : fast_at s place ≡ (told.0 key).fast
  fast = ap (fast_at s) is_key.2.1 ∙ sym (told.1.fast_are i key at)

  kind : lock_kind h.book ≡ kind_of key.namespace
  kind = ap lock_kind book ∙ ap (λ (k : KeyName). kind_of k.namespace) (told.2.keyed key)

  module _ (w : Waiter) (among : Contains (a.waiting key) w) (open_ : w.state ≡ Unsettled) (grantable : IsGrantable a w.ticket.session key w.ticket.mode) where
    abbrev t : Ticket
    t = w.ticket

    waits_there : Contains h.book.waiting t
    waits_there =
        subst (λ (ts : List Ticket). Contains ts t) (told.2.waiting key ∙ ap (λ (b : BookView). b.waiting) (sym book))
        (Contains-map (λ (x : Waiter). x.ticket) (a.waiting key) w among)

    unsettled : waits s t.session % 8 ≡ 1
    unsettled =
        let word_is = told.3.waiting key w among in
        let code : code_of w.state ≡ 1 = ap code_of open_ in omega arith

    by_lists : is_grantable (lock_kind h.book) (fast_at s place ++ h.book.granted) h.book.waiting t.session t.mode ≡ true
    by_lists =
        let g = (grantable-by_lists a (λ k. granted_of (told.0 k)) told.2.granted t.session key t.mode).0 grantable in
        subst (λ (k : Kind). is_grantable k (fast_at s place ++ h.book.granted) h.book.waiting t.session t.mode ≡ true) (sym kind)
        (subst (λ (ts : List Ticket). is_grantable (kind_of key.namespace) (fast_at s place ++ h.book.granted) ts t.session t.mode ≡ true) (told.2.waiting key ∙ ap (λ (b : BookView). b.waiting) (sym book))
        (subst (λ (ts : List Ticket). is_grantable (kind_of key.namespace) ts (map (λ (x : Waiter). x.ticket) (a.waiting key)) t.session t.mode ≡ true)
        (λ j. sym fast j ++ (sym book j).granted) g))

    of_others : AreOfOthers t.session (fast_at s place)
    of_others k d inside own =
        let f : List Ticket = (told.0 key).fast in
        let there : Contains f (get_or f k d) = subst (λ (ts : List Ticket). Contains ts (get_or ts k d)) fast (k, inside, same_at (fast_at s place) k d inside) in
        let idle = waiters_have_no_fast_tickets s r a told key (get_or f k d) there in
        idle.0 key w among (sym (subst (λ (ts : List Ticket). (get_or ts k d).session ≡ t.session) fast own))
      where
        same_at : (ts : List Ticket) (n : ℕ) (e : Ticket) → n < length ts → get_or ts n (get_or ts n e) ≡ get_or ts n e
        same_at [] n e inside = absurd (omega arith)
        same_at (x ∷ xs) zero e inside = refl
        same_at (x ∷ xs) (suc n) e inside = same_at xs n e (omega arith)

    by_word : can_be_granted (lock_kind h.book) h.book.granted h.book.waiting word t.session t.mode ≡ true
    by_word = by_bool h.obtrusive
        (λ up. can_be_granted-fast (counts up) h.book.granted h.book.waiting t.session t.mode of_others ∙ by_lists)
        (λ down.
        let none : has_obtrusive h.book ≡ false = sym exact.1 ∙ down in
        let plain : is_obtrusive (lock_kind h.book) t.mode ≡ false = none_any (λ (x : Ticket). is_obtrusive (lock_kind h.book) x.mode) h.book.waiting (or_parts _ _ none).1 waits_there.0 t waits_there.1 waits_there.2 in
        let g = and_parts (is_compatible (lock_kind h.book) (fast_at s place ++ h.book.granted) t.session t.mode) (goes_first (lock_kind h.book) h.book.waiting t.session t.mode) by_lists in
        let beside = granted_part (lock_kind h.book) (fast_at s place) h.book.granted t.session t.mode g.0 in
        and_from _ _ (and_from _ _ beside (unblocked (lock_kind h.book) word t.mode plain)) g.1)
      where
        granted_part : (k : Kind) (xs ys : List Ticket) (session : ℕ) (mode : Mode) → is_compatible k (xs ++ ys) session mode ≡ true → is_compatible k ys session mode ≡ true
        granted_part k [] ys session mode all = all
        granted_part k (x ∷ xs) ys session mode all = granted_part k xs ys session mode (and_parts (Rattle.mdl_book.specs.Granting.stands_beside k session mode x) (is_compatible k (xs ++ ys) session mode) all).1

    never : ⊥
    never = elim (looked t waits_there) [
      | inl settled ↦ settled unsettled
      | inr fails ↦ (let grants = by_word in absurd (cc))
    ]

  pub putting : NoneForgottenAt a key
  putting w among open_ grantable = never w among open_ grantable
