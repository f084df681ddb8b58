-- A wish that can't be granted by the record isn't grantable in the system.
use Rattle.std.proofs.Common.{◌≡◌, ℕ, ◌<◌, true, false, List, [], ◌∷◌, ◌++◌, map, get_or, Some, sym, ap, ◌∙◌, subst}
use Rattle.mdl_steps_laws.proofs.FirstLemmas.{AreOfOthers, BookView, Contains-get_or, CountsFastTickets, Definition, IsGrantable, IsKeyAt, IsTold, KeyName, Kind, LatchRecord, Mine, Mode, Rule, Slot, State, System, Ticket, View, Waiter, and_from, and_parts, at_map, by_bool, can_be_granted, can_be_granted-fast, fast_at, get_elem?, goes_first, grantable-by_lists, granted_of, held_at, is_compatible, is_grantable, is_obtrusive, kind_of, lock_kind, same_keys, some, some-injective, stands_beside, waits}
use Rattle.mdl_steps_laws.proofs.FastRests.{fast_owner}
use Rattle.mdl_steps_laws.proofs.Puttings.{unblocked}

granted_part : (k : Kind) (xs ys : List Ticket) (session : ℕ) (mode : Mode) → is_compatible k (xs ++ ys) session mode ≡ true → is_compatible k ys session mode ≡ true
granted_part k [] ys session mode all = all
granted_part k (x ∷ xs) ys session mode all = granted_part k xs ys session mode (and_parts (stands_beside k session mode x) (is_compatible k (xs ++ ys) session mode) all).1

module _ (s : State Slot View) (r : Rule s) (place : ℕ) (key : KeyName) (is_key : IsKeyAt s place key) (id : ℕ) (m : Mine) (seat : get_elem? s.views id ≡ some m.0)
    (some_number : 0 < m.0.number) (h : LatchRecord) (has : held_at place m.0.latches ≡ Some h) (unfast : m.0.fast ≡ [])
    (word : ℕ) (counts : h.obtrusive ≡ true → CountsFastTickets (lock_kind h.book) word (fast_at s place)) (mode : Mode)
    (plain : h.obtrusive ≡ false → is_obtrusive (lock_kind h.book) mode ≡ false) (blocked : can_be_granted (lock_kind h.book) h.book.granted h.book.waiting word m.0.number mode ≡ false)
    (a : System Definition) (told : IsTold s a) (grantable : IsGrantable a m.0.number key mode) where
  at : get_elem? told.1.keys is_key.2.0 ≡ some key
  at = subst (λ (ks : List KeyName). get_elem? ks is_key.2.0 ≡ some key) (same_keys s r is_key.0 is_key.1 ∙ sym (same_keys s r told.1.keys told.1.keys_are)) is_key.2.2

  book : h.book ≡ (told.0 key).book
  book = (told.1.book_is is_key.2.0 key at).taken id m.0 seat h (subst (λ (p : ℕ). held_at p m.0.latches ≡ Some h) is_key.2.1 has)

  fast : fast_at s place ≡ (told.0 key).fast
  fast = ap (fast_at s) is_key.2.1 ∙ sym (told.1.fast_are is_key.2.0 key at)

  kind : lock_kind h.book ≡ kind_of key.namespace
  kind = ap lock_kind book ∙ ap (λ (k : KeyName). kind_of k.namespace) (told.2.keyed key)

  by_lists : is_grantable (lock_kind h.book) (fast_at s place ++ h.book.granted) h.book.waiting m.0.number mode ≡ true
  by_lists =
      let g = (grantable-by_lists a (λ k. granted_of (told.0 k)) told.2.granted m.0.number key mode).0 grantable in
      subst (λ (k : Kind). is_grantable k (fast_at s place ++ h.book.granted) h.book.waiting m.0.number mode ≡ true) (sym kind)
      (subst (λ (ts : List Ticket). is_grantable (kind_of key.namespace) (fast_at s place ++ h.book.granted) ts m.0.number mode ≡ true) (told.2.waiting key ∙ ap (λ (b : BookView). b.waiting) (sym book))
      (subst (λ (ts : List Ticket). is_grantable (kind_of key.namespace) ts (map (λ (x : Waiter). x.ticket) (a.waiting key)) m.0.number mode ≡ true)
      (λ j. sym fast j ++ (sym book j).granted) g))

  of_others : AreOfOthers m.0.number (fast_at s place)
  of_others k d inside own =
      let its = fast_owner (waits s) place s.views (get_or (fast_at s place) k d) (Contains-get_or (fast_at s place) k d inside) in
      let same : its.0 ≡ id = r.enrolled.apart its.0 id m.0.number
      (at_map (λ (x : View). x.number) s.views its.0 its.1 its.2 ∙ ap (λ (n : ℕ). some n) (its.3 ∙ own))
      (at_map (λ (x : View). x.number) s.views id m.0 seat) some_number in
      let mine : its.1 ≡ m.0 = some-injective its.1 m.0 (sym (subst (λ (j : ℕ). get_elem? s.views j ≡ some its.1) same its.2) ∙ seat) in
      its.4 (ap (λ (v : View). v.fast) mine ∙ unfast)

  by_word : can_be_granted (lock_kind h.book) h.book.granted h.book.waiting word m.0.number mode ≡ true
  by_word = by_bool h.obtrusive
      (λ up. can_be_granted-fast (counts up) h.book.granted h.book.waiting m.0.number mode of_others ∙ by_lists)
      (λ down.
      let g = and_parts (is_compatible (lock_kind h.book) (fast_at s place ++ h.book.granted) m.0.number mode) (goes_first (lock_kind h.book) h.book.waiting m.0.number mode) by_lists in
      and_from _ _ (and_from _ _ (granted_part (lock_kind h.book) (fast_at s place) h.book.granted m.0.number mode g.0) (unblocked (lock_kind h.book) word mode (plain down))) g.1)

  pub for_cause : ⊥
  for_cause = let grants = by_word in absurd (cc)
