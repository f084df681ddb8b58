-- Lists of tickets put together in order of their numbers: what is in them, what is found in them, and what is the same before and after.
use Rattle.std.proofs.Common.{◌≡◌, ◌≢◌, ◌⊎◌, inl, inr, ℕ, ◌+◌, ◌<◌, ◌≤◌, ◌==◌, nat_lt, Bool, true, false, not, cond, List, [], ◌∷◌, ◌++◌, map, length, Some, None, refl, sym, ap, ◌∙◌, subst, arith, append_assoc, append-nil, Contains, Option, eqb-true, ltb-true, ltb-false, lt-ltb, le-ltb}
use Rattle.mdl_steps.proofs.Common.{Contains-cons_cases, Contains-here, Contains-later, Contains-none, Each, SessionTicket, filter, find, inserted, interleaved}
use Rattle.mdl_steps.proofs.Views.{by_bool, other}

-- the numbers of the tickets rise
abbrev pub Rising : List SessionTicket → Type 0
Rising [] = Unit {0}
Rising (t ∷ ts) = Each (λ (u : SessionTicket). t.number < u.number) ts × Rising ts

-- a ticket has another number than each of these
abbrev pub IsOther : SessionTicket → List SessionTicket → Type 0
IsOther t ts = Each (λ (u : SessionTicket). u.number ≢ t.number) ts

-- no two of the tickets have the same number
abbrev pub Differ : List SessionTicket → Type 0
Differ [] = Unit {0}
Differ (t ∷ ts) = IsOther t ts × Differ ts

-- no ticket of the first list has the number of one of the second
abbrev pub AreOthers : List SessionTicket → List SessionTicket → Type 0
AreOthers fast slow = Each (λ t. IsOther t slow) fast

-- at most one of the tickets passes a test
abbrev pub AtMostOne : (SessionTicket → Bool) → List SessionTicket → Type 0
AtMostOne p [] = Unit {0}
AtMostOne p (t ∷ ts) = (p t ≡ true → find p ts ≡ None) × AtMostOne p ts

-- what is above a number is above each smaller one
above_all : (t u : SessionTicket) (us : List SessionTicket) → t.number < u.number → Each (λ (x : SessionTicket). u.number < x.number) us → Each (λ (x : SessionTicket). t.number < x.number) us
above_all t u [] below all = tt
above_all t u (x ∷ xs) below all = ((let more = all.0 in omega arith), above_all t u xs below all.1)

-- and is another
above_other : (t : SessionTicket) (us : List SessionTicket) → Each (λ (u : SessionTicket). t.number < u.number) us → IsOther t us
above_other t [] all = tt
above_other t (u ∷ us) all = ((let less = all.0 in λ e. omega arith), above_other t us all.1)

-- ---- one ticket among others

-- it comes before those with greater numbers
pub inserted-before : (t u : SessionTicket) (us : List SessionTicket) → t.number < u.number → inserted t (u ∷ us) ≡ t ∷ u ∷ us
inserted-before t u us below = rw (lt-ltb t.number u.number below) refl

pub inserted-after : (t u : SessionTicket) (us : List SessionTicket) → u.number ≤ t.number → inserted t (u ∷ us) ≡ u ∷ inserted t us
inserted-after t u us above = rw (le-ltb t.number u.number above) refl

-- by cases on the order of two numbers
by_order : {P : Type 0} → (a b : ℕ) → (a < b → P) → (b ≤ a → P) → P
by_order a b below above = by_bool (nat_lt a b) (λ e. below (ltb-true a b e)) (λ e. above (ltb-false a b e))

-- first of all
pub inserted-first : (t : SessionTicket) (us : List SessionTicket) → Each (λ (u : SessionTicket). t.number < u.number) us → inserted t us ≡ t ∷ us
inserted-first t [] below = refl
inserted-first t (u ∷ us) below = inserted-before t u us below.0

-- and last of all
pub inserted-last : (t : SessionTicket) (us : List SessionTicket) → Each (λ (u : SessionTicket). u.number < t.number) us → inserted t us ≡ us ++ t ∷ []
inserted-last t [] above = refl
inserted-last t (u ∷ us) above = inserted-after t u us (let less = above.0 in omega arith) ∙ ap (λ xs. u ∷ xs) (inserted-last t us above.1)

-- what holds of it and of each other holds of each
pub each-inserted : (P : SessionTicket → Type 0) (t : SessionTicket) (us : List SessionTicket) → P t → Each P us → Each P (inserted t us)
each-inserted P t [] its all = (its, tt)
each-inserted P t (u ∷ us) its all = by_order t.number u.number
    (λ below. subst (Each P) (sym (inserted-before t u us below)) (its, all))
    (λ above. subst (Each P) (sym (inserted-after t u us above)) (all.0, each-inserted P t us its all.1))

pub each-uninserted : (P : SessionTicket → Type 0) (t : SessionTicket) (us : List SessionTicket) → Each P (inserted t us) → P t × Each P us
each-uninserted P t [] all = (all.0, tt)
each-uninserted P t (u ∷ us) all = by_order t.number u.number
    (λ below. let parts = subst (Each P) (inserted-before t u us below) all in (parts.0, parts.1))
    (λ above.
    let parts = subst (Each P) (inserted-after t u us above) all in
    let rest = each-uninserted P t us parts.1 in
    (rest.0, (parts.0, rest.1)))

-- a look-up that doesn't find it is as before
pub find-inserted_other : (p : SessionTicket → Bool) (t : SessionTicket) (us : List SessionTicket) → p t ≡ false → find p (inserted t us) ≡ find p us
find-inserted_other p t [] isnt = rw isnt refl
find-inserted_other p t (u ∷ us) isnt = by_order t.number u.number
    (λ below. ap (find p) (inserted-before t u us below) ∙ rw isnt refl)
    (λ above. ap (find p) (inserted-after t u us above) ∙ ap (λ o. cond (p u) (Some u) o) (find-inserted_other p t us isnt))

-- and where none of the others is found, it is
pub find-inserted_own : (p : SessionTicket → Bool) (t : SessionTicket) (us : List SessionTicket) → p t ≡ true → find p us ≡ None → find p (inserted t us) ≡ Some t
find-inserted_own p t [] is none = rw is refl
find-inserted_own p t (u ∷ us) is none = by_order t.number u.number
    (λ below. ap (find p) (inserted-before t u us below) ∙ rw is refl)
    (λ above. ap (find p) (inserted-after t u us above) ∙ by_bool (p u)
    (λ hit. let found = rw hit at none in absurd (cc))
    (λ miss. rw miss (find-inserted_own p t us is (rw miss at none))))

-- one that a filter drops leaves the filtered list as it was
pub filter-inserted_dropped : (p : SessionTicket → Bool) (t : SessionTicket) (us : List SessionTicket) → p t ≡ false → filter p (inserted t us) ≡ filter p us
filter-inserted_dropped p t [] isnt = rw isnt refl
filter-inserted_dropped p t (u ∷ us) isnt = by_order t.number u.number
    (λ below. ap (filter p) (inserted-before t u us below) ∙ rw isnt refl)
    (λ above. ap (filter p) (inserted-after t u us above) ∙ ap (λ xs. cond (p u) (u ∷ xs) xs) (filter-inserted_dropped p t us isnt))

-- ---- several among others

-- what holds of each of two lists holds of each that is in either
pub each-interleaved : (P : SessionTicket → Type 0) (slow fast : List SessionTicket) → Each P slow → Each P fast → Each P (interleaved slow fast)
each-interleaved P slow [] slows fasts = slows
each-interleaved P slow (f ∷ fast) slows fasts = each-interleaved P (inserted f slow) fast (each-inserted P f slow fasts.0 slows) fasts.1

pub each-uninterleaved : (P : SessionTicket → Type 0) (slow fast : List SessionTicket) → Each P (interleaved slow fast) → Each P slow × Each P fast
each-uninterleaved P slow [] all = (all, tt)
each-uninterleaved P slow (f ∷ fast) all =
    let parts = each-uninterleaved P (inserted f slow) fast all in
    let front = each-uninserted P f slow parts.0 in
    (front.1, (front.0, parts.1))

-- those that a filter drops leave the filtered list as it was
pub filter-interleaved_dropped : (p : SessionTicket → Bool) (slow fast : List SessionTicket) → Each (λ f. p f ≡ false) fast → filter p (interleaved slow fast) ≡ filter p slow
filter-interleaved_dropped p slow [] isnt = refl
filter-interleaved_dropped p slow (f ∷ fast) isnt = filter-interleaved_dropped p (inserted f slow) fast isnt.1 ∙ filter-inserted_dropped p f slow isnt.0

-- ---- look-ups

-- what is found in two lists is first looked for in the first
pub find-both : (p : SessionTicket → Bool) (xs ys zs : List SessionTicket) → find p xs ≡ find p ys → find p (xs ++ zs) ≡ find p (ys ++ zs)
find-both p xs ys zs same = split xs ∙ ap or_else same ∙ sym (split ys)
  where
    or_else : Option SessionTicket → Option SessionTicket
    or_else None = find p zs
    or_else (Some t) = Some t

    split : (us : List SessionTicket) → find p (us ++ zs) ≡ or_else (find p us)
    split [] = refl
    split (u ∷ us) = by_bool (p u)
        (λ is. rw is refl)
        (λ isnt. rw isnt (split us))

-- where one of the lists has nothing that is found, and the second no two, a look-up is that in the one list after the other
pub find-interleaved : (p : SessionTicket → Bool) (slow fast : List SessionTicket) → AtMostOne p fast → (find p slow ≡ None) ⊎ (find p fast ≡ None)
    → find p (interleaved slow fast) ≡ find p (slow ++ fast)
find-interleaved p slow [] single none = ap (find p) (sym (append-nil slow))
find-interleaved p slow (f ∷ fast) single none = by_bool (p f)
    (λ is. find-interleaved p (inserted f slow) fast single.1 (inr (single.0 is))
    ∙ find-both p (inserted f slow) (slow ++ f ∷ []) fast (hit is none)
    ∙ ap (find p) (append_assoc slow (f ∷ []) fast))
    (λ isnt. find-interleaved p (inserted f slow) fast single.1 (misses isnt none)
    ∙ find-both p (inserted f slow) (slow ++ f ∷ []) fast (find-inserted_other p f slow isnt ∙ sym (dropped isnt slow))
    ∙ ap (find p) (append_assoc slow (f ∷ []) fast))
  where
    dropped : p f ≡ false → (us : List SessionTicket) → find p (us ++ f ∷ []) ≡ find p us
    dropped isnt [] = rw isnt refl
    dropped isnt (u ∷ us) = ap (λ o. cond (p u) (Some u) o) (dropped isnt us)

    found_last : p f ≡ true → (us : List SessionTicket) → find p us ≡ None → find p (us ++ f ∷ []) ≡ Some f
    found_last is [] none = rw is refl
    found_last is (u ∷ us) none = by_bool (p u)
        (λ first. let found = rw first at none in absurd (cc))
        (λ miss. rw miss (found_last is us (rw miss at none)))

    hit : p f ≡ true → (find p slow ≡ None) ⊎ (find p (f ∷ fast) ≡ None) → find p (inserted f slow) ≡ find p (slow ++ f ∷ [])
    hit is (inl none) = find-inserted_own p f slow is none ∙ sym (found_last is slow none)
    hit is (inr none) = let found = rw is at none in absurd (cc)

    misses : p f ≡ false → (find p slow ≡ None) ⊎ (find p (f ∷ fast) ≡ None) → (find p (inserted f slow) ≡ None) ⊎ (find p fast ≡ None)
    misses isnt (inl none) = inl (find-inserted_other p f slow isnt ∙ none)
    misses isnt (inr none) = inr (rw isnt at none)

-- tickets whose numbers differ: at most one has a given number
pub numbered_once : (number : ℕ) (ts : List SessionTicket) → Differ ts → AtMostOne (λ t. t.number == number) ts
numbered_once number [] differ = tt
numbered_once number (t ∷ ts) differ = (
  λ is. others ts (subst (λ (n : ℕ). Each (λ (u : SessionTicket). u.number ≢ n) ts) (eqb-true t.number number is) differ.0),
  numbered_once number ts differ.1,
)
  where
    others : (us : List SessionTicket) → Each (λ (u : SessionTicket). u.number ≢ number) us → find (λ u. u.number == number) us ≡ None
    others [] differs = refl
    others (u ∷ us) differs = rw (other u.number number differs.0) (others us differs.1)

-- so a look-up by number is that in the one list after the other
pub numbered-interleaved : (number : ℕ) (slow fast : List SessionTicket) → Differ fast
    → (find (λ (t : SessionTicket). t.number == number) slow ≡ None) ⊎ (find (λ (t : SessionTicket). t.number == number) fast ≡ None)
    → find (λ (t : SessionTicket). t.number == number) (interleaved slow fast) ≡ find (λ (t : SessionTicket). t.number == number) (slow ++ fast)
numbered-interleaved number slow fast differ none = find-interleaved (λ t. t.number == number) slow fast (numbered_once number fast differ) none

-- ---- what is in them

pub Contains-inserted : (t : SessionTicket) (us : List SessionTicket) → Contains (inserted t us) t
Contains-inserted t [] = Contains-here t []
Contains-inserted t (u ∷ us) = by_order t.number u.number
    (λ below. subst (λ xs. Contains xs t) (sym (inserted-before t u us below)) (Contains-here t (u ∷ us)))
    (λ above. subst (λ xs. Contains xs t) (sym (inserted-after t u us above)) (Contains-later u (inserted t us) t (Contains-inserted t us)))

pub Contains-inserted_other : (t x : SessionTicket) (us : List SessionTicket) → Contains us x → Contains (inserted t us) x
Contains-inserted_other t x [] among = absurd (Contains-none x among)
Contains-inserted_other t x (u ∷ us) among = by_order t.number u.number
    (λ below. subst (λ xs. Contains xs x) (sym (inserted-before t u us below)) (Contains-later t (u ∷ us) x among))
    (λ above. subst (λ xs. Contains xs x) (sym (inserted-after t u us above)) (elim (Contains-cons_cases u us x among) [
      | inl later ↦ Contains-later u (inserted t us) x (Contains-inserted_other t x us later)
      | inr here ↦ subst (Contains (u ∷ inserted t us)) (sym here) (Contains-here u (inserted t us))
    ]))

pub Contains-interleaved_slow : (x : SessionTicket) (slow fast : List SessionTicket) → Contains slow x → Contains (interleaved slow fast) x
Contains-interleaved_slow x slow [] among = among
Contains-interleaved_slow x slow (f ∷ fast) among = Contains-interleaved_slow x (inserted f slow) fast (Contains-inserted_other f x slow among)

pub Contains-interleaved_fast : (x : SessionTicket) (slow fast : List SessionTicket) → Contains fast x → Contains (interleaved slow fast) x
Contains-interleaved_fast x slow [] among = absurd (Contains-none x among)
Contains-interleaved_fast x slow (f ∷ fast) among = elim (Contains-cons_cases f fast x among) [
  | inl later ↦ Contains-interleaved_fast x (inserted f slow) fast later
  | inr here ↦ subst (Contains (interleaved (inserted f slow) fast)) (sym here) (Contains-interleaved_slow f (inserted f slow) fast (Contains-inserted f slow))
]

pub Contains-interleaved_cases : (x : SessionTicket) (slow fast : List SessionTicket) → Contains (interleaved slow fast) x → Contains slow x ⊎ Contains fast x
Contains-interleaved_cases x slow fast among = each_contained (λ u. Contains slow u ⊎ Contains fast u) (interleaved slow fast) all x among
  where
    slows : (us : List SessionTicket) → ((u : SessionTicket) → Contains us u → Contains slow u) → Each (λ u. Contains slow u ⊎ Contains fast u) us
    slows [] within = tt
    slows (u ∷ us) within = (inl (within u (Contains-here u us)), slows us (λ v later. within v (Contains-later u us v later)))

    fasts : (us : List SessionTicket) → ((u : SessionTicket) → Contains us u → Contains fast u) → Each (λ u. Contains slow u ⊎ Contains fast u) us
    fasts [] within = tt
    fasts (u ∷ us) within = (inr (within u (Contains-here u us)), fasts us (λ v later. within v (Contains-later u us v later)))

    all : Each (λ u. Contains slow u ⊎ Contains fast u) (interleaved slow fast)
    all = each-interleaved (λ u. Contains slow u ⊎ Contains fast u) slow fast (slows slow (λ u among. among)) (fasts fast (λ u among. among))

    each_contained : (P : SessionTicket → Type 0) (us : List SessionTicket) → Each P us → (u : SessionTicket) → Contains us u → P u
    each_contained P [] each u among = absurd (Contains-none u among)
    each_contained P (v ∷ us) each u among = elim (Contains-cons_cases v us u among) [
      | inl later ↦ each_contained P us each.1 u later
      | inr here ↦ subst P (sym here) each.0
    ]

-- ---- one after the other

-- one with a greater number than those among which others are put comes after them
inserted-push : (t u : SessionTicket) (us : List SessionTicket) → t.number < u.number → inserted t (us ++ u ∷ []) ≡ inserted t us ++ u ∷ []
inserted-push t u [] below = inserted-before t u [] below
inserted-push t u (v ∷ us) below = by_order t.number v.number
    (λ first. inserted-before t v (us ++ u ∷ []) first ∙ ap (λ xs. xs ++ u ∷ []) (sym (inserted-before t v us first)))
    (λ after. inserted-after t v (us ++ u ∷ []) after ∙ ap (λ xs. v ∷ xs) (inserted-push t u us below) ∙ ap (λ xs. xs ++ u ∷ []) (sym (inserted-after t v us after)))

pub interleaved-push_slow : (t : SessionTicket) (slow fast : List SessionTicket) → Each (λ (f : SessionTicket). f.number < t.number) fast → interleaved (slow ++ t ∷ []) fast ≡ interleaved slow fast ++ t ∷ []
interleaved-push_slow t slow [] below = refl
interleaved-push_slow t slow (f ∷ fast) below = ap (λ xs. interleaved xs fast) (inserted-push f t slow below.0) ∙ interleaved-push_slow t (inserted f slow) fast below.1

pub interleaved-push_fast : (t : SessionTicket) (slow fast : List SessionTicket) → Each (λ (u : SessionTicket). u.number < t.number) slow → Each (λ (f : SessionTicket). f.number < t.number) fast
    → interleaved slow (fast ++ t ∷ []) ≡ interleaved slow fast ++ t ∷ []
interleaved-push_fast t slow [] slows fasts = inserted-last t slow slows
interleaved-push_fast t slow (f ∷ fast) slows fasts = interleaved-push_fast t (inserted f slow) fast (each-inserted (λ u. u.number < t.number) f slow fasts.0 slows) fasts.1

-- one with a smaller number comes before them
pub interleaved-cons : (t : SessionTicket) (slow fast : List SessionTicket) → Each (λ (f : SessionTicket). t.number < f.number) fast → interleaved (t ∷ slow) fast ≡ t ∷ interleaved slow fast
interleaved-cons t slow [] above = refl
interleaved-cons t slow (f ∷ fast) above =
    ap (λ xs. interleaved xs fast) (inserted-after f t slow (let less = above.0 in omega arith)) ∙ interleaved-cons t (inserted f slow) fast above.1

-- ---- changed and filtered

-- tickets that are changed, but for their numbers
module _ (f : SessionTicket → SessionTicket) (keeps : (t : SessionTicket) → (f t).number ≡ t.number) where
  map-inserted : (t : SessionTicket) (us : List SessionTicket) → map f (inserted t us) ≡ inserted (f t) (map f us)
  map-inserted t [] = refl
  map-inserted t (u ∷ us) = by_order t.number u.number
      (λ below. ap (map f) (inserted-before t u us below) ∙ sym (inserted-before (f t) (f u) (map f us) (let own = keeps t in let its = keeps u in omega arith)))
      (λ above. ap (map f) (inserted-after t u us above) ∙ ap (λ xs. f u ∷ xs) (map-inserted t us)
      ∙ sym (inserted-after (f t) (f u) (map f us) (let own = keeps t in let its = keeps u in omega arith)))

  pub map-interleaved : (slow fast : List SessionTicket) → map f (interleaved slow fast) ≡ interleaved (map f slow) (map f fast)
  map-interleaved slow [] = refl
  map-interleaved slow (t ∷ fast) = map-interleaved (inserted t slow) fast ∙ ap (λ xs. interleaved xs (map f fast)) (map-inserted t slow)

-- what holds of each holds of those that a filter keeps
pub each-filtered : (P : SessionTicket → Type 0) (p : SessionTicket → Bool) (ts : List SessionTicket) → Each P ts → Each P (filter p ts)
each-filtered P p [] all = tt
each-filtered P p (t ∷ ts) all = by_bool (p t)
    (λ is. rw is (all.0, each-filtered P p ts all.1))
    (λ isnt. rw isnt (each-filtered P p ts all.1))

-- one that a filter keeps is put among those that it keeps
filter-inserted_kept : (p : SessionTicket → Bool) (t : SessionTicket) (us : List SessionTicket) → Rising us → p t ≡ true → filter p (inserted t us) ≡ inserted t (filter p us)
filter-inserted_kept p t [] rising is = rw is refl
filter-inserted_kept p t (u ∷ us) rising is = by_order t.number u.number
    (λ below.
    let above = each-filtered (λ x. t.number < x.number) p (u ∷ us) (below, above_all t u us below rising.0) in
    ap (filter p) (inserted-before t u us below) ∙ rw is (sym (inserted-first t (filter p (u ∷ us)) above)))
    (λ above. ap (filter p) (inserted-after t u us above) ∙ by_bool (p u)
    (λ kept. rw kept (ap (λ xs. u ∷ xs) (filter-inserted_kept p t us rising.1 is) ∙ sym (inserted-after t u (filter p us) above)))
    (λ dropped. rw dropped (filter-inserted_kept p t us rising.1 is)))

-- ---- numbers that rise

rising-uninserted : (t : SessionTicket) (us : List SessionTicket) → Rising (inserted t us) → Rising us × IsOther t us
rising-uninserted t [] rising = (tt, tt)
rising-uninserted t (u ∷ us) rising = by_order t.number u.number
    (λ below. (let rises = subst Rising (inserted-before t u us below) rising in (rises.1, above_other t (u ∷ us) rises.0)))
    (λ above.
    let rises = subst Rising (inserted-after t u us above) rising in
    let parts = each-uninserted (λ (x : SessionTicket). u.number < x.number) t us rises.0 in
    let rest = rising-uninserted t us rises.1 in
    ((parts.1, rest.0), ((let less = parts.0 in λ e. omega arith), rest.1)))

-- where the numbers of all of them rise, those of the first list do, and no two have the same number
pub rising-uninterleaved : (slow fast : List SessionTicket) → Rising (interleaved slow fast) → Rising slow × Differ fast × AreOthers fast slow
rising-uninterleaved slow [] rising = (rising, tt, tt)
rising-uninterleaved slow (f ∷ fast) rising =
    let rest = rising-uninterleaved (inserted f slow) fast rising in
    let front = rising-uninserted f slow rest.0 in
    let parts = apart fast rest.2 in
    (front.0, (parts.0, rest.1), (front.1, parts.1))
  where
    apart : (gs : List SessionTicket) → AreOthers gs (inserted f slow) → IsOther f gs × AreOthers gs slow
    apart [] others = (tt, tt)
    apart (g ∷ gs) others =
        let here = each-uninserted (λ (u : SessionTicket). u.number ≢ g.number) f slow others.0 in
        let rest = apart gs others.1 in
        (((λ e. here.0 (sym e)), rest.0), (here.1, rest.1))

-- those that a filter keeps rise
pub rising-filtered : (p : SessionTicket → Bool) (ts : List SessionTicket) → Rising ts → Rising (filter p ts)
rising-filtered p [] rising = tt
rising-filtered p (t ∷ ts) rising = by_bool (p t)
    (λ is. rw is (each-filtered (λ (u : SessionTicket). t.number < u.number) p ts rising.0, rising-filtered p ts rising.1))
    (λ isnt. rw isnt (rising-filtered p ts rising.1))

-- those that a filter keeps of both are put together as they were
pub filter-interleaved : (p : SessionTicket → Bool) (slow fast : List SessionTicket) → Rising (interleaved slow fast) → filter p (interleaved slow fast) ≡ interleaved (filter p slow) (filter p fast)
filter-interleaved p slow [] rising = refl
filter-interleaved p slow (f ∷ fast) rising =
    filter-interleaved p (inserted f slow) fast rising ∙ by_bool (p f)
    (λ is. rw is (ap (λ xs. interleaved xs (filter p fast)) (filter-inserted_kept p f slow slows is)))
    (λ isnt. rw isnt (ap (λ xs. interleaved xs (filter p fast)) (filter-inserted_dropped p f slow isnt)))
  where
    slows : Rising slow
    slows = (rising-uninterleaved slow (f ∷ fast) rising).0

-- ---- parted and put together

-- two tickets with different numbers may be put among others in either order
inserted-inserted : (t u : SessionTicket) (us : List SessionTicket) → u.number ≢ t.number → inserted t (inserted u us) ≡ inserted u (inserted t us)
inserted-inserted t u [] differs = by_order t.number u.number
    (λ below. inserted-before t u [] below ∙ sym (inserted-after u t [] (omega arith)))
    (λ above. inserted-after t u [] above ∙ sym (inserted-before u t [] (omega arith)))
inserted-inserted t u (x ∷ us) differs = by_order t.number x.number
    (λ t_first. by_order u.number x.number
    (λ u_first. ap (inserted t) (inserted-before u x us u_first) ∙ by_order t.number u.number
    (λ below. inserted-before t u (x ∷ us) below
    ∙ sym (ap (inserted u) (inserted-before t x us t_first) ∙ inserted-after u t (x ∷ us) (omega arith) ∙ ap (λ xs. t ∷ xs) (inserted-before u x us u_first)))
    (λ above. inserted-after t u (x ∷ us) above ∙ ap (λ xs. u ∷ xs) (inserted-before t x us t_first)
    ∙ sym (ap (inserted u) (inserted-before t x us t_first) ∙ inserted-before u t (x ∷ us) (omega arith))))
    (λ u_after. ap (inserted t) (inserted-after u x us u_after) ∙ inserted-before t x (inserted u us) t_first
    ∙ sym (ap (inserted u) (inserted-before t x us t_first) ∙ inserted-after u t (x ∷ us) (omega arith) ∙ ap (λ xs. t ∷ xs) (inserted-after u x us u_after))))
    (λ t_after. by_order u.number x.number
    (λ u_first. ap (inserted t) (inserted-before u x us u_first) ∙ inserted-after t u (x ∷ us) (omega arith) ∙ ap (λ xs. u ∷ xs) (inserted-after t x us t_after)
    ∙ sym (ap (inserted u) (inserted-after t x us t_after) ∙ inserted-before u x (inserted t us) u_first))
    (λ u_after. ap (inserted t) (inserted-after u x us u_after) ∙ inserted-after t x (inserted u us) t_after ∙ ap (λ xs. x ∷ xs) (inserted-inserted t u us differs)
    ∙ sym (ap (inserted u) (inserted-after t x us t_after) ∙ inserted-after u x (inserted t us) u_after)))

pub inserted-interleaved : (t : SessionTicket) (slow fast : List SessionTicket) → IsOther t fast → inserted t (interleaved slow fast) ≡ interleaved (inserted t slow) fast
inserted-interleaved t slow [] others = refl
inserted-interleaved t slow (f ∷ fast) others =
    inserted-interleaved t (inserted f slow) fast others.1 ∙ ap (λ xs. interleaved xs fast) (inserted-inserted t f slow others.0)

-- to put first some of them among the others, and then the rest, is to put in all of them
pub interleaved-moved : (p : SessionTicket → Bool) (slow fast : List SessionTicket) → Differ fast
    → interleaved (interleaved slow (filter p fast)) (filter (λ t. not (p t)) fast) ≡ interleaved slow fast
interleaved-moved p slow [] differ = refl
interleaved-moved p slow (f ∷ fast) differ = by_bool (p f)
    (λ is. rw is (interleaved-moved p (inserted f slow) fast differ.1))
    (λ isnt. rw isnt (ap (λ xs. interleaved xs (filter (λ t. not (p t)) fast)) (inserted-interleaved f slow (filter p fast) (each-filtered (λ (u : SessionTicket). u.number ≢ f.number) p fast differ.0))
    ∙ interleaved-moved p (inserted f slow) fast differ.1))

-- ---- how many they are

length-inserted : (t : SessionTicket) (us : List SessionTicket) → length (inserted t us) ≡ length us + 1
length-inserted t [] = refl
length-inserted t (u ∷ us) = by_order t.number u.number
    (λ below. ap length (inserted-before t u us below) ∙ omega arith)
    (λ above. ap length (inserted-after t u us above) ∙ (let rest = length-inserted t us in omega arith))

pub length-interleaved : (slow fast : List SessionTicket) → length (interleaved slow fast) ≡ length slow + length fast
length-interleaved slow [] = omega arith
length-interleaved slow (f ∷ fast) = (let rest = length-interleaved (inserted f slow) fast in let one = length-inserted f slow in omega arith)
