-- What a session has in all, as its slow tickets or its fast ones change.
use Rattle.std.proofs.Common.{◌≡◌, ℕ, ◌<◌, ◌==◌, true, false, not, nat_lt, Bool, List, [], ◌∷◌, ◌++◌, map, filter, is_some, if◌then◌else◌, Option, Some, None, refl, sym, ap, subst, ◌∙◌, arith, eqb-true, ltb-true}
use Rattle.mdl_shared.proofs.Common.{Alter, AreOthers, Deed, Each, Gain, Held, IsOther, KnownKey, Lose, Mode, Rising, SessionTicket, View, all_owned, and_from, and_parts, are_below_next, are_counted, are_rising, as_held, but_at, but_own, by_bool, each-interleaved, each-uninterleaved, false≢true, filter-interleaved, find-inserted_other, in_mode_at, increment_at, inserted, interleaved, interleaved-moved, interleaved-push_fast, interleaved-push_slow, is_no_number, is_own, list_all, map-interleaved, not-true, note_at, noting_version, numbered, option_and_then, own_at, owned, rising-filtered, rising-uninterleaved, tickets_seen, without_at}

-- ---- tests of numbers, as they are said of lists

below-each : (number : ℕ) (tickets : List SessionTicket) → are_below_next number tickets ≡ true → Each (λ (t : SessionTicket). t.number < number) tickets
below-each number [] all = tt
below-each number (t ∷ ts) all =
    let parts = and_parts (nat_lt t.number number) (are_below_next number ts) all in (ltb-true t.number number parts.0, below-each number ts parts.1)

rising-above : (t : SessionTicket) (tickets : List SessionTicket) → list_all (λ (h : Held). nat_lt t.number h.id) (map as_held tickets) ≡ true → Each (λ (u : SessionTicket). t.number < u.number) tickets
rising-above t [] all = tt
rising-above t (u ∷ us) all =
    let parts = and_parts (nat_lt t.number u.number) (list_all (λ (h : Held). nat_lt t.number h.id) (map as_held us)) all in
    (ltb-true t.number u.number parts.0, rising-above t us parts.1)

-- tickets whose numbers rise as they are told
pub rising-told : (tickets : List SessionTicket) → are_rising (map as_held tickets) ≡ true → Rising tickets
rising-told [] rising = tt
rising-told (t ∷ ts) rising =
    let parts = and_parts (list_all (λ (h : Held). nat_lt t.number h.id) (map as_held ts)) (are_rising (map as_held ts)) rising in
    (rising-above t ts parts.0, rising-told ts parts.1)

-- a ticket among others has none of their numbers
other-among : (id : ℕ) (t : SessionTicket) (tickets fast : List SessionTicket) → numbered id tickets ≡ Some t → AreOthers fast tickets → is_no_number id fast ≡ true
other-among id t tickets [] its others = refl
other-among id t tickets (f ∷ fs) its others = and_from _ _ (apart tickets its others.0) (other-among id t tickets fs its others.1)
  where
    apart : (us : List SessionTicket) → numbered id us ≡ Some t → IsOther f us → not (f.number == id) ≡ true
    apart [] e other = absurd (cc)
    apart (u ∷ us) e other =
        by_bool (u.number == id)
        (λ hit.
        let is = eqb-true u.number id hit in
        by_bool (f.number == id) (λ same. absurd (other.0 (is ∙ sym (eqb-true f.number id same)))) (λ differ. rw differ refl))
        (λ miss. apart us (rw miss at e) other.1)

-- where the numbers of all tickets rise, no fast one has the number of a slow one
pub apart-numbers : (id : ℕ) (t : SessionTicket) (slow fast : List SessionTicket) → Rising (interleaved slow fast) → numbered id slow ≡ Some t → is_no_number id fast ≡ true
apart-numbers id t slow fast rising its = other-among id t slow fast its (rising-uninterleaved slow fast rising).2

-- and no slow one that of a fast one
pub numbers-apart : (id : ℕ) (t : SessionTicket) (slow fast : List SessionTicket) → Rising (interleaved slow fast) → numbered id fast ≡ Some t → is_no_number id slow ≡ true
numbers-apart id t slow fast rising its = by fast its (rising-uninterleaved slow fast rising).2
  where
    others : (f : SessionTicket) (us : List SessionTicket) → IsOther f us → f.number ≡ id → is_no_number id us ≡ true
    others f [] other is = refl
    others f (u ∷ us) other is =
        by_bool (u.number == id)
        (λ same. absurd (other.0 (eqb-true u.number id same ∙ sym is)))
        (λ differ. and_from _ _ (rw differ refl) (others f us other.1 is))

    by : (fs : List SessionTicket) → numbered id fs ≡ Some t → AreOthers fs slow → is_no_number id slow ≡ true
    by [] e other = absurd (cc)
    by (f ∷ fs) e other = by_bool (f.number == id) (λ hit. others f slow other.0 (eqb-true f.number id hit)) (λ miss. by fs (rw miss at e) other.1)

-- a test that all pass is passed by the slow ones and by the fast ones
each-test : (test : SessionTicket → Bool) (tickets : List SessionTicket) → list_all test tickets ≡ true → Each (λ t. test t ≡ true) tickets
each-test test [] all = tt
each-test test (t ∷ ts) all = let parts = and_parts (test t) (list_all test ts) all in (parts.0, each-test test ts parts.1)

test-each : (test : SessionTicket → Bool) (tickets : List SessionTicket) → Each (λ t. test t ≡ true) tickets → list_all test tickets ≡ true
test-each test [] each = refl
test-each test (t ∷ ts) each = and_from _ _ each.0 (test-each test ts each.1)

pub all-parts : (test : SessionTicket → Bool) (slow fast : List SessionTicket) → list_all test (interleaved slow fast) ≡ true → (list_all test slow ≡ true) × (list_all test fast ≡ true)
all-parts test slow fast all =
    let parts = each-uninterleaved (λ t. test t ≡ true) slow fast (each-test test (interleaved slow fast) all) in
    (test-each test slow parts.0, test-each test fast parts.1)

-- ---- a deed that leaves the fast tickets alone

-- these deeds, done to the slow tickets, are done to the tickets in all
abbrev pub DoesSlow : ℕ → List Deed → View → Type 0
DoesSlow place ds v = interleaved (all_owned place ds v.slow) v.fast ≡ all_owned place ds (tickets_seen v)

-- of a session without fast tickets
pub does-alone : (place : ℕ) (ds : List Deed) (v : View) → v.fast ≡ [] → DoesSlow place ds v
does-alone place ds v none =
    subst (λ (fast : List SessionTicket). interleaved (all_owned place ds v.slow) fast ≡ all_owned place ds (interleaved v.slow fast)) (sym none) refl

-- where a ticket is gained no fast one is at its place, and its number is above all; one that changes, or goes, has another number than each of the fast ones
abbrev pub LeavesFast : ℕ → Deed → List SessionTicket → List SessionTicket → Type 0
LeavesFast place (Gain number mode) slow fast = (own_at place fast ≡ []) × (are_below_next number (interleaved slow fast) ≡ true)
LeavesFast place (Alter number mode) slow fast = is_no_number number fast ≡ true
LeavesFast place (Lose number) slow fast = is_no_number number fast ≡ true

-- the note of a place is that of its slow tickets, where no fast one is there
pub note-slow : (place : ℕ) (slow fast : List SessionTicket) → own_at place fast ≡ [] → note_at place (interleaved slow fast) ≡ note_at place slow
note-slow place slow [] none = refl
note-slow place slow (f ∷ fs) none =
    by_bool (f.place == place)
    (λ here. let no = rw here at none in absurd (cc))
    (λ there. note-slow place (inserted f slow) fs (rw there at none) ∙ ap (λ o. option_and_then (λ (t : SessionTicket). t.noted) o) (find-inserted_other (λ (t : SessionTicket). t.place == place) f slow there))

-- those without a number stay as the ticket of it changes, or goes
is-other : (place number : ℕ) (t : SessionTicket) → not (t.number == number) ≡ true → is_own place number t ≡ false
is-other place number t differs = by_bool (t.place == place) (λ here. rw here (not-true (t.number == number) differs)) (λ there. rw there refl)

same-modes : (place number : ℕ) (mode : Mode) (tickets : List SessionTicket) → is_no_number number tickets ≡ true → in_mode_at place number mode tickets ≡ tickets
same-modes place number mode [] none = refl
same-modes place number mode (t ∷ ts) none =
    let parts = and_parts (not (t.number == number)) (is_no_number number ts) none in
    rw (is-other place number t parts.0) (ap (λ us. t ∷ us) (same-modes place number mode ts parts.1))

pub none-struck : (place number : ℕ) (tickets : List SessionTicket) → is_no_number number tickets ≡ true → without_at place number tickets ≡ tickets
none-struck place number [] none = refl
none-struck place number (t ∷ ts) none =
    let parts = and_parts (not (t.number == number)) (is_no_number number ts) none in
    rw (is-other place number t parts.0) (ap (λ us. t ∷ us) (none-struck place number ts parts.1))

-- none is found by it
pub none-numbered : (number : ℕ) (tickets : List SessionTicket) → is_no_number number tickets ≡ true → numbered number tickets ≡ None
none-numbered number [] none = refl
none-numbered number (t ∷ ts) none =
    let parts = and_parts (not (t.number == number)) (is_no_number number ts) none in
    rw (not-true (t.number == number) parts.0) (none-numbered number ts parts.1)

moded-number : (place number : ℕ) (mode : Mode) (t : SessionTicket) → ◌≡◌ {A = ℕ} (if is_own place number t then record t { mode = mode } else t).number t.number
moded-number place number mode t = by_bool (is_own place number t) (λ own. rw own refl) (λ other. rw other refl)

pub owned-slow : (place : ℕ) (d : Deed) (slow fast : List SessionTicket) → Rising (interleaved slow fast) → LeavesFast place d slow fast
    → interleaved (owned place d slow) fast ≡ owned place d (interleaved slow fast)
owned-slow place (Gain number mode) slow fast rising leaves =
    let t : SessionTicket = record { number = number; place = place; mode = mode; noted = note_at place slow } in
    interleaved-push_slow t slow fast (each-uninterleaved (λ (u : SessionTicket). u.number < number) slow fast (below-each number (interleaved slow fast) leaves.1)).1
    ∙ ap (λ (n : Option ℕ). interleaved slow fast ++ record { number = number; place = place; mode = mode; noted = n } ∷ []) (sym (note-slow place slow fast leaves.0))
owned-slow place (Alter number mode) slow fast rising leaves =
    ap (interleaved (in_mode_at place number mode slow)) (sym (same-modes place number mode fast leaves))
    ∙ sym (map-interleaved (λ (t : SessionTicket). if is_own place number t then record t { mode = mode } else t) (moded-number place number mode) slow fast)
owned-slow place (Lose number) slow fast rising leaves =
    ap (interleaved (without_at place number slow)) (sym (none-struck place number fast leaves))
    ∙ sym (filter-interleaved (λ (t : SessionTicket). not (is_own place number t)) slow fast rising)

-- ---- several deeds

-- each leaves the fast tickets alone
abbrev pub AllLeaveFast : ℕ → List Deed → List SessionTicket → List SessionTicket → Type 0
AllLeaveFast place [] slow fast = Unit {0}
AllLeaveFast place (d ∷ ds) slow fast = LeavesFast place d slow fast × AllLeaveFast place ds (owned place d slow) fast

rising-push : (t : SessionTicket) (tickets : List SessionTicket) → Rising tickets → Each (λ (u : SessionTicket). u.number < t.number) tickets → Rising (tickets ++ t ∷ [])
rising-push t [] rising below = (tt, tt)
rising-push t (u ∷ us) rising below = (each_and us rising.0, rising-push t us rising.1 below.1)
  where
    each_and : (xs : List SessionTicket) → Each (λ (x : SessionTicket). u.number < x.number) xs → Each (λ (x : SessionTicket). u.number < x.number) (xs ++ t ∷ [])
    each_and [] above = (below.0, tt)
    each_and (x ∷ xs) above = (above.0, each_and xs above.1)

rising-moded : (place number : ℕ) (mode : Mode) (tickets : List SessionTicket) → Rising tickets → Rising (in_mode_at place number mode tickets)
rising-moded place number mode [] rising = tt
rising-moded place number mode (t ∷ ts) rising = (above ts rising.0, rising-moded place number mode ts rising.1)
  where
    above : (us : List SessionTicket) → Each (λ (u : SessionTicket). t.number < u.number) us
        → Each (λ (u : SessionTicket). (if is_own place number t then record t { mode = mode } else t).number < u.number) (in_mode_at place number mode us)
    above [] all = tt
    above (u ∷ us) all =
        let mine = moded-number place number mode t in
        let its = moded-number place number mode u in
        let less = all.0 in
        (omega arith, above us all.1)

rising-owned : (place : ℕ) (d : Deed) (slow fast : List SessionTicket) → Rising (interleaved slow fast) → LeavesFast place d slow fast → Rising (owned place d (interleaved slow fast))
rising-owned place (Gain number mode) slow fast rising leaves = rising-push _ (interleaved slow fast) rising (below-each number (interleaved slow fast) leaves.1)
rising-owned place (Alter number mode) slow fast rising leaves = rising-moded place number mode (interleaved slow fast) rising
rising-owned place (Lose number) slow fast rising leaves = rising-filtered (λ (t : SessionTicket). not (is_own place number t)) (interleaved slow fast) rising

pub all-owned-slow : (place : ℕ) (ds : List Deed) (slow fast : List SessionTicket) → Rising (interleaved slow fast) → AllLeaveFast place ds slow fast
    → interleaved (all_owned place ds slow) fast ≡ all_owned place ds (interleaved slow fast)
all-owned-slow place [] slow fast rising leaves = refl
all-owned-slow place (d ∷ ds) slow fast rising leaves =
    let first = owned-slow place d slow fast rising leaves.0 in
    all-owned-slow place ds (owned place d slow) fast (subst Rising (sym first) (rising-owned place d slow fast rising leaves.0)) leaves.1
    ∙ ap (all_owned place ds) first

-- ---- changes of the fast tickets

-- a new one is the last of all
pub gained-fast : (t : SessionTicket) (slow fast : List SessionTicket) → are_below_next t.number (interleaved slow fast) ≡ true → interleaved slow (fast ++ t ∷ []) ≡ interleaved slow fast ++ t ∷ []
gained-fast t slow fast below =
    let parts = each-uninterleaved (λ (u : SessionTicket). u.number < t.number) slow fast (below-each t.number (interleaved slow fast) below) in
    interleaved-push_fast t slow fast parts.0 parts.1

-- the one of a number goes
pub released-fast : (place number : ℕ) (slow fast : List SessionTicket) → Rising (interleaved slow fast) → is_no_number number slow ≡ true
    → interleaved slow (but_own place number fast) ≡ without_at place number (interleaved slow fast)
released-fast place number slow fast rising none =
    ap (λ (ts : List SessionTicket). interleaved ts (but_own place number fast)) (sym (none-struck place number slow none))
    ∙ sym (filter-interleaved (λ (t : SessionTicket). not (is_own place number t)) slow fast rising)

-- those of a place become slow ones
pub made-slow : (place : ℕ) (slow fast : List SessionTicket) → Rising (interleaved slow fast)
    → interleaved (interleaved slow (own_at place fast)) (but_at place fast) ≡ interleaved slow fast
made-slow place slow fast rising = interleaved-moved (λ (t : SessionTicket). t.place == place) slow fast (rising-uninterleaved slow fast rising).1

-- a version is noted under those of a place
pub noted-both : (place version : ℕ) (slow fast : List SessionTicket)
    → noting_version place version (interleaved slow fast) ≡ interleaved (noting_version place version slow) (noting_version place version fast)
noted-both place version slow fast =
    map-interleaved (λ (t : SessionTicket). if t.place == place then record t { noted = Some version } else t)
    (λ t. by_bool (t.place == place) (λ here. rw here refl) (λ there. rw there refl)) slow fast

-- ---- what is so of each

-- what is so of each slow one at a place, and of each fast one, is so of all there
pub each-at : (P : SessionTicket → Type 0) (place : ℕ) (slow fast : List SessionTicket) → Each P (own_at place slow) → Each P (own_at place fast) → Each P (own_at place (interleaved slow fast))
each-at P place slow fast slows fasts =
    back (interleaved slow fast) (each-interleaved (λ (t : SessionTicket). (t.place == place) ≡ true → P t) slow fast (there slow slows) (there fast fasts))
  where
    there : (ts : List SessionTicket) → Each P (own_at place ts) → Each (λ (t : SessionTicket). (t.place == place) ≡ true → P t) ts
    there [] each = tt
    there (t ∷ ts) each =
        by_bool (t.place == place)
        (λ here. let mine = rw here at each in ((λ e. mine.0), there ts mine.1))
        (λ off. ((λ e. absurd (false≢true (sym off ∙ e))), there ts (rw off at each)))

    back : (ts : List SessionTicket) → Each (λ (t : SessionTicket). (t.place == place) ≡ true → P t) ts → Each P (own_at place ts)
    back [] each = tt
    back (t ∷ ts) each =
        by_bool (t.place == place)
        (λ here. rw here (each.0 here, back ts each.1))
        (λ off. rw off (back ts each.1))

-- a fast ticket is counted as before, whatever is noted under it
pub counted-noted : (place version : ℕ) (known : List KnownKey) (fast : List SessionTicket) → are_counted known fast ≡ true → are_counted known (noting_version place version fast) ≡ true
counted-noted place version known [] all = refl
counted-noted place version known (t ∷ ts) all =
    let parts = and_parts (is_some (increment_at t.place t.mode known)) (are_counted known ts) all in
    by_bool (t.place == place)
    (λ here. rw here (and_from _ _ parts.0 (counted-noted place version known ts parts.1)))
    (λ there. rw there (and_from _ _ parts.0 (counted-noted place version known ts parts.1)))

-- so are those that stay
pub counted-kept : (keep : SessionTicket → Bool) (known : List KnownKey) (fast : List SessionTicket) → are_counted known fast ≡ true → are_counted known (filter keep fast) ≡ true
counted-kept keep known [] all = refl
counted-kept keep known (t ∷ ts) all =
    let parts = and_parts (is_some (increment_at t.place t.mode known)) (are_counted known ts) all in
    by_bool (keep t)
    (λ stays. rw stays (and_from _ _ parts.0 (counted-kept keep known ts parts.1)))
    (λ goes. rw goes (counted-kept keep known ts parts.1))

pub counted-last : (known : List KnownKey) (fast : List SessionTicket) (t : SessionTicket) → are_counted known fast ≡ true → is_some (increment_at t.place t.mode known) ≡ true
    → are_counted known (fast ++ t ∷ []) ≡ true
counted-last known [] t all its = and_from _ _ its refl
counted-last known (x ∷ xs) t all its =
    let parts = and_parts (is_some (increment_at x.place x.mode known)) (are_counted known xs) all in
    and_from _ _ parts.0 (counted-last known xs t parts.1 its)
