-- What is granted at once goes on in turn.
use Rattle.std.proofs.Common.{◌≡◌, ◌∙◌, ℕ, zero, suc, ◌<◌, Bool, true, false, cond, not, ◌&&◌, ◌||◌, List, [], ◌∷◌, ◌++◌, length, filter, map, refl, sym, ap, inl, inr, eq-eqb, append_assoc, arith}
use Rattle.std.specs.Prelude.{All, ◌==◌}
use Rattle.std.specs.List.{Contains, list_any, list_all}
use Rattle.std.proofs.lemmas.Bool.{and_parts, and_from, or_cases, or_left, or_right, false≢true, true≢false, not-true}
use Rattle.std.proofs.lemmas.List.Elements.{All-append, All-contains, All-contains_itself, All-cons, All-filter, All-head, All-map, All-nil, All-tail, All-weaker, Contains-append_left, Contains-append_right, filter_passes}
use Rattle.std.proofs.lemmas.List.Folds.{list_any-append}
use Rattle.mdl_view.specs.declared.act.Act.{Act}
use Rattle.mdl_view.specs.declared.act.Act.TheVariants.{Kill, KillQuery}
use Rattle.mdl_view.specs.declared.ticket.Ticket.{Ticket}
use Rattle.mdl_view.specs.Acts.{is_taken, lock_after, target_of}
use Rattle.mdl_view.specs.AtOnce.{at_once_from, can_be_granted, granted_at, granted_from}
use Rattle.mdl_view.specs.Blockings.{at_lock, holds_against, is_blocked, waits_before, waits_that}
use Rattle.mdl_view.specs.GoingOn.{Sessions, goes_on, goes_on_after, is_closed, is_free, is_gone}
use Rattle.mdl_view.specs.Locks.{LockView}
use Rattle.mdl_view.specs.WayLaws.{GrantedGoOn, are_of_statements}

-- ---- lists

contains_cons : {X : Type 0} (x : X) (xs : List X) (y : X) → Contains xs y → Contains (x ∷ xs) y
contains_cons x xs y (k, inside, is) = let more : suc k < suc (length xs) = omega arith in (suc k, more, is)

contains_head : {X : Type 0} (x : X) (xs : List X) → Contains (x ∷ xs) x
contains_head x xs = let inside : 0 < suc (length xs) = omega arith in (zero, inside, refl)

all_of : {X : Type 0} (p : X → Bool) (xs : List X) → list_all p xs ≡ true → All (λ x. p x ≡ true) xs
all_of p [] all = All-nil (λ x. p x ≡ true)
all_of p (x ∷ xs) all = let parts = and_parts (p x) (list_all p xs) all in All-cons (λ y. p y ≡ true) x xs parts.0 (all_of p xs parts.1)

among_filtered : {X : Type 0} (p : X → Bool) (xs : List X) → All (λ y. p y ≡ true → Contains (filter p xs) y) xs
among_filtered p [] = All-nil (λ y. p y ≡ true → Contains (filter p []) y)
among_filtered {X} p (x ∷ xs) =
    All-cons (λ y. p y ≡ true → Contains (filter p (x ∷ xs)) y) x xs (first (p x))
    (All-weaker (λ y. p y ≡ true → Contains (filter p xs) y) (λ y. p y ≡ true → Contains (filter p (x ∷ xs)) y) (λ y there passes. later (p x) y (there passes)) xs (among_filtered p xs)) where
      first : (b : Bool) → b ≡ true → Contains (cond b (x ∷ filter p xs) (filter p xs)) x
      first true e = contains_head x (filter p xs)
      first false e = absurd (false≢true e)

      later : (b : Bool) (y : X) → Contains (filter p xs) y → Contains (cond b (x ∷ filter p xs) (filter p xs)) y
      later true y there = contains_cons x (filter p xs) y there
      later false y there = there

among_mapped : {X Y : Type 0} (f : X → Y) (xs : List X) → All (λ x. Contains (map f xs) (f x)) xs
among_mapped f [] = All-nil (λ x. Contains (map f []) (f x))
among_mapped f (x ∷ xs) =
    All-cons (λ y. Contains (map f (x ∷ xs)) (f y)) x xs (contains_head (f x) (map f xs))
    (All-weaker (λ y. Contains (map f xs) (f y)) (λ y. Contains (map f (x ∷ xs)) (f y)) (λ y there. contains_cons (f x) (map f xs) (f y) there) xs (among_mapped f xs))

any_still : {X : Type 0} (p q : X → Bool) → ((x : X) → p x ≡ true → q x ≡ true) → (xs : List X) → list_any p xs ≡ true → list_any q xs ≡ true
any_still p q more [] some = some
any_still p q more (x ∷ xs) some =
    elim (or_cases (p x) (list_any p xs) some) [
      | inl here ↦ or_left (q x) (list_any q xs) (more x here)
      | inr later ↦ or_right (q x) (list_any q xs) (any_still p q more xs later)
    ]

any_kept : {X : Type 0} (p q : X → Bool) (xs : List X) → list_any (λ x. q x && p x) xs ≡ true → list_any p (filter q xs) ≡ true
any_kept p q [] some = some
any_kept p q (x ∷ xs) some = by (q x) some (any_kept p q xs) where
  by : (b : Bool) → ((b && p x) || list_any (λ y. q y && p y) xs) ≡ true → (list_any (λ y. q y && p y) xs ≡ true → list_any p (filter q xs) ≡ true)
      → list_any p (cond b (x ∷ filter q xs) (filter q xs)) ≡ true
  by true e rest = elim (or_cases (p x) (list_any (λ y. q y && p y) xs) e) [
    | inl here ↦ or_left (p x) (list_any p (filter q xs)) here
    | inr later ↦ or_right (p x) (list_any p (filter q xs)) (rest later)
  ]
  by false e rest = rest e

-- ---- one lock

abbrev left_that : (Ticket → Bool) → (Ticket → Bool) → Ticket → Bool
left_that gone test ticket = not (gone ticket) && test ticket

-- each ticket that hasn't gone, of some, is among others
abbrev AllIn : (Ticket → Bool) → List Ticket → List Ticket → Type 0
AllIn gone from others = (test : Ticket → Bool) → list_any (left_that gone test) from ≡ true → list_any test others ≡ true

none_left : (gone test : Ticket → Bool) (xs : List Ticket) → (list_any (left_that gone test) xs ≡ true → ⊥) → list_all (λ x. not (test x) || gone x) xs ≡ true
none_left gone test [] none = refl
none_left gone test (x ∷ xs) none =
    and_from (not (test x) || gone x) (list_all (λ y. not (test y) || gone y) xs)
    (by (gone x) (test x) (λ e. none (or_left (left_that gone test x) (list_any (left_that gone test) xs) e)))
    (none_left gone test xs (λ e. none (or_right (left_that gone test x) (list_any (left_that gone test) xs) e))) where
      by : (g t : Bool) → ((not g && t) ≡ true → ⊥) → (not t || g) ≡ true
      by true true never = refl
      by true false never = refl
      by false true never = absurd (never refl)
      by false false never = refl

concludes : (taken ended blocked free : Bool) → taken ≡ false → blocked ≡ true → free ≡ true → (not (not (taken || ended) && blocked && free) || ended) ≡ true → ended ≡ true
concludes taken true blocked free left is is_free closed = refl
concludes true false blocked free left is is_free closed = absurd (true≢false left)
concludes false false false free left is is_free closed = absurd (false≢true is)
concludes false false true false left is is_free closed = absurd (false≢true is_free)
concludes false false true true left is is_free closed = closed

own : (session : ℕ) (b : Bool) → (not (session == session) && b) ≡ false
own session b = ap (λ e. not e && b) (eq-eqb session session refl)

-- what is known of the waiting tickets, and of those that are granted
abbrev IsOpen : Act → LockView → Sessions → Ticket → Type 0
IsOpen act lock ended ask = Contains lock.waiting ask × ((not (goes_on (is_gone (is_taken act) ended) lock ask) || ended ask.session) ≡ true) × (is_taken act ask ≡ false)

abbrev IsSure : Act → LockView → Sessions → Ticket → Type 0
IsSure act lock ended ask = Contains lock.waiting ask × (is_blocked lock ask ≡ true) × (ended ask.session ≡ true) × (is_taken act ask ≡ false)

module _ (act : Act) (lock : LockView) (ended : Sessions) where
  -- a request that is granted is free
  is_granted_free : (granted others : List Ticket) (ask : Ticket) → AllIn (is_gone (is_taken act) ended) lock.granted granted
      → (list_any (left_that (is_gone (is_taken act) ended) (waits_before lock ask)) lock.waiting ≡ true → list_any (waits_before lock ask) others ≡ true)
      → can_be_granted (lock_after act lock) granted others ask ≡ true → is_free lock (is_gone (is_taken act) ended) ask ≡ true
  is_granted_free granted others ask holds waits can =
      let parts = and_parts (not (list_any (holds_against lock ask) granted)) (not (list_any (waits_before lock ask) others)) can in
      let gone = is_gone (is_taken act) ended in
      and_from (list_all (λ held. not (holds_against lock ask held) || gone held) lock.granted)
      (list_all (λ pending. not (waits_before lock ask pending) || gone pending) lock.waiting)
      (none_left gone (holds_against lock ask) lock.granted
      (λ some. true≢false (sym (holds (holds_against lock ask) some) ∙ not-true (list_any (holds_against lock ask) granted) parts.0)))
      (none_left gone (waits_before lock ask) lock.waiting
      (λ some. true≢false (sym (waits some) ∙ not-true (list_any (waits_before lock ask) others) parts.1)))

  -- the request itself isn't among those that it waits behind
  without_own : (passed rest : List Ticket) (ask : Ticket) → list_any (waits_before lock ask) (passed ++ ask ∷ rest) ≡ true
      → list_any (waits_before lock ask) (passed ++ rest) ≡ true
  without_own passed rest ask some =
      list_any-append (waits_before lock ask) passed rest
      ∙ ap (λ b. list_any (waits_before lock ask) passed || (b || list_any (waits_before lock ask) rest)) (sym (own ask.session _))
      ∙ sym (list_any-append (waits_before lock ask) passed (ask ∷ rest)) ∙ some

  -- one whose session ends is no longer among those that haven't gone
  without_ended : (passed rest : List Ticket) (ask : Ticket) → ended ask.session ≡ true → AllIn (is_gone (is_taken act) ended) lock.waiting (passed ++ ask ∷ rest)
      → AllIn (is_gone (is_taken act) ended) lock.waiting (passed ++ rest)
  without_ended passed rest ask over all = λ test some.
      let gone = is_gone (is_taken act) ended in
      let there = all (left_that gone test) (any_still (left_that gone test) (left_that gone (left_that gone test)) (λ x. twice (gone x) (test x)) lock.waiting some) in
      let off : left_that gone test ask ≡ false = by (is_taken act ask) (ended ask.session) (test ask) over in
      any_still (left_that gone test) test (λ x e. (and_parts (not (gone x)) (test x) e).1) (passed ++ rest)
      (list_any-append (left_that gone test) passed rest
      ∙ ap (λ b. list_any (left_that gone test) passed || (b || list_any (left_that gone test) rest)) (sym off)
      ∙ sym (list_any-append (left_that gone test) passed (ask ∷ rest)) ∙ there) where
        twice : (g t : Bool) → (not g && t) ≡ true → (not g && (not g && t)) ≡ true
        twice true t e = e
        twice false t e = e

        by : (t e q : Bool) → e ≡ true → (not (t || e) && q) ≡ false
        by true e q over = refl
        by false true q over = refl
        by false false q over = absurd (false≢true over)

  sure : (granted passed rest : List Ticket) → AllIn (is_gone (is_taken act) ended) lock.granted granted
      → AllIn (is_gone (is_taken act) ended) lock.waiting (passed ++ rest) → All (IsOpen act lock ended) rest
      → All (IsSure act lock ended) (granted_from (lock_after act lock) (is_blocked lock) granted passed rest)
  sure granted passed [] holds waits opens = All-nil (IsSure act lock ended)
  sure granted passed (ask ∷ rest) holds waits opens =
      let open_now = All-head (IsOpen act lock ended) ask rest opens in
      let later = All-tail (IsOpen act lock ended) ask rest opens in
      by (is_blocked lock ask && can_be_granted (lock_after act lock) granted (passed ++ rest) ask) refl
      (λ over. sure (granted ++ ask ∷ []) passed rest
      (λ test some. list_any-append test granted (ask ∷ []) ∙ or_left (list_any test granted) (list_any test (ask ∷ [])) (holds test some))
      (without_ended passed rest ask over waits) later)
      (sure granted (passed ++ ask ∷ []) rest holds
      (λ test some. ap (list_any test) (append_assoc passed (ask ∷ []) rest) ∙ waits test some) later) open_now where
        by : (b : Bool) → (is_blocked lock ask && can_be_granted (lock_after act lock) granted (passed ++ rest) ask) ≡ b
            → (ended ask.session ≡ true → All (IsSure act lock ended) (granted_from (lock_after act lock) (is_blocked lock) (granted ++ ask ∷ []) passed rest))
            → All (IsSure act lock ended) (granted_from (lock_after act lock) (is_blocked lock) granted (passed ++ ask ∷ []) rest)
            → IsOpen act lock ended ask
            → All (IsSure act lock ended) (cond b (ask ∷ granted_from (lock_after act lock) (is_blocked lock) (granted ++ ask ∷ []) passed rest)
            (granted_from (lock_after act lock) (is_blocked lock) granted (passed ++ ask ∷ []) rest))
        by true e more other known =
            let parts = and_parts (is_blocked lock ask) (can_be_granted (lock_after act lock) granted (passed ++ rest) ask) e in
            let over = concludes (is_taken act ask) (ended ask.session) (is_blocked lock ask) (is_free lock (is_gone (is_taken act) ended) ask) known.2 parts.0
            (is_granted_free granted (passed ++ rest) ask holds (λ some. without_own passed rest ask (waits (waits_before lock ask) some)) parts.1) known.1 in
            All-cons (IsSure act lock ended) ask _ (known.0, parts.0, over, known.2) (more over)
        by false e more other known = other

  all_sure : list_all (λ ask. not (goes_on (is_gone (is_taken act) ended) lock ask) || ended ask.session) lock.waiting ≡ true
      → All (IsSure act lock ended) (granted_at lock (lock_after act lock))
  all_sure closed =
      let gone = is_gone (is_taken act) ended in
      let stays = λ (ticket : Ticket). not (is_taken act ticket) in
      let there = All-contains_itself lock.waiting in
      let known = all_of (λ ask. not (goes_on gone lock ask) || ended ask.session) lock.waiting closed in
      let Half = λ (ask : Ticket). Contains lock.waiting ask × ((not (goes_on gone lock ask) || ended ask.session) ≡ true) in
      let half = All-filter stays Half lock.waiting (λ k d inside. (there k d inside, known k d inside)) in
      let kept = filter_passes stays lock.waiting in
      sure (filter stays lock.granted) [] (filter stays lock.waiting) (stay lock.granted) (stay lock.waiting)
      (λ k d inside. let one = half k d inside in (one.0, one.1, not-true (is_taken act _) (kept k d inside))) where
        stay : (xs : List Ticket) → AllIn (is_gone (is_taken act) ended) xs (filter (λ ticket. not (is_taken act ticket)) xs)
        stay xs = λ test some. any_kept test (λ ticket. not (is_taken act ticket)) xs
            (any_still (left_that (is_gone (is_taken act) ended) test) (λ ticket. not (is_taken act ticket) && test ticket)
            (λ x. weaker (is_taken act x) (ended x.session) (test x)) xs some) where
              weaker : (t e q : Bool) → (not (t || e) && q) ≡ true → (not t && q) ≡ true
              weaker true e q is = is
              weaker false true q is = absurd (false≢true is)
              weaker false false q is = is

-- ---- all locks

other_one : (act : Act) (ask : Ticket) → ask.of_statement ≡ true → is_taken act ask ≡ false → (ask.session == target_of act) ≡ false
other_one (Kill target) ask of left = left
other_one (KillQuery target) ask of left = by (ask.session == target) ask.of_statement of left where
  by : (a b : Bool) → b ≡ true → (a && b) ≡ false → a ≡ false
  by true b of left = sym of ∙ left
  by false b of left = refl

go_on_from : (act : Act) (ended : Sessions) (place : ℕ) (locks : List LockView) → are_of_statements locks ≡ true
    → is_closed (is_gone (is_taken act) ended) ended locks ≡ true
    → All (Contains (waits_that (goes_on_after act ended) place locks)) (at_once_from act place locks)
go_on_from act ended place [] of closed = All-nil (Contains [])
go_on_from act ended place (lock ∷ locks) of closed =
    let of_parts = and_parts (list_all (λ ask. ask.of_statement) lock.waiting) (are_of_statements locks) of in
    let parts = and_parts (list_all (λ ask. not (goes_on (is_gone (is_taken act) ended) lock ask) || ended ask.session) lock.waiting)
    (is_closed (is_gone (is_taken act) ended) ended locks) closed in
    let here = map (at_lock place) (filter (goes_on_after act ended lock) lock.waiting) in
    let behind = waits_that (goes_on_after act ended) (suc place) locks in
    let granted = granted_at lock (lock_after act lock) in
    let of_all = all_of (λ ask. ask.of_statement) lock.waiting of_parts.0 in
    All-append (Contains (here ++ behind)) (map (at_lock place) granted) (at_once_from act (suc place) locks)
    (All-map (Contains (here ++ behind)) (at_lock place) granted
    (All-weaker (IsSure act lock ended) (λ ask. Contains (here ++ behind) (at_lock place ask))
    (λ ask sure. Contains-append_left here behind (at_lock place ask) (there ask sure (All-contains (λ one. one.of_statement ≡ true) lock.waiting ask of_all sure.0)))
    granted (all_sure act lock ended parts.0)))
    (All-weaker (Contains behind) (Contains (here ++ behind)) (λ wait. Contains-append_right here behind wait) (at_once_from act (suc place) locks)
    (go_on_from act ended (suc place) locks of_parts.1 parts.1)) where
      there : (ask : Ticket) → IsSure act lock ended ask → ask.of_statement ≡ true
          → Contains (map (at_lock place) (filter (goes_on_after act ended lock) lock.waiting)) (at_lock place ask)
      there ask sure of_ask =
          let apart = other_one act ask of_ask sure.3 in
          let passes : goes_on_after act ended lock ask ≡ true =
          and_from (is_blocked lock ask && ended ask.session) (not (ask.session == target_of act)) (and_from (is_blocked lock ask) (ended ask.session) sure.1 sure.2)
          (ap not apart) in
          let kept = All-contains (λ one. goes_on_after act ended lock one ≡ true → Contains (filter (goes_on_after act ended lock) lock.waiting) one) lock.waiting ask
          (among_filtered (goes_on_after act ended lock) lock.waiting) sure.0 passes in
          All-contains (λ one. Contains (map (at_lock place) (filter (goes_on_after act ended lock) lock.waiting)) (at_lock place one))
          (filter (goes_on_after act ended lock) lock.waiting) ask (among_mapped (at_lock place) (filter (goes_on_after act ended lock) lock.waiting)) kept

pub granted_go_on : GrantedGoOn
granted_go_on act locks ended of is = go_on_from act ended 0 locks of is.closed
