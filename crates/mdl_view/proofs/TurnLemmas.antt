-- Passes over the locks: what one after the other leads to.
use Rattle.std.proofs.Common.{◌≡◌, ◌∙◌, ℕ, suc, ◌+◌, ◌<◌, ◌≤◌, Bool, true, false, cond, not, ◌&&◌, ◌||◌, List, [], ◌∷◌, ◌++◌, length, take, get_or, map, filter, Result, Ok, Err, refl, sym, ap, subst, inl, inr, arith, eq-eqb}
use Rattle.std.specs.Prelude.{IsTrue, IfOk, ◌==◌}
use Rattle.std.specs.List.{list_any, list_all}
use Rattle.std.proofs.lemmas.Bool.{and_parts, or_cases, or_parts, eqb-true, false≢true}
use Rattle.std.proofs.lemmas.List.Folds.{list_all-append}
use Rattle.std.proofs.lemmas.List.{take_more}
use Rattle.std.proofs.Math.Bool.{or-false, or-true}
use mathlib.Core.Path.{fun_ext}
use Rattle.mdl_view.specs.declared.ticket.Ticket.{Ticket}
use Rattle.mdl_view.specs.declared.act.Act.{Act}
use Rattle.mdl_view.specs.Acts.{target_of}
use Rattle.mdl_view.specs.Blockings.{holds_against, is_blocked, waits_before, waits_that}
use Rattle.mdl_view.specs.GoingOn.{EndInTurn, Sessions, goes_on, in_turn, is_closed, is_free, is_gone}
use Rattle.mdl_view.specs.Locks.{LockView}
use Rattle.mdl_view.specs.Passes.{Proceeds, is_kept, left_of, session_of, waits_left}

-- a set is within another one
abbrev pub Within : Sessions → Sessions → Type 0
Within old new = (session : ℕ) → IsTrue (old session) → IsTrue (new session)

-- ---- what is free stays free as more tickets go

or_still : (a b c : Bool) → (b ≡ true → c ≡ true) → (a || b) ≡ true → (a || c) ≡ true
or_still true b c more is = refl
or_still false b c more is = more is

and_both : (a b : Bool) → a ≡ true → b ≡ true → (a && b) ≡ true
and_both true true p q = refl
and_both true false p q = q
and_both false b p q = p

pub all_still : {X : Type 0} (p q : X → Bool) → ((x : X) → p x ≡ true → q x ≡ true) → (xs : List X) → list_all p xs ≡ true → list_all q xs ≡ true
all_still p q more [] all = refl
all_still p q more (x ∷ xs) all =
    let parts = and_parts (p x) (list_all p xs) all in
    and_both (q x) (list_all q xs) (more x parts.0) (all_still p q more xs parts.1)

pub still_free : (lock : LockView) (gone more : Ticket → Bool) (ask : Ticket) → ((ticket : Ticket) → gone ticket ≡ true → more ticket ≡ true)
    → is_free lock gone ask ≡ true → is_free lock more ask ≡ true
still_free lock gone more ask within free =
    let parts = and_parts (list_all (λ held. not (holds_against lock ask held) || gone held) lock.granted)
    (list_all (λ pending. not (waits_before lock ask pending) || gone pending) lock.waiting) free in
    and_both (list_all (λ held. not (holds_against lock ask held) || more held) lock.granted)
    (list_all (λ pending. not (waits_before lock ask pending) || more pending) lock.waiting)
    (all_still _ _ (λ held. or_still (not (holds_against lock ask held)) (gone held) (more held) (within held)) lock.granted parts.0)
    (all_still _ _ (λ pending. or_still (not (waits_before lock ask pending)) (gone pending) (more pending) (within pending)) lock.waiting parts.1)

pub gone_still : (taken : Ticket → Bool) (old new : Sessions) → Within old new → (ticket : Ticket) → is_gone taken old ticket ≡ true → is_gone taken new ticket ≡ true
gone_still taken old new within ticket = or_still (taken ticket) (old ticket.session) (new ticket.session) (within ticket.session)

-- ---- one lock

-- a wait that goes on is of a session that ends in each closed set
ends_there : (gone other : Bool) (taken blocked free more_free : Bool)
    → (not gone && blocked && free) ≡ true → (taken ≡ true → gone ≡ true) → (free ≡ true → more_free ≡ true)
    → (not (not (taken || other) && blocked && more_free) || other) ≡ true → other ≡ true
ends_there gone true taken blocked free more_free goes was still closed = refl
ends_there true false taken blocked free more_free goes was still closed = absurd (false≢true goes)
ends_there false false true blocked free more_free goes was still closed = absurd (false≢true (was refl))
ends_there false false false false free more_free goes was still closed = absurd (false≢true goes)
ends_there false false false true false more_free goes was still closed = absurd (false≢true goes)
ends_there false false false true true true goes was still closed = closed
ends_there false false false true true false goes was still closed = still refl

module _ (taken : Ticket → Bool) (lock : LockView) (old other : Sessions) (within : Within old other) where
  taken-gone : (ask : Ticket) → taken ask ≡ true → is_gone taken old ask ≡ true
  taken-gone ask is = ap (λ b. b || old ask.session) is

  there : (ask : Ticket) → goes_on (is_gone taken old) lock ask ≡ true → (not (goes_on (is_gone taken other) lock ask) || other ask.session) ≡ true
      → other ask.session ≡ true
  there ask goes closed =
      ends_there (is_gone taken old ask) (other ask.session) (taken ask) (is_blocked lock ask) (is_free lock (is_gone taken old) ask)
      (is_free lock (is_gone taken other) ask) goes (taken-gone ask)
      (still_free lock (is_gone taken old) (is_gone taken other) ask (gone_still taken old other within)) closed

  -- each session that was found is in the closed set
  found_there : (session : ℕ) (asks : List Ticket)
      → list_all (λ ask. not (goes_on (is_gone taken other) lock ask) || other ask.session) asks ≡ true
      → list_any (λ x. session == x) (map session_of (filter (goes_on (is_gone taken old) lock) asks)) ≡ true → other session ≡ true
  found_there session [] closed found = absurd (false≢true found)
  found_there session (ask ∷ asks) closed found =
      let parts = and_parts (not (goes_on (is_gone taken other) lock ask) || other ask.session)
      (list_all (λ ask. not (goes_on (is_gone taken other) lock ask) || other ask.session) asks) closed in
      by (goes_on (is_gone taken old) lock ask) (there ask) parts.0 (found_there session asks parts.1) found where
        by : (go : Bool) → (go ≡ true → (not (goes_on (is_gone taken other) lock ask) || other ask.session) ≡ true → other ask.session ≡ true)
            → (not (goes_on (is_gone taken other) lock ask) || other ask.session) ≡ true
            → (list_any (λ x. session == x) (map session_of (filter (goes_on (is_gone taken old) lock) asks)) ≡ true → other session ≡ true)
            → list_any (λ x. session == x) (map session_of (cond go (ask ∷ filter (goes_on (is_gone taken old) lock) asks) (filter (goes_on (is_gone taken old) lock) asks))) ≡ true
            → other session ≡ true
        by true here closed_here rest found_so =
            elim (or_cases (session == ask.session) (list_any (λ x. session == x) (map session_of (filter (goes_on (is_gone taken old) lock) asks))) found_so) [
              | inl same ↦ subst (λ s. other s ≡ true) (sym (eqb-true session ask.session same)) (here refl closed_here)
              | inr later ↦ rest later
            ]
        by false here closed_here rest found_so = rest found_so

-- where nothing was found, nobody goes on
none_found : (p : Ticket → Bool) (asks : List Ticket) → length (map session_of (filter p asks)) ≡ 0 → (q : Ticket → Bool) → list_all (λ ask. not (p ask) || q ask) asks ≡ true
none_found p [] none q = refl
none_found p (ask ∷ asks) none q = by (p ask) none (λ none_so. none_found p asks none_so q) where
  by : (go : Bool) → length (map session_of (cond go (ask ∷ filter p asks) (filter p asks))) ≡ 0
      → (length (map session_of (filter p asks)) ≡ 0 → list_all (λ ask. not (p ask) || q ask) asks ≡ true)
      → ((not go || q ask) && list_all (λ ask. not (p ask) || q ask) asks) ≡ true
  by true none_so rest = absurd (omega arith)
  by false none_so rest = rest none_so

-- ---- how many are left

step_left : (old new : Bool) (m n : ℕ) → (old ≡ true → new ≡ true) → n ≤ m → cond new n (suc n) ≤ cond old m (suc m)
step_left true true m n more le = le
step_left true false m n more le = absurd (false≢true (more refl))
step_left false true m n more le = omega arith
step_left false false m n more le = omega arith

step_fewer : (old new : Bool) (m n : ℕ) → (old ≡ true → new ≡ true) → n < m → cond new n (suc n) < cond old m (suc m)
step_fewer true true m n more lt = lt
step_fewer true false m n more lt = absurd (false≢true (more refl))
step_fewer false true m n more lt = omega arith
step_fewer false false m n more lt = omega arith

here_fewer : (old new : Bool) (m n : ℕ) → old ≡ false → new ≡ true → n ≤ m → cond new n (suc n) < cond old m (suc m)
here_fewer false true m n was is le = omega arith
here_fewer true new m n was is le = absurd (false≢true (sym was))
here_fewer false false m n was is le = absurd (false≢true is)

no_more_of : (old new : Sessions) → Within old new → (asks : List Ticket) → left_of new asks ≤ left_of old asks
no_more_of old new within [] = omega arith
no_more_of old new within (ask ∷ asks) =
    step_left (old ask.session) (new ask.session) (left_of old asks) (left_of new asks) (within ask.session) (no_more_of old new within asks)

pub no_more : (old new : Sessions) → Within old new → (locks : List LockView) → waits_left new locks ≤ waits_left old locks
no_more old new within [] = omega arith
no_more old new within (lock ∷ locks) = omega (arith, no_more_of old new within lock.waiting, no_more old new within locks)

left-append : (ended : Sessions) (xs ys : List LockView) → waits_left ended (xs ++ ys) ≡ waits_left ended xs + waits_left ended ys
left-append ended [] ys = omega arith
left-append ended (x ∷ xs) ys = omega (arith, left-append ended xs ys)

-- fewer are left where somebody goes on and is put in
fewer_of : (p : Ticket → Bool) (old new : Sessions) → Within old new → ((ask : Ticket) → p ask ≡ true → old ask.session ≡ false) → (asks : List Ticket)
    → ((session : ℕ) → list_any (λ x. session == x) (map session_of (filter p asks)) ≡ true → new session ≡ true)
    → (length (map session_of (filter p asks)) ≡ 0 → ⊥) → left_of new asks < left_of old asks
fewer_of p old new within apart [] put some = absurd (some refl)
fewer_of p old new within apart (ask ∷ asks) put some = by (p ask) refl (fewer_of p old new within apart asks) put some where
  by : (go : Bool) → p ask ≡ go
      → (((session : ℕ) → list_any (λ x. session == x) (map session_of (filter p asks)) ≡ true → new session ≡ true)
      → (length (map session_of (filter p asks)) ≡ 0 → ⊥) → left_of new asks < left_of old asks)
      → ((session : ℕ) → list_any (λ x. session == x) (map session_of (cond go (ask ∷ filter p asks) (filter p asks))) ≡ true → new session ≡ true)
      → (length (map session_of (cond go (ask ∷ filter p asks) (filter p asks))) ≡ 0 → ⊥)
      → cond (new ask.session) (left_of new asks) (suc (left_of new asks)) < cond (old ask.session) (left_of old asks) (suc (left_of old asks))
  by true is rest put_so some_so =
      here_fewer (old ask.session) (new ask.session) (left_of old asks) (left_of new asks) (apart ask is)
      (put_so ask.session (ap (λ b. b || list_any (λ x. ask.session == x) (map session_of (filter p asks))) (eq-eqb ask.session ask.session refl)))
      (no_more_of old new within asks)
  by false is rest put_so some_so =
      step_fewer (old ask.session) (new ask.session) (left_of old asks) (left_of new asks) (within ask.session) (rest put_so some_so)

-- ---- passes

-- the sessions whose waits at a lock go on are put in
pub proceeds_at : (taken : Ticket → Bool) (lock : LockView) (old new : Sessions) (found : List ℕ) (some : Bool)
    → found ≡ map session_of (filter (goes_on (is_gone taken old) lock) lock.waiting)
    → ((session : ℕ) → new session ≡ (old session || list_any (λ x. session == x) found)) → some ≡ not (length found == 0)
    → Proceeds taken (lock ∷ []) old new some
proceeds_at taken lock old new found some is put says = record {
  grows = grows;
  sound = λ other within closed session ended.
      elim (or_cases (old session) (list_any (λ x. session == x) found) (sym (put session) ∙ ended)) [
        | inl before ↦ within session before
        | inr now ↦ found_there taken lock old other within session lock.waiting
            (and_parts (list_all (λ ask. not (goes_on (is_gone taken other) lock ask) || other ask.session) lock.waiting) true closed).0
            (subst (λ xs. list_any (λ x. session == x) xs ≡ true) is now)
      ];
  rest = λ none. at_rest (empty none);
  fewer = λ more. let of = fewer_of goes old new grows not_ended lock.waiting
      (λ session there. put session ∙ ap (λ b. old session || b) (subst (λ xs. list_any (λ x. session == x) xs ≡ true) (sym is) there) ∙ or-true (old session))
      (λ none. false≢true (sym (says ∙ ap (λ n. not (n == 0)) (ap length is ∙ none)) ∙ more)) in
      omega (arith, of);
} where
  goes : Ticket → Bool
  goes = goes_on (is_gone taken old) lock

  grows : Within old new
  grows session before = put session ∙ ap (λ b. b || list_any (λ x. session == x) found) before

  not_ended : (ask : Ticket) → goes_on (is_gone taken old) lock ask ≡ true → old ask.session ≡ false
  not_ended ask go = by (taken ask) (old ask.session) (and_parts (not (is_gone taken old ask)) (is_blocked lock ask)
      (and_parts (not (is_gone taken old ask) && is_blocked lock ask) (is_free lock (is_gone taken old) ask) go).0).0 where
        by : (a b : Bool) → not (a || b) ≡ true → b ≡ false
        by true b e = absurd (false≢true e)
        by false true e = absurd (false≢true e)
        by false false e = refl

  empty : some ≡ false → length found ≡ 0
  empty none = by (length found == 0) refl where
    by : (b : Bool) → (length found == 0) ≡ b → length found ≡ 0
    by true e = eqb-true (length found) 0 e
    by false e = absurd (false≢true (sym none ∙ says ∙ ap not e))

  at_rest : length found ≡ 0 → (new ≡ old) × IsTrue (is_closed (is_gone taken new) new (lock ∷ []))
  at_rest none =
      let same : new ≡ old = fun_ext (λ session. put session ∙ ap (λ b. old session || b) (no_element found none session) ∙ or-false (old session)) in (
        same,
        subst (λ (ended : Sessions). list_all (λ ask. not (goes_on (is_gone taken ended) lock ask) || ended ask.session) lock.waiting && true ≡ true) (sym same)
            (ap (λ b. b && true) (none_found (goes_on (is_gone taken old) lock) lock.waiting (sym (ap length is) ∙ none) (λ ask. old ask.session))),
      ) where
        no_element : (xs : List ℕ) → length xs ≡ 0 → (session : ℕ) → list_any (λ x. session == x) xs ≡ false
        no_element [] e session = refl
        no_element (x ∷ xs) e session = absurd (omega arith)

closed-append : (gone : Ticket → Bool) (ended : Sessions) (xs ys : List LockView)
    → is_closed gone ended (xs ++ ys) ≡ (is_closed gone ended xs && is_closed gone ended ys)
closed-append gone ended xs ys = list_all-append (λ lock. list_all (λ ask. not (goes_on gone lock ask) || ended ask.session) lock.waiting) xs ys

-- a pass over some locks, and then over some more
pub proceeds_more : (taken : Ticket → Bool) (xs ys : List LockView) (a b c : Sessions) (f g : Bool) → Proceeds taken xs a b f → Proceeds taken ys b c g
    → Proceeds taken (xs ++ ys) a c (f || g)
proceeds_more taken xs ys a b c f g one two = record {
  grows = grows;
  sound = λ other within closed session ended.
      let parts = and_parts (is_closed (is_gone taken other) other xs) (is_closed (is_gone taken other) other ys)
      (sym (closed-append (is_gone taken other) other xs ys) ∙ closed) in
      two.sound other (one.sound other within parts.0) parts.1 session ended;
  rest = λ none.
      let parts = or_parts f g none in
      let first = one.rest parts.0 in
      let second = two.rest parts.1 in (
        second.0 ∙ first.0,
        closed-append (is_gone taken c) c xs ys
            ∙ and_both (is_closed (is_gone taken c) c xs) (is_closed (is_gone taken c) c ys)
            (subst (λ (ended : Sessions). is_closed (is_gone taken ended) ended xs ≡ true) (sym second.0) first.1) second.1,
      );
  fewer = λ more. elim (or_cases f g more) [
    | inl before ↦ omega (arith, one.fewer before, no_more b c two.grows xs, no_more a b one.grows ys, no_more b c two.grows ys, left-append a xs ys, left-append c xs ys)
    | inr after ↦ omega (arith, two.fewer after, no_more b c two.grows xs, no_more a b one.grows xs, no_more a b one.grows ys, left-append a xs ys, left-append c xs ys)
  ];
} where
  grows : Within a c
  grows session before = two.grows session (one.grows session before)

pub proceeds_none : (taken : Ticket → Bool) (ended : Sessions) → Proceeds taken [] ended ended false
proceeds_none taken ended = record {
  grows = λ session before. before;
  sound = λ other within closed session before. within session before;
  rest = λ none. (refl, refl);
  fewer = λ some. absurd (false≢true some);
}

-- one lock after the others
pub proceeds_next : (taken : Ticket → Bool) (locks : List LockView) (i : ℕ) (lock : LockView) (a b c : Sessions) (f g : Bool) → i < length locks
    → lock ≡ get_or locks i lock → Proceeds taken (take i locks) a b f → Proceeds taken (lock ∷ []) b c g → Proceeds taken (take (i + 1) locks) a c (f || g)
proceeds_next taken locks i lock a b c f g inside is one two =
    subst (λ xs. Proceeds taken xs a c (f || g)) (sym (take_more locks i lock inside ∙ ap (λ x. take i locks ++ x ∷ []) (sym is)))
    (proceeds_more taken (take i locks) (lock ∷ []) a b c f g one two)

-- after a pass that puts nobody in, the set is the least one
pub at_end : (taken : Ticket → Bool) (locks : List LockView) (first old new : Sessions) → Within first old
    → ((other : Sessions) → Within first other → IsTrue (is_closed (is_gone taken other) other locks) → Within old other)
    → Proceeds taken locks old new false → EndInTurn taken first locks new
at_end taken locks first old new grows sound last = record {
  first_end = λ session is. last.grows session (grows session is);
  closed = (last.rest refl).1;
  least = λ other within closed session is. last.sound other (sound other within closed) closed session is;
}

-- ---- the waits that end in turn

pub in_turn_by : (act : Act) (ended helped : Sessions) (locks : List LockView) → ((session : ℕ) → helped session ≡ (ended session && not (session == target_of act)))
    → waits_that (is_kept helped true) 0 locks ≡ in_turn act ended locks
in_turn_by act ended helped locks says =
    ap (λ (test : LockView → Ticket → Bool). waits_that test 0 locks)
    (fun_ext (λ lock. fun_ext (λ ask. ap (λ b. is_blocked lock ask && b) (says ask.session)
    ∙ regroup (is_blocked lock ask) (ended ask.session) (not (ask.session == target_of act))))) where
      regroup : (a b c : Bool) → (a && (b && c)) ≡ ((a && b) && c)
      regroup true b c = refl
      regroup false b c = refl

pub if_ok-map : {T E : Type 0} (P Q : T → Type 0) (result : Result T E) → ((x : T) → P x → Q x) → IfOk result P → IfOk result Q
if_ok-map P Q (Ok x) f a = f x a
if_ok-map P Q (Err e) f a = a
