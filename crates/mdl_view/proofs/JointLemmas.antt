-- Waits that several sessions block, and the sessions that the ways help.
use Rattle.std.proofs.Common.{◌≡◌, ◌∙◌, ℕ, suc, ◌+◌, ◌<◌, Bool, true, false, cond, not, ◌&&◌, ◌||◌, List, [], ◌∷◌, ◌++◌, length, take, get_or, filter, refl, sym, ap, subst, inl, inr, arith, leb, eq-eqb}
use Rattle.std.specs.Prelude.{◌==◌, nat_eq, fold}
use Rattle.std.specs.List.{list_any}
use Rattle.std.proofs.lemmas.Bool.{or_cases, or_parts, or_left, or_right, eqb-true, true≢false, le-leb}
use Rattle.std.proofs.lemmas.List.{take_more}
use Rattle.std.proofs.lemmas.List.Elements.{Contains-append_left, Contains-push, Contains-push_cases}
use Rattle.std.proofs.lemmas.List.Folds.{list_any-append}
use Rattle.std.proofs.Math.Bool.{or-false}
use Rattle.mdl_view.specs.declared.few_sessions.FewSessions.{FewSessions}
use Rattle.mdl_view.specs.declared.few_sessions.FewSessions.TheVariants.{Nobody, One, Two, More}
use Rattle.mdl_view.specs.declared.ticket.Ticket.{Ticket}
use Rattle.mdl_view.specs.declared.way.Way.{Way}
use Rattle.mdl_view.specs.Acts.{ends, is_taken, target_of}
use Rattle.mdl_view.specs.Blockings.{holds_against, waits_before}
use Rattle.mdl_view.specs.GoingOn.{EndAfter, Sessions, no_ticket}
use Rattle.mdl_view.specs.Locks.{LockView}
use Rattle.mdl_view.specs.Modes.{lock_clashes, lock_waits_behind}
use Rattle.mdl_view.specs.SessionSets.{AreAgainst, IsFew, holds_apart, is_against, is_apart, several_apart, some_apart, waits_apart}
use Rattle.mdl_view.specs.Ways.{AreHelped, blockers_of, with_session}
use Rattle.mdl_view.proofs.AgainstLemmas.{any_same}
use Rattle.mdl_view.proofs.WayLemmas.{same_ended}

-- ---- the sessions of tickets, each once

any_filtered : {X : Type 0} (p q : X → Bool) (xs : List X) → list_any p (filter q xs) ≡ list_any (λ x. q x && p x) xs
any_filtered p q [] = refl
any_filtered p q (x ∷ xs) =
    elim (q x) as (λ b. list_any p (cond b (x ∷ filter q xs) (filter q xs)) ≡ ((b && p x) || list_any (λ y. q y && p y) xs)) [
      | true ↦ ap (λ b. p x || b) (any_filtered p q xs)
      | false ↦ any_filtered p q xs
    ]

known_any : (p : ℕ → Bool) (session : ℕ) (known : List ℕ) → list_any (nat_eq session) known ≡ true → p session ≡ true → list_any p known ≡ true
known_any p session [] there is = there
known_any p session (k ∷ known) there is =
    elim (or_cases (nat_eq session k) (list_any (nat_eq session) known) there) [
      | inl same ↦ or_left (p k) (list_any p known) (subst (λ s. p s ≡ true) (eqb-true session k same) is)
      | inr later ↦ or_right (p k) (list_any p known) (known_any p session known later is)
    ]

absorbed : (a b : Bool) → (b ≡ true → a ≡ true) → a ≡ (a || b)
absorbed true b more = refl
absorbed false true more = more refl
absorbed false false more = refl

one-more : (p : ℕ → Bool) (known : List ℕ) (ticket : Ticket) → list_any p (with_session known ticket) ≡ (list_any p known || p ticket.session)
one-more p known ticket =
    elim (list_any (nat_eq ticket.session) known) as (λ b. list_any (nat_eq ticket.session) known ≡ b
    → list_any p (cond b known (known ++ ticket.session ∷ [])) ≡ (list_any p known || p ticket.session)) [
      | true ↦ λ there. absorbed (list_any p known) (p ticket.session) (known_any p ticket.session known there)
      | false ↦ λ _. list_any-append p known (ticket.session ∷ []) ∙ ap (λ b. list_any p known || b) (or-false (p ticket.session))
    ] refl

or_assoc : (a b c : Bool) → ((a || b) || c) ≡ (a || (b || c))
or_assoc true b c = refl
or_assoc false b c = refl

sessions-any : (p : ℕ → Bool) (known : List ℕ) (tickets : List Ticket)
    → list_any p (fold with_session known tickets) ≡ (list_any p known || list_any (λ ticket. p ticket.session) tickets)
sessions-any p known [] = sym (or-false (list_any p known))
sessions-any p known (ticket ∷ tickets) =
    sessions-any p (with_session known ticket) tickets
    ∙ ap (λ b. b || list_any (λ one. p one.session) tickets) (one-more p known ticket)
    ∙ or_assoc (list_any p known) (p ticket.session) (list_any (λ one. p one.session) tickets)

-- the first two are different
abbrev head_apart : List ℕ → Type 0
head_apart [] = Unit {0}
head_apart (a ∷ []) = Unit {0}
head_apart (a ∷ b ∷ rest) = (b == a) ≡ false

head-more : (known : List ℕ) (ticket : Ticket) → head_apart known → head_apart (with_session known ticket)
head-more [] ticket apart = tt
head-more (a ∷ []) ticket apart = by (nat_eq ticket.session a) refl where
  by : (b : Bool) → nat_eq ticket.session a ≡ b → head_apart (cond (b || false) (a ∷ []) (a ∷ ticket.session ∷ []))
  by true e = tt
  by false e = e
head-more (a ∷ b ∷ rest) ticket apart =
    elim (list_any (nat_eq ticket.session) (a ∷ b ∷ rest)) as (λ t. head_apart (cond t (a ∷ b ∷ rest) ((a ∷ b ∷ rest) ++ ticket.session ∷ []))) [
      | true ↦ apart
      | false ↦ apart
    ]

sessions-head : (known : List ℕ) (tickets : List Ticket) → head_apart known → head_apart (fold with_session known tickets)
sessions-head known [] apart = apart
sessions-head known (ticket ∷ tickets) apart = sessions-head (with_session known ticket) tickets (head-more known ticket apart)

-- ---- several sessions

both_apart : (clash one other : Bool) → ((not one && clash) && (not one && not other)) ≡ ((clash && true) && (not one && not other))
both_apart true true other = refl
both_apart true false other = refl
both_apart false true other = refl
both_apart false false other = refl

blockers-any : (lock : LockView) (ask : Ticket) (p : ℕ → Bool)
    → list_any p (blockers_of lock ask)
    ≡ (list_any (λ held. holds_against lock ask held && p held.session) lock.granted || list_any (λ pending. waits_before lock ask pending && p pending.session) lock.waiting)
blockers-any lock ask p =
    let held = filter (holds_against lock ask) lock.granted in
    let pending = filter (waits_before lock ask) lock.waiting in
    sessions-any p [] (held ++ pending) ∙ list_any-append (λ ticket. p ticket.session) held pending
    ∙ ap (λ b. b || list_any (λ ticket. p ticket.session) pending) (any_filtered (λ ticket. p ticket.session) (holds_against lock ask) lock.granted)
    ∙ ap (λ b. list_any (λ ticket. holds_against lock ask ticket && p ticket.session) lock.granted || b)
    (any_filtered (λ ticket. p ticket.session) (waits_before lock ask) lock.waiting)

blockers-apart : (lock : LockView) (ask : Ticket) (other : ℕ)
    → is_against lock no_ticket ask.mode ask.session other ≡ list_any (is_apart ask.session other) (blockers_of lock ask)
blockers-apart lock ask other = sym (blockers-any lock ask (is_apart ask.session other)
    ∙ ap (λ b. b || list_any (λ pending. waits_before lock ask pending && is_apart ask.session other pending.session) lock.waiting)
    (any_same _ (holds_apart lock no_ticket ask.mode ask.session other)
    (λ held. both_apart (lock_clashes lock.kind ask.mode held.mode) (held.session == ask.session) (held.session == other)) lock.granted)
    ∙ ap (λ b. list_any (holds_apart lock no_ticket ask.mode ask.session other) lock.granted || b)
    (any_same _ (waits_apart lock no_ticket ask.mode ask.session other)
    (λ pending. both_apart (lock_waits_behind lock.kind ask.mode pending.mode) (pending.session == ask.session) (pending.session == other)) lock.waiting))

own_not : (clash own : Bool) → ((not own && clash) && own) ≡ false
own_not true true = refl
own_not true false = refl
own_not false true = refl
own_not false false = refl

none_any : {X : Type 0} (p : X → Bool) → ((x : X) → p x ≡ false) → (xs : List X) → list_any p xs ≡ false
none_any p none [] = refl
none_any p none (x ∷ xs) = ap (λ b. b || list_any p xs) (none x) ∙ none_any p none xs

blockers-own : (lock : LockView) (ask : Ticket) → list_any (λ session. session == ask.session) (blockers_of lock ask) ≡ false
blockers-own lock ask =
    blockers-any lock ask (λ session. session == ask.session)
    ∙ ap (λ b. b || list_any (λ pending. waits_before lock ask pending && (pending.session == ask.session)) lock.waiting)
    (none_any _ (λ held. own_not (lock_clashes lock.kind ask.mode held.mode) (held.session == ask.session)) lock.granted)
    ∙ none_any _ (λ pending. own_not (lock_waits_behind lock.kind ask.mode pending.mode) (pending.session == ask.session)) lock.waiting

same_false : (a : ℕ) → (a == a) ≡ false → ⊥
same_false a e = true≢false (sym (eq-eqb a a refl) ∙ e)

-- of two noted sessions, one is the first of these if each is one of these
two_of : (t k a b : ℕ) → (a == b) ≡ false → (is_apart t k a || is_apart t k b) ≡ false → (not (a == t) && not (b == t)) ≡ false
two_of t k a b apart none =
    let parts = or_parts (is_apart t k a) (is_apart t k b) none in
    by (a == t) (b == t) (a == k) (b == k) parts.0 parts.1 (λ one other. true≢false (sym (eq-eqb a b (eqb-true a k one ∙ sym (eqb-true b k other))) ∙ apart)) where
      by : (u v x y : Bool) → (not u && not x) ≡ false → (not v && not y) ≡ false → (x ≡ true → y ≡ true → ⊥) → (not u && not v) ≡ false
      by true v x y one other both = refl
      by false true x y one other both = refl
      by false false true true one other both = absurd (both refl refl)
      by false false false y one other both = absurd (true≢false one)
      by false false true false one other both = absurd (true≢false other)

-- if some of two different ones is neither t nor a given one, whichever that is, then both noted ones are not t
not_t : (t a b k1 k2 : ℕ) → (rest : Bool) → (k2 == k1) ≡ false → (k1 == t) ≡ false → (k2 == t) ≡ false
    → (a == t) ≡ true → (is_apart t b a || is_apart t b b) ≡ (is_apart t b k1 || (is_apart t b k2 || rest)) → ⊥
not_t t a b k1 k2 rest apart one two is so =
    by (k1 == b) (k2 == b) one two (λ x y. true≢false (sym (eq-eqb k2 k1 (eqb-true k2 b y ∙ sym (eqb-true k1 b x))) ∙ apart))
    (sym so ∙ ap (λ e. (not e && not (a == b)) || is_apart t b b) is ∙ ap (λ e. not (b == t) && not e) (eq-eqb b b refl) ∙ never (not (b == t))) where
      never : (u : Bool) → (u && false) ≡ false
      never true = refl
      never false = refl

      by : (x y : Bool) → (k1 == t) ≡ false → (k2 == t) ≡ false → (x ≡ true → y ≡ true → ⊥)
          → ((not (k1 == t) && not x) || ((not (k2 == t) && not y) || rest)) ≡ false → ⊥
      by true true e f both none = both refl refl
      by false y e f both none =
          true≢false (sym (ap (λ u. (not u && true) || ((not (k2 == t) && not y) || rest)) e) ∙ none)
      by true false e f both none =
          let parts = or_parts (not (k1 == t) && false) ((not (k2 == t) && true) || rest) none in
          true≢false (sym (ap (λ u. (not u && true) || rest) f) ∙ parts.1)

several-few : (few : FewSessions) (t : ℕ) (sessions : List ℕ) → IsFew few → ((other : ℕ) → some_apart few t other ≡ list_any (is_apart t other) sessions)
    → list_any (λ session. session == t) sessions ≡ false → head_apart sessions → several_apart few t ≡ leb 2 (length sessions)
several-few Nobody t [] is says own apart = refl
several-few (One a) t [] is says own apart = refl
several-few (Two a b) t [] is says own apart = two_of t t a b is (says t)
several-few More t [] is says own apart = absurd (true≢false (says t))
several-few Nobody t (k ∷ []) is says own apart = refl
several-few (One a) t (k ∷ []) is says own apart = refl
several-few (Two a b) t (k ∷ []) is says own apart = two_of t k a b is (says k ∙ or-false (is_apart t k k) ∙ ap (λ e. not (k == t) && not e) (eq-eqb k k refl) ∙ never (not (k == t))) where
  never : (u : Bool) → (u && false) ≡ false
  never true = refl
  never false = refl
several-few More t (k ∷ []) is says own apart = absurd (true≢false (says k ∙ or-false (is_apart t k k) ∙ ap (λ e. not (k == t) && not e) (eq-eqb k k refl) ∙ never (not (k == t)))) where
  never : (u : Bool) → (u && false) ≡ false
  never true = refl
  never false = refl
several-few few t (k1 ∷ k2 ∷ rest) is says own apart =
    let first = or_parts (k1 == t) (list_any (λ session. session == t) (k2 ∷ rest)) own in
    let second = or_parts (k2 == t) (list_any (λ session. session == t) rest) first.1 in
    by few is says first.0 second.0 ∙ sym (le-leb 2 (suc (suc (length rest))) (omega arith)) where
      no-two : (a : ℕ) (more : Bool) → (k1 == t) ≡ false → (k2 == t) ≡ false → (is_apart t a k1 || (is_apart t a k2 || more)) ≡ false → ⊥
      no-two a more one two none =
          let parts = or_parts (is_apart t a k1) (is_apart t a k2 || more) none in
          let later = or_parts (is_apart t a k2) more parts.1 in
          by_two (k1 == a) (k2 == a) (ap (λ u. not u && not (k1 == a)) (sym one) ∙ parts.0) (ap (λ u. not u && not (k2 == a)) (sym two) ∙ later.0)
          (λ x y. true≢false (sym (eq-eqb k2 k1 (eqb-true k2 a y ∙ sym (eqb-true k1 a x))) ∙ apart)) where
            by_two : (x y : Bool) → not x ≡ false → not y ≡ false → (x ≡ true → y ≡ true → ⊥) → ⊥
            by_two true true e f both = both refl refl
            by_two false y e f both = true≢false e
            by_two true false e f both = true≢false f

      by : (noted : FewSessions) → IsFew noted → ((other : ℕ) → some_apart noted t other ≡ list_any (is_apart t other) (k1 ∷ k2 ∷ rest)) → (k1 == t) ≡ false → (k2 == t) ≡ false
          → several_apart noted t ≡ true
      by Nobody sorted so one two = absurd (no-two t (list_any (is_apart t t) rest) one two (sym (so t)))
      by (One a) sorted so one two =
          absurd (no-two a (list_any (is_apart t a) rest) one two (sym (so a) ∙ ap (λ e. not (a == t) && not e) (eq-eqb a a refl) ∙ never (not (a == t)))) where
            never : (u : Bool) → (u && false) ≡ false
            never true = refl
            never false = refl
      by (Two a b) sorted so one two =
          both (a == t) (b == t) (λ e. not_t t a b k1 k2 (list_any (is_apart t b) rest) apart one two e (so b))
          (λ e. not_t t b a k1 k2 (list_any (is_apart t a) rest) apart one two e (or_swap (is_apart t a b) (is_apart t a a) ∙ so a)) where
            or_swap : (u v : Bool) → (u || v) ≡ (v || u)
            or_swap true true = refl
            or_swap true false = refl
            or_swap false true = refl
            or_swap false false = refl

            both : (u v : Bool) → (u ≡ true → ⊥) → (v ≡ true → ⊥) → (not u && not v) ≡ true
            both true v e f = absurd (e refl)
            both false true e f = absurd (f refl)
            both false false e f = refl
      by More sorted so one two = refl

-- several sessions are noted exactly if several block the request
pub several_by : (lock : LockView) (ask : Ticket) (few : FewSessions) → AreAgainst lock no_ticket ask.mode few
    → several_apart few ask.session ≡ leb 2 (length (blockers_of lock ask))
several_by lock ask few are =
    several-few few ask.session (blockers_of lock ask) are.sorted_out (λ other. are.apart ask.session other ∙ blockers-apart lock ask other)
    (blockers-own lock ask) (sessions-head [] (filter (holds_against lock ask) lock.granted ++ filter (waits_before lock ask) lock.waiting) tt)

-- ---- the sessions that the ways help

pub helped_none : (locks : List LockView) (none : Sessions) → ((session : ℕ) → none session ≡ false) → AreHelped locks [] none
helped_none locks none is = record {
  by_a_way = λ session there. absurd (true≢false (sym there ∙ is session));
  each = λ way ended session (k, inside, e) end there. absurd (omega arith);
}

-- one more way helps its own
helped_with : (locks : List LockView) (before : List Way) (way : Way) (old here new : Sessions) (ended : Sessions)
    → EndAfter way.act locks ended → ((session : ℕ) → here session ≡ (ended session && not (session == target_of way.act)))
    → ((session : ℕ) → new session ≡ (old session || here session)) → AreHelped locks before old → AreHelped locks (before ++ way ∷ []) new
helped_with locks before way old here new ended end says put known = record {
  by_a_way = λ session there. elim (or_cases (old session) (here session) (sym (put session) ∙ there)) [
    | inl first ↦ let found = known.by_a_way session first in
        (found.0, found.1, Contains-append_left before (way ∷ []) found.0 found.2, found.3, found.4)
    | inr now ↦ (way, ended, Contains-push before way, end, sym (says session) ∙ now)
  ];
  each = λ one others session there end_one in_one. elim (Contains-push_cases before way one there) [
    | inl first ↦ put session ∙ or_left (old session) (here session) (known.each one others session first end_one in_one)
    | inr same ↦
        let at_way = subst (λ (w : Way). EndAfter w.act locks others) (sym same) end_one in
        let equal = same_ended (is_taken way.act) (ends way.act) locks others ended at_way end in
        let in_way = subst (λ (w : Way). (others session && not (session == target_of w.act)) ≡ true) (sym same) in_one in
        put session ∙ or_right (old session) (here session)
        (says session ∙ ap (λ (s : Sessions). s session && not (session == target_of way.act)) (sym equal) ∙ in_way)
  ];
}

pub helped_more : (locks : List LockView) (ways : List Way) (i : ℕ) (d : Way) (old here new : Sessions) (ended : Sessions) → i < length ways
    → EndAfter (get_or ways i d).act locks ended → ((session : ℕ) → here session ≡ (ended session && not (session == target_of (get_or ways i d).act)))
    → ((session : ℕ) → new session ≡ (old session || here session)) → AreHelped locks (take i ways) old → AreHelped locks (take (i + 1) ways) new
helped_more locks ways i d old here new ended inside end says put known =
    subst (λ (xs : List Way). AreHelped locks xs new) (sym (take_more ways i d inside)) (helped_with locks (take i ways) (get_or ways i d) old here new ended end says put known)
