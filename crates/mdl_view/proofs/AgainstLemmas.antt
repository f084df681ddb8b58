-- What is noted of the sessions whose tickets block a mode says who is blocked, and who is free.
use Rattle.std.proofs.Common.{◌≡◌, ◌∙◌, ℕ, ◌+◌, ◌<◌, ◌≤◌, Bool, true, false, not, ◌&&◌, ◌||◌, List, [], ◌∷◌, length, take, get_or, refl, sym, ap}
use Rattle.std.specs.Prelude.{◌==◌, None}
use Rattle.std.specs.List.{list_any, list_all}
use Rattle.std.proofs.lemmas.Bool.{and_parts, false≢true, not-true}
use Rattle.std.proofs.lemmas.List.Folds.{list_any_more}
use Rattle.std.proofs.lemmas.List.{take_all}
use mathlib.Core.Path.{fun_ext}
use Rattle.mdl_view.specs.declared.few_sessions.FewSessions.{FewSessions}
use Rattle.mdl_view.specs.declared.ticket.Ticket.{Ticket}
use Rattle.mdl_view.specs.Blockings.{holds_against, is_blocked, waits_before}
use Rattle.mdl_view.specs.GoingOn.{Sessions, is_free, is_gone, no_ticket}
use Rattle.mdl_view.specs.Locks.{LockView}
use Rattle.mdl_view.specs.Modes.{lock_clashes, lock_waits_behind}
use Rattle.mdl_view.specs.Passes.{is_alone_before}
use Rattle.mdl_view.specs.SessionSets.{AreAgainst, holds_apart, is_against, some_apart, taken_by, waits_apart}

pub any_same : {X : Type 0} (p q : X → Bool) → ((x : X) → p x ≡ q x) → (xs : List X) → list_any p xs ≡ list_any q xs
any_same p q same [] = refl
any_same p q same (x ∷ xs) = ap (λ b. b || list_any p xs) (same x) ∙ ap (λ b. q x || b) (any_same p q same xs)

pub all_same : {X : Type 0} (p q : X → Bool) → ((x : X) → p x ≡ q x) → (xs : List X) → list_all p xs ≡ list_all q xs
all_same p q same [] = refl
all_same p q same (x ∷ xs) = ap (λ b. b && list_all p xs) (same x) ∙ ap (λ b. q x && b) (all_same p q same xs)

-- no element passes a test exactly if each fails it
pub none_passes : {X : Type 0} (p : X → Bool) (xs : List X) → not (list_any p xs) ≡ list_all (λ x. not (p x)) xs
none_passes p [] = refl
none_passes p (x ∷ xs) = split (p x) (list_any p xs) ∙ ap (λ b. not (p x) && b) (none_passes p xs) where
  split : (a b : Bool) → not (a || b) ≡ (not a && not b)
  split true b = refl
  split false b = refl

pub split_or : (a b : Bool) → not (a || b) ≡ (not a && not b)
split_or true b = refl
split_or false b = refl

at_once : (clash same : Bool) → ((clash && true) && (not same && not same)) ≡ (not same && clash)
at_once true true = refl
at_once true false = refl
at_once false true = refl
at_once false false = refl

at_last : (clash gone same : Bool) → not ((clash && not gone) && (not same && not same)) ≡ (not (not same && clash) || gone)
at_last true true true = refl
at_last true true false = refl
at_last true false true = refl
at_last true false false = refl
at_last false true true = refl
at_last false true false = refl
at_last false false true = refl
at_last false false false = refl

-- some session other than one's own is among those that block one's mode exactly if one is blocked
pub blocked_by : (lock : LockView) (ask : Ticket) → is_against lock no_ticket ask.mode ask.session ask.session ≡ is_blocked lock ask
blocked_by lock ask =
    ap (λ b. b || list_any (waits_apart lock no_ticket ask.mode ask.session ask.session) lock.waiting)
    (any_same (holds_apart lock no_ticket ask.mode ask.session ask.session) (holds_against lock ask)
    (λ held. at_once (lock_clashes lock.kind ask.mode held.mode) (held.session == ask.session)) lock.granted)
    ∙ ap (λ b. list_any (holds_against lock ask) lock.granted || b)
    (any_same (waits_apart lock no_ticket ask.mode ask.session ask.session) (waits_before lock ask)
    (λ pending. at_once (lock_waits_behind lock.kind ask.mode pending.mode) (pending.session == ask.session)) lock.waiting)

-- no session other than one's own is among those that still do exactly if one is free
pub free_by : (lock : LockView) (gone : Ticket → Bool) (ask : Ticket) → not (is_against lock gone ask.mode ask.session ask.session) ≡ is_free lock gone ask
free_by lock gone ask =
    let holds = holds_apart lock gone ask.mode ask.session ask.session in
    let waits = waits_apart lock gone ask.mode ask.session ask.session in
    let held_left = λ (held : Ticket). not (holds_against lock ask held) || gone held in
    let pending_left = λ (pending : Ticket). not (waits_before lock ask pending) || gone pending in
    split_or (list_any holds lock.granted) (list_any waits lock.waiting)
    ∙ ap (λ b. b && not (list_any waits lock.waiting)) (none_passes holds lock.granted
    ∙ all_same (λ held. not (holds held)) held_left
    (λ held. at_last (lock_clashes lock.kind ask.mode held.mode) (gone held) (held.session == ask.session)) lock.granted)
    ∙ ap (λ b. list_all held_left lock.granted && b) (none_passes waits lock.waiting
    ∙ all_same (λ pending. not (waits pending)) pending_left
    (λ pending. at_last (lock_waits_behind lock.kind ask.mode pending.mode) (gone pending) (pending.session == ask.session)) lock.waiting)

-- if no act took a ticket and no session has ended, no ticket has gone
pub none_gone : (ended : Sessions) → ((session : ℕ) → ended session ≡ false) → is_gone (taken_by None) ended ≡ no_ticket
none_gone ended none = fun_ext (λ ticket. none ticket.session)

pub or_assoc : (a b c : Bool) → ((a || b) || c) ≡ (a || (b || c))
or_assoc true b c = refl
or_assoc false b c = refl

-- one more ticket was noted
pub noted_more : (test : Ticket → Bool) (xs ys : List Ticket) (i : ℕ) (d : Ticket) (now new first : Bool) → ys ≡ xs → i < length ys
    → now ≡ (first || list_any test (take i xs)) → new ≡ (now || test (get_or ys i d)) → new ≡ (first || list_any test (take (i + 1) xs))
noted_more test xs ys i d now new first same inside so more =
    more ∙ ap (λ b. b || test (get_or ys i d)) (so ∙ ap (λ zs. first || list_any test (take i zs)) (sym same))
    ∙ or_assoc first (list_any test (take i ys)) (test (get_or ys i d)) ∙ ap (λ b. first || b) (sym (list_any_more test ys i d inside))
    ∙ ap (λ zs. first || list_any test (take (i + 1) zs)) same

-- all were noted
pub noted_all : (test : Ticket → Bool) (xs ys : List Ticket) (i : ℕ) (now first : Bool) → ys ≡ xs → length ys ≤ i
    → now ≡ (first || list_any test (take i xs)) → now ≡ (first || list_any test xs)
noted_all test xs ys i now first same end so =
    so ∙ ap (λ zs. first || list_any test (take i zs)) (sym same) ∙ ap (λ zs. first || list_any test zs) (take_all i ys end ∙ same)

-- a wait that hasn't gone and is blocked goes on exactly if it is free
pub goes_by : (gone blocked free goes : Bool) → gone ≡ false → blocked ≡ true → goes ≡ free → goes ≡ (not gone && blocked && free)
goes_by gone blocked free goes here is so = so ∙ ap (λ b. b && free) (sym is) ∙ ap (λ b. (not b && blocked) && free) (sym here)

-- ---- sets that grow with a list

-- what was found among the elements so far, and at one more, was found among all these
pub found_more : {X : Type 0} (test : X → Bool) (xs ys : List X) (i : ℕ) (d : X) (now new first : Bool) → ys ≡ xs → i < length ys
    → ((first || list_any test (take i xs)) ≡ true → now ≡ true) → ((now || test (get_or ys i d)) ≡ true → new ≡ true)
    → (first || list_any test (take (i + 1) xs)) ≡ true → new ≡ true
found_more test xs ys i d now new first same inside so more there =
    let grown : list_any test (take (i + 1) xs) ≡ (list_any test (take i xs) || test (get_or ys i d)) =
    ap (λ zs. list_any test (take (i + 1) zs)) (sym same) ∙ list_any_more test ys i d inside
    ∙ ap (λ zs. list_any test (take i zs) || test (get_or ys i d)) same in
    more (either first (list_any test (take i xs)) (test (get_or ys i d)) now so (ap (λ b. first || b) (sym grown) ∙ there)) where
      either : (a b c d : Bool) → ((a || b) ≡ true → d ≡ true) → (a || (b || c)) ≡ true → (d || c) ≡ true
      either true b c d f e = ap (λ z. z || c) (f refl)
      either false true c d f e = ap (λ z. z || c) (f refl)
      either false false true true f e = refl
      either false false true false f e = refl
      either false false false d f e = absurd (false≢true e)

pub found_next : {X : Type 0} (test : X → Bool) (xs : List X) (i : ℕ) (x : X) (now new first : Bool) → i < length xs → x ≡ get_or xs i x
    → ((first || list_any test (take i xs)) ≡ true → now ≡ true) → ((now || test x) ≡ true → new ≡ true)
    → (first || list_any test (take (i + 1) xs)) ≡ true → new ≡ true
found_next test xs i x now new first inside is so more =
    found_more test xs xs i x now new first refl inside so (λ e. more (ap (λ y. now || test y) is ∙ e))

-- what is left when elements take something away, and one more does
pub left_more : {X : Type 0} (test : X → Bool) (xs ys : List X) (i : ℕ) (d : X) (now new first : Bool) → ys ≡ xs → i < length ys
    → now ≡ (first && not (list_any test (take i xs))) → new ≡ (now && not (test (get_or ys i d)))
    → new ≡ (first && not (list_any test (take (i + 1) xs)))
left_more test xs ys i d now new first same inside so more =
    let grown : list_any test (take (i + 1) xs) ≡ (list_any test (take i xs) || test (get_or ys i d)) =
    ap (λ zs. list_any test (take (i + 1) zs)) (sym same) ∙ list_any_more test ys i d inside
    ∙ ap (λ zs. list_any test (take i zs) || test (get_or ys i d)) same in
    more ∙ ap (λ b. b && not (test (get_or ys i d))) so ∙ split first (list_any test (take i xs)) (test (get_or ys i d)) ∙ ap (λ b. first && not b) (sym grown) where
      split : (a b c : Bool) → ((a && not b) && not c) ≡ (a && not (b || c))
      split true true c = refl
      split true false c = refl
      split false b c = refl

pub left_next : {X : Type 0} (test : X → Bool) (xs : List X) (i : ℕ) (x : X) (now new first : Bool) → i < length xs → x ≡ get_or xs i x
    → now ≡ (first && not (list_any test (take i xs))) → new ≡ (now && not (test x)) → new ≡ (first && not (list_any test (take (i + 1) xs)))
left_next test xs i x now new first inside is so more = left_more test xs xs i x now new first refl inside so (more ∙ ap (λ y. now && not (test y)) is)

-- whether one is blocked alone: what is noted is its own session and the other one
only-one : (clash own other : Bool) → not ((clash && true) && (not own && not other)) ≡ (not (not own && clash) || other)
only-one true true true = refl
only-one true true false = refl
only-one true false true = refl
only-one true false false = refl
only-one false true other = refl
only-one false false other = refl

pub alone_by : (lock : LockView) (ask : Ticket) (session : ℕ)
    → not (is_against lock no_ticket ask.mode ask.session session) ≡ is_free lock (λ ticket. ticket.session == session) ask
alone_by lock ask session =
    let holds = holds_apart lock no_ticket ask.mode ask.session session in
    let waits = waits_apart lock no_ticket ask.mode ask.session session in
    let held_left = λ (held : Ticket). not (holds_against lock ask held) || (held.session == session) in
    let pending_left = λ (pending : Ticket). not (waits_before lock ask pending) || (pending.session == session) in
    split_or (list_any holds lock.granted) (list_any waits lock.waiting)
    ∙ ap (λ b. b && not (list_any waits lock.waiting)) (none_passes holds lock.granted
    ∙ all_same (λ held. not (holds held)) held_left
    (λ held. only-one (lock_clashes lock.kind ask.mode held.mode) (held.session == ask.session) (held.session == session)) lock.granted)
    ∙ ap (λ b. list_all held_left lock.granted && b) (none_passes waits lock.waiting
    ∙ all_same (λ pending. not (waits pending)) pending_left
    (λ pending. only-one (lock_waits_behind lock.kind ask.mode pending.mode) (pending.session == ask.session) (pending.session == session)) lock.waiting)

-- a session that blocks a request alone is noted as the only other one
pub alone_noted : (lock : LockView) (ask : Ticket) (few : FewSessions) (session : ℕ) → AreAgainst lock no_ticket ask.mode few
    → is_alone_before lock session ask ≡ true → (some_apart few ask.session ask.session ≡ true) × (some_apart few ask.session session ≡ false)
alone_noted lock ask few session are alone =
    let parts = and_parts (is_blocked lock ask) (is_free lock (λ ticket. ticket.session == session) ask) alone in (
      are.apart ask.session ask.session ∙ blocked_by lock ask ∙ parts.0,
      are.apart ask.session session ∙ not-true (is_against lock no_ticket ask.mode ask.session session) (alone_by lock ask session ∙ parts.1),
    )
