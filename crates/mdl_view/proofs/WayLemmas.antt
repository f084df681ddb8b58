-- The ways out: that each is found, that its numbers are determined, and that one of two is better.
use Rattle.std.proofs.Common.{◌≡◌, ◌≢◌, ◌∙◌, ℕ, zero, suc, ◌+◌, ◌-◌, ◌<◌, ◌≤◌, Bool, true, false, cond, not, ◌&&◌, ◌||◌, List, [], ◌∷◌, ◌++◌, length, map, filter, get_or, refl, sym, ap, subst, inl, inr, arith, ltb, eqb, leb, eq-eqb}
use Rattle.std.specs.Prelude.{IsTrue, IsPermutation, ◌==◌, All}
use Rattle.std.specs.List.{AllPairs, AllWithin, Contains, HoldsAt, insert, list_any, list_all}
use Rattle.std.proofs.lemmas.Bool.{and_parts, and_from, or_cases, or_parts, or_left, or_right, eqb-true, false≢true, true≢false, cases_lt, cases_order, leb-true, ltb-true, ltb-false, lt-ltb, le-leb}
use Rattle.std.proofs.lemmas.List.{get_or_default}
use Rattle.std.proofs.lemmas.List.Edits.{get_or-insert_above, get_or-insert_at, get_or-insert_below, length-insert}
use Rattle.std.proofs.lemmas.List.Elements.{All-cons, All-nil, All-weaker}
use Rattle.std.proofs.lemmas.List.Sorted.{All-permutation, Contains-permutation, IsPermutation-insert, IsPermutation-refl}
use mathlib.Core.Path.{fun_ext}
use Rattle.mdl_view.specs.declared.act.Act.{Act}
use Rattle.mdl_view.specs.declared.act.Act.TheVariants.{Kill, KillQuery}
use Rattle.mdl_view.specs.declared.ticket.Ticket.{Ticket}
use Rattle.mdl_view.specs.declared.way.Way.{Way}
use Rattle.mdl_view.specs.Acts.{ends, is_taken, target_of}
use Rattle.mdl_view.specs.AtOnce.{at_once}
use Rattle.mdl_view.specs.Blockings.{at_lock, is_blocked, waits_that}
use Rattle.mdl_view.specs.GoingOn.{EndAfter, EndInTurn, Sessions, goes_on, goes_on_after, in_turn, is_closed, is_free, is_gone}
use Rattle.mdl_view.specs.Locks.{LockView}
use Rattle.mdl_view.specs.Passes.{AreOrdered, AreWaysBelow, frees_at, frees_some, is_alone_before, with_way}
use Rattle.mdl_view.specs.Ways.{AreWays, IsWay, IsWorthNaming, is_better, same_bool, spares_session}
use Rattle.mdl_view.proofs.TurnLemmas.{still_free}

-- ---- the sessions that end in turn are determined

same_test : (a b : Bool) → (a ≡ true → b ≡ true) → (b ≡ true → a ≡ true) → a ≡ b
same_test true b to back = sym (to refl)
same_test false true to back = back refl
same_test false false to back = refl

pub same_ended : (taken : Ticket → Bool) (first : Sessions) (locks : List LockView) (a b : Sessions) → EndInTurn taken first locks a → EndInTurn taken first locks b → a ≡ b
same_ended taken first locks a b one two =
    fun_ext (λ session. same_test (a session) (b session) (one.least b two.first_end two.closed session) (two.least a one.first_end one.closed session))

-- so the numbers of a way are those of its act
pub same_way : (locks : List LockView) (a b : Way) → IsWay locks a → IsWay locks b → a.act ≡ b.act → a ≡ b
same_way locks a b one two e =
    let granted : a.at_once ≡ b.at_once = one.granted ∙ ap (λ act. length (at_once act locks)) e ∙ sym two.granted in
    let known = subst (λ (act : Act). EndAfter act locks two.ended) (sym e) two.end_after in
    let ended = same_ended (is_taken a.act) (ends a.act) locks one.ended two.ended one.end_after known in
    let going : a.in_turn ≡ b.in_turn =
    one.going_on ∙ ap (λ (ended : Sessions). length (in_turn a.act ended locks)) ended ∙ ap (λ act. length (in_turn act two.ended locks)) e ∙ sym two.going_on in
    λ k. record { act = e k; at_once = granted k; in_turn = going k }

-- ---- only who blocks a wait alone helps

gone_by : (act : Act) (ticket : Ticket) → is_gone (is_taken act) (ends act) ticket ≡ true → (ticket.session == target_of act) ≡ true
gone_by (Kill target) ticket gone = twice (ticket.session == target) gone where
  twice : (a : Bool) → (a || a) ≡ true → a ≡ true
  twice true e = refl
  twice false e = e
gone_by (KillQuery target) ticket gone = part (ticket.session == target) ticket.of_statement gone where
  part : (a b : Bool) → ((a && b) || false) ≡ true → a ≡ true
  part true b e = refl
  part false b e = e

not_on : (gone blocked free alone : Bool) → (free ≡ true → alone ≡ true) → (blocked && alone) ≡ false → (q : Bool) → (not (not gone && blocked && free) || q) ≡ true
not_on true blocked free alone more none q = refl
not_on false false free alone more none q = refl
not_on false true false alone more none q = refl
not_on false true true alone more none q = absurd (false≢true (sym none ∙ more refl))

closed_at : (act : Act) (lock : LockView) (asks : List Ticket) → list_any (is_alone_before lock (target_of act)) asks ≡ false
    → list_all (λ ask. not (goes_on (is_gone (is_taken act) (ends act)) lock ask) || ends act ask.session) asks ≡ true
closed_at act lock [] none = refl
closed_at act lock (ask ∷ asks) none =
    let parts = or_parts (is_alone_before lock (target_of act) ask) (list_any (is_alone_before lock (target_of act)) asks) none in
    let gone = is_gone (is_taken act) (ends act) in
    and_from (not (goes_on gone lock ask) || ends act ask.session) (list_all (λ one. not (goes_on gone lock one) || ends act one.session) asks)
    (not_on (gone ask) (is_blocked lock ask) (is_free lock gone ask) (is_free lock (λ ticket. ticket.session == target_of act) ask)
    (still_free lock gone (λ ticket. ticket.session == target_of act) ask (gone_by act)) parts.0 (ends act ask.session))
    (closed_at act lock asks parts.1)

closed_in : (act : Act) (locks : List LockView) → frees_some locks (target_of act) ≡ false → is_closed (is_gone (is_taken act) (ends act)) (ends act) locks ≡ true
closed_in act [] none = refl
closed_in act (lock ∷ locks) none =
    let parts = or_parts (frees_at (target_of act) lock) (frees_some locks (target_of act)) none in
    let gone = is_gone (is_taken act) (ends act) in
    and_from (list_all (λ ask. not (goes_on gone lock ask) || ends act ask.session) lock.waiting) (is_closed gone (ends act) locks)
    (closed_at act lock lock.waiting parts.0) (closed_in act locks parts.1)

not_after : (act : Act) (ended : Sessions) → ((session : ℕ) → IsTrue (ended session) → IsTrue (ends act session)) → (lock : LockView) (ask : Ticket)
    → goes_on_after act ended lock ask ≡ false
not_after (Kill target) ended within lock ask =
    by (is_blocked lock ask) (ended ask.session) (ask.session == target) (within ask.session) where
      by : (a b c : Bool) → (b ≡ true → c ≡ true) → (a && b && not c) ≡ false
      by false b c more = refl
      by true false c more = refl
      by true true true more = refl
      by true true false more = absurd (false≢true (more refl))
not_after (KillQuery target) ended within lock ask =
    by (is_blocked lock ask) (ended ask.session) (ask.session == target) (within ask.session) where
      by : (a b c : Bool) → (b ≡ true → false ≡ true) → (a && b && not c) ≡ false
      by false b c more = refl
      by true false c more = refl
      by true true c more = absurd (false≢true (more refl))

none_at : (p : Ticket → Bool) → ((ask : Ticket) → p ask ≡ false) → (asks : List Ticket) → filter p asks ≡ []
none_at p none [] = refl
none_at p none (ask ∷ asks) = ap (λ b. cond b (ask ∷ filter p asks) (filter p asks)) (none ask) ∙ none_at p none asks

none_that : (test : LockView → Ticket → Bool) → ((lock : LockView) (ask : Ticket) → test lock ask ≡ false) → (place : ℕ) (locks : List LockView)
    → waits_that test place locks ≡ []
none_that test none place [] = refl
none_that test none place (lock ∷ locks) =
    ap (λ xs. map (at_lock place) xs ++ waits_that test (suc place) locks) (none_at (test lock) (none lock) lock.waiting) ∙ none_that test none (suc place) locks

pub helps_alone : (locks : List LockView) (way : Way) → IsWay locks way → 1 ≤ way.in_turn → frees_some locks (target_of way.act) ≡ true
helps_alone locks way is helps = by (frees_some locks (target_of way.act)) refl where
  by : (b : Bool) → frees_some locks (target_of way.act) ≡ b → b ≡ true
  by true e = refl
  by false e =
      let within = is.end_after.least (ends way.act) (λ session ended. ended) (closed_in way.act locks e) in
      let none : length (in_turn way.act is.ended locks) ≡ 0 = ap length (none_that (goes_on_after way.act is.ended) (not_after way.act is.ended within) 0 locks) in
      absurd (omega (arith, is.going_on, none))

-- ---- the order of the ways

bigger_trans : (x y z : ℕ) (p q r : Bool) → (p ≡ true → q ≡ true → r ≡ true) → (ltb y x || (eqb x y && p)) ≡ true → (ltb z y || (eqb y z && q)) ≡ true
    → (ltb z x || (eqb x z && r)) ≡ true
bigger_trans x y z p q r more xy yz =
    elim (or_cases (ltb y x) (eqb x y && p) xy) [
      | inl a ↦ let less = ltb-true y x a in elim (or_cases (ltb z y) (eqb y z && q) yz) [
        | inl b ↦ let below = ltb-true z y b in or_left (ltb z x) (eqb x z && r) (lt-ltb z x (omega arith))
        | inr b ↦ let same = eqb-true y z (and_parts (eqb y z) q b).0 in or_left (ltb z x) (eqb x z && r) (lt-ltb z x (omega arith))
      ]
      | inr a ↦ let equal = eqb-true x y (and_parts (eqb x y) p a).0 in elim (or_cases (ltb z y) (eqb y z && q) yz) [
        | inl b ↦ let below = ltb-true z y b in or_left (ltb z x) (eqb x z && r) (lt-ltb z x (omega arith))
        | inr b ↦ let same = eqb-true y z (and_parts (eqb y z) q b).0 in
            or_right (ltb z x) (eqb x z && r) (and_from (eqb x z) r (eq-eqb x z (equal ∙ same)) (more (and_parts (eqb x y) p a).1 (and_parts (eqb y z) q b).1))
      ]
    ]

spared_trans : (s t u p q r : Bool) → (p ≡ true → q ≡ true → r ≡ true) → ((s && not t) || (same_bool s t && p)) ≡ true → ((t && not u) || (same_bool t u && q)) ≡ true
    → ((s && not u) || (same_bool s u && r)) ≡ true
spared_trans true true true p q r more a b = more a b
spared_trans true true false p q r more a b = refl
spared_trans true false true p q r more a b = absurd (false≢true b)
spared_trans true false false p q r more a b = refl
spared_trans false true u p q r more a b = absurd (false≢true a)
spared_trans false false true p q r more a b = absurd (false≢true b)
spared_trans false false false p q r more a b = more a b

-- the order, layer by layer
abbrev layers : Way → Way → Bool
layers a b =
    ltb b.in_turn a.in_turn || (eqb a.in_turn b.in_turn && ((spares_session a.act && not (spares_session b.act))
    || (same_bool (spares_session a.act) (spares_session b.act) && (ltb b.at_once a.at_once || (eqb a.at_once b.at_once && ltb (target_of a.act) (target_of b.act))))))

layered : (x y : Act) (o i p j : ℕ) → is_better (record { act = x; at_once = o; in_turn = i }) (record { act = y; at_once = p; in_turn = j })
    ≡ layers (record { act = x; at_once = o; in_turn = i }) (record { act = y; at_once = p; in_turn = j })
layered (Kill s) (Kill t) o i p j = refl
layered (Kill s) (KillQuery t) o i p j = refl
layered (KillQuery s) (Kill t) o i p j = refl
layered (KillQuery s) (KillQuery t) o i p j = refl

by_layers : (a b : Way) → is_better a b ≡ layers a b
by_layers a b = layered a.act b.act a.at_once a.in_turn b.at_once b.in_turn

pub better_trans : (a b c : Way) → is_better a b ≡ true → is_better b c ≡ true → is_better a c ≡ true
better_trans a b c one two =
    by_layers a c ∙ bigger_trans a.in_turn b.in_turn c.in_turn _ _ _ (spared_trans (spares_session a.act) (spares_session b.act) (spares_session c.act) _ _ _
    (bigger_trans a.at_once b.at_once c.at_once _ _ _ (λ less more.
    let first = ltb-true (target_of a.act) (target_of b.act) less in let second = ltb-true (target_of b.act) (target_of c.act) more in
    lt-ltb (target_of a.act) (target_of c.act) (omega arith)))) (sym (by_layers a b) ∙ one) (sym (by_layers b c) ∙ two)

bigger_total : (x y : ℕ) (p q : Bool) → (p ≡ false → q ≡ true) → (ltb y x || (eqb x y && p)) ≡ false → (ltb x y || (eqb y x && q)) ≡ true
bigger_total x y p q other none =
    let parts = or_parts (ltb y x) (eqb x y && p) none in
    elim (cases_order x y) [
      | inl same ↦ or_right (ltb x y) (eqb y x && q) (and_from (eqb y x) q (eq-eqb y x (sym same)) (other (sym (ap (λ b. b && p) (eq-eqb x y same)) ∙ parts.1)))
      | inr apart ↦ elim apart [
        | inl less ↦ or_left (ltb x y) (eqb y x && q) (lt-ltb x y less)
        | inr more ↦ absurd (true≢false (sym (lt-ltb y x more) ∙ parts.0))
      ]
    ]

spared_total : (s t p q : Bool) → (s ≡ t → p ≡ false → q ≡ true) → ((s && not t) || (same_bool s t && p)) ≡ false → ((t && not s) || (same_bool t s && q)) ≡ true
spared_total true true p q other none = other refl none
spared_total true false p q other none = absurd (true≢false none)
spared_total false true p q other none = refl
spared_total false false p q other none = other refl none

same_act : (a b : Act) → spares_session a ≡ spares_session b → target_of a ≡ target_of b → a ≡ b
same_act (Kill x) (Kill y) kind target = ap Kill target
same_act (Kill x) (KillQuery y) kind target = absurd (false≢true kind)
same_act (KillQuery x) (Kill y) kind target = absurd (true≢false kind)
same_act (KillQuery x) (KillQuery y) kind target = ap KillQuery target

last_total : (x y : ℕ) → (x ≡ y → ⊥) → ltb x y ≡ false → ltb y x ≡ true
last_total x y apart none = let le = ltb-false x y none in lt-ltb y x (omega arith)

pub better_total : (a b : Way) → (a.act ≡ b.act → ⊥) → is_better a b ≡ false → is_better b a ≡ true
better_total a b apart none =
    by_layers b a ∙ bigger_total a.in_turn b.in_turn _ _ (spared_total (spares_session a.act) (spares_session b.act) _ _ (λ kind.
    bigger_total a.at_once b.at_once _ _ (last_total (target_of a.act) (target_of b.act) (λ target. apart (same_act a.act b.act kind target)))))
    (sym (by_layers a b) ∙ none)

-- ---- one more way in its place

pub pairs_insert : {X : Type 0} (R : X → X → Type 0) (xs : List X) (i : ℕ) (y : X) → i ≤ length xs → AllPairs R xs
    → ((k : ℕ) (d : X) → k < i → R (get_or xs k d) y) → ((k : ℕ) (d : X) → i ≤ k → k < length xs → R y (get_or xs k d)) → AllPairs R (insert xs i y)
pairs_insert {X} R xs i y within pairs before after = λ a b d less inside.
    let long = length-insert xs i y within in
    let to = λ (u v u' v' : X) (eu : u ≡ u') (ev : v ≡ v') (r : R u' v'). subst (λ x. R x v) (sym eu) (subst (λ x. R u' x) (sym ev) r) in
    elim (cases_order b i) [
      | inl same ↦ let below : a < i = omega arith in
          to _ _ _ _ (get_or-insert_below xs i y d a below within) (ap (λ n. get_or (insert xs i y) n d) same ∙ get_or-insert_at xs i y d within) (before a d below)
      | inr apart ↦ elim apart [
        | inl under ↦ let below : a < i = omega arith in let room : b < length xs = omega arith in
            to _ _ _ _ (get_or-insert_below xs i y d a below within) (get_or-insert_below xs i y d b under within) (pairs a b d less room)
        | inr over ↦
            let last : i ≤ b - 1 = omega arith in
            let back : b ≡ b - 1 + 1 = omega arith in
            let room : b - 1 < length xs = omega arith in
            let there : get_or (insert xs i y) b d ≡ get_or xs (b - 1) d = ap (λ n. get_or (insert xs i y) n d) back ∙ get_or-insert_above xs i y d (b - 1) last within in
            elim (cases_order a i) [
              | inl same ↦ to _ _ _ _ (ap (λ n. get_or (insert xs i y) n d) same ∙ get_or-insert_at xs i y d within) there (after (b - 1) d last room)
              | inr other ↦ elim other [
                | inl under ↦ let less_so : a < b - 1 = omega arith in
                    to _ _ _ _ (get_or-insert_below xs i y d a under within) there (pairs a (b - 1) d less_so room)
                | inr above ↦
                    let low : i ≤ a - 1 = omega arith in
                    let back_so : a ≡ a - 1 + 1 = omega arith in
                    let less_so : a - 1 < b - 1 = omega arith in
                    to _ _ _ _ (ap (λ n. get_or (insert xs i y) n d) back_so ∙ get_or-insert_above xs i y d (a - 1) low within) there
                    (pairs (a - 1) (b - 1) d less_so room)
              ]
            ]
      ]
    ]

-- what holds of an element as it is read holds of it by any default
pub read_any : {X : Type 0} (P : X → Type 0) (xs : List X) (i : ℕ) (e : X) → i < length xs → P (get_or xs i e) → HoldsAt P xs i
read_any P xs i e inside here = λ d. subst P (get_or_default xs i e d inside) here

-- a way before the first that it is better than
pub placed_in_order : (ways : List Way) (way : Way) (i : ℕ) → i ≤ length ways → All (λ other. other.act ≢ way.act) ways → AreOrdered ways
    → AllWithin (λ other. is_better way other ≡ false) ways 0 i → (i < length ways → HoldsAt (λ other. is_better way other ≡ true) ways i)
    → AreOrdered (insert ways i way)
placed_in_order ways way i within apart ordered before at =
    pairs_insert (λ one other. IsTrue (is_better one other)) ways i way within ordered
    (λ k d less. let inside : k < length ways = omega arith in
    better_total way (get_or ways k d) (λ same. apart k d inside (sym same)) (before k d (omega arith) less))
    (λ k d low inside. let room : i < length ways = omega arith in
    elim (cases_order k i) [
      | inl same ↦ subst (λ n. is_better way (get_or ways n d) ≡ true) (sym same) (at room d)
      | inr other ↦ elim other [
        | inl less ↦ absurd (omega arith)
        | inr more ↦ better_trans way (get_or ways i d) (get_or ways k d) (at room d) (ordered i k d more inside)
      ]
    ])

-- likewise, where the ways are seen through a slice
pub placed_seen : (ways seen : List Way) (way : Way) (i : ℕ) → seen ≡ ways → i ≤ length seen → All (λ other. other.act ≢ way.act) ways → AreOrdered ways
    → AllWithin (λ other. is_better way other ≡ false) seen 0 i → (i < length seen → HoldsAt (λ other. is_better way other ≡ true) seen i)
    → AreOrdered (insert ways i way)
placed_seen ways seen way i same within apart ordered before at =
    placed_in_order ways way i (subst (λ (xs : List Way). i ≤ length xs) same within) apart ordered
    (subst (λ (xs : List Way). AllWithin (λ other. is_better way other ≡ false) xs 0 i) same before)
    (λ room. subst (λ (xs : List Way). HoldsAt (λ other. is_better way other ≡ true) xs i) same (at (subst (λ (xs : List Way). i < length xs) (sym same) room)))

pub placed_among : (named : Bool) (ways new : List Way) (way : Way) (i : ℕ) → named ≡ true → new ≡ insert ways i way → IsPermutation (with_way named way ways) new
placed_among true ways new way i is so = subst (IsPermutation (way ∷ ways)) (sym so) (IsPermutation-insert ways i way)
placed_among false ways new way i is so = absurd (false≢true is)

pub not_placed : (named : Bool) (ways : List Way) (way : Way) → named ≡ false → IsPermutation (with_way named way ways) ways
not_placed true ways way is = absurd (true≢false is)
not_placed false ways way is = IsPermutation-refl ways

-- ---- the ways about one more session

-- a way about a session of a higher number isn't among these
pub apart_below : (session : ℕ) (ways : List Way) (way : Way) → target_of way.act ≡ session → All (λ other. target_of other.act < session) ways
    → All (λ other. other.act ≢ way.act) ways
apart_below session ways way about low =
    All-weaker (λ other. target_of other.act < session) (λ other. other.act ≢ way.act)
    (λ other less same. let equal = ap target_of same in absurd (omega arith)) ways low

-- nor is the other act about it
pub apart_query : (session : ℕ) (old mid : List Way) (query kill : Way) (named : Bool) → query.act ≡ KillQuery session → kill.act ≡ Kill session
    → All (λ other. target_of other.act < session) old → IsPermutation (cond named (query ∷ old) old) mid → All (λ other. other.act ≢ kill.act) mid
apart_query session old mid query kill named act_query act_kill low same =
    All-permutation (λ other. other.act ≢ kill.act) (cond named (query ∷ old) old) mid same
    (by named (λ equal. true≢false (ap spares_session (sym act_query ∙ equal ∙ act_kill))) (apart_below session old kill (ap target_of act_kill) low)) where
      by : (b : Bool) → (query.act ≢ kill.act) → All (λ other. other.act ≢ kill.act) old → All (λ other. other.act ≢ kill.act) (cond b (query ∷ old) old)
      by true first all = All-cons (λ other. other.act ≢ kill.act) query old first all
      by false first all = all

contains_old : (named : Bool) (way : Way) (ways : List Way) (one : Way) → Contains ways one → Contains (with_way named way ways) one
contains_old true way ways one (k, within, is) = let more : suc k < suc (length ways) = omega arith in (suc k, more, is)
contains_old false way ways one there = there

contains_new : (named : Bool) (way : Way) (ways : List Way) → named ≡ true → Contains (with_way named way ways) way
contains_new true way ways is = let more : 0 < suc (length ways) = omega arith in (zero, more, refl)
contains_new false way ways is = absurd (false≢true is)

all_with : (P : Way → Type 0) (named : Bool) (way : Way) (ways : List Way) → (named ≡ true → P way) → All P ways → All P (with_way named way ways)
all_with P true way ways is all = All-cons P way ways (is refl) all
all_with P false way ways is all = all

module _ (locks : List LockView) (session : ℕ) (query kill : Way) (is_query : IsWay locks query) (is_kill : IsWay locks kill)
    (act_query : query.act ≡ KillQuery session) (act_kill : kill.act ≡ Kill session) where
  query_worth : leb 1 query.in_turn ≡ true → IsWorthNaming locks query
  query_worth helps = record {
    helps = leb-true 1 query.in_turn helps;
    beats_query = λ other kills is other_act. absurd (true≢false (ap spares_session (sym act_query ∙ kills)));
  }

  kill_worth : ltb query.in_turn kill.in_turn ≡ true → IsWorthNaming locks kill
  kill_worth more =
      let less = ltb-true query.in_turn kill.in_turn more in record {
        helps = omega arith;
        beats_query = λ other kills is other_act.
            let same = same_way locks other query is is_query (other_act ∙ ap KillQuery (ap target_of act_kill) ∙ sym act_query) in
            let number : other.in_turn ≡ query.in_turn = ap (λ (way : Way). way.in_turn) same in omega arith;
      }

  -- a way about this session that is worth naming is one of the two
  named_query : (way : Way) → IsWay locks way → IsWorthNaming locks way → way.act ≡ KillQuery session → (query ≡ way) × (leb 1 query.in_turn ≡ true)
  named_query way is worth act =
      let same = same_way locks query way is_query is (act_query ∙ sym act) in
      let number : query.in_turn ≡ way.in_turn = ap (λ (one : Way). one.in_turn) same in
      let helps = worth.helps in
      (same, le-leb 1 query.in_turn (omega arith))

  named_kill : (way : Way) → IsWay locks way → IsWorthNaming locks way → way.act ≡ Kill session → (kill ≡ way) × (ltb query.in_turn kill.in_turn ≡ true)
  named_kill way is worth act =
      let same = same_way locks kill way is_kill is (act_kill ∙ sym act) in
      let number : kill.in_turn ≡ way.in_turn = ap (λ (one : Way). one.in_turn) same in
      let about : target_of way.act ≡ session = ap target_of act in
      let beats = worth.beats_query query (act ∙ ap Kill (sym about)) is_query (act_query ∙ ap KillQuery (sym about)) in
      (same, lt-ltb query.in_turn kill.in_turn (omega arith))

  pub ways_more : (old mid new : List Way) → AreWaysBelow locks session old
      → IsPermutation (with_way (leb 1 query.in_turn) query old) mid → IsPermutation (with_way (ltb query.in_turn kill.in_turn) kill mid) new
      → AreOrdered new → AreWaysBelow locks (session + 1) new
  ways_more old mid new known first second ordered =
      let named = leb 1 query.in_turn in
      let better = ltb query.in_turn kill.in_turn in
      let Each = λ (way : Way). IsWay locks way × IsWorthNaming locks way in
      let Low = λ (way : Way). target_of way.act < session + 1 in
      let old_low = All-weaker (λ way. target_of way.act < session) Low (λ way (less : target_of way.act < session). omega arith) old known.below in
      let query_low : Low query = let about = ap target_of act_query in omega (arith, about) in
      let kill_low : Low kill = let about = ap target_of act_kill in omega (arith, about) in
      let kept = λ (way : Way) (there : Contains mid way). Contains-permutation (with_way better kill mid) new way second (contains_old better kill mid way there) in
      record {
        each = All-permutation Each (with_way better kill mid) new second (all_with Each better kill mid (λ is. (is_kill, kill_worth is))
            (All-permutation Each (with_way named query old) mid first (all_with Each named query old (λ is. (is_query, query_worth is)) known.each)));
        below = All-permutation Low (with_way better kill mid) new second (all_with Low better kill mid (λ is. kill_low)
            (All-permutation Low (with_way named query old) mid first (all_with Low named query old (λ is. query_low) old_low)));
        all = λ way is worth less. elim (cases_order (target_of way.act) session) [
          | inl same ↦ this way is worth same
          | inr apart ↦ elim apart [
            | inl low ↦ kept way (Contains-permutation (with_way named query old) mid way first (contains_old named query old way (known.all way is worth low)))
            | inr high ↦ absurd (omega arith)
          ]
        ];
        in_order = ordered;
      } where
        this : (way : Way) → IsWay locks way → IsWorthNaming locks way → target_of way.act ≡ session → Contains new way
        this way is worth about = by way.act refl where
          by : (act : Act) → way.act ≡ act → Contains new way
          by (Kill target) e =
              let found = named_kill way is worth (e ∙ ap Kill (sym (ap target_of e) ∙ about)) in
              subst (Contains new) found.0 (Contains-permutation (with_way (ltb query.in_turn kill.in_turn) kill mid) new kill second
              (contains_new (ltb query.in_turn kill.in_turn) kill mid found.1))
          by (KillQuery target) e =
              let found = named_query way is worth (e ∙ ap KillQuery (sym (ap target_of e) ∙ about)) in
              subst (Contains new) found.0 (Contains-permutation (with_way (ltb query.in_turn kill.in_turn) kill mid) new query second
              (contains_old (ltb query.in_turn kill.in_turn) kill mid query
              (Contains-permutation (with_way (leb 1 query.in_turn) query old) mid query first (contains_new (leb 1 query.in_turn) query old found.1))))

-- a session that blocks nobody alone adds none
pub ways_skip : (locks : List LockView) (session : ℕ) (ways : List Way) → frees_some locks session ≡ false → AreWaysBelow locks session ways
    → AreWaysBelow locks (session + 1) ways
ways_skip locks session ways none known = record {
  each = known.each;
  below = All-weaker (λ way. target_of way.act < session) (λ way. target_of way.act < session + 1) (λ way (less : target_of way.act < session). omega arith) ways known.below;
  all = λ way is worth less. elim (cases_order (target_of way.act) session) [
    | inl same ↦ absurd (true≢false (sym (helps_alone locks way is worth.helps) ∙ ap (frees_some locks) same ∙ none))
    | inr apart ↦ elim apart [
      | inl low ↦ known.all way is worth low
      | inr high ↦ absurd (omega arith)
    ]
  ];
  in_order = known.in_order;
}

-- behind the last session that blocks somebody alone there are none
pub ways_all : (locks : List LockView) (limit : ℕ) (ways : List Way) → ((session : ℕ) → limit ≤ session → frees_some locks session ≡ false)
    → AreWaysBelow locks limit ways → AreWays locks ways
ways_all locks limit ways none known = record {
  each = known.each;
  all = λ way is worth. elim (cases_lt (target_of way.act) limit) [
    | inl low ↦ known.all way is worth low
    | inr high ↦ absurd (true≢false (sym (helps_alone locks way is worth.helps) ∙ none (target_of way.act) high))
  ];
  in_order = known.in_order;
}

pub no_ways : (locks : List LockView) → AreWaysBelow locks 0 []
no_ways locks = record {
  each = All-nil (λ way. IsWay locks way × IsWorthNaming locks way);
  below = All-nil (λ way. target_of way.act < 0);
  all = λ way is worth less. absurd (omega arith);
  in_order = λ i j d less inside. absurd (omega arith);
}

-- a session that isn't among those that block somebody alone
pub not_alone : (frees member : Bool) → (frees ≡ true → member ≡ true) → member ≡ false → frees ≡ false
not_alone true member known none = absurd (true≢false (sym (known refl) ∙ none))
not_alone false member known none = refl
