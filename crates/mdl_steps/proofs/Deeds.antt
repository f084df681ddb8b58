-- A session's deeds under a latch keep what the rule says of the book.
use Rattle.std.proofs.Common.{◌≡◌, ◌≢◌, ℕ, zero, suc, ◌<◌, ◌==◌, ◌||◌, Bool, true, false, not, cond, List, [], ◌∷◌, ◌++◌, map, set, Some, None, refl, sym, ap, ◌∙◌, subst, inl, inr, arith, rules, append_assoc, Option}
use Rattle.mdl_book.proofs.FastLemmas.{may_stand-covered}
use Rattle.mdl_steps.proofs.FirstLemmas.{AllPass-from_list_all, Alter, BookView, Each, IsAtLeast, Kind, Lawful, Lose, MayJoin, Mode, NotedCounts, Once, Part, SessionTicket, Ticket, all-mode, all-without, all_fast, and_from, and_parts, by_bool, cases_eq, clashes, get_elem?, in_mode, is_compatible, is_itself, is_lawful, is_mode_of, is_obtrusive, is_passed, is_ticket, lawful_changed-beside, lawful_push, lawful_without-beside, list_all, list_all-append, lock_kind, note_at, of-altered, of-altered_other, of-lost, of-lost_other, of-mode_other, of-mode_own, of-push_other, of-without_other, of-without_own, of_other, of_other_number, once-mode, once-push, once-without, option_map, option_to_list, or_right, owned, shown, shown-push, some, some-injective, stands_beside, ticket_by, ticket_of, with_mode, without}
use Rattle.mdl_steps.proofs.Latch.{of-unwaited}

-- ---- lists

pub set_twice : {A : Type 0} → (xs : List A) (i : ℕ) (a b : A) → set (set xs i a) i b ≡ set xs i b
set_twice [] i a b = refl
set_twice (x ∷ xs) zero a b = refl
set_twice (x ∷ xs) (suc i) a b = ap (λ ys. x ∷ ys) (set_twice xs i a b)

-- a part that has the same fast tickets
pub all_fast-set : (parts : List Part) (id : ℕ) (x y : Part) → get_elem? parts id ≡ some x → y.number ≡ x.number → y.fast ≡ x.fast → all_fast (set parts id y) ≡ all_fast parts
all_fast-set [] id x y at number fast = refl
all_fast-set (z ∷ zs) zero x y at number fast =
    let same : z ≡ x = some-injective z x at in
    (λ i. map (ticket_by (number i)) (fast i) ++ all_fast zs) ∙ sym (ap (λ (w : Part). map (ticket_by w.number) w.fast ++ all_fast zs) same)
all_fast-set (z ∷ zs) (suc id) x y at number fast = ap (λ ts. map (ticket_by z.number) z.fast ++ ts) (all_fast-set zs id x y at number fast)

-- ---- what may stand beside all that is granted

unobtrusive_pair : (kind : Kind) (a b : Mode) → is_obtrusive kind a ≡ false → is_obtrusive kind b ≡ false → clashes kind a b ≡ false
unobtrusive_pair kind a b first second = search rules

not_true : (b : Bool) → not b ≡ true → b ≡ false
not_true true e = cc
not_true false e = refl

pub unobtrusive_beside : (kind : Kind) (session : ℕ) (mode : Mode) (fast : List Ticket) → is_obtrusive kind mode ≡ false → list_all (λ t. not (is_obtrusive kind t.mode)) fast ≡ true → is_compatible kind fast session mode ≡ true
unobtrusive_beside kind session mode [] wish all = refl
unobtrusive_beside kind session mode (t ∷ ts) wish all =
    let parts = and_parts (not (is_obtrusive kind t.mode)) (list_all (λ t. not (is_obtrusive kind t.mode)) ts) all in
    and_from (stands_beside kind session mode t) (is_compatible kind ts session mode)
    (rw (unobtrusive_pair kind mode t.mode wish (not_true (is_obtrusive kind t.mode) parts.0)) (or_right (t.session == session) true refl))
    (unobtrusive_beside kind session mode ts wish parts.1)

pub weaker_stands : (kind : Kind) (session : ℕ) (strong weak : Mode) → IsAtLeast kind strong weak → (xs : List Ticket) → is_compatible kind xs session strong ≡ true → is_compatible kind xs session weak ≡ true
weaker_stands kind session strong weak least [] all = refl
weaker_stands kind session strong weak least (x ∷ xs) all =
    let parts = and_parts (stands_beside kind session strong x) (is_compatible kind xs session strong) all in
    and_from (stands_beside kind session weak x) (is_compatible kind xs session weak)
    (by_bool (clashes kind weak x.mode)
    (λ clash. let strongly : clashes kind strong x.mode ≡ true = least x.mode clash in
    let own : (x.session == session || not true) ≡ true = rw strongly at parts.0 in rw clash own)
    (λ free. rw free (or_right (x.session == session) true refl)))
    (weaker_stands kind session strong weak least xs parts.1)

pub may_join : (session : ℕ) (book : BookView) (fast : List Ticket) (obtrusive : Bool) (noted : Option ℕ) (mode : Mode)
    → Lawful (lock_kind book) fast book.granted → NotedCounts (lock_kind book) fast obtrusive noted → MayJoin session book noted mode
    → is_compatible (lock_kind book) (fast ++ book.granted) session mode ≡ true
may_join session book fast obtrusive noted mode lawful counts may =
    let kind : Kind = lock_kind book in
    elim may [
      | inl free ↦
          list_all-append (stands_beside kind session mode) fast book.granted
          ∙ and_from _ _ (unobtrusive_beside kind session mode fast free.0 lawful.unobtrusive) free.1
      | inr later ↦ elim later [
        | inl word ↦ may_stand-covered (counts word.0 word.1).1 book.granted session mode word.2
        | inr own ↦
            let test : Ticket → Bool = λ a. is_compatible kind (fast ++ book.granted) a.session a.mode in
            let all = (and_parts (list_all test fast) (list_all test book.granted) (sym (list_all-append test fast book.granted) ∙ lawful.compatible)).1 in
            let there = own.1 in
            let stands : test own.0 ≡ true = subst (λ (t : Ticket). test t ≡ true) there.2 (AllPass-from_list_all test book.granted all there.0 own.0 there.1) in
            weaker_stands kind session own.0.mode mode own.3 (fast ++ book.granted) (subst (λ (s : ℕ). is_compatible kind (fast ++ book.granted) s own.0.mode ≡ true) own.2 stands)
      ]
    ]

-- ---- what a deed does to the granted list and to the session's own

pub record Deeded (kind : Kind) (fast granted granted′ : List Ticket) (session place : ℕ) (waited : Option Ticket) (slow′ : List SessionTicket) : Type 0 where
  pub lawful : Lawful kind fast granted′
  pub once : Once granted′
  pub same : (m : ℕ) → ticket_of session m granted′ ≡ ticket_of session m (option_to_list waited ++ shown session place slow′)
  pub apart : (t : Ticket) → waited ≡ Some t → ticket_of session t.number (shown session place slow′) ≡ None
  pub else : (a m : ℕ) → a ≢ session → ticket_of a m granted′ ≡ ticket_of a m granted

-- behind the waited ticket, look-ups that agree go on to agree
behind : (session m : ℕ) (waited : Option Ticket) (xs ys : List Ticket) → ticket_of session m xs ≡ ticket_of session m ys
    → ticket_of session m (option_to_list waited ++ xs) ≡ ticket_of session m (option_to_list waited ++ ys)
behind session m None xs ys e = e
behind session m (Some t) xs ys e = ap (λ o. cond (is_ticket session m t) (Some t) o) e

of-push_none : (a m : ℕ) (t : Ticket) (ts : List Ticket) → is_ticket a m t ≡ true → ticket_of a m ts ≡ None → ticket_of a m (ts ++ t ∷ []) ≡ Some t
of-push_none a m t [] is none = rw is refl
of-push_none a m t (x ∷ ts) is none = by_bool (is_ticket a m x)
    (λ found. let first = rw found at none in absurd (cc))
    (λ past. rw past (of-push_none a m t ts is (rw past at none)))

-- a ticket with the next number is none of them
fresh_shown : (session place next : ℕ) (ts : List SessionTicket) → Each (λ (t : SessionTicket). t.number < next) ts → ticket_of session next (shown session place ts) ≡ None
fresh_shown session place next [] all = refl
fresh_shown session place next (t ∷ ts) all = by_bool (t.place == place)
    (λ here. rw here (rw (of_other_number session next (ticket_by session t) (let below = all.0 in λ e. omega arith)) (fresh_shown session place next ts all.1)))
    (λ away. rw away (fresh_shown session place next ts all.1))

-- another ticket of the session, or one of another session
differs_number : (session number m : ℕ) → m ≢ number → (t : Ticket) → is_ticket session number t ≡ true → is_ticket session m t ≡ false
differs_number session number m else t is = of_other_number session m t (λ e. else (sym e ∙ (is_passed session number t is).1))

differs_session : (session number a m : ℕ) → a ≢ session → (t : Ticket) → is_ticket session number t ≡ true → is_ticket a m t ≡ false
differs_session session number a m else t is = of_other a m t (λ e. else (sym e ∙ (is_passed session number t is).0))

module _ (kind : Kind) (fast granted : List Ticket) (session place : ℕ) (waited : Option Ticket) (slow : List SessionTicket) (lawful : Lawful kind fast granted) (once : Once granted)
    (same : (m : ℕ) → ticket_of session m granted ≡ ticket_of session m (option_to_list waited ++ shown session place slow))
    (apart : (t : Ticket) → waited ≡ Some t → ticket_of session t.number (shown session place slow) ≡ None) where
  modes_here : list_all (λ t. is_mode_of kind t.mode) fast ≡ true
  modes_here = (and_parts (list_all (λ t. is_mode_of kind t.mode) fast) (list_all (λ t. is_mode_of kind t.mode) granted) (sym (list_all-append (λ t. is_mode_of kind t.mode) fast granted) ∙ lawful.modes)).0

  modes_there : list_all (λ t. is_mode_of kind t.mode) granted ≡ true
  modes_there = (and_parts (list_all (λ t. is_mode_of kind t.mode) fast) (list_all (λ t. is_mode_of kind t.mode) granted) (sym (list_all-append (λ t. is_mode_of kind t.mode) fast granted) ∙ lawful.modes)).1

  modes_of : (granted′ : List Ticket) → list_all (λ t. is_mode_of kind t.mode) granted′ ≡ true → list_all (λ t. is_mode_of kind t.mode) (fast ++ granted′) ≡ true
  modes_of granted′ there = list_all-append (λ t. is_mode_of kind t.mode) fast granted′ ∙ and_from _ _ modes_here there

  pub gains : (number next : ℕ) (mode : Mode) → number ≡ next → Each (λ (t : SessionTicket). t.number < next) slow → ((t : Ticket) → waited ≡ Some t → t.number < next)
      → is_mode_of kind mode ≡ true → is_compatible kind (fast ++ granted) session mode ≡ true
      → Deeded kind fast granted (granted ++ record { session = session; number = number; mode = mode } ∷ []) session place waited (slow ++ record { number = number; place = place; mode = mode; noted = note_at place slow } ∷ [])
  gains number next mode is below waited_below of_kind compatible =
      let t : Ticket = record { session = session; number = number; mode = mode } in
      let own : SessionTicket = record { number = number; place = place; mode = mode; noted = note_at place slow } in
      let shown_is = shown-push session place own slow refl in
      let not_waited : (u : Ticket) → waited ≡ Some u → u.number ≢ number = λ u w e. let less = waited_below u w in omega arith in
      let not_shown : ticket_of session number (shown session place slow) ≡ None = subst (λ (m : ℕ). ticket_of session m (shown session place slow) ≡ None) (sym is) (fresh_shown session place next slow below) in
      let not_granted : ticket_of session number granted ≡ None = same number ∙ of-unwaited session number waited (shown session place slow) not_waited ∙ not_shown in
      record {
        lawful = record {
          compatible = subst (λ ts. is_lawful kind ts ≡ true) (append_assoc fast granted (t ∷ [])) (lawful_push kind (fast ++ granted) t compatible lawful.compatible);
          modes = modes_of (granted ++ t ∷ []) (list_all-append (λ t. is_mode_of kind t.mode) granted (t ∷ []) ∙ and_from _ _ modes_there (and_from (is_mode_of kind mode) true of_kind refl));
          unobtrusive = lawful.unobtrusive;
        };
        once = once-push t granted not_granted once;
        same = λ m. elim (cases_eq m number) [
          | inl e ↦
              subst (λ (k : ℕ). ticket_of session k (granted ++ t ∷ []) ≡ ticket_of session k (option_to_list waited ++ shown session place (slow ++ own ∷ []))) (sym e)
              (of-push_none session number t granted (is_itself t) not_granted
              ∙ sym (of-unwaited session number waited (shown session place (slow ++ own ∷ [])) not_waited ∙ ap (ticket_of session number) shown_is ∙ of-push_none session number t (shown session place slow) (is_itself t) not_shown))
          | inr e ↦
              let past : is_ticket session m t ≡ false = of_other_number session m t (λ d. e (sym d)) in
              of-push_other session m t granted past ∙ same m
              ∙ sym (behind session m waited (shown session place (slow ++ own ∷ [])) (shown session place slow) (ap (ticket_of session m) shown_is ∙ of-push_other session m t (shown session place slow) past))
        ];
        apart = λ u w. ap (ticket_of session u.number) shown_is ∙ of-push_other session u.number t (shown session place slow) (of_other_number session u.number t (λ d. not_waited u w (sym d))) ∙ apart u w;
        else = λ a m differs. of-push_other a m t granted (of_other a m t (λ d. differs (sym d)));
      }

  pub loses : (number : ℕ) → ((t : Ticket) → waited ≡ Some t → t.number ≢ number) → Deeded kind fast granted (without session number granted) session place waited (owned place (Lose number) slow)
  loses number not_waited = record {
    lawful = record {
      compatible = lawful_without-beside kind session number fast granted lawful.compatible;
      modes = modes_of (without session number granted) (all-without session number (λ t. is_mode_of kind t.mode) granted modes_there);
      unobtrusive = lawful.unobtrusive;
    };
    once = once-without session number granted once;
    same = λ m. elim (cases_eq m number) [
      | inl e ↦ subst (λ (k : ℕ). ticket_of session k (without session number granted) ≡ ticket_of session k (option_to_list waited ++ shown session place (owned place (Lose number) slow))) (sym e)
          (of-without_own session number granted once ∙ sym (of-unwaited session number waited (shown session place (owned place (Lose number) slow)) not_waited ∙ of-lost session place number slow))
      | inr e ↦ of-without_other session number session m (differs_number session number m e) granted ∙ same m
          ∙ sym (behind session m waited (shown session place (owned place (Lose number) slow)) (shown session place slow) (of-lost_other session place number m slow e))
    ];
    apart = λ u w. of-lost_other session place number u.number slow (not_waited u w) ∙ apart u w;
    else = λ a m differs. of-without_other session number a m (differs_session session number a m differs) granted;
  }

  pub alters : (number : ℕ) (mode : Mode) → ((t : Ticket) → waited ≡ Some t → t.number ≢ number) → is_mode_of kind mode ≡ true → is_compatible kind (fast ++ granted) session mode ≡ true
      → Deeded kind fast granted (with_mode session number mode granted) session place waited (owned place (Alter number mode) slow)
  alters number mode not_waited of_kind compatible = record {
    lawful = record {
      compatible = lawful_changed-beside kind session number mode fast granted compatible lawful.compatible;
      modes = modes_of (with_mode session number mode granted) (all-mode session number (λ t. is_mode_of kind t.mode) mode (λ t. of_kind) granted modes_there);
      unobtrusive = lawful.unobtrusive;
    };
    once = once-mode session number mode granted once;
    same = λ m. elim (cases_eq m number) [
      | inl e ↦ subst (λ (k : ℕ). ticket_of session k (with_mode session number mode granted) ≡ ticket_of session k (option_to_list waited ++ shown session place (owned place (Alter number mode) slow))) (sym e)
          (of-mode_own session number mode granted ∙ ap (option_map (in_mode mode)) (same number ∙ of-unwaited session number waited (shown session place slow) not_waited)
          ∙ sym (of-unwaited session number waited (shown session place (owned place (Alter number mode) slow)) not_waited ∙ of-altered session place number mode slow))
      | inr e ↦ of-mode_other session number session m (differs_number session number m e) mode granted ∙ same m
          ∙ sym (behind session m waited (shown session place (owned place (Alter number mode) slow)) (shown session place slow) (of-altered_other session place number m mode slow e))
    ];
    apart = λ u w. of-altered_other session place number u.number mode slow (not_waited u w) ∙ apart u w;
    else = λ a m differs. of-mode_other session number a m (differs_session session number a m differs) mode granted;
  }
