-- Counts by mode: what one ticket more or less does to them, and what they tell of the tickets.
use Rattle.std.proofs.Common.{◌≡◌, ℕ, ◌+◌, ◌-◌, ◌*◌, ◌<◌, ◌≤◌, Bool, true, false, not, ◌&&◌, ◌||◌, cond, nat_eq, nat_lt, List, [], ◌∷◌, ◌++◌, length, get_or, refl, sym, ap, ◌∙◌, arith, inl, inr}
use Rattle.std.specs.List.{list_all, list_any, remove}
use Rattle.std.proofs.Math.ListN.{set}
use Rattle.std.proofs.lemmas.Bool.{cases_eq, eq-eqb, ne_eqb, eqb-true, ltb-true, or_left, or_right}
use Rattle.std.proofs.lemmas.Bool.Decides.{nat_tests}
use Rattle.std.proofs.lemmas.List.{get_or-set_same, get_or-set_other, length-set}
use Rattle.std.proofs.lemmas.List.Edits.{length-remove}
use Rattle.std.proofs.lemmas.List.Sums.{sum_by_push, sum_by-remove, sum_by-set, get_or-le-sum_by, count_by-le-length, sum_by-le, list_all-from_AllPass, AllPass-from_list_all}
use Rattle.mdl_key.specs.declared.mode.Mode.{Mode}
use Rattle.mdl_key.specs.declared.mode.Mode.TheVariants.{IX}
use Rattle.mdl_key.specs.Modes.{mode_rank, same_mode, all_modes}
use Rattle.mdl_key.proofs.MatrixLemmas.{each_mode}
use Rattle.mdl_key.proofs.ModeLemmas.{at_rank}
use Rattle.mdl_book.specs.declared.ticket.Ticket.{Ticket}
use Rattle.mdl_book.specs.Tickets.{in_mode}
use Rattle.mdl_book.specs.TicketLists.{count_in, CountsModes, none_counted}

-- ---- one number of a list, one more or one less

counted_once : (b : Bool) → b ≡ true → cond {A = ℕ} b 1 0 ≡ 1
counted_once true e = refl
counted_once false e = cc

counted_never : (b : Bool) → b ≡ false → cond {A = ℕ} b 1 0 ≡ 0
counted_never true e = cc
counted_never false e = refl

raised : (counts : List ℕ) (r s before after : ℕ) → r < length counts → get_or counts s 0 ≡ before → after ≡ before + cond (nat_eq s r) 1 0 → get_or (set counts r (get_or counts r 0 + 1)) s 0 ≡ after
raised counts r s before after inside was is =
    elim (cases_eq s r) [
      | inl same ↦
          let at : get_or counts r 0 ≡ before = ap (λ k. get_or counts k 0) (sym same) ∙ was in
          let counted = counted_once (nat_eq s r) (eq-eqb s r same) in
          ap (λ k. get_or (set counts r (get_or counts r 0 + 1)) k 0) same ∙ get_or-set_same counts r (get_or counts r 0 + 1) 0 inside ∙ omega arith
      | inr differs ↦
          let counted = counted_never (nat_eq s r) (ne_eqb s r differs) in
          get_or-set_other counts r s (get_or counts r 0 + 1) 0 differs ∙ omega arith
    ]

lowered : (counts : List ℕ) (r s before after : ℕ) → r < length counts → get_or counts s 0 ≡ before → after + cond (nat_eq s r) 1 0 ≡ before → get_or (set counts r (get_or counts r 0 - 1)) s 0 ≡ after
lowered counts r s before after inside was is =
    elim (cases_eq s r) [
      | inl same ↦
          let at : get_or counts r 0 ≡ before = ap (λ k. get_or counts k 0) (sym same) ∙ was in
          let counted = counted_once (nat_eq s r) (eq-eqb s r same) in
          ap (λ k. get_or (set counts r (get_or counts r 0 - 1)) k 0) same ∙ get_or-set_same counts r (get_or counts r 0 - 1) 0 inside ∙ omega arith
      | inr differs ↦
          let counted = counted_never (nat_eq s r) (ne_eqb s r differs) in
          get_or-set_other counts r s (get_or counts r 0 - 1) 0 differs ∙ omega arith
    ]

-- ---- the counts of a list of tickets

-- there are eleven modes
pub rank-lt : (mode : Mode) → mode_rank mode < 11
rank-lt mode = ltb-true _ _ (each_mode (λ m. nat_lt (mode_rank m) 11) refl mode)

-- how often a ticket is counted at a mode
abbrev one : Mode → Ticket → ℕ
one mode ticket = cond (same_mode mode ticket.mode) 1 0

module _ (counts : List ℕ) (tickets : List Ticket) (ticket : Ticket) (eleven : length counts ≡ 11) (counted : CountsModes counts tickets) where
  inside : mode_rank ticket.mode < length counts
  inside = let below = rank-lt ticket.mode in omega arith

  -- once it is counted at the end
  pub counts-push : CountsModes (set counts (mode_rank ticket.mode) (get_or counts (mode_rank ticket.mode) 0 + 1)) (tickets ++ ticket ∷ [])
  counts-push mode =
      raised counts (mode_rank ticket.mode) (mode_rank mode) (count_in mode tickets) (count_in mode (tickets ++ ticket ∷ [])) inside (counted mode) (sum_by_push (one mode) tickets ticket)

  module _ (at : ℕ) (within : at < length tickets) (is : ticket ≡ get_or tickets at ticket) where
    gone : (mode : Mode) → count_in mode (remove tickets at) + one mode ticket ≡ count_in mode tickets
    gone mode = ap (λ t. count_in mode (remove tickets at) + one mode t) is ∙ sum_by-remove (one mode) tickets at ticket within

    abbrev fewer : List ℕ
    fewer = set counts (mode_rank ticket.mode) (get_or counts (mode_rank ticket.mode) 0 - 1)

    -- once it is gone
    pub counts-remove : CountsModes fewer (remove tickets at)
    counts-remove mode =
        lowered counts (mode_rank ticket.mode) (mode_rank mode) (count_in mode tickets) (count_in mode (remove tickets at)) inside (counted mode) (gone mode)

    -- there was one to take away
    pub counted-one : 0 < get_or counts (mode_rank ticket.mode) 0
    counted-one =
        let own = counted_once (same_mode ticket.mode ticket.mode) (eq-eqb (mode_rank ticket.mode) (mode_rank ticket.mode) refl) in
        omega (arith, gone ticket.mode, counted ticket.mode)

    -- a count has room for one more, once it is gone
    pub counts-room : (mode : Mode) → length tickets ≤ 65535 → get_or fewer (mode_rank mode) 0 < 65535
    counts-room mode limit =
        omega (arith, counts-remove mode, count_by-le-length (λ t. same_mode mode t.mode) (remove tickets at), length-remove tickets at within)

    -- once it is counted in another mode
    pub counts-set : (mode : Mode) → CountsModes (set fewer (mode_rank mode) (get_or fewer (mode_rank mode) 0 + 1)) (set tickets at (in_mode mode ticket))
    counts-set own mode =
        let below = rank-lt own in
        let left : length fewer ≡ 11 = length-set counts (mode_rank ticket.mode) (get_or counts (mode_rank ticket.mode) 0 - 1) ∙ eleven in
        let replaced : count_in mode (set tickets at (in_mode own ticket)) ≡ count_in mode (remove tickets at) + one mode (in_mode own ticket) =
        omega (arith, sum_by-set (one mode) tickets at (in_mode own ticket) ticket within, sum_by-remove (one mode) tickets at ticket within) in
        raised fewer (mode_rank own) (mode_rank mode) (count_in mode (remove tickets at)) (count_in mode (set tickets at (in_mode own ticket))) (omega arith) (counts-remove mode) replaced

-- ---- what the counts tell

passed : (count : ℕ) (failed own : Bool) → 0 < count → (nat_eq count 0 || not failed) ≡ true → (own || not failed) ≡ true
passed count failed own some e = grind (arith, nat_tests)

-- where no counted mode passes the test, no ticket does
pub all_from_none_counted : (test : Mode → Bool) (own : Ticket → Bool) (counts : List ℕ) (tickets : List Ticket) → CountsModes counts tickets → none_counted test counts ≡ true → list_all (λ ticket. own ticket || not (test ticket.mode)) tickets ≡ true
all_from_none_counted test own counts tickets counted none =
    list_all-from_AllPass (λ ticket. own ticket || not (test ticket.mode)) tickets (λ k d inside.
    let ticket : Ticket = get_or tickets k d in
    let itself = counted_once (same_mode ticket.mode ticket.mode) (eq-eqb (mode_rank ticket.mode) (mode_rank ticket.mode) refl) in
    let some : 0 < get_or counts (mode_rank ticket.mode) 0 = omega (arith, counted ticket.mode, get_or-le-sum_by (one ticket.mode) tickets k d inside) in
    passed (get_or counts (mode_rank ticket.mode) 0) (test ticket.mode) (own ticket) some (each_mode (λ m. nat_eq (get_or counts (mode_rank m) 0) 0 || not (test m)) none ticket.mode))

-- ---- and the other way round

same_mode-is : (a b : Mode) → same_mode a b ≡ true → a ≡ b
same_mode-is a b same = sym (at_rank a) ∙ ap (λ r. get_or all_modes r IX) (eqb-true (mode_rank a) (mode_rank b) same) ∙ at_rank b

-- a ticket that fails a test is in no mode that passes it
uncounted : (same passed failed : Bool) → (same ≡ true → passed ≡ failed) → not failed ≡ true → passed ≡ true → cond {A = ℕ} same 1 0 ≤ 0
uncounted true true true is fails passes = absurd (cc)
uncounted true true false is fails passes = absurd (cc (is refl))
uncounted true false failed is fails passes = absurd (cc)
uncounted false passed failed is fails passes = omega arith

none_at : (count : ℕ) (passed : Bool) → (passed ≡ true → count ≡ 0) → (nat_eq count 0 || not passed) ≡ true
none_at count true none = or_left _ _ (eq-eqb count 0 (none refl))
none_at count false none = or_right _ _ refl

pub both_ways : (a b : Bool) → (a ≡ true → b ≡ true) → (b ≡ true → a ≡ true) → a ≡ b
both_ways true b to from = sym (to refl)
both_ways false true to from = from refl
both_ways false false to from = refl

-- the counts tell whether each ticket fails a test of its mode
pub none_counted-is : (test : Mode → Bool) (counts : List ℕ) (tickets : List Ticket) → CountsModes counts tickets → none_counted test counts ≡ list_all (λ ticket. not (test ticket.mode)) tickets
none_counted-is test counts tickets counted =
    both_ways _ _ (all_from_none_counted test (λ ticket. false) counts tickets counted) (λ each.
    list_all-from_AllPass (λ mode. nat_eq (get_or counts (mode_rank mode) 0) 0 || not (test mode)) all_modes (λ k d inside.
    let mode : Mode = get_or all_modes k d in
    none_at (get_or counts (mode_rank mode) 0) (test mode) (λ passes.
    let none : count_in mode tickets ≤ length tickets * 0 = sum_by-le (one mode) 0 tickets (λ i e within.
    let ticket : Ticket = get_or tickets i e in
    uncounted (same_mode mode ticket.mode) (test mode) (test ticket.mode) (λ same. ap test (same_mode-is mode ticket.mode same)) (AllPass-from_list_all (λ t. not (test t.mode)) tickets each i e within) passes) in
    omega (arith, counted mode, none))))

not_all : (b r s : Bool) → not r ≡ s → not (not b && r) ≡ (b || s)
not_all true r s e = refl
not_all false r s e = e

-- not each fails where one passes
pub not_all-any : {X : Type 0} (p : X → Bool) (xs : List X) → not (list_all (λ x. not (p x)) xs) ≡ list_any p xs
not_all-any p [] = refl
not_all-any p (x ∷ xs) = not_all (p x) _ _ (not_all-any p xs)
