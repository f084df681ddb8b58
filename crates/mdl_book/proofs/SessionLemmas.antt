-- What a set of session numbers contains, by the bits of its words, and what a change of one bit does to it.
use Rattle.std.proofs.Common.{◌≡◌, ◌≢◌, ℕ, zero, suc, ◌+◌, ◌-◌, ◌*◌, ◌/◌, ◌%◌, ◌^◌, ◌<◌, ◌≤◌, Bool, true, false, not, ◌&&◌, ◌||◌, nat_eq, nat_le, List, length, get_or, refl, sym, ap, ◌∙◌, arith, bit_and, bit_or}
use Rattle.std.specs.List.{range_with_len, list_any}
use Rattle.std.specs.Int.{bit_at, bit_not, w64}
use Rattle.std.specs.FinSet as set
use Rattle.std.specs.Ordering.{nat_cmp}
use Rattle.std.specs.Cmp.{nat_cmp_total, unsigned_tied}
use Rattle.std.proofs.Math.ListN.{set as set_at, replicate}
use mathlib.Core.Logic.{inl, inr}
use Rattle.std.proofs.lemmas.Bool.{cases_eq, eqb-true, ne_eqb, and_right}
use Rattle.std.proofs.lemmas.Bool.Decides.{nat_tests}
use Rattle.std.proofs.lemmas.List.{get_or-set_same, get_or-set_other, get_or-replicate}
use Rattle.std.proofs.lemmas.Map.Views.{any-filter_same}
use Rattle.std.proofs.lemmas.Nat.{one_shl, pow_pos}
use Rattle.std.proofs.lemmas.Nat.Bits.{bit_at-lt, and_pow, bit_at_ones, bit_at-zero, bit_at_set_same, bit_at_set_other, bit_at_clear_same, bit_at_clear_other}
use Rattle.mdl_book.specs.SessionBits.{has_bit, numbers_up_to, sessions_in}
use Rattle.mdl_book.specs.SessionSets.{is_session}

-- a run of numbers has those from its first to its last
any_in_run : (first count number : ℕ) → list_any (λ y. nat_eq y number) (range_with_len first count) ≡ (nat_le first number && nat_le (suc number) (first + count))
any_in_run first zero number = grind (arith, nat_tests)
any_in_run first (suc count) number = grind (arith, nat_tests, any_in_run (first + 1) count number)

-- ---- tests of one number

-- the order of the two tests, and `number < most + 1` as `number <= most`
turned : (most number : ℕ) (b : Bool) → (b && (nat_le 1 number && nat_le (suc number) (1 + most))) ≡ ((nat_le 1 number && nat_le number most) && b)
turned most number true = grind (arith, nat_tests)
turned most number false = grind (arith, nat_tests)

-- a bit times a power of two is not 0 where the bit is 1
product_test : (bit power : ℕ) → bit < 2 → 0 < power → not (nat_eq (bit * power) 0) ≡ nat_eq bit 1
product_test zero power small positive = grind (arith, nat_tests)
product_test (suc bit) power small positive =
    let one : bit ≡ 0 = omega arith in
    rw one (grind (arith, nat_tests))

-- whether a number is in the set once a session is put in, taken out, or was never one
put_test : (session number : ℕ) (old new : Bool) → 1 ≤ session → session ≤ 1024 → (number ≡ session → new ≡ true) → (1 ≤ number → number ≢ session → new ≡ old) → (is_session number && new) ≡ (nat_eq number session || (is_session number && old))
put_test session number old new positive within there elsewhere = grind (arith, nat_tests)

taken_test : (session number : ℕ) (old new : Bool) → (number ≡ session → new ≡ false) → (1 ≤ number → number ≢ session → new ≡ old) → (is_session number && new) ≡ (not (nat_eq number session) && (is_session number && old))
taken_test session number old new there elsewhere = grind (arith, nat_tests)

none_test : (session number : ℕ) (held : Bool) → is_session session ≡ false → (is_session number && held) ≡ (not (nat_eq number session) && (is_session number && held))
none_test session number held outside =
    elim (cases_eq number session) [
      | inl same ↦ rw (same, outside) (sym (and_right (not (nat_eq session session)) false refl))
      | inr differs ↦ rw (ne_eqb number session differs)
    ]

-- a set none of whose bits are set, and one with all of them
all_false : (number : ℕ) (held : Bool) → (number ≤ 1024 → held ≡ false) → (is_session number && held) ≡ false
all_false number held same = grind (arith, nat_tests)

all_true : (number : ℕ) (held : Bool) → (number ≤ 1024 → held ≡ true) → (is_session number && held) ≡ is_session number
all_true number held same = grind (arith, nat_tests)

-- what a set of the words contains, up to any number
contains-numbers : (most : ℕ) (words : List ℕ) (number : ℕ) → set.contains (set.from_list {R = nat_cmp} (numbers_up_to most words)) number ≡ ((nat_le 1 number && nat_le number most) && has_bit words number)
unfolding numbers_up_to
contains-numbers most words number =
    set.contains-from_list_nat (numbers_up_to most words) number
    ∙ any-filter_same (λ y. nat_eq y number) (has_bit words) (has_bit words number) (λ y same. ap (has_bit words) (eqb-true y number same)) (range_with_len 1 most)
    ∙ rw (any_in_run 1 most number) (turned most number (has_bit words number))

-- ---- one bit of one word

-- the bit at a place, counted through all words
abbrev bit_of : List ℕ → ℕ → ℕ
bit_of words place = bit_at (get_or words (place / 64) 0) (place % 64)

-- a write of one word leaves every bit but one, where that word's other bits stay
kept : (words : List ℕ) (place other word : ℕ) → place / 64 < length words → ((i : ℕ) → i < 64 → i ≢ place % 64 → bit_at word i ≡ bit_at (get_or words (place / 64) 0) i) → other ≢ place → bit_of (set_at words (place / 64) word) other ≡ bit_of words other
kept words place other word within stays apart =
    elim (cases_eq (other / 64) (place / 64)) [
      | inl same ↦ rw (same, get_or-set_same words (place / 64) word 0 within) (stays (other % 64) (omega arith) (omega arith))
      | inr differs ↦ ap (λ x. bit_at x (other % 64)) (get_or-set_other words (place / 64) (other / 64) word 0 differs)
    ]

-- the words agree on every session but one, whose bit is then what is given
pub record ChangedAt (words new : List ℕ) (session : ℕ) (value : Bool) : Type 0 where
  there : has_bit new session ≡ value
  elsewhere : (other : ℕ) → 1 ≤ other → other ≢ session → has_bit new other ≡ has_bit words other

-- `|= 1 << place`
pub bit_put : (words : List ℕ) (session : ℕ) → 1 ≤ session → (session - 1) / 64 < length words → ChangedAt words (set_at words ((session - 1) / 64) (bit_or (get_or words ((session - 1) / 64) 0) (1 * 2 ^ ((session - 1) % 64) % 2 ^ 64))) session true
bit_put words session positive within =
    let place : ℕ = session - 1 in
    let old : ℕ = get_or words (place / 64) 0 in
    let small : place % 64 < 64 = omega arith in
    record {
      there = ap (λ x. nat_eq (bit_at x (place % 64)) 1) (get_or-set_same words (place / 64) _ 0 within) ∙ ap (λ x. nat_eq x 1) (bit_at_set_same w64 old (place % 64) small);
      elsewhere = λ other above apart. ap (λ x. nat_eq x 1) (kept words place (other - 1) _ within (λ i _ differs. bit_at_set_other w64 old (place % 64) small i differs) (omega arith));
    }

-- `&= !(1 << place)`
pub bit_taken : (words : List ℕ) (session : ℕ) → 1 ≤ session → (session - 1) / 64 < length words → ChangedAt words (set_at words ((session - 1) / 64) (bit_and (get_or words ((session - 1) / 64) 0) (bit_not w64 (1 * 2 ^ ((session - 1) % 64) % 2 ^ 64)))) session false
bit_taken words session positive within =
    let place : ℕ = session - 1 in
    let old : ℕ = get_or words (place / 64) 0 in
    let small : place % 64 < 64 = omega arith in
    record {
      there = ap (λ x. nat_eq (bit_at x (place % 64)) 1) (get_or-set_same words (place / 64) _ 0 within) ∙ ap (λ x. nat_eq x 1) (bit_at_clear_same w64 old (place % 64) small);
      elsewhere = λ other above apart. ap (λ x. nat_eq x 1) (kept words place (other - 1) _ within (λ i below differs. bit_at_clear_other w64 old (place % 64) small i below differs) (omega arith));
    }

-- the test `word & (1 << place) != 0`
masked_bit : (word place : ℕ) → place < 64 → not (nat_eq (bit_and word (1 * 2 ^ place % 2 ^ 64)) 0) ≡ nat_eq (bit_at word place) 1
masked_bit word place within =
    rw (one_shl place 64 within, and_pow word place) (product_test (bit_at word place) (2 ^ place) (bit_at-lt word place) (pow_pos place))

-- ---- the set

-- the set has each session whose bit is set
pub contains-sessions_in : (words : List ℕ) (number : ℕ) → set.contains (sessions_in words) number ≡ (is_session number && has_bit words number)
contains-sessions_in words number = contains-numbers 1024 words number

-- a number that is no session is in no set
pub none_outside : (words : List ℕ) (session : ℕ) → is_session session ≡ false → false ≡ set.contains (sessions_in words) session
none_outside words session outside = rw (contains-sessions_in words session, outside)

-- the test of a session's bit tells whether the set has it
pub bit_tells : (words : List ℕ) (session : ℕ) → 1 ≤ session → session ≤ 1024 → not (nat_eq (bit_and (get_or words ((session - 1) / 64) 0) (1 * 2 ^ ((session - 1) % 64) % 2 ^ 64)) 0) ≡ set.contains (sessions_in words) session
bit_tells words session positive within =
    let inside : is_session session ≡ true = grind (arith, nat_tests) in
    masked_bit (get_or words ((session - 1) / 64) 0) ((session - 1) % 64) (omega arith) ∙ sym (rw (contains-sessions_in words session, inside))

-- once one bit is set the set has one session more
pub put_is : (words new : List ℕ) (session : ℕ) → 1 ≤ session → session ≤ 1024 → ChangedAt words new session true → sessions_in new ≡ set.insert (sessions_in words) session
put_is words new session positive within changed =
    set.same_set nat_cmp_total set.nat_cmp-IsAntisymmetric _ _ (λ q.
    contains-sessions_in new q
    ∙ put_test session q (has_bit words q) (has_bit new q) positive within (λ e. ap (has_bit new) e ∙ changed.there) (changed.elsewhere q)
    ∙ sym (set.contains-insert nat_cmp_total (sessions_in words) session q ∙ rw (unsigned_tied q session, contains-sessions_in words q)))

-- once one bit is cleared the set has one session fewer
pub taken_is : (words new : List ℕ) (session : ℕ) → ChangedAt words new session false → sessions_in new ≡ set.remove (sessions_in words) session
taken_is words new session changed =
    set.same_set nat_cmp_total set.nat_cmp-IsAntisymmetric _ _ (λ q.
    contains-sessions_in new q
    ∙ taken_test session q (has_bit words q) (has_bit new q) (λ e. ap (has_bit new) e ∙ changed.there) (changed.elsewhere q)
    ∙ sym (set.contains-remove nat_cmp_total (sessions_in words) session q ∙ rw (unsigned_tied q session, contains-sessions_in words q)))

-- to take out a number that is no session changes nothing
pub none_taken : (words : List ℕ) (session : ℕ) → is_session session ≡ false → sessions_in words ≡ set.remove (sessions_in words) session
none_taken words session outside =
    set.same_set nat_cmp_total set.nat_cmp-IsAntisymmetric _ _ (λ q.
    contains-sessions_in words q
    ∙ none_test session q (has_bit words q) outside
    ∙ sym (set.contains-remove nat_cmp_total (sessions_in words) session q ∙ rw (unsigned_tied q session, contains-sessions_in words q)))

-- sixteen words that are all alike
alike : (word number : ℕ) → number ≤ 1024 → has_bit (replicate 16 word) number ≡ nat_eq (bit_at word ((number - 1) % 64)) 1
alike word number within = ap (λ x. nat_eq (bit_at x ((number - 1) % 64)) 1) (get_or-replicate 16 ((number - 1) / 64) word 0 (omega arith))

pub contains-zeros : (number : ℕ) → set.contains (sessions_in (replicate 16 0)) number ≡ false
contains-zeros number =
    contains-sessions_in (replicate 16 0) number
    ∙ all_false number (has_bit (replicate 16 0) number) (λ within. alike 0 number within ∙ ap (λ x. nat_eq x 1) (bit_at-zero ((number - 1) % 64)))

-- 18,446,744,073,709,551,615 is a word of 64 ones
pub contains-ones : (number : ℕ) → set.contains (sessions_in (replicate 16 18446744073709551615)) number ≡ is_session number
contains-ones number =
    contains-sessions_in (replicate 16 18446744073709551615) number
    ∙ all_true number (has_bit (replicate 16 18446744073709551615) number) (λ within. alike 18446744073709551615 number within ∙ ap (λ x. nat_eq x 1) (bit_at_ones 64 ((number - 1) % 64) (omega arith)))
