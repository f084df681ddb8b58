-- What a table is made of is as it is to be at the start.
use Rattle.std.proofs.Common.{◌≡◌, ℕ, zero, suc, ◌+◌, ◌<◌, ◌≤◌, length, get_or, replicate, refl, sym, ap, ◌∙◌, arith, length-set, get_or-set_same, get_or-set_other}
use Rattle.mdl_steps.proofs.Common.{IsOpening, empty_book, enrol_word, get_elem?, global_key, length-replicate, opening_slots, opening_words, some, word_count}
use Rattle.mdl_steps.specs.declared.slot.Slot.TheVariants as slot

-- a list of equal elements has that one wherever it has any
at_replicate : {A : Type 0} → (n p : ℕ) (a : A) → p < n → get_elem? (replicate n a) p ≡ some a
at_replicate zero p a within = absurd (omega arith)
at_replicate (suc n) zero a within = refl
at_replicate (suc n) (suc p) a within = at_replicate n p a (omega arith)

zero_at : (n i : ℕ) → ◌≡◌ {A = ℕ} (get_or (replicate n 0) i 0) 0
zero_at zero i = refl
zero_at (suc n) zero = refl
zero_at (suc n) (suc i) = zero_at n i

book_at : (places p : ℕ) → 0 < p → p < places + 1 → get_elem? (opening_slots places) p ≡ some (slot.Place (empty_book global_key))
book_at places zero first last = absurd (omega arith)
book_at places (suc p) first last = at_replicate places p (slot.Place (empty_book global_key)) (omega arith)

pub slot_count : (places : ℕ) → length (opening_slots places) ≡ places + 1
slot_count places = ap (λ n. suc n) (length-replicate places (slot.Place (empty_book global_key))) ∙ omega arith

pub is_opening : (places sessions : ℕ) → sessions ≤ 1024 → IsOpening sessions (opening_words (places + 1) sessions) (opening_slots places)
is_opening places sessions few =
    let count = slot_count places in
    let all = replicate (word_count (places + 1) sessions) 0 in
    let many = length-replicate (word_count (places + 1) sessions) 0 in
    record {
      limit = few;
      wide = length-set all (enrol_word (places + 1)) 1 ∙ many ∙ ap (λ n. word_count n sessions) (sym count);
      drawn = ap (λ n. get_or (opening_words (places + 1) sessions) (enrol_word n) 0) count ∙ get_or-set_same all (enrol_word (places + 1)) 1 0 (omega (arith, many));
      zeros = λ i other. get_or-set_other all (enrol_word (places + 1)) i 1 0 (λ e. other (e ∙ ap enrol_word (sym count))) ∙ zero_at (word_count (places + 1) sessions) i;
      directory = refl;
      places = λ p first last. (global_key, book_at places p first (omega (arith, count)));
    }
