-- Facts about the packed word, in the form in which a proof about a lock's word cites them, here and in the crates above.
use Rattle.std.proofs.Common.{◌≡◌, ℕ, ◌+◌, ◌-◌, ◌*◌, ◌/◌, ◌%◌, ◌^◌, ◌<◌, ◌≤◌, Bool, true, false, not, ◌==◌, nat_eq, refl, ap, ◌∙◌, arith, ◌≢◌, ◌&&◌, ◌||◌, bit_and, bit_or, lit<, Some, rules, inl, inr, ◌⊎◌, nat_lt, zero, suc, max, min}
use Rattle.std.specs.Int.{bit_at}
use Rattle.std.specs.Int.Bits.{or_zero_r}
use Rattle.std.proofs.lemmas.Bool.{ltb-true, ltb-false, eq-eqb}
use Rattle.std.proofs.lemmas.Nat.{and_block, and_mask, or_block, pow_pos}
use Rattle.std.proofs.lemmas.Nat.Bits.{bit_at_or, bit_at_and, and_pow, bit_at-lt, bit_at-zero, bit_at_ones, bit_at_above, bit_at_cat_low, bit_at_cat_high}
use Rattle.mdl_key.specs.declared.namespace.Kind.{Kind}
use Rattle.mdl_key.specs.declared.mode.Mode.{Mode}
use Rattle.mdl_word.specs.Words.{bit, encode, flags_alone, all_but_flags, Encodes, counts_of, slow_flag, obtrusive_flag, increment_of, one_in}
use Rattle.mdl_word.specs.Laws.{HasFlags}

bit-lt : (b : Bool) → bit b < 2
bit-lt true = lit< tt
bit-lt false = lit< tt

bit-eq : (b : Bool) → (bit b == 1) ≡ b
bit-eq true = refl
bit-eq false = refl

-- ---- reading the word

module _ {word a b c : ℕ} {slow obtrusive : Bool} (e : Encodes word a b c slow obtrusive) where
  pub first_of : word % 1048576 ≡ a
  first_of = omega (arith, bit-lt slow, bit-lt obtrusive)

  pub slow_of : (word / 1152921504606846976 % 2 == 1) ≡ slow
  slow_of = let is : word / 1152921504606846976 % 2 ≡ bit slow = omega (arith, bit-lt slow, bit-lt obtrusive) in ap (λ n. n == 1) is ∙ bit-eq slow

  pub obtrusive_of : (word / 2305843009213693952 % 2 == 1) ≡ obtrusive
  obtrusive_of = let is : word / 2305843009213693952 % 2 ≡ bit obtrusive = omega (arith, bit-lt slow, bit-lt obtrusive) in ap (λ n. n == 1) is ∙ bit-eq obtrusive

  -- ---- adding and subtracting tickets of each class

  pub adds : (x y z : ℕ) → a + x < 1048576 → b + y < 1048576 → c + z < 1048576 → Encodes (word + encode x y z false false) (a + x) (b + y) (c + z) slow obtrusive
  adds x y z first second third = record { first_fits = first; second_fits = second; third_fits = third; is_encoded = omega arith }

-- ---- the flags

flag_at : (bit_value power : ℕ) → bit_value < 2 → 0 < power → not (nat_eq (bit_value * power) 0) ≡ nat_eq bit_value 1
flag_at n p small positive = grind arith

-- the test of a flag by its bit
pub flag_test : (n k : ℕ) → not (nat_eq (bit_and n (2 ^ k)) 0) ≡ (n / 2 ^ k % 2 == 1)
flag_test n k = rw (and_pow n k) (flag_at _ _ (bit_at-lt n k) (pow_pos k))

-- the two flags as a number
abbrev flags : Bool → Bool → ℕ
flags slow obtrusive = bit slow + bit obtrusive * 2

-- the three counts as a number
abbrev low : ℕ → ℕ → ℕ → ℕ
low a b c = a + b * 1048576 + c * 1099511627776

low-lt : (a b c : ℕ) → a < 1048576 → b < 1048576 → c < 1048576 → low a b c < 2 ^ 60
low-lt a b c first second third = omega arith

or_flags : (h m n : ℕ) → n < 2 ^ 60 → bit_or (h * 2 ^ 60 + n) (m * 2 ^ 60 + 0) ≡ bit_or h m * 2 ^ 60 + n
or_flags h m n small = or_block 60 h m n 0 small (lit< tt) ∙ ap (λ r. bit_or h m * 2 ^ 60 + r) (or_zero_r n)

and_flags : (h m n : ℕ) → n < 2 ^ 60 → bit_and (h * 2 ^ 60 + n) (m * 2 ^ 60 + (2 ^ 60 - 1)) ≡ bit_and h m * 2 ^ 60 + n
and_flags h m n small =
    let kept : n % 2 ^ 60 ≡ n = omega arith in
    and_block 60 h m n (2 ^ 60 - 1) small (lit< tt) ∙ ap (λ r. bit_and h m * 2 ^ 60 + r) (and_mask n 60 ∙ kept)

-- flags raised, and flags lowered, by the bits of their numbers; 12 has the bits 62 and 63
ored_flags : (raise_slow raise_obtrusive slow obtrusive : Bool) → bit_or (flags slow obtrusive) (flags raise_slow raise_obtrusive) ≡ flags (raise_slow || slow) (raise_obtrusive || obtrusive)
ored_flags raise_slow raise_obtrusive slow obtrusive = search rules

anded_flags : (keep_slow keep_obtrusive slow obtrusive : Bool) → bit_and (flags slow obtrusive) (12 + flags keep_slow keep_obtrusive) ≡ flags (keep_slow && slow) (keep_obtrusive && obtrusive)
anded_flags keep_slow keep_obtrusive slow obtrusive = search rules

raising_is : (slow obtrusive : Bool) → flags_alone slow obtrusive ≡ flags slow obtrusive * 2 ^ 60 + 0
raising_is slow obtrusive = search rules

keeping_is : (slow obtrusive : Bool) → all_but_flags slow obtrusive ≡ (12 + flags slow obtrusive) * 2 ^ 60 + (2 ^ 60 - 1)
keeping_is slow obtrusive = search rules

module _ {word a b c : ℕ} {slow obtrusive : Bool} (e : Encodes word a b c slow obtrusive) where
  low_fits : low a b c < 2 ^ 60
  low_fits = low-lt a b c e.first_fits e.second_fits e.third_fits

  splits : word ≡ flags slow obtrusive * 2 ^ 60 + low a b c
  splits = omega arith

  with_flags : (new : ℕ) (slow′ obtrusive′ : Bool) → new ≡ flags slow′ obtrusive′ * 2 ^ 60 + low a b c → Encodes new a b c slow′ obtrusive′
  with_flags new slow′ obtrusive′ is = record { first_fits = e.first_fits; second_fits = e.second_fits; third_fits = e.third_fits; is_encoded = omega (arith, is) }

  pub raises : (raise_slow raise_obtrusive : Bool) → Encodes (bit_or word (flags_alone raise_slow raise_obtrusive)) a b c (raise_slow || slow) (raise_obtrusive || obtrusive)
  raises raise_slow raise_obtrusive =
      with_flags _ _ _ (cc (raising_is raise_slow raise_obtrusive, or_flags (flags slow obtrusive) (flags raise_slow raise_obtrusive) (low a b c) low_fits, ored_flags raise_slow raise_obtrusive slow obtrusive, splits))

  pub lowers : (keep_slow keep_obtrusive : Bool) → Encodes (bit_and word (all_but_flags keep_slow keep_obtrusive)) a b c (keep_slow && slow) (keep_obtrusive && obtrusive)
  lowers keep_slow keep_obtrusive =
      with_flags _ _ _ (cc (keeping_is keep_slow keep_obtrusive, and_flags (flags slow obtrusive) (12 + flags keep_slow keep_obtrusive) (low a b c) low_fits, anded_flags keep_slow keep_obtrusive slow obtrusive, splits))

-- ---- the flags of any number

same_low : (word new high : ℕ) → new ≡ high * 2 ^ 60 + word % 2 ^ 60 → counts_of new ≡ counts_of word
same_low word new high is =
    let first : new % 1048576 ≡ word % 1048576 = omega arith in
    let second : new / 1048576 % 1048576 ≡ word / 1048576 % 1048576 = omega arith in
    let third : new / 1099511627776 % 1048576 ≡ word / 1099511627776 % 1048576 = omega arith in
    cc

side : (m n : ℕ) → (m < n) ⊎ (n ≤ m)
side m n = elim (nat_lt m n) as (λ b. nat_lt m n ≡ b → (m < n) ⊎ (n ≤ m)) [ true ↦ λ e. inl (ltb-true m n e) | false ↦ λ e. inr (ltb-false m n e) ] refl

-- the bits 62 and 63 are those of 12
high_bits : (f k : ℕ) → f < 4 → 2 ≤ k → k < 4 → bit_at (12 + f) k ≡ 1
high_bits f zero small least most = absurd (omega arith)
high_bits f (suc zero) small least most = absurd (omega arith)
high_bits f (suc (suc zero)) small least most = omega arith
high_bits f (suc (suc (suc zero))) small least most = omega arith
high_bits f (suc (suc (suc (suc k)))) small least most = absurd (omega arith)

-- the bits of the masks beside the flags
raising_bit : (f place : ℕ) → f < 2 ^ 2 → place ≢ 60 → place ≢ 61 → bit_at (f * 2 ^ 60 + 0) place ≡ 0
raising_bit f place small not_slow not_obtrusive =
    elim (side place 60) [
      | inl below ↦ bit_at_cat_low f 60 0 place below ∙ bit_at-zero place
      | inr above ↦ bit_at_cat_high f 60 0 place (lit< tt) above ∙ bit_at_above f 2 (place - 60) small (omega arith)
    ]

keeping_bit : (f place : ℕ) → f < 2 ^ 2 → place < 64 → place ≢ 60 → place ≢ 61 → bit_at ((12 + f) * 2 ^ 60 + (2 ^ 60 - 1)) place ≡ 1
keeping_bit f place small inside not_slow not_obtrusive =
    elim (side place 60) [
      | inl below ↦ bit_at_cat_low (12 + f) 60 (2 ^ 60 - 1) place below ∙ bit_at_ones 60 place below
      | inr above ↦ bit_at_cat_high (12 + f) 60 (2 ^ 60 - 1) place (lit< tt) above ∙ high_bits f (place - 60) small (omega arith) (omega arith)
    ]

-- a flag is raised where a mask has its bit, and stays where a mask has its bit
raised_flag : (old new : ℕ) (raised : Bool) → old < 2 → new ≡ max old (bit raised) → (new == 1) ≡ (raised || old == 1)
raised_flag old new true small is = let one : new ≡ 1 = omega arith in eq-eqb new 1 one
raised_flag old new false small is = let same : new ≡ old = omega arith in ap (λ n. n == 1) same

kept_flag : (old new : ℕ) (kept : Bool) → old < 2 → new ≡ min old (bit kept) → (new == 1) ≡ (kept && old == 1)
kept_flag old new true small is = let same : new ≡ old = omega arith in ap (λ n. n == 1) same
kept_flag old new false small is = let none : new ≡ 0 = omega arith in ap (λ n. n == 1) none

flags-lt : (slow obtrusive : Bool) → flags slow obtrusive < 2 ^ 2
flags-lt slow obtrusive = omega (arith, bit-lt slow, bit-lt obtrusive)

raising_slow : (slow obtrusive : Bool) → bit_at (flags_alone slow obtrusive) 60 ≡ bit slow
raising_slow slow obtrusive = search rules

raising_obtrusive : (slow obtrusive : Bool) → bit_at (flags_alone slow obtrusive) 61 ≡ bit obtrusive
raising_obtrusive slow obtrusive = search rules

keeping_slow : (slow obtrusive : Bool) → bit_at (all_but_flags slow obtrusive) 60 ≡ bit slow
keeping_slow slow obtrusive = search rules

keeping_obtrusive : (slow obtrusive : Bool) → bit_at (all_but_flags slow obtrusive) 61 ≡ bit obtrusive
keeping_obtrusive slow obtrusive = search rules

module _ (word : ℕ) (slow obtrusive : Bool) where
  word_splits : word ≡ word / 2 ^ 60 * 2 ^ 60 + word % 2 ^ 60
  word_splits = omega arith

  low_part : word % 2 ^ 60 < 2 ^ 60
  low_part = omega arith

  pub has_raised : HasFlags word (bit_or word (flags_alone slow obtrusive)) (slow || slow_flag word) (obtrusive || obtrusive_flag word)
  has_raised = record {
    same_counts = same_low word _ (bit_or (word / 2 ^ 60) (flags slow obtrusive)) (cc (raising_is slow obtrusive, or_flags (word / 2 ^ 60) (flags slow obtrusive) (word % 2 ^ 60) low_part, word_splits));
    same_bits = λ place inside not_slow not_obtrusive.
        let none = ap (λ m. bit_at m place) (raising_is slow obtrusive) ∙ raising_bit (flags slow obtrusive) place (flags-lt slow obtrusive) not_slow not_obtrusive in
        omega (arith, bit_at_or word (flags_alone slow obtrusive) place, none);
    has_slow = raised_flag (bit_at word 60) _ slow (bit_at-lt word 60) (bit_at_or word (flags_alone slow obtrusive) 60 ∙ ap (max (bit_at word 60)) (raising_slow slow obtrusive));
    has_obtrusive = raised_flag (bit_at word 61) _ obtrusive (bit_at-lt word 61) (bit_at_or word (flags_alone slow obtrusive) 61 ∙ ap (max (bit_at word 61)) (raising_obtrusive slow obtrusive));
  }

  pub has_kept : HasFlags word (bit_and word (all_but_flags slow obtrusive)) (slow && slow_flag word) (obtrusive && obtrusive_flag word)
  has_kept = record {
    same_counts = same_low word _ (bit_and (word / 2 ^ 60) (12 + flags slow obtrusive)) (cc (keeping_is slow obtrusive, and_flags (word / 2 ^ 60) (12 + flags slow obtrusive) (word % 2 ^ 60) low_part, word_splits));
    same_bits = λ place inside not_slow not_obtrusive.
        let one = ap (λ m. bit_at m place) (keeping_is slow obtrusive) ∙ keeping_bit (flags slow obtrusive) place (flags-lt slow obtrusive) inside not_slow not_obtrusive in
        omega (arith, bit_at_and word (all_but_flags slow obtrusive) place, one, bit_at-lt word place);
    has_slow = kept_flag (bit_at word 60) _ slow (bit_at-lt word 60) (bit_at_and word (all_but_flags slow obtrusive) 60 ∙ ap (min (bit_at word 60)) (keeping_slow slow obtrusive));
    has_obtrusive = kept_flag (bit_at word 61) _ obtrusive (bit_at-lt word 61) (bit_at_and word (all_but_flags slow obtrusive) 61 ∙ ap (min (bit_at word 61)) (keeping_obtrusive slow obtrusive));
  }
