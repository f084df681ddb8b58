-- The bits of the modes that have tickets: what one ticket more or less does to them, and what they tell of a row of modes.
use Rattle.std.proofs.Common.{◌≡◌, ◌≢◌, ℕ, zero, suc, ◌+◌, ◌-◌, ◌*◌, ◌^◌, ◌%◌, ◌<◌, ◌==◌, ◌||◌, Bool, true, not, nat_lt, nat_eq, List, length, get_or, refl, sym, ap, ◌∙◌, inl, inr, arith, bit_and, bit_or, min, rules, subst}
use Rattle.std.specs.List.{filter}
use Rattle.std.specs.Int.{bit_at, bit_not, w16}
use Rattle.std.proofs.Math.ListN.{set}
use Rattle.std.proofs.lemmas.Bool.{cases_eq, eq-eqb, eqb-true}
use Rattle.std.proofs.lemmas.Bool.Decides.{nat_tests}
use Rattle.std.proofs.lemmas.List.{get_or-set_same, get_or-set_other}
use Rattle.std.proofs.lemmas.List.Sums.{AllPass-from_list_all}
use Rattle.std.proofs.lemmas.Nat.{and_le_l, or_lt, one_shl, pow_below}
use Rattle.std.proofs.lemmas.Nat.Bits.{bit_at-lt, bit_at-zero, bit_at_and, bit_at_set_same, bit_at_set_other, bit_at_clear_same, bit_at_clear_other, same_from_bits_below}
use Rattle.mdl_key.specs.declared.namespace.Kind.{Kind}
use Rattle.mdl_key.specs.declared.mode.Mode.{Mode}
use Rattle.mdl_key.specs.declared.mode.Mode.TheVariants.{IX}
use Rattle.mdl_key.specs.Words.{bit_map, has_bit, is_obtrusive, clashes, waits_behind, granted_conflicts, waiting_conflicts, mode_rank, all_modes}
use Rattle.mdl_key.proofs.MatrixLemmas.{every}
use Rattle.mdl_book.specs.TicketLists.{MarksModes, none_counted}
use Rattle.mdl_book.proofs.CountLemmas.{rank-lt, both_ways}

-- ---- one ticket more or less

module _ (present : ℕ) (counts : List ℕ) (mode : Mode) (eleven : length counts ≡ 11) (marks : MarksModes present counts) where
  inside : mode_rank mode < length counts
  inside = let below = rank-lt mode in omega arith

  pub marks_raised : MarksModes (bit_or present (1 * 2 ^ mode_rank mode % 2 ^ 16)) (set counts (mode_rank mode) (get_or counts (mode_rank mode) 0 + 1))
  marks_raised = record {
    eleven_bits =
        let below = rank-lt mode in
        let one = one_shl (mode_rank mode) 16 (omega arith) in
        let small = pow_below (mode_rank mode) 11 below in
        or_lt 11 present (1 * 2 ^ mode_rank mode % 2 ^ 16) marks.eleven_bits (omega arith);
    marked = λ m.
        let below = rank-lt mode in
        elim (cases_eq (mode_rank m) (mode_rank mode)) [
          | inl same ↦ rw (same, bit_at_set_same w16 present (mode_rank mode) (omega arith), get_or-set_same counts (mode_rank mode) (get_or counts (mode_rank mode) 0 + 1) 0 inside) (grind (arith, nat_tests))
          | inr differs ↦ rw (bit_at_set_other w16 present (mode_rank mode) (omega arith) (mode_rank m) differs, get_or-set_other counts (mode_rank mode) (mode_rank m) (get_or counts (mode_rank mode) 0 + 1) 0 differs) (marks.marked m)
        ];
  }

  module _ (left : ℕ) (is : left ≡ get_or counts (mode_rank mode) 0 - 1) (some : 0 < get_or counts (mode_rank mode) 0) where
    -- some are left
    pub marks_kept : left ≢ 0 → MarksModes present (set counts (mode_rank mode) left)
    marks_kept more = record {
      eleven_bits = marks.eleven_bits;
      marked = λ m. elim (cases_eq (mode_rank m) (mode_rank mode)) [
        | inl same ↦ marks.marked m ∙ rw (same, get_or-set_same counts (mode_rank mode) left 0 inside) (grind (arith, nat_tests))
        | inr differs ↦ rw (get_or-set_other counts (mode_rank mode) (mode_rank m) left 0 differs) (marks.marked m)
      ];
    }

    -- none is left
    pub marks_lowered : left ≡ 0 → MarksModes (bit_and present (bit_not w16 (1 * 2 ^ mode_rank mode % 2 ^ 16))) (set counts (mode_rank mode) left)
    marks_lowered none = record {
      eleven_bits = let fits = marks.eleven_bits in omega (arith, and_le_l present (bit_not w16 (1 * 2 ^ mode_rank mode % 2 ^ 16)));
      marked = λ m.
          let below = rank-lt mode in
          let within = rank-lt m in
          elim (cases_eq (mode_rank m) (mode_rank mode)) [
            | inl same ↦ rw (same, bit_at_clear_same w16 present (mode_rank mode) (omega arith), get_or-set_same counts (mode_rank mode) left 0 inside, none)
            | inr differs ↦ rw (bit_at_clear_other w16 present (mode_rank mode) (omega arith) (mode_rank m) (omega arith) differs, get_or-set_other counts (mode_rank mode) (mode_rank m) left 0 differs) (marks.marked m)
          ];
    }

-- ---- what they tell

-- each place below eleven is that of a mode
place-is : (i : ℕ) → i < 11 → mode_rank (get_or all_modes i IX) ≡ i
place-is zero below = refl
place-is (suc zero) below = refl
place-is (suc (suc zero)) below = refl
place-is (suc (suc (suc zero))) below = refl
place-is (suc (suc (suc (suc zero)))) below = refl
place-is (suc (suc (suc (suc (suc zero))))) below = refl
place-is (suc (suc (suc (suc (suc (suc zero)))))) below = refl
place-is (suc (suc (suc (suc (suc (suc (suc zero))))))) below = refl
place-is (suc (suc (suc (suc (suc (suc (suc (suc zero)))))))) below = refl
place-is (suc (suc (suc (suc (suc (suc (suc (suc (suc zero))))))))) below = refl
place-is (suc (suc (suc (suc (suc (suc (suc (suc (suc (suc zero)))))))))) below = refl
place-is (suc (suc (suc (suc (suc (suc (suc (suc (suc (suc (suc i))))))))))) below = absurd (omega arith)

-- a mode whose bits are in both is counted and passes
not_both : (count p q : ℕ) (test : Bool) → p < 2 → q < 2 → (p == 1) ≡ nat_lt 0 count → (q == 1) ≡ test → min p q ≡ 0 → (count == 0 || not test) ≡ true
not_both count p q test small small′ counted tested none = grind (arith, nat_tests)

none_both : (count p q : ℕ) (test : Bool) → p < 2 → q < 2 → (p == 1) ≡ nat_lt 0 count → (q == 1) ≡ test → (count == 0 || not test) ≡ true → min p q ≡ 0
none_both count p q test small small′ counted tested none = grind (arith, nat_tests)

module _ (present row : ℕ) (counts : List ℕ) (test : Mode → Bool) (marks : MarksModes present counts) (tests : (mode : Mode) → has_bit row mode ≡ test mode) where
  both_at : (i : ℕ) → bit_at (bit_and present row) i ≡ min (bit_at present i) (bit_at row i)
  both_at = bit_at_and present row

  pub none_marked : nat_eq (bit_and present row) 0 ≡ none_counted test counts
  none_marked = both_ways _ _
      (λ none. every (λ mode. get_or counts (mode_rank mode) 0 == 0 || not (test mode)) (λ mode.
      let zeros : bit_at (bit_and present row) (mode_rank mode) ≡ 0 = ap (λ n. bit_at n (mode_rank mode)) (eqb-true _ _ none) ∙ bit_at-zero (mode_rank mode) in
      not_both (get_or counts (mode_rank mode) 0) (bit_at present (mode_rank mode)) (bit_at row (mode_rank mode)) (test mode)
      (bit_at-lt present (mode_rank mode)) (bit_at-lt row (mode_rank mode)) (marks.marked mode) (tests mode) (sym (both_at (mode_rank mode)) ∙ zeros)) all_modes)
      (λ all. eq-eqb _ _ (same_from_bits_below 11 (bit_and present row) 0 (let fits = marks.eleven_bits in omega (arith, and_le_l present row)) (omega arith) (λ i below.
      let mode : Mode = get_or all_modes i IX in
      let passed : (get_or counts (mode_rank mode) 0 == 0 || not (test mode)) ≡ true = AllPass-from_list_all (λ m. get_or counts (mode_rank m) 0 == 0 || not (test m)) all_modes all i IX below in
      subst (λ k. bit_at (bit_and present row) k ≡ bit_at 0 k) (place-is i below)
      (both_at (mode_rank mode) ∙ none_both (get_or counts (mode_rank mode) 0) (bit_at present (mode_rank mode)) (bit_at row (mode_rank mode)) (test mode)
      (bit_at-lt present (mode_rank mode)) (bit_at-lt row (mode_rank mode)) (marks.marked mode) (tests mode) passed ∙ sym (bit_at-zero (mode_rank mode))))))

-- ---- the rows

pub granted_row-tells : (kind : Kind) (ask held : Mode) → has_bit (bit_map (granted_conflicts kind ask)) held ≡ clashes kind ask held
granted_row-tells kind ask held = search rules

pub waiting_row-tells : (kind : Kind) (ask pending : Mode) → has_bit (bit_map (waiting_conflicts kind ask)) pending ≡ waits_behind kind ask pending
waiting_row-tells kind ask pending = search rules

pub obtrusive_row-tells : (kind : Kind) (mode : Mode) → has_bit (bit_map (filter (is_obtrusive kind) all_modes)) mode ≡ is_obtrusive kind mode
obtrusive_row-tells kind mode = search rules
