-- What the words behind a subcommand of `mdlsim` ask for, from the uses of options that they are.
use Rattle.std.proofs.Common.{arith, ◌<◌, ◌≡◌, ◌∙◌, ◌⊎◌, inl, inr, ap, refl, sym, subst, codes, true, false, Bool, ℕ, ℤ, pos, negsuc, List, [], ◌∷◌, ◌++◌, Some, None, append-nil, if◌then◌else◌, ◌==◌}
use Rattle.std.specs.Prelude.{◌≤ℤ◌, nat_lt, slice_get}
use Rattle.std.specs.Char.{digit_value}
use Rattle.std.specs.Str.{chars}
use Rattle.std.specs.Str.Parse.{signed_digits_value, starts_with_minus}
use Rattle.std.proofs.lemmas.Bool.Decides.{Decides-eqb}
use Rattle.std.proofs.lemmas.Bool.{lt-ltb, ne_eqb}
use Rattle.std.proofs.lemmas.Int.{ints}
use Rattle.std.proofs.lemmas.Str.Parse.{digit_from_value}
use Rattle.clap.specs.Kinds.{value_kinds}
use Rattle.clap.specs.ValueTests.{accepts}
use Rattle.clap.specs.Walk.{Row, Text, nothing_held}
use Rattle.clap.specs.Faults.{level_fault, repeat_fault}
use Rattle.clap.specs.declared.error.kind.ErrorKind.TheVariants as kind
use Rattle.clap.proofs.ValueTestLemmas.{accepts-Accepts}
use Rattle.mdl_words.specs.Words.{GiveText}
use Rattle.mdl_words.proofs.Levels.{IsEnd}
use Rattle.mdl_words.proofs.OptionWords.{AreUses, IsNoBundle, Spells, Use, fault_used, level, level_asks, rows_used}
use Rattle.mdl_words.proofs.ShortOptions.{dash, neither, refuses}
use Rattle.mdlsim.specs.CommandLine.{AskForThreads, WritesNumber}
use Rattle.mdlsim.proofs.Options.{Which, id_of, lock, lock_options, no_options, number_of, option_of, run, run_options}
use Rattle.mdlsim.proofs.Options.Which.{Patience, Cache}

-- ---- a subcommand without options

no_uses : (uses : List (Use no_options)) (words : List Text) (rows after : List Row) → AreUses no_options uses words rows after → words ≡ []
no_uses [] words rows after are = are.0
no_uses (inl f ∷ more) words rows after are = absurd f
no_uses (inr p ∷ more) words rows after are = absurd p.0

pub plain_asks : (name : Text) (words : List Text) → level_fault (level no_options name) [] nothing_held words false [] ≡ [] → IsEnd words
plain_asks name words e =
    let (uses, front, end, after, is, are, ends, finds) = level_asks no_options name words e in
    subst IsEnd (sym (is ∙ ap (λ xs. xs ++ end) (no_uses uses front [] after are))) ends

-- ---- `lock`

abbrev pub scoped : Text
scoped = codes "--scoped"

-- the flag is given once, or not
lock_uses : (uses : List (Use lock_options)) (words : List Text) (after : List Row) → AreUses lock_options uses words [] after → (words ≡ []) ⊎ (words ≡ scoped ∷ [])
lock_uses [] words after are = inl are.0
lock_uses (inr p ∷ more) words after are = absurd p.0
lock_uses (inl f ∷ []) words after (first, rest, is, spells, free, none) = inr (is ∙ ap (λ xs. first ++ xs) none.0 ∙ append-nil first ∙ spells)
lock_uses (inl f ∷ inr p ∷ more) words after are = absurd p.0
lock_uses (inl f ∷ inl g ∷ more) words after (first, rest, is, spells, free, (next, last, is_next, again, twice, are)) = absurd (refuses _ _ twice)

pub lock_asks : (words : List Text) → level_fault (level lock_options lock) [] nothing_held words false [] ≡ [] → IsEnd words ⊎ ((rest : List Text) × (words ≡ scoped ∷ rest) × IsEnd rest)
lock_asks words e =
    let (uses, front, end, after, is, are, ends, finds) = level_asks lock_options lock words e in
    elim (lock_uses uses front after are) [
      | inl none ↦ inl (subst IsEnd (sym (is ∙ ap (λ xs. xs ++ end) none)) ends)
      | inr one ↦ inr (end, is ∙ ap (λ xs. xs ++ end) one, ends)
    ]

-- ---- the texts of an option of `run`

accepted : (o : Which) (t : Text) → value_kinds false (number_of o) t ≡ [] → accepts false (number_of o) t ≡ true
accepted o t e = go (accepts false (number_of o) t) e
  where
    go : (b : Bool) → (if b then [] else kind.ValueValidation ∷ []) ≡ [] → b ≡ true
    go true e = refl
    go false e = absurd (refuses _ _ e)

-- of a use that is not refused
used_once : (o : Which) (t : Text) (rows : List Row) → fault_used run_options (inr (o, t)) rows ≡ [] → accepts false (number_of o) t ≡ true
used_once o t rows e = accepted o t (neither (value_kinds false (number_of o) t) _ (neither (repeat_fault false (id_of o) rows) _ e).1).0

first_char : (y : ℕ) (ys : Text) → digit_value y < 10 → slice_get (chars (y ∷ ys)) 0 ≡ Some y
unfolding chars
first_char y ys digit = let low : nat_lt y 128 ≡ true = lt-ltb y 128 (omega (arith, digit_from_value y digit)) in go ys low
  where
    go : (ys : Text) → nat_lt y 128 ≡ true → slice_get (chars (y ∷ ys)) 0 ≡ Some y
    go [] low = rw low refl
    go (z ∷ zs) low = rw low refl

-- a number behind a `-` is taken for short options, which `run` has not
minus_refused : (o : Which) (xs : Text) → accepts false (number_of o) (45 ∷ xs) ≡ true → IsNoBundle (45 ∷ xs) → ⊥
minus_refused o [] fits bare = absurd (cc)
minus_refused o (y ∷ ys) fits bare =
    let digit = (accepts-Accepts false (number_of o) (45 ∷ y ∷ ys) fits).0.1.0 in
    let no_hyphen : (y == 45) ≡ false = ne_eqb _ _ (λ is. omega (arith, digit_from_value y digit)) in
    bad (sym (first_char y ys digit) ∙ (rw no_hyphen at bare))
  where
    bad : Some y ≡ None → ⊥
    bad e = cc

no_minus : (o : Which) (t : Text) → accepts false (number_of o) t ≡ true → IsNoBundle t → starts_with_minus t ≡ false
no_minus o [] fits bare = refl
no_minus o (x ∷ xs) fits bare = go (x == 45) refl
  where
    go : (b : Bool) → (x == 45) ≡ b → b ≡ false
    go false is = refl
    go true is =
        let hyphen = (Decides-eqb x 45).0 is in
        absurd (minus_refused o xs (subst (λ y. accepts false (number_of o) (y ∷ xs) ≡ true) hyphen fits) (subst (λ y. IsNoBundle (y ∷ xs)) hyphen bare))

is_given : (o : Which) (t : Text) (words : List Text) → accepts false (number_of o) t ≡ true → Spells run_options (inr (o, t)) words → GiveText (id_of o) t words
is_given o t words fits (inl one) = inl one
is_given o t words fits (inr (two, bare)) = inr (two, no_minus o t fits bare)

-- such a text writes a number
written : (o : Which) (t : Text) → accepts false (number_of o) t ≡ true → (n : ℕ) × WritesNumber (option_of o) t n
written o t fits =
    let takes = accepts-Accepts false (number_of o) t fits in
    let n = number_in (signed_digits_value 10 t) takes.2 in
    (n.0, (takes, n.1))
  where
    number_in : (z : ℤ) → pos (option_of o).least ≤ℤ z → (n : ℕ) × (z ≡ pos n)
    number_in (pos n) le = (n, refl)
    number_in (negsuc n) le = absurd (omega (arith, ints))

-- ---- the words behind `run`

-- the words ask for a patience and a cache
abbrev AskForBoth : List Text → Type 0
AskForBoth words = (p c : ℕ) × AskForThreads p c words

-- perhaps with a closing `--`
abbrev pub AskForSome : List Text → Type 0
AskForSome words = (p c : ℕ) × (AskForThreads p c words ⊎ ((front : List Text) × (words ≡ front ++ dash ∷ []) × AskForThreads p c front))

closed : (words front rest : List Text) → words ≡ front ++ rest → IsEnd rest → AskForBoth front → AskForSome words
closed words front rest is (inl none) (p, c, asks) = (p, c, inl (subst (AskForThreads p c) (sym (is ∙ ap (λ xs. front ++ xs) none ∙ append-nil front)) asks))
closed words front rest is (inr dashed) (p, c, asks) = (p, c, inr (front, is ∙ ap (λ xs. front ++ xs) dashed, asks))

-- neither option
none_asks : AskForBoth []
none_asks =
    let n = written Patience (codes "1000000") refl in
    let m = written Cache (codes "64") refl in
    (n.0, m.0, ([], [], (codes "1000000", n.1, inr (refl, refl)), (codes "64", m.1, inr (refl, refl)), inl refl))

-- one option
one_asks : (o : Which) (t : Text) (part : List Text) → accepts false (number_of o) t ≡ true → GiveText (id_of o) t part → AskForBoth part
one_asks Patience t part fits gives =
    let n = written Patience t fits in
    let m = written Cache (codes "64") refl in
    (n.0, m.0, (part, [], (t, n.1, inl gives), (codes "64", m.1, inr (refl, refl)), inl (sym (append-nil part))))
one_asks Cache t part fits gives =
    let n = written Patience (codes "1000000") refl in
    let m = written Cache t fits in
    (n.0, m.0, ([], part, (codes "1000000", n.1, inr (refl, refl)), (t, m.1, inl gives), inl refl))

-- both
two_ask : (o next : Which) (t u : Text) (part more : List Text) → accepts false (number_of o) t ≡ true → GiveText (id_of o) t part
    → accepts false (number_of next) u ≡ true → GiveText (id_of next) u more → fault_used run_options (inr (next, u)) (rows_used run_options (inr (o, t)) []) ≡ [] → AskForBoth (part ++ more)
two_ask Patience Patience t u part more fits gives suits too free = absurd (refuses _ _ free)
two_ask Cache Cache t u part more fits gives suits too free = absurd (refuses _ _ free)
two_ask Patience Cache t u part more fits gives suits too free =
    let n = written Patience t fits in
    let m = written Cache u suits in
    (n.0, m.0, (part, more, (t, n.1, inl gives), (u, m.1, inl too), inl refl))
two_ask Cache Patience t u part more fits gives suits too free =
    let n = written Patience u suits in
    let m = written Cache t fits in
    (n.0, m.0, (more, part, (u, n.1, inl too), (t, m.1, inl gives), inr refl))

-- there is no third
no_third : (o next last : Which) (t u v : Text) → fault_used run_options (inr (next, u)) (rows_used run_options (inr (o, t)) []) ≡ []
    → fault_used run_options (inr (last, v)) (rows_used run_options (inr (next, u)) (rows_used run_options (inr (o, t)) [])) ≡ [] → ⊥
no_third Patience Patience last t u v once e = refuses _ _ once
no_third Cache Cache last t u v once e = refuses _ _ once
no_third Patience Cache Patience t u v once e = refuses _ _ e
no_third Patience Cache Cache t u v once e = refuses _ _ e
no_third Cache Patience Patience t u v once e = refuses _ _ e
no_third Cache Patience Cache t u v once e = refuses _ _ e

uses_ask : (uses : List (Use run_options)) (words : List Text) (after : List Row) → AreUses run_options uses words [] after → AskForBoth words
uses_ask [] words after are = subst AskForBoth (sym are.0) none_asks
uses_ask (inl f ∷ more) words after are = absurd f
uses_ask (inr (o, t) ∷ []) words after (part, rest, is, spells, free, none) =
    let fits = used_once o t [] free in
    subst AskForBoth (sym (is ∙ ap (λ xs. part ++ xs) none.0 ∙ append-nil part)) (one_asks o t part fits (is_given o t part fits spells))
uses_ask (inr p ∷ inl f ∷ more) words after are = absurd f
uses_ask (inr (o, t) ∷ inr (next, u) ∷ []) words after (part, rest, is, spells, free, (more, left, rest_is, too, again, none)) =
    let fits = used_once o t [] free in
    let suits = used_once next u (rows_used run_options (inr (o, t)) []) again in
    subst AskForBoth (sym (is ∙ ap (λ xs. part ++ xs) (rest_is ∙ ap (λ xs. more ++ xs) none.0 ∙ append-nil more)))
    (two_ask o next t u part more fits (is_given o t part fits spells) suits (is_given next u more suits too) again)
uses_ask (inr p ∷ inr q ∷ inl f ∷ more) words after are = absurd f
uses_ask (inr (o, t) ∷ inr (next, u) ∷ inr (last, v) ∷ more) words after (part, rest, is, spells, free, (second, left, rest_is, too, again, (third, end, end_is, also, late, are))) =
    absurd (no_third o next last t u v again late)

pub run_asks : (words : List Text) → level_fault (level run_options run) [] nothing_held words false [] ≡ [] → AskForSome words
run_asks words e =
    let (uses, front, end, after, is, are, ends, finds) = level_asks run_options run words e in
    closed words front end is ends (uses_ask uses front after are)
