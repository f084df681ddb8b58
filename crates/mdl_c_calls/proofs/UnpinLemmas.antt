-- How a session that has nothing gives up its pins, place by place.
use Rattle.std.proofs.Common.{◌≡◌, ℕ, suc, ◌+◌, ◌-◌, ◌<◌, ◌≤◌, ◌==◌, ◌||◌, Bool, true, false, not, List, [], ◌∷◌, length, Option, Some, None, option_map, inl, inr, refl, sym, ap, ap₂, ◌∙◌, subst, arith}
use Rattle.std.specs.List.{list_any, range_with_len}
use Rattle.std.proofs.lemmas.Bool.{false≢true, true≢false}
use Rattle.std.proofs.lemmas.Bool.Decides.{eqb_tells, nat_tests}
use Rattle.mdl_calls.specs.declared.answers.Held.{Held}
use Rattle.mdl_calls.specs.declared.space_error.SpaceError.TheVariants.{InUse, NoPlace}
use Rattle.mdl_calls.specs.Words.{Answer, Done, Unpin, HasNothing, Runs, SessionLocks, Wait, is_pinned, unpinning, without_place}
use Rattle.mdl_calls.proofs.PinLemmas.{is_among, without-gone, without-told}
use Rattle.mdl_core.specs.declared.pending.Pending.{Pending}
use Rattle.mdl_core.specs.CoreCalls.{first_cause, is_needed, is_wait_at, refused_or}
use Rattle.mdl_core.specs.CoreJoins.{Joins}
use Rattle.mdl_core.specs.Cores as cores
use Rattle.mdl_core.specs.Words.{Core, SpeaksFor, has_pin, locks_at, seat_at, unpin_outcome}
use Rattle.mdl_core.proofs.CallLaws.{core-changes}
use Rattle.mdl_core.proofs.CoreReads.{within}
use Rattle.mdl_space.specs.CoreMembers.{core_space}
use Rattle.mdl_context.specs.Tidying.{unpinning_all}

-- ---- one place

-- a wait as a caller sees it
abbrev seen : Pending → Wait
seen wait = record { number = wait.number; place = wait.place; mode = wait.mode }

-- a session that has nothing needs no place
needs-none : (a : Core) (who place : ℕ) → HasNothing (locks_at a who) → is_needed who place a ≡ false
needs-none a who place free = by (seat_at who a).held (seat_at who a).wait free.0 free.1 where
  by : (held : List Held) (wait : Option Pending) → held ≡ [] → option_map seen wait ≡ None
      → (list_any (λ (ticket : Held). ticket.place == place) held || is_wait_at place wait) ≡ false
  by [] None none idle = refl
  by [] (Some w) none idle = cc
  by (x ∷ xs) wait none idle = cc

-- the session of a space, after another space, has nothing either. It doesn't pin this place, and pins no more than before
pub record GivesUp (who place : ℕ) (a b : Core) : Type 0 where
  pub books : b.books ≡ a.books
  pub free : HasNothing (locks_at b who)
  pub gone : is_pinned place (locks_at b who) ≡ false
  pub still : (other : ℕ) → is_pinned other (locks_at a who) ≡ false → is_pinned other (locks_at b who) ≡ false

-- what isn't pinned isn't pinned without a place
fewer : (other place : ℕ) (pins : List ℕ) → is_among other pins ≡ false → is_among other (without_place place pins) ≡ false
fewer other place pins none = by (is_among other (without_place place pins)) refl where
  by : (told : Bool) → is_among other (without_place place pins) ≡ told → is_among other (without_place place pins) ≡ false
  by false told = told
  by true told = absurd (true≢false (sym (without-told other place pins told) ∙ none))

-- it is asked to give up its pin of a place
pub gives-up : (a b : Core) (who place : ℕ) (answer : Answer) → HasNothing (locks_at a who) → Joins a (Unpin who place) answer b → GivesUp who place a b
gives-up a b who place answer free joined = elim joined.1 [
  | inl starved ↦ absurd (false≢true starved.0)
  | inr made ↦ by (has_pin who place a) refl made
]
  where
    outcome_if : Bool → Bool → Answer × Core
    outcome_if pinned needed = refused_or (first_cause ((not pinned, NoPlace) ∷ (needed, InUse) ∷ [])) a (Done, cores.unpinning who place a)

    given : locks_at b who ≡ unpinning place (locks_at a who) → b.books ≡ a.books → GivesUp who place a b
    given own books = record {
      books = books;
      free = (ap (λ (o : SessionLocks). o.held) own ∙ free.0, ap (λ (o : SessionLocks). o.wait) own ∙ free.1);
      gone = ap (is_pinned place) own ∙ without-gone place (locks_at a who).pins;
      still = λ other none. ap (is_pinned other) own ∙ fewer other place (locks_at a who).pins none;
    }

    by : (pinned : Bool) → has_pin who place a ≡ pinned → unpin_outcome who place a ≡ (answer, b) → GivesUp who place a b
    by false none made =
        let same : a ≡ b = ap (λ (o : Answer × Core). o.1) (sym (ap (λ pinned. outcome_if pinned (is_needed who place a)) none) ∙ made) in
        subst (GivesUp who place a) same (record { books = refl; free = free; gone = none; still = λ other unpinned. unpinned })
    by true some made =
        let out : (Done, cores.unpinning who place a) ≡ (answer, b) = sym (ap₂ outcome_if some (needs-none a who place free)) ∙ made in
        given
        (core-changes a b (Unpin who place) Done who refl (subst (λ r. Joins a (Unpin who place) r b) (sym (ap (λ (o : Answer × Core). o.0) out)) joined))
        (sym (ap (λ (o : Answer × Core). o.1.books) out))

-- ---- all places

-- the program begins with the first place
pub run-all : (who n : ℕ) (a b : Core) → Runs core_space.joins a (unpinning_all who (range_with_len (0 + 1) (n - 0))) tt b
    → Runs core_space.joins a (unpinning_all who (range_with_len 1 n)) tt b
run-all who n a b run =
    let first : 0 + 1 ≡ 1 = omega arith in
    let whole : n - 0 ≡ n = omega arith in
    subst (λ k. Runs core_space.joins a (unpinning_all who (range_with_len 1 k)) tt b) whole
    (subst (λ p. Runs core_space.joins a (unpinning_all who (range_with_len p (n - 0))) tt b) first run)

-- goes on to the next one
pub run-unpin : (who n index : ℕ) (a mid b : Core) (answer : Answer) → index < n → core_space.joins a (Unpin who (index + 1)) answer mid
    → Runs core_space.joins mid (unpinning_all who (range_with_len (index + 1 + 1) (n - (index + 1)))) tt b
    → Runs core_space.joins a (unpinning_all who (range_with_len (index + 1) (n - index))) tt b
run-unpin who n index a mid b answer more joined rest =
    let next : suc (n - (index + 1)) ≡ n - index = omega (arith, more) in
    subst (λ k. Runs core_space.joins a (unpinning_all who (range_with_len (index + 1) k)) tt b) next (answer, mid, joined, rest)

-- and is over after the last one
pub run-over : (who n index : ℕ) (a : Core) → n ≤ index → Runs core_space.joins a (unpinning_all who (range_with_len (index + 1) (n - index))) tt a
run-over who n index a over =
    let none : 0 ≡ n - index = omega (arith, over) in
    subst (λ k. Runs core_space.joins a (unpinning_all who (range_with_len (index + 1) k)) tt a) none (refl, refl)

-- none of the places up to this one is pinned
abbrev pub AreUnpinned : ℕ → SessionLocks → Type 0
AreUnpinned index own = (place : ℕ) → 1 ≤ place → place ≤ index → is_pinned place own ≡ false

-- nor is the next one
pub one-more : (index : ℕ) (own : SessionLocks) → is_pinned (index + 1) own ≡ false → AreUnpinned index own → AreUnpinned (index + 1) own
one-more index own here before place least most = elim (eqb_tells place (index + 1)) [
  | inl same ↦ subst (λ p. is_pinned p own ≡ false) (sym same.1) here
  | inr other ↦ before place least (omega (arith, other.1, most))
]

pub unpinned-more : (who index : ℕ) (a b : Core) → GivesUp who (index + 1) a b → AreUnpinned index (locks_at a who) → AreUnpinned (index + 1) (locks_at b who)
unpinned-more who index a b gives before =
    one-more index (locks_at b who) gives.gone (λ place least most. gives.still place (before place least most))

-- where none of the places that have a key is pinned, none is
pub pins-none : (a : Core) (who index : ℕ) → SpeaksFor a who → length a.books ≤ index → AreUnpinned index (locks_at a who) → (locks_at a who).pins ≡ []
pins-none a who index speaks all unpinned = by (locks_at a who).pins refl where
  here : (p : ℕ) (ps : List ℕ) → is_among p (p ∷ ps) ≡ true
  here p ps = grind (arith, nat_tests)

  by : (pins : List ℕ) → (locks_at a who).pins ≡ pins → pins ≡ []
  by [] is = refl
  by (p ∷ ps) is =
      let pinned : is_pinned p (locks_at a who) ≡ true = ap (is_among p) is ∙ here p ps in
      let inside = within p (length a.books) (speaks.1.tied.pinned who p speaks.0 pinned) in
      absurd (true≢false (sym pinned ∙ unpinned p inside.0 (omega (arith, inside.1, all))))

-- and where one is, there is a pin
pub pins-some : (own : SessionLocks) (place : ℕ) → is_pinned place own ≡ true → not (length own.pins == 0) ≡ true
pins-some own place pinned = by own.pins pinned where
  by : (pins : List ℕ) → is_among place pins ≡ true → not (length pins == 0) ≡ true
  by [] some = cc
  by (p ∷ ps) some =
      let more : (length (p ∷ ps) == 0) ≡ false = grind (arith, nat_tests) in ap not more
