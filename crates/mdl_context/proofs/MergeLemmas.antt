-- A ticket that isn't kept, beside those that are: what a session has after it was merged into one of them, or released.
use Rattle.std.proofs.Common.{◌≡◌, ℕ, ◌<◌, true, false, List, [], ◌∷◌, ◌++◌, Option, Some, None, Result, Ok, Err, refl, sym, ap, ◌∙◌, arith}
use Rattle.std.specs.Prelude.{not, ◌==◌, map, filter, find, is_some, MatchOption, IfErr, if◌then◌else◌}
use Rattle.std.specs.Option.{option_map}
use Rattle.std.proofs.lemmas.Bool.Decides.{nat_tests}
use Rattle.mdl_key.specs.declared.mode.Mode.{Mode}
use Rattle.mdl_calls.specs.declared.answers.Held.{Held}
use Rattle.mdl_calls.specs.declared.space_error.SpaceError.{SpaceError}
use Rattle.mdl_calls.specs.declared.space_error.SpaceError.TheVariants.{NotHeld, AlreadyWaiting, BadMode, Full, OutOfMemory}
use Rattle.mdl_calls.specs.Causes.{Mergeable, may_merge}
use Rattle.mdl_calls.specs.SessionLocks.{changing}
use Rattle.mdl_calls.specs.SessionLocks as owned
use Rattle.mdl_calls.specs.Words.{done, Merge, Knowledge, IsCause, IsExplained, SessionLocks, IsRising, is_number, is_waiting, ticket_held, holds, giving_up}
use Rattle.mdl_system.specs.Strength.{covers}
use Rattle.mdl_context.specs.declared.kept.Kept.{Kept}
use Rattle.mdl_context.specs.Contexts.{ContextView, Serves, AreRising, held_of, ticket_kept, wish_here, wish_there}
use Rattle.mdl_context.specs.Holdings.{with_kept_mode, without_number}
use Rattle.mdl_context.specs.Upgrades.{with_ticket, is_merge_refusal}
use Rattle.mdl_context.proofs.BeyondLemmas.{held-without}
use Rattle.mdl_context.proofs.FrontLemmas.{Above}

-- ---- the last of rising tickets

above-last : (n : ℕ) (xs : List Kept) (s : Kept) → Above n (xs ++ s ∷ []) → n < s.id
above-last n [] s above = grind (arith, nat_tests)
above-last n (x ∷ xs) s above = grind (arith, nat_tests, above-last n xs s)

-- it is found by its number
last-found : (xs : List Kept) (s : Kept) → AreRising (xs ++ s ∷ []) → find (is_number s.id) (map held_of (xs ++ s ∷ [])) ≡ Some (held_of s)
last-found [] s rising = grind (arith, nat_tests)
last-found (x ∷ xs) s rising = grind (arith, nat_tests, last-found xs s, above-last x.id xs s)

-- without it, the others are left
last-gone : (xs : List Kept) (s : Kept) → AreRising (xs ++ s ∷ []) → without_number s.id (xs ++ s ∷ []) ≡ xs
last-gone [] s rising = grind (arith, nat_tests)
last-gone (x ∷ xs) s rising = grind (arith, nat_tests, last-gone xs s, above-last x.id xs s)

-- a ticket among the others is found as before, and has another number
first-found : (id : ℕ) (xs ys : List Kept) (t : Kept) → ticket_kept id xs ≡ Some t → find (is_number id) (map held_of (xs ++ ys)) ≡ Some (held_of t)
first-found id [] ys t found = cc
first-found id (x ∷ xs) ys t found = grind (arith, nat_tests, first-found id xs ys t)

first-other : (id : ℕ) (xs : List Kept) (s t : Kept) → AreRising (xs ++ s ∷ []) → ticket_kept id xs ≡ Some t → (t.id == s.id) ≡ false
first-other id [] s t rising found = cc
first-other id (x ∷ xs) s t rising found = grind (arith, nat_tests, first-other id xs s t, above-last x.id xs s)

-- the others rise too
above-first : (n : ℕ) (xs ys : List Kept) → Above n (xs ++ ys) → Above n xs
above-first n [] ys above = refl
above-first n (x ∷ xs) ys above = grind (arith, nat_tests, above-first n xs ys)

rising-first : (xs ys : List Kept) → AreRising (xs ++ ys) → AreRising xs
rising-first [] ys rising = refl
rising-first (x ∷ xs) ys rising = grind (arith, nat_tests, rising-first xs ys, above-first x.id xs ys)

-- ---- tickets in another mode

pub held-in_mode : (id : ℕ) (f : Mode → Mode) (xs : List Kept) →
    map (λ (h : Held). if is_number id h then record h { mode = f h.mode } else h) (map held_of xs) ≡ map held_of (with_kept_mode id f xs)
held-in_mode id f [] = refl
held-in_mode id f (x ∷ xs) = grind (arith, nat_tests, held-in_mode id f xs)

-- the context serves the session as the mode of a ticket is changed
pub serves-in_mode : (id : ℕ) (f : Mode → Mode) (own now : SessionLocks) (before after : ContextView) → Serves own before → now ≡ changing id f own
    → after.kept ≡ with_kept_mode id f before.kept → after.wait ≡ before.wait → Serves now after
serves-in_mode id f own now before after serves changed kept wait = record {
  held = ap (λ (o : SessionLocks). o.held) changed ∙ ap (map (λ (h : Held). if is_number id h then record h { mode = f h.mode } else h)) serves.held
      ∙ held-in_mode id f before.kept ∙ sym (ap (map held_of) kept);
  wait = ap (λ (o : SessionLocks). option_map wish_there o.wait) changed ∙ serves.wait ∙ sym (ap (option_map wish_here) wait);
}

-- ---- a second ticket

module _ (own : SessionLocks) (context : ContextView) (second : Kept) (rising : IsRising own) (serves : Serves own (with_ticket second context)) where
  kept-rising : AreRising (context.kept ++ second ∷ [])
  kept-rising = rw serves.held at rising

  pub others-rising : AreRising context.kept
  others-rising = rising-first context.kept (second ∷ []) kept-rising

  -- it is held
  pub second-held : ticket_held second.id own ≡ Some (held_of second)
  second-held = ap (find (is_number second.id)) serves.held ∙ last-found context.kept second kept-rising

  left-held : filter (λ h. not (is_number second.id h)) own.held ≡ map held_of context.kept
  left-held =
      ap (filter (λ h. not (is_number second.id h))) serves.held ∙ held-without second.id (context.kept ++ second ∷ [])
      ∙ ap (map held_of) (last-gone context.kept second kept-rising)

  -- it is released
  pub serves-released : (now : SessionLocks) (after : ContextView) → now ≡ giving_up second.id own → after.kept ≡ context.kept → after.wait ≡ context.wait → Serves now after
  serves-released now after gone kept wait = record {
    held = ap (λ (o : SessionLocks). o.held) gone ∙ left-held ∙ sym (ap (map held_of) kept);
    wait = ap (λ (o : SessionLocks). option_map wish_there o.wait) gone ∙ serves.wait ∙ sym (ap (option_map wish_here) wait);
  }

  -- it is merged into another one
  pub serves-merged : (id : ℕ) (now : SessionLocks) (after : ContextView) → now ≡ owned.merging id second.id (ticket_held second.id own) own
      → after.kept ≡ with_kept_mode id (λ _. second.mode) context.kept → after.wait ≡ context.wait → Serves now after
  serves-merged id now after merged kept wait =
      serves-in_mode id (λ _. second.mode) (giving_up second.id own) now context after
      (serves-released (giving_up second.id own) context refl refl refl)
      (merged ∙ ap (λ ticket. owned.merging id second.id ticket own) second-held) kept wait

  -- that is possible where the other one is kept at its place, and isn't stronger
  pub can-merge : (id : ℕ) → MatchOption (ticket_kept id context.kept) ⊥ (λ ticket. (ticket.place ≡ second.place) × (covers second.mode ticket.mode ≡ true)) → Mergeable true id second.id own
  can-merge id fits = go (ticket_kept id context.kept) refl fits where
    go : (o : Option Kept) → ticket_kept id context.kept ≡ o → MatchOption o ⊥ (λ ticket. (ticket.place ≡ second.place) × (covers second.mode ticket.mode ≡ true)) → Mergeable true id second.id own
    go None found fits = absurd fits
    go (Some t) found fits =
        let first : ticket_held id own ≡ Some (held_of t) = ap (find (is_number id)) serves.held ∙ first-found id context.kept (second ∷ []) t found in
        rw (first, second-held) (grind (arith, nat_tests, first-other id context.kept second t kept-rising found, fits.0, fits.1))

-- ---- refusals

-- where two tickets can be merged, the second is held
pub holds-second : (id new : ℕ) (own : SessionLocks) → Mergeable true id new own → holds new own ≡ true
holds-second id new own may = go (ticket_held id own) (ticket_held new own) may where
  go : (o p : Option Held) → MatchOption o ⊥ (λ k. MatchOption p ⊥ (λ g. may_merge k g ≡ true)) → is_some p ≡ true
  go None p may = absurd may
  go (Some k) None may = absurd may
  go (Some k) (Some g) may = refl

-- so is the first
holds-first : (id new : ℕ) (own : SessionLocks) → Mergeable true id new own → holds id own ≡ true
holds-first id new own may = go (ticket_held id own) (ticket_held new own) may where
  go : (o p : Option Held) → MatchOption o ⊥ (λ k. MatchOption p ⊥ (λ g. may_merge k g ≡ true)) → is_some o ≡ true
  go None p may = absurd may
  go (Some k) p may = refl

-- they can, or they can't
not-both : (id new : ℕ) (own : SessionLocks) → Mergeable true id new own → Mergeable false id new own → ⊥
not-both id new own may cannot = go (ticket_held id own) (ticket_held new own) may cannot where
  go : (o p : Option Held) → MatchOption o ⊥ (λ k. MatchOption p ⊥ (λ g. may_merge k g ≡ true)) → MatchOption o ⊥ (λ k. MatchOption p ⊥ (λ g. may_merge k g ≡ false)) → ⊥
  go None p may cannot = may
  go (Some k) None may cannot = may
  go (Some k) (Some g) may cannot = cc

-- a merge that is possible is refused only for want of memory or of room
cause-merge : (knows : Knowledge) (who id new : ℕ) (refusal : SpaceError) (own : SessionLocks) → Mergeable true id new own → is_waiting own ≡ false
    → IsCause knows (Merge who id new) refusal own → is_merge_refusal refusal ≡ true
cause-merge knows who id new NotHeld own may idle cause = let first = holds-first id new own may in let second = holds-second id new own may in let wrong : true ≡ false = rw (first, second) at cause in cc
cause-merge knows who id new AlreadyWaiting own may idle cause = let waits = cause.1 in cc
cause-merge knows who id new BadMode own may idle cause = absurd (not-both id new own may cause.1)
cause-merge knows who id new Full own may idle cause = refl
cause-merge knows who id new OutOfMemory own may idle cause = refl
cause-merge knows who id new _ own may idle cause = absurd cause

pub refused-merge : (knows : Knowledge) (who id new : ℕ) (result : Result (Unit {0}) SpaceError) (own : SessionLocks) → Mergeable true id new own → is_waiting own ≡ false
    → IsExplained knows (Merge who id new) (done result) own → IfErr result (λ refusal. is_merge_refusal refusal ≡ true)
refused-merge knows who id new (Ok x) own may idle told = tt
refused-merge knows who id new (Err refusal) own may idle told = cause-merge knows who id new refusal own may idle told
