-- Tickets released one after the other, and what the session holds after each.
use Rattle.std.proofs.Common.{◌≡◌, ℕ, zero, suc, ◌+◌, ◌-◌, ◌<◌, ◌≤◌, Bool, true, false, List, [], ◌∷◌, ◌++◌, length, get_or, take, drop, refl, sym, ap, ◌∙◌, subst, arith, rules, append-nil, append_assoc, Result, Ok, Err}
use Rattle.std.specs.Prelude.{not, map, filter, find, is_some, IsOk}
use Rattle.std.proofs.lemmas.Bool.Decides.{nat_tests}
use Rattle.std.proofs.lemmas.List.{drop_more, reverse-append, take_all, take_more}
use Rattle.std.proofs.lemmas.List.Elements.{filter-append}
use Rattle.mdl_key.specs.declared.mode.Mode.TheVariants.{IX}
use Rattle.mdl_key.specs.declared.mode.Duration.TheVariants.{Statement}
use Rattle.mdl_calls.specs.declared.space_error.SpaceError.{SpaceError}
use Rattle.mdl_calls.specs.declared.space_error.SpaceError.TheVariants.{NotHeld}
use Rattle.mdl_calls.specs.Words.{Answer, Done, done, Call, Release, Knowledge, IsCause, IsExplained, SessionLocks, IsRising, is_number, holds, giving_up, Runs}
use Rattle.mdl_context.specs.declared.kept.Kept.{Kept}
use Rattle.mdl_context.specs.Contexts.{AreRising, held_of, newest_first}
use Rattle.mdl_context.specs.Releases.{releasing_all}
use Rattle.mdl_context.proofs.FrontLemmas.{Above}

-- a release is refused only where no such ticket is held
pub release-refused : (knows : Knowledge) (who id : ℕ) (refusal : SpaceError) (own : SessionLocks) → IsCause knows (Release who id) refusal own → holds id own ≡ true → ⊥
release-refused knows who id NotHeld own cause held = cc
release-refused knows who id _ own cause held = absurd cause

-- so one that is held is released
pub is_ok-released : (knows : Knowledge) (who id : ℕ) (r : Result (Unit {0}) SpaceError) (own : SessionLocks) → IsExplained knows (Release who id) (done r) own → holds id own ≡ true → IsOk r
is_ok-released knows who id (Ok x) own told held = search rules
is_ok-released knows who id (Err e) own told held = absurd (release-refused knows who id e own told held)

pub done-ok : (r : Result (Unit {0}) SpaceError) → IsOk r → done r ≡ Done
done-ok (Ok x) ok = refl
done-ok (Err e) ok = search rules

pub above_mid : (n : ℕ) (F D : List Kept) (t : Kept) → Above n (F ++ t ∷ D) → n < t.id
above_mid n [] D t above = grind (arith, nat_tests)
above_mid n (x ∷ F) D t above = grind (arith, nat_tests, above_mid n F D t)

others_stay : (n : ℕ) (D : List Kept) → Above n D → filter (λ h. not (is_number n h)) (map held_of D) ≡ map held_of D
others_stay n [] above = refl
others_stay n (x ∷ D) above = grind (arith, nat_tests, others_stay n D)

without_mid : (F D : List Kept) (t : Kept) → AreRising (F ++ t ∷ D) → filter (λ h. not (is_number t.id h)) (map held_of (F ++ t ∷ D)) ≡ map held_of (F ++ D)
without_mid [] D t rising = grind (arith, nat_tests, others_stay t.id D)
without_mid (x ∷ F) D t rising = grind (arith, nat_tests, without_mid F D t, above_mid x.id F D t)

holds_mid : (F D : List Kept) (t : Kept) → is_some (find (is_number t.id) (map held_of (F ++ t ∷ D))) ≡ true
holds_mid [] D t = grind (arith, nat_tests)
holds_mid (x ∷ F) D t = grind (arith, nat_tests, holds_mid F D t)

-- the ticket that stands for none
abbrev pub no_item : Kept
no_item = record { id = 0; place = 0; mode = IX; duration = Statement }

-- a ticket is the one that is there
pub own_item : (xs : List Kept) (i : ℕ) (d : Kept) → i < length xs → get_or xs i d ≡ get_or xs i (get_or xs i d)
own_item [] i d inside = absurd (omega arith)
own_item (x ∷ xs) zero d inside = refl
own_item (x ∷ xs) (suc i) d inside = own_item xs i d (omega (arith, inside))

-- what is left once the tickets from an index on were looked at
abbrev pub left : (Kept → Bool) → ℕ → List Kept → List Kept
left p at kept = take at kept ++ filter (λ t. not (p t)) (drop at kept)

-- those that are yet to go
abbrev pub to_go : (Kept → Bool) → ℕ → List Kept → List Kept
to_go p at kept = newest_first (filter p (take at kept))

module _ (p : Kept → Bool) (kept : List Kept) (at : ℕ) (more : 0 < at) (inside : at ≤ length kept) where
  -- the newest ticket that wasn't looked at, the older ones, and the newer ones that stay
  abbrev pub newest : Kept
  newest = get_or kept (at - 1) no_item

  abbrev pub older : List Kept
  older = take (at - 1) kept

  abbrev pub newer : List Kept
  newer = filter (λ t. not (p t)) (drop at kept)

  again : at - 1 + 1 ≡ at
  again = omega (arith, more)

  below : at - 1 < length kept
  below = omega (arith, more, inside)

  front : take at kept ≡ older ++ newest ∷ []
  front = ap (λ n. take n kept) (sym again) ∙ take_more kept (at - 1) no_item below

  back : drop (at - 1) kept ≡ newest ∷ drop at kept
  back = drop_more kept (at - 1) no_item below ∙ ap (λ n. newest ∷ drop n kept) again

  pub left-now : left p at kept ≡ older ++ newest ∷ newer
  left-now = ap (λ xs. xs ++ newer) front ∙ append_assoc older (newest ∷ []) newer

  others : (t : Kept) (b : Bool) → p t ≡ b → filter (λ x. not (p x)) (t ∷ drop at kept) ≡ (elim b as (λ _. List Kept) [ true ↦ newer | false ↦ t ∷ newer ])
  others t true e = grind arith
  others t false e = grind arith

  pub left-goes : p newest ≡ true → left p (at - 1) kept ≡ older ++ newer
  left-goes e = ap (λ xs. older ++ filter (λ x. not (p x)) xs) back ∙ ap (λ xs. older ++ xs) (others newest true e)

  pub left-stays : p newest ≡ false → left p (at - 1) kept ≡ left p at kept
  left-stays e = ap (λ xs. older ++ filter (λ x. not (p x)) xs) back ∙ ap (λ xs. older ++ xs) (others newest false e) ∙ sym left-now

  chosen : (t : Kept) (b : Bool) → p t ≡ b → filter p (t ∷ []) ≡ (elim b as (λ _. List Kept) [ true ↦ t ∷ [] | false ↦ [] ])
  chosen t true e = grind arith
  chosen t false e = grind arith

  both : to_go p at kept ≡ newest_first (filter p (newest ∷ [])) ++ to_go p (at - 1) kept
  both = ap (λ xs. newest_first (filter p xs)) front ∙ ap newest_first (filter-append p older (newest ∷ [])) ∙ reverse-append (filter p older) (filter p (newest ∷ []))

  rest-goes : p newest ≡ true → to_go p at kept ≡ newest ∷ to_go p (at - 1) kept
  rest-goes e = both ∙ ap (λ xs. newest_first xs ++ to_go p (at - 1) kept) (chosen newest true e)

  rest-stays : p newest ≡ false → to_go p at kept ≡ to_go p (at - 1) kept
  rest-stays e = both ∙ ap (λ xs. newest_first xs ++ to_go p (at - 1) kept) (chosen newest false e)

  pub run-goes : {S : Type 0} (joins : S → Call → Answer → S → Type 0) (who : ℕ) (before after b : S) → p newest ≡ true → joins before (Release who newest.id) Done after
      → Runs joins after (releasing_all who (to_go p (at - 1) kept)) tt b → Runs joins before (releasing_all who (to_go p at kept)) tt b
  run-goes joins who before after b e step run = subst (λ xs. Runs joins before (releasing_all who xs) tt b) (sym (rest-goes e)) (Done, after, step, run)

  pub run-stays : {S : Type 0} (joins : S → Call → Answer → S → Type 0) (who : ℕ) (before b : S) → p newest ≡ false
      → Runs joins before (releasing_all who (to_go p (at - 1) kept)) tt b → Runs joins before (releasing_all who (to_go p at kept)) tt b
  run-stays joins who before b e run = subst (λ xs. Runs joins before (releasing_all who xs) tt b) (sym (rest-stays e)) run

  -- the ticket is still held
  pub holds-here : (own : SessionLocks) → own.held ≡ map held_of (left p at kept) → holds newest.id own ≡ true
  holds-here own held = ap (λ hs. is_some (find (is_number newest.id) hs)) (held ∙ ap (map held_of) left-now) ∙ holds_mid older newer newest

  -- and then it isn't
  pub held-goes : (own : SessionLocks) → IsRising own → own.held ≡ map held_of (left p at kept) → p newest ≡ true → (giving_up newest.id own).held ≡ map held_of (left p (at - 1) kept)
  held-goes own rising held e =
      let all = held ∙ ap (map held_of) left-now in
      ap (filter (λ h. not (is_number newest.id h))) all
      ∙ without_mid older newer newest (rw all at rising)
      ∙ ap (map held_of) (sym (left-goes e))

-- ---- the newest ticket

module _ (p : Kept → Bool) (kept : List Kept) (at : ℕ) (more : 0 < at) (many : length kept ≡ at) where
  -- the newest of all tickets, and the others
  abbrev pub last : Kept
  last = get_or kept (at - 1) no_item

  abbrev pub others_than_last : List Kept
  others_than_last = take (at - 1) kept

  pub last-parted : kept ≡ others_than_last ++ last ∷ []
  last-parted =
      let all : take at kept ≡ kept = take_all at kept (omega (arith, many)) in
      sym all ∙ front p kept at more (omega (arith, many))

  last-first : p last ≡ true → newest_first (filter p kept) ≡ last ∷ newest_first (filter p others_than_last)
  last-first e =
      ap (λ xs. newest_first (filter p xs)) last-parted ∙ ap newest_first (filter-append p others_than_last (last ∷ []))
      ∙ reverse-append (filter p others_than_last) (filter p (last ∷ [])) ∙ ap (λ xs. newest_first xs ++ newest_first (filter p others_than_last)) (only last e)
    where
      only : (t : Kept) → p t ≡ true → filter p (t ∷ []) ≡ t ∷ []
      only t passes = grind arith

  pub run-last : {S : Type 0} (joins : S → Call → Answer → S → Type 0) (who : ℕ) (before after b : S) → p last ≡ true → joins before (Release who last.id) Done after
      → Runs joins after (releasing_all who (newest_first (filter p others_than_last))) tt b → Runs joins before (releasing_all who (newest_first (filter p kept))) tt b
  run-last joins who before after b e step run = subst (λ xs. Runs joins before (releasing_all who xs) tt b) (sym (last-first e)) (Done, after, step, run)

  pub stays-last : p last ≡ true → filter (λ t. not (p t)) others_than_last ≡ filter (λ t. not (p t)) kept
  stays-last e =
      sym (ap (filter (λ t. not (p t))) last-parted ∙ filter-append (λ t. not (p t)) others_than_last (last ∷ [])
      ∙ ap (λ xs. filter (λ t. not (p t)) others_than_last ++ xs) (none last e) ∙ append-nil (filter (λ t. not (p t)) others_than_last))
    where
      none : (t : Kept) → p t ≡ true → filter (λ x. not (p x)) (t ∷ []) ≡ []
      none t passes = grind arith

  pub holds-last : (own : SessionLocks) → own.held ≡ map held_of kept → holds last.id own ≡ true
  holds-last own held = ap (λ hs. is_some (find (is_number last.id) hs)) (held ∙ ap (map held_of) last-parted) ∙ holds_mid others_than_last [] last

  pub held-last : (own : SessionLocks) → IsRising own → own.held ≡ map held_of kept → (giving_up last.id own).held ≡ map held_of others_than_last
  held-last own rising held =
      let all = held ∙ ap (map held_of) last-parted in
      ap (filter (λ h. not (is_number last.id h))) all
      ∙ without_mid others_than_last [] last (rw all at rising)
      ∙ ap (map held_of) (append-nil others_than_last)
