-- The places that a session pins, by the marks of all places.
use Rattle.std.proofs.Common.{◌≡◌, ℕ, zero, suc, ◌+◌, ◌<◌, ◌≤◌, Bool, true, false, List, [], ◌∷◌, ◌++◌, length, get_or, map, replicate, set, None, Option, Some, is_some, slice_get, refl, sym, ap, subst, ◌∙◌, arith}
use Rattle.std.proofs.lemmas.List.{length-map, map-set, take_all}
use Rattle.mdl_calls.proofs.MarkLemmas.{marked-at, marked-resized, marked-set, marked-unset, marked-unset_past}
use Rattle.mdl_calls.specs.Marks.{marked_from}
use Rattle.mdl_calls.specs.SessionLocks.{with_place, without_place}
use Rattle.mdl_visits.proofs.Common.{Kind, KnownKey, by_bool, kind_known}
use Rattle.mdl_visits.specs.KnownLists.{has_pin, kind_pinned}
use Rattle.mdl_visits.specs.OwnKeys.{kind_in, no_mark, pinned_of, unpinned}
use Rattle.mdl_visits.specs.declared.known_keys.Mark.{Mark}

-- ---- changes

-- as many flags as marks
reaches : (place : ℕ) (marks : List Mark) → place < length marks → place < length (pinned_of marks)
reaches place marks within = subst (λ n. place < n) (sym (length-map marks (λ (m : Mark). m.pinned))) within

flags_filled : (n : ℕ) (marks : List Mark) → pinned_of (marks ++ replicate n no_mark) ≡ pinned_of marks ++ replicate n false
flags_filled n (mark ∷ marks) = ap (λ (flags : List Bool). mark.pinned ∷ flags) (flags_filled n marks)
flags_filled zero [] = refl
flags_filled (suc n) [] = ap (λ (flags : List Bool). false ∷ flags) (flags_filled n [])

-- more places that aren't known
pub pins_still : (n : ℕ) (marks : List Mark) → marked_from 0 (pinned_of (marks ++ replicate n no_mark)) ≡ marked_from 0 (pinned_of marks)
pins_still n marks =
    marked-resized (pinned_of marks) (pinned_of (marks ++ replicate n no_mark)) (length (pinned_of marks)) n (omega arith)
    (flags_filled n marks ∙ ap (λ (kept : List Bool). kept ++ replicate n false) (sym (take_all (length (pinned_of marks)) (pinned_of marks) (omega arith))))

-- a mark at a place: a pin
pub pins_more : (place : ℕ) (marks : List Mark) (mark : Mark) → place < length marks → mark.pinned ≡ true
    → marked_from 0 (pinned_of (set marks place mark)) ≡ with_place place (marked_from 0 (pinned_of marks))
pins_more place marks mark within pin =
    ap (marked_from 0) (map-set (λ (m : Mark). m.pinned) marks place mark ∙ ap (set (pinned_of marks) place) pin)
    ∙ marked-set place (pinned_of marks) (reaches place marks within)

-- or none
pub pins_less : (place : ℕ) (marks : List Mark) (mark : Mark) → mark.pinned ≡ false
    → marked_from 0 (pinned_of (set marks place mark)) ≡ without_place place (marked_from 0 (pinned_of marks))
pins_less place marks mark none =
    ap (marked_from 0) (map-set (λ (m : Mark). m.pinned) marks place mark ∙ ap (set (pinned_of marks) place) none)
    ∙ marked-unset place (pinned_of marks)

pub pins_past : (place : ℕ) (marks : List Mark) → length marks ≤ place → marked_from 0 (pinned_of marks) ≡ without_place place (marked_from 0 (pinned_of marks))
pins_past place marks past = marked-unset_past place (pinned_of marks) (subst (λ n. n ≤ place) (sym (length-map marks (λ (m : Mark). m.pinned))) past)

-- or as before
pub pins_same : (place : ℕ) (marks : List Mark) (old mark : Mark) → slice_get marks place ≡ Some old → mark.pinned ≡ old.pinned
    → pinned_of (set marks place mark) ≡ pinned_of marks
pins_same place [] old mark there same = refl
pins_same zero (m ∷ marks) old mark there same = (let is : m ≡ old = cc in ap (λ (flag : Bool). flag ∷ pinned_of marks) (same ∙ sym (ap (λ (x : Mark). x.pinned) is)))
pins_same (suc place) (m ∷ marks) old mark there same = ap (λ (flags : List Bool). m.pinned ∷ flags) (pins_same place marks old mark there same)

-- no pin at any place
pub pins_none : (from : ℕ) (marks : List Mark) → marked_from from (pinned_of (map unpinned marks)) ≡ []
pins_none from [] = refl
pins_none from (m ∷ marks) = pins_none (from + 1) marks

-- ---- look-ups

flag_at : (place : ℕ) (marks : List Mark) → get_or (pinned_of marks) place false ≡ is_some (kind_in place marks)
flag_at place [] = refl
flag_at zero (m ∷ marks) = by_bool m.pinned (λ pin. rw pin refl) (λ none. rw none refl)
flag_at (suc place) (m ∷ marks) = flag_at place marks

-- a place is pinned if its mark is a pin
pub pin_found : (place : ℕ) (marks : List Mark) → has_pin place (marked_from 0 (pinned_of marks)) ≡ is_some (kind_in place marks)
pin_found place marks = marked-at place (pinned_of marks) ∙ flag_at place marks

-- and then the kind is that of the lock there
pub kind_found : (place : ℕ) (marks : List Mark) (known : List KnownKey) → ((kind : Kind) → kind_in place marks ≡ Some kind → kind_known place known ≡ Some kind)
    → kind_in place marks ≡ kind_pinned place (marked_from 0 (pinned_of marks)) known
kind_found place marks known are = by (kind_in place marks) refl
  where
    by : (o : Option Kind) → kind_in place marks ≡ o → o ≡ kind_pinned place (marked_from 0 (pinned_of marks)) known
    by None is = rw (pin_found place marks ∙ ap is_some is) refl
    by (Some kind) is = rw (pin_found place marks ∙ ap is_some is) (sym (are kind is))

-- the mark of a pinned place
pub mark_found : (place : ℕ) (marks : List Mark) → is_some (kind_in place marks) ≡ true → (mark : Mark) × (slice_get marks place ≡ Some mark) × (mark.pinned ≡ true)
mark_found place [] is = absurd (cc)
mark_found zero (m ∷ marks) is = by_bool m.pinned (λ pin. (m, refl, pin)) (λ none. (let never : false ≡ true = rw none at is in absurd (cc)))
mark_found (suc place) (m ∷ marks) is = mark_found place marks is
