-- What a seat has of a latched place stays in its hands from step to step.
use Rattle.std.proofs.Common.{◌≡◌, ℕ, Bool, not, cond, ◌==◌, List, [], ◌∷◌, map, refl, ap, ◌∙◌, ◌<◌, arith, eq-eqb}
use Rattle.mdl_steps.proofs.Common.{BookView, Deed, Each, Holds, LatchRecord, Mine, StepKind, VersionedDefinition, elsewhere, filter, flags_lowered, latched, lowered, redefined, restood, stepped, written}
use Rattle.mdl_steps.proofs.Views.{by_bool, other, held_at-first, held_at-changed}

-- as the latch was taken
pub holds_taken : (place : ℕ) (h : LatchRecord) (m : Mine) → h.place ≡ place → Holds place h h.book (latched place h m)
holds_taken place h m here = record { recorded = held_at-first place h m.0.latches here; carried = refl }

-- after a step on the place's word that changed the record
pub holds_stepped : (kind : StepKind) (place found : ℕ) (f : LatchRecord → LatchRecord) (h : LatchRecord) (book : BookView) (m : Mine) → ((x : LatchRecord) → (f x).place ≡ x.place)
    → Holds place h book m → Holds place (f h) book (stepped kind place found f m)
holds_stepped kind place found f h book m stays has = record {
  recorded = held_at-changed place f stays m.0.latches h has.recorded;
  carried = has.carried;
}

-- after flags were lowered: the record has the book in hand from then on
pub holds_settled : (place : ℕ) (ds : List Deed) (found : ℕ) (slow obtrusive : Bool) (h : LatchRecord) (book : BookView) (m : Mine)
    → Holds place h book m → Holds place (lowered ds book slow obtrusive h) book (flags_lowered place ds found book slow obtrusive m)
holds_settled place ds found slow obtrusive h book m has = record {
  recorded = held_at-changed place (lowered ds book slow obtrusive) (λ x. refl) m.0.latches h has.recorded;
  carried = has.carried;
}

-- after what stands there was changed
pub holds_redefined : (place : ℕ) (h : LatchRecord) (book : BookView) (m : Mine) → Holds place h book m → Holds place (restood book.standing h) book (redefined place book.standing m)
holds_redefined place h book m has = record {
  recorded = held_at-changed place (restood book.standing) (λ x. refl) m.0.latches h has.recorded;
  carried = has.carried;
}

-- after another book was written
pub holds_written : (place : ℕ) (h : LatchRecord) (book next : BookView) (m : Mine) → Holds place h book m → Holds place h next (written place next m)
holds_written place h book next m has = record { recorded = has.recorded; carried = refl }

-- ---- the records of other latches stay

pub elsewhere-taken : (place : ℕ) (h : LatchRecord) (m : Mine) → h.place ≡ place → elsewhere place (latched place h m) ≡ elsewhere place m
elsewhere-taken place h m here = rw (eq-eqb h.place place here) refl

unmapped : (place : ℕ) (f : LatchRecord → LatchRecord) → ((x : LatchRecord) → (f x).place ≡ x.place) → (hs : List LatchRecord)
    → filter (λ h. not (h.place == place)) (map (λ x. cond (x.place == place) (f x) x) hs) ≡ filter (λ h. not (h.place == place)) hs
unmapped place f stays [] = refl
unmapped place f stays (h ∷ hs) = by_bool (h.place == place)
    (λ e. rw (e, ap (λ p. p == place) (stays h) ∙ e) (unmapped place f stays hs))
    (λ e. rw (e, e) (ap (λ ls. h ∷ ls) (unmapped place f stays hs)))

pub elsewhere-stepped : (kind : StepKind) (place found : ℕ) (f : LatchRecord → LatchRecord) (m : Mine) → ((x : LatchRecord) → (f x).place ≡ x.place)
    → elsewhere place (stepped kind place found f m) ≡ elsewhere place m
elsewhere-stepped kind place found f m stays = unmapped place f stays m.0.latches

pub elsewhere-settled : (place : ℕ) (ds : List Deed) (found : ℕ) (slow obtrusive : Bool) (book : BookView) (m : Mine)
    → elsewhere place (flags_lowered place ds found book slow obtrusive m) ≡ elsewhere place m
elsewhere-settled place ds found slow obtrusive book m = unmapped place (lowered ds book slow obtrusive) (λ x. refl) m.0.latches

pub elsewhere-redefined : (place : ℕ) (standing : VersionedDefinition) (m : Mine) → elsewhere place (redefined place standing m) ≡ elsewhere place m
elsewhere-redefined place standing m = unmapped place (restood standing) (λ x. refl) m.0.latches

-- all of them, where each is of a lower place
pub elsewhere-rising : (place : ℕ) (hs : List LatchRecord) → Each (λ (h : LatchRecord). h.place < place) hs → filter (λ h. not (h.place == place)) hs ≡ hs
elsewhere-rising place [] all = refl
elsewhere-rising place (h ∷ hs) all = rw (other h.place place (λ e. let less = all.0 in omega arith)) (ap (λ ls. h ∷ ls) (elsewhere-rising place hs all.1))
