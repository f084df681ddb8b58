-- Where the bars of what is held are in their row.
use Rattle.std.proofs.Common.{◌≡◌, ◌∙◌, ℕ, zero, suc, ◌+◌, ◌≤◌, ◌<◌, List, [], ◌∷◌, ◌++◌, Bool, true, false, cond, ◌&&◌, eqb, max, length, get_or, ap, sym, inl, inr, arith}
use Rattle.std.specs.List.{AllPairs, fold}
use Rattle.std.proofs.Math.Nat.{le-max_left, le-max_right}
use Rattle.std.proofs.lemmas.Bool.{and_from, cases_Bool, eq-eqb}
use Rattle.std.proofs.lemmas.List.Quantifiers.{all_pairs_push}
use Rattle.mdl_picture.specs.Holds.{Hold, Placed, behind_track, goes_on, holds_of, is_beside, placed_of, track_for, with_placed}
use Rattle.mdl_picture.specs.Laws.{DontMeet}
use Rattle.mdl_picture.specs.Layouts.{layout_of}
use Rattle.mdl_picture.specs.Moments.{MomentView}

-- a track is behind those found before
behind_by : (t : Bool) (track other : ℕ) → track ≤ cond t (max track (other + 1)) track
behind_by true track other = le-max_left track (other + 1)
behind_by false track other = omega arith

no_less : (hold : Hold) (track : ℕ) (placed : List Placed) → track ≤ fold (behind_track hold) track placed
no_less hold track [] = omega arith
no_less hold track (other ∷ placed) =
    omega (arith, behind_by (is_beside hold other) track other.track, no_less hold (behind_track hold track other) placed)

-- and behind that of each bar that goes on
behind_this : (t : Bool) (track other : ℕ) → t ≡ true → other < cond t (max track (other + 1)) track
behind_this true track other is = omega (arith, le-max_right track (other + 1))
behind_this false track other is = absurd (cc)

behind_each : (hold : Hold) (track : ℕ) (placed : List Placed) (k : ℕ) (d : Placed) → k < length placed → is_beside hold (get_or placed k d) ≡ true
    → (get_or placed k d).track < fold (behind_track hold) track placed
behind_each hold track [] k d inside beside = absurd (omega arith)
behind_each hold track (other ∷ placed) zero d inside beside =
    omega (arith, behind_this (is_beside hold other) track other.track beside, no_less hold (behind_track hold track other) placed)
behind_each hold track (other ∷ placed) (suc k) d inside beside =
    behind_each hold (behind_track hold track other) placed k d (omega arith) beside

-- so bars in one track do not meet
apart_from : (placed : List Placed) (hold : Hold) (k : ℕ) (d : Placed) → k < length placed
    → DontMeet (get_or placed k d) (record { hold = hold; track = track_for placed hold })
apart_from placed hold k d inside =
    let one : Placed = get_or placed k d in
    λ same level. elim (cases_Bool (goes_on hold.x one.hold)) [
      | inl on ↦
          let session : eqb one.hold.lock.session hold.lock.session ≡ true = eq-eqb one.hold.lock.session hold.lock.session same in
          let beside : is_beside hold one ≡ true = and_from (eqb one.hold.lock.session hold.lock.session) (goes_on hold.x one.hold) session on in
          absurd (omega (arith, behind_each hold 0 placed k d inside beside, level))
      | inr over ↦ over
    ]

placed_apart : (placed : List Placed) (holds : List Hold) → AllPairs DontMeet placed → AllPairs DontMeet (fold with_placed placed holds)
placed_apart placed [] apart = apart
placed_apart placed (hold ∷ holds) apart =
    placed_apart (with_placed placed hold) holds
    (all_pairs_push DontMeet placed (record { hold = hold; track = track_for placed hold }) apart (apart_from placed hold))

pub tracks_are_apart : (moments : List MomentView) → AllPairs DontMeet (placed_of (holds_of (layout_of moments).boxes))
tracks_are_apart moments = placed_apart [] (holds_of (layout_of moments).boxes) (λ i j d below inside. absurd (omega arith))
