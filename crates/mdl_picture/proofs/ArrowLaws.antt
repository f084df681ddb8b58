-- Which arrows there are, and where.
use Rattle.std.proofs.Common.{◌≡◌, ◌∙◌, ℕ, suc, ◌+◌, ◌*◌, ◌≤◌, ◌<◌, List, [], ◌∷◌, ◌++◌, length, map, ap, refl, arith}
use Rattle.std.specs.List.{All, AllPairs, flat_map}
use Rattle.std.proofs.lemmas.List.{map-append}
use Rattle.std.proofs.lemmas.List.Elements.{All-cons}
use Rattle.std.proofs.lemmas.List.Kept.{AllPairs-cons}
use Rattle.mdl_picture.specs.declared.arrows.Arrow.{Arrow}
use Rattle.mdl_picture.specs.Arrows.{arrow_at, arrows_at, arrows_from, arrows_of}
use Rattle.mdl_picture.specs.Boxes.{Box}
use Rattle.mdl_picture.specs.Laws.{AreSetApart, IsLeft, events_of, pair_of, pairs_of}
use Rattle.mdl_picture.specs.Layouts.{arrow_room, arrow_step, first_arrow, layout_of}
use Rattle.mdl_picture.specs.Moments.{MomentView}
use Rattle.mdl_picture.proofs.BoxLaws.{boxes_are_events, boxes_go_right}

-- the arrows of a box are its pairs
pairs_at : (box : Box) (x : ℕ) (others : List ℕ) → map pair_of (arrows_at box x others) ≡ map (λ other. (box.event.session, other)) others
pairs_at box x [] = refl
pairs_at box x (other ∷ others) = ap (λ pairs. (box.event.session, other) ∷ pairs) (pairs_at box (x + arrow_step) others)

pairs_of_boxes : (boxes : List Box) → map pair_of (arrows_of boxes) ≡ flat_map pairs_of (map (λ box. box.event) boxes)
pairs_of_boxes [] = refl
pairs_of_boxes (box ∷ boxes) =
    map-append pair_of (arrows_from box) (arrows_of boxes)
    ∙ ap (λ pairs. pairs ++ map pair_of (arrows_of boxes)) (pairs_at box (box.x + first_arrow) box.event.in_the_way)
    ∙ ap (λ pairs. pairs_of box.event ++ pairs) (pairs_of_boxes boxes)

pub arrows_are_pairs : (moments : List MomentView) → map pair_of (arrows_of (layout_of moments).boxes) ≡ flat_map pairs_of (events_of moments)
arrows_are_pairs moments = pairs_of_boxes (layout_of moments).boxes ∙ ap (flat_map pairs_of) (boxes_are_events moments)

-- arrows that are set apart, from a place on
abbrev AreFrom : ℕ → List Arrow → Type 0
AreFrom low [] = Unit {0}
AreFrom low (arrow ∷ arrows) = (low ≤ arrow.x) × AreFrom (arrow.x + arrow_step) arrows

from_less : (low high : ℕ) (arrows : List Arrow) → low ≤ high → AreFrom high arrows → AreFrom low arrows
from_less low high [] less from = tt
from_less low high (arrow ∷ arrows) less from = (omega (arith, from.0), from.1)

all_from : (low : ℕ) (arrows : List Arrow) → AreFrom low arrows → All (λ arrow. low ≤ arrow.x) arrows
all_from low [] from = λ k d inside. absurd (omega arith)
all_from low (arrow ∷ arrows) from =
    All-cons (λ one. low ≤ one.x) arrow arrows from.0
    (all_from low arrows (from_less low (arrow.x + arrow_step) arrows (omega (arith, from.0)) from.1))

pairs_apart : (low : ℕ) (arrows : List Arrow) → AreFrom low arrows → AllPairs AreSetApart arrows
pairs_apart low [] from = λ i j d below inside. absurd (omega arith)
pairs_apart low (arrow ∷ arrows) from =
    AllPairs-cons AreSetApart arrow arrows (all_from (arrow.x + arrow_step) arrows from.1) (pairs_apart (arrow.x + arrow_step) arrows from.1)

-- so are the arrows of a box, before others
from_box : (box : Box) (x : ℕ) (others : List ℕ) (arrows : List Arrow) → AreFrom (x + arrow_step * length others) arrows
    → AreFrom x (arrows_at box x others ++ arrows)
from_box box x [] arrows from = from_less x (x + arrow_step * 0) arrows (omega arith) from
from_box box x (other ∷ others) arrows from = (
  omega arith,
  from_box box (x + arrow_step) others arrows
      (from_less (x + arrow_step + arrow_step * length others) (x + arrow_step * suc (length others)) arrows (omega arith) from),
)

-- and those of boxes that are to the right of the arrows before
abbrev AreRight : ℕ → List Box → Type 0
AreRight low [] = Unit {0}
AreRight low (box ∷ boxes) = (low ≤ box.x) × AreRight (box.x + arrow_room box.event) boxes

from_boxes : (low : ℕ) (boxes : List Box) → AreRight low boxes → AreFrom low (arrows_of boxes)
from_boxes low [] right = tt
from_boxes low (box ∷ boxes) right =
    let x : ℕ = box.x + first_arrow in
    let others : List ℕ = box.event.in_the_way in
    from_less low x (arrows_at box x others ++ arrows_of boxes) (omega (arith, right.0))
    (from_box box x others (arrows_of boxes)
    (from_less (x + arrow_step * length others) (box.x + arrow_room box.event) (arrows_of boxes) (omega arith)
    (from_boxes (box.x + arrow_room box.event) boxes right.1)))

are_right : (low : ℕ) (boxes : List Box) → All (λ box. low ≤ box.x) boxes → AllPairs IsLeft boxes → AreRight low boxes
are_right low [] all pairs = tt
are_right low (box ∷ boxes) all pairs = (
  all 0 box (omega arith),
  are_right (box.x + arrow_room box.event) boxes (λ k d inside. pairs 0 (suc k) d (omega arith) (omega arith))
      (λ i j d below inside. pairs (suc i) (suc j) d (omega arith) (omega arith)),
)

pub arrows_are_set_apart : (moments : List MomentView) → AllPairs AreSetApart (arrows_of (layout_of moments).boxes)
arrows_are_set_apart moments =
    let boxes : List Box = (layout_of moments).boxes in
    pairs_apart 0 (arrows_of boxes) (from_boxes 0 boxes (are_right 0 boxes (λ k d inside. omega arith) (boxes_go_right moments)))
