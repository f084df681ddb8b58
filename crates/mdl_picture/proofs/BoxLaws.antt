-- Which boxes there are, and where.
use Rattle.std.proofs.Common.{◌≡◌, ◌∙◌, ℕ, ◌+◌, ◌≤◌, ◌<◌, List, [], ◌∷◌, ◌++◌, Bool, true, false, cond, eqb, max, length, get_or, map, reverse, Option, Some, ap, sym, refl, inl, inr, append_assoc, append-nil, eq-eqb, arith}
use Rattle.std.specs.List.{All, AllPairs, find, fold}
use Rattle.std.specs.Option.{option_map_or}
use Rattle.std.proofs.Math.Nat.{le-max_left, le-max_right}
use Rattle.std.proofs.lemmas.Bool.{cases_Bool, eqb-true}
use Rattle.std.proofs.lemmas.List.{map-append, reverse-append}
use Rattle.std.proofs.lemmas.List.Elements.{All-push}
use Rattle.std.proofs.lemmas.List.Quantifiers.{all_pairs_push}
use Rattle.mdl_picture.specs.Boxes.{Box}
use Rattle.mdl_picture.specs.Laws.{AreApart, IsBefore, IsLeft, events_of}
use Rattle.mdl_picture.specs.Layouts.{Course, LayoutView, arrow_room, behind, behind_boxes, box_at, column_of, column_step, free_of, is_of, layout_of, left, no_layout, with_box, with_moment}
use Rattle.mdl_picture.specs.Moments.{EventView, MomentView}
use Rattle.mdl_picture.specs.declared.layout.Column.{Column}

-- each event adds its box
course_events : (line : ℕ) (course : Course) (events : List EventView)
    → map (λ box. box.event) (fold (with_box line) course events).boxes ≡ map (λ box. box.event) course.boxes ++ events
course_events line course [] = sym (append-nil (map (λ box. box.event) course.boxes))
course_events line course (event ∷ events) =
    let x : ℕ = max course.next (free_of event.session course.boxes) in
    course_events line (with_box line course event) events
    ∙ ap (λ es. es ++ events) (map-append (λ (box : Box). box.event) course.boxes (box_at line x event ∷ []))
    ∙ append_assoc (map (λ box. box.event) course.boxes) (event ∷ []) events

layout_events : (layout : LayoutView) (moments : List MomentView)
    → map (λ box. box.event) (fold with_moment layout moments).boxes ≡ map (λ box. box.event) layout.boxes ++ events_of moments
layout_events layout [] = sym (append-nil (map (λ box. box.event) layout.boxes))
layout_events layout (moment ∷ moments) =
    let start : Course = record { next = column_of layout moment; boxes = layout.boxes } in
    layout_events (with_moment layout moment) moments
    ∙ ap (λ es. es ++ events_of moments) (course_events moment.line start moment.events)
    ∙ append_assoc (map (λ box. box.event) layout.boxes) moment.events (events_of moments)

pub boxes_are_events : (moments : List MomentView) → map (λ box. box.event) (layout_of moments).boxes ≡ events_of moments
boxes_are_events moments = layout_events no_layout moments

-- where a row is free behind one box more
free_by : (b : Bool) (box : Box) (others : Option Box)
    → option_map_or behind (cond b (Some box) others) left ≡ cond b (behind box) (option_map_or behind others left)
free_by true box others = refl
free_by false box others = refl

free_behind : (session : ℕ) (boxes : List Box) (box : Box)
    → free_of session (boxes ++ box ∷ []) ≡ cond (eqb box.event.session session) (behind box) (free_of session boxes)
free_behind session boxes box =
    ap (λ bs. option_map_or behind (find (is_of session) bs) left) (reverse-append boxes (box ∷ []))
    ∙ free_by (is_of session box) box (find (is_of session) (reverse boxes))

-- it is free behind that box, and behind the others
behind_last : (boxes : List Box) (box : Box) → behind box ≤ free_of box.event.session (boxes ++ box ∷ [])
behind_last boxes box =
    let here : free_of box.event.session (boxes ++ box ∷ []) ≡ behind box =
    free_behind box.event.session boxes box ∙ ap (λ b. cond b (behind box) (free_of box.event.session boxes)) (eq-eqb box.event.session box.event.session refl) in
    omega (arith, here)

behind_others : (boxes : List Box) (box : Box) (session n : ℕ) → free_of box.event.session boxes ≤ behind box → n ≤ free_of session boxes
    → n ≤ free_of session (boxes ++ box ∷ [])
behind_others boxes box session n within there =
    let is : free_of session (boxes ++ box ∷ []) ≡ cond (eqb box.event.session session) (behind box) (free_of session boxes) = free_behind session boxes box in
    elim (cases_Bool (eqb box.event.session session)) [
      | inl same ↦
          let e : free_of session (boxes ++ box ∷ []) ≡ behind box = is ∙ ap (λ b. cond b (behind box) (free_of session boxes)) same in
          let f : free_of box.event.session boxes ≡ free_of session boxes = ap (λ s. free_of s boxes) (eqb-true box.event.session session same) in
          omega (arith, e, f)
      | inr other ↦
          let e : free_of session (boxes ++ box ∷ []) ≡ free_of session boxes = is ∙ ap (λ b. cond b (behind box) (free_of session boxes)) other in
          omega (arith, e)
    ]

-- boxes that are apart, and behind all of which their rows are free
IsBehind : List Box → Box → Type 0
IsBehind boxes box = behind box ≤ free_of box.event.session boxes

record AreFree (boxes : List Box) : Type 0 where
  apart : AllPairs AreApart boxes
  behind_all : (k : ℕ) (d : Box) → k < length boxes → behind (get_or boxes k d) ≤ free_of (get_or boxes k d).event.session boxes

free_more : (line x : ℕ) (event : EventView) (boxes : List Box) → free_of event.session boxes ≤ x → AreFree boxes → AreFree (boxes ++ box_at line x event ∷ [])
free_more line x event boxes here free =
    let box : Box = box_at line x event in
    let within : free_of event.session boxes ≤ behind box = omega arith in
    record {
      apart = all_pairs_push AreApart boxes box free.apart (λ k d inside. λ same.
          omega (arith, free.behind_all k d inside, ap (λ s. free_of s boxes) same, here));
      behind_all = All-push (λ other. behind other ≤ free_of other.event.session (boxes ++ box ∷ [])) boxes box
          (λ k d inside. behind_others boxes box (get_or boxes k d).event.session (behind (get_or boxes k d)) within (free.behind_all k d inside))
          (behind_last boxes box);
    }

course_free : (line : ℕ) (course : Course) (events : List EventView) → AreFree course.boxes → AreFree (fold (with_box line) course events).boxes
course_free line course [] free = free
course_free line course (event ∷ events) free =
    let x : ℕ = max course.next (free_of event.session course.boxes) in
    course_free line (with_box line course event) events
    (free_more line x event course.boxes (le-max_right course.next (free_of event.session course.boxes)) free)

layout_free : (layout : LayoutView) (moments : List MomentView) → AreFree layout.boxes → AreFree (fold with_moment layout moments).boxes
layout_free layout [] free = free
layout_free layout (moment ∷ moments) free =
    layout_free (with_moment layout moment) moments
    (course_free moment.line (record { next = column_of layout moment; boxes = layout.boxes }) moment.events free)

none_free : AreFree []
none_free = record { apart = λ i j d below inside. absurd (omega arith); behind_all = λ k d inside. absurd (omega arith) }

pub boxes_are_apart : (moments : List MomentView) → AllPairs AreApart (layout_of moments).boxes
boxes_are_apart moments = (layout_free no_layout moments none_free).apart

-- boxes in order, whose arrows are all left of a place
record AreUpTo (x : ℕ) (boxes : List Box) : Type 0 where
  in_order : AllPairs IsLeft boxes
  within : All (λ box. box.x + arrow_room box.event ≤ x) boxes

up_to_more : (x y : ℕ) (boxes : List Box) → x ≤ y → AreUpTo x boxes → AreUpTo y boxes
up_to_more x y boxes further are =
    record { in_order = are.in_order; within = λ k d inside. omega (arith, are.within k d inside, further) }

up_to_box : (x y z : ℕ) (boxes : List Box) (box : Box) → x ≤ y → box.x ≡ y → y + arrow_room box.event ≡ z → AreUpTo x boxes → AreUpTo z (boxes ++ box ∷ [])
up_to_box x y z boxes box further here next are =
    let room : y ≤ z = omega (arith, next) in
    record {
      in_order = all_pairs_push IsLeft boxes box are.in_order (λ k d inside. omega (arith, are.within k d inside, further, here));
      within = All-push (λ other. other.x + arrow_room other.event ≤ z) boxes box (λ k d inside. omega (arith, are.within k d inside, further, room))
          (omega (arith, here, next));
    }

course_up_to : (line : ℕ) (course : Course) (events : List EventView) → AreUpTo course.next course.boxes
    → AreUpTo (fold (with_box line) course events).next (fold (with_box line) course events).boxes
course_up_to line course [] are = are
course_up_to line course (event ∷ events) are =
    let x : ℕ = max course.next (free_of event.session course.boxes) in
    course_up_to line (with_box line course event) events
    (up_to_box course.next x (x + arrow_room event) course.boxes (box_at line x event) (le-max_left course.next (free_of event.session course.boxes)) refl refl
    are)

-- a column is behind the place where it may be, and its boxes are behind it
column_behind : (boxes : List Box) (x : ℕ) (events : List EventView) → x ≤ fold (behind_boxes boxes) x events
column_behind boxes x [] = omega arith
column_behind boxes x (event ∷ events) =
    omega (arith, le-max_left x (free_of event.session boxes), column_behind boxes (max x (free_of event.session boxes)) events)

course_behind : (line : ℕ) (course : Course) (events : List EventView) → course.next ≤ (fold (with_box line) course events).next
course_behind line course [] = omega arith
course_behind line course (event ∷ events) =
    omega (arith, le-max_left course.next (free_of event.session course.boxes), course_behind line (with_box line course event) events)

layout_up_to : (layout : LayoutView) (moments : List MomentView) → AreUpTo layout.next layout.boxes
    → AreUpTo (fold with_moment layout moments).next (fold with_moment layout moments).boxes
layout_up_to layout [] are = are
layout_up_to layout (moment ∷ moments) are =
    let x : ℕ = column_of layout moment in
    let start : Course = record { next = x; boxes = layout.boxes } in
    let course : Course = fold (with_box moment.line) start moment.events in
    layout_up_to (with_moment layout moment) moments
    (up_to_more course.next (course.next + column_step) course.boxes (omega arith)
    (course_up_to moment.line start moment.events (up_to_more layout.next x layout.boxes (column_behind layout.boxes layout.next moment.events) are)))

none_up_to : (x : ℕ) → AreUpTo x []
none_up_to x = record { in_order = λ i j d below inside. absurd (omega arith); within = λ k d inside. absurd (omega arith) }

pub boxes_go_right : (moments : List MomentView) → AllPairs IsLeft (layout_of moments).boxes
boxes_go_right moments = (layout_up_to no_layout moments (none_up_to left)).in_order

-- columns that are apart, up to where the next one may be
record AreSpaced (next : ℕ) (columns : List Column) : Type 0 where
  apart : AllPairs IsBefore columns
  within : All (λ column. column.x + column_step ≤ next) columns

spaced_more : (next x after : ℕ) (columns : List Column) (column : Column) → next ≤ x → x + column_step ≤ after → column.x ≡ x → AreSpaced next columns
    → AreSpaced after (columns ++ column ∷ [])
spaced_more next x after columns column further room here are =
    record {
      apart = all_pairs_push IsBefore columns column are.apart (λ k d inside. omega (arith, are.within k d inside, further, here));
      within = All-push (λ other. other.x + column_step ≤ after) columns column
          (λ k d inside. omega (arith, are.within k d inside, further, room)) (omega (arith, here, room));
    }

layout_spaced : (layout : LayoutView) (moments : List MomentView) → AreSpaced layout.next layout.columns
    → AreSpaced (fold with_moment layout moments).next (fold with_moment layout moments).columns
layout_spaced layout [] are = are
layout_spaced layout (moment ∷ moments) are =
    let x : ℕ = column_of layout moment in
    let start : Course = record { next = x; boxes = layout.boxes } in
    let course : Course = fold (with_box moment.line) start moment.events in
    let room : x + column_step ≤ course.next + column_step = omega (arith, course_behind moment.line start moment.events) in
    layout_spaced (with_moment layout moment) moments
    (spaced_more layout.next x (course.next + column_step) layout.columns (record { line = moment.line; x = x })
    (column_behind layout.boxes layout.next moment.events) room refl are)

none_spaced : (x : ℕ) → AreSpaced x []
none_spaced x = record { apart = λ i j d below inside. absurd (omega arith); within = λ k d inside. absurd (omega arith) }

pub columns_are_apart : (moments : List MomentView) → AllPairs IsBefore (layout_of moments).columns
columns_are_apart moments = (layout_spaced no_layout moments (none_spaced left)).apart
