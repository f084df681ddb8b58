-- Which waits are drawn, and where they end.
use Rattle.std.proofs.Common.{◌≡◌, ◌∙◌, ℕ, ◌+◌, ◌≤◌, ◌<◌, List, [], ◌∷◌, ◌++◌, Bool, true, false, cond, zero, suc, length, get_or, map, filter, Option, Some, IfSome, ap, sym, subst, refl, arith}
use Rattle.std.specs.List.{All, AllPairs, find}
use Rattle.std.specs.Option.{option_map}
use Rattle.std.proofs.lemmas.Bool.{eqb-true}
use Rattle.std.proofs.lemmas.List.{length-map}
use Rattle.std.proofs.lemmas.List.Elements.{All-cons}
use Rattle.mdl_picture.specs.Bars.{bar_from, bars_of, is_of_line, is_wait, place_of}
use Rattle.mdl_picture.specs.Boxes.{Box}
use Rattle.mdl_picture.specs.Laws.{EndsRight, IsOfOneSession, begins_to_wait, events_of, statement_of, statement_of_bar}
use Rattle.mdl_picture.specs.Layouts.{gap, layout_of}
use Rattle.mdl_picture.specs.Moments.{EventView, MomentView}
use Rattle.mdl_picture.specs.declared.bars.Bar.{Bar}
use Rattle.mdl_picture.proofs.BoxLaws.{boxes_are_apart, boxes_are_events}

-- the bars are the events that begin to wait
bars_from_box : (b : Bool) (bar : Bar) (event : EventView) (bars : List Bar) (events : List EventView) → statement_of_bar bar ≡ statement_of event
    → map statement_of_bar bars ≡ map statement_of events
    → map statement_of_bar (cond b (bar ∷ []) [] ++ bars) ≡ map statement_of (cond b (event ∷ events) events)
bars_from_box true bar event bars events this others = ap (λ s. s ∷ map statement_of_bar bars) this ∙ ap (λ ss. statement_of event ∷ ss) others
bars_from_box false bar event bars events this others = others

bars_are_waits : (boxes : List Box) → map statement_of_bar (bars_of boxes) ≡ map statement_of (filter begins_to_wait (map (λ box. box.event) boxes))
bars_are_waits [] = refl
bars_are_waits (box ∷ later) =
    bars_from_box (is_wait box.event.fate) (bar_from box later) box.event (bars_of later) (filter begins_to_wait (map (λ box. box.event) later)) refl
    (bars_are_waits later)

pub waits_are_drawn : (moments : List MomentView)
    → map statement_of_bar (bars_of (layout_of moments).boxes) ≡ map statement_of (filter begins_to_wait (events_of moments))
waits_are_drawn moments =
    bars_are_waits (layout_of moments).boxes ∙ ap (λ events. map statement_of (filter begins_to_wait events)) (boxes_are_events moments)

-- the box at which a wait is settled is to the right
settled_right : (b : Bool) (end : ℕ) (other : Box) (others : Option Box) → (b ≡ true → end ≤ other.x)
    → IfSome (option_map place_of others) (λ column. end ≤ column.x) → IfSome (option_map place_of (cond b (Some other) others)) (λ column. end ≤ column.x)
settled_right true end other others here later = here refl
settled_right false end other others here later = later

found_right : (line end : ℕ) (boxes : List Box) → All (λ other. line ≡ other.event.line → end ≤ other.x) boxes
    → IfSome (option_map place_of (find (is_of_line line) boxes)) (λ column. end ≤ column.x)
found_right line end [] right = tt
found_right line end (other ∷ boxes) right =
    settled_right (is_of_line line other) end other (find (is_of_line line) boxes)
    (λ same. right 0 other (omega arith) (sym (eqb-true other.event.line line same)))
    (found_right line end boxes (λ k d inside. right (suc k) d (omega arith)))

-- so are the waits that begin at boxes where each line is of one session
bars_right : (boxes : List Box) → AllPairs (λ one other. one.event.line ≡ other.event.line → one.right + gap ≤ other.x) boxes
    → All EndsRight (bars_of boxes)
bars_right [] right = λ k d inside. absurd (omega arith)
bars_right (box ∷ later) right =
    with_bar (is_wait box.event.fate) (bar_from box later) (bars_of later)
    (found_right box.event.line (box.right + gap) later (λ k d inside. right 0 (suc k) d (omega arith) (omega arith)))
    (bars_right later (λ i j d below inside. right (suc i) (suc j) d (omega arith) (omega arith)))
  where
    with_bar : (b : Bool) (bar : Bar) (bars : List Bar) → EndsRight bar → All EndsRight bars → All EndsRight (cond b (bar ∷ []) [] ++ bars)
    with_bar true bar bars this others = All-cons EndsRight bar bars this others
    with_bar false bar bars this others = others

-- an event's place among events is that of its box among boxes
event_at : (boxes : List Box) (k : ℕ) (d : Box) → get_or (map (λ box. box.event) boxes) k d.event ≡ (get_or boxes k d).event
event_at [] k d = refl
event_at (box ∷ boxes) zero d = refl
event_at (box ∷ boxes) (suc k) d = event_at boxes k d

of_one_session : (boxes : List Box) (events : List EventView) → map (λ box. box.event) boxes ≡ events → AllPairs IsOfOneSession events → (i j : ℕ) (d : Box)
    → i < j → j < length boxes → IsOfOneSession (get_or boxes i d).event (get_or boxes j d).event
of_one_session boxes events are sessions i j d below inside =
    let event : Box → EventView = λ box. box.event in
    let there : AllPairs IsOfOneSession (map event boxes) = subst (λ es. AllPairs IsOfOneSession es) (sym are) sessions in
    let within : j < length (map event boxes) = omega (arith, length-map boxes event) in
    let found : IsOfOneSession (get_or (map event boxes) i d.event) (get_or (map event boxes) j d.event) = there i j d.event below within in
    subst (λ one. IsOfOneSession one (get_or boxes j d).event) (event_at boxes i d)
    (subst (λ other. IsOfOneSession (get_or (map event boxes) i d.event) other) (event_at boxes j d) found)

pub waits_go_right : (moments : List MomentView) → AllPairs IsOfOneSession (events_of moments) → All EndsRight (bars_of (layout_of moments).boxes)
waits_go_right moments sessions =
    let boxes : List Box = (layout_of moments).boxes in
    bars_right boxes (λ i j d below inside. λ same. boxes_are_apart moments i j d below inside
    (of_one_session boxes (events_of moments) (boxes_are_events moments) sessions i j d below inside same))
