-- What is held is drawn, and nothing else.
use Rattle.std.proofs.Common.{◌≡◌, ◌∙◌, ℕ, zero, suc, ◌+◌, ◌≤◌, ◌<◌, List, [], ◌∷◌, ◌++◌, Bool, true, false, not, cond, ◌&&◌, ◌||◌, eqb, leb, ltb, length, get_or, map, Option, Some, ap, sym, subst, refl, inl, inr, arith}
use Rattle.std.specs.List.{All, AllPairs, count_by, find}
use Rattle.std.specs.Option.{option_map, option_map_or}
use Rattle.std.specs.Prelude.{Decides}
use Rattle.std.proofs.lemmas.Bool.{cases_Bool, le-leb, le-ltb, lt-leb, lt-ltb, true≢false}
use Rattle.std.proofs.lemmas.Bool.Decides.{Decides-and, Decides-eqb, Decides-like}
use Rattle.std.proofs.lemmas.List.Sums.{sum_by-append, sum_by-cons}
use Rattle.std.proofs.lemmas.Slice.Eq.{bytes_eq-Decides}
use Rattle.mdl_picture.specs.Bars.{place_of}
use Rattle.mdl_picture.specs.Boxes.{Box}
use Rattle.mdl_picture.specs.Holds.{Hold, goes_on, has_lock, hold_from, holds_after, holds_from, holds_of, is_drawn, is_new, is_same, is_without, new_locks}
use Rattle.mdl_picture.specs.Laws.{IsDrawnOnce, IsLeft, covers, is_held_after}
use Rattle.mdl_picture.specs.Layouts.{arrow_room, layout_of}
use Rattle.mdl_picture.specs.Moments.{HeldView, MomentView}
use Rattle.mdl_picture.proofs.BoxLaws.{boxes_go_right}

-- locks can be told apart
same-Decides : (one other : HeldView) → Decides (is_same one other) (one ≡ other)
same-Decides one other =
    Decides-like _ (λ e i. record { session = e.0 i; mode = e.1.0 i; lock = e.1.1 i })
    (λ e. (ap (λ (x : HeldView). x.session) e, (ap (λ (x : HeldView). x.mode) e, ap (λ (x : HeldView). x.lock) e)))
    (Decides-and _ _ (Decides-eqb one.session other.session)
    (Decides-and _ _ (bytes_eq-Decides one.mode other.mode) (bytes_eq-Decides one.lock other.lock)))

itself : (lock : HeldView) → is_same lock lock ≡ true
itself lock = (same-Decides lock lock).1 refl

-- a count with one more
count_cons : {X : Type 0} (p : X → Bool) (x : X) (xs : List X) → count_by p (x ∷ xs) ≡ cond (p x) 1 0 + count_by p xs
count_cons p x xs = sum_by-cons (λ y. cond (p y) 1 0) x xs

count_both : {X : Type 0} (p : X → Bool) (xs ys : List X) → count_by p (xs ++ ys) ≡ count_by p xs + count_by p ys
count_both p xs ys = sum_by-append (λ y. cond (p y) 1 0) xs ys

-- a bar begins for each lock that was not held before, once
abbrev begun : Bool → Bool → Bool → ℕ
begun drawn before held = cond (drawn && (not before && held)) 1 0

begun_first : (drawn before others : Bool)
    → cond (drawn && not (before || others)) (1 + begun drawn before others) (begun drawn before others) ≡ begun drawn before true
begun_first true true true = refl
begun_first true true false = refl
begun_first true false true = refl
begun_first true false false = refl
begun_first false before others = refl

count_by_case : (t : Bool) (p : HeldView → Bool) (lock : HeldView) (locks : List HeldView)
    → count_by p (cond t (lock ∷ locks) locks) ≡ cond t (cond (p lock) 1 0 + count_by p locks) (count_by p locks)
count_by_case true p lock locks = count_cons p lock locks
count_by_case false p lock locks = refl

none_more : (n : ℕ) → 0 + n ≡ n
none_more n = omega arith

either_way : (t : Bool) (n : ℕ) → cond t n n ≡ n
either_way true n = refl
either_way false n = refl

new_once : (before : List HeldView) (lock : HeldView) (held : List HeldView)
    → count_by (is_same lock) (new_locks before held) ≡ begun (is_drawn lock) (has_lock before lock) (has_lock held lock)
new_once before lock [] = nothing (is_drawn lock) (has_lock before lock)
  where
    nothing : (drawn others : Bool) → 0 ≡ begun drawn others false
    nothing true true = refl
    nothing true false = refl
    nothing false others = refl
new_once before lock (other ∷ held) =
    let n : ℕ = begun (is_drawn lock) (has_lock before lock) (has_lock held lock) in
    let split : count_by (is_same lock) (new_locks before (other ∷ held))
    ≡ cond (is_new before held other) (cond (is_same lock other) 1 0 + n) n =
    count_by_case (is_new before held other) (is_same lock) other (new_locks before held)
    ∙ ap (λ m. cond (is_new before held other) (cond (is_same lock other) 1 0 + m) m) (new_once before lock held) in
    elim (cases_Bool (is_same lock other)) [
      | inl same ↦
          split ∙ ap (λ t. cond (is_new before held other) (cond t 1 0 + n) n) same
          ∙ ap (λ one. cond (is_new before held one) (1 + n) n) (sym ((same-Decides lock other).0 same))
          ∙ begun_first (is_drawn lock) (has_lock before lock) (has_lock held lock)
          ∙ ap (λ t. begun (is_drawn lock) (has_lock before lock) (t || has_lock held lock)) (sym same)
      | inr others ↦
          split ∙ ap (λ t. cond (is_new before held other) (cond t 1 0 + n) n) others
          ∙ ap (λ m. cond (is_new before held other) m n) (none_more n)
          ∙ either_way (is_new before held other) n
          ∙ ap (λ t. begun (is_drawn lock) (has_lock before lock) (t || has_lock held lock)) (sym others)
    ]

-- up to where a lock is held at each of these boxes
abbrev reaches : HeldView → List Box → ℕ → Bool
reaches lock boxes x = option_map_or (λ column. ltb x column.x) (option_map place_of (find (is_without lock) boxes)) true

reaches_by : (held : Bool) (box : Box) (others : Option Box) (x : ℕ)
    → option_map_or (λ column. ltb x column.x) (option_map place_of (cond (not held) (Some box) others)) true
    ≡ cond held (option_map_or (λ column. ltb x column.x) (option_map place_of others) true) (ltb x box.x)
reaches_by true box others x = refl
reaches_by false box others x = refl

reaches_more : (lock : HeldView) (box : Box) (boxes : List Box) (x : ℕ)
    → reaches lock (box ∷ boxes) x ≡ cond (has_lock box.event.held lock) (reaches lock boxes x) (ltb x box.x)
reaches_more lock box boxes x = reaches_by (has_lock box.event.held lock) box (find (is_without lock) boxes) x

-- boxes that go to the right
abbrev AreBehind : ℕ → List Box → Type 0
AreBehind x [] = Unit {0}
AreBehind x (box ∷ boxes) = (x < box.x) × AreBehind x boxes

abbrev GoRight : List Box → Type 0
GoRight [] = Unit {0}
GoRight (box ∷ boxes) = AreBehind box.x boxes × GoRight boxes

behind_at : (x : ℕ) (boxes : List Box) (k : ℕ) (d : Box) → AreBehind x boxes → k < length boxes → x < (get_or boxes k d).x
behind_at x [] k d behind inside = absurd (omega arith)
behind_at x (box ∷ boxes) zero d behind inside = behind.0
behind_at x (box ∷ boxes) (suc k) d behind inside = behind_at x boxes k d behind.1 (omega arith)

are_behind : (x : ℕ) (boxes : List Box) → All (λ box. x < box.x) boxes → AreBehind x boxes
are_behind x [] all = tt
are_behind x (box ∷ boxes) all = (all 0 box (omega arith), are_behind x boxes (λ k d inside. all (suc k) d (omega arith)))

go_right : (boxes : List Box) → AllPairs IsLeft boxes → GoRight boxes
go_right [] pairs = tt
go_right (box ∷ boxes) pairs = (
  are_behind box.x boxes (λ k d inside. omega (arith, pairs 0 (suc k) d (omega arith) (omega arith))),
  go_right boxes (λ i j d below inside. pairs (suc i) (suc j) d (omega arith) (omega arith)),
)

-- a bar goes on left of the boxes behind it
reaches_left : (lock : HeldView) (boxes : List Box) (x : ℕ) → AreBehind x boxes → reaches lock boxes x ≡ true
reaches_left lock [] x behind = nothing
  where
    nothing : reaches lock [] x ≡ true
    nothing = refl
reaches_left lock (box ∷ boxes) x behind =
    reaches_more lock box boxes x
    ∙ ap (λ t. cond (has_lock box.event.held lock) t (ltb x box.x)) (reaches_left lock boxes x behind.1)
    ∙ ap (λ t. cond (has_lock box.event.held lock) true t) (lt-ltb x box.x behind.0)
    ∙ either_true (has_lock box.event.held lock)
  where
    either_true : (t : Bool) → cond t true true ≡ true
    either_true true = refl
    either_true false = refl

-- and no further than to a box where its lock is not held
reaches_not : (lock : HeldView) (boxes : List Box) (k : ℕ) (d : Box) → GoRight boxes → k < length boxes
    → has_lock (get_or boxes k d).event.held lock ≡ false → reaches lock boxes (get_or boxes k d).x ≡ false
reaches_not lock [] k d right inside without = absurd (omega arith)
reaches_not lock (box ∷ boxes) zero d right inside without =
    reaches_more lock box boxes box.x ∙ ap (λ t. cond t (reaches lock boxes box.x) (ltb box.x box.x)) without ∙ le-ltb box.x box.x (omega arith)
reaches_not lock (box ∷ boxes) (suc k) d right inside without =
    let x : ℕ = (get_or boxes k d).x in
    let left : box.x < x = behind_at box.x boxes k d right.0 (omega arith) in
    reaches_more lock box boxes x
    ∙ ap (λ t. cond (has_lock box.event.held lock) t (ltb x box.x)) (reaches_not lock boxes k d right.1 (omega arith) without)
    ∙ ap (λ t. cond (has_lock box.event.held lock) false t) (le-ltb x box.x (omega (arith, left)))
    ∙ either_false (has_lock box.event.held lock)
  where
    either_false : (t : Bool) → cond t false false ≡ false
    either_false true = refl
    either_false false = refl

-- the bars that begin at a box, as far as they cover a place
cover_one : (same over : Bool) (n : ℕ) → cond (same && over) 1 0 + cond over n 0 ≡ cond over (cond same 1 0 + n) 0
cover_one true true n = refl
cover_one true false n = refl
cover_one false true n = refl
cover_one false false n = refl

covers_here : (box : Box) (later : List Box) (lock : HeldView) (x : ℕ) → covers lock x (hold_from box later lock) ≡ (is_same lock lock && (leb box.x x && reaches lock later x))
covers_here box later lock x = refl

covers_by : (same : Bool) (box : Box) (later : List Box) (lock other : HeldView) (x : ℕ) → is_same lock other ≡ same
    → covers lock x (hold_from box later other) ≡ (same && (leb box.x x && reaches lock later x))
covers_by true box later lock other x is =
    subst (λ one. covers lock x (hold_from box later one) ≡ (leb box.x x && reaches lock later x)) ((same-Decides lock other).0 is)
    (covers_here box later lock x ∙ ap (λ t. t && (leb box.x x && reaches lock later x)) (itself lock))
covers_by false box later lock other x is = ap (λ t. t && (leb box.x x && goes_on x (hold_from box later other))) is

bars_over : (box : Box) (later : List Box) (lock : HeldView) (x : ℕ) (locks : List HeldView)
    → count_by (covers lock x) (map (hold_from box later) locks) ≡ cond (leb box.x x && reaches lock later x) (count_by (is_same lock) locks) 0
bars_over box later lock x [] = sym (either_way (leb box.x x && reaches lock later x) 0)
bars_over box later lock x (other ∷ locks) =
    let over : Bool = leb box.x x && reaches lock later x in
    count_cons (covers lock x) (hold_from box later other) (map (hold_from box later) locks)
    ∙ ap (λ t. cond t 1 0 + count_by (covers lock x) (map (hold_from box later) locks)) (covers_by (is_same lock other) box later lock other x refl)
    ∙ ap (λ n. cond (is_same lock other && over) 1 0 + n) (bars_over box later lock x locks)
    ∙ cover_one (is_same lock other) over (count_by (is_same lock) locks)
    ∙ ap (λ n. cond over n 0) (sym (count_cons (is_same lock) other locks))

-- the bars that begin later do not cover what is left of them
none_left : (lock : HeldView) (x : ℕ) (before : List HeldView) (boxes : List Box) → AreBehind x boxes → count_by (covers lock x) (holds_after before boxes) ≡ 0
none_left lock x before [] behind = refl
none_left lock x before (box ∷ boxes) behind =
    count_both (covers lock x) (holds_from before box boxes) (holds_after box.event.held boxes)
    ∙ ap (λ n. n + count_by (covers lock x) (holds_after box.event.held boxes)) (bars_over box boxes lock x (new_locks before box.event.held))
    ∙ ap (λ t. cond (t && reaches lock boxes x) (count_by (is_same lock) (new_locks before box.event.held)) 0
    + count_by (covers lock x) (holds_after box.event.held boxes)) (lt-leb box.x x behind.0)
    ∙ none_more (count_by (covers lock x) (holds_after box.event.held boxes)) ∙ none_left lock x box.event.held boxes behind.1

-- how many bars cover a box, where its lock is held there or not, and was held all the time before or not
abbrev covered : Bool → Bool → Bool → ℕ
covered drawn held carried = cond (drawn && (held && not carried)) 1 0

first_covered : (drawn before held : Bool) → begun drawn before held + 0 ≡ covered drawn held (before && held)
first_covered true true true = refl
first_covered true true false = refl
first_covered true false true = refl
first_covered true false false = refl
first_covered false before held = refl

later_covered : (drawn before first reach held : Bool) → (held ≡ false → reach ≡ false)
    → cond reach (begun drawn before first) 0 + covered drawn held (first && reach) ≡ covered drawn held (before && cond first reach false)
later_covered false before first true held not_held = refl
later_covered false before first false held not_held = refl
later_covered true before first true false not_held = absurd (true≢false (not_held refl))
later_covered true true true true true not_held = refl
later_covered true true false true true not_held = refl
later_covered true false true true true not_held = refl
later_covered true false false true true not_held = refl
later_covered true true true false true not_held = refl
later_covered true true true false false not_held = refl
later_covered true true false false true not_held = refl
later_covered true true false false false not_held = refl
later_covered true false true false true not_held = refl
later_covered true false true false false not_held = refl
later_covered true false false false true not_held = refl
later_covered true false false false false not_held = refl

abbrev IsCovered : HeldView → List HeldView → List Box → Box → Type 0
IsCovered lock before boxes box =
    count_by (covers lock box.x) (holds_after before boxes)
    ≡ covered (is_drawn lock) (has_lock box.event.held lock) (has_lock before lock && reaches lock boxes box.x)

all_covered : (lock : HeldView) (before : List HeldView) (boxes : List Box) (k : ℕ) (d : Box) → GoRight boxes → k < length boxes
    → IsCovered lock before boxes (get_or boxes k d)
all_covered lock before [] k d right inside = absurd (omega arith)
all_covered lock before (box ∷ boxes) zero d right inside =
    let held : Bool = has_lock box.event.held lock in
    let on : reaches lock boxes box.x ≡ true = reaches_left lock boxes box.x right.0 in
    let here : leb box.x box.x ≡ true = le-leb box.x box.x (omega arith) in
    let carried : reaches lock (box ∷ boxes) box.x ≡ held =
    reaches_more lock box boxes box.x ∙ ap (λ t. cond held t (ltb box.x box.x)) on ∙ ap (λ t. cond held true t) (le-ltb box.x box.x (omega arith)) ∙ by_itself held in
    count_both (covers lock box.x) (holds_from before box boxes) (holds_after box.event.held boxes)
    ∙ ap (λ n. n + count_by (covers lock box.x) (holds_after box.event.held boxes)) (bars_over box boxes lock box.x (new_locks before box.event.held))
    ∙ ap (λ n. cond (leb box.x box.x && reaches lock boxes box.x) n 0 + count_by (covers lock box.x) (holds_after box.event.held boxes)) (new_once before lock box.event.held)
    ∙ ap (λ n. cond (leb box.x box.x && reaches lock boxes box.x) (begun (is_drawn lock) (has_lock before lock) held) 0 + n) (none_left lock box.x box.event.held boxes right.0)
    ∙ ap (λ t. cond (t && reaches lock boxes box.x) (begun (is_drawn lock) (has_lock before lock) held) 0 + 0) here
    ∙ ap (λ t. cond t (begun (is_drawn lock) (has_lock before lock) held) 0 + 0) on
    ∙ first_covered (is_drawn lock) (has_lock before lock) held
    ∙ ap (λ t. covered (is_drawn lock) held (has_lock before lock && t)) (sym carried)
  where
    by_itself : (t : Bool) → cond t true false ≡ t
    by_itself true = refl
    by_itself false = refl
all_covered lock before (box ∷ boxes) (suc k) d right inside =
    let there : Box = get_or boxes k d in
    let first : Bool = has_lock box.event.held lock in
    let held : Bool = has_lock there.event.held lock in
    let reach : Bool = reaches lock boxes there.x in
    let left : box.x < there.x = behind_at box.x boxes k d right.0 (omega arith) in
    let on : leb box.x there.x ≡ true = le-leb box.x there.x (omega (arith, left)) in
    let carried : reaches lock (box ∷ boxes) there.x ≡ cond first reach false =
    reaches_more lock box boxes there.x ∙ ap (λ t. cond first reach t) (le-ltb there.x box.x (omega (arith, left))) in
    count_both (covers lock there.x) (holds_from before box boxes) (holds_after box.event.held boxes)
    ∙ ap (λ n. n + count_by (covers lock there.x) (holds_after box.event.held boxes)) (bars_over box boxes lock there.x (new_locks before box.event.held))
    ∙ ap (λ n. cond (leb box.x there.x && reach) n 0 + count_by (covers lock there.x) (holds_after box.event.held boxes)) (new_once before lock box.event.held)
    ∙ ap (λ n. cond (leb box.x there.x && reach) (begun (is_drawn lock) (has_lock before lock) first) 0 + n) (all_covered lock box.event.held boxes k d right.1 (omega arith))
    ∙ ap (λ t. cond (t && reach) (begun (is_drawn lock) (has_lock before lock) first) 0 + covered (is_drawn lock) held (first && reach)) on
    ∙ later_covered (is_drawn lock) (has_lock before lock) first reach held (λ without. reaches_not lock boxes k d right.1 (omega arith) without)
    ∙ ap (λ t. covered (is_drawn lock) held (has_lock before lock && t)) (sym carried)

-- before the first box nothing is held
drawn_once : (drawn held : Bool) → covered drawn held false ≡ cond (drawn && held) 1 0
drawn_once true true = refl
drawn_once true false = refl
drawn_once false held = refl

pub held_is_drawn : (moments : List MomentView) (lock : HeldView) → All (IsDrawnOnce (holds_of (layout_of moments).boxes) lock) (layout_of moments).boxes
held_is_drawn moments lock = λ k d inside.
    let boxes : List Box = (layout_of moments).boxes in
    all_covered lock [] boxes k d (go_right boxes (boxes_go_right moments)) inside
    ∙ drawn_once (is_drawn lock) (has_lock (get_or boxes k d).event.held lock)
