-- Which rows there are, and in which order.
use Rattle.std.proofs.Common.{◌≡◌, ◌∙◌, ℕ, zero, suc, ◌+◌, ◌<◌, Bool, true, false, cond, ◌||◌, eqb, ltb, List, [], ◌∷◌, take, drop, ap, sym, subst, refl, inl, inr, arith}
use Rattle.std.specs.List.{All, AllPairs, fold, insert, list_any}
use Rattle.std.proofs.Math.Bool.{or_assoc}
use Rattle.std.proofs.lemmas.Bool.{cases_Bool, eqb-true}
use Rattle.std.proofs.lemmas.Bool.Decides.{nat_tests}
use Rattle.std.proofs.lemmas.List.{take-append-drop}
use Rattle.std.proofs.lemmas.List.Elements.{All-cons}
use Rattle.std.proofs.lemmas.List.Folds.{list_any-append}
use Rattle.std.proofs.lemmas.List.Kept.{AllPairs-cons}
use Rattle.std.proofs.lemmas.List.Sums.{sum_by-cons}
use Rattle.mdl_picture.specs.Laws.{IsLess, is_holder, is_in_event, is_in_moment}
use Rattle.mdl_picture.specs.Moments.{EventView, HeldView, MomentView}
use Rattle.mdl_picture.specs.Rows.{has_row, rows_above, rows_of, with_event_rows, with_holder, with_moment_rows, with_row}

-- neither of two is so
neither : (one other : Bool) → (one || other) ≡ false → (one ≡ false) × (other ≡ false)
neither true other is = absurd (cc)
neither false other is = (refl, is)

-- numbers that rise
abbrev AreAbove : ℕ → List ℕ → Type 0
AreAbove x [] = Unit {0}
AreAbove x (y ∷ ys) = (x < y) × AreAbove x ys

abbrev Rise : List ℕ → Type 0
Rise [] = Unit {0}
Rise (x ∷ xs) = AreAbove x xs × Rise xs

all_above : (x : ℕ) (ys : List ℕ) → AreAbove x ys → All (IsLess x) ys
all_above x [] above = λ k d inside. absurd (omega arith)
all_above x (y ∷ ys) above = All-cons (IsLess x) y ys above.0 (all_above x ys above.1)

all_rise : (xs : List ℕ) → Rise xs → AllPairs IsLess xs
all_rise [] rise = λ i j d below inside. absurd (omega arith)
all_rise (x ∷ xs) rise = AllPairs-cons IsLess x xs (all_above x xs rise.0) (all_rise xs rise.1)

above_more : (less x : ℕ) (ys : List ℕ) → less < x → AreAbove x ys → AreAbove less ys
above_more less x [] below above = tt
above_more less x (y ∷ ys) below above = (omega (arith, above.0), above_more less x ys below above.1)

above_insert : (x session : ℕ) (ys : List ℕ) (k : ℕ) → x < session → AreAbove x ys → AreAbove x (insert ys k session)
above_insert x session ys zero below above = (below, above)
above_insert x session [] (suc k) below above = (below, tt)
above_insert x session (y ∷ ys) (suc k) below above = (above.0, above_insert x session ys k below above.1)

-- a row is put behind those that are less
next_above : (x : ℕ) (xs : List ℕ) (session : ℕ) → rows_above (x ∷ xs) session ≡ cond (ltb x session) 1 0 + rows_above xs session
next_above x xs session = sum_by-cons (λ row. cond (ltb row session) 1 0) x xs

none_above : (session : ℕ) (xs : List ℕ) → AreAbove session xs → rows_above xs session ≡ 0
none_above session [] above = refl
none_above session (x ∷ xs) above =
    let less : session < x = above.0 in
    let not_less : ltb x session ≡ false = grind (arith, nat_tests) in
    next_above x xs session ∙ ap (λ b. cond b 1 0 + rows_above xs session) not_less ∙ omega (arith, none_above session xs above.1)

rise_insert : (session : ℕ) (xs : List ℕ) → Rise xs → has_row xs session ≡ false → Rise (insert xs (rows_above xs session) session)
rise_insert session [] rise new = (tt, tt)
rise_insert session (x ∷ xs) rise new =
    let apart : (eqb x session ≡ false) × (has_row xs session ≡ false) = neither (eqb x session) (has_row xs session) new in
    elim (cases_Bool (ltb x session)) [
      | inl less ↦
          let one : rows_above (x ∷ xs) session ≡ suc (rows_above xs session) =
          next_above x xs session ∙ ap (λ b. cond b 1 0 + rows_above xs session) less ∙ omega arith in
          let below : x < session = grind (arith, nat_tests) in
          subst (λ k. Rise (insert (x ∷ xs) k session)) (sym one)
          (above_insert x session xs (rows_above xs session) below rise.0, rise_insert session xs rise.1 apart.1)
      | inr not_less ↦
          let other : eqb x session ≡ false = apart.0 in
          let above : session < x = grind (arith, nat_tests) in
          let none : rows_above (x ∷ xs) session ≡ 0 = none_above session (x ∷ xs) (above, above_more session x xs above rise.0) in
          subst (λ k. Rise (insert (x ∷ xs) k session)) (sym none) ((above, above_more session x xs above rise.0), rise)
    ]

rise_by : (t : Bool) (xs : List ℕ) (session : ℕ) → has_row xs session ≡ t → Rise xs → Rise (cond t xs (insert xs (rows_above xs session) session))
rise_by true xs session is rise = rise
rise_by false xs session is rise = rise_insert session xs rise is

rise_row : (rows : List ℕ) (session : ℕ) → Rise rows → Rise (with_row rows session)
rise_row rows session rise = rise_by (has_row rows session) rows session refl rise

rise_fold : {X : Type 0} (f : List ℕ → X → List ℕ) → ((rows : List ℕ) (x : X) → Rise rows → Rise (f rows x)) → (rows : List ℕ) (xs : List X) → Rise rows
    → Rise (fold f rows xs)
rise_fold f keeps rows [] rise = rise
rise_fold f keeps rows (x ∷ xs) rise = rise_fold f keeps (f rows x) xs (keeps rows x rise)

rise_holder : (rows : List ℕ) (held : HeldView) → Rise rows → Rise (with_holder rows held)
rise_holder rows held rise = rise_row rows held.session rise

rise_event : (rows : List ℕ) (event : EventView) → Rise rows → Rise (with_event_rows rows event)
rise_event rows event rise =
    rise_fold with_holder rise_holder (fold with_row (with_row rows event.session) event.in_the_way) event.held
    (rise_fold with_row rise_row (with_row rows event.session) event.in_the_way (rise_row rows event.session rise))

rise_moment : (rows : List ℕ) (moment : MomentView) → Rise rows → Rise (with_moment_rows rows moment)
rise_moment rows moment rise = rise_fold with_event_rows rise_event (with_row rows moment.session) moment.events (rise_row rows moment.session rise)

pub rows_rise : (moments : List MomentView) → AllPairs IsLess (rows_of moments)
rows_rise moments = all_rise (rows_of moments) (rise_fold with_moment_rows rise_moment [] moments tt)

-- a session has a row if it had one, or gets one
regroup : (a b c : Bool) → (a || (b || c)) ≡ ((a || c) || b)
regroup true b c = refl
regroup false true true = refl
regroup false true false = refl
regroup false false true = refl
regroup false false false = refl

had_or_none : (a : Bool) → a ≡ (a || false)
had_or_none true = refl
had_or_none false = refl

has_inserted : (rows : List ℕ) (k session other : ℕ) → has_row (insert rows k session) other ≡ (has_row rows other || eqb session other)
has_inserted rows k session other =
    let test : ℕ → Bool = λ row. eqb row other in
    let front : Bool = list_any test (take k rows) in
    let back : Bool = list_any test (drop k rows) in
    let whole : has_row rows other ≡ (front || back) =
    ap (list_any test) (sym (take-append-drop k rows)) ∙ list_any-append test (take k rows) (drop k rows) in
    list_any-append test (take k rows) (session ∷ drop k rows) ∙ regroup front (eqb session other) back ∙ ap (λ b. b || eqb session other) (sym whole)

has_same : (t : Bool) (rows : List ℕ) (session other : ℕ) → eqb session other ≡ t → has_row rows session ≡ true
    → has_row rows other ≡ (has_row rows other || t)
has_same true rows session other same has =
    let there : has_row rows other ≡ true = ap (has_row rows) (sym (eqb-true session other same)) ∙ has in
    there ∙ sym (ap (λ b. b || true) there)
has_same false rows session other same has = had_or_none (has_row rows other)

has_by : (t : Bool) (rows : List ℕ) (session other : ℕ) → has_row rows session ≡ t
    → has_row (cond t rows (insert rows (rows_above rows session) session)) other ≡ (has_row rows other || eqb session other)
has_by true rows session other is = has_same (eqb session other) rows session other refl is
has_by false rows session other is = has_inserted rows (rows_above rows session) session other

has_with : (session : ℕ) (rows : List ℕ) (row : ℕ) → has_row (with_row rows row) session ≡ (has_row rows session || eqb row session)
has_with session rows row = has_by (has_row rows row) rows row session refl

has_fold : {X : Type 0} (f : List ℕ → X → List ℕ) (test : X → Bool) (session : ℕ)
    → ((rows : List ℕ) (x : X) → has_row (f rows x) session ≡ (has_row rows session || test x)) → (rows : List ℕ) (xs : List X)
    → has_row (fold f rows xs) session ≡ (has_row rows session || list_any test xs)
has_fold f test session gives rows [] = had_or_none (has_row rows session)
has_fold f test session gives rows (x ∷ xs) =
    has_fold f test session gives (f rows x) xs ∙ ap (λ b. b || list_any test xs) (gives rows x)
    ∙ or_assoc (has_row rows session) (test x) (list_any test xs)

has_holder : (session : ℕ) (rows : List ℕ) (held : HeldView) → has_row (with_holder rows held) session ≡ (has_row rows session || is_holder session held)
has_holder session rows held = has_with session rows held.session

has_event : (session : ℕ) (rows : List ℕ) (event : EventView) → has_row (with_event_rows rows event) session ≡ (has_row rows session || is_in_event session event)
has_event session rows event =
    let blocked : Bool = has_row event.in_the_way session in
    let held : Bool = list_any (is_holder session) event.held in
    has_fold with_holder (is_holder session) session (has_holder session) (fold with_row (with_row rows event.session) event.in_the_way) event.held
    ∙ ap (λ b. b || held) (has_fold with_row (λ row. eqb row session) session (has_with session) (with_row rows event.session) event.in_the_way)
    ∙ ap (λ b. (b || blocked) || held) (has_with session rows event.session)
    ∙ or_assoc (has_row rows session || eqb event.session session) blocked held
    ∙ or_assoc (has_row rows session) (eqb event.session session) (blocked || held)

has_moment : (session : ℕ) (rows : List ℕ) (moment : MomentView)
    → has_row (with_moment_rows rows moment) session ≡ (has_row rows session || is_in_moment session moment)
has_moment session rows moment =
    has_fold with_event_rows (is_in_event session) session (has_event session) (with_row rows moment.session) moment.events
    ∙ ap (λ b. b || list_any (is_in_event session) moment.events) (has_with session rows moment.session)
    ∙ or_assoc (has_row rows session) (eqb moment.session session) (list_any (is_in_event session) moment.events)

pub rows_are_sessions : (moments : List MomentView) (session : ℕ) → has_row (rows_of moments) session ≡ list_any (is_in_moment session) moments
rows_are_sessions moments session = has_fold with_moment_rows (is_in_moment session) session (has_moment session) [] moments
