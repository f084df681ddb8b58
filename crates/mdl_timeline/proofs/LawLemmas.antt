-- The events of a script are its answers, and each shows the world right after its turn.
use Rattle.std.proofs.Common.{◌≡◌, ◌⊎◌, inl, inr, ◌∙◌, ◌+◌, ◌<◌, ◌≤◌, ℕ, zero, suc, Bool, true, false, List, [], ◌∷◌, ◌++◌, Option, Some, None, flat_map, map, ap, sym, subst, refl, arith, append_assoc, append-nil, if◌then◌else◌}
use Rattle.std.proofs.lemmas.List.{map-append}
use Rattle.mdl_book.specs.declared.book_view.BookView.{BookView}
use Rattle.mdl_core.specs.Cores.{Core}
use Rattle.mdl_calls.specs.Words.{outcome_of}
use Rattle.mdl_core.specs.CoreCalls.{outcome}
use Rattle.mdl_picture.specs.Moments.{EventView, MomentView}
use Rattle.mdl_rows.specs.Endings.{Pause}
use Rattle.mdl_rows.specs.Endings as pause
use Rattle.mdl_rows.specs.Playing.{going_on, starting}
use Rattle.mdl_script.specs.declared.told.Told.{Told}
use Rattle.mdl_script.specs.Worlds.{Scene, World, ask_session, asked_waiting, came, continuing_settled, first_settled, first_world, going, going_first, line_played, lines_played, most_turns, player_at, reports_of, session_waits, started, turn_of}
use Rattle.mdl_syntax.specs.declared.script.Line.{Line}
use Rattle.mdl_syntax.specs.declared.statement.Statement.{Statement}
use Rattle.mdl_syntax.specs.declared.statement.Statement.TheVariants.{Timeout}
use Rattle.mdl_timeline.specs.Moments.{event_of, moment_of, moments_in, turn_events, turns_after, turns_first}
use Rattle.mdl_timeline.specs.Statements.{statement_at}
use Rattle.mdl_timeline.specs.TimelineLaws.{EachAfter, IsOfTurn, after_turns, answer_told, shown_by}

-- ---- answers

-- whatever the words of the statement are, and the books
shown-given : (statement : List ℕ) (books : List BookView) (told : List Told) → map shown_by (map (event_of statement books) told) ≡ map answer_told told
shown-given statement books [] = refl
shown-given statement books (one ∷ told) = ap (λ answers. answer_told one ∷ answers) (shown-given statement books told)

-- of one turn
shown-turn : (statement : List ℕ) (turn : Scene) → map shown_by (turn_events statement turn) ≡ map answer_told turn.told
shown-turn statement turn = shown-given statement turn.world.core.books turn.told

-- of a turn, and those that follow
shown-first : (next : Option ℕ) (more : World → List Scene) (rest : World → Scene) (world : World)
    → ((after : World) → map shown_by (flat_map (turn_events []) (more after)) ≡ map answer_told (rest after).told)
    → map shown_by (flat_map (turn_events []) (turns_first next more world)) ≡ map answer_told (going_first next rest world).told
shown-first None more rest world so = refl
shown-first (Some who) more rest world so =
    let turn : Scene = going who world in
    let events : List EventView = flat_map (turn_events []) (more turn.world) in
    map-append shown_by (turn_events [] turn) events ∙ ap (λ answers. answers ++ map shown_by events) (shown-turn [] turn)
    ∙ ap (λ answers. map answer_told turn.told ++ answers) (so turn.world) ∙ sym (map-append answer_told turn.told (rest turn.world).told)

shown-turns : (n : ℕ) (world : World) → map shown_by (flat_map (turn_events []) (turns_after n world)) ≡ map answer_told (continuing_settled n world).told
unfolding continuing_settled turns_after
shown-turns zero world = refl
shown-turns (suc n) world = shown-first (first_settled world) (turns_after n) (continuing_settled n) world (λ after. shown-turns n after)

-- at one line
shown-line : (statement : List ℕ) (line : Line) (world : World) → map shown_by (moment_of statement line world).events ≡ map answer_told (line_played line world).told
shown-line statement line world =
    let first : Scene = ask_session line world in
    let events : List EventView = flat_map (turn_events []) (turns_after most_turns first.world) in
    map-append shown_by (turn_events statement first) events ∙ ap (λ answers. answers ++ map shown_by events) (shown-turn statement first)
    ∙ ap (λ answers. map answer_told first.told ++ answers) (shown-turns most_turns first.world)
    ∙ sym (map-append answer_told first.told (continuing_settled most_turns first.world).told)

-- at all
pub shown-all : (text : List ℕ) (lines : List Line) (world : World)
    → map shown_by (flat_map (λ (moment : MomentView). moment.events) (moments_in text lines world)) ≡ map answer_told (lines_played lines world).told
shown-all text [] world = refl
shown-all text (line ∷ lines) world =
    let moment : MomentView = moment_of (statement_at text line.number) line world in
    let after : World = (line_played line world).world in
    let events : List EventView = flat_map (λ (moment : MomentView). moment.events) (moments_in text lines after) in
    map-append shown_by moment.events events
    ∙ ap (λ answers. answers ++ map shown_by events) (shown-line (statement_at text line.number) line world)
    ∙ ap (λ answers. map answer_told (line_played line world).told ++ answers) (shown-all text lines after)
    ∙ sym (map-append answer_told (line_played line world).told (lines_played lines after).told)

-- ---- a turn has at most one answer

abbrev HasAtMostOne : List Told → Type 0
HasAtMostOne told = (told ≡ []) ⊎ ((one : Told) × (told ≡ one ∷ []))

one-told : (line who : ℕ) (end : Pause) → HasAtMostOne (reports_of line who end)
one-told line who (pause.Ends reply session) = inr (_, refl)
one-told line who (pause.Begins_to_wait key mode session) = inr (_, refl)
one-told line who (pause.Waits_on session) = inl refl
one-told line who (pause.Faults session) = inl refl

one-came : (line who : ℕ) (end : Pause × Core) (world : World) → HasAtMostOne (came line who end world).told
one-came line who (end, core) world = one-told line who end

one-going : (who : ℕ) (world : World) → HasAtMostOne (going who world).told
one-going who world = one-came (player_at who world).line who (outcome_of outcome (going_on (player_at who world).session) world.core) world

one-waiting : (statement : Statement) (line who : ℕ) (world : World) → HasAtMostOne (asked_waiting statement line who world).told
one-waiting Timeout line who world = inr (_, refl)
one-waiting _ line who world = inr (_, refl)

one-asked : (line : Line) (world : World) → HasAtMostOne (ask_session line world).told
one-asked line world = by (session_waits world line.session) where
  by : (waits : Bool) → HasAtMostOne (if waits then asked_waiting line.statement line.number line.session world else started line world).told
  by true = one-waiting line.statement line.number line.session world
  by false = one-came line.number line.session (outcome_of outcome (starting line.statement (player_at line.session world).session) world.core) world

-- ---- the last of some turns

last-zero : (next : Option ℕ) (world : World) → ((going_first next (continuing_settled zero) world).told ≡ (turn_of next world).told) × ((going_first next (continuing_settled zero) world).world ≡ (turn_of next world).world)
unfolding continuing_settled
last-zero None world = (refl, refl)
last-zero (Some who) world = (append-nil (going who world).told, refl)

-- a scene, and then one more turn is another one
abbrev IsLonger : Scene → Scene → Type 0
IsLonger before after =
    (after.told ≡ before.told ++ (turn_of (first_settled before.world) before.world).told)
    × (after.world ≡ (turn_of (first_settled before.world) before.world).world)

last-suc : (n : ℕ) (next : Option ℕ) (world : World) → first_settled world ≡ next → ((after : World) → IsLonger (continuing_settled n after) (continuing_settled (suc n) after))
    → IsLonger (going_first next (continuing_settled n) world) (going_first next (continuing_settled (suc n)) world)
last-suc n None world none so = (ap (λ found. (turn_of found world).told) (sym none), ap (λ found. (turn_of found world).world) (sym none))
last-suc n (Some who) world some so =
    let turn : Scene = going who world in
    let before : Scene = continuing_settled n turn.world in
    let longer = so turn.world in
    (ap (λ told. turn.told ++ told) longer.0 ∙ sym (append_assoc turn.told before.told (turn_of (first_settled before.world) before.world).told), longer.1)

last-turn : (n : ℕ) (world : World) → IsLonger (continuing_settled n world) (continuing_settled (suc n) world)
unfolding continuing_settled
last-turn zero world = last-zero (first_settled world) world
last-turn (suc n) world = last-suc n (first_settled world) world refl (λ after. last-turn n after)

-- ---- the last of some lines

played-more : (first : List Line) (line : Line) (world : World)
    → ((lines_played (first ++ line ∷ []) world).told ≡ (lines_played first world).told ++ (line_played line (lines_played first world).world).told)
    × ((lines_played (first ++ line ∷ []) world).world ≡ (line_played line (lines_played first world).world).world)
played-more [] line world = (append-nil (line_played line world).told, refl)
played-more (one ∷ first) line world =
    let turn : Scene = line_played one world in
    let before : Scene = lines_played first turn.world in
    let longer = played-more first line turn.world in
    (ap (λ told. turn.told ++ told) longer.0 ∙ sym (append_assoc turn.told before.told (line_played line before.world).told), longer.1)

-- ---- each event and those before it

each-append : {A : Type 0} (IsSo : List A → A → Type 0) (earlier xs ys : List A) → EachAfter IsSo earlier xs → EachAfter IsSo (earlier ++ xs) ys
    → EachAfter IsSo earlier (xs ++ ys)
each-append IsSo earlier [] ys first rest = subst (λ es. EachAfter IsSo es ys) (append-nil earlier) rest
each-append IsSo earlier (x ∷ xs) ys first rest = (
  first.0,
  each-append IsSo (earlier ++ x ∷ []) xs ys first.1 (subst (λ es. EachAfter IsSo es ys) (sym (append_assoc earlier (x ∷ []) xs)) rest),
)

-- what is shown after some events more
shown-more : (earlier events : List EventView) (before told after : List Told) → map answer_told before ≡ map shown_by earlier → map shown_by events ≡ map answer_told told
    → after ≡ before ++ told → map answer_told after ≡ map shown_by (earlier ++ events)
shown-more earlier events before told after so are longer =
    ap (map answer_told) longer ∙ map-append answer_told before told ∙ ap (λ answers. answers ++ map answer_told told) so ∙ ap (λ answers. map shown_by earlier ++ answers) (sym are)
    ∙ sym (map-append shown_by earlier events)

module _ (IsSo : EventView → World → Type 0) (is_so : (statement : List ℕ) (told : Told) (world : World) → IsSo (event_of statement world.core.books told) world) (lines : List Line) where
  abbrev Shows : List EventView → EventView → Type 0
  Shows = IsOfTurn IsSo lines

  module _ (first : List Line) (line : Line) (later : List Line) (part : lines ≡ first ++ line ∷ later) where
    -- one turn
    each-turn : (turns : ℕ) (statement : List ℕ) (turn : Scene) (earlier : List EventView) → turns ≤ most_turns
        → (after_turns first line (suc turns)).told ≡ (after_turns first line turns).told ++ turn.told
        → (after_turns first line (suc turns)).world ≡ turn.world
        → HasAtMostOne turn.told → map answer_told (after_turns first line turns).told ≡ map shown_by earlier
        → EachAfter Shows earlier (turn_events statement turn)
    each-turn turns statement turn earlier counted told world (inl none) before =
        subst (λ (all : List Told). EachAfter Shows earlier (map (event_of statement turn.world.core.books) all)) (sym none) tt
    each-turn turns statement turn earlier counted told world (inr (one, is)) before =
        subst (λ (all : List Told). EachAfter Shows earlier (map (event_of statement turn.world.core.books) all)) (sym is) (
          record {
            first = first;
            line = line;
            later = later;
            turns = turns;
            part = part;
            counted = counted;
            before = before;
            answered = ap (map answer_told) (told ∙ ap (λ all. (after_turns first line turns).told ++ all) is)
                ∙ map-append answer_told (after_turns first line turns).told (one ∷ []) ∙ ap (λ answers. answers ++ answer_told one ∷ []) before;
            is_so = subst (IsSo (event_of statement turn.world.core.books one)) (sym world) (is_so statement one turn.world);
          },
          tt,
        )

    -- the world after the line's own turn, and so many others
    abbrev world_after : ℕ → World
    world_after others = (after_turns first line (suc others)).world

    -- one turn of another session, and those that follow
    each-next : (n done : ℕ) (earlier : List EventView) (next : Option ℕ) → done < most_turns → first_settled (world_after done) ≡ next
        → map answer_told (after_turns first line (suc done)).told ≡ map shown_by earlier
        → ((events : List EventView) → map answer_told (after_turns first line (suc (suc done))).told ≡ map shown_by events
        → EachAfter Shows events (flat_map (turn_events []) (turns_after n (world_after (suc done)))))
        → EachAfter Shows earlier (flat_map (turn_events []) (turns_first next (turns_after n) (world_after done)))
    each-next n done earlier None counted none before rest = tt
    each-next n done earlier (Some who) counted some before rest =
        let world : World = world_after done in
        let turn : Scene = going who world in
        let own : Scene = ask_session line (lines_played first first_world).world in
        let so_far : Scene = continuing_settled done own.world in
        let longer : IsLonger so_far (continuing_settled (suc done) own.world) = last-turn done own.world in
        let is : turn_of (first_settled world) world ≡ turn = ap (λ found. turn_of found world) some in
        let answers : List Told = (lines_played first first_world).told ++ own.told in
        let told : (after_turns first line (suc (suc done))).told ≡ (after_turns first line (suc done)).told ++ turn.told =
        ap (λ all. answers ++ all) (longer.0 ∙ ap (λ (scene : Scene). so_far.told ++ scene.told) is) ∙ sym (append_assoc answers so_far.told turn.told) in
        let left : world_after (suc done) ≡ turn.world = longer.1 ∙ ap (λ (scene : Scene). scene.world) is in
        each-append Shows earlier (turn_events [] turn) (flat_map (turn_events []) (turns_after n turn.world))
        (each-turn (suc done) [] turn earlier (omega (arith, counted)) told left (one-going who world) before)
        (subst (λ (w : World). EachAfter Shows (earlier ++ turn_events [] turn) (flat_map (turn_events []) (turns_after n w))) left
        (rest (earlier ++ turn_events [] turn) (shown-more earlier (turn_events [] turn) (after_turns first line (suc done)).told turn.told _ before (shown-turn [] turn) told)))

    -- the turns that follow the line's own
    each-others : (n done : ℕ) (earlier : List EventView) → done + n ≡ most_turns → map answer_told (after_turns first line (suc done)).told ≡ map shown_by earlier
        → EachAfter Shows earlier (flat_map (turn_events []) (turns_after n (world_after done)))
    unfolding turns_after
    each-others zero done earlier counted before = tt
    each-others (suc n) done earlier counted before =
        each-next n done earlier (first_settled (world_after done)) (omega (arith, counted)) refl before
        (λ events shown. each-others n (suc done) events (omega (arith, counted)) shown)

    -- all turns of the line
    each-line : (statement : List ℕ) (earlier : List EventView) → map answer_told (lines_played first first_world).told ≡ map shown_by earlier
        → EachAfter Shows earlier (moment_of statement line (lines_played first first_world).world).events
    unfolding continuing_settled
    each-line statement earlier before =
        let so_far : Scene = lines_played first first_world in
        let own : Scene = ask_session line so_far.world in
        let told : (after_turns first line (suc zero)).told ≡ so_far.told ++ own.told = append-nil (so_far.told ++ own.told) in
        each-append Shows earlier (turn_events statement own) (flat_map (turn_events []) (turns_after most_turns own.world))
        (each-turn zero statement own earlier (omega arith) told refl (one-asked line so_far.world) before)
        (each-others most_turns zero (earlier ++ turn_events statement own) refl
        (shown-more earlier (turn_events statement own) so_far.told own.told _ before (shown-turn statement own) told))

  -- all lines
  each-lines : (text : List ℕ) (rest first : List Line) (earlier : List EventView) → lines ≡ first ++ rest → map answer_told (lines_played first first_world).told ≡ map shown_by earlier
      → EachAfter Shows earlier (flat_map (λ (moment : MomentView). moment.events) (moments_in text rest (lines_played first first_world).world))
  each-lines text [] first earlier part before = tt
  each-lines text (line ∷ rest) first earlier part before =
      let world : World = (lines_played first first_world).world in
      let moment : MomentView = moment_of (statement_at text line.number) line world in
      let longer = played-more first line first_world in
      let there = each-lines text rest (first ++ line ∷ []) (earlier ++ moment.events) (part ∙ sym (append_assoc first (line ∷ []) rest))
      (shown-more earlier moment.events (lines_played first first_world).told (line_played line world).told _ before (shown-line (statement_at text line.number) line world) longer.0) in
      each-append Shows earlier moment.events (flat_map (λ (moment : MomentView). moment.events) (moments_in text rest (line_played line world).world))
      (each-line first line rest part (statement_at text line.number) earlier before)
      (subst (λ (w : World). EachAfter Shows (earlier ++ moment.events) (flat_map (λ (moment : MomentView). moment.events) (moments_in text rest w))) longer.1 there)

  -- from the beginning
  pub each-event : (text : List ℕ) → EachAfter Shows [] (flat_map (λ (moment : MomentView). moment.events) (moments_in text lines first_world))
  each-event text = each-lines text lines [] [] refl refl
