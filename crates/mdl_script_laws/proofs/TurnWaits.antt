-- How many waits a script tells of each statement: each of them is for one of the locks that the statement may ask for.
use Rattle.std.proofs.Common.{◌≡◌, ◌≢◌, ◌⊎◌, inl, inr, ℕ, zero, suc, ◌<◌, ◌≤◌, ◌+◌, ◌-◌, ◌*◌, Bool, true, false, cond, List, [], ◌∷◌, ◌++◌, length, get_or, set, filter, replicate, Option, Some, None, Result, refl, subst, ap, ◌∙◌, sym, arith}
use Rattle.std.specs.Prelude.{IfOk}
use Rattle.std.specs.List.{All, sum_by}
use Rattle.std.proofs.Math.Dec.{eqb}
use Rattle.std.proofs.lemmas.Bool.Decides.{eqb_tells}
use Rattle.std.proofs.lemmas.List.{length-append}
use Rattle.std.proofs.lemmas.List.Elements.{All-cons, All-head, All-nil, All-tail, filter-append}
use Rattle.std.proofs.lemmas.List.Folds.{sum_by-replicate}
use Rattle.std.proofs.lemmas.List.Sums.{sum_by-set}
use Rattle.mdl_key.specs.Words.{most_sessions}
use Rattle.mdl_lines.specs.declared.fault.LineError.{LineError}
use Rattle.mdl_lines.specs.Lines.{lines_of}
use Rattle.mdl_syntax.specs.declared.script.Line.{Line}
use Rattle.mdl_syntax.specs.Laws.{RiseFrom}
use Rattle.mdl_syntax.proofs.LawLemmas.{lines_say-rise}
use Rattle.mdl_rows.specs.declared.reply.Reply.TheVariants as reply
use Rattle.mdl_rows.specs.Endings.{Pause, Ends, Begins_to_wait, Waits_on, Faults}
use Rattle.mdl_script.specs.declared.told.News.{News}
use Rattle.mdl_script.specs.declared.told.News.TheVariants.{Busy, Ends as Has_ended}
use Rattle.mdl_script.specs.declared.told.Told.{Told}
use Rattle.mdl_script.specs.Texts.{is_wait_news}
use Rattle.mdl_script.specs.Worlds.{Scene, World, ◌and_then◌, ask_session, first_settled, first_world, going, line_played, lines_played, most_turns, player_at, continuing_settled, started, after_timeout, reports_of}
use Rattle.mdl_script.proofs.SettleLemmas.{settling-none, settling-over, settling-some}
use Rattle.mdl_script_laws.specs.Turns.{StatementsTellOfFewWaits, is_wait_of, most_locks_of, waits_told}
use Rattle.mdl_script_laws.proofs.ScriptLemmas.{asked-by, telling}
use Rattle.mdl_script_laws.proofs.TurnLemmas.{Due, IsBounded, IsRead, Turn, bounded-first, bounded-started, bounded-timed_out, nothing_due, pauses-started, read-limits, turn-going}
use Rattle.mdl_script_laws.proofs.TurnPlays.{PausesWithin}

-- ---- counts

-- the waits that may still be told of the statement of a line, but for the one that was told last
abbrev owed_at : ℕ → Due → ℕ
owed_at number due = cond (eqb due.line number) (due.locks - 1) 0

abbrev owed : ℕ → List Due → ℕ
owed number dues = sum_by (owed_at number) dues

waits-append : (number : ℕ) (one other : List Told) → waits_told number (one ++ other) ≡ waits_told number one + waits_told number other
waits-append number one other =
    ap (λ xs. length xs) (filter-append (is_wait_of number) one other) ∙ length-append (filter (is_wait_of number) one) (filter (is_wait_of number) other)

-- what is told once a statement came so far, and what is owed then
waits-told : (number line who most : ℕ) (pause : Pause) → PausesWithin most pause
    → waits_told number (reports_of line who pause) + owed_at number (record { line = line; locks = most }) ≤ cond (eqb line number) most 0
waits-told number line who most pause is = by pause (eqb line number) refl is where
  by : (pause : Pause) (same : Bool) → eqb line number ≡ same → PausesWithin most pause
      → waits_told number (reports_of line who pause) + owed_at number (record { line = line; locks = most }) ≤ cond (eqb line number) most 0
  by (Begins_to_wait key mode session) true e is = rw e (omega (arith, is.0))
  by (Begins_to_wait key mode session) false e is = rw e (omega arith)
  by (Ends reply session) true e is = rw e (omega arith)
  by (Ends reply session) false e is = rw e (omega arith)
  by (Waits_on session) true e is = rw e (omega arith)
  by (Waits_on session) false e is = rw e (omega arith)
  by (Faults session) true e is = rw e (omega arith)
  by (Faults session) false e is = rw e (omega arith)

-- what a session owed that may ask for this many locks and one
owed-before : (number line fewer : ℕ) (due : Due) → due.line ≡ line → due.locks ≡ suc fewer → owed_at number due ≡ cond (eqb line number) fewer 0
owed-before number line fewer due same locks =
    rw same (elim (eqb line number) as (λ b. cond b (due.locks - 1) 0 ≡ cond b fewer 0) [ true ↦ omega (arith, locks) | false ↦ refl ])

-- ---- turns

-- with a session's turn as much is told as is owed no more
waits-going : (world : World) (dues : List Due) (who : ℕ) (turn : Turn world dues who) (number : ℕ)
    → waits_told number (going who world).told + owed number (set dues (who - 1) (record { line = (player_at who world).line; locks = turn.fewer })) ≤ owed number dues
waits-going world dues who turn number =
    let line = (player_at who world).line in
    let new : Due = record { line = line; locks = turn.fewer } in
    let here = waits-told number line who turn.fewer _ turn.pauses in
    let before = owed-before number line turn.fewer (get_or dues (who - 1) nothing_due) turn.line turn.locks in
    let sums = sum_by-set (owed_at number) dues (who - 1) new nothing_due turn.among in
    omega (arith, here, before, sums)

-- a scene in which no more is told than was owed, with what is owed then
record IsPaid (dues : List Due) (scene : Scene) : Type 0 where
  after : List Due
  bounded : IsBounded after scene.world
  waits : (number : ℕ) → waits_told number scene.told + owed number after ≤ owed number dues

paid-silent : (world : World) (dues : List Due) → IsBounded dues world → IsPaid dues (record { told = []; world = world })
paid-silent world dues bounded = record { after = dues; bounded = bounded; waits = λ number. omega arith }

-- one scene after another
paid-then : (dues between after : List Due) (one other : List Told)
    → ((number : ℕ) → waits_told number one + owed number between ≤ owed number dues)
    → ((number : ℕ) → waits_told number other + owed number after ≤ owed number between)
    → (number : ℕ) → waits_told number (one ++ other) + owed number after ≤ owed number dues
paid-then dues between after one other first second number =
    let told = waits-append number one other in
    let here = first number in
    let there = second number in
    omega (arith, told, here, there)

-- one turn, and what follows
paid-turn : (n : ℕ) (world : World) (dues : List Due) (first : Option ℕ) → first_settled world ≡ first → IsBounded dues world
    → ((after : World) (left : List Due) → IsBounded left after → IsPaid left (continuing_settled n after)) → IsPaid dues (continuing_settled (suc n) world)
paid-turn n world dues None found bounded rest = subst (λ (scene : Scene). IsPaid dues scene) (sym (settling-none (suc n) world found))
    (paid-silent world dues bounded)
paid-turn n world dues (Some who) found bounded rest =
    let turn = turn-going world dues who found bounded in
    let next = set dues (who - 1) (record { line = (player_at who world).line; locks = turn.fewer }) in
    let step = going who world in
    let more = rest step.world next turn.bounded in
    let paid : IsPaid dues (step and_then continuing_settled n) = record {
      after = more.after;
      bounded = more.bounded;
      waits = paid-then dues next more.after step.told (continuing_settled n step.world).told (waits-going world dues who turn) more.waits;
    } in
    subst (λ (scene : Scene). IsPaid dues scene) (sym (settling-some (suc n) n world who refl found)) paid

paid-settling : (n : ℕ) (world : World) (dues : List Due) → IsBounded dues world → IsPaid dues (continuing_settled n world)
paid-settling zero world dues bounded = subst (λ (scene : Scene). IsPaid dues scene) (sym (settling-over world)) (paid-silent world dues bounded)
paid-settling (suc n) world dues bounded = paid-turn n world dues (first_settled world) refl bounded (λ after left there. paid-settling n after left there)

-- ---- lines

-- a scene in which a line's statement may have started: of it no more is told than it asks for locks, and of others no more than was owed
record IsBegun (dues : List Due) (line : Line) (scene : Scene) : Type 0 where
  after : List Due
  bounded : IsBounded after scene.world
  others : (number : ℕ) → number ≢ line.number → waits_told number scene.told + owed number after ≤ owed number dues
  its : owed line.number dues ≡ 0 → waits_told line.number scene.told + owed line.number after ≤ most_locks_of line.statement

-- a session that waits is told of no wait, and starts nothing
begun-waiting : (line : Line) (news : News) (world : World) (dues : List Due) → is_wait_news news ≡ false → IsBounded dues world
    → IsBegun dues line (telling line.number line.session news world)
begun-waiting line news world dues silent bounded = record {
  after = dues;
  bounded = bounded;
  others = λ number other. let none = none-told number (eqb line.number number) refl in omega (arith, none);
  its = λ nothing. let none = none-told line.number (eqb line.number line.number) refl in omega (arith, none, nothing);
} where
  none-told : (number : ℕ) (same : Bool) → eqb line.number number ≡ same → waits_told number (telling line.number line.session news world).told ≡ 0
  none-told number true e = rw e (rw silent refl)
  none-told number false e = rw e refl

begun-started : (line : Line) (world : World) (dues : List Due) → IsRead line → IsBounded dues world → IsBegun dues line (started line world)
begun-started line world dues read bounded = record {
  after = set dues (line.session - 1) new;
  bounded = bounded-started line world dues read bounded;
  others = λ number other. let sums = sum_by-set (owed_at number) dues (line.session - 1) new nothing_due among in by number
      (eqb_tells line.number number) other sums;
  its = λ nothing.
      let here = told line.number in
      let sums = sum_by-set (owed_at line.number) dues (line.session - 1) new nothing_due among in
      let most = least (eqb line.number line.number) in
      omega (arith, here, sums, most, nothing);
} where
  new : Due
  new = record { line = line.number; locks = most_locks_of line.statement }

  among : line.session - 1 < length dues
  among = let all = bounded.all in let is = read.0 in omega (arith, is.0, is.1, all)

  told : (number : ℕ) → waits_told number (started line world).told + owed_at number new ≤ cond (eqb line.number number) (most_locks_of line.statement) 0
  told number = waits-told number line.number line.session (most_locks_of line.statement) _ (pauses-started line world bounded.places)

  least : (same : Bool) → cond same (most_locks_of line.statement) 0 ≤ most_locks_of line.statement
  least true = omega arith
  least false = omega arith

  by : (number : ℕ) → ((eqb line.number number ≡ true) × (line.number ≡ number)) ⊎ ((eqb line.number number ≡ false) × (line.number ≢ number))
      → number ≢ line.number
      → sum_by (owed_at number) (set dues (line.session - 1) new) + owed_at number (get_or dues (line.session - 1) nothing_due) ≡ sum_by
      (owed_at number) dues + owed_at number new
      → waits_told number (started line world).told + owed number (set dues (line.session - 1) new) ≤ owed number dues
  by number (inl same) other sums = absurd (other (sym same.1))
  by number (inr apart) other sums =
      let here : waits_told number (started line world).told + owed_at number new ≤ 0 =
      subst (λ b. waits_told number (started line world).told + owed_at number new ≤ cond b (most_locks_of line.statement) 0) apart.0 (told number) in
      omega (arith, here, sums)

begun-asked : (line : Line) (world : World) (dues : List Due) → IsRead line → IsBounded dues world → IsBegun dues line (ask_session line world)
begun-asked line world dues read bounded =
    asked-by (IsBegun dues line) line world
    (begun-waiting line (Has_ended reply.Ok) (after_timeout line.session world) dues refl (bounded-timed_out line.session world dues read.0 bounded))
    (begun-waiting line Busy world dues refl bounded) (λ free. begun-started line world dues read bounded)

-- a line, and all turns after it
begun-line : (line : Line) (world : World) (dues : List Due) → IsRead line → IsBounded dues world → IsBegun dues line (line_played line world)
begun-line line world dues read bounded =
    let first = begun-asked line world dues read bounded in
    let begun = (ask_session line world).world in
    let rest = paid-settling most_turns begun first.after first.bounded in
    let told = λ (number : ℕ). waits-append number (ask_session line world).told (continuing_settled most_turns begun).told in record {
      after = rest.after;
      bounded = rest.bounded;
      others = λ number other.
          let all = told number in let here = first.others number other in let there = rest.waits number in omega (arith, all, here, there);
      its = λ nothing.
          let all = told line.number in let here = first.its nothing in let there = rest.waits line.number in omega (arith, all, here, there);
    }

-- numbers that rise are none of those before
rise-all : (number : ℕ) (lines : List Line) → RiseFrom number lines → All (λ line. number ≤ line.number) lines
rise-all number [] rise = All-nil (λ (line : Line). number ≤ line.number)
rise-all number (line ∷ lines) rise =
    All-cons (λ (line : Line). number ≤ line.number) line lines rise.0
    (λ k d inside. let later = rise-all (line.number + 1) lines rise.1 k d inside in omega (arith, later, rise.0))

-- what is told of lines: of those before no more than was owed, and of each no more than it asks for locks
record IsToldWithin (number : ℕ) (dues : List Due) (lines : List Line) (told : List Told) : Type 0 where
  before : (earlier : ℕ) → earlier < number → waits_told earlier told ≤ owed earlier dues
  each : All (λ line. waits_told line.number told ≤ most_locks_of line.statement) lines

told-lines : (number : ℕ) (lines : List Line) (world : World) (dues : List Due) → All IsRead lines
    → RiseFrom number lines → IsBounded dues world → ((later : ℕ) → number ≤ later → owed later dues ≡ 0)
    → IsToldWithin number dues lines (lines_played lines world).told
told-lines number [] world dues are rise bounded none =
    record { before = λ earlier less. omega arith; each = All-nil (λ (line : Line). waits_told line.number [] ≤ most_locks_of line.statement) }
told-lines number (line ∷ lines) world dues are rise bounded none =
    let first = begun-line line world dues (All-head IsRead line lines are) bounded in
    let step = line_played line world in
    let more = (lines_played lines step.world).told in
    let later : (later : ℕ) → line.number + 1 ≤ later → owed later first.after ≡ 0 = λ later less.
    let here = first.others later (λ e. omega (arith, e, less)) in
    let nothing = none later (omega (arith, less, rise.0)) in
    omega (arith, here, nothing) in
    let rest = told-lines (line.number + 1) lines step.world first.after (All-tail IsRead line lines are) rise.1 first.bounded later in
    let sum = λ (earlier : ℕ). waits-append earlier step.told more in
    let Few : Line → Type 0 = λ one. waits_told one.number (step.told ++ more) ≤ most_locks_of one.statement in record {
      before = λ earlier less.
          let all = sum earlier in
          let here = first.others earlier (λ e. omega (arith, e, less, rise.0)) in
          let there = rest.before earlier (omega (arith, less, rise.0)) in
          omega (arith, all, here, there);
      each = All-cons Few line lines
          (let all = sum line.number in
          let here = first.its (none line.number rise.0) in
          let there = rest.before line.number (omega arith) in
          omega (arith, all, here, there))
          (λ k d inside.
          let all = sum (get_or lines k d).number in
          let above = rise-all (line.number + 1) lines rise.1 k d inside in
          let here = first.others (get_or lines k d).number (λ e. omega (arith, e, above)) in
          let nothing = none (get_or lines k d).number (omega (arith, above, rise.0)) in
          let there = rest.each k d inside in
          omega (arith, all, here, nothing, there));
    }

-- ---- scripts

-- at first nothing is owed
owed-first : (number : ℕ) → owed number (replicate most_sessions nothing_due) ≡ 0
owed-first number = sum_by-replicate (owed_at number) most_sessions nothing_due ∙ by (eqb 0 number) where
  by : (same : Bool) → most_sessions * cond same (0 - 1) 0 ≡ 0
  by true = refl
  by false = refl

pub few-waits : StatementsTellOfFewWaits
few-waits text lines read =
    (told-lines 1 lines first_world (replicate most_sessions nothing_due) (read-limits text lines read) rise bounded-first (λ later less. owed-first later)).each where
      rise : RiseFrom 1 lines
      rise = subst (λ (said : Result (List Line) (ℕ × LineError)). IfOk said (RiseFrom 1)) read (lines_say-rise 1 (lines_of text))
