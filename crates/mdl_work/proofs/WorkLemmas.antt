-- How a session's waits, statements and lines follow one after the other.
use Rattle.std.proofs.Common.{◌≡◌, ◌<◌, ◌+◌, ℕ, zero, suc, Bool, if◌then◌else◌, List, [], ◌∷◌, ◌++◌, length, get_or, drop, map, Option, Some, None, Result, Ok, Err, refl, sym, ap, ◌∙◌, subst, inl, inr}
use Rattle.std.specs.Prelude.{IfOk, OnErr, Vec}
use Rattle.std.proofs.lemmas.Bool.{eq-eqb, ne_eqb}
use Rattle.std.proofs.lemmas.List.{append-nil, append_assoc, drop_more, map-append}
use Rattle.std.specs.Option.{option_map}
use Rattle.mdl_defs.specs.Caches.{CacheView}
use Rattle.mdl_calls.specs.Words.{Answer, Call, Done, Pending, Poll_wait, Settle_timeout, Program, Give, Runs, ◌>>◌}
use Rattle.mdl_calls.proofs.CacheLemmas.{still-met}
use Rattle.mdl_calls.proofs.CachedRuns.{ReadsNone}
use Rattle.mdl_calls.proofs.RunLemmas.{runs_bind}
use Rattle.mdl_calls.specs.declared.lock_space.LockSpace.{Ghosts}
use Rattle.mdl_calls.specs.MemberLaws.{LawsOf}
use Rattle.mdl_context.specs.Contexts.{ContextView, Attends, KeepsMet}
use Rattle.mdl_context.proofs.AttendLemmas.{attends-still}
use Rattle.mdl_context.proofs.OthersLemmas.{IsFor}
use Rattle.mdl_syntax.specs.declared.script.Line.{Line}
use Rattle.mdl_stmt.specs.declared.progress.Progress.{Progress}
use Rattle.mdl_stmt.specs.declared.progress.Progress.TheVariants as came
use Rattle.mdl_rows.specs.declared.reply.Reply.{Reply}
use Rattle.mdl_rows.specs.Endings.{Pause, Ends, Faults}
use Rattle.mdl_stmt.specs.Attendance.{AttendsWith}
use Rattle.mdl_stmt.specs.Gets.{paused}
use Rattle.mdl_rows.specs.Leavings.{leaving}
use Rattle.mdl_rows.specs.Sessions.{Session}
use Rattle.mdl_work.specs.Paces.{answers_in, worked_as}
use Rattle.mdl_work.specs.Works.{Worked, behind, finishing, going_further, lines_of_session, making, noted, stopped_for_memory, waiting_out, while_pending, working, working_off}

-- ---- waits

-- a wait was looked at for the session
for_looked : (who : ℕ) (more : Program (Unit {0})) → IsFor who more → (answer : Answer) → IsFor who (while_pending more answer)
for_looked who more made Pending = made
for_looked who more made answer = tt

-- all looks are made for it
pub for_waiting_out : (who polls : ℕ) → IsFor who (waiting_out who polls)
unfolding waiting_out
for_waiting_out who zero = (refl, λ answer. tt)
for_waiting_out who (suc polls) = (refl, for_looked who (waiting_out who polls) (for_waiting_out who polls))

-- and none of them reads with the cache
unread_looked : (more : Program (Unit {0})) → ReadsNone more → (answer : Answer) → ReadsNone (while_pending more answer)
unread_looked more made Pending = made
unread_looked more made answer = tt

pub unread_waiting_out : (who polls : ℕ) → ReadsNone (waiting_out who polls)
unfolding waiting_out
unread_waiting_out who zero = (refl, λ answer. tt)
unread_waiting_out who (suc polls) = (refl, unread_looked (waiting_out who polls) (unread_waiting_out who polls))

module _ {S : Type 0} (joins : S → Call → Answer → S → Type 0) where
  -- the wait isn't settled: it is looked at again
  pub looked-pending : (who polls : ℕ) (a b c : S) → joins a (Poll_wait who) Pending b → Runs joins b (waiting_out who polls) tt c → Runs joins a (waiting_out who (suc polls)) tt c
  unfolding waiting_out
  looked-pending who polls a b c step run = (Pending, b, step, run)

  -- it is settled, or there is none
  pub looked-over : (who polls : ℕ) (answer : Answer) (a b : S) → ((more : Program (Unit {0})) → while_pending more answer ≡ Give tt) → joins a (Poll_wait who) answer b →
      Runs joins a (waiting_out who (suc polls)) tt b
  unfolding waiting_out
  looked-over who polls answer a b over step =
      (answer, b, step, subst (λ (p : Program (Unit {0})). Runs joins b p tt b) (sym (over (waiting_out who polls))) (refl, refl))

  -- patience is at an end
  pub patience-over : (who : ℕ) (answer : Answer) (a b : S) → joins a (Settle_timeout who) answer b → Runs joins a (waiting_out who zero) tt b
  unfolding waiting_out
  patience-over who answer a b step = (answer, b, step, (refl, refl))

module _ {S : Type 0} (members : Ghosts S) (laws : LawsOf members) where
  -- a wait was looked at: what is so now stays so if more follows, or nothing does
  after-looked : (P : S → Type 0) (more : Program (Unit {0})) (answer : Answer) (a b : S) → P a → (Runs members.joins a more tt b → P b) → Runs members.joins a (while_pending more answer) tt b → P b
  after-looked P more Pending a b now later run = later run
  after-looked P more answer a b now later (same, here) = subst P here now

  -- a session that waits its wait out has what it had
  pub attends-waited : (polls : ℕ) (context : ContextView) (a b : S) → Attends members a context → Runs members.joins a (waiting_out context.who polls) tt b →
      Attends members b context
  unfolding waiting_out
  attends-waited zero context a b attends (answer, mid, step, (same, here)) =
      subst (λ (s : S). Attends members s context) here
      (attends-still members laws a mid (Settle_timeout context.who) answer context attends refl refl refl step)
  attends-waited (suc polls) context a b attends (answer, mid, step, run) =
      let now = attends-still members laws a mid (Poll_wait context.who) answer context attends refl refl refl step in
      after-looked (λ (s : S). Attends members s context) (waiting_out context.who polls) answer mid b now (attends-waited polls context mid b now) run

-- what its cache keeps was met, and stays so over what others and the session itself do
pub attends-with : {S : Type 0} (members : Ghosts S) (context : ContextView) (cache : CacheView) (a b : S) → Attends members b context → KeepsMet members a b → AttendsWith members a context cache →
    AttendsWith members b context cache
attends-with members context cache a b now keeps was = record {
  attends = now;
  met = still-met (members.has_met a context.who) (members.has_met b context.who) cache.kept (keeps context.who was.attends.speaks).1 was.met;
}

-- ---- statements

module _ {S : Type 0} (joins : S → Call → Answer → S → Type 0) where
  -- a statement that waits goes further
  pub goes-further : (patience waits : ℕ) (progress : Progress) (session : Session) (next end : Pause) (a b c : S) → ((reply : Reply) → progress ≡ came.Done reply → ⊥) →
      Runs joins a (going_further patience session) next b → Runs joins b (finishing patience waits next) end c → Runs joins a (finishing patience (suc waits) (paused progress session)) end c
  unfolding finishing
  goes-further patience waits (came.Waiting key mode) session next end a b c waiting run later =
      runs_bind joins (going_further patience session) (finishing patience waits) a b c next end run later
  goes-further patience waits came.Pending session next end a b c waiting run later =
      runs_bind joins (going_further patience session) (finishing patience waits) a b c next end run later
  goes-further patience waits (came.Done reply) session next end a b c waiting run later = absurd (waiting reply refl)

  -- one that is over stays so
  pub stays-ended : (patience waits : ℕ) (reply : Reply) (session : Session) (a : S) → Runs joins a (finishing patience waits (Ends reply session)) (Ends reply session) a
  unfolding finishing
  stays-ended patience zero reply session a = (refl, refl)
  stays-ended patience (suc waits) reply session a = (refl, refl)

  pub stays-starved : (patience waits : ℕ) (session : Session) (a : S) → Runs joins a (finishing patience waits (Faults session)) (Faults session) a
  unfolding finishing
  stays-starved patience zero session a = (refl, refl)
  stays-starved patience (suc waits) session a = (refl, refl)

  -- one that still waits is cut off
  pub is-cut-off : (patience : ℕ) (progress : Progress) (session : Session) (a : S) → ((reply : Reply) → progress ≡ came.Done reply → ⊥) →
      Runs joins a (finishing patience zero (paused progress session)) (Faults session) a
  unfolding finishing
  is-cut-off patience (came.Waiting key mode) session a waiting = (refl, refl)
  is-cut-off patience came.Pending session a waiting = (refl, refl)
  is-cut-off patience (came.Done reply) session a waiting = absurd (waiting reply refl)

-- ---- lines

-- these answers, and those that follow
abbrev pub ahead : List (ℕ × Reply) → Worked → Worked
ahead answers worked = record { answers = option_map (λ more. answers ++ more) worked.answers; session = worked.session }

module _ {S : Type 0} (joins : S → Call → Answer → S → Type 0) where
  -- no line is left
  pub none-left : (patience : ℕ) (session : Session) (a : S) → Runs joins a (working patience [] session) (record { answers = Some []; session = session }) a
  unfolding working
  none-left patience session a = (refl, refl)

  -- a line was answered, and the rest follows
  pub one-answered : (patience : ℕ) (line : Line) (lines : List Line) (before after : Session) (reply : Reply) (worked : Worked) (a b c : S) →
      Runs joins a (making patience line.statement before) (Ends reply after) b → Runs joins b (working patience lines after) worked c →
      Runs joins a (working patience (line ∷ lines) before) (behind (line.number, reply) worked) c
  unfolding working
  one-answered patience line lines before after reply worked a b c run later =
      runs_bind joins (making patience line.statement before) (noted line.number (working patience lines)) a b c (Ends reply after) _ run
      (inr (runs_bind joins (working patience lines after) (λ (more : Worked). Give (behind (line.number, reply) more)) b c c worked _ later (refl, refl)))

  -- its answer couldn't be kept
  pub one-unkept : (patience : ℕ) (line : Line) (lines : List Line) (before after : Session) (reply : Reply) (a b : S) →
      Runs joins a (making patience line.statement before) (Ends reply after) b
      → Runs joins a (working patience (line ∷ lines) before) (stopped_for_memory after) b
  unfolding working
  one-unkept patience line lines before after reply a b run =
      runs_bind joins (making patience line.statement before) (noted line.number (working patience lines)) a b b (Ends reply after) _ run (inl (refl, refl))

  -- its statement found no memory
  pub one-starved : (patience : ℕ) (line : Line) (lines : List Line) (before after : Session) (a b : S) →
      Runs joins a (making patience line.statement before) (Faults after) b → Runs joins a (working patience (line ∷ lines) before) (stopped_for_memory after) b
  unfolding working
  one-starved patience line lines before after a b run =
      runs_bind joins (making patience line.statement before) (noted line.number (working patience lines)) a b b (Faults after) _ run (refl, refl)

-- ---- answers

-- one more of them
pub ahead-behind : (answers : List (ℕ × Reply)) (answer : ℕ × Reply) (worked : Worked) → ahead answers (behind answer worked) ≡ ahead (answers ++ answer ∷ []) worked
ahead-behind answers answer worked =
    ap (λ (all : Option (List (ℕ × Reply))). record { answers = all; session = worked.session }) (same worked.answers) where
      same : (rest : Option (List (ℕ × Reply))) →
          option_map (λ (more : List (ℕ × Reply)). answers ++ more) (option_map (λ (more : List (ℕ × Reply)). answer ∷ more) rest)
          ≡ option_map (λ (more : List (ℕ × Reply)). (answers ++ answer ∷ []) ++ more) rest
      same None = refl
      same (Some more) = ap (λ (all : List (ℕ × Reply)). Some all) (sym (append_assoc answers (answer ∷ []) more))

-- and nothing behind them
pub ahead-all : (answers : List (ℕ × Reply)) (session : Session) →
    ahead answers (record { answers = Some []; session = session }) ≡ record { answers = Some answers; session = session }
ahead-all answers session = ap (λ (all : List (ℕ × Reply)). record { answers = Some all; session = session }) (append-nil answers)

-- ---- the lines of a session

-- one of them comes next
pub next-own : (who : ℕ) (lines : List Line) (i : ℕ) (line d : Line) → i < length lines → line ≡ get_or lines i d → line.session ≡ who →
    lines_of_session who (drop i lines) ≡ line ∷ lines_of_session who (drop (i + 1) lines)
next-own who lines i line d inside item own =
    ap (λ (left : List Line). lines_of_session who left) (drop_more lines i d inside ∙ ap (λ (x : Line). x ∷ drop (i + 1) lines) (sym item))
    ∙ ap (λ (b : Bool). if b then line ∷ lines_of_session who (drop (i + 1) lines) else lines_of_session who (drop (i + 1) lines)) (eq-eqb line.session who own)

-- one of another session does
pub next-other : (who : ℕ) (lines : List Line) (i : ℕ) (line d : Line) → i < length lines → line ≡ get_or lines i d → (line.session ≡ who → ⊥) →
    lines_of_session who (drop i lines) ≡ lines_of_session who (drop (i + 1) lines)
next-other who lines i line d inside item other =
    ap (λ (left : List Line). lines_of_session who left) (drop_more lines i d inside ∙ ap (λ (x : Line). x ∷ drop (i + 1) lines) (sym item))
    ∙ ap (λ (b : Bool). if b then line ∷ lines_of_session who (drop (i + 1) lines) else lines_of_session who (drop (i + 1) lines)) (ne_eqb line.session who other)

-- ---- one line after the other

module _ {S : Type 0} (joins : S → Call → Answer → S → Type 0) where
  -- whatever follows from here, behind the answers so far, follows from the start
  abbrev pub Follows : Program Worked → S → Program Worked → S → List (ℕ × Reply) → Type 0
  Follows whole start rest a answers = (worked : Worked) (b : S) → Runs joins a rest worked b → Runs joins start whole (ahead answers worked) b

  pub follows-answered : (patience : ℕ) (line : Line) (left rest : List Line) (before after : Session) (reply : Reply) (answers : List (ℕ × Reply)) (whole : Program Worked) (start a mid : S) →
      left ≡ line ∷ rest → Follows whole start (working patience left before) a answers → Runs joins a (making patience line.statement before) (Ends reply after) mid →
      Follows whole start (working patience rest after) mid (answers ++ (line.number, reply) ∷ [])
  follows-answered patience line left rest before after reply answers whole start a mid same so run worked b later =
      subst (λ (w : Worked). Runs joins start whole w b) (ahead-behind answers (line.number, reply) worked)
      (so (behind (line.number, reply) worked) b
      (subst (λ (lines : List Line). Runs joins a (working patience lines before) (behind (line.number, reply) worked) b) (sym same)
      (one-answered joins patience line rest before after reply worked a mid b run later)))

  pub follows-unkept : (patience : ℕ) (line : Line) (left rest : List Line) (before after : Session) (reply : Reply) (answers : List (ℕ × Reply)) (whole : Program Worked) (start a mid : S) →
      left ≡ line ∷ rest → Follows whole start (working patience left before) a answers → Runs joins a (making patience line.statement before) (Ends reply after) mid →
      Runs joins start whole (stopped_for_memory after) mid
  follows-unkept patience line left rest before after reply answers whole start a mid same so run =
      so (stopped_for_memory after) mid
      (subst (λ (lines : List Line). Runs joins a (working patience lines before) (stopped_for_memory after) mid) (sym same)
      (one-unkept joins patience line rest before after reply a mid run))

  pub follows-starved : (patience : ℕ) (line : Line) (left rest : List Line) (before after : Session) (answers : List (ℕ × Reply)) (whole : Program Worked) (start a mid : S) →
      left ≡ line ∷ rest → Follows whole start (working patience left before) a answers → Runs joins a (making patience line.statement before) (Faults after) mid →
      Runs joins start whole (stopped_for_memory after) mid
  follows-starved patience line left rest before after answers whole start a mid same so run =
      so (stopped_for_memory after) mid
      (subst (λ (lines : List Line). Runs joins a (working patience lines before) (stopped_for_memory after) mid) (sym same)
      (one-starved joins patience line rest before after a mid run))

  -- no line is left
  pub follows-all : (patience : ℕ) (left : List Line) (session : Session) (answers : List (ℕ × Reply)) (whole : Program Worked) (start a : S) →
      left ≡ [] → Follows whole start (working patience left session) a answers → Runs joins start whole (record { answers = Some answers; session = session }) a
  follows-all patience left session answers whole start a none so =
      let nothing : Worked = record { answers = Some []; session = session } in
      subst (λ (w : Worked). Runs joins start whole w a) (ahead-all answers session)
      (so nothing a (subst (λ (lines : List Line). Runs joins a (working patience lines session) nothing a) (sym none) (none-left joins patience session a)))

-- the numbers of the answers, and of the lines that are left
pub numbers-on : (line : Line) (left rest : List Line) (reply : Reply) (answers : List (ℕ × Reply)) (whole : List ℕ) → left ≡ line ∷ rest →
    map (λ (answer : ℕ × Reply). answer.0) answers ++ map (λ (one : Line). one.number) left ≡ whole →
    map (λ (answer : ℕ × Reply). answer.0) (answers ++ (line.number, reply) ∷ []) ++ map (λ (one : Line). one.number) rest ≡ whole
numbers-on line left rest reply answers whole same so =
    let numbers : List ℕ = map (λ (answer : ℕ × Reply). answer.0) answers in
    let more : List ℕ = map (λ (one : Line). one.number) rest in
    ap (λ (first : List ℕ). first ++ more) (map-append (λ (answer : ℕ × Reply). answer.0) answers ((line.number, reply) ∷ []))
    ∙ append_assoc numbers (line.number ∷ []) more
    ∙ sym (ap (λ (lines : List Line). numbers ++ map (λ (one : Line). one.number) lines) same) ∙ so

-- ---- from the first line to the end

-- there was memory for the cache, lines were worked off, and then all was given up
pub worked-off : {S E Z : Type 0} (joins : S → Call → Answer → S → Type 0) (patience : ℕ) (lines : List Line) (before after : Session) (result : Result (Vec (ℕ × Reply) Z) E) (a mid b : S) →
    Runs joins a (working patience lines before) (worked_as result after) mid → Runs joins mid (leaving after) tt b →
    Runs joins a (working_off patience lines before) (answers_in result) b
worked-off joins patience lines before after (Ok answers) a mid b run left =
    inr (runs_bind joins (working patience lines before) (λ (worked : Worked). leaving worked.session >> Give worked.answers) a mid b (record { answers = Some answers.items; session = after }) (Some answers.items) run
    (runs_bind joins (leaving after) (λ _. Give (Some answers.items)) mid b b tt (Some answers.items) left (refl, refl)))
worked-off joins patience lines before after (Err error) a mid b run left =
    inr (runs_bind joins (working patience lines before) (λ (worked : Worked). leaving worked.session >> Give worked.answers) a mid b (stopped_for_memory after) None run
    (runs_bind joins (leaving after) (λ _. Give None) mid b b tt None left (refl, refl)))

-- what was answered, or that memory ran out, as a run over spaces alone
pub answers-told : {S E Z : Type 0} (joins : S → Call → Answer → S → Type 0) (program : Program (Option (List (ℕ × Reply)))) (result : Result (Vec (ℕ × Reply) Z) E) (a b : S) →
    Runs joins a program (answers_in result) b →
    IfOk result (λ answers. Runs joins a program (Some answers.items) b) × OnErr result (Runs joins a program None b)
answers-told joins program (Ok answers) a b run = (run, tt)
answers-told joins program (Err error) a b run = (tt, run)
