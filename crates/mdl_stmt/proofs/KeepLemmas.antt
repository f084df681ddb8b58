-- Statements that are kept only in part while they wait.
use Rattle.std.proofs.Common.{◌≡◌, Option, Some, None, Result, Ok, Err, refl, sym, subst, inl, inr}
use Rattle.mdl_defs.specs.Caches.{CacheView}
use Rattle.mdl_calls.specs.declared.lock_space.LockSpace.{Ghosts}
use Rattle.mdl_calls.specs.Words.{Answer, Call, Program, Give, Ask, Grow, Runs, ◌>>=◌}
use Rattle.mdl_calls.proofs.RunLemmas.{runs_bind}
use Rattle.mdl_context.specs.declared.context_error.ContextError.{ContextError}
use Rattle.mdl_context.specs.declared.request.Mark.{Mark}
use Rattle.mdl_context.specs.declared.request.Resume.{Resume}
use Rattle.mdl_context.specs.Contexts.{ContextView}
use Rattle.mdl_context.specs.Waits.{resuming}
use Rattle.mdl_rows.specs.declared.ending.Ending.{Ending}
use Rattle.mdl_stmt.specs.declared.got.Played.{Played}
use Rattle.mdl_stmt.specs.declared.got.Played.TheVariants as played
use Rattle.mdl_stmt.specs.declared.keeping.StartedStatement.{StartedStatement}
use Rattle.mdl_stmt.specs.declared.kept_stage.KeptWork.{KeptWork}
use Rattle.mdl_stmt.specs.declared.progress.Progress.{Progress}
use Rattle.mdl_stmt.specs.declared.progress.Progress.TheVariants.{Waiting, Pending, Done}
use Rattle.mdl_rows.specs.declared.reply.Reply.{Reply}
use Rattle.mdl_rows.specs.Endings.{Pause, closing}
use Rattle.mdl_stmt.specs.Attendance.{cached}
use Rattle.mdl_stmt.specs.Gets.{IsPlayed, at_rest, ran}
use Rattle.mdl_rows.specs.Keepings.{going_on_kept, keeping}
use Rattle.mdl_stmt.specs.Gets.{IsPlayedOut}
use Rattle.mdl_stmt.specs.KeptStages.{left_of_kept, session_with}
use Rattle.mdl_rows.specs.Playing.{play, resumed}
use Rattle.mdl_rows.specs.Rows.{Row}
use Rattle.mdl_stmt.specs.Players.{PlayerView}
use Rattle.mdl_stmt.proofs.CachedLemmas.{resumes}

module _ {S : Type 0} (joins : S → Call → Answer → S → Type 0) where
  -- three programs one after the other
  pub runs-assoc : {A B C : Type 0} (first : Program A) (next : A → Program B) (last : B → Program C) (a b : S) (reply : C) →
      Runs joins a (first >>= (λ x. next x >>= last)) reply b → Runs joins a (first >>= next >>= last) reply b
  runs-assoc (Give x) next last a b reply run = run
  runs-assoc (Ask call then) next last a b reply (answer, after, step, run) = (answer, after, step, runs-assoc (then answer) next last after b reply run)
  runs-assoc (Grow refused found) next last a b reply (inl run) = inl (runs-assoc refused next last a b reply run)
  runs-assoc (Grow refused found) next last a b reply (inr run) = inr (runs-assoc found next last a b reply run)

  -- nothing is copied of a statement that is over
  pub keeps-none : {E : Type 0} (progress : Result Progress E) (player : PlayerView) (a : S) → Runs joins a (keeping (ran progress (at_rest player))) (ran progress (at_rest player)) a
  keeps-none (Ok (Waiting key mode)) player a = (refl, refl)
  keeps-none (Ok Pending) player a = (refl, refl)
  keeps-none (Ok (Done reply)) player a = (refl, refl)
  keeps-none (Err error) player a = (refl, refl)

  -- it ended
  pub ended-kept : (program : Program Pause) (turn : StartedStatement) (after : PlayerView) (a b : S) → turn.work ≡ None →
      Runs joins a program (ran turn.progress (at_rest after)) b → Runs joins a (program >>= keeping) (ran turn.progress (session_with after turn.work)) b
  ended-kept program turn after a b none run =
      subst (λ (w : Option KeptWork). Runs joins a (program >>= keeping) (ran turn.progress (session_with after w)) b) (sym none)
      (runs_bind joins program keeping a b b (ran turn.progress (at_rest after)) (ran turn.progress (at_rest after)) run (keeps-none turn.progress after b))

module _ {S : Type 0} (members : Ghosts S) where
  -- a row was played, and then its statement was ended, or what is left of it was copied
  pub settled-so : (row : Row Reply) (mark : Mark) (before middle after : PlayerView) (how : Played) (turn : StartedStatement) (a b c : S) →
      IsPlayed members row a before how b middle → IsPlayedOut members how mark b middle turn c after →
      Runs (cached members) (a, before.cache) (play row mark (at_rest before) >>= keeping) (ran turn.progress (session_with after turn.work)) (c, after.cache)
  settled-so row mark before middle after (played.Ends ending) turn a b c comes (none, run) =
      ended-kept (cached members) (play row mark (at_rest before)) turn after (a, before.cache) (c, after.cache) none
      (comes.so mark (ran turn.progress (at_rest after)) (c, after.cache) run)
  settled-so row mark before middle after (played.Waits key mode stage) turn a b c waits run =
      runs_bind (cached members) (play row mark (at_rest before)) keeping (a, before.cache) (b, middle.cache) (c, after.cache) _
      (ran turn.progress (session_with after turn.work)) (waits.so mark) run

  -- a wait went on, and then its statement
  pub goes-on-kept : (before : PlayerView) (work : KeptWork) (context : ContextView) (result : Result Resume ContextError) (pause : Pause) (a b : S) (c : S × CacheView) →
      Runs members.joins a (resuming before.context) (result, context) b →
      Runs (cached members) (b, before.cache) (resumed (left_of_kept work) (at_rest before) (result, context) >>= keeping) pause c →
      Runs (cached members) (a, before.cache) (going_on_kept (session_with before (Some work))) pause c
  goes-on-kept before work context result pause a b c run rest =
      runs-assoc (cached members) (resuming before.context) (resumed (left_of_kept work) (at_rest before)) keeping (a, before.cache) c pause
      (runs_bind (cached members) (resuming before.context) (λ outcome. resumed (left_of_kept work) (at_rest before) outcome >>= keeping)
      (a, before.cache) (b, before.cache) c (result, context) pause (resumes members before.context before.cache _ a b run) rest)

  -- it was lost, or memory ran out
  pub ends-kept : (ending : Ending) (mark : Mark) (before after : PlayerView) (turn : StartedStatement) (a b : S) → IsPlayedOut members (played.Ends ending) mark a before turn b after →
      Runs (cached members) (a, before.cache) (closing ending mark (at_rest before) >>= keeping) (ran turn.progress (session_with after turn.work)) (b, after.cache)
  ends-kept ending mark before after turn a b (none, run) =
      ended-kept (cached members) (closing ending mark (at_rest before)) turn after (a, before.cache) (b, after.cache) none run
