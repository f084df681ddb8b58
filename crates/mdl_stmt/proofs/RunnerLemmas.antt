-- What a runner does, from what its player does.
use Rattle.std.proofs.Common.{◌≡◌, ℕ, Option, Some, None, IfSome, Result, sym, subst}
use Rattle.mdl_key.specs.declared.mode.Mode.{Mode}
use Rattle.mdl_key.specs.Keys.{KeyName}
use Rattle.mdl_calls.specs.Words.{Runs}
use Rattle.mdl_calls.specs.declared.lock_space.LockSpace.{Ghosts}
use Rattle.mdl_calls.proofs.CachedRuns.{run-plain}
use Rattle.mdl_context.specs.declared.request.Mark.{Mark}
use Rattle.mdl_context.specs.Contexts.{current_mark}
use Rattle.mdl_syntax.specs.declared.statement.Statement.{Statement}
use Rattle.mdl_rows.specs.declared.ending.Ending.{Ending}
use Rattle.mdl_rows.specs.Endings.{Begins_to_wait, closing}
use Rattle.mdl_rows.specs.Keepings.{going_on_kept, starting_kept}
use Rattle.mdl_rows.specs.Playing.{play, starting, with_left}
use Rattle.mdl_rows.specs.Statements.{row_of}
use Rattle.mdl_stmt.specs.declared.kept_stage.KeptWork.{KeptWork}
use Rattle.mdl_stmt.specs.declared.progress.Progress.{Progress}
use Rattle.mdl_stmt.specs.declared.runner.Work.{Work}
use Rattle.mdl_stmt.specs.declared.stage.Stage.{Stage}
use Rattle.mdl_stmt.specs.Attendance.{cached}
use Rattle.mdl_stmt.specs.Gets.{Comes, Waits, at_rest, ran}
use Rattle.mdl_stmt.specs.KeptStages.{OwnedView, session_kept, session_with}
use Rattle.mdl_stmt.specs.Players.{PlayerView, RunnerView}
use Rattle.mdl_stmt.specs.Stages.{rest_of, session_of}

-- a runner, from its player and its waiting statement
abbrev pub runner_of : PlayerView → Option Work → RunnerView
runner_of player work = record { context = player.context; state = player.state; work = work; cache = player.cache }

abbrev pub owned_of : PlayerView → Option KeptWork → OwnedView
owned_of player work = record { context = player.context; state = player.state; work = work; cache = player.cache }

module _ {S : Type 0} (members : Ghosts S) where
  -- a statement was started and ended
  pub starts-ended : {E : Type 0} (statement : Statement) (runner : RunnerView) (player middle after : PlayerView) (work : Option Work) (mark : Mark) (ending : Ending) (progress : Result Progress E) (a b c : S) →
      runner_of player work ≡ runner → work ≡ None → mark ≡ current_mark player.context.kept →
      Comes members a player (play (row_of statement)) b middle (closing ending) →
      Runs (cached members) (b, middle.cache) (closing ending mark (at_rest middle)) (ran progress (at_rest after)) (c, after.cache) →
      Runs members.joins a (starting statement (session_of runner)) (ran progress (session_of (runner_of after work))) c
  starts-ended statement runner player middle after work mark ending progress a b c same none is comes run =
      let plain = run-plain members.joins members.uses_cache (play (row_of statement) mark (at_rest player)) (a, player.cache) (c, after.cache) (ran progress (at_rest after))
      (comes.so mark (ran progress (at_rest after)) (c, after.cache) run) in
      subst (λ (r : RunnerView). Runs members.joins a (starting statement (session_of r)) (ran progress (session_of (runner_of after work))) c) same
      (subst (λ (w : Option Work). Runs members.joins a (starting statement (session_of (runner_of player w))) (ran progress (session_of (runner_of after w))) c) (sym none)
      (subst (λ (m : Mark). Runs members.joins a (play (row_of statement) m (at_rest player)) (ran progress (at_rest after)) c) is plain))

  -- or it began to wait
  pub starts-waiting : (statement : Statement) (runner : RunnerView) (player after : PlayerView) (work : Option Work) (mark : Mark) (key : KeyName) (mode : Mode) (stage : Stage) (a b : S) →
      runner_of player work ≡ runner → work ≡ None → mark ≡ current_mark player.context.kept →
      Waits members a player (play (row_of statement)) key mode (rest_of stage) b after →
      Runs members.joins a (starting statement (session_of runner)) (Begins_to_wait key mode (with_left (at_rest after) (record { rest = rest_of stage; mark = mark }))) b
  starts-waiting statement runner player after work mark key mode stage a b same none is waits =
      let end = Begins_to_wait key mode (with_left (at_rest after) (record { rest = rest_of stage; mark = mark })) in
      let plain = run-plain members.joins members.uses_cache (play (row_of statement) mark (at_rest player)) (a, player.cache) (b, after.cache) end (waits.so mark) in
      subst (λ (r : RunnerView). Runs members.joins a (starting statement (session_of r)) end b) same
      (subst (λ (w : Option Work). Runs members.joins a (starting statement (session_of (runner_of player w))) end b) (sym none)
      (subst (λ (m : Mark). Runs members.joins a (play (row_of statement) m (at_rest player)) end b) is plain))

  -- a waiting statement went on and ended
  pub goes-on-ended : {E : Type 0} (ticket : ℕ) (runner : RunnerView) (player middle after : PlayerView) (work rest : Option Work) (some : Work) (ending : Ending) (progress : Result Progress E) (a b c : S) →
      runner_of player work ≡ runner → work ≡ Some some → rest ≡ None →
      Comes members a player (play (rest_of some.stage ticket)) b middle (closing ending) →
      Runs (cached members) (b, middle.cache) (closing ending some.mark (at_rest middle)) (ran progress (at_rest after)) (c, after.cache) →
      IfSome runner.work (λ one. Runs (cached members) (a, runner.cache) (play (rest_of one.stage ticket) one.mark (session_of (record runner { work = None }))) (ran progress (session_of (runner_of after rest))) (c, after.cache))
  goes-on-ended ticket runner player middle after work rest some ending progress a b c same is none comes run =
      subst (λ (r : RunnerView). IfSome r.work (λ one. Runs (cached members) (a, r.cache) (play (rest_of one.stage ticket) one.mark (session_of (record r { work = None }))) (ran progress (session_of (runner_of after rest))) (c, after.cache))) same
      (subst (λ (w : Option Work). IfSome w (λ one. Runs (cached members) (a, player.cache) (play (rest_of one.stage ticket) one.mark (at_rest player)) (ran progress (session_of (runner_of after rest))) (c, after.cache))) (sym is)
      (subst (λ (w : Option Work). Runs (cached members) (a, player.cache) (play (rest_of some.stage ticket) some.mark (at_rest player)) (ran progress (session_of (runner_of after w))) (c, after.cache)) (sym none)
      (comes.so some.mark (ran progress (at_rest after)) (c, after.cache) run)))

  -- an owned runner started a statement
  pub starts-kept : {E : Type 0} (statement : Statement) (runner : OwnedView) (player after : PlayerView) (work kept rest : Option KeptWork) (progress : Result Progress E) (a b : S) →
      owned_of player work ≡ runner → work ≡ None → rest ≡ kept →
      Runs (cached members) (a, player.cache) (starting_kept statement (at_rest player)) (ran progress (session_with after kept)) (b, after.cache) →
      Runs members.joins a (starting_kept statement (session_kept runner)) (ran progress (session_kept (owned_of after rest))) b
  starts-kept statement runner player after work kept rest progress a b same none left run =
      let plain = run-plain members.joins members.uses_cache (starting_kept statement (at_rest player)) (a, player.cache) (b, after.cache) (ran progress (session_with after kept)) run in
      subst (λ (r : OwnedView). Runs members.joins a (starting_kept statement (session_kept r)) (ran progress (session_kept (owned_of after rest))) b) same
      (subst (λ (w : Option KeptWork). Runs members.joins a (starting_kept statement (session_with player w)) (ran progress (session_with after rest)) b) (sym none)
      (subst (λ (w : Option KeptWork). Runs members.joins a (starting_kept statement (at_rest player)) (ran progress (session_with after w)) b) (sym left) plain))

  -- or went on
  pub goes-on-owned : {E : Type 0} (runner : OwnedView) (player after : PlayerView) (work kept rest : Option KeptWork) (some : KeptWork) (progress : Result Progress E) (a b : S) →
      owned_of player work ≡ runner → work ≡ Some some → rest ≡ kept →
      Runs (cached members) (a, player.cache) (going_on_kept (session_with player (Some some))) (ran progress (session_with after kept)) (b, after.cache) →
      Runs members.joins a (going_on_kept (session_kept runner)) (ran progress (session_kept (owned_of after rest))) b
  goes-on-owned runner player after work kept rest some progress a b same is left run =
      let plain = run-plain members.joins members.uses_cache (going_on_kept (session_with player (Some some))) (a, player.cache) (b, after.cache) (ran progress (session_with after kept)) run in
      subst (λ (r : OwnedView). Runs members.joins a (going_on_kept (session_kept r)) (ran progress (session_kept (owned_of after rest))) b) same
      (subst (λ (w : Option KeptWork). Runs members.joins a (going_on_kept (session_with player w)) (ran progress (session_with after rest)) b) (sym is)
      (subst (λ (w : Option KeptWork). Runs members.joins a (going_on_kept (session_with player (Some some))) (ran progress (session_with after w)) b) (sym left) plain))
