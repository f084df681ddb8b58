-- All tables stand; then there was no memory, or all is kept.
use Rattle.std.proofs.Common.{List, [], false, refl, sym, ap, ◌∙◌, subst}
use Rattle.mdl_syntax.specs.declared.table_locks.TableLock.{TableLock}
use Rattle.mdl_context.specs.Contexts.{Attends, ContextView}
use Rattle.mdl_context.proofs.OthersLemmas.{left-alone}
use Rattle.mdl_rows.specs.declared.ending.Ending.TheVariants.{Answers}
use Rattle.mdl_rows.specs.declared.state.Locked.{Locked}
use Rattle.mdl_rows.specs.declared.reply.Reply.{Reply}
use Rattle.mdl_rows.specs.declared.reply.Reply.TheVariants as reply
use Rattle.mdl_rows.specs.declared.state.Savepoint.{Savepoint}
use Rattle.mdl_rows.specs.Endings.{closing}
use Rattle.mdl_stmt.specs.Gets.{Comes}
use Rattle.mdl_rows.specs.Playing.{play}
use Rattle.mdl_rows.specs.Rows.{Row, Give, Keep, Room, Set}
use Rattle.mdl_stmt.specs.Players.{PlayerView, player_of}
use Rattle.mdl_rows.specs.States.{locking}
use Rattle.mdl_stmt.specs.Players.{ExplicitLocks}
use Rattle.mdl_rows.specs.Statements.{locked_by}
use Rattle.mdl_stmt.proofs.AttendanceLemmas.{goes_on-then, goes_on-with}
use Rattle.mdl_stmt.proofs.LockTableLemmas.{all_explicit, explicit-done, kept-so, room-missed}
use Rattle.mdl_stmt.proofs.RunLemmas.{comes-then}
use Rattle.mdl_stmt.proofs.player.Player.keep_locked.Goals as goal

pub returns-in_default-locked_by-clause-run : goal.returns-in_default-locked_by-clause-run
returns-in_default-locked_by-clause-run g c =
    let rest : Row Reply = Keep (Set (locking (locked_by c.args.tables.now c.args.locks.keys c.args.locks.tickets) c.args.scopes.items) (Give reply.Ok)) in
    comes-then ((rw c.in_default.is at (rw c.tickets.ensures at c.all_stand.ensures.run)) (λ _. Room rest)) (room-missed rest)

pub returns-clause-run : goal.returns-clause-run
returns-clause-run g c =
    let locked : List Locked = locked_by c.args.tables.now c.args.locks.keys c.args.locks.tickets in
    let rest : Row Reply = Room (Keep (Set (locking locked c.args.scopes.items) (Give reply.Ok))) in
    let explicit : ExplicitLocks = c.self.inside.explicit in
    let context : ContextView = all_explicit c.self.inside.context in
    let before : PlayerView = player_of c.self.inside.cache explicit c.self.inside.context c.self.inside.is_open c.self.inside.has_written c.self.inside.savepoints in
    let here : PlayerView → PlayerView → Type 0 = λ x y. Comes g.S.LockSpace c.all_stand.new.space x (play rest) c.all_stand.new.space y (closing (Answers reply.Ok)) in
    let idle = ap (λ (p : PlayerView). p.context.wait) c.self.view_is ∙ c.all_stand.ensures.idle in
    let kept = explicit-done c.self.inside.context c.make_explicit-kept.new.self c.make_explicit-kept.result idle c.make_explicit-kept.ensures.refused c.make_explicit-kept.ensures.done in
    let same = c.in-Ok.ensures ∙ ap (λ (t : List TableLock). locked_by t c.args.locks.keys c.args.locks.tickets) c.as_slice.ensures in
    comes-then ((rw c.in_default.is at (rw c.tickets.ensures at c.all_stand.ensures.run)) (λ _. rest))
    (subst (λ (x : ContextView). here c.all_stand.new.self (player_of c.self.inside.cache c.lock.new.self x false false c.clear.new.self)) (sym kept)
    (subst (λ (s : List Savepoint). here c.all_stand.new.self (player_of c.self.inside.cache c.lock.new.self context false false s)) (sym c.clear.ensures)
    (subst (λ (e : ExplicitLocks). here c.all_stand.new.self (player_of c.self.inside.cache e context false false [])) (sym c.lock.ensures)
    (subst (λ (l : List Locked). here c.all_stand.new.self (player_of c.self.inside.cache (record explicit { locked = l; scopes = c.args.scopes.items }) context false false [])) (sym same)
    (subst (λ (x : PlayerView). here x (player_of c.self.inside.cache (record explicit { locked = locked; scopes = c.args.scopes.items }) context false false [])) c.self.view_is
    (kept-so locked c.args.scopes.items))))))

pub returns-clause-goes_on : goal.returns-clause-goes_on
returns-clause-goes_on g c =
    let here = c.all_stand.ensures.goes_on in
    let space = c.all_stand.new.space in
    let attends = subst (Attends g.S.LockSpace space) (sym (ap (λ (p : PlayerView). p.context) c.self.view_is)) here.attends in
    goes_on-then here (goes_on-with g.S.LockSpace space space _ _ _ c.self.view_is here.attends.speaks here.met refl (record {
      who = c.make_explicit-kept.ensures.who;
      others = left-alone g.S.LockSpace _ space;
      attends = c.make_explicit-kept.ensures.attends space attends;
    }))
