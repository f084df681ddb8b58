-- A session that has worked off its lines pins nothing: its statements leave no pin that its context doesn't need, and then it leaves.
use Rattle.std.proofs.Common.{◌≡◌, ℕ, zero, suc, true, List, [], ◌∷◌, Option, Some, None, inl, inr, refl, sym, ap, ◌∙◌, subst}
use Rattle.std.specs.Prelude.{IsSome}
use Rattle.std.specs.Option.{option_map}
use Rattle.std.proofs.lemmas.List.Elements.{All-nil}
use Rattle.mdl_key.specs.Keys.{KeyName}
use Rattle.mdl_calls.specs.declared.lock_space.LockSpace.{Ghosts}
use Rattle.mdl_calls.specs.MemberLaws.{LawsOf}
use Rattle.mdl_calls.specs.Words.{Answer, Pending, Poll_wait, Settle_timeout, is_pinned, Program, Runs, Give, ◌>>=◌}
use Rattle.mdl_syntax.specs.declared.script.Line.{Line}
use Rattle.mdl_syntax.specs.declared.statement.Statement.{Statement}
use Rattle.mdl_context.specs.declared.kept.Kept.{Kept}
use Rattle.mdl_context.specs.Contexts.{ContextView, is_known_place, wish_there}
use Rattle.mdl_rows.specs.declared.reply.Reply.{Reply}
use Rattle.mdl_rows.specs.Endings.{Pause, Ends, Begins_to_wait, Waits_on, Faults}
use Rattle.mdl_rows.specs.Leavings.{leaving}
use Rattle.mdl_rows.specs.MemoryLaws.{session_of_pause}
use Rattle.mdl_rows.specs.Playing.{going_on, starting}
use Rattle.mdl_rows.specs.Sessions.{Session}
use Rattle.mdl_rows.proofs.LeaverPins.{IsBare, bare-leaving}
use Rattle.mdl_rows.proofs.RowPins.{AllRest, Holds, Rests, holds-own, rests_going_on, rests_starting}
use Rattle.mdl_rows.proofs.RunParts.{parted}
use Rattle.mdl_work.specs.WorkPins.{WorkLeavesNoPin}
use Rattle.mdl_work.specs.Works.{Worked, behind, cut_off, finishing, finishing_from, going_further, making, most_waits, newcomer, noted, stopped_for_memory, waiting_out, while_pending, working, working_off}

-- over a space, for the session of a number
module _ {S : Type 0} (members : Ghosts S) (laws : LawsOf members) (number : ℕ) where
  -- ---- a session waits

  holds-while : (more : Program (Unit {0})) (a b : S) (context : ContextView) (answer : Answer) (reply : Unit {0}) → Holds members laws number a context
      → (Runs members.joins a more reply b → Holds members laws number b context) → Runs members.joins a (while_pending more answer) reply b → Holds members laws number b context
  holds-while more a b context Pending reply holds later run = later run
  holds-while more a b context answer reply holds later run = subst (λ s. Holds members laws number s context) run.1 holds

  holds-waiting_out : (polls : ℕ) (a b : S) (context : ContextView) (reply : Unit {0}) → Holds members laws number a context
      → Runs members.joins a (waiting_out context.who polls) reply b → Holds members laws number b context
  unfolding waiting_out
  holds-waiting_out zero a b context reply holds (answer, mid, step, (same, here)) =
      subst (λ s. Holds members laws number s context) here
      (holds-own members laws number a mid (Settle_timeout context.who) answer context holds refl refl refl step)
  holds-waiting_out (suc polls) a b context reply holds (answer, mid, step, run) =
      let now = holds-own members laws number a mid (Poll_wait context.who) answer context holds refl refl refl step in
      holds-while (waiting_out context.who polls) mid b context answer reply now (λ more. holds-waiting_out polls mid b context reply now more) run

  -- ---- a statement is executed to its end

  -- there is no wait once a statement has ended with a reply
  abbrev IsDone : Pause → Type 0
  IsDone (Ends reply session) = session.context.wait ≡ None
  IsDone pause = Unit {0}

  abbrev Stops : S → Pause → Type 0
  Stops b pause = Holds members laws number b (session_of_pause pause).context × IsDone pause

  stops-given : (a b : S) (given pause : Pause) → Stops a given → given ≡ pause → a ≡ b → Stops b pause
  stops-given a b given pause stops same here = subst (λ s. Stops s pause) here (subst (Stops a) same stops)

  stops-cut_off : (a b : S) (pause end : Pause) → Rests members laws number a pause → cut_off pause ≡ end → a ≡ b → Stops b end
  stops-cut_off a b (Ends reply session) end rests same here = stops-given a b (Ends reply session) end rests same here
  stops-cut_off a b (Begins_to_wait key mode session) end rests same here = stops-given a b (Faults session) end (rests.0, tt) same here
  stops-cut_off a b (Waits_on session) end rests same here = stops-given a b (Faults session) end (rests.0, tt) same here
  stops-cut_off a b (Faults session) end rests same here = stops-given a b (Faults session) end (rests.0, tt) same here

  -- a statement that waits goes on
  rests-further : (patience : ℕ) (session : Session) (a : S) → IsSome session.left → Holds members laws number a session.context
      → AllRest members laws number a (going_further patience session)
  rests-further patience session a some holds b pause run =
      let parts = parted {A = Unit {0}} {B = Pause} members.joins (waiting_out session.context.who patience) (λ _. going_on session) a b pause run in
      rests_going_on members laws number session parts.1 some (holds-waiting_out patience a parts.1 session.context parts.0 holds parts.2) b pause parts.3

  stops-from : (patience : ℕ) (more : Pause → Program Pause) (a b : S) (pause end : Pause) → Rests members laws number a pause
      → ((mid : S) (next : Pause) → Rests members laws number mid next → Runs members.joins mid (more next) end b → Stops b end)
      → Runs members.joins a (finishing_from patience more pause) end b → Stops b end
  stops-from patience more a b (Ends reply session) end rests later run = stops-given a b (Ends reply session) end rests run.0 run.1
  stops-from patience more a b (Faults session) end rests later run = stops-given a b (Faults session) end (rests.0, tt) run.0 run.1
  stops-from patience more a b (Begins_to_wait key mode session) end rests later run =
      let parts = parted {A = Pause} {B = Pause} members.joins (going_further patience session) more a b end run in
      later parts.1 parts.0 (rests-further patience session a rests.1 rests.0 parts.1 parts.0 parts.2) parts.3
  stops-from patience more a b (Waits_on session) end rests later run =
      let parts = parted {A = Pause} {B = Pause} members.joins (going_further patience session) more a b end run in
      later parts.1 parts.0 (rests-further patience session a rests.1 rests.0 parts.1 parts.0 parts.2) parts.3

  stops-finishing : (patience waits : ℕ) (a b : S) (pause end : Pause) → Rests members laws number a pause → Runs members.joins a (finishing patience waits pause) end b → Stops b end
  unfolding finishing
  stops-finishing patience zero a b pause end rests run = stops-cut_off a b pause end rests run.0 run.1
  stops-finishing patience (suc waits) a b pause end rests run =
      stops-from patience (finishing patience waits) a b pause end rests (λ mid next so more. stops-finishing patience waits mid b next end so more) run

  stops-making : (patience : ℕ) (statement : Statement) (session : Session) (a b : S) (end : Pause) → Holds members laws number a session.context → session.context.wait ≡ None
      → Runs members.joins a (making patience statement session) end b → Stops b end
  stops-making patience statement session a b end holds idle run =
      let parts = parted {A = Pause} {B = Pause} members.joins (starting statement session) (finishing patience most_waits) a b end run in
      stops-finishing patience most_waits parts.1 b parts.0 end (rests_starting members laws number statement session a holds idle parts.1 parts.0 parts.2) parts.3

  -- ---- lines

  abbrev Has : S → Worked → Type 0
  Has b worked = Holds members laws number b worked.session.context

  has-given : (a b : S) (given worked : Worked) → Has a given → given ≡ worked → a ≡ b → Has b worked
  has-given a b given worked has same here = subst (λ s. Has s worked) here (subst (Has a) same has)

  has-noted : (line : ℕ) (more : Session → Program Worked) (a b : S) (pause : Pause) (worked : Worked) → Stops a pause
      → ((session : Session) (end : Worked) (last : S) → Holds members laws number a session.context → session.context.wait ≡ None
      → Runs members.joins a (more session) end last → Has last end)
      → Runs members.joins a (noted line more pause) worked b → Has b worked
  has-noted line more a b (Ends reply session) worked stops later (inl run) = has-given a b (stopped_for_memory session) worked stops.0 run.0 run.1
  has-noted line more a b (Ends reply session) worked stops later (inr run) =
      let parts = parted {A = Worked} {B = Worked} members.joins (more session) (λ end. Give (behind (line, reply) end)) a b worked run in
      has-given parts.1 b (behind (line, reply) parts.0) worked (later session parts.0 parts.1 stops.0 stops.1 parts.2) parts.3.0 parts.3.1
  has-noted line more a b (Begins_to_wait key mode session) worked stops later run = has-given a b (stopped_for_memory session) worked stops.0 run.0 run.1
  has-noted line more a b (Waits_on session) worked stops later run = has-given a b (stopped_for_memory session) worked stops.0 run.0 run.1
  has-noted line more a b (Faults session) worked stops later run = has-given a b (stopped_for_memory session) worked stops.0 run.0 run.1

  has-working : (patience : ℕ) (lines : List Line) (session : Session) (a b : S) (worked : Worked) → Holds members laws number a session.context → session.context.wait ≡ None
      → Runs members.joins a (working patience lines session) worked b → Has b worked
  unfolding working
  has-working patience [] session a b worked holds idle run = has-given a b (record { answers = Some []; session = session }) worked holds run.0 run.1
  has-working patience (line ∷ lines) session a b worked holds idle run =
      let parts = parted {A = Pause} {B = Worked} members.joins (making patience line.statement session) (noted line.number (working patience lines)) a b worked run in
      has-noted line.number (working patience lines) parts.1 b parts.0 worked (stops-making patience line.statement session a parts.1 parts.0 holds idle parts.2)
      (λ next end last so none more. has-working patience lines next parts.1 last end so none more) parts.3

  -- ---- a session that has done nothing

  newcomer-holds : (a : S) → members.speaks_for a number → IsBare members laws number a → Holds members laws number a (newcomer number).context
  newcomer-holds a speaks is = record {
    who = refl;
    clean = record {
      attends = record {
        speaks = speaks;
        serves = record { held = is.0.0; wait = ap (option_map wish_there) is.0.1 };
        known = All-nil (λ (e : KeyName × ℕ). members.knows a number e.1 e.0);
        pinned = All-nil (λ (e : KeyName × ℕ). is_pinned e.1 (members.own a number) ≡ true);
        places = All-nil (λ (t : Kept). is_known_place (newcomer number).context.known t.place ≡ true);
        wish = tt;
      };
      just = (λ place pinned. let never = sym pinned ∙ (is.1 place).0 in absurd (cc), λ place owes. (is.1 place).1 owes);
    };
  }

  pub bare-working_off : (patience : ℕ) (lines : List Line) (answers : Option (List (ℕ × Reply))) (a b : S) → members.speaks_for a number → IsBare members laws number a
      → Runs members.joins a (working_off patience lines (newcomer number)) answers b → IsBare members laws number b
  bare-working_off patience lines answers a b speaks is (inl run) = subst (IsBare members laws number) run.1 is
  bare-working_off patience lines answers a b speaks is (inr run) =
      let parts = parted {A = Worked} {B = Option (List (ℕ × Reply))} members.joins (working patience lines (newcomer number))
      (λ worked. leaving worked.session >>= (λ _. Give worked.answers)) a b answers run in
      let left = parted {A = Unit {0}} {B = Option (List (ℕ × Reply))} members.joins (leaving parts.0.session) (λ _. Give parts.0.answers) parts.1 b answers parts.3 in
      subst (IsBare members laws number) left.3.1
      (bare-leaving members laws number parts.0.session parts.1 left.1 left.0
      (has-working patience lines (newcomer number) a parts.1 parts.0 (newcomer-holds a speaks is) refl parts.2) left.2)

-- ---- the law

pub work-leaves-no-pin : {S : Type 0} (members : Ghosts S) (laws : LawsOf members) → WorkLeavesNoPin members
work-leaves-no-pin members laws who patience lines answers a b speaks nothing unpinned run =
    bare-working_off members laws who patience lines answers a b speaks (nothing, unpinned) run
