-- Rows that are the same once what they look at is filled in are played alike.
use Rattle.std.proofs.Common.{◌≡◌, ◌∙◌, ℕ, List, Option, Some, None, Ok, Err, refl, sym, ap}
use mathlib.Core.Path.{fun_ext}
use Rattle.mdl_key.specs.Keys.{KeyName}
use Rattle.mdl_defs.specs.declared.versioned_definition.VersionedDefinition.{VersionedDefinition}
use Rattle.mdl_calls.specs.Words.{Answer, Reads, Changed, Tables, Key_is, Program, Give, Ask, Grow, ◌>>=◌}
use Rattle.mdl_calls.specs.Words as call
use Rattle.mdl_context.specs.declared.request.Acquire.{Acquire}
use Rattle.mdl_context.specs.declared.request.Acquire.TheVariants as acquire
use Rattle.mdl_context.specs.declared.request.Mark.{Mark}
use Rattle.mdl_context.specs.declared.request.Resume.{Resume}
use Rattle.mdl_context.specs.declared.request.Resume.TheVariants as resume
use Rattle.mdl_context.specs.declared.request.Tried.{Tried}
use Rattle.mdl_context.specs.declared.request.Tried.TheVariants as try_as
use Rattle.mdl_context.specs.Contexts.{ContextView, current_mark, last_ticket}
use Rattle.mdl_context.specs.Releases.{releasing, releasing_tickets}
use Rattle.mdl_context.specs.Requests.{Outcome, acquiring, trying}
use Rattle.mdl_context.specs.Upgrades.{upgrading, downgrading}
use Rattle.mdl_context.specs.Waits.{giving_up_wait, resuming}
use Rattle.mdl_context.specs.Wishes.{Wish}
use Rattle.mdl_rows.specs.declared.ending.Ending.TheVariants.{Starves}
use Rattle.mdl_rows.specs.declared.reply.Reply.{Reply}
use Rattle.mdl_rows.specs.Endings.{Pause, Begins_to_wait, Waits_on, closing}
use Rattle.mdl_rows.specs.Playing as playing
use Rattle.mdl_rows.specs.Playing.{acquired, all_kept, going_on, killing, play, resumed, tried, untold, upgrade_wish, with_context, with_left}
use Rattle.mdl_rows.specs.Rows.{Row}
use Rattle.mdl_rows.specs.Rows as row
use Rattle.mdl_rows.specs.Sessions.{Left, Session}
use Rattle.mdl_plans.specs.PlanLaws.{SessionsGoOnAlike}
use Rattle.mdl_plans.specs.Seen.{left_seen, program_seen, seen, session_seen}
use Rattle.mdl_plans.proofs.SeenLemmas.{seen-twice}

-- the same program first, and then what is alike
program-then : {A : Type 0} (first : Program A) (one other : A → Program Pause) → ((x : A) → program_seen (one x) ≡ program_seen (other x)) →
    program_seen (first >>= one) ≡ program_seen (first >>= other)
program-then (Give x) one other same = same x
program-then (Ask call then) one other same = ap (Ask call) (fun_ext (λ answer. program-then (then answer) one other same))
program-then (Grow refused found) one other same =
    ap (λ (p : Program Pause). Grow p (program_seen (found >>= one))) (program-then refused one other same)
    ∙ ap (Grow (program_seen (refused >>= other))) (program-then found one other same)

-- what is left of a row that is played, with what it looks at filled in or not
rest-seen : (mark : Mark) (session : Session) (rest : ℕ → Row Reply) →
    session_seen (with_left session (record { rest = λ id. seen session.state (rest id); mark = mark })) ≡ session_seen (with_left session (record { rest = rest; mark = mark }))
rest-seen mark session rest =
    ap (λ (more : ℕ → Row Reply). with_left session (record { rest = more; mark = mark })) (fun_ext (λ id. seen-twice session.state (rest id)))

-- ---- a row

-- a request for a lock
request-seen : (wish : Wish) (rest : ℕ → Row Reply) (mark : Mark) (session : Session) →
    ((id : ℕ) (context : ContextView) → program_seen (play (seen session.state (rest id)) mark (with_context session context)) ≡ program_seen (play (rest id) mark (with_context session context))) →
    (outcome : Outcome Acquire) →
    program_seen (acquired wish (λ id. seen session.state (rest id)) mark session (λ id after. play (seen session.state (rest id)) mark after) outcome)
    ≡ program_seen (acquired wish rest mark session (λ id after. play (rest id) mark after) outcome)
request-seen wish rest mark session same (Ok (acquire.Acquired id), context) = same id context
request-seen wish rest mark session same (Ok (acquire.MustWait number), context) =
    let waiting : Session = with_context session context in
    ap (λ (told : Session). Grow (program_seen (giving_up_wait context >>= untold mark waiting)) (Give (Begins_to_wait wish.key wish.mode told)))
    (rest-seen mark waiting rest)
request-seen wish rest mark session same (Err error, context) = refl

-- a request without waiting
trial-seen : (rest : Option ℕ → Row Reply) (mark : Mark) (session : Session) →
    ((got : Option ℕ) (context : ContextView) → program_seen (play (seen session.state (rest got)) mark (with_context session context)) ≡ program_seen (play (rest got) mark (with_context session context))) →
    (outcome : Outcome Tried) →
    program_seen (tried mark session (λ got after. play (seen session.state (rest got)) mark after) outcome)
    ≡ program_seen (tried mark session (λ got after. play (rest got) mark after) outcome)
trial-seen rest mark session same (Ok (try_as.Acquired id), context) = same (Some id) context
trial-seen rest mark session same (Ok try_as.WouldWait, context) = same None context
trial-seen rest mark session same (Err error, context) = refl

-- what follows a release or a downgrade, with what the row looks at filled in and without
abbrev after-seen : Row Reply → Mark → Session → Outcome (Unit {0}) → Program Pause
after-seen rest mark session outcome = play (seen session.state rest) mark (with_context session outcome.1)

abbrev after-plain : Row Reply → Mark → Session → Outcome (Unit {0}) → Program Pause
after-plain rest mark session outcome = play rest mark (with_context session outcome.1)

-- answers of the space
read-seen : (mark : Mark) (session : Session) (one other : VersionedDefinition → Program Pause) →
    ((standing : VersionedDefinition) → program_seen (one standing) ≡ program_seen (other standing)) → (answer : Answer) →
    program_seen (playing.read_answered mark session one answer) ≡ program_seen (playing.read_answered mark session other answer)
read-seen mark session one other same (Reads version definition) = same (record { version = version; definition = definition })
read-seen mark session one other same _ = refl

change-seen : (mark : Mark) (session : Session) (one other : Program Pause) → program_seen one ≡ program_seen other → (answer : Answer) →
    program_seen (playing.change_answered mark session one answer) ≡ program_seen (playing.change_answered mark session other answer)
change-seen mark session one other same (Changed version) = same
change-seen mark session one other same _ = refl

tables-seen : (mark : Mark) (session : Session) (one other : List ℕ → Program Pause) → ((places : List ℕ) → program_seen (one places) ≡ program_seen (other places)) →
    (answer : Answer) → program_seen (playing.tables_answered mark session one answer) ≡ program_seen (playing.tables_answered mark session other answer)
tables-seen mark session one other same (Tables places) = same places
tables-seen mark session one other same _ = refl

key-seen : (mark : Mark) (session : Session) (one other : KeyName → Program Pause) → ((key : KeyName) → program_seen (one key) ≡ program_seen (other key)) →
    (answer : Answer) → program_seen (playing.key_answered mark session one answer) ≡ program_seen (playing.key_answered mark session other answer)
key-seen mark session one other same (Key_is key) = same key
key-seen mark session one other same _ = refl

-- the whole row
pub play-seen : (m : Row Reply) (mark : Mark) (session : Session) → program_seen (play (seen session.state m) mark session) ≡ program_seen (play m mark session)
play-seen (row.Give reply) mark session = refl
play-seen (row.Fail number) mark session = refl
play-seen (row.Room rest) mark session = ap (Grow (program_seen (closing Starves mark session))) (play-seen rest mark session)
play-seen (row.Look rest) mark session = play-seen (rest session.state) mark session
play-seen (row.Set change rest) mark session = play-seen rest mark (record session { state = change session.state })
play-seen (row.Here rest) mark session = play-seen (rest (current_mark session.context.kept)) mark session
play-seen (row.Acquire wish rest) mark session =
    program-then (acquiring wish session.context)
    (acquired wish (λ id. seen session.state (rest id)) mark session (λ id after. play (seen session.state (rest id)) mark after))
    (acquired wish rest mark session (λ id after. play (rest id) mark after))
    (request-seen wish rest mark session (λ id context. play-seen (rest id) mark (with_context session context)))
play-seen (row.Try_acquire wish rest) mark session =
    program-then (trying wish session.context)
    (tried mark session (λ got after. play (seen session.state (rest got)) mark after))
    (tried mark session (λ got after. play (rest got) mark after))
    (trial-seen rest mark session (λ got context. play-seen (rest got) mark (with_context session context)))
play-seen (row.Last key rest) mark session = play-seen (rest (last_ticket key session.context)) mark session
play-seen (row.Upgrade id key mode rest) mark session =
    program-then (upgrading id mode session.context)
    (acquired (upgrade_wish key mode) (λ new. seen session.state (rest new)) mark session (λ new after. play (seen session.state (rest new)) mark after))
    (acquired (upgrade_wish key mode) rest mark session (λ new after. play (rest new) mark after))
    (request-seen (upgrade_wish key mode) rest mark session (λ new context. play-seen (rest new) mark (with_context session context)))
play-seen (row.Downgrade id mode rest) mark session =
    program-then (downgrading id mode session.context) (after-seen rest mark session) (after-plain rest mark session)
    (λ outcome. play-seen rest mark (with_context session outcome.1))
play-seen (row.Give_up which rest) mark session =
    program-then (releasing_tickets (which session.context.kept) session.context) (after-seen rest mark session) (after-plain rest mark session)
    (λ outcome. play-seen rest mark (with_context session outcome.1))
play-seen (row.Release id rest) mark session =
    program-then (releasing id session.context) (after-seen rest mark session) (after-plain rest mark session)
    (λ outcome. play-seen rest mark (with_context session outcome.1))
play-seen (row.Keep rest) mark session = play-seen rest mark (all_kept session)
play-seen (row.Read id rest) mark session =
    ap (Ask (call.Read_kept session.context.who id))
    (fun_ext (read-seen mark session (λ standing. play (seen session.state (rest standing)) mark session) (λ standing. play (rest standing) mark session)
    (λ standing. play-seen (rest standing) mark session)))
play-seen (row.Redefine id change rest) mark session =
    ap (Ask (call.Change_definition session.context.who id change))
    (fun_ext (change-seen mark session (play (seen session.state rest) mark session) (play rest mark session) (play-seen rest mark session)))
play-seen (row.Tables_of schema rest) mark session =
    ap (Ask (call.Tables_of session.context.who schema))
    (fun_ext (tables-seen mark session (λ places. play (seen session.state (rest places)) mark session) (λ places. play (rest places) mark session)
    (λ places. play-seen (rest places) mark session)))
play-seen (row.Key_of place rest) mark session =
    ap (Ask (call.Key_of session.context.who place))
    (fun_ext (key-seen mark session (λ key. play (seen session.state (rest key)) mark session) (λ key. play (rest key) mark session)
    (λ key. play-seen (rest key) mark session)))
play-seen (row.Kill target rest) mark session =
    program-then (killing target) (λ _. play (seen session.state rest) mark session) (λ _. play rest mark session) (λ _. play-seen rest mark session)

-- rows that are the same are played alike
pub plays-alike : (one other : Row Reply) (mark : Mark) (session : Session) → seen session.state one ≡ seen session.state other →
    program_seen (play one mark session) ≡ program_seen (play other mark session)
plays-alike one other mark session same =
    sym (play-seen one mark session) ∙ ap (λ (m : Row Reply). program_seen (play m mark session)) same ∙ play-seen other mark session

-- ---- what is left of a statement

resumed-seen : (left : Left) (session : Session) (outcome : Outcome Resume) →
    program_seen (resumed (left_seen session.state left) session outcome) ≡ program_seen (resumed left session outcome)
resumed-seen left session (Ok resume.Waiting, context) = ap (λ (told : Session). Give (Waits_on told)) (rest-seen left.mark (with_context session context) left.rest)
resumed-seen left session (Ok (resume.Acquired id), context) = play-seen (left.rest id) left.mark (with_context session context)
resumed-seen left session (Ok (resume.Lost how), context) = refl
resumed-seen left session (Err error, context) = refl

going-seen : (session : Session) → program_seen (going_on (session_seen session)) ≡ program_seen (going_on session)
going-seen session = by session.left where
  by : (left : Option Left) → program_seen (going_on (session_seen (record session { left = left }))) ≡ program_seen (going_on (record session { left = left }))
  by None = refl
  by (Some left) =
      let before : Session = record session { left = None } in
      program-then (resuming session.context) (resumed (left_seen session.state left) before) (resumed left before) (resumed-seen left before)

pub sessions-go-on-alike : SessionsGoOnAlike
sessions-go-on-alike first second same =
    sym (going-seen first) ∙ ap (λ (session : Session). program_seen (going_on session)) same ∙ going-seen second
