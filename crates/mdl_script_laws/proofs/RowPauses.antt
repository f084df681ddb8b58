-- What is so of each pause that a statement may come to, where what it asks for keeps a rule.
use Rattle.std.proofs.Common.{ℕ, Bool, Option, Some, None, Ok, Err, List}
use Rattle.mdl_key.specs.declared.mode.Mode.{Mode}
use Rattle.mdl_key.specs.Keys.{KeyName}
use Rattle.mdl_defs.specs.declared.versioned_definition.VersionedDefinition.{VersionedDefinition}
use Rattle.mdl_calls.specs.declared.answers.Settled.{Settled}
use Rattle.mdl_calls.specs.declared.space_error.SpaceError.{SpaceError}
use Rattle.mdl_calls.specs.Words.{Answer, Reads, Changed, Program, Each, Call, Tables, Key_is, Tables_of}
use Rattle.mdl_context.specs.declared.context_error.ContextError.{ContextError}
use Rattle.mdl_context.specs.declared.request.Acquire.{Acquire}
use Rattle.mdl_context.specs.declared.request.Acquire.TheVariants as acquire
use Rattle.mdl_context.specs.declared.request.Mark.{Mark}
use Rattle.mdl_context.specs.declared.request.Resume.{Resume}
use Rattle.mdl_context.specs.declared.request.Resume.TheVariants as resume
use Rattle.mdl_context.specs.declared.request.Tried.{Tried}
use Rattle.mdl_context.specs.declared.request.Tried.TheVariants as try_as
use Rattle.mdl_context.specs.Contexts.{ContextView, current_mark, last_ticket, waits_for_user_lock}
use Rattle.mdl_context.specs.Gains.{refusal_answered}
use Rattle.mdl_context.specs.Releases.{releasing, releasing_tickets}
use Rattle.mdl_context.specs.Requests.{Outcome, acquiring, trying}
use Rattle.mdl_context.specs.Upgrades.{upgrading, downgrading}
use Rattle.mdl_context.specs.Waits.{giving_up_wait}
use Rattle.mdl_context.specs.Wishes.{Wish}
use Rattle.mdl_rows.specs.declared.ending.Ending.{Ending}
use Rattle.mdl_rows.specs.declared.ending.Ending.TheVariants.{Answers, Starves}
use Rattle.mdl_rows.specs.declared.reply.Reply.{Reply}
use Rattle.mdl_rows.specs.declared.reply.Reply.TheVariants as reply
use Rattle.mdl_rows.specs.Endings.{Pause, Begins_to_wait, Waits_on, closing, ending_of_error, ending_of_loss, ending_of_refusal}
use Rattle.mdl_rows.specs.Playing as playing
use Rattle.mdl_rows.specs.Playing.{play, with_context, with_left}
use Rattle.mdl_rows.specs.Rows.{Row}
use Rattle.mdl_rows.specs.Rows as row
use Rattle.mdl_rows.specs.Sessions.{Left, Session}
use Rattle.mdl_rows.specs.States.{State}
use Rattle.mdl_script_laws.proofs.OutcomeLemmas.{EachBy, by-then, each-by}

-- the tables that a session is told of a schema are these
abbrev pub Told : (List ℕ → Type 0) → Call → Answer → Type 0
Told These (Tables_of who schema) (Tables tables) = These tables
Told These (Tables_of who schema) _ = Unit {0}
Told These _ _ = Unit {0}

-- any tables
abbrev pub AnyTables : List ℕ → Type 0
AnyTables tables = Unit {0}

pub any-told : (call : Call) (answer : Answer) → Told AnyTables call answer
any-told (Tables_of who schema) (Tables tables) = tt
any-told (Tables_of who schema) _ = tt
any-told _ _ = tt

-- the rule is kept by whatever follows the first step, where the tables of a schema are these, and where nothing follows, the ending is
-- one of these
abbrev pub Follows : (List ℕ → Type 0) → (Row Reply → Type 0) → (Ending → Type 0) → Row Reply → Type 0
Follows These R E (row.Give reply) = E (Answers reply)
Follows These R E (row.Fail number) = E (Answers (reply.Error number))
Follows These R E (row.Room rest) = R rest
Follows These R E (row.Look rest) = (state : State) → R (rest state)
Follows These R E (row.Set change rest) = R rest
Follows These R E (row.Here rest) = (mark : Mark) → R (rest mark)
Follows These R E (row.Acquire wish rest) = (id : ℕ) → R (rest id)
Follows These R E (row.Try_acquire wish rest) = (got : Option ℕ) → R (rest got)
Follows These R E (row.Last key rest) = (held : Option ℕ) → R (rest held)
Follows These R E (row.Upgrade id key mode rest) = (id : ℕ) → R (rest id)
Follows These R E (row.Downgrade id mode rest) = R rest
Follows These R E (row.Give_up which rest) = R rest
Follows These R E (row.Release id rest) = R rest
Follows These R E (row.Keep rest) = R rest
Follows These R E (row.Read id rest) = (standing : VersionedDefinition) → R (rest standing)
Follows These R E (row.Redefine id change rest) = R rest
Follows These R E (row.Tables_of schema rest) = (tables : List ℕ) → These tables → R (rest tables)
Follows These R E (row.Key_of place rest) = (key : KeyName) → R (rest key)
Follows These R E (row.Kill target rest) = R rest

-- the endings that a statement doesn't ask for are among these
pub record AreEndings (E : Ending → Type 0) : Type 0 where
  pub starves : E Starves
  pub refused : (refusal : SpaceError) → E (ending_of_refusal refusal)
  pub erred : (error : ContextError) → E (ending_of_error error)
  pub lost : (user : Bool) (how : Settled) → E (ending_of_loss user how)

-- any ending
abbrev pub AnyEnding : Ending → Type 0
AnyEnding ending = Unit {0}

pub any-endings : AreEndings AnyEnding
any-endings = record { starves = tt; refused = λ refusal. tt; erred = λ error. tt; lost = λ user how. tt }

-- by a rule, a statement that began at a mark ends so, and begins to wait so
pub record Rules (These : List ℕ → Type 0) (P : Pause → Type 0) (mark : Mark) (E : Ending → Type 0) (R : Row Reply → Type 0) : Type 0 where
  pub endings : AreEndings E
  pub closes : (ending : Ending) (session : Session) → E ending → Each P (closing ending mark session)
  pub follows : (asked : Row Reply) → R asked → Follows These R E asked
  pub waits : (wish : Wish) (rest : ℕ → Row Reply) (session : Session) → R (row.Acquire wish rest)
      → P (Begins_to_wait wish.key wish.mode (with_left session (record { rest = rest; mark = mark })))
  pub raises : (id : ℕ) (key : KeyName) (mode : Mode) (rest : ℕ → Row Reply) (session : Session) → R (row.Upgrade id key mode rest)
      → P (Begins_to_wait key mode (with_left session (record { rest = rest; mark = mark })))

module _ (These : List ℕ → Type 0) (P : Pause → Type 0) (mark : Mark) (E : Ending → Type 0) (R : Row Reply → Type 0) (rules : Rules These P mark E R) where
  -- each pause of a program is so
  abbrev pub So : Program Pause → Type 0
  So program = EachBy (Told These) P program

  so-closing : (ending : Ending) (session : Session) → E ending → So (closing ending mark session)
  so-closing ending session is = each-by (Told These) P (closing ending mark session) (rules.closes ending session is)

  so-untold : (session : Session) (outcome : Outcome Resume) → So (playing.untold mark session outcome)
  so-untold session (Ok (resume.Acquired id), context) =
      by-then {A = Outcome (Unit {0})} {B = Pause} (Told These) P (releasing id context) (λ outcome. closing Starves mark (with_context session outcome.1))
      (λ outcome. so-closing Starves (with_context session outcome.1) rules.endings.starves)
  so-untold session (Ok resume.Waiting, context) = so-closing Starves (with_context session context) rules.endings.starves
  so-untold session (Ok (resume.Lost how), context) = so-closing Starves (with_context session context) rules.endings.starves
  so-untold session (Err error, context) = so-closing Starves (with_context session context) rules.endings.starves

  so-acquired : (wish : Wish) (rest : ℕ → Row Reply) (session : Session) (more : ℕ → Session → Program Pause)
      → ((after : Session) → P (Begins_to_wait wish.key wish.mode (with_left after (record { rest = rest; mark = mark }))))
      → ((id : ℕ) (after : Session) → So (more id after)) → (outcome : Outcome Acquire) → So (playing.acquired wish rest mark session more outcome)
  so-acquired wish rest session more waits made (Ok (acquire.Acquired id), context) = made id (with_context session context)
  so-acquired wish rest session more waits made (Ok (acquire.MustWait number), context) = (
    by-then {A = Outcome Resume} {B = Pause} (Told These) P (giving_up_wait context) (playing.untold mark (with_context session context))
        (so-untold (with_context session context)),
    waits (with_context session context),
  )
  so-acquired wish rest session more waits made (Err error, context) =
      so-closing (ending_of_error error) (with_context session context) (rules.endings.erred error)

  so-tried : (session : Session) (more : Option ℕ → Session → Program Pause) → ((got : Option ℕ) (after : Session) → So (more got after))
      → (outcome : Outcome Tried) → So (playing.tried mark session more outcome)
  so-tried session more made (Ok (try_as.Acquired id), context) = made (Some id) (with_context session context)
  so-tried session more made (Ok try_as.WouldWait, context) = made None (with_context session context)
  so-tried session more made (Err error, context) = so-closing (ending_of_error error) (with_context session context) (rules.endings.erred error)

  so-read : (session : Session) (more : VersionedDefinition → Program Pause) → ((standing : VersionedDefinition) → So (more standing)) → (answer : Answer)
      → So (playing.read_answered mark session more answer)
  so-read session more made (Reads version definition) = made (record { version = version; definition = definition })
  so-read session more made answer = so-closing (ending_of_refusal (refusal_answered answer)) session (rules.endings.refused (refusal_answered answer))

  so-change : (session : Session) (more : Program Pause) → So more → (answer : Answer) → So (playing.change_answered mark session more answer)
  so-change session more made (Changed version) = made
  so-change session more made answer = so-closing (ending_of_refusal (refusal_answered answer)) session (rules.endings.refused (refusal_answered answer))

  so-tables : (who : ℕ) (schema : List ℕ) (session : Session) (more : List ℕ → Program Pause) → ((tables : List ℕ) → These tables → So (more tables))
      → (answer : Answer) → Told These (Tables_of who schema) answer → So (playing.tables_answered mark session more answer)
  so-tables who schema session more made (Tables tables) told = made tables told
  so-tables who schema session more made answer told = so-closing (ending_of_refusal (refusal_answered answer)) session (rules.endings.refused (refusal_answered answer))

  so-key : (session : Session) (more : KeyName → Program Pause) → ((key : KeyName) → So (more key)) → (answer : Answer)
      → So (playing.key_answered mark session more answer)
  so-key session more made (Key_is key) = made key
  so-key session more made answer = so-closing (ending_of_refusal (refusal_answered answer)) session (rules.endings.refused (refusal_answered answer))

  -- all that may be asked for
  pub so-play : (asked : Row Reply) (session : Session) → R asked → So (play asked mark session)
  so-play (row.Give reply) session so = so-closing (Answers reply) session (rules.follows (row.Give reply) so)
  so-play (row.Fail number) session so = so-closing (Answers (reply.Error number)) session (rules.follows (row.Fail number) so)
  so-play (row.Room rest) session so = (so-closing Starves session rules.endings.starves, so-play rest session (rules.follows (row.Room rest) so))
  so-play (row.Look rest) session so = so-play (rest session.state) session (rules.follows (row.Look rest) so session.state)
  so-play (row.Set change rest) session so =
      so-play rest (record session { state = change session.state }) (rules.follows (row.Set change rest) so)
  so-play (row.Here rest) session so =
      let here = current_mark session.context.kept in so-play (rest here) session (rules.follows (row.Here rest) so here)
  so-play (row.Acquire wish rest) session so =
      let more = λ (id : ℕ) (after : Session). play (rest id) mark after in
      by-then {A = Outcome Acquire} {B = Pause} (Told These) P (acquiring wish session.context) (playing.acquired wish rest mark session more)
      (so-acquired wish rest session more (λ after. rules.waits wish rest after so) (λ id after. so-play (rest id) after (rules.follows (row.Acquire wish rest) so id)))
  so-play (row.Try_acquire wish rest) session so =
      let more = λ (got : Option ℕ) (after : Session). play (rest got) mark after in
      by-then {A = Outcome Tried} {B = Pause} (Told These) P (trying wish session.context) (playing.tried mark session more)
      (so-tried session more (λ got after. so-play (rest got) after (rules.follows (row.Try_acquire wish rest) so got)))
  so-play (row.Last key rest) session so =
      let held = last_ticket key session.context in so-play (rest held) session (rules.follows (row.Last key rest) so held)
  so-play (row.Upgrade id key mode rest) session so =
      let wish = playing.upgrade_wish key mode in
      let more = λ (id : ℕ) (after : Session). play (rest id) mark after in
      by-then {A = Outcome Acquire} {B = Pause} (Told These) P (upgrading id mode session.context) (playing.acquired wish rest mark session more)
      (so-acquired wish rest session more (λ after. rules.raises id key mode rest after so)
      (λ new after. so-play (rest new) after (rules.follows (row.Upgrade id key mode rest) so new)))
  so-play (row.Downgrade id mode rest) session so =
      by-then {A = Outcome (Unit {0})} {B = Pause} (Told These) P (downgrading id mode session.context) (λ outcome. play rest mark (with_context session outcome.1))
      (λ outcome. so-play rest (with_context session outcome.1) (rules.follows (row.Downgrade id mode rest) so))
  so-play (row.Give_up which rest) session so =
      by-then {A = Outcome (Unit {0})} {B = Pause} (Told These) P (releasing_tickets (which session.context.kept) session.context)
      (λ outcome. play rest mark (with_context session outcome.1))
      (λ outcome. so-play rest (with_context session outcome.1) (rules.follows (row.Give_up which rest) so))
  so-play (row.Release id rest) session so =
      by-then {A = Outcome (Unit {0})} {B = Pause} (Told These) P (releasing id session.context) (λ outcome. play rest mark (with_context session outcome.1))
      (λ outcome. so-play rest (with_context session outcome.1) (rules.follows (row.Release id rest) so))
  so-play (row.Keep rest) session so = so-play rest (playing.all_kept session) (rules.follows (row.Keep rest) so)
  so-play (row.Read id rest) session so = λ answer told.
      so-read session (λ standing. play (rest standing) mark session)
      (λ standing. so-play (rest standing) session (rules.follows (row.Read id rest) so standing)) answer
  so-play (row.Redefine id change rest) session so = λ answer told.
      so-change session (play rest mark session) (so-play rest session (rules.follows (row.Redefine id change rest) so)) answer
  so-play (row.Tables_of schema rest) session so = λ answer told.
      so-tables session.context.who schema session (λ tables. play (rest tables) mark session)
      (λ tables these. so-play (rest tables) session (rules.follows (row.Tables_of schema rest) so tables these)) answer told
  so-play (row.Key_of place rest) session so = λ answer told.
      so-key session (λ key. play (rest key) mark session)
      (λ key. so-play (rest key) session (rules.follows (row.Key_of place rest) so key)) answer
  so-play (row.Kill target rest) session so =
      by-then {A = Unit {0}} {B = Pause} (Told These) P (playing.killing target) (λ _. play rest mark session)
      (λ _. so-play rest session (rules.follows (row.Kill target rest) so))

-- what is left of a statement, where its waiting on is so too
pub so-resumed : (These : List ℕ → Type 0) (P : Pause → Type 0) (E : Ending → Type 0) (R : Row Reply → Type 0) (left : Left) (session : Session) → Rules These P left.mark E R
    → ((context : ContextView) → P (Waits_on (with_left (with_context session context) left))) → ((id : ℕ) → R (left.rest id))
    → (outcome : Outcome Resume) → EachBy (Told These) P (playing.resumed left session outcome)
so-resumed These P E R left session rules on so (Ok resume.Waiting, context) = on context
so-resumed These P E R left session rules on so (Ok (resume.Acquired id), context) =
    so-play These P left.mark E R rules (left.rest id) (with_context session context) (so id)
so-resumed These P E R left session rules on so (Ok (resume.Lost how), context) =
    let user = waits_for_user_lock session.context in
    each-by (Told These) P (closing (ending_of_loss user how) left.mark (with_context session context))
    (rules.closes (ending_of_loss user how) (with_context session context) (rules.endings.lost user how))
so-resumed These P E R left session rules on so (Err error, context) =
    each-by (Told These) P (closing (ending_of_error error) left.mark (with_context session context)) (rules.closes (ending_of_error error) (with_context session context) (rules.endings.erred error))
