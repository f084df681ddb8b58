-- A statement waits exactly where its session has a wait in the space.
use Rattle.std.proofs.Common.{◌≡◌, ℕ, zero, suc, Bool, true, false, List, [], ◌∷◌, Option, Some, None, Result, Ok, Err, refl, subst, sym, ◌∙◌}
use Rattle.mdl_key.specs.Keys.{KeyName}
use Rattle.std.specs.Prelude.{if◌then◌else◌, is_some, ◌==◌}
use Rattle.mdl_defs.specs.declared.versioned_definition.VersionedDefinition.{VersionedDefinition}
use Rattle.mdl_key.specs.declared.mode.Mode.{Mode}
use Rattle.mdl_calls.specs.declared.answers.Held.{Held}
use Rattle.mdl_calls.specs.declared.space_error.SpaceError.{SpaceError}
use Rattle.mdl_calls.specs.Words.{Answer, At_place, Changed, Done, Granted, Has_wait, Reads, Refused, Upgraded, Victim_is, Waits, Would_wait, Begin_wait, Downgrade, Release, Search, Upgrade_now, Program, Give, Ask, ◌>>=◌, SearchEnd, Over, Cut_off, Failed, after_search, seeking, most_searches, Tables, Key_is}
use Rattle.mdl_context.specs.declared.asking.AskResult.{AskResult}
use Rattle.mdl_context.specs.declared.asking.AskResult.TheVariants as got
use Rattle.mdl_context.specs.declared.context_error.ContextError.{ContextError}
use Rattle.mdl_context.specs.declared.context_error.ContextError.TheVariants.{Waiting}
use Rattle.mdl_context.specs.declared.kept.Kept.{Kept}
use Rattle.mdl_context.specs.declared.request.Acquire.{Acquire}
use Rattle.mdl_context.specs.declared.request.Acquire.TheVariants as acquire
use Rattle.mdl_context.specs.declared.request.Mark.{Mark}
use Rattle.mdl_context.specs.declared.request.Tried.{Tried}
use Rattle.mdl_context.specs.declared.request.Tried.TheVariants as try_as
use Rattle.mdl_context.specs.Contexts.{ContextView, current_mark, last_ticket, place_known, ticket_kept, without_tickets}
use Rattle.mdl_context.specs.Gains as gains
use Rattle.mdl_context.specs.Gains.{refusal_answered}
use Rattle.mdl_context.specs.Holdings.{earliest, without_number}
use Rattle.mdl_context.specs.Releases as releases
use Rattle.mdl_context.specs.Requests as requests
use Rattle.mdl_context.specs.Requests.{Outcome}
use Rattle.mdl_context.specs.Tidying.{tidied, tidying, unneeded, unpinning_all}
use Rattle.mdl_context.specs.Upgrades as upgrades
use Rattle.mdl_context.specs.Wishes.{Wish}
use Rattle.mdl_rows.specs.declared.ending.Ending.{Ending}
use Rattle.mdl_rows.specs.declared.ending.Ending.TheVariants.{Answers, Misses, Falls, Starves}
use Rattle.mdl_rows.specs.declared.reply.Reply.{Reply}
use Rattle.mdl_rows.specs.declared.reply.Reply.TheVariants as reply
use Rattle.mdl_rows.specs.Endings.{Pause, closing, ending_of_error, ending_of_refusal, gone_at, letting_go, pause_after, state_after, without_half}
use Rattle.mdl_rows.specs.MemoryLaws.{session_of_pause}
use Rattle.mdl_rows.specs.Playing as playing
use Rattle.mdl_rows.specs.Playing.{play, with_context}
use Rattle.mdl_rows.specs.Rows.{Row}
use Rattle.mdl_rows.specs.Rows as row
use Rattle.mdl_rows.specs.Sessions.{Session}
use Rattle.mdl_rows.specs.States.{State, half_lock, without_read_lock}
use Rattle.mdl_script_laws.proofs.TurnTracks.{IsAnswer, Tracks, tracks-then, wait_after}

-- a statement is left waiting exactly where the session has a wait, and then its context has it too
pub record IsTied (session : Session) (waits : Bool) : Type 0 where
  pub left : is_some session.left ≡ waits
  pub wait : waits ≡ true → is_some session.context.wait ≡ true

abbrev pub PausesTied : Pause → Bool → Type 0
PausesTied pause waits = IsTied (session_of_pause pause) waits

-- nothing that a session does here changes whether it has a wait
abbrev pub Stays : {A : Type 0} → Bool → A → Bool → Type 0
Stays before x after = after ≡ before

-- ---- ends

stays-releasing : (who : ℕ) (gone : List Kept) (waits : Bool) → Tracks (Stays {A = Unit {0}} waits) (releases.releasing_all who gone) waits
stays-releasing who [] waits = refl
stays-releasing who (ticket ∷ tickets) waits = λ answer is. stays-releasing who tickets waits

pub stays-unpinning : (who : ℕ) (places : List ℕ) (waits : Bool) → Tracks (Stays {A = Unit {0}} waits) (unpinning_all who places) waits
stays-unpinning who [] waits = refl
stays-unpinning who (place ∷ places) waits = λ answer is. stays-unpinning who places waits

stays-tidying : (reply : Result (Unit {0}) ContextError) (context : ContextView) (waits : Bool)
    → Tracks (Stays {A = Outcome (Unit {0})} waits) (tidying (reply, context)) waits
stays-tidying reply context waits =
    tracks-then {A = Unit {0}} {B = Outcome (Unit {0})} (Stays waits) (Stays waits) (unpinning_all context.who (unneeded context))
    (λ _. Give (reply, tidied context)) waits (stays-unpinning context.who (unneeded context) waits) (λ x after same. same)

stays-giving_up : (gone : List Kept) (context : ContextView) (waits : Bool)
    → Tracks (Stays {A = Outcome (Unit {0})} waits) (releases.releasing_tickets gone context) waits
stays-giving_up gone context waits =
    tracks-then {A = Unit {0}} {B = Outcome (Unit {0})} (Stays waits) (Stays waits) (releases.releasing_all context.who gone)
    (λ _. tidying (Ok tt, left)) waits (stays-releasing context.who gone waits)
    (λ x after same. subst (λ w. Tracks (Stays {A = Outcome (Unit {0})} waits) (tidying (Ok tt, left)) w) (sym same) (stays-tidying (Ok tt) left waits))
  where
    left : ContextView
    left = record context { kept = without_tickets gone context.kept }

stays-released : (id : ℕ) (context : ContextView) (waits : Bool) → Tracks (Stays {A = Outcome (Unit {0})} waits) (releases.releasing id context) waits
stays-released id context waits = by (releases.release_fault id context) where
  left : ContextView
  left = record context { kept = without_number id context.kept }

  by : (fault : Option ContextError) → Tracks (Stays {A = Outcome (Unit {0})} waits)
      (releases.unless fault context (Ask (Release context.who id) (λ _. tidying (Ok tt, left)))) waits
  by (Some fault) = refl
  by None = λ answer is. stays-tidying (Ok tt) left waits

tied-ended : (ending : Ending) (context : ContextView) (state : State) (waits : Bool) → waits ≡ false
    → PausesTied (pause_after ending (record { context = context; state = state; left = None })) waits
tied-ended (Answers reply) context state waits none = record { left = sym none; wait = λ some. cc }
tied-ended (Misses number) context state waits none = record { left = sym none; wait = λ some. cc }
tied-ended Falls context state waits none = record { left = sym none; wait = λ some. cc }
tied-ended Starves context state waits none = record { left = sym none; wait = λ some. cc }

tied-letting_go : (ending : Ending) (mark : Mark) (session : Session) → Tracks PausesTied (letting_go ending mark session) false
tied-letting_go ending mark session =
    let gone = gone_at ending session.state.is_open mark session.context.kept in
    tracks-then {A = Outcome (Unit {0})} {B = Pause} (Stays false) PausesTied (releases.releasing_tickets gone session.context)
    (λ outcome. Give (pause_after ending (record { context = outcome.1; state = state_after ending session.state; left = None }))) false
    (stays-giving_up gone session.context false) (λ outcome waits none. tied-ended ending outcome.1 (state_after ending session.state) waits none)

pub tied-closing : (ending : Ending) (mark : Mark) (session : Session) → Tracks PausesTied (closing ending mark session) false
tied-closing ending mark session = by (half_lock (state_after ending session.state)) where
  by : (half : Option ℕ) → Tracks PausesTied (without_half half ending mark (record session { left = None })) false
  by None = tied-letting_go ending mark (record session { left = None })
  by (Some global) =
      let after : Outcome (Unit {0}) → Session = λ outcome. record { context = outcome.1; state = without_read_lock session.state; left = None } in
      tracks-then {A = Outcome (Unit {0})} {B = Pause} (Stays false) PausesTied (releases.releasing global session.context)
      (λ outcome. letting_go ending mark (after outcome)) false (stays-released global session.context false)
      (λ outcome waits none. subst (λ w. Tracks PausesTied (letting_go ending mark (after outcome)) w) (sym none) (tied-letting_go ending mark (after outcome)))

-- ---- locks

-- searches go on while there is a wait, and none is refused
abbrev IsSought : SearchEnd → Bool → Type 0
IsSought (Failed refusal) waits = ⊥
IsSought end waits = waits ≡ true

sought-after : (who : ℕ) (more : Program SearchEnd) (answer : Answer) → IsAnswer (Search who) answer → Tracks IsSought more true
    → Tracks IsSought (after_search who more answer) true
sought-after who more (Victim_is victim) is rest =
    elim (victim == who) as (λ same. Tracks IsSought (if same then Give Over else more) true) [ true ↦ refl | false ↦ rest ]
sought-after who more (Refused refusal) is rest = absurd is
sought-after who more _ is rest = refl

sought-seeking : (n who : ℕ) → Tracks IsSought (seeking n who) true
unfolding seeking
sought-seeking zero who = refl
sought-seeking (suc n) who = λ answer is. sought-after who (seeking n who) answer is (sought-seeking n who)

-- a lock was asked for: there is a wait just where the session has to wait
abbrev IsAskedTied : Outcome Acquire → Bool → Type 0
IsAskedTied (Ok (acquire.MustWait number), context) waits = (waits ≡ true) × (is_some context.wait ≡ true)
IsAskedTied (Ok (acquire.Acquired id), context) waits = waits ≡ false
IsAskedTied (Err error, context) waits = waits ≡ false

-- the same by what this comes to
abbrev ComesTied : {A : Type 0} → (A → Outcome Acquire) → A → Bool → Type 0
ComesTied come end waits = IsAskedTied (come end) waits

tied-sought : (place : ℕ) (wish : Wish) (context : ContextView) (number : ℕ) (end : SearchEnd) (waits : Bool) → IsSought end waits
    → Tracks (ComesTied (requests.outcome_got place wish context)) (gains.wish_sought context.who number end) waits
tied-sought place wish context number Over waits is = (is, refl)
tied-sought place wish context number Cut_off waits is = (is, refl)
tied-sought place wish context number (Failed refusal) waits is = absurd is

tied-wished : (place : ℕ) (wish : Wish) (context : ContextView) (answer : Answer)
    → Tracks (ComesTied (requests.outcome_got place wish context)) (gains.wish_answered context.who answer)
    (wait_after (Begin_wait context.who place wish.mode) answer false)
tied-wished place wish context (Granted id) = refl
tied-wished place wish context (Waits number) =
    tracks-then {A = SearchEnd} IsSought (ComesTied (requests.outcome_got place wish context)) (seeking most_searches context.who)
    (gains.wish_sought context.who number) true
    (sought-seeking most_searches context.who) (tied-sought place wish context number)
tied-wished place wish context _ = refl

tied-tried : (place : ℕ) (wish : Wish) (context : ContextView) (answer : Answer)
    → Tracks (ComesTied (requests.outcome_got place wish context)) (gains.try_answered context.who place wish.mode answer) false
tied-tried place wish context (Granted id) = refl
tied-tried place wish context Would_wait = λ answer is. tied-wished place wish context answer
tied-tried place wish context _ = refl

tied-copied : (place : ℕ) (wish : Wish) (context : ContextView) (answer : Answer)
    → Tracks (ComesTied (requests.outcome_got place wish context)) (gains.copy_answered answer) false
tied-copied place wish context (Granted id) = refl
tied-copied place wish context _ = refl

tied-gaining : (ticket : Option Held) (place : ℕ) (wish : Wish) (context : ContextView)
    → Tracks (ComesTied (requests.outcome_got place wish context)) (gains.gaining_from ticket context.who place wish.mode) false
tied-gaining (Some ticket) place wish context = λ answer is. tied-copied place wish context answer
tied-gaining None place wish context = λ answer is. tied-tried place wish context answer

tied-reusing : (ticket : Option Held) (place : ℕ) (wish : Wish) (context : ContextView) → Tracks IsAskedTied (requests.reusing ticket place wish context) false
tied-reusing (Some ticket) place wish context = refl
tied-reusing None place wish context =
    let serving = earliest (requests.suffices place wish) context.kept in
    tracks-then {B = Outcome Acquire} (ComesTied (requests.outcome_got place wish context)) IsAskedTied (gains.gaining_from serving context.who place wish.mode)
    (λ end. Give (requests.outcome_got place wish context end)) false (tied-gaining serving place wish context) (λ end waits is. is)

-- where a request got nothing there is no wait, and its place is let go
tied-let_go : (place : ℕ) (context : ContextView) (outcome : Outcome Acquire) (waits : Bool) → IsAskedTied outcome waits
    → Tracks IsAskedTied (requests.letting_go requests.got_lock place context outcome) waits
tied-let_go place context (Ok (acquire.Acquired id), after) waits tied = tied
tied-let_go place context (Ok (acquire.MustWait number), after) waits tied = tied
tied-let_go place context (Err error, after) waits none = λ answer is. none

tied-placed : (wish : Wish) (context : ContextView) (answer : Answer) → Tracks IsAskedTied (requests.place_answered wish context answer) false
tied-placed wish context (At_place place) =
    let after = requests.remembering wish.key place context in
    tracks-then {A = Outcome Acquire} {B = Outcome Acquire} IsAskedTied IsAskedTied (requests.acquiring_at place wish after)
    (requests.letting_go requests.got_lock place context) false
    (tied-reusing (earliest (requests.is_reusable place wish) after.kept) place wish after) (tied-let_go place context)
tied-placed wish context _ = refl

tied-finding : (place : Option ℕ) (wish : Wish) (context : ContextView) → Tracks IsAskedTied (requests.finding place wish context) false
tied-finding (Some place) wish context = tied-reusing (earliest (requests.is_reusable place wish) context.kept) place wish context
tied-finding None wish context = λ answer is. tied-placed wish context answer

tied-acquiring : (wish : Wish) (context : ContextView) → Tracks IsAskedTied (requests.acquiring wish context) false
tied-acquiring wish context =
    elim (is_some context.wait) as (λ waits. Tracks IsAskedTied (if waits then Give (Err Waiting, context) else requests.finding
    (place_known wish.key context.known) wish context) false) [
      | true ↦ refl
      | false ↦ tied-finding (place_known wish.key context.known) wish context
    ]

-- ---- wishes without a wait

stays-tried : (answer : Answer) (waits : Bool) → Tracks (Stays {A = Result Tried SpaceError} waits) (gains.tried_answered answer) waits
stays-tried (Granted id) waits = refl
stays-tried Would_wait waits = refl
stays-tried _ waits = refl

stays-trying_from : (ticket : Option Held) (who place : ℕ) (mode : Mode) (waits : Bool)
    → Tracks (Stays {A = Result Tried SpaceError} waits) (gains.trying_from ticket who place mode) waits
stays-trying_from (Some ticket) who place mode waits = λ answer is. stays-tried answer waits
stays-trying_from None who place mode waits = λ answer is. stays-tried answer waits

stays-trying_again : (ticket : Option Held) (place : ℕ) (wish : Wish) (context : ContextView) (waits : Bool)
    → Tracks (Stays {A = Outcome Tried} waits) (requests.trying_again ticket place wish context) waits
stays-trying_again (Some ticket) place wish context waits = refl
stays-trying_again None place wish context waits =
    let serving = earliest (requests.suffices place wish) context.kept in
    tracks-then {A = Result Tried SpaceError} {B = Outcome Tried} (Stays waits) (Stays waits) (gains.trying_from serving context.who place wish.mode)
    (λ end. Give (requests.outcome_tried place wish context end)) waits (stays-trying_from serving context.who place wish.mode waits)
    (λ end after same. same)

stays-let_go : (place : ℕ) (context : ContextView) (outcome : Outcome Tried) (waits : Bool)
    → Tracks (Stays {A = Outcome Tried} waits) (requests.letting_go requests.got_at_once place context outcome) waits
stays-let_go place context (Ok (try_as.Acquired id), after) waits = refl
stays-let_go place context (Ok try_as.WouldWait, after) waits = λ answer is. refl
stays-let_go place context (Err error, after) waits = λ answer is. refl

stays-trying_placed : (wish : Wish) (context : ContextView) (answer : Answer) (waits : Bool)
    → Tracks (Stays {A = Outcome Tried} waits) (requests.trying_placed wish context answer) waits
stays-trying_placed wish context (At_place place) waits =
    let after = requests.remembering wish.key place context in
    let ends : Outcome Tried → Program (Outcome Tried) = requests.letting_go requests.got_at_once place context in
    tracks-then {A = Outcome Tried} {B = Outcome Tried} (Stays waits) (Stays waits) (requests.trying_at place wish after) ends waits
    (stays-trying_again (earliest (requests.is_reusable place wish) after.kept) place wish after waits)
    (λ outcome then_ same. subst (λ w. Tracks (Stays {A = Outcome Tried} waits) (ends outcome) w) (sym same) (stays-let_go place context outcome waits))
stays-trying_placed wish context _ waits = refl

stays-trying_found : (place : Option ℕ) (wish : Wish) (context : ContextView) (waits : Bool)
    → Tracks (Stays {A = Outcome Tried} waits) (requests.trying_found place wish context) waits
stays-trying_found (Some place) wish context waits =
    stays-trying_again (earliest (requests.is_reusable place wish) context.kept) place wish context waits
stays-trying_found None wish context waits = λ answer is. stays-trying_placed wish context answer waits

stays-trying : (wish : Wish) (context : ContextView) (waits : Bool) → Tracks (Stays {A = Outcome Tried} waits) (requests.trying wish context) waits
stays-trying wish context waits =
    elim (is_some context.wait) as (λ has. Tracks (Stays {A = Outcome Tried} waits) (if has then Give (Err Waiting, context) else requests.trying_found
    (place_known wish.key context.known) wish context) waits) [
      | true ↦ refl
      | false ↦ stays-trying_found (place_known wish.key context.known) wish context waits
    ]

-- ---- other modes

-- what a space was asked for is had or refused, or there is a wait
abbrev IsGotTied : Result AskResult SpaceError → Bool → Type 0
IsGotTied (Ok (got.Waits number searched)) waits = waits ≡ true
IsGotTied _ waits = waits ≡ false

got-sought : (who number : ℕ) (end : SearchEnd) (waits : Bool) → IsSought end waits → Tracks IsGotTied (gains.wish_sought who number end) waits
got-sought who number Over waits is = is
got-sought who number Cut_off waits is = is
got-sought who number (Failed refusal) waits is = absurd is

got-wished : (who place : ℕ) (mode : Mode) (answer : Answer)
    → Tracks IsGotTied (gains.wish_answered who answer) (wait_after (Begin_wait who place mode) answer false)
got-wished who place mode (Granted id) = refl
got-wished who place mode (Waits number) =
    tracks-then {A = SearchEnd} IsSought IsGotTied (seeking most_searches who) (gains.wish_sought who number) true
    (sought-seeking most_searches who) (got-sought who number)
got-wished who place mode _ = refl

stays-merged : (who new : ℕ) (answer : Answer) (waits : Bool) → Tracks (Stays {A = Result (Unit {0}) SpaceError} waits) (upgrades.merge_answered who new answer) waits
stays-merged who new Done waits = refl
stays-merged who new answer waits = λ released is. refl

tied-merged : (id : ℕ) (mode : Mode) (context : ContextView) (end : Result (Unit {0}) SpaceError) (waits : Bool) → waits ≡ false
    → IsAskedTied (upgrades.merged (acquire.Acquired id) id mode context end) waits
tied-merged id mode context (Ok done) waits none = none
tied-merged id mode context (Err refusal) waits none = none

tied-second : (ticket : Kept) (mode : Mode) (context : ContextView) (end : Result AskResult SpaceError) (waits : Bool) → IsGotTied end waits
    → Tracks IsAskedTied (upgrades.second_got ticket mode context end) waits
tied-second ticket mode context (Ok (got.Granted new)) waits none =
    tracks-then {A = Result (Unit {0}) SpaceError} {B = Outcome Acquire} (Stays waits) IsAskedTied (upgrades.merging_new context.who ticket.id new)
    (λ end. Give (upgrades.merged (acquire.Acquired ticket.id) ticket.id mode context end)) waits
    (λ answer is. stays-merged context.who new answer waits) (λ end after same. tied-merged ticket.id mode context end after (same ∙ none))
tied-second ticket mode context (Ok (got.Waits number searched)) waits is = (is, refl)
tied-second ticket mode context (Err refusal) waits none = none

tied-upgraded : (ticket : Kept) (mode : Mode) (context : ContextView) (answer : Answer)
    → Tracks IsAskedTied (upgrades.upgrade_answered ticket mode context answer) false
tied-upgraded ticket mode context Upgraded = refl
tied-upgraded ticket mode context Would_wait =
    tracks-then {A = Result AskResult SpaceError} {B = Outcome Acquire} IsGotTied IsAskedTied (gains.waiting_at context.who ticket.place mode)
    (upgrades.second_got ticket mode context) false (λ answer is. got-wished context.who ticket.place mode answer) (tied-second ticket mode context)
tied-upgraded ticket mode context _ = refl

tied-upgrading : (id : ℕ) (mode : Mode) (context : ContextView) → Tracks IsAskedTied (upgrades.upgrading id mode context) false
tied-upgrading id mode context = by (ticket_kept id context.kept) where
  unless_waiting : (ticket : Kept) (fault : Option ContextError) → Tracks IsAskedTied
      (releases.unless fault context (Ask (Upgrade_now context.who ticket.id mode) (upgrades.upgrade_answered ticket mode context))) false
  unless_waiting ticket (Some fault) = refl
  unless_waiting ticket None = λ answer is. tied-upgraded ticket mode context answer

  by : (ticket : Option Kept) → Tracks IsAskedTied (upgrades.upgrading_ticket ticket mode context) false
  by None = refl
  by (Some ticket) = unless_waiting ticket (releases.waiting_fault context)

stays-downgraded : (id : ℕ) (mode : Mode) (context : ContextView) (waits : Bool)
    → Tracks (Stays {A = Outcome (Unit {0})} waits) (upgrades.downgrading id mode context) waits
stays-downgraded id mode context waits = by (releases.release_fault id context) where
  after : (answer : Answer) → Tracks (Stays {A = Outcome (Unit {0})} waits) (upgrades.downgrade_answered id mode context answer) waits
  after Done = refl
  after _ = refl

  by : (fault : Option ContextError) → Tracks (Stays {A = Outcome (Unit {0})} waits)
      (releases.unless fault context (Ask (Downgrade context.who id mode) (upgrades.downgrade_answered id mode context))) waits
  by (Some fault) = refl
  by None = λ answer is. after answer

-- ---- all that may be asked for

-- a wait that isn't there
tied-at : (program : Program Pause) (waits : Bool) → waits ≡ false → Tracks PausesTied program false → Tracks PausesTied program waits
tied-at program waits none tied = subst (λ w. Tracks PausesTied program w) (sym none) tied

tied-asked : (wish : Wish) (rest : ℕ → Row Reply) (mark : Mark) (session : Session) (more : ℕ → Session → Program Pause)
    → ((id : ℕ) (after : Session) → Tracks PausesTied (more id after) false) → (outcome : Outcome Acquire) (waits : Bool) → IsAskedTied outcome waits
    → Tracks PausesTied (playing.acquired wish rest mark session more outcome) waits
tied-asked wish rest mark session more made (Ok (acquire.Acquired id), context) waits is =
    tied-at (more id (with_context session context)) waits is (made id (with_context session context))
tied-asked wish rest mark session more made (Ok (acquire.MustWait number), context) waits is = record { left = sym is.0; wait = λ _. is.1 }
tied-asked wish rest mark session more made (Err error, context) waits is =
    tied-at (closing (ending_of_error error) mark (with_context session context)) waits is
    (tied-closing (ending_of_error error) mark (with_context session context))

tied-attempted : (mark : Mark) (session : Session) (more : Option ℕ → Session → Program Pause)
    → ((got : Option ℕ) (after : Session) → Tracks PausesTied (more got after) false) → (outcome : Outcome Tried) (waits : Bool) → waits ≡ false
    → Tracks PausesTied (playing.tried mark session more outcome) waits
tied-attempted mark session more made (Ok (try_as.Acquired id), context) waits none =
    tied-at (more (Some id) (with_context session context)) waits none (made (Some id) (with_context session context))
tied-attempted mark session more made (Ok try_as.WouldWait, context) waits none =
    tied-at (more None (with_context session context)) waits none (made None (with_context session context))
tied-attempted mark session more made (Err error, context) waits none =
    tied-at (closing (ending_of_error error) mark (with_context session context)) waits none
    (tied-closing (ending_of_error error) mark (with_context session context))

tied-read : (mark : Mark) (session : Session) (more : VersionedDefinition → Program Pause) → ((standing : VersionedDefinition) → Tracks PausesTied (more standing) false)
    → (answer : Answer) → Tracks PausesTied (playing.read_answered mark session more answer) false
tied-read mark session more made (Reads version definition) = made (record { version = version; definition = definition })
tied-read mark session more made answer = tied-closing (ending_of_refusal (refusal_answered answer)) mark session

tied-change : (mark : Mark) (session : Session) (more : Program Pause) → Tracks PausesTied more false
    → (answer : Answer) → Tracks PausesTied (playing.change_answered mark session more answer) false
tied-change mark session more made (Changed version) = made
tied-change mark session more made answer = tied-closing (ending_of_refusal (refusal_answered answer)) mark session

tied-tables : (mark : Mark) (session : Session) (more : List ℕ → Program Pause) → ((tables : List ℕ) → Tracks PausesTied (more tables) false)
    → (answer : Answer) → Tracks PausesTied (playing.tables_answered mark session more answer) false
tied-tables mark session more made (Tables tables) = made tables
tied-tables mark session more made answer = tied-closing (ending_of_refusal (refusal_answered answer)) mark session

tied-key : (mark : Mark) (session : Session) (more : KeyName → Program Pause) → ((key : KeyName) → Tracks PausesTied (more key) false)
    → (answer : Answer) → Tracks PausesTied (playing.key_answered mark session more answer) false
tied-key mark session more made (Key_is key) = made key
tied-key mark session more made answer = tied-closing (ending_of_refusal (refusal_answered answer)) mark session

tied-told : (target : ℕ) (more : Program Pause) → Tracks PausesTied more false → (answer : Answer)
    → Tracks PausesTied (playing.wait_told target answer >>= (λ _. more)) false
tied-told target more made (Has_wait (Some number)) = λ answer is. made
tied-told target more made _ = made

pub tied-play : (asked : Row Reply) (mark : Mark) (session : Session) → Tracks PausesTied (play asked mark session) false
tied-play (row.Give reply) mark session = tied-closing (Answers reply) mark session
tied-play (row.Fail number) mark session = tied-closing (Answers (reply.Error number)) mark session
tied-play (row.Room rest) mark session = tied-play rest mark session
tied-play (row.Look rest) mark session = tied-play (rest session.state) mark session
tied-play (row.Set change rest) mark session = tied-play rest mark (record session { state = change session.state })
tied-play (row.Here rest) mark session = tied-play (rest (current_mark session.context.kept)) mark session
tied-play (row.Acquire wish rest) mark session =
    let more : ℕ → Session → Program Pause = λ id after. play (rest id) mark after in
    tracks-then {A = Outcome Acquire} {B = Pause} IsAskedTied PausesTied (requests.acquiring wish session.context)
    (playing.acquired wish rest mark session more) false
    (tied-acquiring wish session.context) (tied-asked wish rest mark session more (λ id after. tied-play (rest id) mark after))
tied-play (row.Try_acquire wish rest) mark session =
    let more : Option ℕ → Session → Program Pause = λ got after. play (rest got) mark after in
    tracks-then {A = Outcome Tried} {B = Pause} (Stays false) PausesTied (requests.trying wish session.context) (playing.tried mark session more) false
    (stays-trying wish session.context false) (tied-attempted mark session more (λ got after. tied-play (rest got) mark after))
tied-play (row.Last key rest) mark session = tied-play (rest (last_ticket key session.context)) mark session
tied-play (row.Upgrade id key mode rest) mark session =
    let wish = playing.upgrade_wish key mode in
    let more : ℕ → Session → Program Pause = λ id after. play (rest id) mark after in
    tracks-then {A = Outcome Acquire} {B = Pause} IsAskedTied PausesTied (upgrades.upgrading id mode session.context)
    (playing.acquired wish rest mark session more) false
    (tied-upgrading id mode session.context) (tied-asked wish rest mark session more (λ id after. tied-play (rest id) mark after))
tied-play (row.Downgrade id mode rest) mark session =
    let more : Outcome (Unit {0}) → Program Pause = λ outcome. play rest mark (with_context session outcome.1) in
    tracks-then {A = Outcome (Unit {0})} {B = Pause} (Stays false) PausesTied (upgrades.downgrading id mode session.context) more false
    (stays-downgraded id mode session.context false)
    (λ outcome waits none. tied-at (more outcome) waits none (tied-play rest mark (with_context session outcome.1)))
tied-play (row.Give_up which rest) mark session =
    let more : Outcome (Unit {0}) → Program Pause = λ outcome. play rest mark (with_context session outcome.1) in
    tracks-then {A = Outcome (Unit {0})} {B = Pause} (Stays false) PausesTied (releases.releasing_tickets (which session.context.kept) session.context) more false
    (stays-giving_up (which session.context.kept) session.context false)
    (λ outcome waits none. tied-at (more outcome) waits none (tied-play rest mark (with_context session outcome.1)))
tied-play (row.Release id rest) mark session =
    let more : Outcome (Unit {0}) → Program Pause = λ outcome. play rest mark (with_context session outcome.1) in
    tracks-then {A = Outcome (Unit {0})} {B = Pause} (Stays false) PausesTied (releases.releasing id session.context) more false
    (stays-released id session.context false)
    (λ outcome waits none. tied-at (more outcome) waits none (tied-play rest mark (with_context session outcome.1)))
tied-play (row.Keep rest) mark session = tied-play rest mark (playing.all_kept session)
tied-play (row.Read id rest) mark session =
    λ answer is. tied-read mark session (λ standing. play (rest standing) mark session) (λ standing. tied-play (rest standing) mark session) answer
tied-play (row.Redefine id change rest) mark session = λ answer is. tied-change mark session (play rest mark session) (tied-play rest mark session) answer
tied-play (row.Tables_of schema rest) mark session =
    λ answer is. tied-tables mark session (λ tables. play (rest tables) mark session) (λ tables. tied-play (rest tables) mark session) answer
tied-play (row.Key_of place rest) mark session =
    λ answer is. tied-key mark session (λ key. play (rest key) mark session) (λ key. tied-play (rest key) mark session) answer
tied-play (row.Kill target rest) mark session = λ answer is. tied-told target (play rest mark session) (tied-play rest mark session) answer
