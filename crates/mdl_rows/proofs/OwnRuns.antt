-- What a session has after a run of the programs by which its context asks for locks, gives up a wait, and merges or releases tickets.
use Rattle.std.proofs.Common.{◌≡◌, ◌⊎◌, ℕ, zero, suc, Bool, true, false, List, [], ◌∷◌, Option, Some, None, Result, Ok, Err, inl, inr, refl, sym, ap, ◌∙◌, subst, arith}
use Rattle.std.specs.Prelude.{◌==◌, filter, find, is_some, not, if◌then◌else◌}
use Rattle.std.specs.Option.{IfSome}
use Rattle.mdl_key.specs.declared.mode.Mode.{Mode}
use Rattle.mdl_key.specs.Keys.{KeyName}
use Rattle.mdl_calls.specs.declared.answers.Held.{Held}
use Rattle.mdl_calls.specs.declared.answers.Settled.{Settled}
use Rattle.mdl_calls.specs.declared.answers.Settled.TheVariants as settled_as
use Rattle.mdl_calls.specs.declared.answers.TimedOut.TheVariants.{ByThisCall, Already}
use Rattle.mdl_calls.specs.declared.lock_space.LockSpace.{Ghosts}
use Rattle.mdl_calls.specs.declared.space_error.SpaceError.{SpaceError}
use Rattle.mdl_calls.specs.declared.space_error.SpaceError.TheVariants.{NotHeld, NoWait}
use Rattle.mdl_calls.specs.MemberLaws.{LawsOf}
use Rattle.mdl_calls.specs.SessionLocks.{SessionLocks, cloning, IsRising, ending, gaining, giving_up, is_number, is_waiting, ticket_held, waiting, winning}
use Rattle.mdl_calls.specs.Words.{Answer, Begin_wait, Call, Clone_ticket, Done, End_wait, Give, Granted, IsEndOf, IsExplained, Knowledge, Lost, Merge, Program, Refused, Release, Runs, Search, Settle_timeout, Timed_out, Try_now, Victim_is, Waits, Would_wait, caller, is_answer_of, own_after, told, SearchEnd, Over, Cut_off, Failed, after_search, most_searches, seeking}
use Rattle.mdl_context.specs.declared.asking.AskResult.{AskResult}
use Rattle.mdl_context.specs.declared.asking.AskResult.TheVariants as got
use Rattle.mdl_context.specs.declared.kept.Kept.{Kept}
use Rattle.mdl_context.specs.declared.request.Tried.{Tried}
use Rattle.mdl_context.specs.declared.request.Tried.TheVariants as try_as
use Rattle.mdl_context.specs.Gains as gains
use Rattle.mdl_context.specs.Gains.{own_got, own_tried}
use Rattle.mdl_context.specs.Releases.{releasing_all}
use Rattle.mdl_context.specs.Upgrades as upgrades
use Rattle.mdl_context.specs.Upgrades.{own_merged}
use Rattle.mdl_context.proofs.AttendLemmas.{known-still}
use Rattle.mdl_context.proofs.GainLemmas.{began-and-ended}
use Rattle.mdl_rows.proofs.RunParts.{parted}
use Rattle.mdl_context.proofs.PinLemmas.{unpins}
use Rattle.mdl_context.proofs.SeekLemmas.{won-given_up}

-- ---- answers

-- an answer to the timeout of a wait says how that is settled
settled-by : (knows : Knowledge) (who : ℕ) (answer : Answer) (own : SessionLocks) → is_answer_of (Settle_timeout who) answer ≡ true
    → IsExplained knows (Settle_timeout who) answer own → is_waiting own ≡ true → (how : Settled) × (told (Settle_timeout who) answer ≡ Some how)
settled-by knows who (Timed_out ByThisCall) own fits explained waits = (settled_as.Timeout, refl)
settled-by knows who (Timed_out (Already how)) own fits explained waits = (how, refl)
settled-by knows who (Refused NoWait) own fits explained waits = cc
settled-by knows who (Refused _) own fits explained waits = absurd explained
settled-by knows who _ own fits explained waits = cc

-- a settled wait ends with its ticket or without
ended-by : (how : Settled) (answer : Answer) → IsEndOf how answer → ((id : ℕ) × (answer ≡ Granted id)) ⊎ ((lost : Settled) × (answer ≡ Lost lost))
ended-by settled_as.Granted answer end = inl end
ended-by settled_as.Victim answer end = inr (settled_as.Victim, end)
ended-by settled_as.Timeout answer end = inr (settled_as.Timeout, end)
ended-by settled_as.Killed answer end = inr (settled_as.Killed, end)

-- without a ticket that isn't held, all others are left
none-gone : (id : ℕ) (held : List Held) → is_some (find (is_number id) held) ≡ false → filter (λ ticket. not (is_number id ticket)) held ≡ held
none-gone id [] none = refl
none-gone id (t ∷ ts) none = grind (arith, none, none-gone id ts)

-- so after a release the ticket is given up, whatever was answered
released-so : (knows : Knowledge) (who id : ℕ) (answer : Answer) (own : SessionLocks) → is_answer_of (Release who id) answer ≡ true
    → IsExplained knows (Release who id) answer own → own_after (Release who id) answer own ≡ giving_up id own
released-so knows who id Done own fits explained = refl
released-so knows who id (Refused NotHeld) own fits explained =
    ap (λ (held : List Held). let o : SessionLocks = record own { held = held } in o) (sym (none-gone id own.held explained))
released-so knows who id (Refused _) own fits explained = absurd explained
released-so knows who id _ own fits explained = cc

-- what is left once these tickets are released, one after the other
abbrev pub released : List Kept → SessionLocks → SessionLocks
released [] own = own
released (ticket ∷ tickets) own = released tickets (giving_up ticket.id own)

-- ---- over a space

module _ {S : Type 0} (members : Ghosts S) (laws : LawsOf members) (who : ℕ) where
  -- the session is spoken for after calls, knows what it knew, and has this
  pub record Has (a b : S) (locks : SessionLocks) : Type 0 where
    pub speaks : members.speaks_for b who
    pub knows : (place : ℕ) (key : KeyName) → members.knows a who place key → members.knows b who place key
    pub is : members.own b who ≡ locks

  pub has-first : (a : S) → members.speaks_for a who → Has a a (members.own a who)
  has-first a speaks = record { speaks = speaks; knows = λ place key knew. knew; is = refl }

  pub has-call : (a mid b : S) (call : Call) (answer : Answer) (locks : SessionLocks) → Has a mid locks → caller call ≡ Some who → unpins call ≡ false
      → members.joins mid call answer b → Has a b (own_after call answer locks)
  has-call a mid b call answer locks has made stays step = record {
    speaks = laws.keeps mid b call answer who has.speaks step;
    knows = λ place key knew. known-still members laws mid b call answer who has.speaks stays step place key (has.knows place key knew);
    is = laws.changes mid b call answer who made step ∙ ap (own_after call answer) has.is;
  }

  -- a ticket is released
  pub has-release : (a mid b : S) (id : ℕ) (answer : Answer) (locks : SessionLocks) → Has a mid locks → members.joins mid (Release who id) answer b
      → Has a b (giving_up id locks)
  has-release a mid b id answer locks has step =
      subst (Has a b)
      (released-so (members.knows mid who) who id answer locks (laws.fits mid b (Release who id) answer step)
      (subst (IsExplained (members.knows mid who) (Release who id) answer) has.is (laws.explains mid b (Release who id) answer who refl step)))
      (has-call a mid b (Release who id) answer locks has refl refl step)

  pub has-releasing_all : (gone : List Kept) (a mid b : S) (locks : SessionLocks) → Has a mid locks → Runs members.joins mid (releasing_all who gone) tt b
      → Has a b (released gone locks)
  has-releasing_all [] a mid b locks has (same, here) = subst (λ s. Has a s locks) here has
  has-releasing_all (ticket ∷ tickets) a mid b locks has (answer, next, step, run) =
      has-releasing_all tickets a next b (giving_up ticket.id locks) (has-release a mid next ticket.id answer locks has step) run

  -- ---- searches

  has-searched : (more : Program SearchEnd) (a mid b : S) (end : SearchEnd) (locks : SessionLocks) (answer : Answer) → Has a mid locks
      → (Runs members.joins mid more end b → Has a b locks) → Runs members.joins mid (after_search who more answer) end b → Has a b locks
  has-searched more a mid b end locks (Victim_is victim) has later run = by (victim == who) run where
    by : (own_wait : Bool) → Runs members.joins mid (if own_wait then Give Over else more) end b → Has a b locks
    by true (same, here) = subst (λ s. Has a s locks) here has
    by false run = later run
  has-searched more a mid b end locks _ has later (same, here) = subst (λ s. Has a s locks) here has

  pub has-seeking : (n : ℕ) (a mid b : S) (end : SearchEnd) (locks : SessionLocks) → Has a mid locks → Runs members.joins mid (seeking n who) end b → Has a b locks
  unfolding seeking
  has-seeking zero a mid b end locks has (same, here) = subst (λ s. Has a s locks) here has
  has-seeking (suc n) a mid b end locks has (answer, next, step, run) =
      let now = has-call a mid next (Search who) answer locks has refl refl step in
      has-searched (seeking n who) a next b end locks answer now (λ more. has-seeking n a next b end locks now more) run

  -- ---- waits

  -- a wait that was settled ends with its ticket or without
  pub ends-so : (a b : S) (how : Settled) (answer : Answer) → members.is_settled a who how → members.joins a (End_wait who) answer b
      → ((id : ℕ) × (answer ≡ Granted id)) ⊎ ((lost : Settled) × (answer ≡ Lost lost))
  ends-so a b how answer settled step = ended-by how answer (laws.agrees a b (End_wait who) answer who how refl settled step)

  -- one that times out is settled
  pub times-out : (a b : S) (answer : Answer) → is_waiting (members.own a who) ≡ true → members.joins a (Settle_timeout who) answer b
      → (how : Settled) × members.is_settled b who how
  times-out a b answer waits step =
      let so = settled-by (members.knows a who) who answer (members.own a who) (laws.fits a b (Settle_timeout who) answer step)
      (laws.explains a b (Settle_timeout who) answer who refl step) waits in
      (so.0, laws.tells a b (Settle_timeout who) answer who so.0 refl so.1 step)

  -- the rest of a wait that is given up
  has-unwanted : (a mid b : S) (locks : SessionLocks) (answer : Answer) → ((id : ℕ) × (answer ≡ Granted id)) ⊎ ((lost : Settled) × (answer ≡ Lost lost))
      → is_waiting locks ≡ true → Has a mid (own_after (End_wait who) answer locks) → Runs members.joins mid (gains.unwanted_end_answered who answer) tt b
      → Has a b (ending locks)
  has-unwanted a mid b locks answer (inl granted) waits = subst Ends (sym granted.1) (by granted.0) where
    Ends : Answer → Type 0
    Ends x = Has a mid (own_after (End_wait who) x locks) → Runs members.joins mid (gains.unwanted_end_answered who x) tt b → Has a b (ending locks)

    by : (id : ℕ) → Ends (Granted id)
    by id has (answered, next, step, (same, here)) =
        subst (Has a b) (won-given_up id locks waits (subst IsRising has.is (laws.rising mid who has.speaks)))
        (subst (λ s. Has a s (giving_up id (winning id locks.wait locks))) here (has-release a mid next id answered (winning id locks.wait locks) has step))
  has-unwanted a mid b locks answer (inr lost) waits = subst Ends (sym lost.1) by where
    Ends : Answer → Type 0
    Ends x = Has a mid (own_after (End_wait who) x locks) → Runs members.joins mid (gains.unwanted_end_answered who x) tt b → Has a b (ending locks)

    by : Ends (Lost lost.0)
    by has (same, here) = subst (λ s. Has a s (ending locks)) here has

  -- a wait is given up
  pub has-abandoning : (a mid b : S) (locks : SessionLocks) → Has a mid locks → is_waiting locks ≡ true → Runs members.joins mid (gains.abandoning who) tt b → Has a b (ending locks)
  has-abandoning a mid b locks has waits (answer, next, step, (answered, last, ended, run)) =
      let settled = times-out mid next answer (ap is_waiting has.is ∙ waits) step in
      has-unwanted a last b locks answered (ends-so next last settled.0 answered settled.1 ended) waits
      (has-call a next last (End_wait who) answered locks (has-call a mid next (Settle_timeout who) answer locks has refl refl step) refl refl ended) run

  -- ---- requests for locks

  module _ (place : ℕ) (mode : Mode) where
    -- what the session has, by what a request got
    abbrev Got : S → S → SessionLocks → Result AskResult SpaceError → Type 0
    Got a b locks result = Has a b (own_got place mode result locks)

    -- a request ended so
    got-given : (a mid b : S) (locks : SessionLocks) (given result : Result AskResult SpaceError) → Got a mid locks given → given ≡ result → mid ≡ b → Got a b locks result
    got-given a mid b locks given result has same here = subst (λ s. Got a s locks result) here (subst (Got a mid locks) same has)

    -- the searches after the start of a wait
    got-sought : (number : ℕ) (a mid b : S) (locks : SessionLocks) (end : SearchEnd) (result : Result AskResult SpaceError) → locks.wait ≡ None
        → Has a mid (waiting number place mode locks) → Runs members.joins mid (gains.wish_sought who number end) result b → Got a b locks result
    got-sought number a mid b locks Over result idle has (same, here) = got-given a mid b locks (Ok (got.Waits number true)) result has same here
    got-sought number a mid b locks Cut_off result idle has (same, here) = got-given a mid b locks (Ok (got.Waits number false)) result has same here
    got-sought number a mid b locks (Failed refusal) result idle has run =
        let parts = parted {A = Unit {0}} {B = Result AskResult SpaceError} members.joins (gains.abandoning who) (λ _. Give (Err refusal)) mid b result run in
        got-given a parts.1 b locks (Err refusal) result
        (subst (Has a parts.1) (began-and-ended number place mode locks idle) (has-abandoning a mid parts.1 (waiting number place mode locks) has refl parts.2)) parts.3.0 parts.3.1

    got-begun : (a mid b : S) (locks : SessionLocks) (answer : Answer) (result : Result AskResult SpaceError) → locks.wait ≡ None
        → Has a mid (own_after (Begin_wait who place mode) answer locks) → Runs members.joins mid (gains.wish_answered who answer) result b → Got a b locks result
    got-begun a mid b locks (Granted id) result idle has (same, here) = got-given a mid b locks (Ok (got.Granted id)) result has same here
    got-begun a mid b locks (Waits number) result idle has run =
        let parts = parted {A = SearchEnd} {B = Result AskResult SpaceError} members.joins (seeking most_searches who) (gains.wish_sought who number) mid b result run in
        got-sought number a parts.1 b locks parts.0 result idle (has-seeking most_searches a mid parts.1 parts.0 (waiting number place mode locks) has parts.2) parts.3
    got-begun a mid b locks answer result idle has (same, here) = got-given a mid b locks (Err (gains.refusal_answered answer)) result has same here

    pub got-waiting_at : (a mid b : S) (locks : SessionLocks) (result : Result AskResult SpaceError) → locks.wait ≡ None → Has a mid locks
        → Runs members.joins mid (gains.waiting_at who place mode) result b → Got a b locks result
    got-waiting_at a mid b locks result idle has (answer, next, step, run) =
        got-begun a next b locks answer result idle (has-call a mid next (Begin_wait who place mode) answer locks has refl refl step) run

    got-attempted : (a mid b : S) (locks : SessionLocks) (answer : Answer) (result : Result AskResult SpaceError) → locks.wait ≡ None
        → Has a mid (own_after (Try_now who place mode) answer locks) → Runs members.joins mid (gains.try_answered who place mode answer) result b → Got a b locks result
    got-attempted a mid b locks (Granted id) result idle has (same, here) = got-given a mid b locks (Ok (got.Granted id)) result has same here
    got-attempted a mid b locks Would_wait result idle has run = got-waiting_at a mid b locks result idle has run
    got-attempted a mid b locks answer result idle has (same, here) = got-given a mid b locks (Err (gains.refusal_answered answer)) result has same here

    -- a copy of a held ticket is the same as a ticket of its place
    copied : (a mid : S) (locks : SessionLocks) (held : Held) (id : ℕ) → ticket_held held.id locks ≡ Some held → held.place ≡ place
        → Has a mid (own_after (Clone_ticket who held.id mode) (Granted id) locks) → Has a mid (gaining id place mode locks)
    copied a mid locks held id there at has =
        subst (Has a mid) (ap (λ ticket. cloning id mode ticket locks) there ∙ ap (λ p. gaining id p mode locks) at) has

    got-copied : (a mid b : S) (locks : SessionLocks) (held : Held) (answer : Answer) (result : Result AskResult SpaceError) → ticket_held held.id locks ≡ Some held
        → held.place ≡ place → Has a mid (own_after (Clone_ticket who held.id mode) answer locks) → Runs members.joins mid (gains.copy_answered answer) result b
        → Got a b locks result
    got-copied a mid b locks held (Granted id) result there at has (same, here) =
        got-given a mid b locks (Ok (got.Granted id)) result (copied a mid locks held id there at has) same here
    got-copied a mid b locks held answer result there at has (same, here) = got-given a mid b locks (Err (gains.refusal_answered answer)) result has same here

    -- a ticket that is given is held, at this place
    abbrev pub IsThere : SessionLocks → Option Held → Type 0
    IsThere locks ticket = IfSome ticket (λ held. (ticket_held held.id locks ≡ Some held) × (held.place ≡ place))

    pub got-gaining : (ticket : Option Held) (a mid b : S) (locks : SessionLocks) (result : Result AskResult SpaceError) → locks.wait ≡ None → IsThere locks ticket
        → Has a mid locks → Runs members.joins mid (gains.gaining_from ticket who place mode) result b → Got a b locks result
    got-gaining None a mid b locks result idle there has (answer, next, step, run) =
        got-attempted a next b locks answer result idle (has-call a mid next (Try_now who place mode) answer locks has refl refl step) run
    got-gaining (Some held) a mid b locks result idle there has (answer, next, step, run) =
        got-copied a next b locks held answer result there.0 there.1 (has-call a mid next (Clone_ticket who held.id mode) answer locks has refl refl step) run

    -- ---- without a wait

    abbrev Tries : S → S → SessionLocks → Result Tried SpaceError → Type 0
    Tries a b locks result = Has a b (own_tried place mode result locks)

    tries-given : (a mid b : S) (locks : SessionLocks) (given result : Result Tried SpaceError) → Tries a mid locks given → given ≡ result → mid ≡ b → Tries a b locks result
    tries-given a mid b locks given result has same here = subst (λ s. Tries a s locks result) here (subst (Tries a mid locks) same has)

    tries-attempted : (a mid b : S) (locks : SessionLocks) (answer : Answer) (result : Result Tried SpaceError)
        → Has a mid (own_after (Try_now who place mode) answer locks) → Runs members.joins mid (gains.tried_answered answer) result b → Tries a b locks result
    tries-attempted a mid b locks (Granted id) result has (same, here) = tries-given a mid b locks (Ok (try_as.Acquired id)) result has same here
    tries-attempted a mid b locks Would_wait result has (same, here) = tries-given a mid b locks (Ok try_as.WouldWait) result has same here
    tries-attempted a mid b locks answer result has (same, here) = tries-given a mid b locks (Err (gains.refusal_answered answer)) result has same here

    tries-copied : (a mid b : S) (locks : SessionLocks) (held : Held) (answer : Answer) (result : Result Tried SpaceError) → ticket_held held.id locks ≡ Some held
        → held.place ≡ place → Has a mid (own_after (Clone_ticket who held.id mode) answer locks) → Runs members.joins mid (gains.tried_answered answer) result b
        → Tries a b locks result
    tries-copied a mid b locks held (Granted id) result there at has (same, here) =
        tries-given a mid b locks (Ok (try_as.Acquired id)) result (copied a mid locks held id there at has) same here
    tries-copied a mid b locks held Would_wait result there at has (same, here) = tries-given a mid b locks (Ok try_as.WouldWait) result has same here
    tries-copied a mid b locks held answer result there at has (same, here) = tries-given a mid b locks (Err (gains.refusal_answered answer)) result has same here

    pub tries-gaining : (ticket : Option Held) (a mid b : S) (locks : SessionLocks) (result : Result Tried SpaceError) → IsThere locks ticket
        → Has a mid locks → Runs members.joins mid (gains.trying_from ticket who place mode) result b → Tries a b locks result
    tries-gaining None a mid b locks result there has (answer, next, step, run) =
        tries-attempted a next b locks answer result (has-call a mid next (Try_now who place mode) answer locks has refl refl step) run
    tries-gaining (Some held) a mid b locks result there has (answer, next, step, run) =
        tries-copied a next b locks held answer result there.0 there.1 (has-call a mid next (Clone_ticket who held.id mode) answer locks has refl refl step) run

  -- ---- merges

  has-merge : (id new : ℕ) (a mid b : S) (locks : SessionLocks) (answer : Answer) (result : Result (Unit {0}) SpaceError)
      → Has a mid (own_after (Merge who id new) answer locks) → Runs members.joins mid (upgrades.merge_answered who new answer) result b
      → Has a b (own_merged id new result locks)
  has-merge id new a mid b locks Done result has run =
      subst (λ s. Has a s (own_merged id new result locks)) run.1 (subst (λ r. Has a mid (own_merged id new r locks)) run.0 has)
  has-merge id new a mid b locks answer result has run =
      subst (λ s. Has a s (own_merged id new result locks)) run.3.1
      (subst (λ r. Has a run.1 (own_merged id new r locks)) run.3.0 (has-release a mid run.1 new run.0 locks has run.2))

  pub has-merging : (id new : ℕ) (a mid b : S) (locks : SessionLocks) (result : Result (Unit {0}) SpaceError) → Has a mid locks
      → Runs members.joins mid (upgrades.merging_new who id new) result b → Has a b (own_merged id new result locks)
  has-merging id new a mid b locks result has (answer, next, step, run) =
      has-merge id new a next b locks answer result (has-call a mid next (Merge who id new) answer locks has refl refl step) run
