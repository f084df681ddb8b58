-- A context whose wait goes on or is given up goes on to attend to its session, and leaves no pin behind. It has no wait then, unless that isn't settled.
use Rattle.std.proofs.Common.{◌≡◌, ◌⊎◌, ℕ, Bool, true, false, Option, Some, None, option_map, Result, Ok, Err, inl, inr, refl, sym, ap, ◌∙◌, subst}
use Rattle.std.specs.Prelude.{MatchOption, is_some, if◌then◌else◌}
use Rattle.std.specs.Option.{IfSome}
use Rattle.mdl_key.specs.declared.mode.Mode.{Mode}
use Rattle.mdl_system.specs.Strength.{covers}
use Rattle.mdl_calls.specs.declared.answers.Settled.{Settled}
use Rattle.mdl_calls.specs.declared.lock_space.LockSpace.{Ghosts}
use Rattle.mdl_calls.specs.declared.space_error.SpaceError.{SpaceError}
use Rattle.mdl_calls.specs.declared.space_error.SpaceError.TheVariants.{NoWait}
use Rattle.mdl_calls.specs.MemberLaws.{LawsOf}
use Rattle.mdl_calls.specs.Words.{Answer, End_wait, Granted, IsExplained, Is_settled, Knowledge, Lost, Pending, Poll_wait, Refused, SessionLocks, Settle_timeout, is_answer_of, is_waiting, Each, Runs, Give, Ask, SearchEnd, Over, Cut_off, Failed, most_searches, seeking}
use Rattle.mdl_calls.proofs.FaithfulLemmas.{each_reply, each_then}
use Rattle.mdl_context.specs.declared.context_error.ContextError.{ContextError}
use Rattle.mdl_context.specs.declared.context_error.ContextError.TheVariants.{Space}
use Rattle.mdl_context.specs.declared.kept.Kept.{Kept}
use Rattle.mdl_context.specs.declared.kept.Wanted.{Wanted}
use Rattle.mdl_context.specs.declared.request.Resume.{Resume}
use Rattle.mdl_context.specs.declared.request.Resume.TheVariants as resume
use Rattle.mdl_context.specs.Contexts.{Attends, ContextView, IsAwaited, IsUpgradedBy, ticket_kept, wish_here}
use Rattle.mdl_context.specs.Gains.{abandoning}
use Rattle.mdl_context.specs.Holdings.{awaited_upgrade, search_over, with_wanted}
use Rattle.mdl_context.specs.Requests.{Outcome}
use Rattle.mdl_context.specs.Tidying.{tidied, tidying, unneeded, unpinning_all}
use Rattle.mdl_context.specs.Upgrades.{HasSecond, merged, merging_new, with_ticket}
use Rattle.mdl_context.specs.Waits.{continuing_wait, cut_off_answered, end_answered, ending_wait, giving_up_wait, is_searched, looking, poll_answered, resuming, searching_on, taking_up, wait_sought, wait_won, with_searches_over, without_wait}
use Rattle.mdl_context.proofs.AttendLemmas.{attends-lost, attends-over, attends-same, attends-still, attends-won}
use Rattle.mdl_context.proofs.JustLemmas.{leaves-none}
use Rattle.mdl_context.proofs.LeftPinLemmas.{none-giving_up_wait, none-resuming}
use Rattle.mdl_context.proofs.PinLemmas.{pins-same}
use Rattle.mdl_context.proofs.ServingLemmas.{searched-waits, serves-ending, waits-there}
use Rattle.mdl_context.proofs.StayTidyLemmas.{awaited-searched}
use Rattle.mdl_context.proofs.WhoLemmas.{of_giving_up_wait, of_resuming}
use Rattle.mdl_rows.proofs.OwnRuns.{ends-so, has-abandoning, has-first, has-seeking, times-out}
use Rattle.mdl_rows.proofs.RequestRuns.{Stays}
use Rattle.mdl_rows.proofs.RunParts.{parted}
use Rattle.mdl_rows.proofs.TicketRuns.{attends-given, attends-merged, attends-tidying}

-- there is no wait after a call about it, unless it isn't settled
abbrev pub IsOver : Outcome Resume → Type 0
IsOver (Ok resume.Waiting, context) = Unit {0}
IsOver (reply, context) = context.wait ≡ None

is-over : (reply : Result Resume ContextError) (context : ContextView) → context.wait ≡ None → IsOver (reply, context)
is-over (Ok resume.Waiting) context idle = tt
is-over (Ok (resume.Acquired id)) context idle = idle
is-over (Ok (resume.Lost how)) context idle = idle
is-over (Err error) context idle = idle

-- ---- answers

-- a wait is looked at: it is settled or not
polled-so : (knows : Knowledge) (who : ℕ) (answer : Answer) (own : SessionLocks) → is_answer_of (Poll_wait who) answer ≡ true
    → IsExplained knows (Poll_wait who) answer own → is_waiting own ≡ true → (answer ≡ Pending) ⊎ ((how : Settled) × (answer ≡ Is_settled how))
polled-so knows who Pending own fits explained waits = inl refl
polled-so knows who (Is_settled how) own fits explained waits = inr (how, refl)
polled-so knows who (Refused NoWait) own fits explained waits = cc
polled-so knows who (Refused _) own fits explained waits = absurd explained
polled-so knows who _ own fits explained waits = cc

-- ---- wishes

same-wish : (wait : Option Wanted) → option_map wish_here (option_map search_over wait) ≡ option_map wish_here wait
same-wish None = refl
same-wish (Some wanted) = refl

still-waits : (wait : Option Wanted) → is_some wait ≡ true → is_some (option_map search_over wait) ≡ true
still-waits None waits = cc
still-waits (Some wanted) waits = refl

none-searched : (wait : Option Wanted) → is_searched wait ≡ None → wait ≡ None
none-searched None none = refl
none-searched (Some wanted) none = cc

unwrap : {X : Type 0} {x y : X} → Some x ≡ Some y → x ≡ y
unwrap e = cc

-- ---- contexts without a wait

idle-merged : {A : Type 0} (answer : A) (id : ℕ) (mode : Mode) (context : ContextView) (end : Result (Unit {0}) SpaceError)
    → let o : Outcome A = merged answer id mode context end in o.1.wait ≡ context.wait
idle-merged answer id mode context (Ok done) = refl
idle-merged answer id mode context (Err refusal) = refl

idle-tidying : {A : Type 0} (reply : Result A ContextError) (context : ContextView) → context.wait ≡ None → Each (λ (o : Outcome A). o.1.wait ≡ None) (tidying (reply, context))
idle-tidying {A} reply context idle =
    each_then {A = Unit {0}} {B = Outcome A} (λ o. o.1.wait ≡ None) (unpinning_all context.who (unneeded context)) (λ _. Give (reply, tidied context)) (λ _. idle)

-- ---- over a space

module _ {S : Type 0} (members : Ghosts S) (laws : LawsOf members) where
  -- the wait is over, and the context attends to its session
  record Ended (b : S) (reply : Outcome Resume) : Type 0 where
    attends : Attends members b reply.1
    idle : reply.1.wait ≡ None

  record Resumed (b : S) (reply : Outcome Resume) : Type 0 where
    attends : Attends members b reply.1
    over : IsOver reply

  ended-given : (mid b : S) (given reply : Outcome Resume) → Attends members mid given.1 → given.1.wait ≡ None → given ≡ reply → mid ≡ b → Ended b reply
  ended-given mid b given reply attends idle same here =
      record { attends = attends-given {A = Resume} members mid b given reply attends same here; idle = subst (λ (o : Outcome Resume). o.1.wait ≡ None) same idle }

  resumed : (b : S) (reply : Outcome Resume) → Ended b reply → Resumed b reply
  resumed b reply ended = record { attends = ended.attends; over = is-over reply.0 reply.1 ended.idle }

  -- the context lets go of places once its wait is over
  lets-go : (reply : Result Resume ContextError) (context : ContextView) (a b : S) (end : Outcome Resume) → Attends members a context → context.wait ≡ None
      → Runs members.joins a (tidying (reply, context)) end b → Ended b end
  lets-go reply context a b end attends idle run = record {
    attends = attends-tidying members laws {A = Resume} reply context a b end attends run;
    idle = each_reply members.joins (λ (o : Outcome Resume). o.1.wait ≡ None) (tidying (reply, context)) a b end (idle-tidying {A = Resume} reply context idle) run;
  }

  module _ (context : ContextView) where
    -- ---- a granted wait

    module _ (mid b : S) (new : ℕ) (there : Attends members mid (taking_up new context)) where
      -- its ticket is the second one of an upgrade
      second : (wanted : Wanted) (id n : ℕ) (mode : Mode) → context.wait ≡ Some wanted → wanted.upgrades ≡ Some n → n ≡ id → wanted.mode ≡ mode
          → IsAwaited context.known context.kept wanted → HasSecond members id new mode mid (without_wait context)
      second wanted id n mode waits upgrades number same awaited =
          let ticket : Kept = record { id = new; place = wanted.place; mode = wanted.mode; duration = wanted.duration } in
          let taken : taking_up new context ≡ with_ticket ticket (without_wait context) =
          ap (λ (wait : Option Wanted). let c : ContextView = record context { kept = with_wanted new wait context.kept; wait = None } in c) waits in
          let first : MatchOption (ticket_kept n context.kept) ⊥ (IsUpgradedBy wanted) =
          subst (λ (u : Option ℕ). IfSome u (λ x. MatchOption (ticket_kept x context.kept) ⊥ (IsUpgradedBy wanted))) upgrades awaited.1 in
          let fits : MatchOption (ticket_kept id context.kept) ⊥ (λ t. (t.place ≡ wanted.place) × (covers wanted.mode t.mode ≡ true)) =
          subst (λ x. MatchOption (ticket_kept x context.kept) ⊥ (IsUpgradedBy wanted)) number first in (
            ticket,
            refl,
            same,
            subst (λ m. MatchOption (ticket_kept id context.kept) ⊥ (λ t. (t.place ≡ wanted.place) × (covers m t.mode ≡ true))) same fits,
            subst (Attends members mid) taken there,
          )

      united : (id : ℕ) (mode : Mode) (reply : Outcome Resume) → HasSecond members id new mode mid (without_wait context)
          → Runs members.joins mid (wait_won (Some (id, mode)) new context) reply b → Ended b reply
      united id mode reply has run = record {
        attends = attends-merged members laws {A = Resume} (resume.Acquired id) id new mode mid b (without_wait context) reply has refl run;
        idle = each_reply members.joins (λ (o : Outcome Resume). o.1.wait ≡ None) (wait_won (Some (id, mode)) new context) mid b reply
            (each_then {A = Result (Unit {0}) SpaceError} {B = Outcome Resume} (λ o. o.1.wait ≡ None) (merging_new context.who id new)
            (λ end. Give (merged (resume.Acquired id) id mode (without_wait context) end)) (idle-merged {A = Resume} (resume.Acquired id) id mode (without_wait context))) run;
      }

      won-for : (wanted : Wanted) (u : Option ℕ) (id : ℕ) (mode : Mode) (reply : Outcome Resume) → context.wait ≡ Some wanted → wanted.upgrades ≡ u
          → option_map {U = ℕ × Mode} (λ n. (n, wanted.mode)) u ≡ Some (id, mode) → IsAwaited context.known context.kept wanted
          → Runs members.joins mid (wait_won (Some (id, mode)) new context) reply b → Ended b reply
      won-for wanted None id mode reply waits upgrades is awaited run = cc
      won-for wanted (Some n) id mode reply waits upgrades is awaited run =
          let same : (n, wanted.mode) ≡ (id, mode) = unwrap {X = ℕ × Mode} is in
          united id mode reply (second wanted id n mode waits upgrades (ap (λ (p : ℕ × Mode). p.0) same) (ap (λ (p : ℕ × Mode). p.1) same) awaited) run

      won : (wait : Option Wanted) (upgrade : Option (ℕ × Mode)) (reply : Outcome Resume) → context.wait ≡ wait → awaited_upgrade wait ≡ upgrade
          → IfSome wait (IsAwaited context.known context.kept) → Runs members.joins mid (wait_won upgrade new context) reply b → Ended b reply
      won wait None reply waits is awaited run = ended-given mid b (Ok (resume.Acquired new), taking_up new context) reply there refl run.0 run.1
      won None (Some (id, mode)) reply waits is awaited run = cc
      won (Some wanted) (Some (id, mode)) reply waits is awaited run = won-for wanted wanted.upgrades id mode reply waits refl is awaited run

    -- ---- a settled wait ends

    module _ (a b : S) (how : Settled) (reply : Outcome Resume) (attends : Attends members a context) (settled : members.is_settled a context.who how) where
      abbrev Answered : S → Answer → Type 0
      Answered mid answer = members.joins a (End_wait context.who) answer mid → Runs members.joins mid (end_answered context answer) reply b → Ended b reply

      ends-granted : (mid : S) (id : ℕ) → Answered mid (Granted id)
      ends-granted mid id step run =
          won mid b id (attends-won members laws a mid id context (taking_up id context) attends step refl refl refl refl) context.wait (awaited_upgrade context.wait) reply refl refl
          attends.wish run

      ends-lost : (mid : S) (lost : Settled) → Answered mid (Lost lost)
      ends-lost mid lost step run =
          lets-go (Ok (resume.Lost lost)) (without_wait context) mid b reply (attends-lost members laws a mid lost context (without_wait context) attends step refl) refl run

      ends : Runs members.joins a (ending_wait context) reply b → Ended b reply
      ends (answer, mid, step, run) = elim (ends-so members laws context.who a mid how answer settled step) [
        | inl granted ↦ subst (Answered mid) (sym granted.1) (ends-granted mid granted.0) step run
        | inr lost ↦ subst (Answered mid) (sym lost.1) (ends-lost mid lost.0) step run
      ]

    -- ---- a wait is looked at

    module _ (a b : S) (reply : Outcome Resume) (attends : Attends members a context) (waits : is_some context.wait ≡ true) where
      -- what the answer to a look at the wait is
      told : (mid : S) (answer : Answer) → members.joins a (Poll_wait context.who) answer mid → (answer ≡ Pending) ⊎ ((how : Settled) × (answer ≡ Is_settled how))
      told mid answer step =
          polled-so (members.knows a context.who) context.who answer (members.own a context.who) (laws.fits a mid (Poll_wait context.who) answer step)
          (laws.explains a mid (Poll_wait context.who) answer context.who refl step) (waits-there (members.own a context.who) context attends.serves waits)

      still : (mid : S) (answer : Answer) → members.joins a (Poll_wait context.who) answer mid → Attends members mid context
      still mid answer step = attends-still members laws a mid (Poll_wait context.who) answer context attends refl refl refl step

      -- a settled one ends
      settled-ends : (mid : S) (how : Settled) → members.joins a (Poll_wait context.who) (Is_settled how) mid → Runs members.joins mid (ending_wait context) reply b → Ended b reply
      settled-ends mid how step run =
          ends mid b how reply (still mid (Is_settled how) step) (laws.tells a mid (Poll_wait context.who) (Is_settled how) context.who how refl refl step) run

      abbrev Looked : S → Answer → Type 0
      Looked mid answer = members.joins a (Poll_wait context.who) answer mid → Runs members.joins mid (poll_answered context answer) reply b → Resumed b reply

      looks-pending : (mid : S) → Looked mid Pending
      looks-pending mid step run =
          record {
            attends = attends-given {A = Resume} members mid b (Ok resume.Waiting, context) reply (still mid Pending step) run.0 run.1;
            over = subst IsOver run.0 tt;
          }

      looks-settled : (mid : S) (how : Settled) → Looked mid (Is_settled how)
      looks-settled mid how step run = resumed b reply (settled-ends mid how step run)

      looks : Runs members.joins a (looking context) reply b → Resumed b reply
      looks (answer, mid, step, run) = elim (told mid answer step) [
        | inl pending ↦ subst (Looked mid) (sym pending) (looks-pending mid) step run
        | inr settled ↦ subst (Looked mid) (sym settled.1) (looks-settled mid settled.0) step run
      ]

  -- ---- a wait goes on

  module _ (context : ContextView) (b : S) (reply : Outcome Resume) where
    sought : (a : S) (end : SearchEnd) → Attends members a context → is_some context.wait ≡ true → Runs members.joins a (wait_sought context end) reply b → Resumed b reply
    sought a Over attends waits run =
        looks (with_searches_over context) a b reply
        (attends-over a a context (with_searches_over context) attends (λ place key knew. knew) (λ place pinned. pinned) attends.speaks
        (record { held = attends.serves.held; wait = attends.serves.wait ∙ sym (same-wish context.wait) }) refl refl attends.places
        (awaited-searched context.known context.kept context.wait attends.wish)) (still-waits context.wait waits) run
    sought a Cut_off attends waits run = looks context a b reply attends waits run
    sought a (Failed refusal) attends waits run =
        let own = members.own a context.who in
        let parts = parted {A = Unit {0}} {B = Outcome Resume} members.joins (abandoning context.who) (λ _. tidying (Err (Space refusal), without_wait context)) a b reply run in
        let has = has-abandoning members laws context.who a a parts.1 own (has-first members laws context.who a attends.speaks) (waits-there own context attends.serves waits) parts.2 in
        resumed b reply
        (lets-go (Err (Space refusal)) (without_wait context) parts.1 b reply
        (attends-over a parts.1 context (without_wait context) attends has.knows
        (pins-same own (members.own parts.1 context.who) (ap (λ (o : SessionLocks). o.pins) has.is)) has.speaks
        (serves-ending own (members.own parts.1 context.who) context (without_wait context) attends.serves has.is refl refl) refl refl attends.places tt) refl parts.3)

    searches : (a : S) → Attends members a context → is_some context.wait ≡ true → Runs members.joins a (searching_on context) reply b → Resumed b reply
    searches a attends waits run =
        let own = members.own a context.who in
        let parts = parted {A = SearchEnd} {B = Outcome Resume} members.joins (seeking most_searches context.who) (wait_sought context) a b reply run in
        let has = has-seeking members laws context.who most_searches a a parts.1 parts.0 own (has-first members laws context.who a attends.speaks) parts.2 in
        sought parts.1 parts.0 (attends-same a parts.1 context attends has.knows has.speaks has.is) waits parts.3

    module _ (a : S) (attends : Attends members a context) (waits : is_some context.wait ≡ true) where
      abbrev Cut : S → Answer → Type 0
      Cut mid answer = members.joins a (Poll_wait context.who) answer mid → Runs members.joins mid (cut_off_answered context answer) reply b → Resumed b reply

      cut-pending : (mid : S) → Cut mid Pending
      cut-pending mid step run = searches mid (still context a b reply attends waits mid Pending step) waits run

      cut-settled : (mid : S) (how : Settled) → Cut mid (Is_settled how)
      cut-settled mid how step run = resumed b reply (settled-ends context a b reply attends waits mid how step run)

      cut-off : (answer : Answer) (mid : S) → Cut mid answer
      cut-off answer mid step run = elim (told context a b reply attends waits mid answer step) [
        | inl pending ↦ subst (Cut mid) (sym pending) (cut-pending mid) step run
        | inr settled ↦ subst (Cut mid) (sym settled.1) (cut-settled mid settled.0) step run
      ]

    continues : (a : S) (searched : Option Bool) → is_searched context.wait ≡ searched → Attends members a context → Runs members.joins a (continuing_wait searched context) reply b
        → Resumed b reply
    continues a None is attends run =
        resumed b reply (ended-given a b (Err (Space NoWait), context) reply attends (none-searched context.wait is) run.0 run.1)
    continues a (Some true) is attends run = looks context a b reply attends (searched-waits context.wait (Some true) (sym is) refl) run
    continues a (Some false) is attends run =
        cut-off a attends (searched-waits context.wait (Some false) (sym is) refl) run.0 run.1 run.2 run.3

  module _ (a b : S) (context : ContextView) (attends : Attends members a context) (reply : Outcome Resume) where
    resumes : Runs members.joins a (resuming context) reply b → Resumed b reply
    resumes run = continues context b reply a (is_searched context.wait) refl attends run

    -- no pin is left behind, and there is no wait unless it isn't settled
    pub stays-resuming : Runs members.joins a (resuming context) reply b → Stays members a context b reply.1 × IsOver reply
    stays-resuming run =
        let there = resumes run in (
          record {
            who = each_reply members.joins (λ (o : Outcome Resume). o.1.who ≡ context.who) (resuming context) a b reply (of_resuming context) run;
            attends = there.attends;
            tidy = leaves-none members laws a context attends (resuming context) b reply (none-resuming members laws a context attends) run there.attends;
          },
          there.over,
        )

    gives-up : (wait : Option Wanted) → context.wait ≡ wait
        → Runs members.joins a (if is_some wait then Ask (Settle_timeout context.who) (λ _. ending_wait context) else Give (Err (Space NoWait), context)) reply b → Ended b reply
    gives-up None waits run = ended-given a b (Err (Space NoWait), context) reply attends waits run.0 run.1
    gives-up (Some wanted) waits (answer, mid, step, run) =
        let settled = times-out members laws context.who a mid answer (waits-there (members.own a context.who) context attends.serves (ap is_some waits)) step in
        ends context mid b settled.0 reply (attends-still members laws a mid (Settle_timeout context.who) answer context attends refl refl refl step) settled.1 run

    -- nor where it is given up, and then there is none
    pub stays-giving_up_wait : Runs members.joins a (giving_up_wait context) reply b → Stays members a context b reply.1 × (reply.1.wait ≡ None)
    stays-giving_up_wait run =
        let there = gives-up context.wait refl run in (
          record {
            who = each_reply members.joins (λ (o : Outcome Resume). o.1.who ≡ context.who) (giving_up_wait context) a b reply (of_giving_up_wait context) run;
            attends = there.attends;
            tidy = leaves-none members laws a context attends (giving_up_wait context) b reply (none-giving_up_wait members laws a context attends) run there.attends;
          },
          there.idle,
        )
