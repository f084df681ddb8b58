-- A context that upgrades, weakens or releases tickets goes on to attend to its session, and leaves no pin behind, whatever the lock space answers.
use Rattle.std.proofs.Common.{◌≡◌, ℕ, Bool, true, false, List, [], ◌∷◌, Option, Some, None, Result, Ok, Err, inl, inr, refl, sym, ap, ◌∙◌, subst, arith}
use Rattle.std.specs.Prelude.{◌==◌, MatchOption, filter, is_some, map, not}
use Rattle.std.proofs.lemmas.Bool.Decides.{nat_tests}
use Rattle.mdl_key.specs.declared.mode.Mode.{Mode}
use Rattle.mdl_system.specs.Strength.{covers}
use Rattle.mdl_calls.specs.declared.lock_space.LockSpace.{Ghosts}
use Rattle.mdl_calls.specs.declared.space_error.SpaceError.{SpaceError}
use Rattle.mdl_calls.specs.declared.space_error.SpaceError.TheVariants.{OutOfMemory}
use Rattle.mdl_calls.specs.MemberLaws.{LawsOf}
use Rattle.mdl_calls.specs.SessionLocks.{upgraded}
use Rattle.mdl_calls.specs.Words.{Answer, Done, Downgrade, Release, Upgrade_now, Upgraded, Would_wait, SessionLocks, giving_up, is_number, Program, Runs, Give, Ask, ◌>>=◌}
use Rattle.mdl_calls.proofs.FaithfulLemmas.{each_reply}
use Rattle.mdl_context.specs.declared.asking.AskResult.{AskResult}
use Rattle.mdl_context.specs.declared.asking.AskResult.TheVariants as got
use Rattle.mdl_context.specs.declared.context_error.ContextError.{ContextError}
use Rattle.mdl_context.specs.declared.context_error.ContextError.TheVariants.{NotHeld, Space}
use Rattle.mdl_context.specs.declared.kept.Kept.{Kept}
use Rattle.mdl_context.specs.declared.kept.Wanted.{Wanted}
use Rattle.mdl_context.specs.declared.request.Acquire.{Acquire}
use Rattle.mdl_context.specs.declared.request.Acquire.TheVariants.{Acquired, MustWait}
use Rattle.mdl_context.specs.Contexts.{Attends, ContextView, has_number, held_of, ticket_kept, without_tickets}
use Rattle.mdl_context.specs.Gains.{own_got, refusal_answered, waiting_at}
use Rattle.mdl_context.specs.Holdings.{has_ticket_number, wanted_upgrade, without_number}
use Rattle.mdl_context.specs.Releases.{release_fault, releasing, releasing_all, releasing_tickets, unless, waiting_fault}
use Rattle.mdl_context.specs.Requests.{Outcome}
use Rattle.mdl_context.specs.Tidying.{tidied, tidying, unneeded, unpinning_all}
use Rattle.mdl_context.specs.Upgrades.{HasSecond, awaiting_upgrade, downgrade_answered, downgrading, merged, merging_new, own_merged, second_got, upgrade_answered, upgrading, upgrading_ticket, waiting_to_upgrade, with_ticket_mode}
use Rattle.mdl_context.proofs.AttendLemmas.{attends-left, attends-same, attends-still}
use Rattle.mdl_context.proofs.BeyondLemmas.{held-without, without-none}
use Rattle.mdl_context.proofs.GainLemmas.{idle-there}
use Rattle.mdl_context.proofs.JustLemmas.{leaves-none}
use Rattle.mdl_context.proofs.LeftPinLemmas.{none-downgrading, none-giving_up, none-releasing, none-upgrading}
use Rattle.mdl_context.proofs.ServingLemmas.{serves-left}
use Rattle.mdl_context.proofs.TidyLemmas.{attends-tidied}
use Rattle.mdl_context.proofs.UpgradeLemmas.{attends-in_mode, attends-parted, attends-to-upgrade, attends-united, has-gained, kept-number, may-rise}
use Rattle.mdl_context.proofs.WhoLemmas.{of_downgrading, of_giving_up, of_releasing, of_upgrading}
use Rattle.mdl_rows.proofs.OwnRuns.{Has, got-waiting_at, has-first, has-merging, has-release, has-releasing_all, released}
use Rattle.mdl_rows.proofs.RequestRuns.{Stays}
use Rattle.mdl_rows.proofs.RunParts.{parted}

-- ---- tickets that were released one after the other

-- without the first and then the others
without-more : (first : Kept) (gone kept : List Kept) → without_tickets gone (without_number first.id kept) ≡ without_tickets (first ∷ gone) kept
without-more first gone [] = refl
without-more first gone (t ∷ ts) = by (t.id == first.id) refl (without-more first gone ts) where
  by : (b : Bool) → (t.id == first.id) ≡ b → without_tickets gone (without_number first.id ts) ≡ without_tickets (first ∷ gone) ts
      → without_tickets gone (without_number first.id (t ∷ ts)) ≡ without_tickets (first ∷ gone) (t ∷ ts)
  by true same rest = grind (arith, nat_tests, same, rest)
  by false apart rest = grind (arith, nat_tests, apart, rest)

-- what is held then is what is kept then
pub released-held : (gone kept : List Kept) (own : SessionLocks) → own.held ≡ map held_of kept → (released gone own).held ≡ map held_of (without_tickets gone kept)
released-held [] kept own held = held ∙ sym (ap (map held_of) (without-none kept))
released-held (first ∷ gone) kept own held =
    released-held gone (without_number first.id kept) (giving_up first.id own)
    (ap (filter (λ h. not (h.id == first.id))) held ∙ held-without first.id kept)
    ∙ ap (map held_of) (without-more first gone kept)

pub released-wait : (gone : List Kept) (own : SessionLocks) → (released gone own).wait ≡ own.wait
released-wait [] own = refl
released-wait (first ∷ gone) own = released-wait gone (giving_up first.id own)

pub released-pins : (gone : List Kept) (own : SessionLocks) → (released gone own).pins ≡ own.pins
released-pins [] own = refl
released-pins (first ∷ gone) own = released-pins gone (giving_up first.id own)

-- ---- over a space

-- what a context goes on to attend to, once a run ended so
pub attends-given : {S A : Type 0} (members : Ghosts S) (mid b : S) (given reply : Outcome A) → Attends members mid given.1 → given ≡ reply → mid ≡ b → Attends members b reply.1
attends-given members mid b given reply attends same here =
    subst (λ s. Attends members s reply.1) here (subst (λ (o : Outcome _). Attends members mid o.1) same attends)

module _ {S : Type 0} (members : Ghosts S) (laws : LawsOf members) where
  -- what may be refused, and changes nothing then
  attends-unless : {A : Type 0} (fault : Option ContextError) (program : Program (Outcome A)) (a b : S) (context : ContextView) (reply : Outcome A) → Attends members a context
      → (fault ≡ None → Runs members.joins a program reply b → Attends members b reply.1) → Runs members.joins a (unless fault context program) reply b → Attends members b reply.1
  attends-unless {A} (Some fault) program a b context reply attends made run = attends-given {A = A} members a b (Err fault, context) reply attends run.0 run.1
  attends-unless None program a b context reply attends made run = made refl run

  -- the context lets go of places
  pub attends-tidying : {A : Type 0} (reply : Result A ContextError) (context : ContextView) (a b : S) (end : Outcome A) → Attends members a context
      → Runs members.joins a (tidying (reply, context)) end b → Attends members b end.1
  attends-tidying {A} reply context a b end attends run =
      let parts = parted {A = Unit {0}} {B = Outcome A} members.joins (unpinning_all context.who (unneeded context)) (λ _. Give (reply, tidied context)) a b end run in
      attends-given {A = A} members parts.1 b (reply, tidied context) end (attends-tidied members laws a parts.1 context attends parts.2) parts.3.0 parts.3.1

  -- ---- merges

  -- a second ticket is merged into the first, or given up
  pub attends-merged : {A : Type 0} (answer : A) (id new : ℕ) (mode : Mode) (a b : S) (context : ContextView) (reply : Outcome A) → HasSecond members id new mode a context
      → is_some context.wait ≡ false → Runs members.joins a (merging_new context.who id new >>= (λ end. Give (merged answer id mode context end))) reply b → Attends members b reply.1
  attends-merged {A} answer id new mode a b context reply has idle run = by where
    parts : (end : Result (Unit {0}) SpaceError) × (mid : S) × Runs members.joins a (merging_new context.who id new) end mid × (merged answer id mode context end ≡ reply) × (mid ≡ b)
    parts =
        let all = parted {A = Result (Unit {0}) SpaceError} {B = Outcome A} members.joins (merging_new context.who id new) (λ end. Give (merged answer id mode context end)) a b reply run in
        (all.0, all.1, all.2, all.3.0, all.3.1)

    after : (mid : S) (end : Result (Unit {0}) SpaceError) → Has members laws context.who a mid (own_merged id new end (members.own a context.who))
        → Attends members mid (let o : Outcome A = merged answer id mode context end in o.1)
    after mid (Ok done) made =
        attends-united id new mode a context (laws.rising a context.who has.4.speaks) has mid (with_ticket_mode id (λ _. mode) context) made.knows made.speaks made.is refl refl refl refl idle
    after mid (Err refusal) made =
        attends-parted id new mode a context (laws.rising a context.who has.4.speaks) has mid context made.knows made.speaks made.is refl refl refl refl idle

    by : Attends members b reply.1
    by = attends-given {A = A} members parts.1 b (merged answer id mode context parts.0) reply
        (after parts.1 parts.0 (has-merging members laws context.who id new a a parts.1 (members.own a context.who) parts.0 (has-first members laws context.who a has.4.speaks) parts.2))
        parts.3 parts.4

  module _ (a : S) (context : ContextView) (attends : Attends members a context) (idle : context.wait ≡ None) where
    -- ---- upgrades

    module _ (t : Kept) (mode : Mode) (found : ticket_kept t.id context.kept ≡ Some t) where
      -- the wish for the second ticket
      abbrev wish : Wanted
      wish = wanted_upgrade t mode false

      abbrev Fits : Type 0
      Fits = MatchOption (ticket_kept t.id context.kept) ⊥ (λ ticket. (wish ≡ wanted_upgrade ticket wish.mode false) × (covers wish.mode ticket.mode ≡ true))

      attends-asked : (asked mid : S) (end : Result AskResult SpaceError) (b : S) (reply : Outcome Acquire) → Attends members asked context → Fits
          → Has members laws context.who asked mid (own_got t.place mode end (members.own asked context.who)) → Runs members.joins mid (second_got t mode context end) reply b
          → Attends members b reply.1
      attends-asked asked mid (Ok (got.Granted new)) b reply there fits has run =
          attends-merged {A = Acquire} (Acquired t.id) t.id new mode mid b context reply
          (has-gained asked mid context t.id new wish there has.knows has.speaks has.is (ap is_some idle) fits) (ap is_some idle) run
      attends-asked asked mid (Ok (got.Waits number searched)) b reply there fits has run =
          attends-given {A = Acquire} members mid b (Ok (MustWait number), awaiting_upgrade t mode searched context) reply
          (attends-to-upgrade asked mid context (awaiting_upgrade t mode searched context) t.id number wish searched there has.knows has.speaks has.is fits refl refl refl refl) run.0 run.1
      attends-asked asked mid (Err refusal) b reply there fits has run =
          attends-given {A = Acquire} members mid b (Err (Space refusal), context) reply (attends-same asked mid context there has.knows has.speaks has.is) run.0 run.1

      attends-waiting : (asked b : S) (reply : Outcome Acquire) → Attends members asked context → Fits → Runs members.joins asked (waiting_to_upgrade t mode context) reply b
          → Attends members b reply.1
      attends-waiting asked b reply there fits (inl run) =
          attends-given {A = Acquire} members asked b (Err (Space OutOfMemory), context) reply there run.0 run.1
      attends-waiting asked b reply there fits (inr run) =
          let parts = parted {A = Result AskResult SpaceError} {B = Outcome Acquire} members.joins (waiting_at context.who t.place mode) (second_got t mode context) asked b reply run in
          attends-asked asked parts.1 parts.0 b reply there fits
          (got-waiting_at members laws context.who t.place mode asked asked parts.1 (members.own asked context.who) parts.0
          (idle-there (members.own asked context.who) context there.serves idle) (has-first members laws context.who asked there.speaks) parts.2) parts.3

      attends-upgrade : (mid b : S) (answer : Answer) (reply : Outcome Acquire) → members.joins a (Upgrade_now context.who t.id mode) answer mid
          → Runs members.joins mid (upgrade_answered t mode context answer) reply b → Attends members b reply.1
      attends-upgrade mid b Upgraded reply step run =
          attends-given {A = Acquire} members mid b (Ok (Acquired t.id), with_ticket_mode t.id (upgraded mode) context) reply
          (attends-in_mode members laws a mid (Upgrade_now context.who t.id mode) Upgraded t.id (upgraded mode) context (with_ticket_mode t.id (upgraded mode) context) attends refl refl step
          refl refl refl refl refl (ap is_some idle)) run.0 run.1
      attends-upgrade mid b Would_wait reply step run =
          let knows = members.knows a context.who in
          let rises = may-rise knows context.who t.id mode (members.own a context.who) context t attends.serves found
          (laws.explains a mid (Upgrade_now context.who t.id mode) Would_wait context.who refl step)
          (λ held there covered. laws.upgrades a mid context.who t.id mode held there covered step) in
          attends-waiting mid b reply (attends-still members laws a mid (Upgrade_now context.who t.id mode) Would_wait context attends refl refl refl step)
          (rw found (refl, rises)) run
      attends-upgrade mid b answer reply step run =
          attends-given {A = Acquire} members mid b (Err (Space (refusal_answered answer)), context) reply
          (attends-still members laws a mid (Upgrade_now context.who t.id mode) answer context attends refl refl refl step) run.0 run.1

    attends-upgrading_ticket : (id : ℕ) (found : Option Kept) (mode : Mode) (b : S) (reply : Outcome Acquire) → ticket_kept id context.kept ≡ found
        → Runs members.joins a (upgrading_ticket found mode context) reply b → Attends members b reply.1
    attends-upgrading_ticket id None mode b reply is run = attends-given {A = Acquire} members a b (Err NotHeld, context) reply attends run.0 run.1
    attends-upgrading_ticket id (Some t) mode b reply is run =
        attends-unless {A = Acquire} (waiting_fault context) (Ask (Upgrade_now context.who t.id mode) (upgrade_answered t mode context)) a b context reply attends
        (λ _ more. attends-upgrade t mode (subst (λ n. ticket_kept n context.kept ≡ Some t) (sym (kept-number id context.kept t is)) is) more.1 b more.0 reply more.2 more.3) run

    -- ---- downgrades

    attends-downgrade : (id : ℕ) (mode : Mode) (mid b : S) (answer : Answer) (reply : Outcome (Unit {0})) → members.joins a (Downgrade context.who id mode) answer mid
        → Runs members.joins mid (downgrade_answered id mode context answer) reply b → Attends members b reply.1
    attends-downgrade id mode mid b Done reply step run =
        attends-given {A = Unit {0}} members mid b (Ok tt, with_ticket_mode id (λ _. mode) context) reply
        (attends-in_mode members laws a mid (Downgrade context.who id mode) Done id (λ _. mode) context (with_ticket_mode id (λ _. mode) context) attends refl refl step
        refl refl refl refl refl (ap is_some idle)) run.0 run.1
    attends-downgrade id mode mid b answer reply step run =
        attends-given {A = Unit {0}} members mid b (Err (Space (refusal_answered answer)), context) reply
        (attends-still members laws a mid (Downgrade context.who id mode) answer context attends refl refl refl step) run.0 run.1

    attends-downgrading : (id : ℕ) (mode : Mode) (b : S) (reply : Outcome (Unit {0})) → Runs members.joins a (downgrading id mode context) reply b → Attends members b reply.1
    attends-downgrading id mode b reply run =
        attends-unless {A = Unit {0}} (release_fault id context) (Ask (Downgrade context.who id mode) (downgrade_answered id mode context)) a b context reply attends
        (λ _ more. attends-downgrade id mode more.1 b more.0 reply more.2 more.3) run

    -- ---- releases

    -- fewer tickets are left, of which the context then lets the places go
    attends-fewer : (left : ContextView) (stays : Kept → Bool) (locks : SessionLocks) (mid b : S) (end : Outcome (Unit {0})) → Has members laws context.who a mid locks
        → left ≡ record context { kept = filter stays context.kept } → locks.held ≡ map held_of left.kept → locks.wait ≡ (members.own a context.who).wait
        → locks.pins ≡ (members.own a context.who).pins → Runs members.joins mid (tidying (Ok tt, left)) end b → Attends members b end.1
    attends-fewer left stays locks mid b end has is held wait pins run =
        attends-tidying {A = Unit {0}} (Ok tt) left mid b end
        (attends-left a mid context left stays attends has.knows (ap (λ (o : SessionLocks). o.pins) has.is ∙ pins) has.speaks
        (serves-left (members.own a context.who) (members.own mid context.who) context left attends.serves (ap (λ (o : SessionLocks). o.held) has.is ∙ held)
        (ap (λ (o : SessionLocks). o.wait) has.is ∙ wait) (ap (λ (c : ContextView). c.wait) is))
        (ap (λ (c : ContextView). c.who) is) (ap (λ (c : ContextView). c.known) is) (ap (λ (c : ContextView). c.kept) is) (ap (λ (c : ContextView). c.wait) is) (ap is_some idle)) run

    attends-giving_up : (gone : List Kept) (b : S) (end : Outcome (Unit {0})) → Runs members.joins a (releasing_tickets gone context) end b → Attends members b end.1
    attends-giving_up gone b end run =
        let own = members.own a context.who in
        let left : ContextView = record context { kept = without_tickets gone context.kept } in
        let parts = parted {A = Unit {0}} {B = Outcome (Unit {0})} members.joins (releasing_all context.who gone) (λ _. tidying (Ok tt, left)) a b end run in
        attends-fewer left (λ ticket. not (has_number gone ticket.id)) (released gone own) parts.1 b end
        (has-releasing_all members laws context.who gone a a parts.1 own (has-first members laws context.who a attends.speaks) (given-up parts.0 parts.1 parts.2)) refl
        (released-held gone context.kept own attends.serves.held) (released-wait gone own) (released-pins gone own) parts.3
      where
        given-up : (x : Unit {0}) (mid : S) → Runs members.joins a (releasing_all context.who gone) x mid → Runs members.joins a (releasing_all context.who gone) tt mid
        given-up x mid more = more

    attends-releasing : (id : ℕ) (b : S) (end : Outcome (Unit {0})) → Runs members.joins a (releasing id context) end b → Attends members b end.1
    attends-releasing id b end run =
        let own = members.own a context.who in
        let left : ContextView = record context { kept = without_number id context.kept } in
        attends-unless {A = Unit {0}} (release_fault id context) (Ask (Release context.who id) (λ _. tidying (Ok tt, left))) a b context end attends
        (λ _ more. attends-fewer left (λ ticket. not (has_ticket_number id ticket)) (giving_up id own) more.1 b end
        (has-release members laws context.who a a more.1 id more.0 own (has-first members laws context.who a attends.speaks) more.2) refl
        (ap (filter (λ h. not (is_number id h))) attends.serves.held ∙ held-without id context.kept) refl refl more.3) run

    -- ---- and no pin is left behind

    pub stays-upgrading : (id : ℕ) (mode : Mode) (b : S) (reply : Outcome Acquire) → Runs members.joins a (upgrading id mode context) reply b → Stays members a context b reply.1
    stays-upgrading id mode b reply run =
        let there = attends-upgrading_ticket id (ticket_kept id context.kept) mode b reply refl run in
        record {
          who = each_reply members.joins (λ (o : Outcome Acquire). o.1.who ≡ context.who) (upgrading id mode context) a b reply (of_upgrading id mode context) run;
          attends = there;
          tidy = leaves-none members laws a context attends (upgrading id mode context) b reply (none-upgrading members laws a context attends id mode) run there;
        }

    pub stays-downgrading : (id : ℕ) (mode : Mode) (b : S) (reply : Outcome (Unit {0})) → Runs members.joins a (downgrading id mode context) reply b → Stays members a context b reply.1
    stays-downgrading id mode b reply run =
        let there = attends-downgrading id mode b reply run in
        record {
          who = each_reply members.joins (λ (o : Outcome (Unit {0})). o.1.who ≡ context.who) (downgrading id mode context) a b reply (of_downgrading id mode context) run;
          attends = there;
          tidy = leaves-none members laws a context attends (downgrading id mode context) b reply (none-downgrading members laws a context attends id mode) run there;
        }

    pub stays-giving_up : (gone : List Kept) (b : S) (end : Outcome (Unit {0})) → Runs members.joins a (releasing_tickets gone context) end b → Stays members a context b end.1
    stays-giving_up gone b end run =
        let there = attends-giving_up gone b end run in
        record {
          who = each_reply members.joins (λ (o : Outcome (Unit {0})). o.1.who ≡ context.who) (releasing_tickets gone context) a b end (of_giving_up gone context) run;
          attends = there;
          tidy = leaves-none members laws a context attends (releasing_tickets gone context) b end (none-giving_up members laws a context attends gone) run there;
        }

    pub stays-releasing : (id : ℕ) (b : S) (end : Outcome (Unit {0})) → Runs members.joins a (releasing id context) end b → Stays members a context b end.1
    stays-releasing id b end run =
        let there = attends-releasing id b end run in
        record {
          who = each_reply members.joins (λ (o : Outcome (Unit {0})). o.1.who ≡ context.who) (releasing id context) a b end (of_releasing id context) run;
          attends = there;
          tidy = leaves-none members laws a context attends (releasing id context) b end (none-releasing members laws a context attends id) run there;
        }
