-- What each call of the space of one thread is answered is what its system of locks determines.
use Rattle.std.proofs.Common.{◌≡◌, ◌≢◌, ◌⊎◌, ◌↔◌, ℕ, ◌+◌, ◌==◌, ◌<◌, Bool, true, false, not, ◌&&◌, inl, inr, List, Option, Some, None, is_some, nat_le, eq-eqb, eqb-true, refl, sym, ap, subst, ◌∙◌, arith}
use Rattle.std.specs.Prelude.{if◌then◌else◌, MatchOption}
use Rattle.std.specs.Option.{IfSome, option_map}
use Rattle.std.proofs.lemmas.Bool.{and_parts, false≢true}
use Rattle.std.proofs.lemmas.Bool.Decides.{nat_tests}
use Rattle.mdl_key.specs.declared.mode.Mode.{Mode}
use Rattle.mdl_key.specs.declared.mode.Mode.TheVariants.{X}
use Rattle.mdl_key.specs.Words.{KeyName, same_mode}
use Rattle.mdl_graph.proofs.CycleOrder.{before_same}
use Rattle.mdl_defs.specs.declared.change.Change.{Change}
use Rattle.mdl_defs.specs.declared.change_error.ChangeError.TheVariants as why_not
use Rattle.mdl_defs.specs.Changes.{change_fault}
use Rattle.mdl_defs.specs.VersionedDefinitions.{suits}
use Rattle.mdl_calls.specs.declared.answers.Held.{Held}
use Rattle.mdl_calls.specs.declared.answers.Settled.{Settled}
use Rattle.mdl_calls.specs.declared.answers.Settled.TheVariants as settled_as
use Rattle.mdl_calls.specs.declared.space_error.SpaceError.TheVariants.{NotHeld, NotUpgradable, NotExclusive, AlreadyWaiting, BadMode, VersionFull, CounterFull, Def, WrongKind}
use Rattle.mdl_calls.specs.Words.{Answer, Refused, Done, Would_wait, No_cycle, Victim_is, Has_wait, Has_killed, Changed, Upgraded, finds_no_memory, Call, Resolve, Try_now, Begin_wait, Search, Poll_wait, Settle_timeout, End_wait, Wait_of, Kill, Release, Clone_ticket, Upgrade_now, Merge, Downgrade, Read_definition, Read_kept, Change_definition, Key_of, Tables_of, List_held, Unpin, caller, may_merge}
use Rattle.mdl_core.specs.declared.pending.Pending.{Pending}
use Rattle.mdl_core.specs.ChangeEvents.{holding_of}
use Rattle.mdl_core.specs.CoreCalls.{outcome, refused_or, first_cause, request_causes, clone_causes, granted_unless_full, queued_unless_full, cloning_of, upgrade_causes, upgraded_if_free, upgrading_of, is_lower, downgrading_of, merge_causes, merging_of, held_ticket, releasing_of, poll_answer, polling_of, timing_out_at, timing_out_of, ending_at, ending_of, wait_at, is_open_wait, wait_of_outcome, kill_outcome, searching_of, search_deadlock_outcome, victim_at, reading_of, redefining_of, redefining_fault, redefined_unless}
use Rattle.mdl_core.specs.CoreJoins.{SpeaksFor, numbers_at}
use Rattle.mdl_core.specs.Cores.{Core, book_at, seat_at, key_at, standing_at, has_key, has_session, is_free_for}
use Rattle.mdl_core.specs.Changes.{altering, folding, serving}
use Rattle.mdl_core.specs.CoreSystems.{defined_in, system_of}
use Rattle.mdl_core.specs.Determined.{Right, Only, Where, RefusedUnless, places_of, pins_at, ToAsk, ToGrant, ToClone, ToUpgrade, ToDowngrade, ToMerge, ToRead, ToChange, OfHolding, OfWait, to_poll, to_time_out, to_end, ToSearch, Determines, AnswersAreDetermined}
use Rattle.mdl_core.specs.SessionLaws.{HasWhatTheSystemSays, WaitsSomewhere}
use Rattle.mdl_core.specs.Ties.{IsTied, IsSoundCore}
use Rattle.mdl_system.specs.Words.{Holding, HasNoWait, IsGrantable, IsChosenDeadlock, IsVictimOf, covers}
use Rattle.mdl_core.proofs.CallCases.{test_cases, option_cases, cause_cases, not_false, not_true, exclusive-is}
use Rattle.mdl_core.proofs.ChangeSeats.{merged_numbers, merged_place, merged_mode}
use Rattle.mdl_core.proofs.CoreGranted.{book_of-at, free-grantable}
use Rattle.mdl_core.proofs.CoreStandings.{held-place}
use Rattle.mdl_core.proofs.MadeCalls.{killed_wait}
use Rattle.mdl_core.proofs.PlaceAnswers.{pin-listed, pin-unlisted, at-pin, not-pinned, names, resolves, grants, queues}
use Rattle.mdl_core.proofs.RightAnswers.{IsAnswer, only, where-so, where-not, met, unmet}
use Rattle.mdl_core.proofs.SearchRuns.{nothing-found, victim-found}
use Rattle.mdl_core.proofs.SessionAnswers.{without-wait, of-wait, of-ticket, no-ticket, lists}
use Rattle.mdl_core.proofs.TableLists.{tells-tables}
use Rattle.mdl_core.proofs.SessionHas.{sessions-have, waits-somewhere}
use Rattle.mdl_core.proofs.SessionWaits.{found-open}
use Rattle.mdl_core.proofs.SparedSeats.{wait-of_session}
use Rattle.mdl_core.proofs.UnpinAnswers.{unpins}

-- a limit that is met, and one that isn't
at_limit : (m n : ℕ) → nat_le m n ≡ true → n < m → ⊥
at_limit m n full = grind (arith, nat_tests)

below_limit : (m n : ℕ) → nat_le m n ≡ false → n < m
below_limit m n few = grind (arith, nat_tests)

none-there : {T : Type 0} (o : Option T) → is_some o ≡ false → o ≡ None
none-there None e = refl
none-there (Some x) e = cc

not-so : (b : Bool) → not b ≡ true → b ≡ true → ⊥
not-so true e f = cc
not-so false e f = cc

both_true : (p q : Bool) → p ≡ true → q ≡ true → (p && q) ≡ true
both_true p q e f = (λ i. e i && f i)

-- ---- the answers that tell how a wait stands

poll-same : (settled : Option Settled) → poll_answer settled ≡ to_poll settled
poll-same None = refl
poll-same (Some how) = refl

time_out-same : (a : Core) (who : ℕ) (settled : Option Settled) → (timing_out_at who settled a).0 ≡ to_time_out settled
time_out-same a who None = refl
time_out-same a who (Some how) = refl

end-same : (a : Core) (who : ℕ) (wait : Pending) (settled : Option Settled) → (ending_at who wait settled a).0 ≡ to_end wait.id settled
end-same a who wait None = refl
end-same a who wait (Some settled_as.Granted) = refl
end-same a who wait (Some settled_as.Victim) = refl
end-same a who wait (Some settled_as.Timeout) = refl
end-same a who wait (Some settled_as.Killed) = refl

-- ---- searches

-- of two victims of a cycle neither weighs more, and neither has the less number
one-victim : (a : Core) (cycle : List ℕ) (one other : ℕ) → IsVictimOf (system_of a) cycle one → IsVictimOf (system_of a) cycle other → one ≡ other
one-victim a cycle one other (among, (weight, weighs, least)) (among_too, (heavy, weighs_too, least_too)) =
    let first = least other heavy among_too weighs_too in
    let second = least_too one weight among weighs in
    grind (arith)

searches : (a : Core) (who : ℕ) → IsTied a → IsAnswer (ToSearch (system_of a) who) (search_deadlock_outcome who a).0
searches a who tied =
    option_cases (λ o. IsAnswer (ToSearch (system_of a) who) (searching_of o a).0) (victim_at who a)
    (λ none. where-not _ _ (Only No_cycle) No_cycle (λ deadlock. nothing-found a who tied none deadlock.0 deadlock.1) (only No_cycle))
    (λ victim e. found victim (victim-found a who victim tied e))
  where
    found : (victim : ℕ) → (cycle : List ℕ) × IsChosenDeadlock (system_of a) who cycle × IsVictimOf (system_of a) cycle victim
        → IsAnswer (ToSearch (system_of a) who) (Victim_is victim)
    found victim (cycle, chosen, falls) =
        where-so _ _ (Only No_cycle) (Victim_is victim) (cycle, chosen.0)
        (λ y. (
          (λ told. (
              let cycles : told.0 ≡ cycle = before_same told.0 cycle (told.2.1 cycle chosen.0) (chosen.1 told.0 told.2.0) in
              let same = one-victim a cycle told.1 victim (subst (λ c. IsVictimOf (system_of a) c told.1) cycles told.3) falls in
              told.4 ∙ ap (λ n. Victim_is n) same)),
          λ is. (cycle, victim, chosen, falls, is),
        ))

-- ---- what stands under a key

changes : (a : Core) (place : ℕ) (change : Change)
    → IsAnswer (ToChange (key_at place a) change (defined_in (book_at place a))) (redefined_unless (redefining_fault place change a) place change a).0
changes a place change =
    test_cases (λ why. IsAnswer (ToChange (key_at place a) change (defined_in (book_at place a))) (redefined_unless why place change a).0)
    (nat_le 1000000 (standing_at place a).version) _ _
    (λ full. unmet _ VersionFull _ (at_limit 1000000 (standing_at place a).version full))
    (λ few. met _ VersionFull _ _ (below_limit 1000000 (standing_at place a).version few)
    (test_cases (λ why. IsAnswer (RefusedUnless (suits (key_at place a).namespace change ≡ true) WrongKind by_fault) (redefined_unless why place change a).0)
    (not (suits (key_at place a).namespace change)) _ _
    (λ unfit. unmet _ WrongKind _ (not-so _ unfit))
    (λ fits. met _ WrongKind _ _ (not_false _ fits)
    (option_cases (λ o. IsAnswer (λ y. MatchOption o (y ≡ Changed ((standing_at place a).version + 1)) (λ why. y ≡ Refused (Def why)))
    (redefined_unless (option_map why_not.Def o) place change a).0) (change_fault (standing_at place a).definition change)
    (λ none. only _) (λ why is. only _)))))
  where
    by_fault : Right
    by_fault y =
        MatchOption (change_fault (standing_at place a).definition change) (y ≡ Changed ((standing_at place a).version + 1)) (λ why. y ≡ Refused (Def why))

-- ---- calls of a session

module _ (a : Core) (who : ℕ) (sound : IsSoundCore a) (has : has_session who a ≡ true) where
  says : HasWhatTheSystemSays a who
  says = (sessions-have a who sound).0 has

  idle-so : is_some (seat_at who a).wait ≡ false → HasNoWait (system_of a) who
  idle-so none = says.free.0 (none-there _ none)

  waiting-so : is_some (seat_at who a).wait ≡ true → HasNoWait (system_of a) who → ⊥
  waiting-so some free = false≢true (sym (ap is_some (says.free.1 free)) ∙ some)

  -- granted where that can be
  abbrev OrElse : ℕ → Mode → (KeyName → Right) → Right
  OrElse place mode Otherwise =
      Where (IsGrantable (system_of a) who (key_at place a) mode) (ToGrant (system_of a) (numbers_at a who) (key_at place a)) (Otherwise (key_at place a))

  granted-or : (place : ℕ) (mode : Mode) (Otherwise : KeyName → Right) (otherwise : Answer × Core) → has_key place a ≡ true
      → IsAnswer (Otherwise (key_at place a)) otherwise.0
      → IsAnswer (OrElse place mode Otherwise) (if not (is_free_for who place mode a) then otherwise else granted_unless_full who place mode a).0
  granted-or place mode Otherwise otherwise key other =
      let free = free-grantable a who place mode sound.tied key in
      test_cases (λ (r : Answer × Core). IsAnswer (OrElse place mode Otherwise) r.0)
      (not (is_free_for who place mode a)) otherwise (granted_unless_full who place mode a)
      (λ kept. where-not _ _ (Otherwise (key_at place a)) otherwise.0 (λ grantable. not-so _ kept (free.1 grantable)) other)
      (λ may. where-so _ (ToGrant (system_of a) (numbers_at a who) (key_at place a)) _ _ (free.0 (not_false _ may)) (grants a sound.tied place key who mode))

  -- a lock is asked for
  asks : (place : ℕ) (mode : Mode) (Otherwise : KeyName → Right) (otherwise : Answer × Core)
      → (has_key place a ≡ true → IsAnswer (Otherwise (key_at place a)) otherwise.0)
      → IsAnswer (ToAsk (system_of a) (places_of a) (pins_at a who) (numbers_at a who) who place mode Otherwise)
      (refused_or (first_cause (request_causes who place mode a)) a (if not (is_free_for who place mode a) then otherwise else granted_unless_full who place mode a)).0
  asks place mode Otherwise otherwise other =
      cause_cases (λ (r : Answer × Core). IsAnswer (ToAsk (system_of a) (places_of a) (pins_at a who) (numbers_at a who) who place mode Otherwise) r.0) a
      (if not (is_free_for who place mode a) then otherwise else granted_unless_full who place mode a) (request_causes who place mode a) (
        (λ absent. not-pinned a (pins_at a who) place _ (pin-unlisted a who place (not_true _ absent))),
        λ there. (
            let pin = not_false _ there in
            let among = pin-listed a who place pin in
            let key = sound.tied.pinned who place has pin in (
              (λ waits. at-pin a (pins_at a who) place _ _ among key (unmet _ AlreadyWaiting _ (waiting-so waits))),
              λ idle. (
                (λ unfit. at-pin a (pins_at a who) place _ _ among key (met _ AlreadyWaiting _ _ (idle-so idle) (unmet _ BadMode _ (not-so _ unfit)))),
                λ fits. (
                  (λ out. at-pin a (pins_at a who) place _ _ among key (met _ AlreadyWaiting _ _ (idle-so idle)
                      (met _ BadMode _ _ (not_false _ fits) (unmet _ CounterFull _ (at_limit _ _ out))))),
                  λ some. at-pin a (pins_at a who) place _ _ among key (met _ AlreadyWaiting _ _ (idle-so idle)
                      (met _ BadMode _ _ (not_false _ fits) (met _ CounterFull _ _ (below_limit _ _ some)
                      (granted-or place mode Otherwise otherwise key (other key))))),
                ),
              ),
            )),
      )

  -- a second ticket is asked for beside a held one
  clones : (ticket : Held) (mode : Mode) → has_key ticket.place a ≡ true
      → IsAnswer (ToClone (system_of a) (numbers_at a who) who mode (holding_of who ticket a)) (cloning_of who mode (Some ticket) a).0
  clones ticket mode key =
      cause_cases (λ (r : Answer × Core). IsAnswer (ToClone (system_of a) (numbers_at a who) who mode (holding_of who ticket a)) r.0) a
      (granted_unless_full who ticket.place mode a) (clone_causes who mode ticket a) (
        (λ waits. unmet _ AlreadyWaiting _ (waiting-so waits)),
        λ idle. (
          (λ unfit. met _ AlreadyWaiting _ _ (idle-so idle) (unmet _ BadMode _ (λ both. not-so _ unfit (both_true _ _ both.0 both.1)))),
          λ fits. (let both = and_parts _ _ (not_false _ fits) in (
            (λ out. met _ AlreadyWaiting _ _ (idle-so idle) (met _ BadMode _ _ both (unmet _ CounterFull _ (at_limit _ _ out)))),
            λ some. met _ AlreadyWaiting _ _ (idle-so idle) (met _ BadMode _ _ both (met _ CounterFull _ _ (below_limit _ _ some)
                (grants a sound.tied ticket.place key who mode))),
          )),
        ),
      )

  -- a held ticket in a stronger mode
  upgrades : (mode : Mode) (ticket : Held) → has_key ticket.place a ≡ true
      → IsAnswer (ToUpgrade (system_of a) who mode (holding_of who ticket a)) (upgrading_of who mode (Some ticket) a).0
  upgrades mode ticket key =
      cause_cases (λ (r : Answer × Core). IsAnswer (ToUpgrade (system_of a) who mode (holding_of who ticket a)) r.0) a
      (upgraded_if_free who mode ticket a) (upgrade_causes who mode ticket a) (
        (λ unfit. unmet _ NotUpgradable _ (λ both. not-so _ unfit (both_true _ _ both.0 both.1))),
        λ fits. (let both = and_parts _ _ (not_false _ fits) in (
          (λ waits. met _ NotUpgradable _ _ both (unmet _ AlreadyWaiting _ (waiting-so waits))),
          λ idle. met _ NotUpgradable _ _ both (met _ AlreadyWaiting _ _ (idle-so idle) upgraded),
        )),
      )
    where
      Had : Type 0
      Had = (covers ticket.mode mode ≡ true) ⊎ IsGrantable (system_of a) who (key_at ticket.place a) mode

      upgraded : IsAnswer (Where Had (Only Upgraded) (Only Would_wait)) (upgraded_if_free who mode ticket a).0
      upgraded =
          test_cases (λ (r : Answer × Core). IsAnswer (Where Had (Only Upgraded) (Only Would_wait)) r.0) (covers ticket.mode mode) (Upgraded, a) _
          (λ strong. where-so _ _ (Only Would_wait) Upgraded (inl strong) (only Upgraded))
          (λ weak. test_cases (λ (r : Answer × Core). IsAnswer (Where Had (Only Upgraded) (Only Would_wait)) r.0)
          (not (is_free_for who ticket.place mode a)) (Would_wait, a) (Upgraded, altering who ticket mode a)
          (λ busy. where-not _ (Only Upgraded) _ Would_wait
          (λ had. elim had [ inl strong ↦ false≢true (sym weak ∙ strong) | inr grantable ↦ not-so _ busy (free.1 grantable) ]) (only Would_wait))
          (λ may. where-so _ _ (Only Would_wait) Upgraded (inr (free.0 (not_false _ may))) (only Upgraded)))
        where
          free : (is_free_for who ticket.place mode a ≡ true) ↔ IsGrantable (system_of a) who (key_at ticket.place a) mode
          free = free-grantable a who ticket.place mode sound.tied key

  -- and in a weaker one
  downgrades_to : (mode : Mode) (ticket : Held) → IsAnswer (ToDowngrade mode (holding_of who ticket a)) (downgrading_of who mode (Some ticket) a).0
  downgrades_to mode ticket =
      test_cases (λ (r : Answer × Core). IsAnswer (ToDowngrade mode (holding_of who ticket a)) r.0) (not (is_lower mode ticket a)) (Refused NotUpgradable, a) _
      (λ unfit. unmet _ NotUpgradable (Only Done) (λ both. not-so _ unfit (both_true _ _ both.0 both.1)))
      (λ fits. met _ NotUpgradable (Only Done) Done (and_parts _ _ (not_false _ fits)) (only Done))

  -- two held tickets made one
  merges : (kept gone : Held) → has_key kept.place a ≡ true → has_key gone.place a ≡ true
      → IsAnswer (ToMerge (system_of a) who (holding_of who kept a) (holding_of who gone a)) (merging_of who (Some kept) (Some gone) a).0
  merges kept gone here there =
      cause_cases (λ (r : Answer × Core). IsAnswer (ToMerge (system_of a) who (holding_of who kept a) (holding_of who gone a)) r.0) a
      (Done, serving kept.place (folding who kept gone a)) (merge_causes who kept gone a) (
        (λ waits. unmet _ AlreadyWaiting _ (waiting-so waits)),
        λ idle. (
          (λ unfit. met _ AlreadyWaiting _ _ (idle-so idle) (unmet _ BadMode (Only Done) (λ each. not-so _ unfit (mergeable each)))),
          λ fits. (let may = not_false _ fits in
              met _ AlreadyWaiting _ _ (idle-so idle) (met _ BadMode (Only Done) Done
              (merged_numbers kept gone may, ap (λ p. key_at p a) (sym (merged_place kept gone may)), merged_mode kept gone may) (only Done))),
        ),
      )
    where
      mergeable : (kept.id ≢ gone.id) × (key_at gone.place a ≡ key_at kept.place a) × (covers gone.mode kept.mode ≡ true) → may_merge kept gone ≡ true
      mergeable (two, key, strong) =
          let same : kept.place ≡ gone.place = sound.tied.keys kept.place gone.place here there (sym key) in
          both_true _ _ (both_true _ _ (apart (kept.id == gone.id) (λ e. two (eqb-true _ _ e))) (eq-eqb _ _ same)) strong
        where
          apart : (b : Bool) → (b ≡ true → ⊥) → not b ≡ true
          apart true n = absurd (n refl)
          apart false n = refl

  -- by a held ticket, or none
  by-ticket : (id : ℕ) (Then : Holding → Right) (answered : Option Held → Answer × Core) → (answered None).0 ≡ Refused NotHeld
      → ((ticket : Held) → has_key ticket.place a ≡ true → IsAnswer (Then (holding_of who ticket a)) (answered (Some ticket)).0)
      → IsAnswer (OfHolding (system_of a) who id Then) (answered (held_ticket who id a)).0
  by-ticket id Then answered none each =
      option_cases (λ o. IsAnswer (OfHolding (system_of a) who id Then) (answered o).0) (held_ticket who id a)
      (λ lacks. subst (IsAnswer (OfHolding (system_of a) who id Then)) (sym none) (no-ticket a who sound.tied has says id Then lacks))
      (λ ticket e. of-ticket a who sound.tied has says id ticket Then _ e (each ticket (held-place a who id ticket sound.tied has e)))

  -- by the session's wait, or none
  by-wait : (Without : Right) (Then : ℕ → ℕ → Option Settled → Right) (answered : Option Pending → Answer × Core)
      → IsAnswer Without (answered None).0
      → ((wait : Pending) → IsAnswer (Then wait.number wait.id wait.settled) (answered (Some wait)).0)
      → IsAnswer (OfWait (system_of a) who Without Then) (answered (seat_at who a).wait).0
  by-wait Without Then answered none each =
      option_cases (λ o. IsAnswer (OfWait (system_of a) who Without Then) (answered o).0) (seat_at who a).wait
      (λ idle. without-wait (system_of a) who Without Then _ (says.free.0 idle) none)
      (λ wait e. of-wait a who sound.tied has says wait e Without Then _ (each wait))

  reads : (ticket : Held) → has_key ticket.place a ≡ true
      → IsAnswer (ToRead ((system_of a).definitions (key_at ticket.place a))) (reading_of (Some ticket) a).0
  reads ticket key =
      subst (λ book. IsAnswer (ToRead (defined_in book)) (reading_of (Some ticket) a).0) (sym (book_of-at a ticket.place sound.tied key)) (only _)

  -- a change under a held ticket
  abbrev Redefined : Change → Held → Right
  Redefined change ticket =
      RefusedUnless (ticket.mode ≡ X) NotExclusive (ToChange (key_at ticket.place a) change ((system_of a).definitions (key_at ticket.place a)))

  redefines : (change : Change) (ticket : Held) → has_key ticket.place a ≡ true → IsAnswer (Redefined change ticket) (redefining_of (Some ticket) change a).0
  redefines change ticket key =
      test_cases (λ (r : Answer × Core). IsAnswer (Redefined change ticket) r.0)
      (not (same_mode ticket.mode X)) (Refused NotExclusive, a) (redefined_unless (redefining_fault ticket.place change a) ticket.place change a)
      (λ shared. unmet _ NotExclusive _ (λ is. not-so _ shared (ap (λ mode. same_mode mode X) is)))
      (λ exclusive. met _ NotExclusive _ _ (exclusive-is ticket.mode (not_false _ exclusive))
      (subst (λ book. IsAnswer (ToChange (key_at ticket.place a) change (defined_in book))
      (redefined_unless (redefining_fault ticket.place change a) ticket.place change a).0)
      (sym (book_of-at a ticket.place sound.tied key)) (changes a ticket.place change)))

-- ---- waits of others

looks : (a : Core) (target : ℕ) → IsSoundCore a
    → IsAnswer (OfWait (system_of a) target (Only (Has_wait None)) (λ number id settled. Only (Has_wait (Some number)))) (wait_of_outcome target a).0
looks a target sound = go (has_session target a) refl
  where
    go : (b : Bool) → has_session target a ≡ b
        → IsAnswer (OfWait (system_of a) target (Only (Has_wait None)) (λ number id settled. Only (Has_wait (Some number)))) (wait_of_outcome target a).0
    go true has =
        subst (λ (o : Option Pending). IsAnswer (OfWait (system_of a) target (Only (Has_wait None)) (λ number id settled. Only (Has_wait (Some number))))
        (Has_wait (option_map (λ (wait : Pending). wait.number) o))) (sym (wait-of_session a target has))
        (by-wait a target sound has (Only (Has_wait None)) (λ number id settled. Only (Has_wait (Some number)))
        (λ o. (Has_wait (option_map (λ (wait : Pending). wait.number) o), a)) (only _) (λ wait. only _))
    go false none =
        subst (λ b. IsAnswer (OfWait (system_of a) target (Only (Has_wait None)) (λ number id settled. Only (Has_wait (Some number))))
        (Has_wait (option_map (λ (wait : Pending). wait.number) (if b then (seat_at target a).wait else None)))) (sym none)
        (without-wait (system_of a) target _ _ _ ((sessions-have a target sound).1 none).1 (only _))

kills : (a : Core) (target number : ℕ) → IsSoundCore a
    → IsAnswer (Where (WaitsSomewhere (system_of a) target number) (Only (Has_killed true)) (Only (Has_killed false))) (kill_outcome target number a).0
kills a target number sound =
    test_cases (λ (r : Answer × Core). IsAnswer (Where (WaitsSomewhere (system_of a) target number) (Only (Has_killed true)) (Only (Has_killed false))) r.0)
    (is_open_wait number (wait_at target a)) _ _
    (λ stands. where-so _ _ (Only (Has_killed false)) _ ((waits-somewhere a target number sound).0
    (let h = killed_wait a target number stands in (h.1, h.0, h.2, h.3, h.4))) (only _))
    (λ gone. where-not _ (Only (Has_killed true)) _ _
    (λ somewhere. false≢true (sym gone ∙ found-open a target number ((waits-somewhere a target number sound).1 somewhere))) (only _))

-- ---- all calls

determined : (a : Core) (call : Call) → IsSoundCore a → IfSome (caller call) (SpeaksFor a)
    → IsAnswer (Determines (system_of a) (places_of a) (pins_at a) (numbers_at a) call) (outcome call a).0
determined a (Resolve who key) sound speaks = resolves a sound.tied who key
determined a (Try_now who place mode) sound speaks = asks a who sound speaks.0 place mode _ (Would_wait, a) (λ key. only Would_wait)
determined a (Begin_wait who place mode) sound speaks =
    asks a who sound speaks.0 place mode _ (queued_unless_full who place mode a) (λ key. queues a sound.tied place key who mode)
determined a (Search who) sound speaks = searches a who sound.tied
determined a (Poll_wait who) sound speaks =
    by-wait a who sound speaks.0 _ _ (λ o. polling_of o a) (only _) (λ wait. subst (IsAnswer _) (sym (poll-same wait.settled)) (only _))
determined a (Settle_timeout who) sound speaks =
    by-wait a who sound speaks.0 _ _ (λ o. timing_out_of who o a) (only _) (λ wait. subst (IsAnswer _) (sym (time_out-same a who wait.settled)) (only _))
determined a (End_wait who) sound speaks =
    by-wait a who sound speaks.0 _ _ (λ o. ending_of who o a) (only _) (λ wait. subst (IsAnswer _) (sym (end-same a who wait wait.settled)) (only _))
determined a (Wait_of target) sound speaks = looks a target sound
determined a (Kill target number) sound speaks = kills a target number sound
determined a (Release who id) sound speaks = by-ticket a who sound speaks.0 id _ (λ o. releasing_of who o a) refl (λ ticket key. only Done)
determined a (Clone_ticket who id mode) sound speaks =
    by-ticket a who sound speaks.0 id _ (λ o. cloning_of who mode o a) refl (λ ticket key. clones a who sound speaks.0 ticket mode key)
determined a (Upgrade_now who id mode) sound speaks =
    by-ticket a who sound speaks.0 id _ (λ o. upgrading_of who mode o a) refl (upgrades a who sound speaks.0 mode)
determined a (Merge who old new) sound speaks =
    by-ticket a who sound speaks.0 old (λ kept. OfHolding (system_of a) who new (ToMerge (system_of a) who kept)) (λ o. merging_of who o (held_ticket who new a) a) refl
    (λ kept here. by-ticket a who sound speaks.0 new _ (λ o. merging_of who (Some kept) o a) refl (λ gone there. merges a who sound speaks.0 kept gone here there))
determined a (Downgrade who id mode) sound speaks =
    by-ticket a who sound speaks.0 id _ (λ o. downgrading_of who mode o a) refl (λ ticket key. downgrades_to a who sound speaks.0 mode ticket)
determined a (Read_definition who id) sound speaks =
    by-ticket a who sound speaks.0 id _ (λ o. reading_of o a) refl (reads a who sound speaks.0)
determined a (Read_kept who id) sound speaks =
    by-ticket a who sound speaks.0 id _ (λ o. reading_of o a) refl (reads a who sound speaks.0)
determined a (Change_definition who id change) sound speaks =
    by-ticket a who sound speaks.0 id _ (λ o. redefining_of o change a) refl (redefines a who sound speaks.0 change)
determined a (Key_of who place) sound speaks = names a place
determined a (Tables_of who schema) sound speaks = tells-tables a schema sound.tied
determined a (List_held who) sound speaks = lists a who sound.tied speaks.0 ((sessions-have a who sound).0 speaks.0)
determined a (Unpin who place) sound speaks = unpins a who place sound.tied speaks.0

pub answers-determined : AnswersAreDetermined
answers-determined a b call answer other sound (speaks, inl out) memory = absurd (false≢true (sym memory ∙ ap finds_no_memory out.1))
answers-determined a b call answer other sound (speaks, inr made) memory =
    subst (λ (r : Answer × Core). IsAnswer (Determines (system_of a) (places_of a) (pins_at a) (numbers_at a) call) r.0) made (determined a call sound speaks) other
