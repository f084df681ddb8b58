-- A session reads the word of its wait, and ends the wait where it is settled.
use Rattle.std.proofs.Common.{◌≡◌, ℕ, true, is_some, List, [], ◌∷◌, ◌++◌, Option, Some, None, inr, refl, sym, ap, subst, ◌∙◌}
use Rattle.mdl_calls.specs.declared.answers.Settled.TheVariants as settled_as
use Rattle.mdl_shared.proofs.FirstLemmas.{Ask, AtItsTable, Does, EndWait, End_wait, EndsByOneStep, EndsLost, EndsOwnWait, EndsWait, Gain, Granted, HasRescheduled, IsMember, Is_settled, Joins, KeepsRoom, LooksThen, Lost, Mine, Pays, Poll_wait, ReadWait, Refused, Room, SeatState, SessionView, Settled, Shows, ShowsStep, StepRecord, TableId, TellsOwn, Unsettled, VisitsOnce, all_but, data_of, does_then, done-nothing, ended_granted, goes_by, granted_state, idle, if-clear, is_answer_of, lists_seen, mine_without_wait, owed-still, owned, rescheduled_after, session_at, settled_of, settled_state, step_after, taken_over, wait_fault, wait_in, wait_state, wait_word}
use Rattle.mdl_shared.proofs.EndCalls.{HasEnded, ended-debts, lost-joins, unsettled-joins, won-joins}
use Rattle.mdl_shared.proofs.PollCalls.{in-state, poll-pending, poll-settled, polls, settled-is, settled-more, unsettled}
use Rattle.mdl_shared.proofs.WaitSteps.{told-own, word-step}

module _ {s mid : SessionView} (is : IsMember s) (a : Ask) (asks : s.me.0.asks ≡ Some a) (session found : ℕ) (mine : session ≡ s.me.0.number)
    (own : TellsOwn s.table.slots session found s.me.0) (now : mid ≡ word-step ReadWait session found found s.me.0.settles s) where
  waiting : is_some s.me.0.asks ≡ true
  waiting = ap is_some asks

  clear : wait_fault s.me.0.asks ≡ None
  clear = ap wait_fault asks

  -- the first step met the wait in this state
  looks : (state : ℕ) → found ≡ wait_in s.me.0.waits state → (fact : Mine → Type 0) → fact mid.me → LooksThen state (lists_seen s.me.0) s fact
  looks state its fact so =
      let look : StepRecord = record { kind = ReadWait; deeds = []; word = wait_word s.table.slots session; found = found; held = s.me.0.latches; directory = s.me.0.directory } in (
        mid.me,
        look,
        ap (λ (x : SessionView). x.me.0.log) now,
        ap (λ (x : SessionView). x.me.0.directory) now,
        record { word = ap (wait_word s.table.slots) mine; found = its },
        so,
      )

  there : (one : Settled) → settled_of (wait_state found) ≡ Some one → found ≡ wait_in s.me.0.waits (settled_state one)
  there one some = in-state is waiting session found mine own (settled_state one) (settled-is (wait_state found) one some)

  -- ---- it is not settled

  pub unsettled-end : settled_of (wait_state found) ≡ None
      → Joins (data_of s) (End_wait s.me.0.number) (Refused Unsettled) (data_of mid) × Shows (End_wait s.me.0.number) (Refused Unsettled) s mid
  unsettled-end none =
      let polled = poll-pending is waiting session found mine own now none in
      let shown = polled.1 in (
        unsettled-joins is a asks (done-nothing (polls is waiting session found mine own now).done)
            (λ how knows. let e : None ≡ Some how = polled.0.agreed None how refl knows in cc),
        record {
          table = shown.table;
          sessions = shown.sessions;
          refused = if-clear _ (wait_fault s.me.0.asks) clear;
          did = shown.did;
          settled = shown.settled;
          told = tt;
          met = inr (refl, looks 1 (unsettled is waiting session found mine own none) (λ (m : Mine). mid.me ≡ m) refl);
          room = shown.room;
          debts = shown.debts;
          owes = shown.owes;
        },
      )

  -- ---- it is settled

  module _ (one : Settled) (some : settled_of (wait_state found) ≡ Some one) where
    polled : Joins (data_of s) (Poll_wait s.me.0.number) (Is_settled one) (data_of mid) × Shows (Poll_wait s.me.0.number) (Is_settled one) s mid
    polled = poll-settled is waiting session found mine own now one some

    agreed : (how : Settled) → (data_of s).settled ≡ Some how → one ≡ how
    agreed how knows = let e : Some one ≡ Some how = polled.0.agreed (Some one) how refl knows in cc

    -- the session knows that then
    pub told-end : mid.me.0.told ≡ Some (settled_state one)
    told-end =
        let its = settled-is (wait_state found) one some in
        told-own ReadWait session found found s.me.0.settles s mid now mine (settled-more (wait_state found) one its) ∙ ap Some its

    did : (s′ : SessionView) → Does [] mid.me s′.me → Does [] s.me s′.me
    did s′ ends = does_then [] [] s.me mid.me s′.me polled.1.did ends

    -- the step that ends it comes after the one that read it
    met : (s′ : SessionView) → ShowsStep mid s′ (EndsWait mid.table.slots mid.me.0.number mid.me.0.waits (settled_state one)) → EndsOwnWait (settled_state one) (lists_seen s.me.0) s s′
    met s′ shown =
        let read = polled.1.met.0 in (
          shown.0,
          step_after s.me mid.me s′.me (goes_by s.me mid.me read.0 read.1) shown.0 shown.1,
          subst (λ (x : SessionView). EndsWait x.table.slots x.me.0.number x.me.0.waits (settled_state one) shown.0) now shown.2,
        )

    -- ---- it was lost

    pub lost-end : {s′ : SessionView} → Does [] mid.me s′.me → ShowsStep mid s′ (EndsWait mid.table.slots mid.me.0.number mid.me.0.waits (settled_state one)) → is_answer_of (End_wait s.me.0.number) (Lost one) ≡ true → HasEnded s.me.0.slow s s′
        → HasRescheduled mid.table a.place (mine_without_wait mid.me) s′.me → VisitsOnce a.place mid.me s′.me → Pays a.place s.me s′.me
        → KeepsRoom 0 s.room s′.room
        → Joins (data_of s) (End_wait s.me.0.number) (Lost one) (data_of s′) × Shows (End_wait s.me.0.number) (Lost one) s s′
    lost-end {s′} ends shows fits ended rescheduled once pays keeps =
        let shown = polled.1 in
        let stayed = shown.met.1 in (
          lost-joins is a asks one fits agreed ended,
          record {
            table = ap (λ (x : SessionView). x.table) ended.now;
            sessions = ap (λ (x : SessionView). x.sessions) ended.now;
            refused = if-clear _ (wait_fault s.me.0.asks) clear;
            did = did s′ ends;
            settled = tt;
            told = tt;
            met = (
              met s′ shows,
              (
                a,
                asks,
                rescheduled_after s.table a.place (mine_without_wait s.me) (mine_without_wait mid.me) s′.me (stayed.0, stayed.1, stayed.2) shown.settled refl
                    (ap (λ (x : SessionView). x.me.0.number) now) refl
                    (subst (λ (id : TableId). HasRescheduled id a.place (mine_without_wait mid.me) s′.me) shown.table rescheduled),
                looks (settled_state one) (there one some) (λ (m : Mine). VisitsOnce a.place m s′.me) once,
                pays,
              ),
            );
            room = keeps;
            debts = ended-debts ended;
            owes = ap (λ (x : SessionView). x.me.0.searches) ended.now;
          },
        )

    -- ---- it was granted

    pub won-end : one ≡ settled_as.Granted → {s′ : SessionView} → Does [] mid.me s′.me
        → (e : StepRecord) × (s′.me.0.log ≡ mid.me.0.log ++ e ∷ []) × EndsWait mid.table.slots mid.me.0.number mid.me.0.waits granted_state e → (ended : HasEnded (owned a.place (Gain a.number a.mode) s.me.0.slow) s s′) → ended.settles ≡ s.me.0.settles
        → ended.owes ≡ s.me.0.owes
        → KeepsRoom 1 s.room s′.room → Joins (data_of s) (End_wait s.me.0.number) (Granted a.number) (data_of s′) × Shows (End_wait s.me.0.number) (Granted a.number) s s′
    won-end granted {s′} ends last ended settles owes keeps = (
      won-joins is a asks (λ how knows. sym granted ∙ agreed how knows) ended,
      record {
        table = ap (λ (x : SessionView). x.table) ended.now;
        sessions = ap (λ (x : SessionView). x.sessions) ended.now;
        refused = if-clear _ (wait_fault s.me.0.asks) clear;
        did = did s′ ends;
        settled = ap (λ (x : SessionView). x.me.0.settles) ended.now ∙ settles;
        told = tt;
        met = looks granted_state (there one some ∙ ap (λ (how : Settled). wait_in s.me.0.waits (settled_state how)) granted) (EndsByOneStep granted_state (lists_seen s.me.0) s s′)
            (last.0, last.1, subst (λ (x : SessionView). EndsWait x.table.slots x.me.0.number x.me.0.waits granted_state last.0) now last.2);
        room = keeps;
        debts = ended-debts ended;
        owes = (ap (λ (x : SessionView). x.me.0.owes) ended.now ∙ owes, ap (λ (x : SessionView). x.me.0.searches) ended.now);
      },
    )

-- ---- the steps that end it

-- a granted wait ends by one
pub ends-granted : (mid seat′ : SeatState) → seat′ ≡ record mid { me = ended_granted mid.table.slots mid.me }
    → (e : StepRecord) × (seat′.me.0.log ≡ mid.me.0.log ++ e ∷ []) × EndsWait mid.table.slots mid.me.0.number mid.me.0.waits granted_state e
ends-granted mid seat′ made =
    let e : StepRecord = record { kind = EndWait; deeds = []; word = wait_word mid.table.slots mid.me.0.number; found = wait_in mid.me.0.waits granted_state; held = mid.me.0.latches; directory = mid.me.0.directory } in
    (e, ap (λ (x : SeatState). x.me.0.log) made, record { kind = refl; wait = record { word = refl; found = refl } })

module _ {seat mid seat′ : SeatState} (sessions session found : ℕ) {room : Room} {pins : List ℕ}
    (now : session_at mid sessions room pins ≡ word-step ReadWait session found found seat.me.0.settles (session_at seat sessions room pins)) where
  -- as lost
  pub ended-lost : {room′ : Room} {place : ℕ} → AtItsTable mid seat′ (EndsLost mid.table place)
      → HasEnded seat.me.0.slow (session_at seat sessions room pins) (session_at seat′ sessions room′ pins)
  ended-lost {room′} {place} ends =
      let went = ends.1 in
      let table : seat′.table ≡ seat.table = ends.0 ∙ ap (λ (x : SessionView). x.table) now in
      let told : went.told ≡ None = sym (ap (λ (m : Mine). m.0.told) went.now) ∙ went.way.unasked refl in
      let me : seat′.me ≡ (record seat.me.0 { asks = None; told = None; owes = all_but place seat.me.0.owes; settles = went.settles; log = mid.me.0.log ++ went.made }, seat.me.1) =
      went.now
      ∙ ap (λ (x : SessionView). (record (idle x.me.0) { told = went.told; owes = all_but place x.me.0.owes; settles = went.settles; log = mid.me.0.log ++ went.made }, x.me.1)) now
      ∙ ap (λ (o : Option ℕ). (record (idle seat.me.0) { told = o; owes = all_but place seat.me.0.owes; settles = went.settles; log = mid.me.0.log ++ went.made }, seat.me.1)) told in
      record {
        owes = all_but place seat.me.0.owes;
        settles = went.settles;
        log = mid.me.0.log ++ went.made;
        room = room′;
        now = λ i. record { table = table i; sessions = sessions; me = me i; room = room′; pins = pins };
        owed = λ q owed. owed-still q place seat.me.0.owes owed;
      }

  -- as granted, without settling any wait, or paying a debt
  pub ended-won : {room′ : Room} (a : Ask) → seat.me.0.asks ≡ Some a → seat′ ≡ record mid { me = ended_granted mid.table.slots mid.me }
      → (ended : HasEnded (owned a.place (Gain a.number a.mode) seat.me.0.slow) (session_at seat sessions room pins) (session_at seat′ sessions room′ pins)) × (ended.settles ≡ seat.me.0.settles)
      × (ended.owes ≡ seat.me.0.owes)
  ended-won {room′} a asks made =
      let log = (ended_granted mid.table.slots mid.me).0.log in (
        record {
          owes = seat.me.0.owes;
          settles = seat.me.0.settles;
          log = log;
          room = room′;
          now =
              ap (λ (x : SeatState). session_at x sessions room′ pins) made
              ∙ ap (λ (x : SessionView). record x { me = (record x.me.0 { slow = x.me.0.slow ++ taken_over x.me.0.asks x.me.0.slow; asks = None; told = None; log = log }, x.me.1); room = room′ }) now
              ∙ ap (λ (o : Option Ask). record (session_at seat sessions room pins) { me = (record seat.me.0 { slow = seat.me.0.slow ++ taken_over o seat.me.0.slow; asks = None; told = None; log = log }, seat.me.1); room = room′ }) asks;
          owed = λ q owed. owed;
        },
        refl,
        refl,
      )
