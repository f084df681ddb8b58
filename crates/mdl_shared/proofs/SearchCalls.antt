-- Searches for deadlocks, which may settle the wait of the session itself. Before it searches the session reads whether its wait is settled already.
use Rattle.std.proofs.Common.{◌≡◌, ℕ, true, false, is_some, [], Result, Option, Some, None, Ok, Err, inl, inr, refl, sym, ap, subst, ◌∙◌, arith, IfOk, IfErr}
use Rattle.mdl_calls.specs.declared.answers.Search.TheVariants as found
use Rattle.mdl_shared.proofs.FirstLemmas.{Answer, DidDeeds, Does, Found, IsCause, IsMember, Joins, KeepsRoom, Knows, KnowsVictim, LooksAtKeys, No_cycle, OutOfMemory, ReadWait, ReadsUnsettled, Refused, Search, SearchesFor, SessionView, Settled, SettlesNothing, Shows, SpaceError, Stays, TellsOwn, Victim, Victim_is, data_of, does_then, done-debts, done-nothing, done-then, gained_by, joins-still, keeps-before, lists_seen, own_wait_read, refused, searched, settled_of, settled_state, speaks, told-settled, wait_in, wait_state}
use Rattle.mdl_shared.proofs.PollCalls.{in-state, polls, settled-is, settled-more, unsettled}
use Rattle.mdl_shared.proofs.WaitSteps.{asked, shows, told-own, word-step}
use Rattle.mdl_shared.specs.calls.Search.{search_deadlock}

pub search-joins : {s s′ : SessionView} → IsMember s → Stays s s′ → (result : Result Found SpaceError)
    → IfOk result (λ f. KnowsVictim s.me.0.number f s′.me) → IfErr result (λ why. why ≡ OutOfMemory)
    → Joins (data_of s) (Search s.me.0.number) (searched result) (data_of s′)
search-joins {s} {s′} is stays (Ok found.NoCycle) knows memory =
    joins-still s s′ (Search s.me.0.number) No_cycle stays (speaks is) refl refl refl tt refl (λ state how is. cc) (λ how is. cc) refl (λ r. r) tt
search-joins {s} {s′} is stays (Ok (found.Victim victim)) knows memory =
    joins-still s s′ (Search s.me.0.number) (Victim_is victim) stays (speaks is) refl refl refl tt refl (λ state how is. cc) (λ how is. cc) refl (λ r. r)
    (λ mine. told-settled s′.me.0.told Victim (knows mine))
search-joins {s} {s′} is stays (Err why) knows memory =
    refused s s′ (Search s.me.0.number) why stays (speaks is) refl
    (subst (λ (w : SpaceError). IsCause (Knows (data_of s) s.me.0.number) (Search s.me.0.number) w (data_of s).own) (sym memory) tt) (λ state how is. cc) tt

-- ---- whether the wait is settled

pub some-there : {T : Type 0} (o : Option T) → is_some o ≡ true → (x : T) × (o ≡ Some x)
some-there None e = cc
some-there (Some x) e = (x, refl)

settled-nowhere : (o : Option Settled) → is_some o ≡ false → o ≡ None
settled-nowhere None e = refl
settled-nowhere (Some how) e = cc

-- ---- a session that waits reads the word of its wait first

module _ {s mid : SessionView} (is : IsMember s) (waiting : is_some s.me.0.asks ≡ true) (session word : ℕ) (mine : session ≡ s.me.0.number)
    (own : TellsOwn s.table.slots session word s.me.0) (now : mid ≡ word-step ReadWait session word word s.me.0.settles s) where
  -- its wait was in this state
  reads : (state : ℕ) → word ≡ wait_in s.me.0.waits state → mid ≡ own_wait_read state (lists_seen s.me.0) s
  reads state its = now ∙ (λ i. word-step ReadWait (mine i) (its i) (its i) s.me.0.settles s)

  -- ---- it is settled

  pub search-settled : is_some (settled_of (wait_state word)) ≡ true
      → Joins (data_of s) (Search s.me.0.number) No_cycle (data_of mid) × Shows (Search s.me.0.number) No_cycle s mid
  search-settled some =
      let there = some-there (settled_of (wait_state word)) some in
      let one = there.0 in
      let its = settled-is (wait_state word) one there.1 in
      let told = told-own ReadWait session word word s.me.0.settles s mid now mine (settled-more (wait_state word) one its) ∙ ap Some its in
      let watched = polls is waiting session word mine own now in (
        search-joins is (done-nothing watched.done) (Ok found.NoCycle) tt tt,
        shows watched tt watched.did tt tt (λ owes searches. owes)
            (asked s waiting, λ asks. inl (one, ap (λ (x : SessionView). x.me) (reads (settled_state one) (in-state is waiting session word mine own (settled_state one) its)), told)),
      )

  -- ---- it isn't

  module _ (none : is_some (settled_of (wait_state word)) ≡ false) where
    open_word : word ≡ wait_in s.me.0.waits 1
    open_word = unsettled is waiting session word mine own (settled-nowhere (settled_of (wait_state word)) none)

    open_state : wait_state word ≡ 1
    open_state = let odd : wait_state (wait_in s.me.0.waits 1) ≡ 1 = omega arith in ap wait_state open_word ∙ odd

    -- and so the session wasn't told that it is
    untold : s.me.0.told ≡ None
    untold = by s.me.0.told refl
      where
        by : (o : Option ℕ) → s.me.0.told ≡ o → s.me.0.told ≡ None
        by None told = told
        by (Some state) told = let so = (own mine).told state told in let is_one = open_state in absurd (omega (arith, so.0, so.1, is_one))

    opens : (fact : SessionView → Type 0) → fact mid → ReadsUnsettled (lists_seen s.me.0) s fact
    opens fact so = (untold, subst fact (reads 1 open_word) so)

    module _ {s′ : SessionView} (done : DidDeeds 0 [] mid s′) (did : Does [] mid.me s′.me) (keeps : KeepsRoom 0 mid.room s′.room) (debts : s′.me.0.owes ≡ mid.me.0.owes) where
      both : DidDeeds 0 [] s s′
      both = done-then (polls is waiting session word mine own now).done done

      shown : (answer : Answer) → Does [] s.me s′.me → search_deadlock.settled answer (lists_seen s.me.0) s s′
          → search_deadlock.met answer (lists_seen s.me.0) s s′ → KeepsRoom (gained_by answer) s.room s′.room → Shows (Search s.me.0.number) answer s s′
      shown answer did settled met room = record {
        table = ap (λ (x : SessionView). x.table) both.now;
        sessions = ap (λ (x : SessionView). x.sessions) both.now;
        refused = tt;
        did = did;
        settled = settled;
        told = tt;
        met = met;
        room = room;
        debts = done-debts both;
        owes = debts ∙ (polls is waiting session word mine own now).owes;
      }

      -- a search by all books was made then
      pub search-unsettled : (result : Result Found SpaceError) → IfOk result (λ f. KnowsVictim mid.me.0.number f s′.me × SearchesFor f mid s′ × (f ≡ found.NoCycle → s′.me.0.searches ≡ false))
          → IfErr result (λ why. (why ≡ OutOfMemory) × SettlesNothing mid.me s′.me × LooksAtKeys mid s′)
          → Joins (data_of s) (Search s.me.0.number) (searched result) (data_of s′) × Shows (Search s.me.0.number) (searched result) s s′
      search-unsettled result ok_so err_so = by result ok_so err_so
        where
          all-did : Does [] s.me s′.me
          all-did = does_then [] [] s.me mid.me s′.me (polls is waiting session word mine own now).did did

          room : KeepsRoom 0 s.room s′.room
          room = keeps-before 0 s.room mid.room s′.room (polls is waiting session word mine own now).keeps keeps

          by : (result : Result Found SpaceError) → IfOk result (λ f. KnowsVictim mid.me.0.number f s′.me × SearchesFor f mid s′ × (f ≡ found.NoCycle → s′.me.0.searches ≡ false))
              → IfErr result (λ why. (why ≡ OutOfMemory) × SettlesNothing mid.me s′.me × LooksAtKeys mid s′)
              → Joins (data_of s) (Search s.me.0.number) (searched result) (data_of s′) × Shows (Search s.me.0.number) (searched result) s s′
          by (Ok found.NoCycle) so failed = (
            search-joins is (done-nothing both) (Ok found.NoCycle) tt tt,
            shown No_cycle all-did tt (asked s waiting, λ asks. inr (opens (λ (x : SessionView). SearchesFor found.NoCycle x s′) so.1, so.2 refl)) room,
          )
          by (Ok (found.Victim victim)) so failed = (
            search-joins is (done-nothing both) (Ok (found.Victim victim))
                (subst (λ (n : ℕ). KnowsVictim n (found.Victim victim) s′.me) (ap (λ (x : SessionView). x.me.0.number) now) so.0) tt,
            shown (Victim_is victim) all-did tt (waiting, opens (λ (x : SessionView). SearchesFor (found.Victim victim) x s′) so.1) room,
          )
          by (Err why) so failed = (
            search-joins is (done-nothing both) (Err why) tt failed.0,
            shown (Refused why) all-did (failed.1 ∙ ap (λ (x : SessionView). x.me.0.settles) now) (waiting, opens (λ (x : SessionView). LooksAtKeys x s′) failed.2) room,
          )
