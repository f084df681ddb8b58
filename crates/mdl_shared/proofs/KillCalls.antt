-- Calls on the words of any session's wait: kills, and the number of a wait.
use Rattle.std.proofs.Common.{◌≡◌, ◌≢◌, ℕ, ◌<◌, ◌≤◌, ◌==◌, Bool, true, false, is_some, List, [], ◌∷◌, ◌++◌, Option, Some, None, inl, inr, refl, sym, ap, subst, ◌∙◌, arith, eq-eqb, eqb-true, ne_eqb}
use Rattle.mdl_shared.proofs.FirstLemmas.{Ask, Has_killed, Has_wait, IsMember, IsSession, Joins, Kill, Killed, MeetsOther, MeetsWait, MissWait, ReadWait, SessionView, SettleWait, Settlement, Shows, ShowsStep, StaysFor, StepKind, TableId, TellsOwn, Wait, WaitOk, Wait_of, by_bool, data_of, done-nothing, eqb-false, false≢true, goes_staying, is_within, joins-still, nat_tests, number_of_wait, option_map, same-stays, settled_told, step_after, told-settled, wait_by, wait_in, wait_number, wait_state, wait_word, waiter_of}
use Rattle.mdl_shared.proofs.PollCalls.{settled-some}
use Rattle.mdl_shared.proofs.WaitSteps.{Watches, met-word, shows, session-there, stays-more, stays-once, stays-twice, told-own, watches, watches-then, word-step}

-- ---- the waits of any session

within-parts : (most n : ℕ) → is_within most n ≡ true → (0 < n) × (n ≤ most)
within-parts most n e = grind (arith, nat_tests)

within-from : (most n : ℕ) → 0 < n → n ≤ most → is_within most n ≡ true
within-from most n some few = grind (arith, nat_tests)

module _ {s : SessionView} (is : IsMember s) (target : ℕ) where
  -- the session itself is one of the space's
  not-own : is_within s.sessions target ≡ false → target ≡ s.me.0.number → ⊥
  not-own beyond mine =
      false≢true (sym beyond ∙ ap (is_within s.sessions) mine ∙ within-from s.sessions s.me.0.number is.counted.0 is.counted.1)

  pub target-there : is_within s.sessions target ≡ true → IsSession s.table target
  target-there within = let parts = within-parts s.sessions target within in session-there s is target parts.0 parts.1

  -- of a session that there isn't nothing is told
  pub nobody-waits : is_within s.sessions target ≡ false → Joins (data_of s) (Wait_of target) (Has_wait None) (data_of s)
  nobody-waits beyond =
      joins-still s s (Wait_of target) (Has_wait None) (same-stays s) tt refl refl refl tt refl (λ state how is. cc) (λ how is. cc) refl (λ r. r)
      (λ mine. absurd (not-own beyond mine))

  pub nobody-killed : (number : ℕ) → is_within s.sessions target ≡ false → Joins (data_of s) (Kill target number) (Has_killed false) (data_of s)
  nobody-killed number beyond =
      joins-still s s (Kill target number) (Has_killed false) (same-stays s) tt refl refl refl tt refl (λ state how is. cc) (λ how is. cc) refl (λ r. r)
      (λ mine. absurd (not-own beyond mine))

-- ---- the number of a wait

-- its own word has the number of the session's wait
own-number : (s : SessionView) (found : ℕ) → WaitOk s.table.slots found (waiter_of s.me.0) → number_of_wait found ≡ wait_number (data_of s).own
own-number s found sound = by s.me.0.asks refl
  where
    by : (o : Option Ask) → s.me.0.asks ≡ o → number_of_wait found ≡ option_map (λ (w : Wait). w.number) (wait_by s.me.0.waits o)
    by None none = rw (eq-eqb (wait_state found) 0 (sound.idle none)) refl
    by (Some a) some = rw (ne_eqb (wait_state found) 0 (sound.asks a some).0) (ap Some sound.number)

pub number-met : {s s′ : SessionView} (target found : ℕ) → is_within s.sessions target ≡ true → TellsOwn s.table.slots target found s.me.0
    → s′ ≡ word-step ReadWait target found found s.me.0.settles s
    → Watches s s′ × Joins (data_of s) (Wait_of target) (Has_wait (number_of_wait found)) (data_of s′) × Shows (Wait_of target) (Has_wait (number_of_wait found)) s s′
number-met {s} {s′} target found within own now =
    let did = watches ReadWait target found found s.me.0.settles s s′ now own (inl refl) refl refl in
    let met = met-word ReadWait target found found s.me.0.settles s s′ now in (
      did,
      joins-still s s′ (Wait_of target) (Has_wait (number_of_wait found)) (done-nothing did.done) tt refl refl refl tt refl (λ state how is. cc) (λ how is. cc) refl (λ r. r)
          (λ mine. own-number s found (own mine)),
      shows did tt did.did (ap (λ (x : SessionView). x.me.0.settles) now) tt (λ owes searches. (owes, searches)) (
        (λ beyond. absurd (false≢true (sym beyond ∙ within))),
        (λ w. (
          (met.0, met.1, record { word = met.2.word_is; told = ap number_of_wait (sym met.2.found) }),
          stays-once ReadWait target found found s.me.0.settles s s′ now refl refl,
        )),
      ),
    )

-- ---- kills

-- the session's own wait of a number that is met and isn't open is settled, and the session knows that
closed-settled : (kind : StepKind) (s s′ : SessionView) (target number found : ℕ) → target ≡ s.me.0.number → WaitOk s.table.slots found (waiter_of s.me.0)
    → s′ ≡ word-step kind target found found s.me.0.settles s → found ≢ wait_in number 1 → wait_number (data_of s).own ≡ Some number → is_some (data_of s′).settled ≡ true
closed-settled kind s s′ target number found mine sound now other its = by s.me.0.asks refl its
  where
    by : (o : Option Ask) → s.me.0.asks ≡ o → option_map (λ (w : Wait). w.number) (wait_by s.me.0.waits o) ≡ Some number → is_some (data_of s′).settled ≡ true
    by None none e = cc
    by (Some a) some e =
        let same : s.me.0.waits ≡ number = cc in
        let busy = (sound.asks a some).0 in
        let last = sound.number in
        let closed : wait_state found ≢ 1 = λ one. other (omega (arith, same, last, one)) in
        let more : 1 < wait_state found = omega (arith, busy, closed) in
        let how = settled-some (wait_state found) more sound.state in
        ap is_some (ap settled_told (told-own kind target found found s.me.0.settles s s′ now mine more) ∙ how.1)

module _ {s s′ : SessionView} (target number : ℕ) (within : is_within s.sessions target ≡ true) (did : Watches s s′) where
  -- whoever met another word settled nothing
  pub kill-missed : StaysFor 2 s.me s′.me → s′.me.0.settles ≡ s.me.0.settles → ShowsStep s s′ (MeetsOther s.table.slots target (wait_in number 1))
      → (target ≡ s.me.0.number → wait_number (data_of s).own ≡ Some number → is_some (data_of s′).settled ≡ true)
      → Joins (data_of s) (Kill target number) (Has_killed false) (data_of s′) × Shows (Kill target number) (Has_killed false) s s′
  kill-missed few settles met known = (
    joins-still s s′ (Kill target number) (Has_killed false) (done-nothing did.done) tt refl refl refl tt refl (λ state how is. cc) (λ how is. cc) refl (λ r. r) known,
    shows did tt did.did settles tt (λ owes searches. (owes, searches)) ((λ beyond. absurd (false≢true (sym beyond ∙ within))), (λ w. (met, few))),
  )

  pub kill-settled : StaysFor 2 s.me s′.me → s′.me.0.settles ≡ s.me.0.settles ++ record { session = target; wait = number; state = 5 } ∷ []
      → ShowsStep s s′ (MeetsWait s.table.slots target number 1)
      → (target ≡ s.me.0.number → (wait_number (data_of s).own ≡ Some number) × (s′.me.0.told ≡ Some 5))
      → Joins (data_of s) (Kill target number) (Has_killed true) (data_of s′) × Shows (Kill target number) (Has_killed true) s s′
  kill-settled few settles met known = (
    joins-still s s′ (Kill target number) (Has_killed true) (done-nothing did.done) tt refl refl refl tt refl (λ state how is. cc) (λ how is. cc) refl (λ r. r)
        (λ mine. let h = known mine in (h.0, told-settled s′.me.0.told Killed h.1)),
    shows did tt did.did settles tt (λ owes searches. (owes, searches)) (within, met, few),
  )

-- a word that was read, and wasn't open, is that of no open wait
pub kill-closed : {s s′ : SessionView} (target number found : ℕ) → is_within s.sessions target ≡ true → TellsOwn s.table.slots target found s.me.0
    → s′ ≡ word-step ReadWait target found found s.me.0.settles s → found ≢ wait_in number 1
    → Watches s s′ × Joins (data_of s) (Kill target number) (Has_killed false) (data_of s′) × Shows (Kill target number) (Has_killed false) s s′
kill-closed {s} {s′} target number found within own now other =
    let did = watches ReadWait target found found s.me.0.settles s s′ now own (inl refl) refl refl in
    let met = met-word ReadWait target found found s.me.0.settles s s′ now in
    let few = stays-more s.me s′.me (stays-once ReadWait target found found s.me.0.settles s s′ now refl refl) in
    let told = kill-missed target number within did few (ap (λ (x : SessionView). x.me.0.settles) now)
    (met.0, met.1, record { word_is = met.2.word_is; differs = λ same. other (sym met.2.found ∙ same) })
    (λ mine its. closed-settled ReadWait s s′ target number found mine (own mine) now other its) in (did, told.0, told.1)

-- one that was open as it was read is settled then, or another by then
module _ (s t s′ : SessionView) (target number first found : ℕ) (within : is_within s.sessions target ≡ true) (own : TellsOwn s.table.slots target first s.me.0)
    (now : t ≡ word-step ReadWait target first first s.me.0.settles s) (later : TellsOwn t.table.slots target found t.me.0)
    (hit : found ≡ wait_in number 1
    → s′ ≡ word-step SettleWait target (wait_in number 1) (wait_in number 5) (t.me.0.settles ++ record { session = target; wait = number; state = 5 } ∷ []) t)
    (miss : found ≢ wait_in number 1 → s′ ≡ word-step MissWait target found found t.me.0.settles t) where
  reads : Watches s t
  reads = watches ReadWait target first first s.me.0.settles s t now own (inl refl) refl refl

  looked : StaysFor 1 s.me t.me
  looked = stays-once ReadWait target first first s.me.0.settles s t now refl refl

  same-number : t.me.0.number ≡ s.me.0.number
  same-number = ap (λ (x : SessionView). x.me.0.number) now

  same-settles : t.me.0.settles ≡ s.me.0.settles
  same-settles = ap (λ (x : SessionView). x.me.0.settles) now

  same-table : t.table ≡ s.table
  same-table = ap (λ (x : SessionView). x.table) now

  same-wait : wait_number (data_of t).own ≡ wait_number (data_of s).own
  same-wait = ap (λ (x : SessionView). wait_number (data_of x).own) now

  pub kill-done : found ≡ wait_in number 1
      → Watches s s′ × Joins (data_of s) (Kill target number) (Has_killed true) (data_of s′) × Shows (Kill target number) (Has_killed true) s s′
  kill-done is_found =
      let made = hit is_found in
      let odd : wait_state (wait_in number 1) ≡ 1 = omega arith in
      let five : wait_state (wait_in number 5) ≡ 5 = omega arith in
      let all : List Settlement = t.me.0.settles ++ record { session = target; wait = number; state = 5 } ∷ [] in
      let settles = watches SettleWait target (wait_in number 1) (wait_in number 5) all t s′ made (subst (λ (w : ℕ). TellsOwn t.table.slots target w t.me.0) is_found later) (inr odd) refl refl in
      let met = met-word SettleWait target (wait_in number 1) (wait_in number 5) all t s′ made in
      let did = watches-then s t s′ reads settles in
      let few = stays-twice s.me t.me s′.me looked (stays-once SettleWait target (wait_in number 1) (wait_in number 5) all t s′ made refl refl) in
      let told = kill-settled target number within did few
      (ap (λ (x : SessionView). x.me.0.settles) made ∙ ap (λ (l : List Settlement). l ++ record { session = target; wait = number; state = 5 } ∷ []) same-settles)
      (met.0, step_after s.me t.me s′.me (goes_staying s.me t.me reads.stayed) met.0 met.1, record { word = met.2.word_is ∙ ap (λ (id : TableId). wait_word id.slots target) same-table; found = met.2.found })
      (λ mine.
      let its = mine ∙ sym same-number in
      let whole : number_of_wait found ≡ Some number = (let state : wait_state found ≡ 1 = (let e = is_found in omega arith) in rw state (ap Some (let e = is_found in omega arith))) in
      (sym same-wait ∙ sym (own-number t found (later its)) ∙ whole, told-own SettleWait target (wait_in number 1) (wait_in number 5) all t s′ made its (omega (arith, five)) ∙ ap Some five)) in (did, told.0, told.1)

  pub kill-missed-later : found ≢ wait_in number 1
      → Watches s s′ × Joins (data_of s) (Kill target number) (Has_killed false) (data_of s′) × Shows (Kill target number) (Has_killed false) s s′
  kill-missed-later other =
      let made = miss other in
      let misses = watches MissWait target found found t.me.0.settles t s′ made later (inl refl) refl refl in
      let met = met-word MissWait target found found t.me.0.settles t s′ made in
      let did = watches-then s t s′ reads misses in
      let few = stays-twice s.me t.me s′.me looked (stays-once MissWait target found found t.me.0.settles t s′ made refl refl) in
      let told = kill-missed target number within did few (ap (λ (x : SessionView). x.me.0.settles) made ∙ same-settles) (
        met.0,
        step_after s.me t.me s′.me (goes_staying s.me t.me reads.stayed) met.0 met.1,
        record { word_is = met.2.word_is ∙ ap (λ (id : TableId). wait_word id.slots target) same-table; differs = λ same. other (sym met.2.found ∙ same) },
      )
      (λ mine its. let own_later = mine ∙ sym same-number in closed-settled MissWait t s′ target number found own_later (later own_later) made other (same-wait ∙ its)) in (did, told.0, told.1)

  pub kill-either : Watches s s′
  kill-either =
      by_bool (found == wait_in number 1) (λ same. (kill-done (eqb-true found (wait_in number 1) same)).0) (λ differ. (kill-missed-later (eqb-false found (wait_in number 1) differ)).0)

  pub kill-ended : (result : Bool) → (result ≡ true → found ≡ wait_in number 1) → (result ≡ false → found ≢ wait_in number 1)
      → Joins (data_of s) (Kill target number) (Has_killed result) (data_of s′) × Shows (Kill target number) (Has_killed result) s s′
  kill-ended true same other = let h = kill-done (same refl) in (h.1, h.2)
  kill-ended false same other = let h = kill-missed-later (other refl) in (h.1, h.2)
