-- Calls that ask for tickets: wishes, and waits that begin.
use Rattle.std.proofs.Common.{◌≡◌, ◌⊎◌, inl, inr, ℕ, ◌+◌, ◌-◌, ◌<◌, true, false, Option, Some, None, IfSome, List, [], ◌∷◌, ◌++◌, map, refl, sym, ap, subst, ◌∙◌, arith, eq-eqb}
use Rattle.mdl_shared.proofs.FirstLemmas.{AtItsTable, Begin_wait, Call, DidDeeds, Draws, DrawsTicket, Full, Gain, Granted, IsCause, IsExplained, IsMember, Joins, Knows, LearnsKeys, LetsRead, MayAsk, Mode, Opens, OutOfMemory, ReadsNothing, Refused, Room, SeatState, SessionView, Settled, SpaceError, SpeaksFor, Stays, StaysInOrder, StepRecord, TellsTruly, Try_now, Waits, Would_wait, as_held, asking, caller, data_of, done-next, done-rest, done-tickets, ends_wait, gaining, is_answer_of, joins-held, joins-still, kind_pinned, next-some, no-asks, note_at, nothing-told, numbers_by, own_after, own_by, reads-nothing, refused, same-stays, session_at, settled_told, speaks, ticket_drawn, tickets_seen, told, told-last, view_awaiting, wait_drawn, wait_met, wish_fault}
use Rattle.mdl_shared.proofs.TicketCalls.{deed-reads}
use Rattle.mdl_shared.proofs.WishFaults.{wish-cause, wish-clear}

-- ---- numbers

-- of which the next ticket's is given
numbers-drawn : (next next′ waits waits′ : ℕ) → 0 < next → next′ ≡ next + 1 → waits′ ≡ waits → numbers_by next′ waits′ ≡ ticket_drawn (numbers_by next waits)
numbers-drawn next next′ waits waits′ some n w =
    let e : next′ - 1 ≡ (next - 1) + 1 = omega arith in
    ap (λ x. record { last_ticket = x; last_wait = waits′ }) e ∙ ap (λ x. record { last_ticket = (next - 1) + 1; last_wait = x }) w

-- and the next wait's too
numbers-waited : (next next′ waits waits′ : ℕ) → 0 < next → next′ ≡ next + 1 → waits′ ≡ waits + 1 → numbers_by next′ waits′ ≡ wait_drawn (numbers_by next waits)
numbers-waited next next′ waits waits′ some n w =
    let e : next′ - 1 ≡ (next - 1) + 1 = omega arith in
    ap (λ x. record { last_ticket = x; last_wait = waits′ }) e ∙ ap (λ x. record { last_ticket = (next - 1) + 1; last_wait = x }) w

-- ---- one ticket more

pub gain-joins : {s s′ : SessionView} (is : IsMember s) {place id : ℕ} {mode : Mode} → id ≡ s.me.0.next → DidDeeds place (Gain id mode ∷ []) s s′ → (call : Call)
    → IfSome (caller call) (SpeaksFor (data_of s)) → is_answer_of call (Granted id) ≡ true
    → own_after call (Granted id) (data_of s).own ≡ gaining id place mode (data_of s).own
    → (DrawsTicket id (data_of s).numbers (data_of s′).numbers → Draws call (Granted id) (data_of s).numbers (data_of s′).numbers)
    → IsExplained (Knows (data_of s) s.me.0.number) call (Granted id) (data_of s).own
    → LearnsKeys call (Granted id) (data_of s).known (data_of s).known
    → ((state : Option Settled) (how : Settled) → wait_met call (Granted id) ≡ Some state → (data_of s).settled ≡ Some how → state ≡ Some how)
    → ((how : Settled) → told call (Granted id) ≡ Some how → (data_of s′).settled ≡ Some how)
    → ends_wait call (Granted id) ≡ false
    → (ReadsNothing (data_of s) (data_of s′) → LetsRead call (Granted id) (data_of s) (data_of s′))
    → TellsTruly call (Granted id) (data_of s) (data_of s′) → Joins (data_of s) call (Granted id) (data_of s′)
gain-joins {s} {s′} is {place} {id} {mode} first done call mine fits own draws explained learns agreed tells ends lets truly =
    let some = next-some is in
    let drawn : id ≡ (s.me.0.next - 1) + 1 = omega arith in
    joins-held s s′ call (Granted id) (map as_held (tickets_seen s.me.0) ++ record { id = id; place = place; mode = mode } ∷ []) (done-rest done) mine fits
    (ap (map as_held) (done-tickets done) ∙ told-last (tickets_seen s.me.0) (record { number = id; place = place; mode = mode; noted = note_at place (tickets_seen s.me.0) })) own
    (draws (drawn, numbers-drawn s.me.0.next s′.me.0.next s.me.0.waits s′.me.0.waits some (done-next done) (done-rest done).wait.waits))
    explained learns agreed tells ends (lets (deed-reads is done)) truly

-- ---- wishes

-- the causes that the session doesn't have of its own
pub by-cause : (P : SpaceError → Type 0) (why : SpaceError) → P OutOfMemory → P Full → (why ≡ OutOfMemory) ⊎ (why ≡ Full) → P why
by-cause P why memory full (inl is) = subst P (sym is) memory
by-cause P why memory full (inr is) = subst P (sym is) full

module _ {s : SessionView} (is : IsMember s) (place : ℕ) (mode : Mode) where
  -- refused for what the session has
  module _ (why : SpaceError) (fault : wish_fault (kind_pinned place s.pins s.me.0.known) s.me.0.asks mode s.me.0.next ≡ Some why) where
    pub try-unfit : Joins (data_of s) (Try_now s.me.0.number place mode) (Refused why) (data_of s)
    try-unfit =
        refused s s (Try_now s.me.0.number place mode) why (same-stays s) (speaks is) refl
        (wish-cause s (λ w. IsCause (Knows (data_of s) s.me.0.number) (Try_now s.me.0.number place mode) w (data_of s).own) place mode why is.sound.pinned
        (λ h. h) (λ h. h) (λ h. h) (λ h. h) fault) (λ state how is. cc) tt

    pub begin-unfit : Joins (data_of s) (Begin_wait s.me.0.number place mode) (Refused why) (data_of s)
    begin-unfit =
        refused s s (Begin_wait s.me.0.number place mode) why (same-stays s) (speaks is) refl
        (wish-cause s (λ w. IsCause (Knows (data_of s) s.me.0.number) (Begin_wait s.me.0.number place mode) w (data_of s).own) place mode why is.sound.pinned
        (λ h. h) (λ h. h) (λ h. h) (λ h. h) fault) (λ state how is. cc) tt

  module _ (clear : wish_fault (kind_pinned place s.pins s.me.0.known) s.me.0.asks mode s.me.0.next ≡ None) where
    clear-wish : MayAsk place mode (Knows (data_of s) s.me.0.number) (data_of s).own
    clear-wish = (wish-clear s place mode clear).0

    -- the session was told of no wait
    pub untold-wish : s.me.0.told ≡ None
    untold-wish = nothing-told is (no-asks s.me.0.asks s.me.0.waits clear-wish.1)

    pub try-granted : {s′ : SessionView} {id : ℕ} → id ≡ s.me.0.next → DidDeeds place (Gain id mode ∷ []) s s′
        → Joins (data_of s) (Try_now s.me.0.number place mode) (Granted id) (data_of s′)
    try-granted first done =
        gain-joins is first done (Try_now s.me.0.number place mode) (speaks is) refl refl (λ d. d) clear-wish refl
        (λ state how is. cc) (λ how is. cc) refl (λ r. r) tt

    pub begin-granted : {s′ : SessionView} {id : ℕ} → id ≡ s.me.0.next → DidDeeds place (Gain id mode ∷ []) s s′
        → Joins (data_of s) (Begin_wait s.me.0.number place mode) (Granted id) (data_of s′)
    begin-granted first done =
        gain-joins is first done (Begin_wait s.me.0.number place mode) (speaks is) refl refl (λ d. d) clear-wish refl
        (λ state how is. cc) (λ how is. cc) refl (λ r. r) tt

    pub try-blocked : {s′ : SessionView} → Stays s s′ → Joins (data_of s) (Try_now s.me.0.number place mode) Would_wait (data_of s′)
    try-blocked {s′} stays =
        joins-still s s′ (Try_now s.me.0.number place mode) Would_wait stays (speaks is) refl refl refl clear-wish refl
        (λ state how is. cc) (λ how is. cc) refl (λ r. r) tt

    -- refused, as memory ran out or the book is full
    pub try-refused : {s′ : SessionView} → Stays s s′ → {why : SpaceError} → (why ≡ OutOfMemory) ⊎ (why ≡ Full)
        → Joins (data_of s) (Try_now s.me.0.number place mode) (Refused why) (data_of s′)
    try-refused {s′} stays {why} causes =
        refused s s′ (Try_now s.me.0.number place mode) why stays (speaks is) refl
        (by-cause (λ w. IsCause (Knows (data_of s) s.me.0.number) (Try_now s.me.0.number place mode) w (data_of s).own) why tt clear-wish causes)
        (λ state how is. cc) tt

    pub begin-refused : {s′ : SessionView} → Stays s s′ → {why : SpaceError} → (why ≡ OutOfMemory) ⊎ (why ≡ Full)
        → Joins (data_of s) (Begin_wait s.me.0.number place mode) (Refused why) (data_of s′)
    begin-refused {s′} stays {why} causes =
        refused s s′ (Begin_wait s.me.0.number place mode) why stays (speaks is) refl
        (by-cause (λ w. IsCause (Knows (data_of s) s.me.0.number) (Begin_wait s.me.0.number place mode) w (data_of s).own) why tt clear-wish causes)
        (λ state how is. cc) tt

-- ---- waits that begin

-- what the visit tells
pub begun : {place : ℕ} {mode : Mode} (seat seat′ : SeatState) (sessions : ℕ) {room : Room} {pins : List ℕ} (opens : AtItsTable seat seat′ (Opens place mode))
    → session_at seat′ sessions room pins ≡ record (session_at seat sessions room pins) { me = (record (view_awaiting place mode seat.me.0) { log = seat.me.0.log ++ opens.1.made }, seat.me.1) }
begun seat seat′ sessions {room} {pins} opens = λ i. record { table = opens.0 i; sessions = sessions; me = opens.1.now i; room = room; pins = pins }

module _ {s s′ : SessionView} (is : IsMember s) {place : ℕ} {mode : Mode} (clear : wish_fault (kind_pinned place s.pins s.me.0.known) s.me.0.asks mode s.me.0.next ≡ None)
    {log : List StepRecord} {room : Room} (now : s′ ≡ record s { me = (record (view_awaiting place mode s.me.0) { log = log }, s.me.1); room = room }) where
  -- without a fast ticket
  pub begun-order : s.me.0.fast ≡ [] → StaysInOrder s s′
  begun-order none =
      let fewer = is.fewer in
      let below = (wish-clear s place mode clear).1 in
      subst (λ (x : SessionView). StaysInOrder s x) (sym now) (record {
        table = refl;
        sessions = refl;
        idle = is.idle;
        unfast = λ a asks. none;
        plain = is.plain;
        within = is.within;
        alike = is.alike;
        last = eq-eqb (s.me.0.next + 1) (s.me.0.next + 1) refl;
        told = refl;
        fewer = (omega (arith, fewer.0), omega (arith, fewer.0, below));
        owed = is.owed;
      })

  pub begun-joins : {number : ℕ} → number ≡ s.me.0.waits + 1 → Joins (data_of s) (Begin_wait s.me.0.number place mode) (Waits number) (data_of s′)
  begun-joins {number} drawn =
      let untold = untold-wish is place mode clear in
      subst (λ (x : SessionView). Joins (data_of s) (Begin_wait s.me.0.number place mode) (Waits number) (data_of x)) (sym now) (record {
        mine = speaks is;
        fits = refl;
        number = refl;
        own = ap (λ (n : ℕ). own_by (tickets_seen s.me.0) (Some (asking place mode s.me.0)) n s.pins) (sym drawn);
        numbers = (drawn, numbers-waited s.me.0.next (s.me.0.next + 1) s.me.0.waits (s.me.0.waits + 1) (next-some is) refl refl);
        explained = clear-wish is place mode clear;
        learns = refl;
        agreed = λ state how met. cc;
        told = λ how told. cc;
        settled = (λ how settled. let no = sym (ap settled_told untold) ∙ settled in cc, λ idle. sym (ap settled_told untold));
        reads = reads-nothing (data_of s) _ refl refl;
        truly = tt;
      })
