-- A call that leaves a session what it has, but for what it may have learnt of its wait.
use Rattle.std.proofs.Common.{◌≡◌, ℕ, ◌-◌, Bool, true, false, List, map, is_some, Option, Some, None, IfSome, refl, sym, ap, subst, ◌∙◌, filter_map}
use Rattle.mdl_calls.specs.declared.answers.Settled.TheVariants as settled_as
use Rattle.mdl_shared.proofs.Common.{Answer, Ask, Call, Draws, Held, IsCause, IsExplained, Joins, KeepsAll, KeepsSettled, Knows, LearnsKeys, LetsRead, Numbers, ReadNothing, ReadsNothing, Refused, SessionLocks, SessionTicket, SessionView, Settled, SpaceError, SpeaksFor, StaysTold, TellsTruly, Wait, as_held, caller, data_of, ends_wait, is_answer_of, note_of, option_map, own_after, reads-nothing, refused-joins, settled_of, settled_state, settled_told, tickets_seen, told, wait_met}

-- ---- what a session has

-- its wait, by the ticket that it asks for
abbrev pub wait_by : ℕ → Option Ask → Option Wait
wait_by waits asks = option_map (λ (a : Ask). record { number = waits; place = a.place; mode = a.mode }) asks

abbrev pub own_of : List Held → Option Wait → List ℕ → SessionLocks
own_of held wait pins = record { held = held; wait = wait; pins = pins }

-- by its tickets, its wait and its pins
abbrev pub own_by : List SessionTicket → Option Ask → ℕ → List ℕ → SessionLocks
own_by tickets asks waits pins = record { held = map as_held tickets; wait = wait_by waits asks; pins = pins }

-- and the last numbers that it gave
abbrev pub numbers_by : ℕ → ℕ → Numbers
numbers_by next waits = record { last_ticket = next - 1; last_wait = waits }

pub own-same : (tickets tickets′ : List SessionTicket) (asks asks′ : Option Ask) (waits waits′ : ℕ) (pins pins′ : List ℕ) → tickets′ ≡ tickets → asks′ ≡ asks
    → waits′ ≡ waits → pins′ ≡ pins → own_by tickets′ asks′ waits′ pins′ ≡ own_by tickets asks waits pins
own-same tickets tickets′ asks asks′ waits waits′ pins pins′ t a w p = λ i. own_by (t i) (a i) (w i) (p i)

-- a session waits where it asks
pub waits-asks : (asks : Option Ask) (waits : ℕ) → is_some (wait_by waits asks) ≡ is_some asks
waits-asks None waits = refl
waits-asks (Some a) waits = refl

-- by what it is told to hold, where its wait is the same
own-with : (held held′ : List Held) (asks asks′ : Option Ask) (waits waits′ : ℕ) (pins pins′ : List ℕ) → held′ ≡ held → asks′ ≡ asks → waits′ ≡ waits
    → pins′ ≡ pins → own_of held′ (wait_by waits′ asks′) pins′ ≡ own_of held (wait_by waits asks) pins
own-with held held′ asks asks′ waits waits′ pins pins′ h a w p = λ i. own_of (h i) (wait_by (w i) (a i)) (p i)

-- ---- how its wait is settled

-- a wait in the state of a settlement is settled so
pub settled-state : (how : Settled) → settled_of (settled_state how) ≡ Some how
settled-state settled_as.Granted = refl
settled-state settled_as.Victim = refl
settled-state settled_as.Timeout = refl
settled-state settled_as.Killed = refl

-- who was told that knows it so
pub told-settled : (told : Option ℕ) (how : Settled) → told ≡ Some (settled_state how) → settled_told told ≡ Some how
told-settled told how is = ap settled_told is ∙ settled-state how

-- who knows it was told the state
pub settled-told : (told : Option ℕ) (how : Settled) → settled_told told ≡ Some how → (state : ℕ) × (told ≡ Some state) × (settled_of state ≡ Some how)
settled-told None how e = cc
settled-told (Some state) how e = (state, refl, e)

-- what it was told stays so
pub settled-stays : (told told′ : Option ℕ) (how : Settled) → ((state : ℕ) → told ≡ Some state → told′ ≡ Some state) → settled_told told ≡ Some how
    → settled_told told′ ≡ Some how
settled-stays told told′ how stays is = let h = settled-told told how is in ap settled_told (stays h.0 h.1) ∙ h.2

-- ---- the same session

-- the session has the same wait, or none as before. What it was told of that stays so, and it may have been told now, but not of none
pub record SeesWait (m m′ : SessionView) : Type 0 where
  pub asks : m′.me.0.asks ≡ m.me.0.asks
  pub waits : m′.me.0.waits ≡ m.me.0.waits
  pub stays : StaysTold m.me.0.told m′.me.0.told
  pub unasked : m.me.0.asks ≡ None → m′.me.0.told ≡ m.me.0.told

-- its tickets may have changed, and the number of the next one, and nothing else than that
pub record KeepsRest (m m′ : SessionView) : Type 0 where
  pub number : m′.me.0.number ≡ m.me.0.number
  pub known : m′.me.0.known ≡ m.me.0.known
  pub pins : m′.pins ≡ m.pins
  pub wait : SeesWait m m′

-- nothing else than that has changed
pub record Stays (m m′ : SessionView) : Type 0 where
  pub number : m′.me.0.number ≡ m.me.0.number
  pub tickets : tickets_seen m′.me.0 ≡ tickets_seen m.me.0
  pub next : m′.me.0.next ≡ m.me.0.next
  pub known : m′.me.0.known ≡ m.me.0.known
  pub pins : m′.pins ≡ m.pins
  pub wait : SeesWait m m′
  pub reads : ReadNothing m.me m′.me

pub numbers-same : (next next′ waits waits′ : ℕ) → next′ ≡ next → waits′ ≡ waits
    → numbers_by next′ waits′ ≡ numbers_by next waits
numbers-same next next′ waits waits′ n w = ap (λ x. numbers_by x waits′) n ∙ ap (λ x. numbers_by next x) w

-- who knows the same of its wait sees it
pub sees-same : (m m′ : SessionView) → m′.me.0.asks ≡ m.me.0.asks → m′.me.0.waits ≡ m.me.0.waits → m′.me.0.told ≡ m.me.0.told → SeesWait m m′
sees-same m m′ asks waits told = record { asks = asks; waits = waits; stays = λ state is. told ∙ is; unasked = λ none. told }

-- a session that hasn't changed
pub same-rest : (m : SessionView) → KeepsRest m m
same-rest m = record { number = refl; known = refl; pins = refl; wait = sees-same m m refl refl refl }

pub same-stays : (m : SessionView) → Stays m m
same-stays m = record { number = refl; tickets = refl; next = refl; known = refl; pins = refl; wait = sees-same m m refl refl refl; reads = refl }

-- ---- what it is as a lock space

pub no-asks : (asks : Option Ask) (waits : ℕ) → is_some (wait_by waits asks) ≡ false → asks ≡ None
no-asks None waits idle = refl
no-asks (Some a) waits idle = cc

-- it knows of its wait what it knew, and may know more, where it waits
pub keeps-settled : (m m′ : SessionView) → SeesWait m m′ → KeepsSettled false (data_of m) (data_of m′)
keeps-settled m m′ sees = (
  λ how is. settled-stays m.me.0.told m′.me.0.told how sees.stays is,
  λ idle. ap settled_told (sees.unasked (no-asks m.me.0.asks m.me.0.waits idle)),
)

-- it is the same space but for that
pub keeps-all : (m m′ : SessionView) → Stays m m′ → KeepsAll (data_of m) (data_of m′)
keeps-all m m′ stays = record {
  number = stays.number;
  own = own-same (tickets_seen m.me.0) (tickets_seen m′.me.0) m.me.0.asks m′.me.0.asks m.me.0.waits m′.me.0.waits m.pins m′.pins stays.tickets stays.wait.asks stays.wait.waits stays.pins;
  numbers = numbers-same m.me.0.next m′.me.0.next m.me.0.waits m′.me.0.waits stays.next stays.wait.waits;
  known = stays.known;
  settled = keeps-settled m m′ stays.wait;
  notes = ap (filter_map note_of) stays.tickets;
  reads = stays.reads;
}

-- a refused call joins the two
pub refused : (m m′ : SessionView) (call : Call) (why : SpaceError) → Stays m m′ → IfSome (caller call) (SpeaksFor (data_of m))
    → is_answer_of call (Refused why) ≡ true → IsCause (Knows (data_of m) m.me.0.number) call why (data_of m).own
    → ((state : Option Settled) (how : Settled) → wait_met call (Refused why) ≡ Some state → (data_of m).settled ≡ Some how → state ≡ Some how)
    → TellsTruly call (Refused why) (data_of m) (data_of m′) → Joins (data_of m) call (Refused why) (data_of m′)
refused m m′ call why stays mine fits cause agreed truly =
    refused-joins (data_of m) (data_of m′) call why mine fits (keeps-all m m′ stays) cause agreed truly

-- and so does any that leaves its caller what it has
pub joins-still : (m m′ : SessionView) (call : Call) (answer : Answer) → Stays m m′ → IfSome (caller call) (SpeaksFor (data_of m))
    → is_answer_of call answer ≡ true → own_after call answer (data_of m).own ≡ (data_of m).own
    → Draws call answer (data_of m).numbers (data_of m).numbers
    → IsExplained (Knows (data_of m) m.me.0.number) call answer (data_of m).own
    → LearnsKeys call answer (data_of m).known (data_of m).known
    → ((state : Option Settled) (how : Settled) → wait_met call answer ≡ Some state → (data_of m).settled ≡ Some how → state ≡ Some how)
    → ((how : Settled) → told call answer ≡ Some how → (data_of m′).settled ≡ Some how)
    → ends_wait call answer ≡ false
    → (ReadsNothing (data_of m) (data_of m′) → LetsRead call answer (data_of m) (data_of m′))
    → TellsTruly call answer (data_of m) (data_of m′) → Joins (data_of m) call answer (data_of m′)
joins-still m m′ call answer stays mine fits own draws explained learns agreed tells ends reads truly =
    let a = data_of m in
    let b = data_of m′ in
    let same = keeps-all m m′ stays in record {
      mine = mine;
      fits = fits;
      number = same.number;
      own = same.own ∙ sym own;
      numbers = subst (Draws call answer a.numbers) (sym same.numbers) draws;
      explained = explained;
      learns = subst (LearnsKeys call answer a.known) (sym same.known) learns;
      agreed = agreed;
      told = tells;
      settled = subst (λ (e : Bool). KeepsSettled e a b) (sym ends) same.settled;
      reads = reads (reads-nothing a b same.reads same.notes);
      truly = truly;
    }

-- and one that leaves it other tickets, and the wait as it is
pub joins-held : (m m′ : SessionView) (call : Call) (answer : Answer) (held : List Held) → KeepsRest m m′ → IfSome (caller call) (SpeaksFor (data_of m))
    → is_answer_of call answer ≡ true → map as_held (tickets_seen m′.me.0) ≡ held
    → own_after call answer (data_of m).own ≡ own_of held (wait_by m.me.0.waits m.me.0.asks) m.pins
    → Draws call answer (data_of m).numbers (data_of m′).numbers
    → IsExplained (Knows (data_of m) m.me.0.number) call answer (data_of m).own
    → LearnsKeys call answer (data_of m).known (data_of m).known
    → ((state : Option Settled) (how : Settled) → wait_met call answer ≡ Some state → (data_of m).settled ≡ Some how → state ≡ Some how)
    → ((how : Settled) → told call answer ≡ Some how → (data_of m′).settled ≡ Some how)
    → ends_wait call answer ≡ false → LetsRead call answer (data_of m) (data_of m′)
    → TellsTruly call answer (data_of m) (data_of m′) → Joins (data_of m) call answer (data_of m′)
joins-held m m′ call answer held rest mine fits its own draws explained learns agreed tells ends reads truly = record {
  mine = mine;
  fits = fits;
  number = rest.number;
  own = own-with held (map as_held (tickets_seen m′.me.0)) m.me.0.asks m′.me.0.asks m.me.0.waits m′.me.0.waits m.pins m′.pins its rest.wait.asks rest.wait.waits rest.pins ∙ sym own;
  numbers = draws;
  explained = explained;
  learns = subst (LearnsKeys call answer (data_of m).known) (sym rest.known) learns;
  agreed = agreed;
  told = tells;
  settled = subst (λ (e : Bool). KeepsSettled e (data_of m) (data_of m′)) (sym ends) (keeps-settled m m′ rest.wait);
  reads = reads;
  truly = truly;
}
