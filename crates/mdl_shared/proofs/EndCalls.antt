-- The end of a session's wait.
use Rattle.std.proofs.Common.{◌≡◌, ℕ, ◌+◌, ◌-◌, true, is_some, List, [], ◌∷◌, map, Option, Some, None, Ok, refl, sym, ap, subst, ◌∙◌, arith}
use Rattle.mdl_calls.specs.declared.answers.Ended.TheVariants as ended_as
use Rattle.mdl_calls.specs.declared.answers.Settled.TheVariants as settled_as
use Rattle.mdl_shared.proofs.FirstLemmas.{AllNoted, AreAlike, Ask, DoesSlow, End_wait, Ended, Gain, Granted, IsLost, IsMember, IsOwed, Joins, Lost, NoWait, OwesNoMore, Refused, Room, SessionTicket, SessionView, Settled, Settlement, Stays, StaysInOrder, StepRecord, Unsettled, alike_done, and_parts, apart, are_below_next, as_held, ask-last, below, data_of, does-alone, ended, interleaved, is_answer_of, is_ask_apart, is_no_number, is_waiting, nat_tests, note_at, noted_under, nothing-read, one-note, one-note_done, own_of, owned, refused, same-stays, settled_state, speaks, tickets_seen, told-last, wait_by, waits-asks, winning}
use Rattle.mdl_shared.specs.Endings.{lost_end}

-- ---- how it ended

-- lost, unless it was granted
pub lost-so : (who : ℕ) (how : Settled) (over : Ended) → lost_end how ≡ Some over
    → (ended (Ok over) ≡ Lost how) × (is_answer_of (End_wait who) (Lost how) ≡ true) × IsLost (settled_state how)
lost-so who settled_as.Granted over e = cc
lost-so who settled_as.Victim over e = let is : over ≡ ended_as.Victim = cc in (ap (λ (x : Ended). ended (Ok x)) is, refl, omega arith)
lost-so who settled_as.Timeout over e = let is : over ≡ ended_as.Timeout = cc in (ap (λ (x : Ended). ended (Ok x)) is, refl, omega arith)
lost-so who settled_as.Killed over e = let is : over ≡ ended_as.Killed = cc in (ap (λ (x : Ended). ended (Ok x)) is, refl, omega arith)

pub granted-so : (how : Settled) → lost_end how ≡ None → how ≡ settled_as.Granted
granted-so settled_as.Granted e = refl
granted-so settled_as.Victim e = cc
granted-so settled_as.Timeout e = cc
granted-so settled_as.Killed e = cc

-- ---- what the session has then

-- a session that has ended its wait, with these slow tickets, and this room for more, after these steps, which settled these waits, and these debts
abbrev pub after-end : List SessionTicket → List ℕ → List Settlement → List StepRecord → Room → SessionView → SessionView
after-end slow owes settles log room s =
    record s { me = (record s.me.0 { slow = slow; asks = None; told = None; owes = owes; settles = settles; log = log }, s.me.1); room = room }

-- nothing else changed, and nothing is owed that wasn't before
pub record HasEnded (slow : List SessionTicket) (s s′ : SessionView) : Type 0 where
  pub owes : List ℕ
  pub settles : List Settlement
  pub log : List StepRecord
  pub room : Room
  pub now : s′ ≡ after-end slow owes settles log room s
  pub owed : (q : ℕ) → IsOwed q owes → IsOwed q s.me.0.owes

pub ended-debts : {slow : List SessionTicket} {s s′ : SessionView} → HasEnded slow s s′ → OwesNoMore s s′
ended-debts ends q owed = ends.owed q (subst (λ (x : SessionView). IsOwed q x.me.0.owes) ends.now owed)

-- without a wait there is nothing to end
pub idle-joins : {s : SessionView} → IsMember s → s.me.0.asks ≡ None → Joins (data_of s) (End_wait s.me.0.number) (Refused NoWait) (data_of s)
idle-joins {s} is idle =
    refused s s (End_wait s.me.0.number) NoWait (same-stays s) (speaks is) refl (waits-asks s.me.0.asks s.me.0.waits ∙ ap is_some idle) (λ state how is. cc) tt

-- it waits where it asks
waits : (s : SessionView) (a : Ask) → s.me.0.asks ≡ Some a → is_waiting (data_of s).own ≡ true
waits s a asks = waits-asks s.me.0.asks s.me.0.waits ∙ ap is_some asks

-- nothing is asked for then
pub asks-nothing : (P : Ask → Type 0) (a : Ask) → ◌≡◌ {A = Option Ask} None (Some a) → P a
asks-nothing P a e = cc

-- the ticket that it asks for is above all that it has
below-asked : (next number : ℕ) (tickets : List SessionTicket) → number + 1 ≡ next → is_no_number number tickets ≡ true → are_below_next next tickets ≡ true → are_below_next number tickets ≡ true
below-asked next number [] last apart all = refl
below-asked next number (t ∷ ts) last apart all = grind (arith, nat_tests, below-asked next number ts)

pub asked-below : {s : SessionView} (is : IsMember s) (a : Ask) → s.me.0.asks ≡ Some a → are_below_next a.number (tickets_seen s.me.0) ≡ true
asked-below {s} is a asks =
    let none = and_parts _ (is_no_number a.number (tickets_seen s.me.0)) (ap (is_ask_apart s.me.0.next (tickets_seen s.me.0)) (sym asks) ∙ apart is) in
    below-asked s.me.0.next a.number (tickets_seen s.me.0) (ask-last is a asks) none.1 (below is)

-- who waits has no fast ticket, so that the one that it waited for is the last of all
gains : {s : SessionView} (is : IsMember s) (a : Ask) → s.me.0.asks ≡ Some a → DoesSlow a.place (Gain a.number a.mode ∷ []) s.me.0
gains {s} is a asks = does-alone a.place (Gain a.number a.mode ∷ []) s.me.0 (is.unfast a asks)

module _ {s s′ : SessionView} (is : IsMember s) where
  ended-order : {slow : List SessionTicket} → HasEnded slow s s′ → AreAlike (interleaved slow s.me.0.fast) → StaysInOrder s s′
  ended-order ends alike = subst (λ (x : SessionView). StaysInOrder s x) (sym ends.now) (record {
    table = refl;
    sessions = refl;
    idle = is.idle;
    unfast = λ one asks. cc;
    plain = is.plain;
    within = is.within;
    alike = alike;
    last = refl;
    told = refl;
    fewer = is.fewer;
    owed = λ q owed. is.owed q (ends.owed q owed);
  })

  module _ (a : Ask) (asks : s.me.0.asks ≡ Some a) where
    -- it isn't settled
    pub unsettled-joins : Stays s s′ → ((how : Settled) → (data_of s).settled ≡ Some how → ⊥) → Joins (data_of s) (End_wait s.me.0.number) (Refused Unsettled) (data_of s′)
    unsettled-joins stays unsettled =
        refused s s′ (End_wait s.me.0.number) Unsettled stays (speaks is) refl (waits s a asks) (λ state how met knows. absurd (unsettled how knows)) tt

    -- won
    pub won-order : HasEnded (owned a.place (Gain a.number a.mode) s.me.0.slow) s s′ → StaysInOrder s s′
    won-order ends = ended-order ends (subst AreAlike (sym (gains is a asks)) (alike_done a.place (Gain a.number a.mode ∷ []) (tickets_seen s.me.0) is.alike))

    pub won-joins : ((how : Settled) → (data_of s).settled ≡ Some how → settled_as.Granted ≡ how) → HasEnded (owned a.place (Gain a.number a.mode) s.me.0.slow) s s′
        → Joins (data_of s) (End_wait s.me.0.number) (Granted a.number) (data_of s′)
    won-joins agreed ends =
        let last = ask-last is a asks in
        let id : a.number ≡ s.me.0.next - 1 = omega arith in
        subst (λ (x : SessionView). Joins (data_of s) (End_wait s.me.0.number) (Granted a.number) (data_of x)) (sym ends.now) (record {
          mine = speaks is;
          fits = refl;
          number = refl;
          own = ap (λ (ts : List SessionTicket). own_of (map as_held ts) None s.pins) (gains is a asks)
              ∙ ap (λ held. own_of held None s.pins) (told-last (tickets_seen s.me.0) (record { number = a.number; place = a.place; mode = a.mode; noted = note_at a.place (tickets_seen s.me.0) }))
              ∙ sym (ap (λ (o : Option Ask). winning a.number (wait_by s.me.0.waits o) (data_of s).own) asks);
          numbers = (id, refl);
          explained = waits s a asks;
          learns = refl;
          agreed = λ state how met knows. let e : Some settled_as.Granted ≡ state = cc in sym e ∙ ap Some (agreed how knows);
          told = λ how told. cc;
          settled = refl;
          reads = nothing-read s (after-end (owned a.place (Gain a.number a.mode) s.me.0.slow) ends.owes ends.settles ends.log ends.room s) refl
              (λ at. subst (AllNoted at (noted_under at (tickets_seen s.me.0))) (sym (gains is a asks)) (one-note_done s is at a.place (Gain a.number a.mode)));
          truly = tt;
        })

    -- lost
    pub lost-order : HasEnded s.me.0.slow s s′ → StaysInOrder s s′
    lost-order ends = ended-order ends is.alike

    pub lost-joins : (one : Settled) → is_answer_of (End_wait s.me.0.number) (Lost one) ≡ true → ((how : Settled) → (data_of s).settled ≡ Some how → one ≡ how)
        → HasEnded s.me.0.slow s s′ → Joins (data_of s) (End_wait s.me.0.number) (Lost one) (data_of s′)
    lost-joins one fits agreed ends = subst (λ (x : SessionView). Joins (data_of s) (End_wait s.me.0.number) (Lost one) (data_of x)) (sym ends.now) (record {
      mine = speaks is;
      fits = fits;
      number = refl;
      own = refl;
      numbers = refl;
      explained = waits s a asks;
      learns = refl;
      agreed = λ state how met knows. let e : Some one ≡ state = cc in sym e ∙ ap Some (agreed how knows);
      told = λ how told. cc;
      settled = refl;
      reads = nothing-read s (after-end s.me.0.slow ends.owes ends.settles ends.log ends.room s) refl (λ at. one-note s is at);
      truly = tt;
    })
