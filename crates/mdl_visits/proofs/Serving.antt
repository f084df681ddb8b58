-- A try to grant a waiting ticket, put together of its steps.
use Rattle.std.proofs.Common.{◌≡◌, ◌≢◌, ℕ, ◌+◌, ◌-◌, ◌*◌, ◌%◌, ◌/◌, ◌<◌, ◌==◌, ◌&&◌, not, cond, true, false, None, List, [], ◌∷◌, ◌++◌, Some, refl, sym, ap, ◌∙◌, subst, inl, inr, append-nil, arith, Result, OnOk, is_some, Contains, find, Option, slice_get}
use Rattle.mdl_book.proofs.AdmitLemmas.{by_index-admits}
use Rattle.std.specs.FinSet as set
use Rattle.mdl_visits.proofs.FirstLemmas.{BookError, BookView, ForgetsNobody, HasJustMet, Holds, IsEverySession, IsGrantableAt, IsGrantableTicket, IsGrantedFrom, IsLookedThrough, IsStepOf, IsTried, IsTriedOrGranted, LatchRecord, MakesMoreSteps, MayReschedule, MeetsWaiter, Mine, NotHere, OnlyMeets, ReadWait, ReadWord, ReschedulesInTurn, StepKind, StepRecord, TableId, TellsOwn, Ticket, admitting, admitting_by_index, ahead_of, can_be_granted, cases_eq, changed, find_at, found_number, goes_by, gone, grants_on, holds_written, is_ready, is_session, is_ticket, lock_kind, lock_word, met_wait_by, nat_cmp, nat_cmp_total, next_grantable, none_ahead, not_ready, noting, ok_or, only_one, other, settled_granted, step_after, step_before, stepped, ticket_of, unsigned_tied, wait_in, wait_word, waits_ahead, waits_still, with_admitted, written}
use Rattle.mdl_visits.proofs.Losing.{taken_out}
use Rattle.mdl_visits.proofs.Way.{looked_within, settled_within, rescheduled_granted, rescheduled_met, rescheduled_then, rescheduled_written}

-- a seat has one record of a place's latch
pub one_record : (place : ℕ) (h g : LatchRecord) (m : Mine) → Holds place h h.book m → Holds place g g.book m → h ≡ g
one_record place h g m x y = same h g (sym x.recorded ∙ y.recorded)
  where
    same : (h g : LatchRecord) → Some h ≡ Some g → h ≡ g
    same h g e = cc

pub holds_met : (kind : StepKind) (slots place session found : ℕ) (h : LatchRecord) (m m′ : Mine) → m′ ≡ met_wait_by kind slots session found m → Holds place h h.book m → Holds place h h.book m′
holds_met kind slots place session found h m m′ is has =
    subst (λ (x : Mine). Holds place h h.book x) (sym is) (record { recorded = has.recorded; carried = has.carried })

some_is : (o : Option Ticket) (t : Ticket) → o ≡ Some t → is_some o ≡ true
some_is o t e = ap is_some e

-- a step that only met a wait's word, while its ticket waits there, and what was met
pub waiter_met : (kind : StepKind) → OnlyMeets kind → (slots place session number found : ℕ) (h : LatchRecord) (m m′ : Mine) → m′ ≡ met_wait_by kind slots session found m → Holds place h h.book m → IsGrantableTicket session number h
    → (e : StepRecord) × IsStepOf m m′ e × MeetsWaiter slots place session number e × (e.found ≡ found)
waiter_met kind only slots place session number found h m m′ is has ready =
    let e : StepRecord = record { kind = kind; deeds = []; word = wait_word slots session; found = found; held = m.0.latches; directory = m.0.directory } in (
      e,
      ([], [], ap (λ (x : Mine). x.0.log) is ∙ ap (λ (log : List StepRecord). log ++ e ∷ []) (sym (append-nil m.0.log))),
      record { kind = only; word = refl; latch = h; held = has.recorded; waits = some_is (ticket_of session number h.book.waiting) ready.wish ready.waits },
      refl,
    )

-- ---- the exchange

-- a ticket that can be granted waits at the index, so the book in hand has it granted
pub admitted_at : (P : BookView → Type 0) (index session number : ℕ) (h : LatchRecord) (result : Result Ticket BookError) → IsGrantableAt index session number h
    → result ≡ ok_or (slice_get h.book.waiting index) NotHere → OnOk result (P (admitting_by_index index h.book)) → P (admitting session number h.book)
admitted_at P index session number h result ready refused done =
    let waiting : List Ticket = h.book.waiting in
    let same : slice_get waiting index ≡ ticket_of session number waiting = sym (find_at (is_ticket session number) waiting ∙ ap (slice_get waiting) ready.1) in
    taken_out (ticket_of session number waiting) NotHere result (some_is (ticket_of session number waiting) ready.0.wish ready.0.waits)
    (refused ∙ ap (λ (o : Option Ticket). ok_or o NotHere) same) (subst (λ (book : BookView). OnOk result (P book)) (by_index-admits session number index h.book ready.1) done)

module _ (id : TableId) (place session number wait count : ℕ) (h : LatchRecord) (m a b : Mine) (has : Holds place h h.book m) (ready : IsGrantableTicket session number h) (just : HasJustMet id.slots place session h m)
    (made : a ≡ settled_granted id.slots place session number count m) (keeps : Holds place (with_admitted session number h) h.book a)
    (own : TellsOwn id.slots session (wait_in count 1) m.0) (admitted : b ≡ written place (admitting session number h.book) a) where
  pub is_admitted : (g : LatchRecord) → Holds place g g.book m → IsGrantedFrom id.slots place session number wait g m b
  is_admitted g mine =
      subst (λ (x : LatchRecord). IsGrantedFrom id.slots place session number wait x m b) (one_record place h g m has mine)
      (inr (subst (λ (x : Mine). Holds place (with_admitted session number h) (admitting session number h.book) x) (sym admitted)
      (holds_written place (with_admitted session number h) h.book (admitting session number h.book) a keeps)))

  pub rescheduled_admitted : ReschedulesInTurn id place session number m b
  rescheduled_admitted start g mine looked =
      rescheduled_then id place start m a b
      (rescheduled_granted id place start session number count h h.book m a has ready just
      (subst (λ (x : LatchRecord). IsLookedThrough id place x (ahead_of session number x.book.waiting) start m) (one_record place g h m mine has) looked)
      made (found_number session number h.book.waiting ready.wish ready.waits) own)
      (rescheduled_written id place start (admitting session number h.book) a b admitted)

module _ (kind : StepKind) (only : OnlyMeets kind) (id : TableId) (place session number word : ℕ) (h : LatchRecord) (m a : Mine) (has : Holds place h h.book m) (ready : IsGrantableTicket session number h)
    (is : a ≡ met_wait_by kind id.slots session word m) where
  -- it met another word
  pub is_missed : (wait : ℕ) → word ≢ wait → (g : LatchRecord) → Holds place g g.book m → IsGrantedFrom id.slots place session number wait g m a
  is_missed wait other g mine =
      let step = waiter_met kind only id.slots place session number word h m a is has ready in
      subst (λ (x : LatchRecord). IsGrantedFrom id.slots place session number wait x m a) (one_record place h g m has mine)
      (inl ((step.0, step.1, step.2, λ same. other (sym step.3 ∙ same)), holds_met kind id.slots place session word h m a is has))

  -- a step that met the word reschedules
  pub rescheduling_missed : TellsOwn id.slots session word m.0 → ReschedulesInTurn id place session number m a
  rescheduling_missed own start g mine looked = rescheduled_met id place start kind only session word g.book m a mine.carried own is

  -- ---- the read before it

  goes : MakesMoreSteps m a
  goes = (record { kind = kind; deeds = []; word = wait_word id.slots session; found = word; held = m.0.latches; directory = m.0.directory } ∷ [], ap (λ (x : Mine). x.0.log) is)

  pub just_met : kind ≡ ReadWait → HasJustMet id.slots place session h a
  just_met read =
      (m.0.log, record { kind = kind; deeds = []; word = wait_word id.slots session; found = word; held = m.0.latches; directory = m.0.directory }, ap (λ (x : Mine). x.0.log) is, read, refl, has.recorded)

  -- it met the wait settled
  pub is_settled : word % 8 ≢ 1 → (g : LatchRecord) → Holds place g g.book m → IsTriedOrGranted id place session number g m a
  is_settled state g mine =
      let step = waiter_met kind only id.slots place session number word h m a is has ready in
      subst (λ (x : LatchRecord). IsTriedOrGranted id place session number x m a) (one_record place h g m has mine)
      (inl (
        inr (record {
          read = step.0;
          read_then = step.1;
          of_wait = step.2;
          met = step.0;
          met_then = step.1;
          of_same = step.2;
          settled = λ same. let found = step.3 in (let again : step.0.found ≡ 8 * (step.0.found / 8) + 1 = same in state (omega arith));
        }),
        holds_met kind id.slots place session word h m a is has,
      ))

  -- it met the wait unsettled, and the exchange was tried
  pub is_tried : (b : Mine) → word % 8 ≡ 1 → ((g : LatchRecord) → Holds place g g.book a → IsGrantedFrom id.slots place session number word g a b) → (g : LatchRecord) → Holds place g g.book m → IsTriedOrGranted id place session number g m b
  is_tried b state tried g mine = elim (tried g (holds_met kind id.slots place session word g m a is mine)) [
    | inl missed ↦
        let step = waiter_met kind only id.slots place session number word h m a is has ready in
        let met = missed.0 in
        inl (
          inr (record {
            read = step.0;
            read_then = step_before m a b (goes_by a b met.0 met.1) step.0 step.1;
            of_wait = step.2;
            met = met.0;
            met_then = step_after m a b goes met.0 met.1;
            of_same = met.2;
            settled = λ same. (let found = step.3 in let again : met.0.found ≡ 8 * (step.0.found / 8) + 1 = same in met.3 (omega arith));
          }),
          missed.1,
        )
    | inr granted ↦ inr granted
  ]

  pub rescheduled_tried : (b : Mine) → TellsOwn id.slots session word m.0 → ReschedulesInTurn id place session number a b → ReschedulesInTurn id place session number m b
  rescheduled_tried b own way start g mine looked =
      rescheduled_then id place start m a b (rescheduling_missed own start g mine looked)
      (way start g (holds_met kind id.slots place session word g m a is mine) (looked_within start m start a (step_before start m a goes) id place g (ahead_of session number g.book.waiting) looked))

-- ---- turn by turn

-- each ticket that waits by the record was tried, if its session is left out of the set
abbrev pub AreTried : TableId → ℕ → set.FinSet nat_cmp → LatchRecord → Mine → Mine → Type 0
AreTried id place untried h m m′ =
    (t : Ticket) → Contains h.book.waiting t → is_session t.session ≡ true → set.contains untried t.session ≡ false →
    IsTried id place t.session t.number m m′

-- at first nobody was tried
pub tried_first : (id : TableId) (place : ℕ) (untried : set.FinSet nat_cmp) (h : LatchRecord) (m a : Mine) → IsEverySession untried → AreTried id place untried h m a
tried_first id place untried h m a every t among is out = absurd (let there = every t.session in cc)

-- who was taken out of the set is the last one or was before
out_before : (untried : set.FinSet nat_cmp) (session who : ℕ) → who ≢ session → set.contains (set.remove untried session) who ≡ false → set.contains untried who ≡ false
out_before untried session who differs out =
    let removed : set.contains (set.remove untried session) who ≡ (not (who == session) && set.contains untried who) = set.contains-remove nat_cmp_total untried session who ∙ rw (unsigned_tied who session) refl in
    sym (removed ∙ ap (λ b. not b && set.contains untried who) (other who session differs)) ∙ out

-- fewer are left
pub fewer_untried : (untried : set.FinSet nat_cmp) (session : ℕ) → set.contains untried session ≡ true → set.len (set.remove untried session) < set.len untried
fewer_untried untried session there =
    let one : set.len (set.remove untried session) ≡ set.len untried - 1 = set.len-remove nat_cmp_total untried session ∙ ap (λ b. cond b (set.len untried - 1) (set.len untried)) there in
    let some : set.len untried ≢ 0 = λ none. (let empty = ap (λ s. set.contains s session) (set.empty_of_len untried none) ∙ set.contains-empty nat_cmp session in absurd (cc)) in
    omega arith

module _ (id : TableId) (place session number word : ℕ) (h : LatchRecord) (m a b : Mine) (untried : set.FinSet nat_cmp) (before : MakesMoreSteps m a) (more : MakesMoreSteps a b) (has : Holds place h h.book a) (may : MayReschedule word h)
    (ready : IsGrantableTicket session number h) (served : IsTriedOrGranted id place session number h a b) (tried : AreTried id place untried h m a) where
  -- who was tried before was tried
  still : (who its : ℕ) → IsTried id place who its m a → IsTried id place who its m b
  still who its (inl none) = inl none
  still who its (inr settled) = inr (settled_within m a m b (step_before m a b more) id.slots place who its settled)

  it : IsTried id place session number a b → IsTried id place session number m b
  it (inl none) = inl none
  it (inr settled) = inr (settled_within a b m b (step_after m a b before) id.slots place session number settled)

  pub turn_done : (h′ : LatchRecord) × Holds place h′ h′.book b × MayReschedule word h′ × AreTried id place (set.remove untried session) h′ m b
  turn_done = elim served [
    | inl left ↦ (
      h,
      left.1,
      may,
      λ t among is out. elim (cases_eq t.session session) [
        | inl same ↦
            subst (λ (n : ℕ). IsTried id place n t.number m b) (sym same)
            (subst (λ (n : ℕ). IsTried id place session n m b) (sym (only_one word session number h ready.wish t ready.waits may among same)) (it left.0))
        | inr differs ↦ still t.session t.number (tried t among is (out_before untried session t.session differs out))
      ],
    )
    | inr granted ↦ (
      with_admitted session number h,
      granted,
      grants_on word session number h ready.wish ready.waits may,
      λ t among is out. elim (cases_eq t.session session) [
        | inl same ↦ absurd (gone word session number h ready.wish t ready.waits may among same)
        | inr differs ↦ still t.session t.number (tried t (waits_still session number h t among) is (out_before untried session t.session differs out))
      ],
    )
  ]

-- ---- who is passed over

-- a step that read the word of a lock
abbrev pub WasRead : ℕ → ℕ → Mine → Mine → Type 0
WasRead place word m m′ = (e : StepRecord) × IsStepOf m m′ e × (e.kind ≡ ReadWord) × (e.word ≡ lock_word place) × (e.found ≡ word)

pub read_first : (place word : ℕ) (m m′ : Mine) → m′ ≡ stepped ReadWord place word (noting word) m → WasRead place word m m′
read_first place word m m′ is =
    let e : StepRecord = record { kind = ReadWord; deeds = []; word = lock_word place; found = word; held = (changed place (noting word) m.0).latches; directory = m.0.directory } in
    (e, ([], [], ap (λ (x : Mine). x.0.log) is ∙ ap (λ (log : List StepRecord). log ++ e ∷ []) (sym (append-nil m.0.log))), refl, refl, refl)

pub read_before : (place word : ℕ) (a b c : Mine) → MakesMoreSteps b c → WasRead place word a b → WasRead place word a c
read_before place word a b c more read = (read.0, step_before a b c more read.0 read.1, read.2, read.3, read.4)

module _ (id : TableId) (place word : ℕ) (untried : set.FinSet nat_cmp) (h : LatchRecord) (m a : Mine) (may : MayReschedule word h) (read : WasRead place word m a) (tried : AreTried id place untried h m a) where
  -- those of whom none is next
  looks : (tickets : List Ticket) → ((t : Ticket) → Contains tickets t → Contains h.book.waiting t) → find (is_ready word untried h.book) tickets ≡ None → IsLookedThrough id place h tickets m a
  looks tickets waits none = record {
    read = read.0;
    read_then = read.1;
    kind = read.2;
    of_lock = read.3;
    noted = λ up. may.1 up ∙ ap (λ (w : ℕ). Some w) (sym read.4);
    passed = λ t among known is. elim (not_ready word untried h tickets none t among) [
      | inl out ↦ elim (tried t (waits t among) is out) [
        | inl unknown ↦ absurd (unknown known)
        | inr settled ↦ inl settled
      ]
      | inr cannot ↦ inr (subst (λ (w : ℕ). can_be_granted (lock_kind h.book) h.book.granted h.book.waiting w t.session t.mode ≡ false) (sym read.4) cannot)
    ];
  }

  -- those who arrived before the next one
  pub looks_ahead : (t : Ticket) → next_grantable word untried h.book ≡ Some t → IsLookedThrough id place h (ahead_of t.session t.number h.book.waiting) m a
  looks_ahead t next = looks (ahead_of t.session t.number h.book.waiting) (waits_ahead t.session t.number h.book.waiting) (none_ahead word t untried h next)

  -- all, where nobody is next
  pub forgets_nobody : next_grantable word untried h.book ≡ None → ForgetsNobody id place h m a
  forgets_nobody none = looks h.book.waiting (λ t among. among) none
