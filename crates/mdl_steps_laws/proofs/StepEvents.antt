-- What a session may do by one step is one event of the system.
use Rattle.std.proofs.Common.{◌≡◌, ℕ, suc, ◌<◌, true, inl, inr, List, [], ◌∷◌, Some, None, sym, ap, ◌∙◌, subst, ◌⊎◌, Contains}
use Rattle.mdl_book.specs.Books as books
use Rattle.mdl_key.specs.declared.namespace.Namespace.{Namespace}
use Rattle.mdl_system.specs.Systems.{lock_kind}
use Rattle.mdl_steps_laws.proofs.FirstLemmas.{Alter, AreKeysOf, BookView, BringsDeeds, Contains-append_right, Deed, Definition, Does, Gain, HoldsTicket, IsAtLeast, IsHeld, IsNewNumber, IsOf, IsOfNoWait, IsOnly, IsTold, KeyName, Kind, LatchRecord, Lock, Lose, LoweringBrings, MayBeGranted, MayClone, MayDo, MayDowngrade, MayJoin, MayMerge, MayTake, MayUpgrade, Mine, Mode, NotWaited, PuttingBrings, Rests, Rule, Slot, State, System, Ticket, View, WritingBrings, after_lowering, after_put, all_booked, altering_downgrades, altering_upgrades, due_asked, first_place, found-passes, gaining_clones, gaining_grants, get_elem?, goes_first, granted_of, held_at, holders_may_join, in_locks, in_rule, is_passed, key_told, last_place, losing_releases, next_numbers_are_new, of_lock, of_view, one_seat, own_tickets_are_held, placed, ruled_book, same_definitions, same_members, some, some_session, standing_fault, ticket_of, waits}
use Rattle.mdl_steps_laws.proofs.FastEvents.{no_wait}
use Rattle.mdl_steps_laws.proofs.Merging.{moving_merges}
use Rattle.mdl_steps_laws.proofs.Redefining.{redefining_changes}
use Rattle.mdl_steps_laws.proofs.ToldDeeds.{lowering_is_done, putting_is_done, writing_is_done}

-- ---- what the seat of a latch holder knows is so of the system

module _ (s : State Slot View) (r : Rule s) (keys : List KeyName) (keys_are : AreKeysOf s keys) (i : ℕ) (key : KeyName) (at : get_elem? keys i ≡ some key)
    (id : ℕ) (me : Mine) (seat : get_elem? s.views id ≡ some me.0) (h : LatchRecord) (holds : held_at (suc i) me.0.latches ≡ Some h)
    (a : System Definition) (told : IsTold s a) where
  numbered : 0 < me.0.number
  numbered = some_session s r keys keys_are i key at id me.0 seat h holds

  here : get_elem? told.1.keys i ≡ some key
  here = in_locks s r keys keys_are i key at told.0 told.1

  pub book_is : h.book ≡ (told.0 key).book
  book_is = (told.1.book_is i key here).taken id me.0 seat h holds

  pub kind_is : books.lock_kind h.book ≡ lock_kind key
  kind_is = ap books.lock_kind book_is ∙ ap lock_kind (told.2.keyed key)

  pub is_new : IsNewNumber a me.0.number me.0.next
  is_new = next_numbers_are_new s r told.0 told.1 a told.2 id me.0 seat numbered

  pub may_take : (mode : Mode) → MayBeGranted me.0 h.book h.noted mode → MayTake me.0.number mode (told.0 key) a
  may_take mode may = record {
    free = no_wait s r id me seat may.idle a told;
    noted = h.noted;
    ready = holders_may_join s r told.0 told.1 i key here id me.0 seat h holds;
    joins = subst (λ (b : BookView). MayJoin me.0.number b h.noted mode) book_is may.joins;
    first = subst (λ (b : BookView). goes_first (books.lock_kind b) b.waiting me.0.number mode ≡ true) book_is may.first;
  }

  -- no wait that isn't ended is for a ticket that the session doesn't ask for
  unasked : (number : ℕ) → NotWaited me.0 number → IsOfNoWait a me.0.number number
  unasked number unwaited wait stands session same =
      let granted = (told.3.unended wait).0 stands in
      let mine : granted.1 ≡ me.0 = one_seat s r granted.0 id granted.1 me.0 granted.3 seat (granted.4 ∙ session) numbered in
      unwaited granted.2 (ap (λ (v : View). v.asks) (sym mine) ∙ granted.5) (granted.6 ∙ same)

  pub holds_ticket : (number : ℕ) (t : Ticket) → HoldsTicket me.0 h.book number t → IsOnly me.0.number number (told.0 key) t × IsHeld a me.0.number (of_lock key t)
  holds_ticket number t held =
      let ruled = in_rule s r keys keys_are i key at in
      let same : h.book ≡ (placed s r i key ruled).book = (ruled_book s r (suc i) (first_place s r i key ruled) (last_place s r i key ruled)).taken id me.0 seat h holds in
      let in_view = sym (of_view s r id me.0 seat i key ruled number (λ u is equal.
      let b = due_asked (suc i) me.0.number (waits s me.0.number) me.0.asks u is in held.1 b.0 b.1 (sym b.2 ∙ equal)))
      ∙ ap (λ (b : BookView). ticket_of me.0.number number b.granted) (sym same) ∙ held.0 in
      own_tickets_are_held s r told.0 told.1 a told.2 i key here id me.0 seat numbered number t in_view held.1 (unasked number held.1)

  -- a ticket of the session in the book, for which it has no wait to end
  pub held_by_book : (t : Ticket) → Contains h.book.granted t → t.session ≡ me.0.number → IsOfNoWait a me.0.number t.number → IsHeld a me.0.number (of_lock key t)
  held_by_book t among session unwaited = (
    (told.2.granted (of_lock key t)).1 (Contains-append_right (told.0 key).fast (told.0 key).book.granted t (subst (λ (b : BookView). Contains b.granted t) book_is among)),
    session,
    unwaited,
  )

-- ---- from one table to another

module _ (s : State Slot View) (r : Rule s) (keys : List KeyName) (keys_are : AreKeysOf s keys) (i : ℕ) (key : KeyName) (at : get_elem? keys i ≡ some key)
    (id : ℕ) (me : Mine) (seat : get_elem? s.views id ≡ some me.0) (h : LatchRecord) (holds : held_at (suc i) me.0.latches ≡ Some h) (s′ : State Slot View) (r′ : Rule s′) where
  -- these deeds are done from one to the other, whichever systems they tell
  abbrev AreDone : List Deed → Type 0
  AreDone ds = (a b : System Definition) (told : IsTold s a) (told′ : IsTold s′ b) → Does me.0.number ds key told.0 told′.0 a b

  does_nothing : AreDone [] → Rests s s′
  does_nothing does = (
    r′,
    λ a b told told′.
        let did = does a b told told′ in
        let same : (k : KeyName) → told′.0 k ≡ told.0 k = λ k. elim (key_told k key) [
          | inl e ↦ subst (λ (x : KeyName). told′.0 x ≡ told.0 x) (sym e) did.here
          | inr away ↦ did.elsewhere k away
        ] in
        record {
          granted = same_members told.0 told′.0 a b told.2 told′.2 (λ k. ap granted_of (same k));
          waits = did.waits;
          definitions = same_definitions told.0 told′.0 a b told.2 told′.2 (λ k. ap (λ (l : Lock). l.book.standing) (same k));
        },
  )

  its : (number : ℕ) (t : Ticket) → HoldsTicket me.0 h.book number t → IsOf me.0.number number t
  its number t held = is_passed me.0.number number t (found-passes me.0.number number h.book.granted t held.0)

  gains : (number : ℕ) (mode : Mode) → number ≡ me.0.next → MayBeGranted me.0 h.book h.noted mode ⊎ MayClone me.0 h.book mode → AreDone (Gain number mode ∷ [])
      → BringsDeeds me.0.number key (Gain number mode ∷ []) s s′
  gains number mode next may does = elim may [
    | inl granted ↦ inl (
      r′,
      λ a b told told′. gaining_grants me.0.number number mode key told.0 told′.0 a b (does a b told told′)
          (subst (λ (n : ℕ). IsNewNumber a me.0.number n) (sym next) (is_new s r keys keys_are i key at id me seat h holds a told))
          (may_take s r keys keys_are i key at id me seat h holds a told mode granted),
    )
    | inr clone ↦
        let t = clone.cloned.0 in
        inr (
          t,
          clone.cloned.2,
          (
            r′,
            λ a b told told′.
                let free = no_wait s r id me seat clone.idle a told in
                gaining_clones me.0.number number mode key told.0 told′.0 a b (does a b told told′) free
                (subst (λ (n : ℕ). IsNewNumber a me.0.number n) (sym next) (is_new s r keys keys_are i key at id me seat h holds a told)) t
                (held_by_book s r keys keys_are i key at id me seat h holds a told t clone.cloned.1 clone.cloned.2 (λ wait stands session. absurd (free.1 wait stands session)))
                (subst (λ (k : Kind). IsAtLeast k t.mode mode) (kind_is s r keys keys_are i key at id me seat h holds a told) clone.cloned.3),
          ),
        )
  ]

  alters : (number : ℕ) (mode : Mode) → MayUpgrade me.0 h.book h.noted number mode ⊎ MayDowngrade me.0 h.book number mode → AreDone (Alter number mode ∷ [])
      → BringsDeeds me.0.number key (Alter number mode ∷ []) s s′
  alters number mode may does = elim may [
    | inl up ↦ (
      up.0.0,
      its number up.0.0 up.0.1,
      inl (
        r′,
        λ a b told told′.
            let own = holds_ticket s r keys keys_are i key at id me seat h holds a told number up.0.0 up.0.1 in
            altering_upgrades me.0.number number mode key told.0 told′.0 a b (does a b told told′) up.0.0 own.0 own.1 (may_take s r keys keys_are i key at id me seat h holds a told mode up.1),
      ),
    )
    | inr down ↦ (
      down.ticket,
      its number down.ticket down.held,
      inr (
        r′,
        λ a b told told′.
            let own = holds_ticket s r keys keys_are i key at id me seat h holds a told number down.ticket down.held in
            altering_downgrades me.0.number number mode key told.0 told′.0 a b (does a b told told′) down.ticket own.0 own.1 down.weaker,
      ),
    )
  ]

  loses : (number : ℕ) (t : Ticket) → HoldsTicket me.0 h.book number t → AreDone (Lose number ∷ []) → BringsDeeds me.0.number key (Lose number ∷ []) s s′
  loses number t held does = (
    t,
    its number t held,
    (
      r′,
      λ a b told told′.
          let own = holds_ticket s r keys keys_are i key at id me seat h holds a told number t held in
          losing_releases me.0.number number key told.0 told′.0 a b (does a b told told′) t own.0 own.1,
    ),
  )

  merges : (kept : ℕ) (mode : Mode) (lost : ℕ) → MayMerge me.0 h.book kept mode lost → AreDone (Alter kept mode ∷ Lose lost ∷ [])
      → BringsDeeds me.0.number key (Alter kept mode ∷ Lose lost ∷ []) s s′
  merges kept mode lost may does = (
    may.old,
    may.new,
    its kept may.old may.old_held,
    its lost may.new may.new_held,
    may.mode_is,
    (
      r′,
      λ a b told told′.
          let old = holds_ticket s r keys keys_are i key at id me seat h holds a told kept may.old may.old_held in
          let new = holds_ticket s r keys keys_are i key at id me seat h holds a told lost may.new may.new_held in
          moving_merges me.0.number kept lost key told.0 told′.0 a b may.old may.new old.0 new.0 may.two
          (subst (λ (m : Mode). Does me.0.number (Alter kept m ∷ Lose lost ∷ []) key told.0 told′.0 a b) (sym may.mode_is) (does a b told told′))
          (no_wait s r id me seat may.idle a told) old.1 new.1
          (subst (λ (m : Mode). IsAtLeast (lock_kind key) m may.old.mode) (sym may.mode_is)
          (subst (λ (k : Kind). IsAtLeast k mode may.old.mode) (kind_is s r keys keys_are i key at id me seat h holds a told) may.at_least)),
    ),
  )

  brings : (ds : List Deed) → MayDo me.0 h.book h.noted ds → AreDone ds → BringsDeeds me.0.number key ds s s′
  brings [] may does = does_nothing does
  brings (Gain number mode ∷ []) may does = gains number mode may.0 may.1 does
  brings (Gain number mode ∷ d ∷ ds) may does = absurd may
  brings (Alter number mode ∷ []) may does = alters number mode may does
  brings (Alter kept mode ∷ Lose lost ∷ []) may does = merges kept mode lost may does
  brings (Alter kept mode ∷ Lose lost ∷ d ∷ ds) may does = absurd may
  brings (Alter kept mode ∷ Gain number other ∷ ds) may does = absurd may
  brings (Alter kept mode ∷ Alter number other ∷ ds) may does = absurd may
  brings (Lose number ∷ []) may does = loses number may.0 may.1 does
  brings (Lose number ∷ d ∷ ds) may does = absurd may

-- ---- the steps

pub putting_brings : PuttingBrings
putting_brings s r keys keys_are i key at id me seat h ds done r′ =
    brings s r keys keys_are i key at id me seat h done.holds.recorded (after_put s (suc i) ds (all_booked me.0.number ds h.book) id me) r′ ds done.may
    (putting_is_done s r keys keys_are i key at id me seat h done.holds.recorded ds r′)

pub lowering_brings : LoweringBrings
lowering_brings s r keys keys_are i key at id me seat h ds done found left slow obtrusive r′ =
    brings s r keys keys_are i key at id me seat h done.holds.recorded (after_lowering s (suc i) ds found left (all_booked me.0.number ds h.book) slow obtrusive id me) r′ ds done.may
    (lowering_is_done s r keys keys_are i key at id me seat h done.holds.recorded ds found left slow obtrusive r′)

pub writing_brings : WritingBrings
writing_brings s r keys keys_are i key at id me seat h change done r′ =
    let t = done.exclusive.0 in (
      t,
      done.exclusive.2,
      (
        r′,
        λ a b told told′.
            let book = book_is s r keys keys_are i key at id me seat h done.holds.recorded a told in
            redefining_changes me.0.number change key told.0 told′.0 a b
            (writing_is_done s r keys keys_are i key at id me seat h done.holds.recorded change r′ a b told told′) t
            (held_by_book s r keys keys_are i key at id me seat h done.holds.recorded a told t done.exclusive.1 done.exclusive.2
            (unasked s r keys keys_are i key at id me seat h done.holds.recorded a told t.number done.exclusive.4))
            done.exclusive.3
            (subst (λ (n : Namespace). standing_fault n change (told.0 key).book.standing ≡ None) (ap (λ (k : KeyName). k.namespace) (told.2.keyed key))
            (subst (λ (b : BookView). standing_fault b.key.namespace change b.standing ≡ None) book done.allowed)),
      ),
    )
