-- Second tickets that are made of held ones.
use Rattle.std.proofs.Common.{◌≡◌, ◌⊎◌, inl, inr, ℕ, false, Some, None, [], ◌∷◌, Result, Ok, Err, refl, ap, subst₂, ◌∙◌, IfErr, IfOk, OnErr}
use Rattle.mdl_shared.proofs.FirstLemmas.{BecomesSlow, Clone_ticket, DidDeeds, DoesQuietly, Full, FullForFast, Gain, GainsFast, Granted, IsCause, IsCloned, IsClosed, IsMember, Joins, KeepsRoom, Knows, LacksMemory, LacksRoomForWish, MayClone, MeetsFull, MeetsOwn, MeetsTicket, Mode, OfHeld, OutOfMemory, Refused, SessionTicket, SessionView, Shows, ShowsStep, SlowsAll, SpaceError, Stays, StopsSlowing, VisitsOnce, as_held, clone_fault, cloned, cloning, data_of, done-nothing, has_number, is_waiting, keeps-before, numbered, option_map, refused, same-stays, speaks, ticket-told, tickets_seen, waits-asks}
use Rattle.mdl_shared.proofs.FastWishShows.{full-fast, full-one, wish-lack}
use Rattle.mdl_shared.proofs.FastWishing.{by-latch, number-slow}
use Rattle.mdl_shared.proofs.QuietDeeds.{quiet-shows, quiet-then}
use Rattle.mdl_shared.proofs.WishCalls.{by-cause, gain-joins}
use Rattle.mdl_shared.proofs.WishFaults.{clone-cause, clone-clear}

module _ {s : SessionView} (is : IsMember s) (id : ℕ) (mode : Mode) where
  -- refused for what the session has
  pub clone-unfit : (why : SpaceError) → clone_fault (numbered id (tickets_seen s.me.0)) s.me.0.asks mode s.me.0.known s.me.0.next ≡ Some why
      → Joins (data_of s) (Clone_ticket s.me.0.number id mode) (Refused why) (data_of s)
  clone-unfit why fault =
      refused s s (Clone_ticket s.me.0.number id mode) why (same-stays s) (speaks is) refl
      (clone-cause s (λ w. IsCause (Knows (data_of s) s.me.0.number) (Clone_ticket s.me.0.number id mode) w (data_of s).own) id mode why (numbered id (tickets_seen s.me.0)) refl
      (λ h. h) (λ h. h) (λ h. h) (λ h. h) fault) (λ state how is. cc) tt

  module _ (clear : clone_fault (numbered id (tickets_seen s.me.0)) s.me.0.asks mode s.me.0.known s.me.0.next ≡ None) where
    may-clone : (is_waiting (data_of s).own ≡ false) × OfHeld id (data_of s).own (MayClone (Knows (data_of s) s.me.0.number) mode)
    may-clone = let h = clone-clear s id mode (numbered id (tickets_seen s.me.0)) refl clear in (waits-asks s.me.0.asks s.me.0.waits ∙ h.0, h.1)

    -- refused, as memory ran out or the book is full
    clone-refused : {s′ : SessionView} → Stays s s′ → {why : SpaceError} → (why ≡ OutOfMemory) ⊎ (why ≡ Full)
        → Joins (data_of s) (Clone_ticket s.me.0.number id mode) (Refused why) (data_of s′)
    clone-refused {s′} stays {why} causes =
        refused s s′ (Clone_ticket s.me.0.number id mode) why stays (speaks is) refl
        (by-cause (λ w. IsCause (Knows (data_of s) s.me.0.number) (Clone_ticket s.me.0.number id mode) w (data_of s).own) why tt may-clone causes)
        (λ state how is. cc) tt

    module _ (t : SessionTicket) (its : numbered id (tickets_seen s.me.0) ≡ Some t) where
      pub clone-joins : {s′ : SessionView} {new : ℕ} → new ≡ s.me.0.next → DidDeeds t.place (Gain new mode ∷ []) s s′
          → Joins (data_of s) (Clone_ticket s.me.0.number id mode) (Granted new) (data_of s′)
      clone-joins {s′} {new} first done =
          gain-joins is first done (Clone_ticket s.me.0.number id mode) (speaks is) refl
          (ap (λ o. cloning new mode o (data_of s).own) (ticket-told id (tickets_seen s.me.0) ∙ ap (option_map as_held) its)) (λ d. d)
          may-clone refl (λ state how is. cc) (λ how is. cc) refl (λ r. r) tt

      clone-shows : {s′ : SessionView} {new : ℕ} → DoesQuietly t.place (Gain new mode ∷ []) s s′
          → IsCloned t.place mode id (Gain new mode) s s′ → KeepsRoom 1 s.room s′.room → Shows (Clone_ticket s.me.0.number id mode) (Granted new) s s′
      clone-shows quiet met keeps = quiet-shows quiet refl clear (λ e. e) (λ e. e) (λ owes searches. (owes, searches)) (t, its, met) keeps

      -- by the fast path
      pub fast-cloned : {b : SessionView} {new : ℕ} → GainsFast t.place mode new s b
          → Joins (data_of s) (Clone_ticket s.me.0.number id mode) (Granted new) (data_of b) × Shows (Clone_ticket s.me.0.number id mode) (Granted new) s b
      fast-cloned gains = (clone-joins gains.first gains.quiet.done, clone-shows gains.quiet (inl gains.met) gains.room)

      -- there was no room
      clone-full : {at : ℕ} {b : SessionView} {why : SpaceError} → DoesQuietly at [] s b × KeepsRoom 0 s.room b.room → LacksRoomForWish (MeetsFull t.place) t.place mode false why s b
          → Joins (data_of s) (Clone_ticket s.me.0.number id mode) (Refused why) (data_of b) × Shows (Clone_ticket s.me.0.number id mode) (Refused why) s b
      clone-full {b = b} still lacks = (
        clone-refused (done-nothing still.0.done) (wish-lack t.place mode false s b lacks),
        quiet-shows still.0 refl clear (λ e. e) (λ e. e) (λ owes searches. (owes, searches)) (inr (t, its, lacks)) still.1,
      )

      pub full-cloned : {b : SessionView} {why : SpaceError} → DoesQuietly 0 [] s b × KeepsRoom 0 s.room b.room
          → ((why ≡ OutOfMemory) × LacksMemory t.place mode StopsSlowing s b) ⊎ ((why ≡ Full) × IsClosed t.place mode StopsSlowing s b × FullForFast s b)
          → Joins (data_of s) (Clone_ticket s.me.0.number id mode) (Refused why) (data_of b) × Shows (Clone_ticket s.me.0.number id mode) (Refused why) s b
      full-cloned {b} still causes = clone-full still (full-fast t.place mode false s b causes)

      -- by the latch of the place, once all fast tickets are slow ones
      module _ {b c : SessionView} (slow : BecomesSlow s b) (closed : IsClosed t.place mode SlowsAll s b) (once : VisitsOnce t.place b.me c.me) where
        pub cloned-slow : (next : ℕ) → next ≡ s.me.0.next → (result : Result ℕ SpaceError)
            → IfOk result (λ new. (new ≡ next) × DoesQuietly t.place (Gain new mode ∷ []) b c × MeetsTicket t.number (Gain new mode ∷ []) b c t
            × KeepsRoom 1 b.room c.room)
            → OnErr result (DoesQuietly t.place [] b c × KeepsRoom 0 b.room c.room)
            → IfErr result (λ why. (why ≡ OutOfMemory) ⊎ ((why ≡ Full) × ShowsStep b c (MeetsFull t.place)))
            → Joins (data_of s) (Clone_ticket s.me.0.number id mode) (cloned result) (data_of c)
            × Shows (Clone_ticket s.me.0.number id mode) (cloned result) s c
        cloned-slow next first (Ok new) made still causes =
            let quiet = quiet-then slow.quiet made.1 in
            let met = made.2 in
            let own = subst₂ (λ (who n : ℕ). MeetsOwn t.place who n met.0) (number-slow slow) (has_number id t (tickets_seen s.me.0) its) met.2.0 in (
              clone-joins (made.0 ∙ first) quiet.done,
              clone-shows quiet (inr (by-latch slow t.place mode false c closed once (met.0, met.1, (own, met.2.1)))) (keeps-before 1 s.room b.room c.room slow.room made.3),
            )
        cloned-slow next first (Err why) made still causes =
            clone-full (quiet-then slow.quiet still.0, keeps-before 0 s.room b.room c.room slow.room still.1) (full-one t.place mode false s b c slow closed once causes)
