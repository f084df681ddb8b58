-- Upgrades and merges, before which the fast tickets of their session become slow ones.
use Rattle.std.proofs.Common.{◌≡◌, inr, ℕ, true, false, List, [], ◌∷◌, Some, None, Ok, if◌then◌else◌, refl, sym, ap, subst, subst₂, ◌∙◌}
use Rattle.mdl_calls.specs.declared.answers.Upgrade.TheVariants as upgrade
use mathlib.Core.Path.{subst₃}
use Rattle.mdl_shared.proofs.FirstLemmas.{AllMadeSlow, Alter, BecomesSlow, DidDeeds, DoesQuietly, Done, IsCause, IsMember, IsStepOf, IsVisit, Joins, KeepsRoom, Knows, LacksRoomForFast, Lose, MeetsBlocked, MeetsGrantable, MeetsOwn, Member, Merge, Mode, Refused, SessionTicket, SessionView, Shows, ShowsStep, SlowsAll, SpaceError, StepRecord, StopsSlowing, Upgrade, Upgrade_now, Upgraded, VisitsOnce, Would_wait, covers, data_of, done-nothing, has_number, interleaved, keeps-before, merge_deeds, merge_fault, numbered, refused, rise_deeds, speaks, tickets_seen, upgrade_deeds, upgrade_fault, upgrade_tried, view_of}
use Rattle.mdl_shared.proofs.FastWishShows.{lack-cause}
use Rattle.mdl_shared.proofs.FastWishing.{by-visit, number-slow}
use Rattle.mdl_shared.proofs.QuietDeeds.{quiet-shows, quiet-then, same-lists}
use Rattle.mdl_shared.proofs.TicketCalls.{blocked-joins, may-rise, merge-joins, upgrade-joins}
use Rattle.mdl_shared.proofs.TicketFaults.{merge-clear}
use Rattle.mdl_shared.proofs.WishCalls.{by-cause}
use Rattle.mdl_shared.proofs.Wishing.{unfast-seen}

-- ---- the fast tickets

-- they became slow ones
pub becomes-slow : (m m′ : Member) → DoesQuietly 0 [] (view_of m) (view_of m′) → (m′.tickets.fast ≡ []) × AllMadeSlow (view_of m) (view_of m′)
    → KeepsRoom 0 m.tickets.room m′.tickets.room → BecomesSlow (view_of m) (view_of m′)
becomes-slow m m′ quiet made keeps = record { quiet = quiet; unfast = unfast-seen m′ made.0; made = made.1; room = keeps }

-- so each ticket that the session had is a slow one
pub slow-then : {place : ℕ} (m m′ : Member) → DidDeeds place [] (view_of m) (view_of m′) → m′.tickets.fast ≡ [] → (id : ℕ) (t : SessionTicket)
    → numbered id (interleaved m.tickets.slow m.tickets.fast) ≡ Some t → numbered t.number m′.tickets.slow ≡ Some t
slow-then m m′ done none id t found =
    let its = ap (numbered id) (same-lists m m′ done).tickets ∙ found in
    let slow = subst (λ (ts : List SessionTicket). numbered id (interleaved m′.tickets.slow ts) ≡ Some t) none its in
    subst (λ (n : ℕ). numbered n m′.tickets.slow ≡ Some t) (sym (has_number id t m′.tickets.slow slow)) slow

-- ---- upgrades, to a mode that the ticket's own doesn't cover

module _ {a : SessionView} (is : IsMember a) (id : ℕ) (t : SessionTicket) (its : numbered id (tickets_seen a.me.0) ≡ Some t) (mode : Mode)
    (clear : upgrade_fault mode a.me.0.known a.me.0.asks (numbered id (tickets_seen a.me.0)) ≡ None) where
  -- there was no room for the fast tickets
  pub upgrade-refused : {b : SessionView} {why : SpaceError} → covers t.mode mode ≡ false → DoesQuietly 0 [] a b → LacksRoomForFast why a b → StopsSlowing a.me b.me → KeepsRoom 0 a.room b.room
      → Joins (data_of a) (Upgrade_now a.me.0.number id mode) (Refused why) (data_of b) × Shows (Upgrade_now a.me.0.number id mode) (Refused why) a b
  upgrade-refused {b} {why} short quiet lacks stops keeps = (
    refused a b (Upgrade_now a.me.0.number id mode) why (done-nothing quiet.done) (speaks is) refl
        (by-cause (λ w. IsCause (Knows (data_of a) a.me.0.number) (Upgrade_now a.me.0.number id mode) w (data_of a).own) why tt
        (may-rise is id t its mode clear) (lack-cause a b lacks))
        (λ state how is. cc) tt,
    quiet-shows quiet refl clear (λ e. e) (λ e. e) (λ owes searches. (owes, searches)) (inr ((t, its, short), lacks, stops)) keeps,
  )

  deeds : (answer : Upgrade) → covers t.mode mode ≡ false → rise_deeds id mode answer ≡ upgrade_deeds id mode (Ok answer) (numbered id (tickets_seen a.me.0))
  deeds answer short = sym (ap (upgrade_deeds id mode (Ok answer)) its ∙ ap (λ b. if b then [] else rise_deeds id mode answer) short)

  module _ (short : covers t.mode mode ≡ false) {b c : SessionView} (slow : BecomesSlow a b) (turn : SlowsAll a.me b.me) (once : IsVisit t.place true b.me c.me)
      (keeps : KeepsRoom 0 b.room c.room) where
    -- it has the mode
    upgraded-slow : DoesQuietly t.place (Alter t.number mode ∷ []) b c × ShowsStep b c (MeetsGrantable t.place b.me.0.number mode (Alter t.number mode))
        → Joins (data_of a) (Upgrade_now a.me.0.number id mode) Upgraded (data_of c) × Shows (Upgrade_now a.me.0.number id mode) Upgraded a c
    upgraded-slow went =
        let number = has_number id t (tickets_seen a.me.0) its in
        let quiet = quiet-then slow.quiet (subst (λ (n : ℕ). DoesQuietly t.place (Alter n mode ∷ []) b c) number went.0) in
        let met = subst (λ (n : ℕ). ShowsStep b c (MeetsGrantable t.place b.me.0.number mode (Alter n mode))) number went.1 in
        let by = subst (λ (who : ℕ). ShowsStep b c (MeetsGrantable t.place who mode (Alter id mode))) (number-slow slow) met in (
          upgrade-joins is id t its mode clear short quiet.done,
          quiet-shows quiet (deeds upgrade.Upgraded short) clear (λ e. e) (λ e. e) (λ owes searches. (owes, searches))
              (t, its, ((λ has. let no = sym has ∙ short in cc), (λ less. by-visit slow t.place true c turn once by))) (keeps-before 0 a.room b.room c.room slow.room keeps),
        )

    -- it would have to wait
    blocked-slow : DoesQuietly t.place [] b c × ShowsStep b c (MeetsBlocked t.place b.me.0.number mode)
        → Joins (data_of a) (Upgrade_now a.me.0.number id mode) Would_wait (data_of c) × Shows (Upgrade_now a.me.0.number id mode) Would_wait a c
    blocked-slow went =
        let quiet = quiet-then slow.quiet went.0 in
        let by = subst (λ (who : ℕ). ShowsStep b c (MeetsBlocked t.place who mode)) (number-slow slow) went.1 in (
          blocked-joins is id t its mode clear short quiet.done,
          quiet-shows quiet (deeds upgrade.WouldWait short) clear (λ e. e) (λ e. e) (λ owes searches. (owes, searches)) (t, its, (short, by-visit slow t.place true c turn once by)) (keeps-before 0 a.room b.room c.room slow.room keeps),
        )

    -- either
    pub tried-slow : (answer : Upgrade)
        → (answer ≡ upgrade.Upgraded → DoesQuietly t.place (Alter t.number mode ∷ []) b c
        × ShowsStep b c (MeetsGrantable t.place b.me.0.number mode (Alter t.number mode)))
        → (answer ≡ upgrade.WouldWait → DoesQuietly t.place [] b c × ShowsStep b c (MeetsBlocked t.place b.me.0.number mode))
        → Joins (data_of a) (Upgrade_now a.me.0.number id mode) (upgrade_tried (Ok answer)) (data_of c)
        × Shows (Upgrade_now a.me.0.number id mode) (upgrade_tried (Ok answer)) a c
    tried-slow upgrade.Upgraded granted blocked = upgraded-slow (granted refl)
    tried-slow upgrade.WouldWait granted blocked = blocked-slow (blocked refl)

-- ---- merges

module _ {a : SessionView} (is : IsMember a) (old new : ℕ) (kept gone : SessionTicket) (its : numbered old (tickets_seen a.me.0) ≡ Some kept)
    (other : numbered new (tickets_seen a.me.0) ≡ Some gone)
    (clear : merge_fault (numbered old (tickets_seen a.me.0)) (numbered new (tickets_seen a.me.0)) a.me.0.asks ≡ None) where
  free : merge_fault (Some kept) (Some gone) a.me.0.asks ≡ None
  free = sym (λ i. merge_fault (its i) (other i) a.me.0.asks) ∙ clear

  -- there was no room for the fast tickets
  pub merge-refused : {b : SessionView} {why : SpaceError} → DoesQuietly 0 [] a b → LacksRoomForFast why a b → StopsSlowing a.me b.me → KeepsRoom 0 a.room b.room
      → Joins (data_of a) (Merge a.me.0.number old new) (Refused why) (data_of b) × Shows (Merge a.me.0.number old new) (Refused why) a b
  merge-refused {b} {why} quiet lacks stops keeps = (
    refused a b (Merge a.me.0.number old new) why (done-nothing quiet.done) (speaks is) refl
        (by-cause (λ w. IsCause (Knows (data_of a) a.me.0.number) (Merge a.me.0.number old new) w (data_of a).own) why tt
        (merge-clear a old new kept gone its other free) (lack-cause a b lacks))
        (λ state how is. cc) tt,
    quiet-shows quiet refl clear (λ e. e) (λ e. e) (λ owes searches. (owes, searches)) (inr (lacks, stops)) keeps,
  )

  -- the tickets are one
  pub merged-slow : {b c : SessionView} → BecomesSlow a b → SlowsAll a.me b.me → VisitsOnce kept.place b.me c.me → KeepsRoom 0 b.room c.room
      → DoesQuietly kept.place (Alter kept.number gone.mode ∷ Lose gone.number ∷ []) b c
      → ((e : StepRecord) × IsStepOf b.me c.me e × MeetsOwn kept.place b.me.0.number kept.number e × MeetsOwn kept.place b.me.0.number gone.number e
      × (e.deeds ≡ Alter kept.number gone.mode ∷ Lose gone.number ∷ []))
      → Joins (data_of a) (Merge a.me.0.number old new) Done (data_of c) × Shows (Merge a.me.0.number old new) Done a c
  merged-slow {b} {c} slow turn once keeps went step =
      let one = has_number old kept (tickets_seen a.me.0) its in
      let two = has_number new gone (tickets_seen a.me.0) other in
      let quiet = quiet-then slow.quiet (subst₂ (λ (n p : ℕ). DoesQuietly kept.place (Alter n gone.mode ∷ Lose p ∷ []) b c) one two went) in
      let met = subst₃ (λ (who n p : ℕ). MeetsOwn kept.place who n step.0 × MeetsOwn kept.place who p step.0 × (step.0.deeds ≡ Alter n gone.mode ∷ Lose p ∷ []))
      (number-slow slow) one two (step.2, step.3, step.4) in (
        merge-joins is old kept its new gone other free quiet.done,
        quiet-shows quiet (sym (ap (merge_deeds old new (Ok tt)) other)) clear (λ e. e) (λ e. e) (λ owes searches. (owes, searches))
            (kept, its, (gone, other, by-visit slow kept.place false c turn once (step.0, step.1, met))) (keeps-before 0 a.room b.room c.room slow.room keeps),
      )
