-- Calls on held tickets: releases, downgrades, upgrades and merges.
use Rattle.std.proofs.Common.{◌≡◌, ℕ, true, false, not, ◌&&◌, List, [], ◌∷◌, Some, None, map, filter, is_some, if◌then◌else◌, Ok, refl, sym, ap, subst, ◌∙◌, eq-eqb}
use Rattle.mdl_calls.specs.declared.answers.Upgrade.TheVariants as upgrade
use Rattle.mdl_shared.proofs.FirstLemmas.{AllNoted, Alter, AtItsTable, Deed, DidDeeds, Does, Done, Downgrade, Held, IsMember, IsStepOf, Joins, KeepsRoom, Lose, MayUpgrade, MeetsOwn, Merge, Mine, Mode, OfHeld, ReadsNothing, Refused, Release, Room, SeatState, SessionTicket, SessionView, Shows, SpaceError, StepRecord, Upgrade_now, Upgraded, VisitsAndReschedules, VisitsOnce, Would_wait, all_of, alters-slow, and_from, and_parts, as_held, covers, data_of, does-nothing, does_reschedule, done-debts, done-next, done-nothing, done-reads, done-rest, done-tickets, downgrade_fault, given-up, holds-told, if-clear, in-mode, in_mode_told, is_here, is_number, is_waiting, joins-held, joins-still, keeps-same, merge_fault, merged-told, merging, not-true, not_from_false, noted-less, noted-moded, noted_under, nothing-read, numbered, numbers-same, of-held, one-note, one-note_done, only-one, option_map, refused, rescheduled, rescheduled-owes, rise_deeds, same-mode, same-rest, same-stays, session_at, speaks, ticket-told, tickets_seen, upgrade_deeds, upgrade_fault, upgraded}
use Rattle.mdl_shared.proofs.HeldTickets.{HoldsTicket}
use Rattle.mdl_shared.proofs.TicketFaults.{downgrade-cause, downgrade-clear, knows, merge-cause, merge-clear, merge-here, upgrade-cause, upgrade-clear}

-- ---- a call with one deed

-- reads nothing, and notes nothing
pub deed-reads : {place : ℕ} {d : Deed} {m m′ : SessionView} → IsMember m → DidDeeds place (d ∷ []) m m′ → ReadsNothing (data_of m) (data_of m′)
deed-reads {place} {d} {m} {m′} is done =
    nothing-read m m′ (done-reads done) (λ at. subst (AllNoted at (noted_under at (tickets_seen m.me.0))) (sym (done-tickets done)) (one-note_done m is at place d))

module _ {m : SessionView} (is : IsMember m) (id : ℕ) (t : SessionTicket) (its : numbered id (tickets_seen m.me.0) ≡ Some t) where
  -- no other ticket has its number
  here : all_of id (is_here t.place) (tickets_seen m.me.0) ≡ true
  here = only-one id (is_here t.place) (tickets_seen m.me.0) t is.sound.rising its (eq-eqb t.place t.place refl)

  -- no number was given
  drawn : {ds : List Deed} {m′ : SessionView} → DidDeeds t.place ds m m′ → m′.me.0.next ≡ m.me.0.next → (data_of m′).numbers ≡ (data_of m).numbers
  drawn {ds} {m′} done next = numbers-same m.me.0.next m′.me.0.next m.me.0.waits m′.me.0.waits next (done-rest done).wait.waits

  pub release-joins : {m′ : SessionView} → DidDeeds t.place (Lose id ∷ []) m m′ → Joins (data_of m) (Release m.me.0.number id) Done (data_of m′)
  release-joins {m′} done =
      joins-held m m′ (Release m.me.0.number id) Done (filter (λ (h : Held). not (is_number id h)) (map as_held (tickets_seen m.me.0))) (done-rest done) (speaks is) refl
      (ap (map as_held) (done-tickets done) ∙ given-up t.place id (tickets_seen m.me.0) here) refl (drawn done (done-next done))
      (holds-told id (tickets_seen m.me.0) true (ap is_some its)) refl (λ state how is. cc) (λ how is. cc) refl (deed-reads is done) tt

  downgrade-joins : {m′ : SessionView} (mode : Mode) → downgrade_fault (numbered id (tickets_seen m.me.0)) mode m.me.0.known ≡ None → DidDeeds t.place (Alter id mode ∷ []) m m′
      → Joins (data_of m) (Downgrade m.me.0.number id mode) Done (data_of m′)
  downgrade-joins {m′} mode clear done =
      joins-held m m′ (Downgrade m.me.0.number id mode) Done (map (in_mode_told id (λ _. mode)) (map as_held (tickets_seen m.me.0))) (done-rest done) (speaks is) refl
      (ap (map as_held) (done-tickets done) ∙ in-mode t.place id mode (λ _. mode) (is_here t.place) (tickets_seen m.me.0) (λ u there. (there, refl)) here) refl
      (drawn done (done-next done)) (downgrade-clear m id mode t its clear) refl
      (λ state how is. cc) (λ how is. cc) refl (deed-reads is done) tt

  -- ---- upgrades

  module _ (mode : Mode) (clear : upgrade_fault mode m.me.0.known m.me.0.asks (numbered id (tickets_seen m.me.0)) ≡ None) where
    pub may-rise : (is_waiting (data_of m).own ≡ false) × OfHeld id (data_of m).own (MayUpgrade (knows m) mode)
    may-rise = upgrade-clear m id mode t its (sym (ap (upgrade_fault mode m.me.0.known m.me.0.asks) its) ∙ clear)

    -- to a mode that its own covers
    pub covered-joins : covers t.mode mode ≡ true → Joins (data_of m) (Upgrade_now m.me.0.number id mode) Upgraded (data_of m)
    covered-joins has =
        joins-held m m (Upgrade_now m.me.0.number id mode) Upgraded (map (in_mode_told id (upgraded mode)) (map as_held (tickets_seen m.me.0))) (same-rest m) (speaks is) refl
        (same-mode id (upgraded mode) (λ u. covers u.mode mode) (tickets_seen m.me.0) (λ u h. ap (λ b. if b then u.mode else mode) h)
        (only-one id (λ u. covers u.mode mode) (tickets_seen m.me.0) t is.sound.rising its has))
        refl refl may-rise refl (λ state how is. cc) (λ how is. cc) refl (nothing-read m m refl (one-note m is)) tt

    pub covered-shows : covers t.mode mode ≡ true → Shows (Upgrade_now m.me.0.number id mode) Upgraded m m
    covered-shows has =
        let none : upgrade_deeds id mode (Ok upgrade.Upgraded) (numbered id (tickets_seen m.me.0)) ≡ [] =
        ap (upgrade_deeds id mode (Ok upgrade.Upgraded)) its ∙ ap (λ b. if b then [] else rise_deeds id mode upgrade.Upgraded) has in
        record {
          table = refl;
          sessions = refl;
          refused = if-clear _ (upgrade_fault mode m.me.0.known m.me.0.asks (numbered id (tickets_seen m.me.0))) clear;
          did = subst (λ (ds : List Deed). Does ds m.me m.me) (sym none) (does-nothing m.me);
          settled = refl;
          told = refl;
          met = (t, its, (λ covered. refl, λ short. let never = sym has ∙ short in cc));
          room = keeps-same m.room;
          debts = λ place owed. owed;
          owes = (refl, refl);
        }

    -- to another
    pub upgrade-joins : {m′ : SessionView} → covers t.mode mode ≡ false → DidDeeds t.place (Alter id mode ∷ []) m m′ → Joins (data_of m) (Upgrade_now m.me.0.number id mode) Upgraded (data_of m′)
    upgrade-joins {m′} short done =
        joins-held m m′ (Upgrade_now m.me.0.number id mode) Upgraded (map (in_mode_told id (upgraded mode)) (map as_held (tickets_seen m.me.0))) (done-rest done) (speaks is) refl
        (ap (map as_held) (done-tickets done) ∙ in-mode t.place id mode (upgraded mode) (λ u. is_here t.place u && not (covers u.mode mode)) (tickets_seen m.me.0)
        (λ u h. let parts = and_parts (is_here t.place u) (not (covers u.mode mode)) h in
        (parts.0, ap (λ b. if b then u.mode else mode) (not-true (covers u.mode mode) parts.1)))
        (only-one id (λ u. is_here t.place u && not (covers u.mode mode)) (tickets_seen m.me.0) t is.sound.rising its
        (and_from _ _ (eq-eqb t.place t.place refl) (not_from_false (covers t.mode mode) short))))
        refl (drawn done (done-next done)) may-rise refl (λ state how is. cc) (λ how is. cc) refl (deed-reads is done) tt

    -- that would have to wait
    pub blocked-joins : {m′ : SessionView} → covers t.mode mode ≡ false → DidDeeds t.place [] m m′ → Joins (data_of m) (Upgrade_now m.me.0.number id mode) Would_wait (data_of m′)
    blocked-joins {m′} short done =
        joins-still m m′ (Upgrade_now m.me.0.number id mode) Would_wait (done-nothing done) (speaks is) refl refl refl
        may-rise refl (λ state how is. cc) (λ how is. cc) refl (λ r. r)
        (of-held id (tickets_seen m.me.0) t (λ (h : Held). covers h.mode mode ≡ false) its short)

  -- ---- merges, the ticket being kept

  pub merge-joins : {m′ : SessionView} (new : ℕ) (gone : SessionTicket) → numbered new (tickets_seen m.me.0) ≡ Some gone → merge_fault (Some t) (Some gone) m.me.0.asks ≡ None
      → DidDeeds t.place (Alter id gone.mode ∷ Lose new ∷ []) m m′ → Joins (data_of m) (Merge m.me.0.number id new) Done (data_of m′)
  merge-joins {m′} new gone other clear done =
      joins-held m m′ (Merge m.me.0.number id new) Done (map (in_mode_told id (λ _. gone.mode)) (filter (λ (h : Held). not (is_number new h)) (map as_held (tickets_seen m.me.0))))
      (done-rest done) (speaks is) refl
      (ap (map as_held) (done-tickets done) ∙ merged-told t.place id new gone.mode (tickets_seen m.me.0) here
      (only-one new (is_here t.place) (tickets_seen m.me.0) gone is.sound.rising other (merge-here t gone m.me.0.asks clear)))
      (ap (λ o. merging id new o (data_of m).own) (ticket-told new (tickets_seen m.me.0) ∙ ap (option_map as_held) other)) (drawn done (done-next done))
      (merge-clear m id new t gone its other clear) refl (λ state how is. cc) (λ how is. cc) refl
      (nothing-read m m′ (done-reads done) (λ at.
      subst (AllNoted at (noted_under at (tickets_seen m.me.0))) (sym (done-tickets done))
      (noted-less at (noted_under at (tickets_seen m.me.0)) _ _ (noted-moded at t.place id (noted_under at (tickets_seen m.me.0)) gone.mode (tickets_seen m.me.0) (one-note m is at)))))
      tt

-- ---- refused for what the session has

module _ {s : SessionView} (is : IsMember s) (why : SpaceError) where
  pub downgrade-unfit : (id : ℕ) (mode : Mode) → downgrade_fault (numbered id (tickets_seen s.me.0)) mode s.me.0.known ≡ Some why
      → Joins (data_of s) (Downgrade s.me.0.number id mode) (Refused why) (data_of s)
  downgrade-unfit id mode fault =
      refused s s (Downgrade s.me.0.number id mode) why (same-stays s) (speaks is) refl
      (downgrade-cause s s.me.0.number id mode why (numbered id (tickets_seen s.me.0)) refl fault) (λ state how is. cc) tt

  pub upgrade-unfit : (id : ℕ) (mode : Mode) → upgrade_fault mode s.me.0.known s.me.0.asks (numbered id (tickets_seen s.me.0)) ≡ Some why
      → Joins (data_of s) (Upgrade_now s.me.0.number id mode) (Refused why) (data_of s)
  upgrade-unfit id mode fault =
      refused s s (Upgrade_now s.me.0.number id mode) why (same-stays s) (speaks is) refl
      (upgrade-cause s s.me.0.number id mode why (numbered id (tickets_seen s.me.0)) refl fault) (λ state how is. cc) tt

  pub merge-unfit : (old new : ℕ) → merge_fault (numbered old (tickets_seen s.me.0)) (numbered new (tickets_seen s.me.0)) s.me.0.asks ≡ Some why
      → Joins (data_of s) (Merge s.me.0.number old new) (Refused why) (data_of s)
  merge-unfit old new fault =
      refused s s (Merge s.me.0.number old new) why (same-stays s) (speaks is) refl
      (merge-cause s s.me.0.number old new why (numbered old (tickets_seen s.me.0)) (numbered new (tickets_seen s.me.0)) refl refl fault) (λ state how is. cc) tt

-- ---- what a downgrade comes to

pub downgraded : (seat seat′ : SeatState) (sessions id : ℕ) {room room′ : Room} {pins : List ℕ} (mode : Mode) (t : SessionTicket) → IsMember (session_at seat sessions room pins)
    → HoldsTicket id t (session_at seat sessions room pins)
    → numbered t.number seat.me.0.slow ≡ Some t → downgrade_fault (numbered id (tickets_seen seat.me.0)) mode seat.me.0.known ≡ None
    → AtItsTable seat seat′ (VisitsAndReschedules seat.table t.place (Alter t.number mode ∷ []))
    → ((e : StepRecord) × IsStepOf seat.me seat′.me e × MeetsOwn t.place seat.me.0.number t.number e × (e.deeds ≡ Alter t.number mode ∷ []))
    → VisitsOnce t.place seat.me seat′.me → KeepsRoom 0 room room′
    → Joins (data_of (session_at seat sessions room pins)) (Downgrade seat.me.0.number id mode) Done (data_of (session_at seat′ sessions room′ pins))
    × Shows (Downgrade seat.me.0.number id mode) Done (session_at seat sessions room pins) (session_at seat′ sessions room′ pins)
downgraded seat seat′ sessions id {room} {room′} {pins} mode t is held slow clear visit step once keeps =
    let free = ap (λ o. downgrade_fault o mode seat.me.0.known) (held.own ∙ sym held.its) ∙ clear in
    let done = rescheduled seat seat′ sessions {room = room} {room′ = room′} {pins = pins} (alters-slow is t.place t.number mode t slow) visit in
    subst (λ (n : ℕ). Joins (data_of (session_at seat sessions room pins)) (Downgrade seat.me.0.number n mode) Done (data_of (session_at seat′ sessions room′ pins))
    × Shows (Downgrade seat.me.0.number n mode) Done (session_at seat sessions room pins) (session_at seat′ sessions room′ pins)) held.number (
      downgrade-joins is t.number t held.own mode free done,
      record {
        table = visit.0;
        sessions = refl;
        refused = if-clear _ _ free;
        did = does_reschedule seat.me seat′.me seat.table t.place (Alter t.number mode ∷ []) visit.1;
        settled = tt;
        told = tt;
        met = ((t, held.own, (step.0, step.1, (step.2, step.3))), (t, held.own, (visit.1.way, once, rescheduled-owes visit)));
        room = keeps;
        debts = done-debts done;
        owes = ap (λ (m : Mine). m.0.searches) visit.1.now;
      },
    )
