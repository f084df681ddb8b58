-- What one step may do is what the rule asks of each of its deeds, one after the other.
use Rattle.std.proofs.Common.{◌≡◌, ℕ, Bool, true, not, ◌||◌, List, [], ◌∷◌, refl, sym, subst, inl, inr, ◌⊎◌, Option, Contains}
use Rattle.mdl_book.proofs.TicketLemmas.{find-contains, find-passes}
use Rattle.mdl_key.proofs.MatrixLemmas.{each_mode, at_least-exact}
use Rattle.mdl_key.specs.declared.namespace.Kind.TheVariants.{Scoped, Object}
use Rattle.mdl_system.proofs.LawfulLemmas.{implied}
use Rattle.mdl_steps.proofs.Common.{AllPass-from_list_all, Alter, BookView, Deed, Gain, IsAtLeast, Kind, Lose, MayBeGranted, MayClone, MayDo, MayDowngrade, MayJoin, MayMerge, MayUpgrade, Mode, NotWaited, View, all_modes, booked, done, downgrades, is_at_least, is_mode_of, is_ticket, list_all, lock_kind}
use Rattle.mdl_steps.proofs.Tickets.{is_passed}

-- ---- what the rule asks

-- of a deed
abbrev pub May : View → BookView → Option ℕ → Deed → Type 0
May v book noted (Gain number mode) =
    (number ≡ v.next) × (is_mode_of (lock_kind book) mode ≡ true) × MayJoin v.number book noted mode
May v book noted (Alter number mode) =
    NotWaited v number × (is_mode_of (lock_kind book) mode ≡ true) × MayJoin v.number book noted mode
May v book noted (Lose number) = NotWaited v number

-- of several
abbrev pub MayAll : ℕ → View → BookView → Option ℕ → List Deed → Type 0
MayAll place v book noted [] = Unit {0}
MayAll place v book noted (d ∷ ds) = May v book noted d × MayAll place (done place d v) (booked v.number d book) noted ds

-- ---- a downgrade

-- whether a mode, if it is one of the kind, is no stronger than another
abbrev is_below : Kind → Mode → Mode → Bool
is_below kind strong mode = not (is_mode_of kind mode) || is_at_least kind strong mode

downgrades_below : (kind : Kind) → list_all (λ strong. list_all (is_below kind strong) (downgrades strong)) all_modes ≡ true
downgrades_below Scoped = refl
downgrades_below Object = refl

-- a mode that another may be brought down to is no stronger
downgraded : (kind : Kind) (strong mode : Mode) → Contains (downgrades strong) mode → is_mode_of kind mode ≡ true → IsAtLeast kind strong mode
downgraded kind strong mode there is_mode =
    let all = each_mode (λ s. list_all (is_below kind s) (downgrades s)) (downgrades_below kind) strong in
    let below = subst (λ (m : Mode). is_below kind strong m ≡ true) there.2 (AllPass-from_list_all (is_below kind strong) (downgrades strong) all there.0 mode there.1) in
    (at_least-exact kind strong mode).0 (implied _ _ below is_mode)

-- ---- one step

module _ (v : View) (book : BookView) (noted : Option ℕ) where
  gained : (number : ℕ) (mode : Mode) → number ≡ v.next → MayBeGranted v book noted mode ⊎ MayClone v book mode → May v book noted (Gain number mode)
  gained number mode next may = elim may [
    | inl granted ↦ (next, granted.is_mode, granted.joins)
    | inr cloned ↦ (next, cloned.is_mode, inr (inr cloned.cloned))
  ]

  altered : (number : ℕ) (mode : Mode) → MayUpgrade v book noted number mode ⊎ MayDowngrade v book number mode → May v book noted (Alter number mode)
  altered number mode may = elim may [
    | inl up ↦ (up.0.1.1, up.1.is_mode, up.1.joins)
    | inr down ↦
        let there = find-contains (is_ticket v.number number) book.granted down.ticket down.held.0 in
        let own = is_passed v.number number down.ticket (find-passes (is_ticket v.number number) book.granted down.ticket down.held.0) in
        (down.held.1, down.is_mode, inr (inr (down.ticket, there, own.0, downgraded (lock_kind book) down.ticket.mode mode down.weaker down.is_mode)))
  ]

  -- the ticket that goes is as strong as the one that stays is to be
  merged : (kept : ℕ) (mode : Mode) (lost : ℕ) → MayMerge v book kept mode lost → May v book noted (Alter kept mode)
  merged kept mode lost may =
      let there = find-contains (is_ticket v.number lost) book.granted may.new may.new_held.0 in
      let own = is_passed v.number lost may.new (find-passes (is_ticket v.number lost) book.granted may.new may.new_held.0) in
      let as_strong : IsAtLeast (lock_kind book) may.new.mode mode = subst (λ (m : Mode). IsAtLeast (lock_kind book) m mode) (sym may.mode_is) (λ held clash. clash) in
      (may.old_held.1, may.is_mode, inr (inr (may.new, there, own.0, as_strong)))

  -- a step may do these deeds, one after the other
  pub may_all : (place : ℕ) (ds : List Deed) → MayDo v book noted ds → MayAll place v book noted ds
  may_all place [] may = tt
  may_all place (Gain number mode ∷ []) may = (gained number mode may.0 may.1, tt)
  may_all place (Gain number mode ∷ d ∷ ds) may = absurd may
  may_all place (Alter number mode ∷ []) may = (altered number mode may, tt)
  may_all place (Alter kept mode ∷ Lose lost ∷ []) may = (merged kept mode lost may, (may.new_held.1, tt))
  may_all place (Alter kept mode ∷ Lose lost ∷ d ∷ ds) may = absurd may
  may_all place (Alter kept mode ∷ Gain number other ∷ ds) may = absurd may
  may_all place (Alter kept mode ∷ Alter number other ∷ ds) may = absurd may
  may_all place (Lose number ∷ []) may = (may.1.1, tt)
  may_all place (Lose number ∷ d ∷ ds) may = absurd may
