-- Who is in the way of whom, and what an event leaves of it.
use Rattle.std.proofs.Common.{◌≡◌, ◌≢◌, ◌⊎◌, ℕ, Bool, true, ◌||◌, not, inl, inr, [], ◌∷◌, Option, refl, sym, ap, subst, ◌∙◌}
use Rattle.std.specs.Prelude.{Contains}
use Rattle.std.specs.List.{list_all}
use Rattle.std.proofs.lemmas.List.Elements.{Contains-append_left}
use Rattle.mdl_key.specs.declared.namespace.Kind.{Kind}
use Rattle.mdl_key.specs.declared.namespace.Kind.TheVariants.{Scoped, Object}
use Rattle.mdl_key.specs.declared.mode.Mode.{Mode}
use Rattle.mdl_key.specs.Words.{IsAtLeast, KeyName, clashes, Clashes, waits_behind, WaitsBehind, all_modes}
use Rattle.mdl_key.proofs.MatrixLemmas.{each_mode, clashes-symmetric}
use Rattle.mdl_system.specs.Systems.{Holding, Waiter, System, lock_kind, IsGrantable}
use Rattle.mdl_system.specs.Events.{Event, Grant, Clone, BeginWait, GrantWaiter, SettleLost, EndGrantedWait, EndLostWait, Release, Upgrade, Merge, Downgrade, ChangeDefinition, Happens, in_mode, granted_ticket}
use Rattle.mdl_system.specs.BlockingLaws.{IsCovered, IsWaiting, BlocksAsMuch, FreesNothing}
use Rattle.mdl_system.proofs.Deciding.{key_told, ticket_told}
use Rattle.mdl_system.proofs.LawfulLemmas.{implied}
use Rattle.mdl_system.proofs.OrderLemmas.{within, gone-after, changed-after, changed-there}

-- ---- modes

-- whether a wish that waits behind a pending mode clashes with it
abbrev behind_clashes : Kind → Mode → Mode → Bool
behind_clashes kind m n = not (waits_behind kind m n) || clashes kind m n

behind_kind : (kind : Kind) → list_all (λ m. list_all (behind_clashes kind m) all_modes) all_modes ≡ true
behind_kind Scoped = refl
behind_kind Object = refl

-- a wish waits behind no pending mode that it could stand beside once that is granted
pub clash_from_behind : (kind : Kind) (m n : Mode) → WaitsBehind kind m n → Clashes kind m n
clash_from_behind kind m n = implied _ _ (each_mode (behind_clashes kind m) (each_mode (λ x. list_all (behind_clashes kind x) all_modes) (behind_kind kind) m) n)

-- ---- more blocks more

module _ {D : Type 0} (a b : System D) (key : KeyName) where
  pub more-blocks : BlocksAsMuch a b key → (session : ℕ) (mode : Mode) → IsGrantable b session key mode → IsGrantable a session key mode
  more-blocks blocks session mode grantable = (
    (λ held among same_key other. covered held.session held.mode (blocks.0 held among same_key) other),
    λ waiter among other behind. elim (blocks.1 waiter among) [
      | inl w ↦ grantable.1 w.0 w.1 (λ e. other (ap (λ t. t.session) (sym w.2) ∙ e)) (subst (λ t. WaitsBehind (lock_kind key) mode t.mode) (sym w.2) behind)
      | inr c ↦ covered waiter.ticket.session waiter.ticket.mode c other (clash_from_behind (lock_kind key) mode waiter.ticket.mode behind)
    ],
  )
    where
      covered : (s : ℕ) (m : Mode) → IsCovered b key s m → s ≢ session → Clashes (lock_kind key) mode m → ⊥
      covered s m c other clash =
          grantable.0 c.0 c.1 c.2 (λ e. other (sym c.3 ∙ e))
          (clashes-symmetric (lock_kind key) mode c.0.mode ∙ c.4 mode (clashes-symmetric (lock_kind key) m mode ∙ clash))

  -- what is still granted covers itself
  covers-itself : (held : Holding) → Contains b.granted held → held.key ≡ key → IsCovered b key held.session held.mode
  covers-itself held among same_key = (held, among, same_key, refl, λ _ clash. clash)

  -- what is granted in a mode that is at least as strong covers what it was
  covers-changed : (lost : Holding) (mode : Mode) → Contains b.granted (in_mode mode lost) → IsAtLeast (lock_kind lost.key) mode lost.mode
      → (held : Holding) → held ≡ lost → held.key ≡ key → IsCovered b key held.session held.mode
  covers-changed lost mode among at_least held e same_key =
      let own : IsAtLeast (lock_kind held.key) mode held.mode = subst (λ (x : Holding). IsAtLeast (lock_kind x.key) mode x.mode) (sym e) at_least in
      (in_mode mode lost, among, ap (λ (x : Holding). x.key) (sym e) ∙ same_key, ap (λ (x : Holding). x.session) (sym e), subst (λ k. IsAtLeast (lock_kind k) mode held.mode) same_key own)

  -- what still waits waits
  waits-still : (waiter : Waiter) → Contains (b.waiting key) waiter → IsWaiting b key waiter
  waits-still waiter among = (waiter, among, refl)

-- what holds at a key, and at each other, holds at any
pub at_any : (P : KeyName → Type 0) (at key : KeyName) → P at → (key ≢ at → P key) → P key
at_any P at key here elsewhere = elim (key_told key at) [ inl e ↦ subst P (sym e) here | inr other ↦ elsewhere other ]

-- ---- what an event leaves

module _ {C D : Type 0} (apply : KeyName → C → Option D → Option (Option D)) where
  pub step-blocks : (event : Event C) (a b : System D) → Happens apply event a b → FreesNothing event → (key : KeyName) → BlocksAsMuch a b key
  step-blocks (Grant ticket) a b step frees key = (
    (λ held among. covers-itself a b key held ((step.granted held).1 (inl among))),
    λ waiter among. inl (waits-still a b key waiter (within _ _ waiter (sym (step.rest.waits.waiting key)) among)),
  )
  step-blocks (Clone first second) a b step frees key = (
    (λ held among. covers-itself a b key held ((step.granted held).1 (inl among))),
    λ waiter among. inl (waits-still a b key waiter (within _ _ waiter (sym (step.rest.waits.waiting key)) among)),
  )
  step-blocks (BeginWait at new) a b step frees key = (
    (λ held among. covers-itself a b key held ((step.granted held).1 among)),
    at_any (λ k. (waiter : Waiter) → Contains (a.waiting k) waiter → IsWaiting b k waiter ⊎ IsCovered b k waiter.ticket.session waiter.ticket.mode) at key
        (λ waiter among. inl (waits-still a b at waiter (within _ _ waiter (sym step.joins) (Contains-append_left (a.waiting at) (new ∷ []) waiter among))))
        (λ other waiter among. inl (waits-still a b key waiter (within _ _ waiter (sym (step.elsewhere key other)) among))),
  )
  step-blocks (GrantWaiter at gone) a b step frees key = (
    (λ held among. covers-itself a b key held ((step.granted held).1 (inl among))),
    at_any (λ k. (waiter : Waiter) → Contains (a.waiting k) waiter → IsWaiting b k waiter ⊎ IsCovered b k waiter.ticket.session waiter.ticket.mode) at key
        (λ waiter among. elim (gone-after gone (a.waiting at) (b.waiting at) step.leaves waiter among) [
          | inl still ↦ inl (waits-still a b at waiter still)
          | inr same ↦ inr (subst (λ (w : Waiter). IsCovered b at w.ticket.session w.ticket.mode) (sym same)
              (covers-itself a b at (granted_ticket at gone) ((step.granted (granted_ticket at gone)).1 (inr refl)) refl))
        ])
        (λ other waiter among. inl (waits-still a b key waiter (within _ _ waiter (sym (step.elsewhere key other)) among))),
  )
  step-blocks (SettleLost at gone how) a b step frees key = (
    (λ held among. covers-itself a b key held ((step.granted held).1 among)),
    at_any (λ k. (waiter : Waiter) → Contains (a.waiting k) waiter → IsWaiting b k waiter ⊎ IsCovered b k waiter.ticket.session waiter.ticket.mode) at key
        (λ waiter among. inl (elim (changed-after gone (record gone { state = how }) (a.waiting at) (b.waiting at) step.settled waiter among) [
          | inl still ↦ waits-still a b at waiter still
          | inr same ↦ (record gone { state = how }, changed-there gone (record gone { state = how }) (a.waiting at) (b.waiting at) step.settled, ap (λ (w : Waiter). w.ticket) (sym same))
        ]))
        (λ other waiter among. inl (waits-still a b key waiter (within _ _ waiter (sym (step.elsewhere key other)) among))),
  )
  step-blocks (EndGrantedWait wait) a b step frees key = (
    (λ held among. covers-itself a b key held ((step.granted held).1 among)),
    λ waiter among. inl (waits-still a b key waiter (within _ _ waiter (sym (step.waiting key)) among)),
  )
  step-blocks (EndLostWait at gone) a b step frees key = absurd frees
  step-blocks (Release ticket) a b step frees key = absurd frees
  step-blocks (Upgrade ticket mode) a b step frees key = (
    (λ held among same_key. elim (ticket_told held ticket) [
      | inl e ↦ covers-changed a b key ticket mode ((step.granted (in_mode mode ticket)).1 (inr refl)) frees held e same_key
      | inr other ↦ covers-itself a b key held ((step.granted held).1 (inl (among, other))) same_key
    ]),
    λ waiter among. inl (waits-still a b key waiter (within _ _ waiter (sym (step.rest.waits.waiting key)) among)),
  )
  step-blocks (Merge old new) a b step frees key = (
    (λ held among same_key. elim (ticket_told held old) [
      | inl e ↦ covers-changed a b key old new.mode ((step.granted (in_mode new.mode old)).1 (inr refl)) step.at_least held e same_key
      | inr not_old ↦ elim (ticket_told held new) [
        | inl e ↦ (
          in_mode new.mode old,
          (step.granted (in_mode new.mode old)).1 (inr refl),
          sym step.same_key ∙ ap (λ (x : Holding). x.key) (sym e) ∙ same_key,
          sym step.new_held.1 ∙ ap (λ (x : Holding). x.session) (sym e),
          subst (λ (x : Holding). IsAtLeast (lock_kind key) x.mode held.mode) e (λ _ clash. clash),
        )
        | inr not_new ↦ covers-itself a b key held ((step.granted held).1 (inl (among, not_old, not_new))) same_key
      ]
    ]),
    λ waiter among. inl (waits-still a b key waiter (within _ _ waiter (sym (step.rest.waits.waiting key)) among)),
  )
  step-blocks (Downgrade ticket mode) a b step frees key = absurd frees
  step-blocks (ChangeDefinition ticket change) a b step frees key = (
    (λ held among. covers-itself a b key held ((step.granted held).1 among)),
    λ waiter among. inl (waits-still a b key waiter (within _ _ waiter (sym (step.waits.waiting key)) among)),
  )
