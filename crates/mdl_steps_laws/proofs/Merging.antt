-- One ticket takes the mode of another, and that one goes: the two are merged.
use Rattle.std.proofs.Common.{◌≡◌, ◌≢◌, ◌⊎◌, ◌↔◌, ℕ, true, false, inl, inr, List, [], ◌∷◌, ◌++◌, refl, sym, ap, ◌∙◌, subst, Contains}
use Rattle.mdl_steps_laws.proofs.Common.{Alter, Deed, Definition, HasNoWait, Held, Holding, IsOnly, KeyName, Lock, Lose, Loses, Replaces, System, Ticket, granted_of, in_book, in_mode, is_passed, is_ticket, key_told, of-mode_other, of_lock, of_other_number, once-mode, with_mode, without}
use Rattle.mdl_steps_laws.proofs.DeedEvents.{held_by_own, granted_after, rest}
use Rattle.mdl_steps_laws.proofs.DeedLaws.{Does, MovingMerges}
use Rattle.mdl_steps_laws.proofs.TicketMembers.{loses-behind, replaces-behind, found-passes, found-apart, without-loses, with_mode-replaces}

-- of two members, the first is replaced and the second goes
abbrev pub Merged : {T : Type 0} → T → T → T → List T → List T → Type 0
Merged {T} old new come before after = (x : T) → Contains after x ↔ ((Contains before x × (x ≢ old) × (x ≢ new)) ⊎ (x ≡ come))

merged-both : {T : Type 0} (old new come : T) (before between after : List T) → Replaces old come before between → Loses new between after → come ≢ new → Merged old new come before after
merged-both old new come before between after replaces loses differs x = (
  (λ among. let left = (loses x).0 among in elim ((replaces x).0 left.0) [ inl was ↦ inl (was.0, was.1, left.1) | inr is ↦ inr is ]),
  λ either. elim either [
    | inl was ↦ (loses x).1 ((replaces x).1 (inl (was.0, was.1)), was.2)
    | inr is ↦ (loses x).1 ((replaces x).1 (inr is), λ e. differs (sym is ∙ e))
  ],
)

module _ (session kept lost : ℕ) (apart : kept ≢ lost) (lock : Lock) (t u : Ticket) (only : IsOnly session kept lock t) (other : IsOnly session lost lock u) where
  between : List Ticket
  between = with_mode session kept u.mode lock.book.granted

  is_kept : is_ticket session kept t ≡ true
  is_kept = found-passes session kept lock.book.granted t only.found

  is_lost : is_ticket session lost u ≡ true
  is_lost = found-passes session lost lock.book.granted u other.found

  -- a ticket of the one number has not the other
  kept_only : (x : Ticket) → is_ticket session kept x ≡ true → is_ticket session lost x ≡ false
  kept_only x is = of_other_number session lost x (λ e. apart (sym (is_passed session kept x is).1 ∙ e))

  two : in_mode u.mode t ≢ u
  two e = apart (sym (is_passed session kept t is_kept).1 ∙ ap (λ (x : Ticket). x.number) e ∙ (is_passed session lost u is_lost).1)

  two_before : t ≢ u
  two_before e = apart (sym (is_passed session kept t is_kept).1 ∙ ap (λ (x : Ticket). x.number) e ∙ (is_passed session lost u is_lost).1)

  merged_list : Merged t u (in_mode u.mode t) (granted_of lock) (lock.fast ++ without session lost (with_mode session kept u.mode lock.book.granted))
  unfolding between
  merged_list = merged-both t u (in_mode u.mode t) (granted_of lock) (lock.fast ++ between) (lock.fast ++ without session lost between)
      (replaces-behind lock.fast lock.book.granted between t (in_mode u.mode t) (found-apart session kept t is_kept lock.fast only.not_fast)
      (with_mode-replaces session kept u.mode lock.book.granted only.once t only.found))
      (loses-behind lock.fast between (without session lost between) u (found-apart session lost u is_lost lock.fast other.not_fast)
      (without-loses session lost between (once-mode session kept u.mode lock.book.granted only.once) u
      (of-mode_other session kept session lost kept_only u.mode lock.book.granted ∙ other.found)))
      two

-- a ticket of a key is known by its place in the book
known : (held : Holding) (key : KeyName) (t : Ticket) → held.key ≡ key → in_book held ≡ t → held ≡ of_lock key t
known held key t k e = λ i. record { session = (e i).session; number = (e i).number; key = k i; mode = (e i).mode }

module _ (session : ℕ) (deeds : List Deed) (key : KeyName) (old new : KeyName → Lock) (a b : System Definition) (does : Does session deeds key old new a b) where
  merged_system : (t u come : Ticket) → Merged t u come (granted_of (old key)) (granted_of (new key)) → Merged (of_lock key t) (of_lock key u) (of_lock key come) a.granted b.granted
  merged_system t u come merged held = elim (key_told held.key key) [
    | inl k ↦
        let was : Contains a.granted held ↔ Contains (granted_of (old key)) (in_book held) = subst (λ j. Contains a.granted held ↔ Contains (granted_of (old j)) (in_book held)) k (does.before.granted held) in
        let is : Contains b.granted held ↔ Contains (granted_of (new key)) (in_book held) = subst (λ j. Contains b.granted held ↔ Contains (granted_of (new j)) (in_book held)) k (does.after.granted held) in (
          (λ among. elim ((merged (in_book held)).0 (is.0 among)) [
            | inl p ↦ inl (was.1 p.0, λ e. p.1 (ap in_book e), λ e. p.2 (ap in_book e))
            | inr e ↦ inr (known held key come k e)
          ]),
          λ either. is.1 (elim either [
            | inl p ↦ (merged (in_book held)).1 (inl (was.0 p.0, λ e. p.1 (known held key t k e), λ e. p.2 (known held key u k e)))
            | inr e ↦ (merged (in_book held)).1 (inr (ap in_book e))
          ]),
        )
    | inr n ↦
        let lists : granted_of (new held.key) ≡ granted_of (old held.key) = ap granted_of (does.elsewhere held.key n) in (
          (λ among. inl (
            (does.before.granted held).1 (subst (λ ts. Contains ts (in_book held)) lists ((does.after.granted held).0 among)),
            λ e. n (ap (λ (h : Holding). h.key) e),
            λ e. n (ap (λ (h : Holding). h.key) e),
          )),
          λ either. elim either [
            | inl p ↦ (does.after.granted held).1 (subst (λ ts. Contains ts (in_book held)) (sym lists) ((does.before.granted held).0 p.0))
            | inr e ↦ absurd (n (ap (λ (h : Holding). h.key) e))
          ],
        )
  ]

pub moving_merges : MovingMerges
moving_merges session kept lost key old new a b t u only other apart does free held also least =
    let deeds : List Deed = Alter kept u.mode ∷ Lose lost ∷ [] in
    record {
      free = subst (HasNoWait a) (sym held.1) free;
      old_held = held_by_own a session (of_lock key t) held;
      new_held = subst (λ n. Held a n (of_lock key u)) (sym held.1) also;
      two = λ e. two_before session kept lost apart (old key) t u only other (ap in_book e);
      same_key = refl;
      at_least = least;
      granted = merged_system session deeds key old new a b does t u (in_mode u.mode t)
          (subst (Merged t u (in_mode u.mode t) (granted_of (old key))) (sym (granted_after session deeds key old new a b does)) (merged_list session kept lost apart (old key) t u only other));
      rest = rest session deeds key old new a b does;
    }
