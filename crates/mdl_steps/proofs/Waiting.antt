-- The waiting list and what sessions know of their waits, after the part or the wait of one session changed.
use Rattle.std.proofs.Common.{◌≡◌, ◌≢◌, ℕ, true, List, set, refl, sym, ap, ◌∙◌, subst, inl, inr}
use Rattle.mdl_steps.proofs.Common.{Kind, Once, Owned, Part, Ticket, WaitingOk, at_set, cases_eq, get_elem?, is_mode_of, list_all, option_to_list, pending, set_else, set_here, some, some-injective, ticket_of}
use Rattle.mdl_steps.proofs.Views.{at_inside}

module _ (parts : List Part) (id : ℕ) (x y : Part) (at : get_elem? parts id ≡ some x) (number : y.number ≡ x.number) where
  -- tickets of other sessions are looked up as before
  pub owned_set : (was now : List Ticket) → ((a m : ℕ) → a ≢ x.number → ticket_of a m now ≡ ticket_of a m was) → Owned parts was → Owned (set parts id y) now
  owned_set was now else owned session m t found = elim (cases_eq session x.number) [
    | inl e ↦ (id, y, set_here parts id y (at_inside parts id x at), number ∙ sym e)
    | inr e ↦
        let o = owned session m t (sym (else session m e) ∙ found) in
        elim (cases_eq o.0 id) [
          | inl same ↦ absurd (e (sym o.3 ∙ ap (λ (z : Part). z.number) (some-injective o.1 x (sym o.2 ∙ subst (λ (j : ℕ). get_elem? parts j ≡ some x) (sym same) at))))
          | inr away ↦ (o.0, o.1, set_else parts id o.0 y away ∙ o.2, o.3)
        ]
  ]

  -- the part changes, and with it what its session has in the waiting list
  pub waiting_set : (kind : Kind) (was now : List Ticket) → ((j : ℕ) (z : Part) → get_elem? parts j ≡ some z → z.number ≡ x.number → j ≡ id)
      → Once now → list_all (λ t. is_mode_of kind t.mode) now ≡ true
      → ((m : ℕ) → ticket_of x.number m now ≡ ticket_of x.number m (option_to_list (pending y.asks)))
      → ((a m : ℕ) → a ≢ x.number → ticket_of a m now ≡ ticket_of a m was)
      → WaitingOk kind parts was → WaitingOk kind (set parts id y) now
  waiting_set kind was now alone once modes mine else ok = record {
    once = once;
    modes = modes;
    owned = owned_set was now else ok.owned;
    same = λ j z there m. elim (at_set parts id j y z there) [
      | inl here ↦ subst (λ (p : Part). ticket_of p.number m now ≡ ticket_of p.number m (option_to_list (pending p.asks))) here.1
          (subst (λ (n : ℕ). ticket_of n m now ≡ ticket_of n m (option_to_list (pending y.asks))) (sym number) (mine m))
      | inr other ↦ else z.number m (λ e. other.0 (alone j z other.1 e)) ∙ ok.same j z other.1 m
    ];
  }

  -- the part changes, but not the ticket that it waits for
  pub waiting_kept : (kind : Kind) (waiting : List Ticket) → pending y.asks ≡ pending x.asks → WaitingOk kind parts waiting → WaitingOk kind (set parts id y) waiting
  waiting_kept kind waiting asks ok = record {
    once = ok.once;
    modes = ok.modes;
    owned = owned_set waiting waiting (λ a m e. refl) ok.owned;
    same = λ j z there m. elim (at_set parts id j y z there) [
      | inl here ↦ subst (λ (p : Part). ticket_of p.number m waiting ≡ ticket_of p.number m (option_to_list (pending p.asks))) here.1
          (ap (λ (n : ℕ). ticket_of n m waiting) number ∙ ok.same id x at m ∙ (λ i. ticket_of (sym number i) m (option_to_list (sym asks i))))
      | inr other ↦ ok.same j z other.1 m
    ];
  }
