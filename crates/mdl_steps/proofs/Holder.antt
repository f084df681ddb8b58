-- What the holder of a latch knows, and what it owes after a step.
use Rattle.std.proofs.Common.{◌≡◌, ℕ, ◌<◌, false, List, set, length, Some, None, refl, sym, ap, ◌∙◌, subst, inl, inr, arith, Option}
use Rattle.mdl_steps.proofs.Common.{BookOk, Cell, Counted, ExactCounts, Flagged, HeldOk, Holder, KeyName, LatchRecord, Maybe, NotedCounts, Part, PlaceOk, Slot, TellsLists, all_fast, at_set, get_elem?, lock_kind, set_here, some}
use Rattle.mdl_steps.specs.declared.slot.Slot.TheVariants as slot

-- what the rule says of a place whose latch a session holds, by its record of the latch
pub record Under (key : Option KeyName) (number word version : ℕ) (parts : List Part) (h : LatchRecord) : Type 0 where
  pub counted : Counted (lock_kind h.book) word (all_fast parts) h.slow h.obtrusive
  pub flagged : Flagged h.book h.slow h.obtrusive
  pub noted : NotedCounts (lock_kind h.book) (all_fast parts) h.obtrusive h.noted
  pub exact : ExactCounts (lock_kind h.book) parts h.slow h.obtrusive number h.noted h.exact
  pub book_ok : BookOk key version parts h.book

-- the seat `id` is the only one that has the latch's number
abbrev pub IsAlone : ℕ → Cell → Type 0
IsAlone id c = (j : ℕ) (l : Holder) → get_elem? c.holders j ≡ some l → l.number ≡ c.latch → j ≡ id

module _ (key : Option KeyName) (c : Cell) (ok : PlaceOk key c) (id : ℕ) (l : Holder) (at : get_elem? c.holders id ≡ some l) where
  pub under : (h : LatchRecord) → l.held ≡ Some h → Under key l.number c.word c.version c.parts h
  under h e =
      let k = ok.held id l at h e in
      record {
        counted = rw (k.book_is, k.slow_is, k.obtrusive_is) ok.counted;
        flagged = rw (k.book_is, k.slow_is, k.obtrusive_is) ok.flagged;
        noted = rw (k.book_is, k.obtrusive_is) k.noted_counts;
        exact = rw (k.book_is, k.slow_is, k.obtrusive_is) k.exact_counts;
        book_ok = rw k.book_is ok.book_ok;
      }

  module _ (inside : id < length c.holders) (new : Holder) where
    -- the latch stays where it is
    pub holder_cell : (h h′ : LatchRecord) → l.held ≡ Some h → IsAlone id c → new.number ≡ l.number → new.held ≡ Some h′
        → (key′ : Option KeyName) (word version : ℕ) (parts : List Part) → Under key′ l.number word version parts h′
        → PlaceOk key′ (record { latch = c.latch; word = word; version = version; home = c.home; holders = set c.holders id new; parts = parts })
    holder_cell h h′ e alone number has key′ word version parts u =
        let k = ok.held id l at h e in
        record {
          book = h′.book;
          slow = h′.slow;
          obtrusive = h′.obtrusive;
          free = λ none. let some = k.some_session in let mine = k.mine in absurd (omega arith);
          taken = λ _. (id, new, h′, set_here c.holders id new inside, has);
          held = λ j x there g is. elim (at_set c.holders id j new x there) [
            | inl same ↦
                let record_is : h′ ≡ g = (let a : x.held ≡ Some h′ = subst (λ (y : Holder). y.held ≡ Some h′) same.1 has in cc) in
                let number_is : x.number ≡ l.number = ap (λ (y : Holder). y.number) (sym same.1) ∙ number in
                subst (λ (y : LatchRecord). HeldOk c.latch parts h′.book h′.slow h′.obtrusive x.number y) record_is (record {
                  mine = number_is ∙ k.mine;
                  some_session = subst (λ (m : ℕ). 0 < m) (sym number ∙ ap (λ (y : Holder). y.number) same.1) k.some_session;
                  book_is = refl;
                  slow_is = refl;
                  obtrusive_is = refl;
                  noted_counts = u.noted;
                  exact_counts = subst (λ (n : ℕ). ExactCounts (lock_kind h′.book) parts h′.slow h′.obtrusive n h′.noted h′.exact) (sym number_is) u.exact;
                })
            | inr other ↦ absurd (other.0 (alone j x other.1 (ok.held j x other.1 g is).mine))
          ];
          counted = u.counted;
          flagged = u.flagged;
          book_ok = u.book_ok;
        }

    -- the latch is given back
    pub put_cell : (h h′ : LatchRecord) → l.held ≡ Some h → IsAlone id c → new.held ≡ None
        → (key′ : Option KeyName) (parts : List Part) → Under key′ l.number c.word c.version parts h′ → TellsLists h′.book h′.slow h′.obtrusive
        → PlaceOk key′ (record { latch = 0; word = c.word; version = c.version; home = some (some (slot.Place h′.book)); holders = set c.holders id new; parts = parts })
    put_cell h h′ e alone gone key′ parts u exact =
        record {
          book = h′.book;
          slow = h′.slow;
          obtrusive = h′.obtrusive;
          free = λ _. (refl, exact);
          taken = λ taken. absurd (taken refl);
          held = λ j x there g is. elim (at_set c.holders id j new x there) [
            | inl same ↦ (let a : x.held ≡ None = subst (λ (y : Holder). y.held ≡ None) same.1 gone in absurd (cc))
            | inr other ↦ absurd (other.0 (alone j x other.1 (ok.held j x other.1 g is).mine))
          ];
          counted = u.counted;
          flagged = u.flagged;
          book_ok = u.book_ok;
        }

    -- the latch is taken
    pub taken_cell : c.latch ≡ 0 → 0 < l.number → new.number ≡ l.number
        → (h : LatchRecord) → h.book ≡ ok.book → h.slow ≡ ok.slow → h.obtrusive ≡ ok.obtrusive → h.noted ≡ None → h.exact ≡ false → new.held ≡ Some h
        → (home : Maybe (Maybe Slot)) → PlaceOk key (record { latch = l.number; word = c.word; version = c.version; home = home; holders = set c.holders id new; parts = c.parts })
    taken_cell none numbered number h book slow obtrusive unnoted inexact has home =
        record {
          book = ok.book;
          slow = ok.slow;
          obtrusive = ok.obtrusive;
          free = λ zero. absurd (omega arith);
          taken = λ _. (id, new, h, set_here c.holders id new inside, has);
          held = λ j x there g is. elim (at_set c.holders id j new x there) [
            | inl same ↦
                let record_is : h ≡ g = (let a : x.held ≡ Some h = subst (λ (y : Holder). y.held ≡ Some h) same.1 has in cc) in
                let number_is : x.number ≡ l.number = ap (λ (y : Holder). y.number) (sym same.1) ∙ number in
                subst (λ (y : LatchRecord). HeldOk l.number c.parts ok.book ok.slow ok.obtrusive x.number y) record_is (record {
                  mine = number_is;
                  some_session = rw number_is numbered;
                  book_is = book;
                  slow_is = slow;
                  obtrusive_is = obtrusive;
                  noted_counts = λ word noted. absurd (cc);
                  exact_counts = λ exact. absurd (cc);
                })
            | inr other ↦ let k = ok.held j x other.1 g is in let mine = k.mine in let some = k.some_session in absurd (omega arith)
          ];
          counted = ok.counted;
          flagged = ok.flagged;
          book_ok = ok.book_ok;
        }
