-- What a step needs to know of its seat, said of the table that the call is made on.
use Rattle.std.proofs.Common.{◌≡◌, ℕ, ◌<◌, ◌≤◌, sym, ap, ◌∙◌, subst}
use Rattle.mdl_steps.proofs.Common.{IsSeat, IsSession, IsSized, Mine, SeatState, TableId, word_count}

-- the seat has this view, and is of this table, of which the same goes as of that of the seat's value
pub record Sits (s : SeatState) (sessions : ℕ) (that of : TableId) (me : Mine) : Type 1 where
  pub same : of ≡ that
  pub sized : IsSized that
  pub some : 0 < that.slots
  pub positive : 0 < me.0.number
  pub roomy : word_count that.slots sessions ≤ that.words
  pub own : IsSession that me.0.number
  pub here : (P : TableId → Type 0) → P s.table → P that
  pub mine : (P : Mine → Type 0) → P s.me → P me

pub sits : {s : SeatState} {sessions : ℕ} {table that of : TableId} {number : ℕ} {me : Mine} → record { table = table; me = me } ≡ s → IsSeat sessions table of number me → that ≡ table
    → Sits s sessions that of me
sits {s} {sessions} {table} {that} {of} {number} {me} view_is seat table_is = record {
  same = seat.same ∙ sym table_is;
  sized = subst IsSized (sym table_is) seat.sized;
  some = subst (λ (t : TableId). 0 < t.slots) (sym table_is) seat.some;
  positive = subst (λ (n : ℕ). 0 < n) (sym seat.numbered) seat.session.0;
  roomy = subst (λ (t : TableId). word_count t.slots sessions ≤ t.words) (sym table_is) seat.roomy;
  own = subst (λ (n : ℕ). IsSession that n) (sym seat.numbered) (subst (λ (t : TableId). IsSession t number) (sym table_is) seat.session);
  here = λ P p. subst P (ap (λ (x : SeatState). x.table) (sym view_is) ∙ sym table_is) p;
  mine = λ P p. subst P (ap (λ (x : SeatState). x.me) (sym view_is)) p;
}

abbrev with_view : TableId → Mine → SeatState
with_view table me = record { table = table; me = me }

-- the seat's value follows its view
pub value_is : {table : TableId} {me me′ : Mine} → me ≡ me′ → with_view table me ≡ with_view table me′
value_is {table} same = ap (with_view table) same
