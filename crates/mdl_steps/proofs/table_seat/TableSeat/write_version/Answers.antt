-- The holder of the latch may write the version of the book in hand.
use Rattle.std.proofs.Common.{◌≡◌, ℕ, ◌+◌, ◌*◌, ◌<◌, sym, ap, ◌∙◌, subst, arith}
use Rattle.mdl_steps.proofs.Lemmas.{Allows, Holds, IsPlace, MayWriteVersion, Mine, ReachedFor, SeatState, TableId, elsewhere, elsewhere-redefined, holds_redefined, none, redefining, restood, sits, standing_after, step, writes_version}
use Rattle.mdl_steps.proofs.Versions.{writes_allowed}
use Rattle.mdl_steps.proofs.table_seat.TableSeat.write_version.Goals as goal

pub store-requires : goal.store-requires
store-requires c =
    let seat = c.self.inside.seat in
    let most = c.deref.result.now.shared.key in
    let slots = c.deref.result.now.shared.table_id.slots in
    let place = c.args.latch.now.place in
    let version = c.version-version.result in
    let same = sym c.version-version.ensures.same in
    let word_at = c.version_word.ensures in
    let at = sits c.self.view_is c.self.invariant (ap (λ t. t.shared.table_id) c.deref.ensures) in
    let sized = at.sized in
    let here = at.here (λ (t : TableId). IsPlace t place) (subst (λ (s : SeatState). IsPlace s.table place) same c.requires.place) in
    let inside : c.version_word.result < c.deref.result.now.shared.table_id.words = omega arith in
    let was = c.requires.written in
    let may : MayWriteVersion place seat.me = subst (λ (s : SeatState). MayWriteVersion place s.me) (same ∙ sym c.self.view_is) was in
    let told : version ≡ was.0.book.standing.version + 1 = c.version-version.ensures.told (redefining was.1 was.0.book) was.2.holds.carried in (
      at.same,
      inside,
      subst (λ (i : ℕ). Allows (ReachedFor most) slots seat.id seat.me i (λ _. version) (λ _. writes_version (step slots i version 0 none) seat.me version)) (sym word_at)
          (subst (λ (n : ℕ). Allows (ReachedFor most) slots seat.id seat.me (8 * place + 2) (λ _. n) (λ _. writes_version (step slots (8 * place + 2) n 0 none) seat.me n)) (sym told)
          (writes_allowed slots seat.id place seat.me at.positive here.0 here.1 may.0 may.1 may.2 most)),
    )

pub returns-clause-keeps : goal.returns-clause-keeps
returns-clause-keeps c =
    let place = c.args.latch.now.place in
    let before = c.self.inside.seat.me in
    rw (← c.version-version.ensures.same, ← c.self.view_is) (λ h book has.
    let made = c.store.ensures.2.1 place book c.version_word.ensures has.carried in
    subst (λ (m : Mine). Holds place (restood book.standing h) book m) (sym made) (holds_redefined place h book before has))

pub returns-clause-apart : goal.returns-clause-apart
returns-clause-apart c =
    let place = c.args.latch.now.place in
    let before = c.self.inside.seat.me in
    let same = sym c.version-version.ensures.same in
    let was = c.requires.written in
    let may : MayWriteVersion place before = subst (λ (s : SeatState). MayWriteVersion place s.me) (same ∙ sym c.self.view_is) was in
    let standing = standing_after may.1 may.0.book.standing in
    let made = c.store.ensures.2.1 place (redefining may.1 may.0.book) c.version_word.ensures may.2.holds.carried in
    rw (← c.version-version.ensures.same, ← c.self.view_is) (ap (elsewhere place) made ∙ elsewhere-redefined place standing before)
