-- The holder of the latch may read the word.
use Rattle.std.proofs.Common.{◌≡◌, ℕ, ◌<◌, refl, sym, ap, ◌∙◌, subst, arith, Some}
use Rattle.mdl_steps.proofs.Lemmas.{Allows, Holds, IsPlace, LatchRecord, Mine, ReachedFor, TableId, elsewhere, elsewhere-stepped, held_at, holds_stepped, none, noting, reads_allowed, reads_word, sits, step}
use Rattle.mdl_steps.proofs.table_seat.TableSeat.read_word.Goals as goal
use Rattle.mdl_steps.specs.declared.step_kind.StepKind.TheVariants as step_kind

pub load-requires : goal.load-requires
load-requires c =
    let seat = c.self.inside.seat in
    let most = c.deref.result.now.shared.key in
    let table = c.deref.result.now.shared.table_id in
    let place = c.args.latch.now.place in
    let at = sits c.self.view_is c.self.invariant (ap (λ t. t.shared.table_id) c.deref.ensures) in
    let here = at.here (λ (t : TableId). IsPlace t place) c.requires.place in
    let held = at.mine (λ (m : Mine). (h : LatchRecord) × (held_at place m.0.latches ≡ Some h)) c.requires.held in
    let sized = at.sized in
    let inside : c.lock_word.result < table.words = omega arith in (
      at.same,
      inside,
      subst (λ (i : ℕ). Allows (ReachedFor most) table.slots seat.id seat.me i (λ n. n) (reads_word (step table.slots i 0 0 none) seat.me)) (sym c.lock_word.ensures)
          (reads_allowed table.slots seat.id place seat.me at.positive here.0 here.1 held.0 held.1 most),
    )

pub returns-clause-keeps : goal.returns-clause-keeps
returns-clause-keeps c =
    let place = c.args.latch.now.place in
    let made = c.load.ensures.2.1 place c.lock_word.ensures in
    rw (← c.self.view_is) (λ h book has. subst (λ (m : Mine). Holds place (noting c.load.result h) book m) (sym made)
    (holds_stepped step_kind.ReadWord place c.load.result (noting c.load.result) h book c.self.inside.seat.me (λ x. refl) has))

pub returns-clause-apart : goal.returns-clause-apart
returns-clause-apart c =
    let place = c.args.latch.now.place in
    let made = c.load.ensures.2.1 place c.lock_word.ensures in
    rw (← c.self.view_is) (ap (elsewhere place) made ∙ elsewhere-stepped step_kind.ReadWord place c.load.result (noting c.load.result) c.self.inside.seat.me (λ x. refl))
