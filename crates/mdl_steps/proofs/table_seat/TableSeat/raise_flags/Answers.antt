-- The holder of the latch may raise flags.
use Rattle.std.proofs.Common.{ℕ, ◌<◌, refl, sym, ap, ◌∙◌, subst, arith, bit_or, ◌≡◌, Some}
use Rattle.mdl_steps.proofs.Lemmas.{Allows, Holds, IsPlace, LatchRecord, Mine, ReachedFor, TableId, elsewhere, elsewhere-stepped, held_at, holds_stepped, none, raised, raises_allowed, raises_flags, sits, step}
use Rattle.mdl_steps.proofs.table_seat.TableSeat.raise_flags.Goals as goal
use Rattle.mdl_steps.specs.declared.step_kind.StepKind.TheVariants as step_kind

pub fetch_or-requires : goal.fetch_or-requires
fetch_or-requires c =
    let seat = c.self.inside.seat in
    let most = c.deref.result.now.shared.key in
    let slots = c.deref.result.now.shared.table_id.slots in
    let word_at = c.lock_word.ensures in
    let at = sits c.self.view_is c.self.invariant (ap (λ t. t.shared.table_id) c.deref.ensures) in
    let sized = at.sized in
    let here = at.here (λ (t : TableId). IsPlace t c.args.latch.now.place) c.requires.place in
    let some = at.positive in
    let held = at.mine (λ (m : Mine). (h : LatchRecord) × (held_at c.args.latch.now.place m.0.latches ≡ Some h)) c.requires.held in
    let inside : c.lock_word.result < c.deref.result.now.shared.table_id.words = omega arith in (
      at.same,
      inside,
      subst (λ (i : ℕ). Allows (ReachedFor most) slots seat.id seat.me i (λ n. bit_or n c.raising.result) (raises_flags (step slots i c.raising.result 0 none) seat.me)) (sym word_at)
          (raises_allowed slots seat.id c.args.latch.now.place seat.me some here.0 here.1 held.0 held.1 c.args.slow c.args.obtrusive c.raising.result c.raising.ensures most),
    )

pub returns-clause-keeps : goal.returns-clause-keeps
returns-clause-keeps c =
    let place = c.args.latch.now.place in
    let seat = c.self.inside.seat in
    let made = c.fetch_or.ensures.2.1 place c.args.slow c.args.obtrusive c.lock_word.ensures c.raising.ensures in
    rw (← c.self.view_is) (λ h book has. subst (λ (m : Mine). Holds place (raised c.args.slow c.args.obtrusive h) book m) (sym made)
    (holds_stepped (step_kind.RaiseFlags c.args.slow c.args.obtrusive) place c.fetch_or.result (raised c.args.slow c.args.obtrusive) h book seat.me (λ x. refl) has))

pub returns-clause-apart : goal.returns-clause-apart
returns-clause-apart c =
    let place = c.args.latch.now.place in
    let made = c.fetch_or.ensures.2.1 place c.args.slow c.args.obtrusive c.lock_word.ensures c.raising.ensures in
    rw (← c.self.view_is) (ap (elsewhere place) made ∙ elsewhere-stepped (step_kind.RaiseFlags c.args.slow c.args.obtrusive) place c.fetch_or.result (raised c.args.slow c.args.obtrusive) c.self.inside.seat.me (λ x. refl))
