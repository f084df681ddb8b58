-- All of it happens while the directory's latch is held, by the keys that its record has.
use Rattle.mdl_visits.proofs.Lemmas.{Audited, Gathers, List, SeatState, as_reads, audits, in_hand, on_ok_weaker, refl, steps_all, subst, took_directory}
use Rattle.mdl_visits.proofs.calls.audit.audit.Goals as goal

pub returns-clause-steps : goal.returns-clause-steps
returns-clause-steps g c =
    let counted : SeatState = c.key_count-last.new.self in
    let gathered : SeatState = c.audit_from-outcome.new.seat in
    steps_all c.args.seat.now c.await_directory-directory.new.seat counted c.await_directory-directory.ensures.taken c.key_count-last.ensures.same c.requires.free.idle
    gathered (as_reads counted gathered c.audit_from-outcome.ensures.steps) c.put_directory.new.self c.put_directory.ensures.made refl refl

pub returns-clause-told : goal.returns-clause-told
returns-clause-told g c =
    let a : SeatState = c.args.seat.now in
    let b : SeatState = c.await_directory-directory.new.seat in
    let counted : SeatState = c.key_count-last.new.self in
    let gathered : SeatState = c.audit_from-outcome.new.seat in
    let went : SeatState = c.put_directory.new.self in
    let taken = c.await_directory-directory.ensures.taken in
    let same = c.key_count-last.ensures.same in
    let reads = as_reads counted gathered c.audit_from-outcome.ensures.steps in
    let count = c.key_count-last.ensures.told taken.1 (in_hand a b counted taken same c.requires.free.idle).carried in (
      taken.1,
      took_directory a b counted taken same c.requires.free.idle gathered reads went c.put_directory.ensures.made,
      on_ok_weaker c.audit_from-outcome.result
          (λ more. (audits a b counted taken same c.requires.free.idle gathered reads went c.put_directory.ensures.made c.key_count-last.result c.audit_from-outcome.new.audited.items count
          (subst (λ (xs : List Audited). Gathers 1 c.key_count-last.result xs c.audit_from-outcome.new.audited.items counted.me gathered.me) c.requires.empty more)).0)
          c.audit_from-outcome.ensures.gathered,
    )
