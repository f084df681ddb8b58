-- What goes is what is at the key's place.
use Rattle.std.proofs.Common.{◌≡◌, [], refl, ap, sym, ◌∙◌}
use Rattle.std.specs.Prelude.{filter, is_some}
use Rattle.mdl_context.specs.Contexts.{AreRising, newest_first, place_known, without_tickets}
use Rattle.mdl_context.specs.Holdings.{is_kept_at}
use Rattle.mdl_context.specs.Releases.{at_known_place}
use Rattle.mdl_context.proofs.BeyondLemmas.{rising-kept, others-without, run-as, run-none, without-none, same-context}
use Rattle.mdl_context.proofs.AttendLemmas.{attends-left}
use Rattle.mdl_context.proofs.ServingLemmas.{serves-left}
use Rattle.mdl_context.proofs.context.Context.release_key.Goals as goal

pub returns-in-Some-clause-run : goal.returns-in-Some-clause-run
returns-in-Some-clause-run g c =
    let kept = c.self.inside.holdings.kept in
    let gone = at_known_place (place_known c.args.key.now c.self.inside.holdings.known) kept in
    let same : filter (is_kept_at c.in-Some.place) kept ≡ gone = ap (λ place. at_known_place place kept) (sym c.in-Some.is ∙ c.place_known.ensures) in
    rw (← c.self.view_is)
    (run-as g.S.LockSpace.joins c.self.inside.who _ (newest_first gone) c.args.space.now c.release_all.new.space (ap newest_first same) c.release_all.ensures.run)

pub returns-in-Some-clause-kept : goal.returns-in-Some-clause-kept
returns-in-Some-clause-kept g c =
    let kept = c.self.inside.holdings.kept in
    let rising : AreRising kept = rw (← c.self.view_is) at (rising-kept _ _ (g.met.S.LockSpace.laws.rising _ _ c.requires.attends.speaks) c.requires.attends.serves) in
    let gone = at_known_place (place_known c.args.key.now c.self.inside.holdings.known) kept in
    let same : filter (is_kept_at c.in-Some.place) kept ≡ gone = ap (λ place. at_known_place place kept) (sym c.in-Some.is ∙ c.place_known.ensures) in
    rw (← c.self.view_is)
    (same-context c.self.inside.who _ _ _ _ _ _ (c.release_all.ensures.kept ∙ others-without (is_kept_at c.in-Some.place) kept rising ∙ ap (λ xs. without_tickets xs kept) same)
    c.release_all.ensures.known c.release_all.ensures.waits)

pub returns-in-Some-clause-attends : goal.returns-in-Some-clause-attends
returns-in-Some-clause-attends g c =
    attends-left _ _ _ _ _ (rw (← c.self.view_is) at c.requires.attends) c.release_all.ensures.remembers c.release_all.ensures.pins c.release_all.ensures.speaks
    (serves-left _ _ _ _ (rw (← c.self.view_is) at c.requires.attends.serves) c.release_all.ensures.held c.release_all.ensures.wait c.release_all.ensures.waits)
    refl c.release_all.ensures.known c.release_all.ensures.kept c.release_all.ensures.waits (ap is_some (rw (← c.self.view_is) at c.requires.idle))

pub returns-in_default-clause-run : goal.returns-in_default-clause-run
returns-in_default-clause-run g c =
    let kept = c.self.inside.holdings.kept in
    let gone = at_known_place (place_known c.args.key.now c.self.inside.holdings.known) kept in
    let none : gone ≡ [] = ap (λ place. at_known_place place kept) (sym c.place_known.ensures ∙ c.in_default.is) in
    rw (← c.self.view_is) (run-none g.S.LockSpace.joins c.self.inside.who (newest_first gone) c.args.space.now (ap newest_first none))

pub returns-in_default-clause-kept : goal.returns-in_default-clause-kept
returns-in_default-clause-kept g c =
    let kept = c.self.inside.holdings.kept in
    let gone = at_known_place (place_known c.args.key.now c.self.inside.holdings.known) kept in
    let none : gone ≡ [] = ap (λ place. at_known_place place kept) (sym c.place_known.ensures ∙ c.in_default.is) in
    rw (← c.self.view_is) (same-context c.self.inside.who _ _ _ _ _ _ (sym (ap (λ xs. without_tickets xs kept) none ∙ without-none kept)) refl refl)
