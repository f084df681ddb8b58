-- The session waits for nothing, knows the key of its place, and has noted no version there. Its tickets are those before, and one more.
use Rattle.std.proofs.Common.{ℕ, List, [], ◌∷◌, ◌++◌, None, refl, sym, ap, ◌∙◌, subst, append-nil, arith}
use Rattle.atomic_table.specs.Seated.{TableId}
use Rattle.mdl_key.specs.declared.mode.Mode.{Mode}
use Rattle.mdl_key.specs.declared.namespace.Kind.{Kind}
use Rattle.mdl_word.specs.Words.{increment_of}
use Rattle.mdl_steps.specs.declared.view.SessionTicket.{SessionTicket}
use Rattle.mdl_steps.specs.FastPlays.{fast_own}
use Rattle.mdl_steps.specs.Plays.{Mine}
use Rattle.mdl_steps.specs.Seats.{IsPlace}
use Rattle.mdl_visits.specs.Idle.{HoldsNoLatch}
use Rattle.mdl_key.specs.KeyLookups.{kind_known}
use Rattle.mdl_shared.proofs.Membership.{kind_there}
use Rattle.mdl_run_trials.specs.shared.steps.Fast.{fast_from}
use Rattle.mdl_run_trials.proofs.shared.FastRuns.{all-there, as-many, none-noted, one-longer, one-more}
use Rattle.mdl_run_trials.proofs.shared.steps.visitors.gain.Goals as goal

pub try_fast-requires-clause-gained : goal.try_fast-requires-clause-gained
try_fast-requires-clause-gained c =
    let place = c.args.place in
    let alone = c.requires.alone in
    let modes : List Mode = c.args.beside.now in
    let there = kind_there place c.args.kind c.args.seat.now.me.0.known alone.known in
    record {
      idle = alone.asks;
      counted_so = (there.0, there.1, there.2, there.3, ap (λ (k : Kind). increment_of k c.args.mode) there.4 ∙ sym c.increment.ensures ∙ c.in_ok-one.was);
      few = rw (alone.fast, all-there place c.args.next modes, as-many place c.args.next modes) (omega (arith, c.requires.few));
      noted_there = rw (alone.fast, alone.slow, all-there place c.args.next modes, append-nil (fast_from place c.args.next modes)) (sym (none-noted place c.args.next modes));
    }

pub returns-in-Granted : goal.returns-in-Granted
returns-in-Granted c =
    let place = c.args.place in
    let next = c.args.next in
    let modes : List Mode = c.args.beside.now in
    let alone = c.requires.alone in
    let was = c.in-Granted.ensures.granted refl in
    let now = was.0.1.now in
    record {
      gained = (
        refl,
        record {
          placed = subst (λ (id : TableId). IsPlace id place) (sym was.0.0) alone.placed;
          known = ap (λ (x : Mine). kind_known place x.0.known) now ∙ alone.known;
          idle = subst (λ (x : Mine). HoldsNoLatch x) (sym now) alone.idle;
          asks = ap (λ (x : Mine). x.0.asks) now ∙ alone.asks;
          slow = ap (λ (x : Mine). x.0.slow) now ∙ alone.slow;
          fast = ap (λ (x : Mine). x.0.fast) now ∙ ap (λ (ts : List SessionTicket). ts ++ fast_own c.args.seat.now.me.0.next place c.args.mode None ∷ []) alone.fast
              ∙ ap (λ (n : ℕ). fast_from place next modes ++ fast_own n place c.args.mode None ∷ []) alone.next ∙ one-more place next modes c.args.mode;
          next = ap (λ (x : Mine). x.0.next) now ∙ omega (arith, alone.next, one-longer modes c.args.mode);
        },
      );
    }
