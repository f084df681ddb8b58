-- The session has no ticket, so no version is noted at its place. Where the ticket isn't granted, only steps were made.
use Rattle.std.proofs.Common.{refl, sym, ap, ◌∙◌, subst, arith}
use Rattle.std.specs.Option.{option_to_list}
use Rattle.atomic_table.specs.Seated.{TableId}
use Rattle.mdl_key.specs.declared.namespace.Kind.{Kind}
use Rattle.mdl_word.specs.Words.{increment_of}
use Rattle.mdl_steps.specs.Plays.{Mine}
use Rattle.mdl_steps.specs.Seats.{IsPlace}
use Rattle.mdl_visits.specs.Idle.{HoldsNoLatch}
use Rattle.mdl_key.specs.KeyLookups.{kind_known}
use Rattle.mdl_shared.proofs.Membership.{kind_there}
use Rattle.mdl_run_trials.proofs.shared.steps.visitors.Visitor.try_fast.Goals as goal

pub try_fast-requires-clause-gained : goal.try_fast-requires-clause-gained
try_fast-requires-clause-gained c =
    let self = c.args.self.now in
    let place = self.place in
    let may = c.may_ask.ensures c.if-not-may_ask.false in
    let there = kind_there place self.kind self.seat.me.0.known self.known in
    let fast = self.fast_is ∙ ap option_to_list may.2 in
    let slow = self.slow_is ∙ ap option_to_list may.1 in
    record {
      idle = sym self.asks_is ∙ may.0;
      counted_so = (there.0, there.1, there.2, there.3, ap (λ (k : Kind). increment_of k c.args.mode) there.4 ∙ sym c.increment.ensures ∙ c.in-Some.is);
      few = rw fast (omega arith);
      noted_there = rw fast (rw slow refl);
    }

pub invariant_of-self-in-Obtruded-1 : goal.invariant_of-self-in-Obtruded-1
invariant_of-self-in-Obtruded-1 c =
    let self = c.args.self.now in
    let place = self.place in
    let found = c.in-Obtruded.ensures.obtruded c.in-Obtruded.word refl in
    let now = found.1.0.2.now in
    record {
      placed = subst (λ (id : TableId). IsPlace id place) (sym found.0) self.placed;
      known = ap (λ (x : Mine). kind_known place x.0.known) now ∙ self.known;
      idle = subst (λ (x : Mine). HoldsNoLatch x) (sym now) self.idle;
      next_is = self.next_is ∙ sym (ap (λ (x : Mine). x.0.next) now);
      waits_is = self.waits_is ∙ sym (ap (λ (x : Mine). x.0.waits) now);
      asks_is = self.asks_is ∙ sym (ap (λ (x : Mine). x.0.asks) now);
      slow_is = ap (λ (x : Mine). x.0.slow) now ∙ self.slow_is;
      fast_is = ap (λ (x : Mine). x.0.fast) now ∙ self.fast_is;
    }

pub invariant_of-self-in-Contended-1 : goal.invariant_of-self-in-Contended-1
invariant_of-self-in-Contended-1 c =
    let self = c.args.self.now in
    let place = self.place in
    let found = c.in-Contended.ensures.contended c.in-Contended.word refl in
    let now = found.1.now in
    record {
      placed = subst (λ (id : TableId). IsPlace id place) (sym found.0) self.placed;
      known = ap (λ (x : Mine). kind_known place x.0.known) now ∙ self.known;
      idle = subst (λ (x : Mine). HoldsNoLatch x) (sym now) self.idle;
      next_is = self.next_is ∙ sym (ap (λ (x : Mine). x.0.next) now);
      waits_is = self.waits_is ∙ sym (ap (λ (x : Mine). x.0.waits) now);
      asks_is = self.asks_is ∙ sym (ap (λ (x : Mine). x.0.asks) now);
      slow_is = ap (λ (x : Mine). x.0.slow) now ∙ self.slow_is;
      fast_is = ap (λ (x : Mine). x.0.fast) now ∙ self.fast_is;
    }
