-- The session waits for nothing, holds no latch, knows the key of its place, and has no fast ticket.
use Rattle.std.proofs.Common.{ℕ, ◌+◌, ◌<◌, List, sym, ap, subst, ◌∙◌}
use Rattle.std.specs.Option.{option_to_list}
use Rattle.mdl_steps.specs.declared.view.LatchRecord.{LatchRecord}
use Rattle.mdl_steps.specs.Lists.{Each}
use Rattle.mdl_visits.proofs.Lookups.{no_latches}
use Rattle.mdl_shared.proofs.Membership.{kind_there}
use Rattle.mdl_run_trials.proofs.shared.steps.visitors.Visitor.begin_wait.Goals as goal

pub begin_wait-requires-clause-may : goal.begin_wait-requires-clause-may
begin_wait-requires-clause-may g c =
    let self = c.args.self.now in
    let may = c.may_ask.ensures c.if-not-may_ask.false in record {
      at = record {
        is_place = self.placed;
        rising = subst (λ (hs : List LatchRecord). Each (λ (h : LatchRecord). h.place < self.place) hs) (sym (no_latches self.seat.me self.idle)) tt;
      };
      wish = record {
        idle = sym self.asks_is ∙ may.0;
        knows = kind_there self.place self.kind self.seat.me.0.known self.known;
        is_mode = may.5;
      };
    }

pub begin_wait-requires-clause-new : goal.begin_wait-requires-clause-new
begin_wait-requires-clause-new g c =
    let self = c.args.self.now in
    let may = c.may_ask.ensures c.if-not-may_ask.false in record {
      unfast = self.fast_is ∙ ap option_to_list may.2;
      is_next = self.next_is;
      counts = (ap (λ (n : ℕ). n + 1) self.waits_is, may.4);
    }
