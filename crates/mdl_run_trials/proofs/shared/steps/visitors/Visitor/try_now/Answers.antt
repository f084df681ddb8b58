-- The session waits for nothing, holds no latch, and knows the key of its place.
use Rattle.std.proofs.Common.{◌<◌, List, sym, subst, ◌∙◌}
use Rattle.mdl_steps.specs.declared.view.LatchRecord.{LatchRecord}
use Rattle.mdl_steps.specs.Lists.{Each}
use Rattle.mdl_visits.proofs.Lookups.{no_latches}
use Rattle.mdl_shared.proofs.Membership.{kind_there}
use Rattle.mdl_run_trials.proofs.shared.steps.visitors.Visitor.try_now.Goals as goal

pub try_now-requires-clause-may : goal.try_now-requires-clause-may
try_now-requires-clause-may g c =
    let self = c.args.self.now in
    let may = c.may_ask.ensures c.if-not-may_ask.false in record {
      at = record {
        is_place = self.placed;
        rising = subst (λ (hs : List LatchRecord). Each (λ (h : LatchRecord). h.place < self.place) hs) (sym (no_latches self.seat.me self.idle)) tt;
      };
      wish = record {
        idle = sym self.asks_is ∙ may.0;
        knows = kind_there self.place self.kind self.seat.me.0.known self.known;
        is_mode = may.5;
      };
    }
