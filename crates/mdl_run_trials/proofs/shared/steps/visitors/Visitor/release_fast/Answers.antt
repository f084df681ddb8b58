-- The session has just one fast ticket, which is at the place whose key it knows.
use Rattle.std.proofs.Common.{◌≡◌, ℕ, List, [], ◌∷◌, filter, refl, sym, ap, ◌∙◌}
use Rattle.std.proofs.lemmas.Bool.{eq-eqb}
use Rattle.std.specs.Option.{option_to_list}
use Rattle.mdl_key.specs.declared.namespace.Kind.{Kind}
use Rattle.mdl_word.specs.Words.{increment_of}
use Rattle.mdl_steps.specs.declared.view.SessionTicket.{SessionTicket}
use Rattle.mdl_steps.specs.Cells.{held_at}
use Rattle.mdl_steps.specs.Deeds.{is_own}
use Rattle.mdl_visits.proofs.Lookups.{no_latches}
use Rattle.mdl_shared.proofs.Membership.{kind_there}
use Rattle.mdl_run_trials.proofs.shared.steps.visitors.Visitor.release_fast.Goals as goal

-- it is found by its number
found_alone : (place : ℕ) (t : SessionTicket) → t.place ≡ place → filter (is_own place t.number) (t ∷ []) ≡ t ∷ []
found_alone place t here = rw (eq-eqb t.place place here) (rw (eq-eqb t.number t.number refl) refl)

pub release_fast-owes-requires-clause-lost : goal.release_fast-owes-requires-clause-lost
release_fast-owes-requires-clause-lost c =
    let self = c.args.self.now in
    let t : SessionTicket = c.in-Some.ticket in
    let there = kind_there self.place self.kind self.seat.me.0.known self.known in
    let alone = self.fast_is ∙ ap option_to_list c.in-Some.is in
    record {
      apart = ap (held_at self.place) (no_latches self.seat.me self.idle);
      ticket = t;
      only = ap (λ (ts : List SessionTicket). filter (is_own self.place t.number) ts) alone ∙ found_alone self.place t c.if-ticket-self.false;
      counted_so = (there.0, there.1, there.2, there.3, ap (λ (k : Kind). increment_of k t.mode) there.4 ∙ sym c.increment.ensures ∙ c.in-Some-increment.is);
    }
