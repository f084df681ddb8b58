-- A slow ticket of a session without fast ones, as the calls need it that go by the latch of its place.
use Rattle.std.proofs.Common.{◌≡◌, List, [], Some, sym, ap, subst, ◌∙◌}
use Rattle.mdl_shared.proofs.FirstLemmas.{Lists, Member, SessionTicket, interleaved, numbered, view_of}
use Rattle.mdl_shared.proofs.HeldTickets.{HoldsSlow, HoldsTicket, holds-slow, holds-ticket}

pub slow-held : (m : Member) (t : SessionTicket) → m.tickets.fast ≡ [] → numbered t.number m.tickets.slow ≡ Some t
    → HoldsTicket t.number t (view_of m) × HoldsSlow t.number t (view_of m)
slow-held m t none held = (
  holds-ticket m t.number t (subst (λ (ts : List SessionTicket). numbered t.number (interleaved m.tickets.slow ts) ≡ Some t) (sym none) held),
  holds-slow m t.number t (ap (λ (l : Lists). numbered t.number l.slow) (sym m.lists) ∙ held),
)
