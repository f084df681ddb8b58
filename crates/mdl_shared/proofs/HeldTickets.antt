-- A ticket that a session holds, as its calls need it.
use Rattle.std.proofs.Common.{◌≡◌, ℕ, is_some, Some, sym, ap, subst}
use Rattle.mdl_shared.proofs.FirstLemmas.{HasTicket, KnowsPlace, MayVisit, Member, NotWaited, SessionTicket, SessionView, has_number, held-seen, interleaved, may-visit, member, numbered, place-known, slow-there, ticket-known, tickets_seen, unwaited, view_of}

-- the session holds a ticket of this number, and may visit its place
pub record HoldsTicket (id : ℕ) (t : SessionTicket) (s : SessionView) : Type 0 where
  pub its : numbered id (tickets_seen s.me.0) ≡ Some t
  pub number : t.number ≡ id
  pub own : numbered t.number (tickets_seen s.me.0) ≡ Some t
  pub unwaited : NotWaited s.me.0 t.number
  pub at : MayVisit t.place (record { table = s.table; me = s.me })
  pub known : KnowsPlace s.me.0 t.place

pub holds-ticket : (m : Member) (id : ℕ) (t : SessionTicket) → numbered id (interleaved m.tickets.slow m.tickets.fast) ≡ Some t → HoldsTicket id t (view_of m)
holds-ticket m id t found =
    let is = member m in
    let its = held-seen m id (Some t) (sym found) in
    let number = has_number id t (tickets_seen m.seat.me.0) its in
    let own = subst (λ (n : ℕ). numbered n (tickets_seen m.seat.me.0) ≡ Some t) (sym number) its in
    let known = ticket-known is id t its in record {
      its = its;
      number = number;
      own = own;
      unwaited = unwaited is t.number (ap is_some own);
      at = may-visit is t.place known;
      known = place-known is t.place known;
    }

-- a ticket of this number is one of its slow ones
pub record HoldsSlow (id : ℕ) (t : SessionTicket) (s : SessionView) : Type 0 where
  pub its : numbered id s.me.0.slow ≡ Some t
  pub slow : numbered t.number s.me.0.slow ≡ Some t
  pub there : HasTicket t.place id s.me.0.slow

pub holds-slow : (m : Member) (id : ℕ) (t : SessionTicket) → numbered id m.seat.me.0.slow ≡ Some t → HoldsSlow id t (view_of m)
holds-slow m id t its = record {
  its = its;
  slow = subst (λ (n : ℕ). numbered n m.seat.me.0.slow ≡ Some t) (sym (has_number id t m.seat.me.0.slow its)) its;
  there = slow-there (member m) id t its;
}
