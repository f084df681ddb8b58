-- What a session that may wish for a mode at a place gives the visit, by its own lists.
use Rattle.std.proofs.Common.{Bool, List, None, Option, Some, [], ap, false, subst, sym, true, ℕ, ◌+◌, ◌<◌, ◌∙◌, ◌∷◌, ◌≡◌}
use Rattle.mdl_shared.proofs.FirstLemmas.{Ask, AtItsTable, DidDeeds, Gain, IsVisit, Kind, Lists, MayVisit, Member, Mine, Mode, RequestsMode, Room, SeatState, SessionTicket, SessionView, Try_now, Visits, all_tickets, are_below_next, below, fault-seen, gains-slow, interleaved, is_obtrusive, kind-pinned, kind_known, kind_pinned, kind_place, kind_there, lists_seen, may-visit, member, most_numbers, no-asks, none-there, obtrudes_at, option_map_or, own_at, session_at, view_awaiting, view_of, visited, wish_fault}
use Rattle.mdl_shared.proofs.WishFaults.{wish-clear, wish-mode}

-- a session may wish for a mode at a place of a kind: it has no fault of its own, and the visit may be made
pub record MayWish (place : ℕ) (kind : Kind) (mode : Mode) (s : SessionView) : Type 0 where
  pub clear : wish_fault (kind_pinned place s.pins s.me.0.known) s.me.0.asks mode s.me.0.next ≡ None
  pub at : MayVisit place (record { table = s.table; me = s.me })
  pub wish : RequestsMode place kind mode s.me.0
  pub below : s.me.0.next < most_numbers

pub may-wish : (m : Member) (place : ℕ) (kind : Kind) (mode : Mode) → (kind_pinned place m.known.pins m.known.known ≡ Some kind) × (wish_fault (Some kind) m.asks mode m.next ≡ None)
    → MayWish place kind mode (view_of m)
may-wish m place kind mode wished =
    let is = member m in
    let known = ap (λ (l : Lists). kind_known place l.known) (sym m.lists) ∙ (kind-pinned place m.known.pins m.known.known wished.0).1 in
    let clear = fault-seen m (Try_now m.seat.me.0.number place mode) None (ap (λ (o : Option Kind). wish_fault o m.asks mode m.next) wished.0 ∙ wished.1) in
    let passed = wish-clear (view_of m) place mode clear in record {
      clear = clear;
      at = may-visit is place (kind_place place kind m.seat.me.0.known known);
      wish = record {
        idle = no-asks m.seat.me.0.asks m.seat.me.0.waits passed.0.1;
        knows = kind_there place kind m.seat.me.0.known known;
        is_mode = wish-mode kind m.asks mode m.next wished.1;
      };
      below = passed.1;
    }

-- the visit raised OBTRUSIVE only if the mode is obtrusive there, by the keys that the session knew before
pub visit-seen : (m : Member) (place : ℕ) (mode : Mode) {kind : Kind} {a b : Mine} → kind_pinned place m.known.pins m.known.known ≡ Some kind → IsVisit place (is_obtrusive kind mode) a b
    → IsVisit place (obtrudes_at place mode m.seat.me.0.known) a b
visit-seen m place mode {kind} {a} {b} pinned visit =
    let is : obtrudes_at place mode m.seat.me.0.known ≡ is_obtrusive kind mode =
    ap (λ (l : Lists). obtrudes_at place mode l.known) (sym m.lists) ∙ ap (λ (o : Option Kind). option_map_or (λ (k : Kind). is_obtrusive k mode) o false) (kind-pinned place m.known.pins m.known.known pinned).1 in
    subst (λ (may : Bool). IsVisit place may a b) (sym is) visit

-- the numbers of its own list are below the next one
pub below-seen : (m : Member) (slow fast : List SessionTicket) → (slow ≡ m.tickets.slow) × (fast ≡ m.tickets.fast) → are_below_next m.next (interleaved slow fast) ≡ true
below-seen m slow fast same =
    (λ i. are_below_next m.next (interleaved (same.0 i) (same.1 i))) ∙ ap (λ (l : Lists). are_below_next l.next (all_tickets l)) m.lists ∙ below (member m)

-- no fast one of its own list is at a place, where there is none at all
pub none-seen : (m : Member) (place : ℕ) (fast : List SessionTicket) → m.tickets.fast ≡ [] → fast ≡ m.tickets.fast → own_at place fast ≡ []
none-seen m place fast none same = ap (own_at place) (same ∙ none)

-- and none of its view
pub unfast-seen : (m : Member) → m.tickets.fast ≡ [] → m.seat.me.0.fast ≡ []
unfast-seen m none = sym (ap (λ (l : Lists). l.fast) m.lists) ∙ none

-- who waits for nothing needs no room for a ticket
pub unasked : (m : Member) → m.seat.me.0.asks ≡ None → (P : Ask → Type 0) (ask : Ask) → m.asks ≡ Some ask → P ask
unasked m idle P ask asks = let no = sym asks ∙ ap (λ (l : Lists). l.asks) m.lists ∙ idle in cc

-- a visit that gained the next ticket did that
pub gained-by : (m : Member) (seat′ : SeatState) {room : Room} (place : ℕ) (mode : Mode) → m.tickets.fast ≡ []
    → AtItsTable m.seat seat′ (Visits place (Gain m.next mode ∷ [])) → DidDeeds place (Gain m.next mode ∷ []) (view_of m) (session_at seat′ m.sessions room m.known.pins)
gained-by m seat′ place mode none visit =
    visited m.seat seat′ m.sessions (gains-slow (member m) place m.next mode (ap (λ (l : Lists). l.next) m.lists) (none-there (member m) (unfast-seen m none) place)) visit

-- its own lists as it begins to wait
pub waiting-lists : (m : Member) (place : ℕ) (mode : Mode)
    → record {
      slow = m.tickets.slow;
      fast = m.tickets.fast;
      known = m.known.known;
      next = m.next + 1;
      asks = Some (record { number = m.next; place = place; mode = mode });
      waits = m.waits + 1;
    }
    ≡ lists_seen (view_awaiting place mode m.seat.me.0)
waiting-lists m place mode =
    ap (λ (l : Lists). record l { next = l.next + 1; asks = Some (record { number = l.next; place = place; mode = mode }); waits = l.waits + 1 }) m.lists
