-- Calls that try for a fast ticket and give one up: what they tell and do.
use Rattle.std.proofs.Common.{◌≡◌, ◌⊎◌, inl, inr, ℕ, ◌<◌, ◌≤◌, Bool, true, List, [], ◌∷◌, length, is_some, Option, Some, None, Result, Err, refl, sym, ap, subst, ◌∙◌}
use Rattle.mdl_shared.proofs.FirstLemmas.{AllMadeSlow, Ask, DoesQuietly, Each, Fast, Gain, GrantsAtLast, KeepsRoom, Lists, Lose, MakesSlow, Member, Mode, NotFast, ReleasesFast, Room, SessionTicket, SessionView, ShowsStep, StaysSame, TicketList, but_owing, fast-held, has_number, keeps-before, keeps-equal, kind_pinned, lists_seen, member, most_fast, numbered, own_at, view_of, wish_fault}
use Rattle.mdl_shared.proofs.FastWishing.{quiet-room}
use Rattle.mdl_shared.proofs.TicketCalls.{release-joins}
use Rattle.mdl_shared.proofs.WishCalls.{try-granted}
use Rattle.mdl_shared.specs.FastCalls.{GaveUpFast, GetsNothing, HasFewerFast, HasTriedFast}
use Rattle.mdl_shared.specs.declared.fast_path.NotFast.TheVariants as not_fast
use Rattle.mdl_shared.specs.declared.try_fast.Fast.TheVariants.{Granted, Obtruded, Contended, Limit}

-- ---- a try

-- who wasn't told of the limit has fewer
pub fewer-seen : (m : Member) (place : ℕ) {result : Result ℕ NotFast} → (result ≡ Err not_fast.Limit) ⊎ (length (own_at place m.tickets.fast) < most_fast)
    → (result ≡ Err not_fast.Limit → HasFewerFast place (view_of m)) → HasFewerFast place (view_of m)
fewer-seen m place (inl limit) never = never limit
fewer-seen m place (inr fewer) never =
    subst (λ (fast : List SessionTicket). length (own_at place fast) < most_fast) (ap (λ (l : Lists). l.fast) m.lists) fewer

module _ (m m′ : Member) (place : ℕ) (fewer : HasFewerFast place (view_of m)) where
  -- a ticket was granted
  pub tried-granted : (mode : Mode) (id : ℕ) → wish_fault (kind_pinned place m.known.pins m.seat.me.0.known) m.seat.me.0.asks mode m.seat.me.0.next ≡ None → id ≡ m.next
      → DoesQuietly place (Gain id mode ∷ []) (view_of m) (view_of m′) → GrantsAtLast place (Gain id mode) m.seat.me m′.seat.me
      → is_some (numbered id m′.tickets.fast) ≡ true → KeepsRoom 1 m.tickets.room m′.tickets.room → HasTriedFast place mode (Granted id) (view_of m) (view_of m′)
  tried-granted mode id clear first quiet last held room = (
    fewer,
    try-granted (member m) place mode clear (first ∙ ap (λ (l : Lists). l.next) m.lists) quiet.done,
    quiet,
    last,
    ap (λ (l : Lists). is_some (numbered id l.fast)) (sym m′.lists) ∙ held,
    room,
  )

  -- none was
  pub tried-nothing : DoesQuietly place [] (view_of m) (view_of m′) × (m′.tickets ≡ m.tickets) → GetsNothing place (view_of m) (view_of m′)
  tried-nothing missed =
      let quiet = missed.0 in
      let now = quiet.done.now in
      let me = m.seat.me.0 in
      let lists : lists_seen m′.seat.me.0 ≡ record (lists_seen me) { slow = quiet.done.slow; fast = quiet.done.fast } =
      ap (λ (x : SessionView). lists_seen x.me.0) now in
      let slows : quiet.done.slow ≡ me.slow =
      sym (ap (λ (l : Lists). l.slow) (m′.lists ∙ lists)) ∙ ap (λ (l : TicketList). l.slow) missed.1 ∙ ap (λ (l : Lists). l.slow) m.lists in
      let fasts : quiet.done.fast ≡ me.fast =
      sym (ap (λ (l : Lists). l.fast) (m′.lists ∙ lists)) ∙ ap (λ (l : TicketList). l.fast) missed.1 ∙ ap (λ (l : Lists). l.fast) m.lists in (
        fewer,
        record {
          number = ap (λ (x : SessionView). x.me.0.number) now;
          table = ap (λ (x : SessionView). x.table) now;
          sessions = ap (λ (x : SessionView). x.sessions) now;
          pins = ap (λ (x : SessionView). x.pins) now;
          lists = lists ∙ (λ i. record (lists_seen me) { slow = slows i; fast = fasts i });
          reads = ap (λ (x : SessionView). x.me.0.reads) now;
          room = keeps-equal m.tickets.room m′.tickets.room (ap (λ (l : TicketList). l.room) missed.1);
        },
        quiet,
      )

-- none was, and no step was made
pub tried-limit : (m m′ : Member) → view_of m′ ≡ view_of m → StaysSame (view_of m) (view_of m′)
tried-limit m m′ same =
    let room : m′.tickets.room ≡ m.tickets.room = ap (λ (x : SessionView). x.room) same in
    (same ∙ ap (λ (r : Room). record (view_of m) { room = r }) (sym room), keeps-equal m.tickets.room m′.tickets.room room)

-- room was made before the try
module _ (a b : SessionView) (room : Room) (made : KeepsRoom 0 a.room room) (place : ℕ) where
  nothing-after : GetsNothing place (record a { room = room }) b → GetsNothing place a b
  nothing-after got =
      let kept = got.1 in (
        got.0,
        record {
          number = kept.number;
          table = kept.table;
          sessions = kept.sessions;
          lists = kept.lists;
          pins = kept.pins;
          reads = kept.reads;
          room = keeps-before 0 a.room room b.room made kept.room;
        },
        quiet-room a room got.2,
      )

  pub tried-after : (mode : Mode) (fast : Fast) → HasTriedFast place mode fast (record a { room = room }) b → HasTriedFast place mode fast a b
  tried-after mode (Granted id) tried =
      (tried.0, tried.1, quiet-room a room tried.2, tried.3, tried.4, keeps-before 1 a.room room b.room made tried.5)
  tried-after mode (Obtruded word) tried = (nothing-after tried.0, tried.1)
  tried-after mode (Contended word) tried = (nothing-after tried.0, tried.1)
  tried-after mode Limit tried = ((tried.0.0, keeps-before 0 a.room room b.room made tried.0.1), tried.1)

-- ---- a release

-- the session holds the fast ticket of a number
pub its-number : (m : Member) (id : ℕ) (t : SessionTicket) → numbered id m.tickets.fast ≡ Some t → numbered t.number m.tickets.fast ≡ Some t
its-number m id t held = subst (λ (n : ℕ). numbered n m.tickets.fast ≡ Some t) (sym (has_number id t m.tickets.fast held)) held

-- it was given up
pub gave-up-fast : (m : Member) (b : SessionView) (id : ℕ) (t : SessionTicket) {owes : Bool} → numbered id m.tickets.fast ≡ Some t
    → DoesQuietly t.place (Lose t.number ∷ []) (view_of m) (but_owing (view_of m) b) → ReleasesFast t.place t.number owes m.seat.me b.me
    → (m.tickets.room.spare < b.room.spare) × (m.tickets.room.reach ≤ b.room.reach) → GaveUpFast id owes (view_of m) b
gave-up-fast m b id t {owes} held quiet released room =
    let is : t.number ≡ id = has_number id t m.tickets.fast held in
    let its : numbered id m.seat.me.0.fast ≡ Some t = ap (λ (l : Lists). numbered id l.fast) (sym m.lists) ∙ held in
    let gone : DoesQuietly t.place (Lose id ∷ []) (view_of m) (but_owing (view_of m) b) =
    subst (λ (n : ℕ). DoesQuietly t.place (Lose n ∷ []) (view_of m) (but_owing (view_of m) b)) is quiet in
    let by : ReleasesFast t.place id owes m.seat.me b.me = subst (λ (n : ℕ). ReleasesFast t.place n owes m.seat.me b.me) is released in
    (release-joins (member m) id t (fast-held (member m) id t its) gone.done, (t, its, gone, by), room.0, room.1)

-- ---- fast tickets become slow

-- a session that waits has none
some-ask : (asks : Option Ask) → is_some asks ≡ true → (a : Ask) × (asks ≡ Some a)
some-ask None some = absurd (cc)
some-ask (Some a) some = (a, refl)

pub waits-unfast : (m : Member) → is_some m.asks ≡ true → m.seat.me.0.fast ≡ []
waits-unfast m waits =
    let ask = some-ask m.asks waits in
    (member m).unfast ask.0 (sym (ap (λ (l : Lists). l.asks) m.lists) ∙ ask.1)

-- where there is none, no step is needed
pub made-none : (s : SessionView) → s.me.0.fast ≡ [] → AllMadeSlow s s
made-none s none = subst (λ (fast : List SessionTicket). Each (λ (t : SessionTicket). ShowsStep s s (MakesSlow t.place)) fast) (sym none) tt
