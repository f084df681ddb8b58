-- What a session has once a fast ticket of its is granted, or released, or once those of a place are slow ones.
use Rattle.std.proofs.Common.{◌≡◌, ℕ, ◌+◌, ◌==◌, Bool, not, List, [], ◌∷◌, ◌++◌, filter, is_some, Option, Some, None, refl, sym, ap, ◌∙◌, eqb-true}
use Rattle.mdl_steps.specs.FastPlays.{noted_at}
use Rattle.mdl_shared.proofs.FirstLemmas.{AreAlike, Ask, AtItsTable, Deed, DoesQuietly, Each, Gain, GrantsFast, IsMember, KnownKey, Lists, Lose, Materialises, Member, Mine, Mode, ReleasesFast, Room, SeatState, SessionTicket, StaysFast, all_noted, below, but_at, but_owing, but_own, by_bool, counted-kept, counted-last, each-uninterleaved, each_append, fast_own, first_note, gained-fast, increment_at, interleaved, is_own, lists_seen, made-slow, note-slow, note_at, numbered, numbers-apart, own_at, rising, seat-changed, session_at, tickets_seen}
use Rattle.mdl_shared.proofs.TicketOrder.{released-fast}

-- ---- the note of a place

-- it is what all tickets there have
first-same : (mark : Option ℕ) (tickets : List SessionTicket) → (tickets ≡ [] → mark ≡ None) → Each (λ (t : SessionTicket). t.noted ≡ mark) tickets → first_note tickets ≡ mark
first-same mark [] none each = sym (none refl)
first-same None (t ∷ ts) none each = rw each.0 (first-same None ts (λ e. refl) each.1)
first-same (Some version) (t ∷ ts) none each = rw each.0 refl

-- of those at a place
noted-there : (place : ℕ) (mark : Option ℕ) (tickets : List SessionTicket) → Each (λ (t : SessionTicket). t.place ≡ place → t.noted ≡ mark) tickets
    → Each (λ (t : SessionTicket). t.noted ≡ mark) (own_at place tickets)
noted-there place mark [] each = tt
noted-there place mark (t ∷ ts) each =
    by_bool (t.place == place)
    (λ here. rw here (each.0 (eqb-true t.place place here), noted-there place mark ts each.1))
    (λ there. rw there (noted-there place mark ts each.1))

-- where no ticket is there, none
none-at : (place : ℕ) (tickets : List SessionTicket) → own_at place tickets ≡ [] → note_at place tickets ≡ None
none-at place [] none = refl
none-at place (t ∷ ts) none =
    by_bool (t.place == place) (λ here. let no = rw here at none in absurd (cc)) (λ there. rw there (none-at place ts (rw there at none)))

nil-parts : {X : Type 0} (xs ys : List X) → xs ++ ys ≡ [] → (xs ≡ []) × (ys ≡ [])
nil-parts [] ys e = (refl, e)
nil-parts (x ∷ xs) ys e = absurd (cc)

-- the first version that is noted under the fast tickets or the slow ones is that of the place
pub one-noted : (place : ℕ) (slow fast : List SessionTicket) → AreAlike (interleaved slow fast) → first_note (own_at place fast ++ own_at place slow) ≡ note_at place (interleaved slow fast)
one-noted place slow fast alike =
    let mark = note_at place (interleaved slow fast) in
    let each = each-uninterleaved (λ (t : SessionTicket). t.place ≡ place → t.noted ≡ mark) slow fast (all_noted place (interleaved slow fast) alike) in
    first-same mark (own_at place fast ++ own_at place slow)
    (λ none. let parts = nil-parts (own_at place fast) (own_at place slow) none in note-slow place slow fast parts.0 ∙ none-at place slow parts.1)
    (each_append (λ (t : SessionTicket). t.noted ≡ mark) (own_at place fast) (own_at place slow) (noted-there place mark fast each.1) (noted-there place mark slow each.0))

-- ---- the session

-- fewer fast tickets are counted as they were
fewer-fast : (known : List KnownKey) (asks : Option Ask) (fast : List SessionTicket) (keep : SessionTicket → Bool) → StaysFast known asks fast (filter keep fast)
fewer-fast known asks fast keep = record {
  unfast = λ a waits none. ap (filter keep) none;
  plain = counted-kept keep known fast;
}

module _ (seat seat′ : SeatState) (sessions : ℕ) {room : Room} {pins : List ℕ} (is : IsMember (session_at seat sessions room pins)) where
  -- a fast ticket was granted
  pub fast-granted : {room′ : Room} {place one : ℕ} {mode : Mode} {noted : Option ℕ} → seat.me.0.asks ≡ None → increment_at place mode seat.me.0.known ≡ Some one
      → noted ≡ noted_at place seat.me.0 → AtItsTable seat seat′ (GrantsFast place mode noted)
      → DoesQuietly place (Gain seat.me.0.next mode ∷ []) (session_at seat sessions room pins) (session_at seat′ sessions room′ pins)
  fast-granted {room′} {place} {one} {mode} {noted} idle counted it granted =
      let v = seat.me.0 in
      let its : noted ≡ note_at place (tickets_seen v) = it ∙ one-noted place v.slow v.fast is.alike in
      let t : SessionTicket = fast_own v.next place mode noted in
      let now = granted.1.now in record {
        done = record {
          slow = v.slow;
          fast = v.fast ++ t ∷ [];
          told = v.told;
          owes = v.owes;
          searches = v.searches;
          settles = v.settles;
          log = _;
          room = room′;
          now = seat-changed seat seat′ sessions granted.0 _ now;
          tickets = gained-fast t v.slow v.fast (below is) ∙ ap (λ (n : Option ℕ). tickets_seen v ++ fast_own v.next place mode n ∷ []) its;
          fasts = record {
            unfast = λ a waits none. (let no = sym waits ∙ idle in cc);
            plain = λ all. counted-last v.known v.fast t all (ap is_some counted);
          };
          stays = λ state told. told;
          owed = λ p owed. owed;
          unasked = λ none. refl;
        };
        did = (granted.1.made, ap (λ (m : Mine). m.0.log) now, granted.1.did);
        settled = ap (λ (m : Mine). m.0.settles) now;
        told = ap (λ (m : Mine). m.0.told) now;
        owes = ap (λ (m : Mine). m.0.owes) now;
        searches = ap (λ (m : Mine). m.0.searches) now;
      }

  -- one was released. What the session owes then is left out
  pub fast-released : {room′ : Room} {place number : ℕ} {owes : Bool} {t : SessionTicket} → numbered number seat.me.0.fast ≡ Some t → AtItsTable seat seat′ (ReleasesFast place number owes)
      → DoesQuietly place (Lose number ∷ []) (session_at seat sessions room pins) (but_owing (session_at seat sessions room pins) (session_at seat′ sessions room′ pins))
  fast-released {room′} {place} {number} {owes} {t} its released =
      let v = seat.me.0 in
      let now = released.1.now in record {
        done = record {
          slow = v.slow;
          fast = but_own place number v.fast;
          told = v.told;
          owes = v.owes;
          searches = v.searches;
          settles = v.settles;
          log = _;
          room = room′;
          now = ap (but_owing (session_at seat sessions room pins)) (seat-changed seat seat′ sessions {room = room′} released.0 _ now);
          tickets = released-fast place number v.slow v.fast (rising is) (numbers-apart number t v.slow v.fast (rising is) its);
          fasts = fewer-fast v.known v.asks v.fast (λ u. not (is_own place number u));
          stays = λ state told. told;
          owed = λ p owed. owed;
          unasked = λ none. refl;
        };
        did = (released.1.step ∷ [], ap (λ (m : Mine). m.0.log) now, ap (λ (ds : List Deed). ds ++ []) released.1.did);
        settled = ap (λ (m : Mine). m.0.settles) now;
        told = ap (λ (m : Mine). m.0.told) now;
        owes = refl;
        searches = ap (λ (m : Mine). m.0.searches) now;
      }

  -- those of a place became slow ones
  pub fast-materialised : {room′ : Room} {place : ℕ} → AtItsTable seat seat′ (Materialises place) → DoesQuietly 0 [] (session_at seat sessions room pins) (session_at seat′ sessions room′ pins)
  fast-materialised {room′} {place} moved =
      let v = seat.me.0 in
      let now = moved.1.now in record {
        done = record {
          slow = interleaved v.slow (own_at place v.fast);
          fast = but_at place v.fast;
          told = v.told;
          owes = v.owes;
          searches = v.searches;
          settles = v.settles;
          log = _;
          room = room′;
          now = seat-changed seat seat′ sessions moved.0 _ now;
          tickets = made-slow place v.slow v.fast (rising is);
          fasts = fewer-fast v.known v.asks v.fast (λ u. not (u.place == place));
          stays = λ state told. told;
          owed = λ p owed. owed;
          unasked = λ none. refl;
        };
        did = (moved.1.made, ap (λ (m : Mine). m.0.log) now, moved.1.did);
        settled = ap (λ (m : Mine). m.0.settles) now;
        told = ap (λ (m : Mine). m.0.told) now;
        owes = ap (λ (m : Mine). m.0.owes) now;
        searches = ap (λ (m : Mine). m.0.searches) now;
      }

-- ---- its own lists

-- they are those of its view still once a fast ticket was granted
pub lists-granted : (m : Member) (seat′ : SeatState) {place : ℕ} {mode : Mode} {noted : Option ℕ} {slow fast : List SessionTicket} → AtItsTable m.seat seat′ (GrantsFast place mode noted)
    → slow ≡ m.tickets.slow → fast ≡ m.tickets.fast ++ fast_own m.next place mode noted ∷ []
    → record { slow = slow; fast = fast; known = m.known.known; next = m.next + 1; asks = m.asks; waits = m.waits } ≡ lists_seen seat′.me.0
lists-granted m seat′ {place} {mode} {noted} granted slows fasts =
    (λ i. record { slow = slows i; fast = fasts i; known = m.known.known; next = m.next + 1; asks = m.asks; waits = m.waits })
    ∙ ap (λ (l : Lists). record l { fast = l.fast ++ fast_own l.next place mode noted ∷ []; next = l.next + 1 }) m.lists
    ∙ sym (ap (λ (x : Mine). lists_seen x.0) granted.1.now)

-- once one was released
pub lists-released : (m : Member) (seat′ : SeatState) {place number : ℕ} {owes : Bool} {slow fast : List SessionTicket} → AtItsTable m.seat seat′ (ReleasesFast place number owes)
    → slow ≡ m.tickets.slow → fast ≡ but_own place number m.tickets.fast
    → record { slow = slow; fast = fast; known = m.known.known; next = m.next; asks = m.asks; waits = m.waits } ≡ lists_seen seat′.me.0
lists-released m seat′ {place} {number} released slows fasts =
    (λ i. record { slow = slows i; fast = fasts i; known = m.known.known; next = m.next; asks = m.asks; waits = m.waits })
    ∙ ap (λ (l : Lists). record l { fast = but_own place number l.fast }) m.lists
    ∙ sym (ap (λ (x : Mine). lists_seen x.0) released.1.now)

-- once those of a place are slow
pub lists-materialised : (m : Member) (seat′ : SeatState) {place : ℕ} {slow fast : List SessionTicket} → AtItsTable m.seat seat′ (Materialises place)
    → slow ≡ interleaved m.tickets.slow (own_at place m.tickets.fast) → fast ≡ but_at place m.tickets.fast
    → record { slow = slow; fast = fast; known = m.known.known; next = m.next; asks = m.asks; waits = m.waits } ≡ lists_seen seat′.me.0
lists-materialised m seat′ {place} moved slows fasts =
    (λ i. record { slow = slows i; fast = fasts i; known = m.known.known; next = m.next; asks = m.asks; waits = m.waits })
    ∙ ap (λ (l : Lists). record l { slow = interleaved l.slow (own_at place l.fast); fast = but_at place l.fast }) m.lists
    ∙ sym (ap (λ (x : Mine). lists_seen x.0) moved.1.now)
