-- A session that can be closed has nothing, and gives up its pins.
use Rattle.std.proofs.Common.{◌≡◌, true, false, List, [], ◌∷◌, length, map, is_some, Option, Some, None, IfSome, refl, sym, ap, subst, ◌∙◌, arith}
use Rattle.mdl_calls.specs.SessionLocks.{are_at_pins}
use Rattle.mdl_shared.proofs.Common.{Ask, Held, IsMember, Lists, Member, SessionLocks, SessionTicket, SessionView, Wait, all_tickets, as_held, data_of, interleaved, is_pinned, view_of}
use Rattle.mdl_shared.proofs.SameSpace.{wait_by}
use Rattle.mdl_shared.specs.Closings.{HasNoLocks}

none-left : (tickets : List SessionTicket) → length tickets ≡ 0 → tickets ≡ []
none-left [] none = refl
none-left (t ∷ ts) none = absurd (omega (arith, none))

none-asked : (asks : Option Ask) → is_some asks ≡ false → asks ≡ None
none-asked None idle = refl
none-asked (Some a) idle = absurd (cc)

-- where its own lists have no ticket and no wait
pub has-nothing : (m : Member) → length (interleaved m.tickets.slow m.tickets.fast) ≡ 0 → is_some m.asks ≡ false → HasNoLocks (view_of m)
has-nothing m none idle = (
  ap (λ (l : Lists). map as_held (all_tickets l)) (sym m.lists) ∙ ap (map as_held) (none-left (interleaved m.tickets.slow m.tickets.fast) none),
  ap (λ (l : Lists). wait_by l.waits l.asks) (sym m.lists) ∙ ap (wait_by m.waits) (none-asked m.asks idle),
)

-- ---- no pin

-- the session without its pins
abbrev pub without_pins : SessionView → SessionView
without_pins s = record s { pins = [] }

module _ {s : SessionView} (is : IsMember s) (nothing : HasNoLocks s) where
  abbrev own : SessionLocks
  own = (data_of (without_pins s)).own

  -- it needs none
  pub unpinned-member : IsMember (without_pins s)
  unpinned-member = record {
    sound = record {
      rising = is.sound.rising;
      below = is.sound.below;
      placed = subst (λ (held : List Held). are_at_pins own held ≡ true) (sym nothing.0) refl;
      awaited = subst (λ (wait : Option Wait). IfSome wait (λ w. is_pinned w.place own ≡ true)) (sym nothing.1) tt;
      in_order = refl;
      pinned = refl;
      apart = is.sound.apart;
      settled = is.sound.settled;
      noted = is.sound.noted;
      newest = is.sound.newest;
      fits = is.sound.fits;
    };
    idle = is.idle;
    unfast = is.unfast;
    plain = is.plain;
    within = is.within;
    alike = is.alike;
    last = is.last;
    told = is.told;
    fewer = is.fewer;
    owed = is.owed;
    counted = is.counted;
    narrow = is.narrow;
    words = is.words;
  }
