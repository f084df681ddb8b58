-- The laws of the waits that end in turn.
use Rattle.std.proofs.Common.{◌≡◌, ℕ, Bool, true, false, not, ◌&&◌, ◌||◌, List, [], ◌∷◌, refl, ap, eq-eqb}
use Rattle.std.specs.Prelude.{IsTrue, ◌==◌}
use Rattle.std.specs.List.{list_any, list_all}
use Rattle.std.proofs.lemmas.Bool.{and_parts, and_from, or_left, or_right, false≢true, true≢false}
use Rattle.mdl_view.specs.declared.act.Act.{Act}
use Rattle.mdl_view.specs.declared.ticket.Ticket.{Ticket}
use Rattle.mdl_view.specs.Acts.{ends, is_taken}
use Rattle.mdl_view.specs.Blockings.{is_blocked}
use Rattle.mdl_view.specs.GoingOn.{Sessions, goes_on, is_closed, is_free, is_gone}
use Rattle.mdl_view.specs.Locks.{LockView}
use Rattle.mdl_view.specs.WayLaws.{EndsAreDetermined, NobodyEndsBlocked, is_freed, is_freed_at}
use Rattle.mdl_view.proofs.TurnLemmas.{gone_still, still_free}
use Rattle.mdl_view.proofs.WayLemmas.{same_ended}

pub determined : EndsAreDetermined
determined act locks one other first second = λ session. ap (λ (ended : Sessions). ended session) (same_ended (is_taken act) (ends act) locks one other first second)

-- ---- who ends has been freed

-- those of the sessions that the act ends or that have been freed
abbrev with_cause : Act → List LockView → Sessions → Sessions
with_cause act locks ended session = ended session && (ends act session || is_freed act ended locks session)

abbrev closed_by : (Ticket → Bool) → Sessions → LockView → Ticket → Bool
closed_by gone ended lock ask = not (goes_on gone lock ask) || ended ask.session

-- a wait that goes on beside those has been freed, and its session ends
caused : (gone_small taken ended blocked free_small free_big cause : Bool) → (gone_small ≡ false → taken ≡ false)
    → (free_small ≡ true → free_big ≡ true) → (blocked ≡ true → free_big ≡ true → cause ≡ true)
    → (not (not (taken || ended) && blocked && free_big) || ended) ≡ true → (not (not gone_small && blocked && free_small) || (ended && cause)) ≡ true
caused true taken ended blocked free_small free_big cause was more so closed = refl
caused false taken ended false free_small free_big cause was more so closed = refl
caused false taken ended true false free_big cause was more so closed = refl
caused false true ended true true free_big cause was more so closed = absurd (true≢false (was refl))
caused false false true true true free_big cause was more so closed = so refl (more refl)
caused false false false true true true cause was more so closed = absurd (false≢true closed)
caused false false false true true false cause was more so closed = absurd (false≢true (more refl))

module _ (act : Act) (all : List LockView) (ended : Sessions) where
  small-within : (session : ℕ) → IsTrue (with_cause act all ended session) → IsTrue (ended session)
  small-within session is = (and_parts (ended session) (ends act session || is_freed act ended all session) is).0

  freed_among : (lock : LockView) (asks : List Ticket)
      → ((ask : Ticket) → is_blocked lock ask ≡ true → is_free lock (is_gone (is_taken act) ended) ask ≡ true
      → list_any (λ one. (one.session == ask.session) && (is_blocked lock one && is_free lock (is_gone (is_taken act) ended) one)) asks ≡ true
      → is_freed act ended all ask.session ≡ true)
      → list_all (closed_by (is_gone (is_taken act) ended) ended lock) asks ≡ true
      → list_all (closed_by (is_gone (is_taken act) (with_cause act all ended)) (with_cause act all ended) lock) asks ≡ true
  freed_among lock [] here closed = refl
  freed_among lock (ask ∷ asks) here closed =
      let big = is_gone (is_taken act) ended in
      let less = is_gone (is_taken act) (with_cause act all ended) in
      let parts = and_parts (closed_by big ended lock ask) (list_all (closed_by big ended lock) asks) closed in
      and_from (closed_by less (with_cause act all ended) lock ask) (list_all (closed_by less (with_cause act all ended) lock) asks)
      (caused (less ask) (is_taken act ask) (ended ask.session) (is_blocked lock ask) (is_free lock less ask) (is_free lock big ask)
      (ends act ask.session || is_freed act ended all ask.session) (left (is_taken act ask) (with_cause act all ended ask.session))
      (still_free lock less big ask (gone_still (is_taken act) (with_cause act all ended) ended small-within))
      (λ blocked free. or_right (ends act ask.session) (is_freed act ended all ask.session)
      (here ask blocked free (or_left ((ask.session == ask.session) && (is_blocked lock ask && is_free lock big ask))
      (list_any (λ one. (one.session == ask.session) && (is_blocked lock one && is_free lock big one)) asks)
      (and_from (ask.session == ask.session) (is_blocked lock ask && is_free lock big ask) (eq-eqb ask.session ask.session refl)
      (and_from (is_blocked lock ask) (is_free lock big ask) blocked free)))))
      parts.0)
      (freed_among lock asks (λ one blocked free there. here one blocked free
      (or_right ((ask.session == one.session) && (is_blocked lock ask && is_free lock big ask))
      (list_any (λ two. (two.session == one.session) && (is_blocked lock two && is_free lock big two)) asks) there)) parts.1) where
        left : (a b : Bool) → (a || b) ≡ false → a ≡ false
        left true b e = e
        left false b e = refl

  freed_in : (locks : List LockView) → ((session : ℕ) → is_freed act ended locks session ≡ true → is_freed act ended all session ≡ true)
      → is_closed (is_gone (is_taken act) ended) ended locks ≡ true
      → is_closed (is_gone (is_taken act) (with_cause act all ended)) (with_cause act all ended) locks ≡ true
  freed_in [] within closed = refl
  freed_in (lock ∷ locks) within closed =
      let big = is_gone (is_taken act) ended in
      let less = is_gone (is_taken act) (with_cause act all ended) in
      let parts = and_parts (list_all (closed_by big ended lock) lock.waiting) (is_closed big ended locks) closed in
      and_from (list_all (closed_by less (with_cause act all ended) lock) lock.waiting) (is_closed less (with_cause act all ended) locks)
      (freed_among lock lock.waiting
      (λ ask blocked free there. within ask.session (or_left (is_freed_at act ended ask.session lock) (is_freed act ended locks ask.session) there)) parts.0)
      (freed_in locks (λ session there. within session (or_right (is_freed_at act ended session lock) (is_freed act ended locks session) there)) parts.1)

pub nobody_blocked : NobodyEndsBlocked
nobody_blocked act locks ended is = λ session there.
    (and_parts (ended session) (ends act session || is_freed act ended locks session)
    (is.least (with_cause act locks ended)
    (λ first at. and_from (ended first) (ends act first || is_freed act ended locks first) (is.first_end first at)
    (or_left (ends act first) (is_freed act ended locks first) at))
    (freed_in act locks ended locks (λ one so. so) is.closed) session there)).1
