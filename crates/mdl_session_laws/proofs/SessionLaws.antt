-- A session that has such plain data has the laws of a lock space, if each call does to these data what `Joins` says. Of its debts they tell nothing: that no
-- call leaves a new one, and how a place was in use whose pin couldn't be given up, the session says itself.
use Rattle.std.specs.Prelude.{ℕ, ◌⊎◌}
use Rattle.mdl_session_laws.proofs.FirstLemmas.{Answer, AwaitsAt, Call, HasMet, HasRead, HasSeen, HoldsAt, InUse, IsSettledAs, Joins, Knows, Refused, SessionData, SpaceLaws, SpeaksFor, Unpin, numbers_of, own_of}
use Rattle.mdl_session_laws.proofs.CallLaws.{session-allowed, session-keeps, session-changes, session-others, session-rising, session-fits, session-lists, session-explains, session-draws, session-others_draw, session-upgrades}
use Rattle.mdl_session_laws.proofs.KeyLaws.{session-resolves, session-remembers, session-one_key, session-one_place, session-pins_rise, session-pinned_known, session-held_pinned, session-wait_pinned, session-tells_key, session-tells_tables}
use Rattle.mdl_session_laws.proofs.ReadLaws.{session-reads, session-redefines, session-redefines_so, session-reads_one, session-stands, session-reads_fit, session-sees, session-seen_stays, session-seen_below, session-meets, session-met_stays}
use Rattle.mdl_session_laws.proofs.WaitLaws.{session-tells, session-waits_settled, session-settled_once, session-stays, session-agrees, session-victims, session-counts, session-kills, session-kills_or_settled}

module _ {S : Type 0} {owes : S → ℕ → ℕ → Type 0} {joins : S → Call → Answer → S → Type 0} (view : S → SessionData)
    (joined : (a b : S) (call : Call) (answer : Answer) → joins a call answer b → Joins (view a) call answer (view b))
    (no_new_debts : (a b : S) (call : Call) (answer : Answer) (w place : ℕ) → SpeaksFor (view a) w → joins a call answer b → owes b w place → owes a w place)
    (unpins_in_use : (a b : S) (who place : ℕ) → joins a (Unpin who place) (Refused InUse) b
    → HoldsAt place (own_of (view a) who) ⊎ AwaitsAt place (own_of (view a) who) ⊎ owes a who place)
  where
    pub session-laws : SpaceLaws (λ s. SpeaksFor (view s)) (λ s. own_of (view s)) (λ s. Knows (view s)) (λ s. IsSettledAs (view s)) (λ s. numbers_of (view s))
        (λ s. HasRead (view s)) (λ s. HasMet (view s)) (λ s. HasSeen (view s)) owes joins
    session-laws = record {
      allowed = λ a b call answer j. session-allowed (view a) (view b) call answer (joined _ _ _ _ j);
      keeps = λ a b call answer w speaks j. session-keeps (view a) (view b) call answer w speaks (joined _ _ _ _ j);
      changes = λ a b call answer who is j. session-changes (view a) (view b) call answer who is (joined _ _ _ _ j);
      others = λ a b call answer w speaks other j. session-others (view a) (view b) call answer w speaks other (joined _ _ _ _ j);
      rising = λ a. session-rising (view a);
      fits = λ a b call answer j. session-fits (view a) (view b) call answer (joined _ _ _ _ j);
      lists = λ a b who tickets j. session-lists (view a) (view b) who tickets (joined _ _ _ _ j);
      explains = λ a b call answer who is j. session-explains (view a) (view b) call answer who is (joined _ _ _ _ j);
      resolves = λ a b who place key j. session-resolves (view a) (view b) who place key (joined _ _ _ _ j);
      remembers = λ a b call answer w place key speaks kept j. session-remembers (view a) (view b) call answer w place key speaks kept (joined _ _ _ _ j);
      one_key = λ a. session-one_key (view a);
      one_place = λ a. session-one_place (view a);
      pins_rise = λ a. session-pins_rise (view a);
      pinned_known = λ a. session-pinned_known (view a);
      held_pinned = λ a. session-held_pinned (view a);
      wait_pinned = λ a. session-wait_pinned (view a);
      tells = λ a b call answer who how is told j. session-tells (view a) (view b) call answer who how is told (joined _ _ _ _ j);
      waits_settled = λ a. session-waits_settled (view a);
      settled_once = λ a. session-settled_once (view a);
      stays = λ a b call answer w how speaks going j. session-stays (view a) (view b) call answer w how speaks going (joined _ _ _ _ j);
      agrees = λ a b call answer who how is settled j. session-agrees (view a) (view b) call answer who how is settled (joined _ _ _ _ j);
      victims = λ a b who victim speaks j. session-victims (view a) (view b) who victim speaks (joined _ _ _ _ j);
      counts = λ a b w number speaks j. session-counts (view a) (view b) w number speaks (joined _ _ _ _ j);
      kills = λ a b w number speaks j. session-kills (view a) (view b) w number speaks (joined _ _ _ _ j);
      kills_or_settled = λ a b w number speaks j. session-kills_or_settled (view a) (view b) w number speaks (joined _ _ _ _ j);
      draws = λ a b call answer who is j. session-draws (view a) (view b) call answer who is (joined _ _ _ _ j);
      others_draw = λ a b call answer w speaks other j. session-others_draw (view a) (view b) call answer w speaks other (joined _ _ _ _ j);
      reads = λ a b call who id version definition ticket is under its j. session-reads (view a) (view b) call who id version definition ticket is under its (joined _ _ _ _ j);
      redefines = λ a b who id version change ticket its j. session-redefines (view a) (view b) who id version change ticket its (joined _ _ _ _ j);
      redefines_so = λ a b who id change answer ticket key standing its exclusive knows read j. session-redefines_so (view a) (view b) who id change answer ticket key standing its exclusive knows read (joined _ _ _ _ j);
      reads_one = λ a. session-reads_one (view a);
      stands = λ a b call answer w place standing speaks others holds j. session-stands (view a) (view b) call answer w place standing speaks others holds (joined _ _ _ _ j);
      reads_fit = λ a. session-reads_fit (view a);
      sees = λ a. session-sees (view a);
      seen_stays = λ a b call answer w place version speaks j. session-seen_stays (view a) (view b) call answer w place version speaks (joined _ _ _ _ j);
      seen_below = λ a. session-seen_below (view a);
      meets = λ a. session-meets (view a);
      met_stays = λ a b call answer w place standing speaks j. session-met_stays (view a) (view b) call answer w place standing speaks (joined _ _ _ _ j);
      upgrades = λ a b who id mode ticket its covered j. session-upgrades (view a) (view b) who id mode ticket its covered (joined _ _ _ _ j);
      tells_key = λ a b who place key other j. session-tells_key (view a) (view b) who place key other (joined _ _ _ _ j);
      tells_tables = λ a b who schema places j. session-tells_tables (view a) (view b) who schema places (joined _ _ _ _ j);
      no_new_debts = no_new_debts;
      unpins_in_use = unpins_in_use;
    }
