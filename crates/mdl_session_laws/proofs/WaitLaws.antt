-- The laws of a lock space, of a session: how its wait is settled, and what it is told of that.
use Rattle.std.proofs.Common.{◌≡◌, ℕ, Bool, true, false, is_some, Option, Some, None, refl, sym, ap, subst, ◌∙◌}
use Rattle.mdl_calls.specs.declared.answers.Settled.TheVariants as settled_as
use Rattle.mdl_calls.specs.declared.answers.TimedOut.TheVariants.{ByThisCall, Already}
use Rattle.mdl_session_laws.proofs.FirstLemmas.{Answer, At_place, Begin_wait, Call, Clone_ticket, Done, Downgrade, End_wait, Granted, Has_killed, Has_wait, IsEndOf, IsExplained, IsSettledAs, IsToldOf, Is_settled, Joins, KeepsSettled, Kill, Knows, Lost, Merge, NoWait, Pending, Poll_wait, Refused, Release, Resolve, Search, SessionData, Settle_timeout, Settled, SpeaksFor, Timed_out, Try_now, Unpin, Unsettled, Upgrade_now, Upgraded, Victim_is, Wait_of, Waits, caller, ends_wait, is_answer_of, is_waiting, own_of, told, wait_met, wait_number}
use Rattle.mdl_session_laws.proofs.CallLaws.{speaks}

-- an answer that tells how the caller's wait is settled is true
pub session-tells : (a b : SessionData) (call : Call) (answer : Answer) (who : ℕ) (how : Settled) → caller call ≡ Some who → told call answer ≡ Some how
    → Joins a call answer b → IsSettledAs b who how
session-tells a b call answer who how mine tells joins = joins.told how tells

-- only a wait is settled
pub session-waits_settled : (a : SessionData) (w : ℕ) (how : Settled) → SpeaksFor a w → IsSettledAs a w how → is_waiting (own_of a w) ≡ true
session-waits_settled a w how speaks_for settled = speaks_for.1.settled (ap is_some settled)

-- a wait is settled in one way
pub session-settled_once : (a : SessionData) (w : ℕ) (how other : Settled) → SpeaksFor a w → IsSettledAs a w how → IsSettledAs a w other → how ≡ other
session-settled_once a w how other speaks_for one two = let same = sym one ∙ two in cc

-- only its session ends a wait
ended-by : (call : Call) (answer : Answer) → ends_wait call answer ≡ true → (who : ℕ) × (call ≡ End_wait who)
ended-by (End_wait who) answer ends = (who, refl)
ended-by (Try_now who place mode) (Granted id) ends = cc
ended-by (Begin_wait who place mode) (Granted id) ends = cc
ended-by (Begin_wait who place mode) (Waits number) ends = cc
ended-by (Release who id) Done ends = cc
ended-by (Clone_ticket who id mode) (Granted copy) ends = cc
ended-by (Upgrade_now who id mode) Upgraded ends = cc
ended-by (Merge who old new) Done ends = cc
ended-by (Downgrade who id mode) Done ends = cc
ended-by (Resolve who key) (At_place place) ends = cc
ended-by (Unpin who place) Done ends = cc
ended-by _ _ ends = cc

-- what a wait is settled as stays, until the wait is ended
pub session-stays : (a b : SessionData) (call : Call) (answer : Answer) (w : ℕ) (how : Settled) → SpeaksFor a w → (call ≡ End_wait w → ⊥)
    → Joins a call answer b → IsSettledAs a w how → IsSettledAs b w how
session-stays a b call answer w how speaks_for apart joins settled = by (ends_wait call answer) refl joins.settled
  where
    by : (ends : Bool) → ends_wait call answer ≡ ends → KeepsSettled ends a b → b.settled ≡ Some how
    by false is keeps = keeps.0 how settled
    by true is none =
        let ended = ended-by call answer is in
        let mine = speaks a b call answer ended.0 (ap caller ended.1) joins in
        absurd (apart (ended.1 ∙ ap (λ n. End_wait n) (mine.0 ∙ sym speaks_for.0)))

-- how a wait that was lost so has ended
lost-end : (how : Settled) (who : ℕ) → is_answer_of (End_wait who) (Lost how) ≡ true → IsEndOf how (Lost how)
lost-end settled_as.Granted who fits = cc
lost-end _ who fits = refl

-- who is told what, where a settled wait is met as it is settled
told-so : (a : SessionData) (call : Call) (answer : Answer) (how : Settled) → is_waiting a.own ≡ true → is_answer_of call answer ≡ true
    → IsExplained (Knows a a.number) call answer a.own → ((state : Option Settled) → wait_met call answer ≡ Some state → state ≡ Some how) → IsToldOf how call answer
told-so a (Poll_wait who) Pending how waits fits clear agreed = let no = agreed None refl in cc
told-so a (Poll_wait who) (Is_settled one) how waits fits clear agreed = let same = agreed (Some one) refl in cc
told-so a (Poll_wait who) (Refused NoWait) how waits fits clear agreed = cc
told-so a (Poll_wait who) (Refused _) how waits fits clear agreed = absurd clear
told-so a (Poll_wait who) _ how waits fits clear agreed = cc
told-so a (Settle_timeout who) (Timed_out ByThisCall) how waits fits clear agreed = let no = agreed None refl in cc
told-so a (Settle_timeout who) (Timed_out (Already one)) how waits fits clear agreed = let same = agreed (Some one) refl in cc
told-so a (Settle_timeout who) (Refused NoWait) how waits fits clear agreed = cc
told-so a (Settle_timeout who) (Refused _) how waits fits clear agreed = absurd clear
told-so a (Settle_timeout who) _ how waits fits clear agreed = cc
told-so a (End_wait who) (Granted id) how waits fits clear agreed =
    let same : settled_as.Granted ≡ how = let e = agreed (Some settled_as.Granted) refl in cc in
    subst (λ h. IsEndOf h (Granted id)) same (id, refl)
told-so a (End_wait who) (Lost one) how waits fits clear agreed =
    let same : one ≡ how = let e = agreed (Some one) refl in cc in
    subst (λ h. IsEndOf h (Lost one)) same (lost-end one who fits)
told-so a (End_wait who) (Refused Unsettled) how waits fits clear agreed = let no = agreed None refl in absurd (cc)
told-so a (End_wait who) (Refused NoWait) how waits fits clear agreed = absurd (cc)
told-so a (End_wait who) (Refused _) how waits fits clear agreed = absurd clear
told-so a (End_wait who) _ how waits fits clear agreed = absurd (cc)
told-so a _ answer how waits fits clear agreed = tt

-- the caller is told of a settled wait as it is settled
pub session-agrees : (a b : SessionData) (call : Call) (answer : Answer) (who : ℕ) (how : Settled) → caller call ≡ Some who → IsSettledAs a who how
    → Joins a call answer b → IsToldOf how call answer
session-agrees a b call answer who how mine settled joins =
    told-so a call answer how ((speaks a b call answer who mine joins).1.settled (ap is_some settled)) joins.fits joins.explained
    (λ state is. joins.agreed state how is settled)

-- the victim of a deadlock has lost its wait
pub session-victims : (a b : SessionData) (who victim : ℕ) → SpeaksFor a victim → Joins a (Search who) (Victim_is victim) b → IsSettledAs b victim settled_as.Victim
session-victims a b who victim speaks_for joins = joins.truly speaks_for.0

-- the number of a wait is told truly
pub session-counts : (a b : SessionData) (w : ℕ) (number : Option ℕ) → SpeaksFor a w → Joins a (Wait_of w) (Has_wait number) b → number ≡ wait_number (own_of a w)
session-counts a b w number speaks_for joins = joins.truly speaks_for.0

-- only the wait of the number that was named is killed
pub session-kills : (a b : SessionData) (w number : ℕ) → SpeaksFor a w → Joins a (Kill w number) (Has_killed true) b
    → (wait_number (own_of a w) ≡ Some number) × IsSettledAs b w settled_as.Killed
session-kills a b w number speaks_for joins = joins.truly speaks_for.0

settled-how : (o : Option Settled) → is_some o ≡ true → (how : Settled) × (o ≡ Some how)
settled-how None some = cc
settled-how (Some how) some = (how, refl)

-- a kill that kills nothing found no wait of the number that was named, or a settled one
pub session-kills_or_settled : (a b : SessionData) (w number : ℕ) → SpeaksFor a w → Joins a (Kill w number) (Has_killed false) b
    → wait_number (own_of a w) ≡ Some number → (how : Settled) × IsSettledAs b w how
session-kills_or_settled a b w number speaks_for joins waits = settled-how b.settled (joins.truly speaks_for.0 waits)
