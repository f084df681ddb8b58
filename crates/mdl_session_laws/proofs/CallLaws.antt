-- The laws of a lock space, of a session: whose calls it speaks for, and what they do to what it has.
use Rattle.std.proofs.Common.{◌≡◌, ℕ, true, false, List, Option, Some, None, IfSome, refl, sym, ap, subst, ◌∙◌}
use Rattle.mdl_system.specs.Words.{covers}
use Rattle.mdl_session_laws.proofs.FirstLemmas.{Answer, Call, Draws, Held, Holds, IsExplained, IsRising, Joins, Kill, Knows, List_held, Mode, Numbers, SessionData, SessionLocks, SpeaksFor, Upgrade_now, Wait_of, Would_wait, caller, false≢true, is_answer_of, numbers_of, own_after, own_of, ticket_held}
use Rattle.mdl_session_laws.proofs.KeptSound.{keeps-sound}
use Rattle.mdl_session_laws.proofs.ReadAfter.{held-of}

-- ---- who calls

-- the caller is the session, which is sound
pub speaks : (a b : SessionData) (call : Call) (answer : Answer) (who : ℕ) → caller call ≡ Some who → Joins a call answer b → SpeaksFor a who
speaks a b call answer who mine joins = subst (λ o. IfSome o (SpeaksFor a)) mine joins.mine

-- a call that the session doesn't make has no caller
pub no_caller : (a b : SessionData) (call : Call) (answer : Answer) (w : ℕ) → SpeaksFor a w → (caller call ≡ Some w → ⊥) → Joins a call answer b → caller call ≡ None
no_caller a b call answer w speaks_for other joins = by (caller call) joins.mine other
  where
    by : (o : Option ℕ) → IfSome o (SpeaksFor a) → (o ≡ Some w → ⊥) → o ≡ None
    by None mine other = refl
    by (Some who) mine other = absurd (other (ap (λ n. Some n) (mine.0 ∙ sym speaks_for.0)))

-- such a call leaves what a session has
nobody-changes : (call : Call) (answer : Answer) (own : SessionLocks) → caller call ≡ None → own_after call answer own ≡ own
nobody-changes (Wait_of target) answer own e = refl
nobody-changes (Kill target number) answer own e = refl
nobody-changes _ answer own e = cc

-- and gives it no number
nobody-draws : (call : Call) (answer : Answer) (before after : Numbers) → caller call ≡ None → Draws call answer before after → after ≡ before
nobody-draws (Wait_of target) answer before after e draws = draws
nobody-draws (Kill target number) answer before after e draws = draws
nobody-draws _ answer before after e draws = cc

-- ---- the laws

-- a call is made for a session that the space speaks for
pub session-allowed : (a b : SessionData) (call : Call) (answer : Answer) → Joins a call answer b → IfSome (caller call) (SpeaksFor a)
session-allowed a b call answer joins = joins.mine

-- the space goes on to speak for the same session
pub session-keeps : (a b : SessionData) (call : Call) (answer : Answer) (w : ℕ) → SpeaksFor a w → Joins a call answer b → SpeaksFor b w
session-keeps a b call answer w speaks_for joins = (speaks_for.0 ∙ sym joins.number, keeps-sound a b call answer speaks_for.1 joins)

-- what a call and its answer do to the caller
pub session-changes : (a b : SessionData) (call : Call) (answer : Answer) (who : ℕ) → caller call ≡ Some who → Joins a call answer b
    → own_of b who ≡ own_after call answer (own_of a who)
session-changes a b call answer who mine joins = joins.own

-- nothing changes for the others
pub session-others : (a b : SessionData) (call : Call) (answer : Answer) (w : ℕ) → SpeaksFor a w → (caller call ≡ Some w → ⊥) → Joins a call answer b
    → own_of b w ≡ own_of a w
session-others a b call answer w speaks_for other joins =
    joins.own ∙ nobody-changes call answer a.own (no_caller a b call answer w speaks_for other joins)

-- the numbers of held tickets rise
pub session-rising : (a : SessionData) (w : ℕ) → SpeaksFor a w → IsRising (own_of a w)
session-rising a w speaks_for = speaks_for.1.rising

-- which numbers a call gives its caller
pub session-draws : (a b : SessionData) (call : Call) (answer : Answer) (who : ℕ) → caller call ≡ Some who → Joins a call answer b
    → Draws call answer (numbers_of a who) (numbers_of b who)
session-draws a b call answer who mine joins = joins.numbers

-- the others are given none
pub session-others_draw : (a b : SessionData) (call : Call) (answer : Answer) (w : ℕ) → SpeaksFor a w → (caller call ≡ Some w → ⊥) → Joins a call answer b
    → numbers_of b w ≡ numbers_of a w
session-others_draw a b call answer w speaks_for other joins =
    nobody-draws call answer a.numbers b.numbers (no_caller a b call answer w speaks_for other joins) joins.numbers

-- an answer is one of its call's
pub session-fits : (a b : SessionData) (call : Call) (answer : Answer) → Joins a call answer b → is_answer_of call answer ≡ true
session-fits a b call answer joins = joins.fits

-- what is listed is what is held
pub session-lists : (a b : SessionData) (who : ℕ) (tickets : List Held) → Joins a (List_held who) (Holds tickets) b → tickets ≡ (own_of a who).held
session-lists a b who tickets joins = joins.truly

-- a refusal has its cause, and where there is a cause the call is refused
pub session-explains : (a b : SessionData) (call : Call) (answer : Answer) (who : ℕ) → caller call ≡ Some who → Joins a call answer b
    → IsExplained (Knows a who) call answer (own_of a who)
session-explains a b call answer who mine joins = joins.explained

-- an upgrade to a mode that the held one covers doesn't wait
pub session-upgrades : (a b : SessionData) (who id : ℕ) (mode : Mode) (ticket : Held) → ticket_held id (own_of a who) ≡ Some ticket → covers ticket.mode mode ≡ true
    → Joins a (Upgrade_now who id mode) Would_wait b → ⊥
session-upgrades a b who id mode ticket its covered joins =
    false≢true (sym (held-of id a.own (λ (t : Held). covers t.mode mode ≡ false) ticket its joins.truly) ∙ covered)
