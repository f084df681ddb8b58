-- However a statement ends, what was shown in its transaction before stands on, and what it shows stands too.
use Rattle.std.proofs.Common.{◌≡◌, inl, inr, ℕ, Bool, true, false, List, Option, Some, None, Contains, refl, sym, ◌∙◌, subst}
use Rattle.std.specs.Prelude.{if◌then◌else◌}
use Rattle.std.proofs.lemmas.Bool.{false≢true}
use Rattle.std.proofs.lemmas.List.Elements.{Contains-append_cases}
use Rattle.mdl_key.specs.declared.mode.Duration.TheVariants.{Statement, Transaction}
use Rattle.mdl_key.specs.Keys.{KeyName}
use Rattle.mdl_calls.specs.declared.answers.Settled.{Settled}
use Rattle.mdl_calls.specs.declared.answers.Settled.TheVariants as settled
use Rattle.mdl_calls.specs.declared.space_error.SpaceError.{SpaceError}
use Rattle.mdl_calls.specs.declared.space_error.SpaceError.TheVariants as space
use Rattle.mdl_calls.specs.Words.{Give}
use Rattle.mdl_core.specs.Cores.{Core}
use Rattle.mdl_context.specs.declared.context_error.ContextError.{ContextError}
use Rattle.mdl_context.specs.declared.context_error.ContextError.TheVariants.{Space}
use Rattle.mdl_context.specs.declared.kept.Kept.{Kept}
use Rattle.mdl_context.specs.declared.request.Mark.{Mark}
use Rattle.mdl_context.specs.Contexts.{ContextView, beyond, beyond_mark, lasts, newest_first, of_statement, tickets_for}
use Rattle.mdl_context.specs.Releases.{releasing, releasing_tickets}
use Rattle.mdl_context.specs.Requests.{Outcome}
use Rattle.mdl_rows.specs.declared.ending.Ending.{Ending}
use Rattle.mdl_rows.specs.declared.ending.Ending.TheVariants.{Answers, Misses, Falls, Starves}
use Rattle.mdl_rows.specs.declared.reply.TableShown.{TableShown}
use Rattle.mdl_rows.specs.Endings.{closing, ending_of_error, ending_of_loss, ending_of_refusal, gone_at, letting_go, pause_after, state_after, without_half}
use Rattle.mdl_rows.specs.Sessions.{Session}
use Rattle.mdl_rows.specs.States.{State, half_lock, lone_ticket, without_read_lock}
use Rattle.mdl_script_laws.proofs.ListLemmas.{among-filter, among-reverse}
use Rattle.mdl_script_laws.proofs.ShownCalls.{Leads, leads-bind}
use Rattle.mdl_script_laws.proofs.RowRules.{IsUnlocked}
use Rattle.mdl_script_laws.proofs.ShownContexts.{Fits}
use Rattle.mdl_script_laws.proofs.ShownWaits.{GaveUp, IsAmong, leads-giving_up, leads-releasing}
use Rattle.mdl_script_laws.proofs.ShownPoints.{IsFirm, IsOld, IsStanding, drop-within, standing-left}
use Rattle.mdl_script_laws.proofs.ShownStages.{Comes, Point, Rests, Tells}

-- ---- ends

-- what an ending shows
abbrev pub TellsAt : Ending → TableShown → Type 0
TellsAt (Answers reply) x = Tells reply x
TellsAt _ x = ⊥

not_firm : (kept : List Kept) (k : Kept) (id : ℕ) → IsFirm kept id → Contains (tickets_for Statement kept) k → k.id ≡ id → ⊥
not_firm kept k id firm among e = let h = among-filter (lasts Statement) kept k among in let f = firm k h.0 e in let g = sym h.1 ∙ f in cc

module _ (old : TableShown → Type 0) (live : Bool) (locks : List (ℕ × KeyName)) (seen : List TableShown) (mark : Mark) (a : Core) (session : Session)
    (point : Point old live locks seen mark a session.context session.state) where
  abbrev kept_before : List Kept
  kept_before = session.context.kept

  -- what goes beyond the mark isn't among what was shown before
  old-beyond : (x : TableShown) (stands : IsStanding a session.context x) → IsOld mark kept_before stands.ticket.id
      → (k : Kept) → Contains (beyond_mark mark kept_before) k → k.id ≡ stands.ticket.id → ⊥
  old-beyond x stands is k among e = elim (Contains-append_cases (newest_first (beyond Statement mark.statement kept_before))
      (newest_first (beyond Transaction mark.transaction kept_before)) k among) [
        | inl one ↦ not_firm kept_before k stands.ticket.id stands.firm
            (drop-within mark.statement (tickets_for Statement kept_before) k (among-reverse (beyond Statement mark.statement kept_before) k one)) e
        | inr other ↦ is k (among-reverse (beyond Transaction mark.transaction kept_before) k other) e
      ]

  -- what goes leaves what was shown before
  old-stays : (ending : Ending) (x : TableShown) (stands : IsStanding a session.context x) → IsOld mark kept_before stands.ticket.id
      → (state_after ending session.state).is_open ≡ true
      → IsAmong (gone_at ending true mark kept_before) stands.ticket.id → ⊥
  old-stays (Answers reply) x stands is opens (k, among, e) =
      not_firm kept_before k stands.ticket.id stands.firm (among-reverse (tickets_for Statement kept_before) k among) e
  old-stays (Misses number) x stands is opens (k, among, e) = old-beyond x stands is k among e
  old-stays Starves x stands is opens (k, among, e) = old-beyond x stands is k among e
  old-stays Falls x stands is opens among = cc

  still_open : (ending : Ending) → (state_after ending session.state).is_open ≡ true → session.state.is_open ≡ true
  still_open (Answers reply) e = e
  still_open (Misses number) e = e
  still_open Starves e = e
  still_open Falls e = cc

  unlocked_still : (ending : Ending) → IsUnlocked session.state → IsUnlocked (state_after ending session.state)
  unlocked_still (Answers reply) e = e
  unlocked_still (Misses number) e = e
  unlocked_still Starves e = e
  unlocked_still Falls e = λ opens. cc

  -- how it ended
  came-to : (ending : Ending) (b : Core) (after : ContextView) → (live ≡ true → (x : TableShown) → TellsAt ending x → Contains seen x)
      → GaveUp a (gone_at ending session.state.is_open mark kept_before) session.context b after
      → Comes old (pause_after ending (record { context = after; state = state_after ending session.state; left = None })) b
  came-to ending b after told gave = by ending rests tells
    where
      there : session.state.is_open ≡ true → GaveUp a (gone_at ending true mark kept_before) session.context b after
      there opens = subst (λ o. GaveUp a (gone_at ending o mark kept_before) session.context b after) opens gave

      rests : Rests old b (record { context = after; state = state_after ending session.state; left = None })
      rests = record {
        left = refl;
        fits = gave.fits;
        unlocked = unlocked_still ending point.unlocked;
        kept = λ x is opens. (
            let h = point.kept x is (point.was (still_open ending opens)) in
            standing-left a b (gone_at ending true mark kept_before) session.context after x h.0 (there (still_open ending opens))
            (old-stays ending x h.0 h.1 opens));
      }

      tells : (x : TableShown) → TellsAt ending x → (state_after ending session.state).is_open ≡ true → IsStanding b after x
      tells x tell opens = at ending (told (point.was (still_open ending opens))) (there (still_open ending opens)) tell
        where
          at : (e : Ending) → ((y : TableShown) → TellsAt e y → Contains seen y) → GaveUp a (gone_at e true mark kept_before) session.context b after
              → TellsAt e x → IsStanding b after x
          at (Answers reply) told gave tell =
              let stands = point.stands x (told x tell) in
              standing-left a b (of_statement kept_before) session.context after x stands gave
              (λ (k, among, e). not_firm kept_before k stands.ticket.id stands.firm (among-reverse (tickets_for Statement kept_before) k among) e)
          at (Misses number) told gave tell = absurd tell
          at Starves told gave tell = absurd tell
          at Falls told gave tell = absurd tell

      by : (e : Ending)
          → Rests old b (record { context = after; state = state_after e session.state; left = None })
          → ((x : TableShown) → TellsAt e x → (state_after e session.state).is_open ≡ true → IsStanding b after x)
          → Comes old (pause_after e (record { context = after; state = state_after e session.state; left = None })) b
      by (Answers reply) rests tells = (rests, tells)
      by (Misses number) rests tells = (rests, tells)
      by Falls rests tells = (rests, tells)
      by Starves rests tells = rests

  leads-letting_go : (ending : Ending) → (live ≡ true → (x : TableShown) → TellsAt ending x → Contains seen x) → Leads (Comes old) (letting_go ending mark session) a
  leads-letting_go ending told =
      let gone = gone_at ending session.state.is_open mark kept_before in
      leads-bind (λ (outcome : Outcome (Unit {0})) b. GaveUp a gone session.context b outcome.1) (Comes old) (releasing_tickets gone session.context)
      (λ outcome. Give (pause_after ending (record { context = outcome.1; state = state_after ending session.state; left = None }))) a
      (leads-giving_up a gone session.context point.fits) (λ outcome b gave. came-to ending b outcome.1 told gave)

-- a statement ended, and no transaction is open
came-shut : (old : TableShown → Type 0) (ending : Ending) (b : Core) (after : ContextView) (state : State) → Fits b after → IsUnlocked (state_after ending state)
    → (state_after ending state).is_open ≡ false → Comes old (pause_after ending (record { context = after; state = state_after ending state; left = None })) b
came-shut old ending b after state fits unlocked shut = by ending
  where
    rests : Rests old b (record { context = after; state = state_after ending state; left = None })
    rests = record { left = refl; fits = fits; unlocked = unlocked; kept = λ x is opens. absurd (false≢true (sym shut ∙ opens)) }

    by : (e : Ending) → Comes old (pause_after e (record { context = after; state = state_after ending state; left = None })) b
    by (Answers reply) = (rests, λ x tell opens. absurd (false≢true (sym shut ∙ opens)))
    by (Misses number) = (rests, λ x tell opens. absurd (false≢true (sym shut ∙ opens)))
    by Falls = (rests, λ x tell opens. absurd (false≢true (sym shut ∙ opens)))
    by Starves = rests

-- half of the global read lock is had only where no transaction is open
half-shut : (state : State) (global : ℕ) → half_lock state ≡ Some global → state.is_open ≡ false
half-shut state global is = by state.is_open is where
  by : (opened : Bool) → (if opened then None else lone_ticket state.read_lock) ≡ Some global → opened ≡ false
  by true e = absurd (cc)
  by false e = refl

-- to give the global read lock up opens no transaction, and locks no table
opens-same : (ending : Ending) (state : State) → (state_after ending (without_read_lock state)).is_open ≡ (state_after ending state).is_open
opens-same (Answers reply) state = refl
opens-same (Misses number) state = refl
opens-same Falls state = refl
opens-same Starves state = refl

unlocked-same : (ending : Ending) (state : State) → IsUnlocked state → IsUnlocked (state_after ending (without_read_lock state))
unlocked-same (Answers reply) state e = e
unlocked-same (Misses number) state e = e
unlocked-same Falls state e = λ opens. cc
unlocked-same Starves state e = e

pub leads-closing : (old : TableShown → Type 0) (live : Bool) (locks : List (ℕ × KeyName)) (seen : List TableShown) (mark : Mark) (a : Core) (session : Session)
    → Point old live locks seen mark a session.context session.state
    → (ending : Ending) → (live ≡ true → (x : TableShown) → TellsAt ending x → Contains seen x) → Leads (Comes old) (closing ending mark session) a
leads-closing old live locks seen mark a session point ending told = by (half_lock (state_after ending session.state)) refl
  where
    by : (half : Option ℕ) → half_lock (state_after ending session.state) ≡ half
        → Leads (Comes old) (without_half half ending mark (record session { left = None })) a
    by None is = leads-letting_go old live locks seen mark a (record session { left = None }) point ending told
    by (Some global) is =
        let state = without_read_lock session.state in
        let after : ContextView → Session = λ context. record { context = context; state = state; left = None } in
        let shut = opens-same ending session.state ∙ half-shut (state_after ending session.state) global is in
        leads-bind (λ (outcome : Outcome (Unit {0})) b. Fits b outcome.1 × (outcome.1.who ≡ session.context.who)) (Comes old)
        (releasing global session.context) (λ outcome. letting_go ending mark (after outcome.1)) a (leads-releasing a global session.context point.fits)
        (λ outcome b left. (
        let gone = gone_at ending state.is_open mark outcome.1.kept in
        leads-bind (λ (next : Outcome (Unit {0})) c. GaveUp b gone outcome.1 c next.1) (Comes old) (releasing_tickets gone outcome.1)
        (λ next. Give (pause_after ending (record { context = next.1; state = state_after ending state; left = None }))) b
        (leads-giving_up b gone outcome.1 left.0)
        (λ next c gave. came-shut old ending c next.1 state gave.fits (unlocked-same ending session.state point.unlocked) shut)))

pub tells_no_loss : (user : Bool) (how : Settled) (x : TableShown) → TellsAt (ending_of_loss user how) x → ⊥
tells_no_loss true settled.Timeout x tell = tell
tells_no_loss false settled.Timeout x tell = tell
tells_no_loss user settled.Killed x tell = tell
tells_no_loss true _ x tell = tell
tells_no_loss false _ x tell = tell

pub tells_no_refusal : (refusal : SpaceError) (x : TableShown) → TellsAt (ending_of_refusal refusal) x → ⊥
tells_no_refusal space.OutOfMemory x tell = tell
tells_no_refusal space.NoPlace x tell = tell
tells_no_refusal _ x tell = tell

pub tells_no_error : (error : ContextError) (x : TableShown) → TellsAt (ending_of_error error) x → ⊥
tells_no_error (Space refusal) x tell = tells_no_refusal refusal x tell
tells_no_error _ x tell = tell
