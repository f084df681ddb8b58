-- What a kill and a look after a wait say is so.
use Rattle.std.proofs.Common.{◌≡◌, ◌↔◌, ℕ, Bool, true, false, not, ◌&&◌, Option, Some, None, is_some, if◌then◌else◌, option_map, refl, sym, ap, subst, ◌∙◌, inl, inr}
use Rattle.std.proofs.lemmas.Bool.Decides.{Decides-eqb}
use Rattle.mdl_calls.specs.declared.answers.Settled.TheVariants as settled_as
use Rattle.mdl_core.specs.declared.pending.Pending.{Pending}
use Rattle.mdl_calls.specs.Words.{Answer, Has_wait, Has_killed, Wait_of}
use Rattle.mdl_core.specs.CoreCalls.{wait_at, is_open_wait, kill_outcome}
use Rattle.mdl_core.specs.CoreJoins.{Joins}
use Rattle.mdl_core.specs.Cores.{Core, seat_at}
use Rattle.mdl_core.specs.Changes.{losing}
use Rattle.mdl_core.specs.SessionLaws.{WaitsUnsettled, KillsJustThatWait}
use Rattle.mdl_core.proofs.CallCases.{test_cases}
use Rattle.mdl_core.proofs.MadeCalls.{number-same, killed_wait}
use Rattle.mdl_core.proofs.SessionHas.{waits-somewhere}
use Rattle.mdl_core.proofs.SparedSeats.{wait-of_session}

-- what is so of a kill's answer and of what stands after it
abbrev Kills : Core → ℕ → ℕ → Answer × Core → Type 0
Kills a target number result =
    (killed : Bool) → result.0 ≡ Has_killed killed → ((killed ≡ true) ↔ WaitsUnsettled a target number) × (killed ≡ false → result.1 ≡ a)

-- an unsettled wait of the number is found open
pub found-open : (a : Core) (target number : ℕ) → WaitsUnsettled a target number → is_open_wait number (wait_at target a) ≡ true
found-open a target number waits =
    let wait : Pending = waits.1 in
    let found : wait_at target a ≡ Some wait = wait-of_session a target waits.0 ∙ waits.2 in
    ap (is_open_wait number) found
    ∙ (λ i. (Decides-eqb wait.number number).1 waits.3 i && not (is_some (waits.4 i)))

kills-so : (a : Core) (target number : ℕ) → Kills a target number (kill_outcome target number a)
kills-so a target number =
    test_cases (Kills a target number) (is_open_wait number (wait_at target a)) (Has_killed true, losing target settled_as.Killed a) (Has_killed false, a)
    (λ unsettled killed e. (
    let yes : true ≡ killed = cc in
    let h = killed_wait a target number unsettled in
    (((λ _. (h.1, h.0, h.2, h.3, h.4)), λ _. sym yes), λ no. (let f = yes ∙ no in cc))))
    (λ shut killed e. (
    let no : false ≡ killed = cc in
    (((λ yes. (let f = no ∙ yes in cc)), λ waits. (let f = sym shut ∙ found-open a target number waits in cc)), λ _. refl)))

-- the number that is told is that of the wait which is found
told : (a b : Core) (target : ℕ) (number : Option ℕ) → Joins a (Wait_of target) (Has_wait number) b
    → number ≡ option_map (λ (wait : Pending). wait.number) (wait_at target a)
told a b target number joins = elim joins.1 [ inl out ↦ (let e = out.0 in cc) | inr e ↦ is (ap (λ (r : Answer × Core). r.0) e) ]
  where
    is : Has_wait (option_map (λ (wait : Pending). wait.number) (wait_at target a)) ≡ Has_wait number
        → number ≡ option_map (λ (wait : Pending). wait.number) (wait_at target a)
    is e = cc

pub kills-just : KillsJustThatWait
kills-just = (
  (λ a b target number killed joins. elim joins.1 [
    | inl out ↦ (let e = out.0 in cc)
    | inr e ↦ subst (Kills a target number) e (kills-so a target number) killed refl
  ]),
  waits-somewhere,
  λ a b target number joins. (
    (λ is. told a b target number joins
        ∙ ap (λ (o : Option Pending). option_map (λ (wait : Pending). wait.number) o) (wait-of_session a target is)
        ∙ number-same (seat_at target a)),
    λ no. told a b target number joins ∙ ap (λ t. option_map (λ (wait : Pending). wait.number) (if t then (seat_at target a).wait else None)) no,
  ),
)
