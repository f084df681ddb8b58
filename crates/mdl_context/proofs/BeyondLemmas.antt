-- Which tickets go, by number, and runs that release them.
use Rattle.std.proofs.Common.{◌≡◌, ℕ, zero, suc, ◌<◌, Bool, true, false, List, [], ◌∷◌, ◌++◌, Option, Some, None, Ok, refl, sym, ap, ◌∙◌, subst, arith, drop}
use Rattle.std.specs.Prelude.{not, ◌&&◌, nat_le, map, filter, find, is_some, slice_get}
use Rattle.std.specs.Option.{option_map}
use Rattle.std.proofs.lemmas.Bool.Decides.{nat_tests}
use Rattle.mdl_key.specs.declared.mode.Duration.{Duration}
use Rattle.mdl_key.specs.declared.mode.Duration.TheVariants.{Statement, Transaction}
use Rattle.mdl_key.specs.Keys.{KeyName}
use Rattle.mdl_calls.specs.Words.{Answer, Done, Call, Release, SessionLocks, IsRising, is_number, holds, giving_up, Ask, Program, Runs}
use Rattle.mdl_calls.proofs.RunLemmas.{runs_bind}
use Rattle.mdl_context.specs.declared.context_error.ContextError.{ContextError}
use Rattle.mdl_context.specs.declared.kept.Kept.{Kept}
use Rattle.mdl_context.specs.declared.kept.Wanted.{Wanted}
use Rattle.mdl_context.specs.declared.request.Mark.{Mark}
use Rattle.mdl_context.specs.declared.going.Going.TheVariants.{From}
use Rattle.mdl_context.specs.Goings.{goes}
use Rattle.mdl_context.specs.Contexts.{ContextView, held_of, lasts, tickets_for, beyond, beyond_mark, newest_first, has_number, without_tickets, AreRising, Serves, wish_there, wish_here}
use Rattle.mdl_context.specs.Holdings.{without_number}
use Rattle.mdl_context.specs.Releases as releases
use Rattle.mdl_context.specs.Requests.{Outcome}
use Rattle.mdl_context.specs.Tidying.{tidied, tidying, unneeded, unpinning_all}
use Rattle.mdl_context.proofs.FrontLemmas.{Above, front, left-beyond, statement-gone, without-both}
use Rattle.mdl_context.proofs.TidyLemmas.{run-tidied}

-- the numbers of what a context keeps rise
pub rising-kept : (own : SessionLocks) (context : ContextView) → IsRising own → Serves own context → AreRising context.kept
rising-kept own context rising serves = rw serves.held at rising

-- ---- which tickets go

front-none : (q : Kept → Bool) (kept : List Kept) → front q 0 kept ≡ filter (λ t. not (q t)) kept
front-none q [] = refl
front-none q (t ∷ ts) = grind (arith, front-none q ts)

-- to keep those that don't pass is to be without those that do
pub others-without : (q : Kept → Bool) (kept : List Kept) → AreRising kept → filter (λ t. not (q t)) kept ≡ without_tickets (filter q kept) kept
others-without q kept rising = sym (left-beyond q 0 kept rising ∙ front-none q kept)

pub without-none : (kept : List Kept) → without_tickets [] kept ≡ kept
without-none [] = refl
without-none (t ∷ ts) = ap (λ xs. t ∷ xs) (without-none ts)

above-nth : (q : Kept → Bool) (n m first : ℕ) (xs : List Kept) → Above n xs → option_map (λ t. t.id) (slice_get (filter q xs) m) ≡ Some first → n < first
above-nth q n m first [] above nth = cc
above-nth q n zero first (x ∷ xs) above nth = grind (arith, nat_tests, above-nth q n zero first xs)
above-nth q n (suc m) first (x ∷ xs) above nth = grind (arith, nat_tests, above-nth q n m first xs, above-nth q n (suc m) first xs)

all-from : (q : Kept → Bool) (n : ℕ) (xs : List Kept) → Above n xs → filter (λ t. q t && nat_le n t.id) xs ≡ filter q xs
all-from q n [] above = refl
all-from q n (x ∷ xs) above = grind (arith, nat_tests, all-from q n xs)

-- those of a number on are those behind so many
pub from-nth : (q : Kept → Bool) (m first : ℕ) (xs : List Kept) → AreRising xs → option_map (λ t. t.id) (slice_get (filter q xs) m) ≡ Some first
    → filter (λ t. q t && nat_le first t.id) xs ≡ drop m (filter q xs)
from-nth q m first [] rising nth = cc
from-nth q zero first (x ∷ xs) rising nth = grind (arith, nat_tests, from-nth q zero first xs, all-from q x.id xs, above-nth q x.id zero first xs)
from-nth q (suc m) first (x ∷ xs) rising nth =
    grind (arith, nat_tests, from-nth q m first xs, from-nth q (suc m) first xs, above-nth q x.id m first xs, above-nth q x.id (suc m) first xs)

-- where there is none behind so many
pub none-nth : (xs : List Kept) (m : ℕ) → option_map (λ (t : Kept). t.id) (slice_get xs m) ≡ None → drop m xs ≡ []
none-nth [] zero none = refl
none-nth [] (suc m) none = refl
none-nth (x ∷ xs) zero none = cc
none-nth (x ∷ xs) (suc m) none = none-nth xs m none

-- by the number that a context finds
pub gone-beyond : (d : Duration) (m first : ℕ) (kept : List Kept) (nth : Option ℕ) → AreRising kept → nth ≡ option_map (λ t. t.id) (slice_get (tickets_for d kept) m) → nth ≡ Some first
    → filter (goes (From d first)) kept ≡ beyond d m kept
gone-beyond d m first kept nth rising found is = from-nth (lasts d) m first kept rising (sym found ∙ is)

pub kept-beyond : (d : Duration) (m first : ℕ) (kept : List Kept) (nth : Option ℕ) → AreRising kept → nth ≡ option_map (λ t. t.id) (slice_get (tickets_for d kept) m) → nth ≡ Some first
    → filter (λ t. not (goes (From d first) t)) kept ≡ without_tickets (beyond d m kept) kept
kept-beyond d m first kept nth rising found is =
    others-without (goes (From d first)) kept rising ∙ ap (λ gone. without_tickets gone kept) (gone-beyond d m first kept nth rising found is)

pub none-beyond : (d : Duration) (m : ℕ) (kept : List Kept) (nth : Option ℕ) → nth ≡ option_map (λ t. t.id) (slice_get (tickets_for d kept) m) → nth ≡ None → beyond d m kept ≡ []
none-beyond d m kept nth found is = none-nth (tickets_for d kept) m (sym found ∙ is)

-- a context is who, what, which places and which wait
pub same-context : (who : ℕ) (kept left : List Kept) (known knew : List (KeyName × ℕ)) (wait still : Option Wanted) → kept ≡ left → known ≡ knew → wait ≡ still →
    let before : ContextView = record { who = who; kept = kept; known = known; wait = wait } in
    let after : ContextView = record { who = who; kept = left; known = knew; wait = still } in
    before ≡ after
same-context who kept left known knew wait still k n w = cc

-- ---- a single ticket

-- what is kept is held
pub has-holds : (id : ℕ) (kept : List Kept) → is_some (find (is_number id) (map held_of kept)) ≡ has_number kept id
has-holds id [] = refl
has-holds id (t ∷ ts) = grind (arith, nat_tests, has-holds id ts)

pub held-without : (id : ℕ) (kept : List Kept) → filter (λ h. not (is_number id h)) (map held_of kept) ≡ map held_of (without_number id kept)
held-without id [] = refl
held-without id (t ∷ ts) = grind (arith, nat_tests, held-without id ts)

pub holds-kept : (id : ℕ) (own : SessionLocks) (context : ContextView) → Serves own context → has_number context.kept id ≡ true → holds id own ≡ true
holds-kept id own context serves has = ap (λ hs. is_some (find (is_number id) hs)) serves.held ∙ has-holds id context.kept ∙ has

pub serves-without : (id : ℕ) (own then : SessionLocks) (before after : ContextView) → Serves own before → then ≡ giving_up id own
    → after.kept ≡ without_number id before.kept → after.wait ≡ before.wait → Serves then after
serves-without id own then before after serves gone left still = record {
  held = ap (λ (o : SessionLocks). o.held) gone ∙ ap (filter (λ h. not (is_number id h))) serves.held ∙ held-without id before.kept ∙ sym (ap (map held_of) left);
  wait = ap (λ (o : SessionLocks). option_map wish_there o.wait) gone ∙ serves.wait ∙ sym (ap (option_map wish_here) still);
}

-- a context without a wait isn't refused for one
pub no-wait : (context : ContextView) → is_some context.wait ≡ false → releases.waiting_fault context ≡ None
no-wait context idle = rw idle

-- without those of the statement and then those of the transaction, beyond a mark
pub kept-since : (mark : Mark) (before between after : ContextView) → AreRising before.kept
    → between ≡ record before { kept = without_tickets (beyond Statement mark.statement before.kept) before.kept }
    → after ≡ record between { kept = without_tickets (beyond Transaction mark.transaction between.kept) between.kept }
    → after ≡ record before { kept = without_tickets (beyond_mark mark before.kept) before.kept }
kept-since mark before between after rising left_first left_second =
    let gone = beyond Statement mark.statement before.kept in
    let then_gone = beyond Transaction mark.transaction before.kept in
    let left = without_tickets gone before.kept in
    let same : beyond Transaction mark.transaction left ≡ then_gone = ap (drop mark.transaction) (statement-gone mark.statement before.kept rising) in
    let end : after ≡ record before { kept = without_tickets (beyond Transaction mark.transaction left) left } = rw left_first at left_second in
    end ∙ ap (λ (kept : List Kept). let context : ContextView = record before { kept = kept } in context)
    (ap (λ xs. without_tickets xs left) same ∙ sym (without-both gone then_gone before.kept))

-- ---- runs

module _ {S : Type 0} (joins : S → Call → Answer → S → Type 0) where
  -- two lists are released one after the other
  pub run-both : (who : ℕ) (xs ys : List Kept) (a mid b : S) → Runs joins a (releases.releasing_all who xs) tt mid → Runs joins mid (releases.releasing_all who ys) tt b
      → Runs joins a (releases.releasing_all who (xs ++ ys)) tt b
  run-both who [] ys a mid b (same, here) rest = subst (λ s. Runs joins s (releases.releasing_all who ys) tt b) (sym here) rest
  run-both who (x ∷ xs) ys a mid b (answer, after, step, run) rest = (answer, after, step, run-both who xs ys after mid b run rest)

  -- and then the context keeps the others, and lets go of the places where it has nothing
  pub run-given-up : (gone : List Kept) (before left after : ContextView) (a mid b : S) → Runs joins a (releases.releasing_all before.who gone) tt mid
      → left ≡ record before { kept = without_tickets gone before.kept } → Runs joins mid (unpinning_all left.who (unneeded left)) tt b
      → after ≡ tidied left → Runs joins a (releases.releasing_tickets gone before) (Ok tt, after) b
  run-given-up gone before left after a mid b run is tidy end =
      let then_left : ContextView = record before { kept = without_tickets gone before.kept } in
      runs_bind {A = Unit {0}} {B = Outcome (Unit {0})} joins (releases.releasing_all before.who gone) (λ _. tidying (Ok tt, then_left)) a mid b tt (Ok tt, after) run
      (subst (λ (context : ContextView). Runs joins mid (tidying (Ok tt, context)) (Ok tt, after) b) is (run-tidied joins (Ok tt) left after mid b tidy end))

  -- the same as tickets behind so many
  pub run-as : (who : ℕ) (gone going : List Kept) (a b : S) → gone ≡ going → Runs joins a (releases.releasing_all who gone) tt b → Runs joins a (releases.releasing_all who going) tt b
  run-as who gone going a b same run = subst (λ xs. Runs joins a (releases.releasing_all who xs) tt b) same run

  -- nothing is released
  pub run-none : (who : ℕ) (going : List Kept) (a : S) → going ≡ [] → Runs joins a (releases.releasing_all who going) tt a
  run-none who going a none = rw none (refl, refl)

  -- of the statement, and then of the transaction
  pub run-since : (mark : Mark) (before between : ContextView) (a mid b : S) → AreRising before.kept
      → Runs joins a (releases.releasing_all before.who (newest_first (beyond Statement mark.statement before.kept))) tt mid
      → between ≡ record before { kept = without_tickets (beyond Statement mark.statement before.kept) before.kept }
      → Runs joins mid (releases.releasing_all between.who (newest_first (beyond Transaction mark.transaction between.kept))) tt b
      → Runs joins a (releases.releasing_all before.who (beyond_mark mark before.kept)) tt b
  run-since mark before between a mid b rising first left_first second =
      let gone = beyond Statement mark.statement before.kept in
      let then_gone = beyond Transaction mark.transaction before.kept in
      let left = without_tickets gone before.kept in
      let same : beyond Transaction mark.transaction left ≡ then_gone = ap (drop mark.transaction) (statement-gone mark.statement before.kept rising) in
      let second_run : Runs joins mid (releases.releasing_all before.who (newest_first (beyond Transaction mark.transaction left))) tt b = rw left_first at second in
      run-both before.who (newest_first gone) (newest_first then_gone) a mid b first (run-as before.who _ (newest_first then_gone) mid b (ap newest_first same) second_run)

  -- what isn't refused is done
  pub run-unless : {A : Type 0} (fault : Option ContextError) (context : ContextView) (program : Program (Outcome A)) (a b : S) (reply : Outcome A) → fault ≡ None
      → Runs joins a program reply b → Runs joins a (releases.unless fault context program) reply b
  run-unless fault context program a b reply none run = rw none run

  -- a ticket is released, and then the context lets go of the places where it has nothing
  pub run-released : (id : ℕ) (before left after : ContextView) (a mid b : S) → has_number before.kept id ≡ true → is_some before.wait ≡ false
      → joins a (Release before.who id) Done mid → left ≡ record before { kept = without_number id before.kept }
      → Runs joins mid (unpinning_all left.who (unneeded left)) tt b → after ≡ tidied left → Runs joins a (releases.releasing id before) (Ok tt, after) b
  run-released id before left after a mid b held idle step is tidy end =
      let then_left : ContextView = record before { kept = without_number id before.kept } in
      let none : releases.release_fault id before ≡ None = rw held (no-wait before idle) in
      run-unless {A = Unit {0}} (releases.release_fault id before) before (Ask (Release before.who id) (λ _. tidying (Ok tt, then_left))) a b (Ok tt, after) none
      (Done, mid, step, subst (λ (context : ContextView). Runs joins mid (tidying (Ok tt, context)) (Ok tt, after) b) is (run-tidied joins (Ok tt) left after mid b tidy end))
