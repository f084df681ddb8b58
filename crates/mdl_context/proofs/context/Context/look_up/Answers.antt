-- To ask for a place changes no ticket, and then the place is known. If nothing is got there, it is let go of, and the context is as it was.
use Rattle.std.proofs.Common.{rules, ◌≡◌, false, true, None, ℕ, [], ◌∷◌, ◌++◌, inr, inl, refl, sym, ap, ◌∙◌, subst}
use Rattle.mdl_calls.specs.Words.{At_place, Grow, Refused, Resolve, Runs, is_pinned}
use Rattle.mdl_calls.proofs.FaithfulLemmas.{each_reply}
use Rattle.mdl_calls.proofs.PinLemmas.{pinned-told}
use Rattle.mdl_context.specs.Contexts.{ContextView, Attends, is_known_place, place_known}
use Rattle.mdl_context.specs.Holdings.{context_of}
use Rattle.mdl_context.specs.Requests.{HasWhatItHad, acquiring_at, finding, got_lock, remembering, starved}
use Rattle.mdl_context.specs.Tidying.{IsTidy, unpinning_all}
use Rattle.mdl_context.specs.Wishes.{wish_of_request}
use Rattle.mdl_context.proofs.AttendLemmas.{attends-knows, attends-resolved, attends-learnt, known-last, known-place, pinned-resolved, still-known-place}
use Rattle.mdl_context.proofs.BeyondLemmas.{same-context}
use Rattle.mdl_context.proofs.GainLemmas.{refused-for}
use Rattle.mdl_context.proofs.JustLemmas.{pinned-same}
use Rattle.mdl_context.proofs.LetGoLemmas.{attends-forgetting, attends-let_go, debts-let_go, had-let_go, had-refused, tidy-had, tidy-known}
use Rattle.mdl_context.proofs.LookUpLemmas.{got-lock, lost-lock, on-err, run-got, run-let_go, so-lost}
use Rattle.mdl_context.proofs.StayTidyLemmas.{tidy-finding}
use Rattle.mdl_context.proofs.TidyLemmas.{debts-run}
use Rattle.mdl_context.proofs.context.Context.look_up.Given.{Over}
use Rattle.mdl_context.proofs.context.Context.look_up.Goals as goal
use Rattle.mdl_context.proofs.context.Context.look_up.Goals.{After-gain_at-result, After-let_go, After-terms, After-unpin, In-Err, In-Ok}

-- ---- no place is given to the key

refused : (g : Over) (c : In-Err g)
    → g.S.LockSpace.joins c.args.space.now (Resolve c.args.self.now.who c.args.request.key.now) (Refused c.in-Err.refusal) c.resolve.new.self
refused g c =
    let same : c.self.inside.who ≡ c.args.self.now.who = ap (λ (v : ContextView). v.who) c.self.view_is in
    rw (same, c.in-Err.is) at c.resolve.ensures

pub returns-in-Err-clause-attends : goal.returns-in-Err-clause-attends
returns-in-Err-clause-attends g c =
    attends-resolved g.S.LockSpace g.met.S.LockSpace.laws _ _ c.args.request.key.now _ c.args.self.now c.requires.attends (refused g c)

pub returns-in-Err-clause-own : goal.returns-in-Err-clause-own
returns-in-Err-clause-own g c =
    had-refused g.S.LockSpace g.met.S.LockSpace.laws _ _ c.args.self.now.who c.args.request.key.now c.in-Err.refusal (refused g c)

pub returns-in-Err-clause-tidy : goal.returns-in-Err-clause-tidy
returns-in-Err-clause-tidy g c =
    let laws = g.met.S.LockSpace.laws in
    tidy-had g.S.LockSpace laws c.args.space.now c.resolve.new.self c.args.self.now c.args.self.now
    (λ place owes. laws.no_new_debts _ _ _ _ _ place c.requires.attends.speaks (refused g c) owes) c.args.request.key.now refl (returns-in-Err-clause-own g c)

pub returns-in-Err-clause-placed : goal.returns-in-Err-clause-placed
returns-in-Err-clause-placed g c e = (
  c.requires.new,
  subst (λ why. g.S.LockSpace.joins c.args.space.now (Resolve c.args.self.now.who c.args.request.key.now) (Refused why) c.resolve.new.self)
      (refused-for _ c.in-Err.refusal refl e) (refused g c),
)

-- ---- a place is given to it

resolved : (g : Over) (c : In-Ok g)
    → g.S.LockSpace.joins c.args.space.now (Resolve c.args.self.now.who c.args.request.key.now) (At_place c.in-Ok.place) c.resolve.new.self
resolved g c =
    let same : c.self.inside.who ≡ c.args.self.now.who = ap (λ (v : ContextView). v.who) c.self.view_is in
    rw (same, c.in-Ok.is) at c.resolve.ensures

attended : (g : Over) (c : In-Ok g) → Attends g.S.LockSpace c.resolve.new.self c.args.self.now
attended g c =
    attends-resolved g.S.LockSpace g.met.S.LockSpace.laws _ _ c.args.request.key.now _ c.args.self.now c.requires.attends (resolved g c)

-- ---- it can't be remembered

forgotten : (g : Over) (c : After-unpin g) → context_of c.self.inside.who c.remember.new.self ≡ c.args.self.now
forgotten g c =
    let forgot : c.remember.new.self.known ≡ c.self.inside.holdings.known = search rules in
    same-context c.self.inside.who _ _ _ _ _ _ c.remember.ensures.kept forgot c.remember.ensures.wait ∙ c.self.view_is

unpinned : (g : Over) (c : After-unpin g) → Runs g.S.LockSpace.joins c.resolve.new.self (unpinning_all c.args.self.now.who (c.in-Ok.place ∷ [])) _ c.unpin.new.space
unpinned g c =
    let same : c.self.inside.who ≡ c.args.self.now.who = ap (λ (v : ContextView). v.who) c.self.view_is in
    rw same at c.unpin.ensures.run

pub returns-then-is_err-clause-attends : goal.returns-then-is_err-clause-attends
returns-then-is_err-clause-attends g c =
    let laws = g.met.S.LockSpace.laws in
    let ok = (goal.at.returns-then-is_err-clause-attends g c).In-Ok in
    subst (Attends g.S.LockSpace c.unpin.new.space) (sym (forgotten g c))
    (attends-let_go g.S.LockSpace laws c.resolve.new.self c.args.self.now c.args.request.key.now c.in-Ok.place (attended g ok)
    (laws.resolves _ _ _ _ _ (resolved g ok)) c.requires.new c.unpin.new.space (unpinned g c))

pub returns-then-is_err-clause-own : goal.returns-then-is_err-clause-own
returns-then-is_err-clause-own g c =
    let laws = g.met.S.LockSpace.laws in
    let step = resolved g (goal.at.returns-then-is_err-clause-own g c).In-Ok in
    had-let_go g.S.LockSpace laws c.args.space.now c.resolve.new.self c.resolve.new.self c.unpin.new.space c.args.self.now c.args.request.key.now c.in-Ok.place
    c.requires.attends c.requires.new step refl (laws.keeps _ _ _ _ _ c.requires.attends.speaks step) (λ p owes. owes) (unpinned g c)

pub returns-then-is_err-clause-tidy : goal.returns-then-is_err-clause-tidy
returns-then-is_err-clause-tidy g c =
    let laws = g.met.S.LockSpace.laws in
    let step = resolved g (goal.at.returns-then-is_err-clause-tidy g c).In-Ok in
    tidy-had g.S.LockSpace laws c.args.space.now c.unpin.new.space c.args.self.now (context_of c.self.inside.who c.remember.new.self)
    (debts-let_go g.S.LockSpace laws c.args.space.now c.resolve.new.self c.resolve.new.self c.unpin.new.space c.args.self.now c.args.request.key.now
    c.in-Ok.place c.requires.attends c.requires.new step refl (laws.keeps _ _ _ _ _ c.requires.attends.speaks step) (λ p owes. owes) (unpinned g c))
    c.args.request.key.now (forgotten g c) (returns-then-is_err-clause-own g c)

-- ---- it is remembered

remembered : (g : Over) (c : After-terms g) → context_of c.self.inside.who c.remember.new.self ≡ remembering c.args.request.key.now c.in-Ok.place c.args.self.now
remembered g c =
    let key = c.args.request.key.now in
    let learnt : c.remember.new.self.known ≡ c.self.inside.holdings.known ++ (key, c.in-Ok.place) ∷ [] = search rules in
    same-context c.self.inside.who _ _ _ _ _ _ c.remember.ensures.kept learnt c.remember.ensures.wait ∙ ap (remembering key c.in-Ok.place) c.self.view_is

pub gain_at-result-requires-clause-attends : goal.gain_at-result-requires-clause-attends
gain_at-result-requires-clause-attends g c =
    let laws = g.met.S.LockSpace.laws in
    let ok = (goal.at.gain_at-result-requires-clause-attends g c).In-Ok in
    attends-learnt c.resolve.new.self c.args.request.key.now c.in-Ok.place c.args.self.now _ (attended g ok) (laws.resolves _ _ _ _ _ (resolved g ok))
    (pinned-resolved g.S.LockSpace laws _ _ _ _ _ (resolved g ok)) (remembered g c)

pub gain_at-result-requires-clause-known : goal.gain_at-result-requires-clause-known
gain_at-result-requires-clause-known g c =
    let key = c.args.request.key.now in
    known-place key _ c.in-Ok.place
    (ap (λ (v : ContextView). place_known key v.known) (remembered g c) ∙ known-last key c.args.self.now.known c.in-Ok.place c.requires.new)

-- the request at the place, for which it was looked up
gained : (g : Over) (c : After-gain_at-result g)
    → context_of c.self.inside.who c.remember.new.self ≡ remembering c.args.request.key.now c.in-Ok.place c.args.self.now
    → Runs g.S.LockSpace.joins c.resolve.new.self (acquiring_at c.in-Ok.place (wish_of_request c.args.request) (remembering c.args.request.key.now c.in-Ok.place c.args.self.now))
    (c.gain_at-result.result, c.gain_at-result.new.self) c.gain_at-result.new.space
gained g c is =
    subst (λ (context : ContextView). Runs g.S.LockSpace.joins c.resolve.new.self (acquiring_at c.in-Ok.place (wish_of_request c.args.request) context)
    (c.gain_at-result.result, c.gain_at-result.new.self) c.gain_at-result.new.space) is
    ((rw c.terms.ensures at c.gain_at-result.ensures.run) c.args.request.key.now refl)

-- ---- nothing is got there

lost : (g : Over) (c : After-let_go g) → got_lock c.gain_at-result.result ≡ false
lost g c = lost-lock c.gain_at-result.result (sym c.is_err-2.ensures.value ∙ c.if-is_err-2.true)

kept : (g : Over) (c : After-let_go g) → context_of c.self.inside.who c.remember.new.self ≡ remembering c.args.request.key.now c.in-Ok.place c.args.self.now
    → c.gain_at-result.new.self ≡ remembering c.args.request.key.now c.in-Ok.place c.args.self.now
kept g c is = so-lost c.gain_at-result.result (lost g c) c.gain_at-result.ensures.unchanged ∙ is

let_go : (g : Over) (c : After-let_go g) → c.gain_at-result.new.self ≡ remembering c.args.request.key.now c.in-Ok.place c.args.self.now
    → Runs g.S.LockSpace.joins c.gain_at-result.new.space (unpinning_all c.args.self.now.who (c.in-Ok.place ∷ [])) _ c.let_go.new.space
let_go g c is =
    let same : c.gain_at-result.new.self.who ≡ c.args.self.now.who = ap (λ (v : ContextView). v.who) is in
    rw same at c.let_go.ensures.run

pub returns-then-is_err-2-clause-run : goal.returns-then-is_err-2-clause-run
returns-then-is_err-2-clause-run g c =
    let at = goal.at.returns-then-is_err-2-clause-run g c in
    let is = remembered g at.After-terms in
    let back : c.let_go.new.self ≡ c.args.self.now = c.let_go.ensures.forgotten c.args.request.key.now c.args.self.now (kept g c is) in
    let request = wish_of_request c.args.request in
    let looked_up = remembering c.args.request.key.now c.in-Ok.place c.args.self.now in
    subst (λ (context : ContextView). Runs g.S.LockSpace.joins c.args.space.now (finding None request c.args.self.now) (c.gain_at-result.result, context) c.let_go.new.space)
    (sym back) (
      At_place c.in-Ok.place,
      c.resolve.new.self,
      resolved g at.In-Ok,
      run-let_go g.S.LockSpace.joins got_lock c.in-Ok.place c.args.self.now (Grow (starved c.args.self.now) (acquiring_at c.in-Ok.place request looked_up))
          c.gain_at-result.result c.gain_at-result.new.self c.resolve.new.self c.gain_at-result.new.space c.let_go.new.space
          (inr (gained g at.After-gain_at-result is)) (lost g c) (let_go g c (kept g c is)),
    )

pub returns-then-is_err-2-clause-attends : goal.returns-then-is_err-2-clause-attends
returns-then-is_err-2-clause-attends g c =
    let laws = g.met.S.LockSpace.laws in
    let key = c.args.request.key.now in
    let place = c.in-Ok.place in
    let is = kept g c (remembered g (goal.at.returns-then-is_err-2-clause-attends g c).After-terms) in
    let there : Attends g.S.LockSpace c.gain_at-result.new.space (remembering key place c.args.self.now) =
    subst (Attends g.S.LockSpace c.gain_at-result.new.space) is c.gain_at-result.ensures.attends in
    let knows = attends-knows {members = g.S.LockSpace} c.gain_at-result.new.space (remembering key place c.args.self.now) c.args.self.now.who place key there refl
    (known-last key c.args.self.now.known place c.requires.new) in
    subst (Attends g.S.LockSpace c.let_go.new.space) (sym (c.let_go.ensures.forgotten key c.args.self.now is))
    (attends-let_go g.S.LockSpace laws c.gain_at-result.new.space c.args.self.now key place
    (attends-forgetting g.S.LockSpace laws c.args.space.now c.gain_at-result.new.space key place c.args.self.now c.requires.attends there) knows c.requires.new
    c.let_go.new.space (let_go g c is))

-- what the session has of the request at the place, where it got nothing
had : (g : Over) (c : After-let_go g) (is : context_of c.self.inside.who c.remember.new.self ≡ remembering c.args.request.key.now c.in-Ok.place c.args.self.now)
    (run : Runs g.S.LockSpace.joins c.resolve.new.self (acquiring_at c.in-Ok.place (wish_of_request c.args.request) (remembering c.args.request.key.now c.in-Ok.place c.args.self.now))
    (c.gain_at-result.result, c.gain_at-result.new.self) c.gain_at-result.new.space)
    → g.S.LockSpace.joins c.args.space.now (Resolve c.args.self.now.who c.args.request.key.now) (At_place c.in-Ok.place) c.resolve.new.self
    → HasWhatItHad g.S.LockSpace c.args.self.now.who c.args.request.key.now c.args.space.now c.let_go.new.space
    × ((p : ℕ) → g.S.LockSpace.owes c.let_go.new.space c.args.self.now.who p → g.S.LockSpace.owes c.args.space.now c.args.self.now.who p)
had g c is run step =
    let laws = g.met.S.LockSpace.laws in
    let key = c.args.request.key.now in
    let place = c.in-Ok.place in
    let who = c.args.self.now.who in
    let same : c.self.inside.who ≡ who = ap (λ (v : ContextView). v.who) c.self.view_is in
    let own = rw same at (so-lost c.gain_at-result.result (lost g c) c.gain_at-result.ensures.own) in
    let there = subst (Attends g.S.LockSpace c.gain_at-result.new.space) (kept g c is) c.gain_at-result.ensures.attends in
    let speaks = laws.keeps _ _ _ _ _ c.requires.attends.speaks step in
    let debts = debts-run g.S.LockSpace laws (acquiring_at place (wish_of_request c.args.request) (remembering key place c.args.self.now)) c.resolve.new.self
    c.gain_at-result.new.space (c.gain_at-result.result, c.gain_at-result.new.self) who speaks run in (
      had-let_go g.S.LockSpace laws c.args.space.now c.resolve.new.self c.gain_at-result.new.space c.let_go.new.space c.args.self.now key place c.requires.attends
          c.requires.new step own there.speaks debts (let_go g c (kept g c is)),
      debts-let_go g.S.LockSpace laws c.args.space.now c.resolve.new.self c.gain_at-result.new.space c.let_go.new.space c.args.self.now key place c.requires.attends
          c.requires.new step own there.speaks debts (let_go g c (kept g c is)),
    )

pub returns-then-is_err-2-clause-own : goal.returns-then-is_err-2-clause-own
returns-then-is_err-2-clause-own g c =
    let at = goal.at.returns-then-is_err-2-clause-own g c in
    let is = remembered g at.After-terms in
    on-err c.gain_at-result.result (had g c is (gained g at.After-gain_at-result is) (resolved g at.In-Ok)).0

pub returns-then-is_err-2-clause-tidy : goal.returns-then-is_err-2-clause-tidy
returns-then-is_err-2-clause-tidy g c =
    let at = goal.at.returns-then-is_err-2-clause-tidy g c in
    let is = remembered g at.After-terms in
    let has = had g c is (gained g at.After-gain_at-result is) (resolved g at.In-Ok) in
    tidy-had g.S.LockSpace g.met.S.LockSpace.laws c.args.space.now c.let_go.new.space c.args.self.now c.let_go.new.self has.1 c.args.request.key.now
    (c.let_go.ensures.forgotten c.args.request.key.now c.args.self.now (kept g c is)) has.0

-- ---- or the lock, or a wait for it

pub returns-else-is_err-2-clause-run : goal.returns-else-is_err-2-clause-run
returns-else-is_err-2-clause-run g c =
    let at = goal.at.returns-else-is_err-2-clause-run g c in
    let is = remembered g at.After-terms in
    let request = wish_of_request c.args.request in
    let looked_up = remembering c.args.request.key.now c.in-Ok.place c.args.self.now in (
      At_place c.in-Ok.place,
      c.resolve.new.self,
      resolved g at.In-Ok,
      run-got g.S.LockSpace.joins got_lock c.in-Ok.place c.args.self.now (Grow (starved c.args.self.now) (acquiring_at c.in-Ok.place request looked_up))
          c.gain_at-result.result c.gain_at-result.new.self c.resolve.new.self c.gain_at-result.new.space (inr (gained g at.After-gain_at-result is))
          (got-lock c.gain_at-result.result (sym c.is_err-2.ensures.value ∙ c.if-is_err-2.false)),
    )

pub returns-else-is_err-2-clause-tidy : goal.returns-else-is_err-2-clause-tidy
returns-else-is_err-2-clause-tidy g c =
    let at = goal.at.returns-else-is_err-2-clause-tidy g c in
    let laws = g.met.S.LockSpace.laws in
    let key = c.args.request.key.now in
    let place = c.in-Ok.place in
    let before = c.args.self.now in
    let is = remembered g at.After-terms in
    let step = resolved g at.In-Ok in
    let same : c.self.inside.who ≡ before.who = ap (λ (v : ContextView). v.who) c.self.view_is in
    let known = c.gain_at-result.ensures.known ∙ ap (λ (v : ContextView). v.known) is in
    let debts = debts-run g.S.LockSpace laws (finding None (wish_of_request c.args.request) before) c.args.space.now c.gain_at-result.new.space
    (c.gain_at-result.result, c.gain_at-result.new.self) before.who c.requires.attends.speaks (returns-else-is_err-2-clause-run g c) in
    tidy-known g.S.LockSpace laws c.args.space.now c.gain_at-result.new.space before c.gain_at-result.new.self debts c.requires.attends
    (c.gain_at-result.ensures.who ∙ same)
    (λ tidy. each_reply g.S.LockSpace.joins (λ outcome. IsTidy outcome.1) (finding None (wish_of_request c.args.request) before) c.args.space.now c.gain_at-result.new.space
    (c.gain_at-result.result, c.gain_at-result.new.self) (tidy-finding None (wish_of_request c.args.request) before tidy c.requires.idle)
    (returns-else-is_err-2-clause-run g c))
    (λ so p pinned.
    let then : is_pinned p (g.S.LockSpace.own c.resolve.new.self before.who) ≡ true =
    sym (pinned-same (g.S.LockSpace.own c.resolve.new.self before.who) (g.S.LockSpace.own c.gain_at-result.new.space before.who) p (rw same at c.gain_at-result.ensures.pins)) ∙ pinned in
    ap (λ known. is_known_place known p) known
    ∙ elim (pinned-told p place (g.S.LockSpace.own c.args.space.now before.who) (ap (is_pinned p) (sym (laws.changes _ _ _ _ before.who refl step)) ∙ then)) [
      | inl here ↦ rw here (known-place key (before.known ++ (key, place) ∷ []) place (known-last key before.known place c.requires.new))
      | inr was ↦ still-known-place before.known (key, place) p (so p was)
    ])
