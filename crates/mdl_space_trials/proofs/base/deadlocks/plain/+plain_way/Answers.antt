-- Each next session by a lemma: it leads nowhere, or on.
use Rattle.std.proofs.Common.{◌≡◌, ◌+◌, ◌∙◌, ◌<◌, length, sym, subst, arith, List, take, inl, inr, Option, Vec, Global, ℕ}
use Rattle.std.specs.Option.{option_map}
use Rattle.std.proofs.lemmas.List.{take_all}
use Rattle.mdl_space_trials.specs.base.deadlocks.Ways.{search_of, IsWayBy, IsChosenOf}
use Rattle.mdl_space_trials.proofs.base.deadlocks.WayLemmas.{all_tried, step_dead, step_on}
use Rattle.mdl_space_trials.proofs.base.deadlocks.plain.+plain_way.Goals.{then-waits-2+then-not-contains+in_ok-longer+in_ok-way+in_ok-best, else-waits-2, else-waits-2-via-then-waits-2+else-not-contains, else-waits-2-via-else-waits-2}
use Rattle.mdl_space_trials.proofs.base.deadlocks.plain.+plain_way.Goals as goal

pub loop-next-preserved : goal.loop-next-preserved
loop-next-preserved t c =
    let i = c.loop-next.next-index in
    let ties = c.args.ties.now in
    let sessions = c.args.sessions.now in
    let path = c.args.path.now in
    let inside : i < length sessions = omega arith in
    let kept = λ (best : Option (Vec ℕ Global)).
    IsChosenOf (IsWayBy (search_of ties sessions path) path c.args.last c.args.most (take (i + 1) sessions)) (option_map (λ way. way.items) best) in
    elim c.if-waits-2.branch [
      | then-waits-2+then-not-contains+in_ok-longer+in_ok-way+in_ok-best w ↦
          subst kept (sym w.best-is) (step_on ties sessions path c.args.last c.args.most i _ _ _ _ inside c.requires (omega arith)
          (sym c.waits-in-loop-next.ensures ∙ w.if-waits-2.true) (sym w.contains.ensures.value ∙ w.if-not-contains.true)
          (w.deref.ensures.value ∙ w.in_ok-longer.ensures) w.in_ok-way.ensures w.in_ok-best.ensures c.loop-next.invariant)
      | else-waits-2 w ↦ elim w.else-waits-2.branch [
        | else-waits-2-via-then-waits-2+else-not-contains w' ↦
            subst kept (sym w.best-is) (step_dead ties sessions path c.args.last c.args.most i _ inside
            (inr (sym w'.contains.ensures.value ∙ w'.if-not-contains.false)) c.loop-next.invariant)
        | else-waits-2-via-else-waits-2 w' ↦
            subst kept (sym w.best-is) (step_dead ties sessions path c.args.last c.args.most i _ inside
            (inl (sym c.waits-in-loop-next.ensures ∙ w'.if-waits-2.false)) c.loop-next.invariant)
      ]
    ]

pub returns : goal.returns
returns t c =
    let search = search_of c.args.ties.now c.args.sessions.now c.args.path.now in
    let all : take c.loop-next.next-index c.args.sessions.now ≡ c.args.sessions.now = take_all c.loop-next.next-index c.args.sessions.now (omega arith) in
    all_tried search c.args.path.now c.args.last c.args.most (sym c.waits.ensures ∙ c.if-waits.false) _
    (subst (λ (nexts : List ℕ). IsChosenOf (IsWayBy search c.args.path.now c.args.last c.args.most nexts) (option_map (λ way. way.items) c.loop-next.best))
    all c.loop-next.invariant)
