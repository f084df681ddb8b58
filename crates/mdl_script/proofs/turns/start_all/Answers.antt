-- One session more each time.
use Rattle.std.proofs.Common.{◌≡◌, ◌∙◌, ◌≢◌, sym, lit≤, true, ap, arith, refl}
use Rattle.std.specs.Prelude.{vec_items}
use Rattle.mdl_script.specs.Turns.{has_pass}
use Rattle.mdl_script.proofs.StartLemmas.{each_named, started_all, started_as, started_more, started_none, started_past}
use Rattle.mdl_script.proofs.turns.start_all.Goals.{then-contains+in_ok-start_turn+in_ok-push, else-contains}
use Rattle.mdl_script.proofs.turns.start_all.Goals as goal

pub loop-who-init : goal.loop-who-init
loop-who-init g c = started_as _ _ _ _ _ _ _ _ _ _ (started_none _ _ _ _ _ c.requires.theirs) c.new-turns.ensures.items refl

pub start_turn-requires-clause-theirs : goal.start_turn-requires-clause-theirs
start_turn-requires-clause-theirs g c κs within = c.loop-who.invariant.theirs

pub start_turn-requires-clause-there : goal.start_turn-requires-clause-there
start_turn-requires-clause-there g c κs within differs =
    let all = c.args.passes.now.items in let who = c.loop-who.who in
    let named = c.contains.ensures ∙ c.named_sessions-named.ensures who c.loop-who.auto.who (omega (arith, c.loop-who-test.true)) in
    c.loop-who.invariant.left who (omega arith)
    ∙ each_named (λ other. other ≢ c.args.mine → has_pass all other ≡ true) c.args.run.now.script.now who c.requires.there
    (sym named ∙ c.if-contains.true) c.loop-who.auto.who c.loop-who-test.true differs

pub loop-who-preserved : goal.loop-who-preserved
loop-who-preserved g c =
    let named = c.contains.ensures ∙ c.named_sessions-named.ensures c.loop-who.who c.loop-who.auto.who (omega (arith, c.loop-who-test.true)) in
    elim c.if-contains.branch [
      | then-contains+in_ok-start_turn+in_ok-push w ↦
          let turn = w.in_ok-start_turn.ensures in
          started_as _ _ _ _ _ _ _ _ _ _
          (started_more _ _ _ _ _ c.loop-who.who c.loop-who.turns.items c.loop-who.passes.items w.start_turn.new.passes.items w.in_ok-start_turn.field-0
          c.loop-who.invariant c.loop-who.auto.who (sym named ∙ w.if-contains.true) turn.who turn.turn turn.sent turn.theirs turn.others)
          (ap vec_items w.turns-is ∙ w.in_ok-push.ensures.items) (ap vec_items w.passes-is)
      | else-contains w ↦
          started_as _ _ _ _ _ _ _ _ _ _
          (started_past _ _ _ _ _ c.loop-who.who c.loop-who.turns.items c.loop-who.passes.items
          c.loop-who.invariant c.loop-who.auto.who (sym named ∙ w.if-contains.false))
          (ap vec_items w.turns-is) (ap vec_items w.passes-is)
    ]

pub returns-clause-sessions : goal.returns-clause-sessions
returns-clause-sessions g c =
    started_all _ _ _ _ _ c.loop-who.who c.loop-who.turns.items c.loop-who.passes.items c.loop-who.invariant c.loop-who-test.false (c.loop-who.auto.who-end (lit≤ tt))

pub returns-clause-turns : goal.returns-clause-turns
returns-clause-turns g c = c.loop-who.invariant.are_turns

pub returns-clause-sent : goal.returns-clause-sent
returns-clause-sent g c = c.loop-who.invariant.sent
