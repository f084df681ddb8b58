-- Each turn grants one waiter, as long as there is one that can be granted.
use Rattle.std.proofs.Common.{◌≡◌, sym, ap, ◌∙◌, arith}
use Rattle.mdl_book.specs.declared.book_view.BookView.{BookView}
use Rattle.mdl_core.specs.Cores.{Core, book_at}
use Rattle.mdl_space.proofs.ServingLemmas.{no_more, key-stays, book_here, turn_done, turns_end, turns_over, all_turns}
use Rattle.mdl_space.proofs.core_space.CoreSpace.serve.Goals as goal

pub returns-then-waiting-eq0 : goal.returns-then-waiting-eq0
returns-then-waiting-eq0 c =
    let lists : c.index.result.now ≡ book_at c.args.place c.args.self.now =
    book_here c.args.self.now _ c.args.place c.from.result c.index.result.now (ap (λ (core : Core). core.books) c.self.view_is) c.requires c.from.ensures c.index.ensures in
    sym (no_more c.args.place c.args.self.now)
    ∙ all_turns c.args.place c.args.self.now _ 0 (c.waiting-waiting.ensures ∙ ap (λ (k : BookView). k.waiting) lists) (sym c.if-waiting-eq0.true)

pub loop-turn-init : goal.loop-turn-init
loop-turn-init c =
    let lists : c.index.result.now ≡ book_at c.args.place c.args.self.now =
    book_here c.args.self.now _ c.args.place c.from.result c.index.result.now (ap (λ (core : Core). core.books) c.self.view_is) c.requires c.from.ensures c.index.ensures in
    record {
      rest = all_turns c.args.place c.args.self.now _ _ (c.waiting-waiting.ensures ∙ ap (λ (k : BookView). k.waiting) lists) (omega arith);
      key = c.requires;
      told = c.unsettled_waiters-unsettled.ensures;
    }

pub loop-turn-preserved : goal.loop-turn-preserved
loop-turn-preserved c = record {
  rest = turn_done _ c.loop-turn._turn c.args.place c.loop-turn.self c.serve_next.new.self _ c.loop-turn-test.true c.loop-turn.invariant.rest c.serve_next.ensures.served;
  key = rw c.serve_next.ensures.served (key-stays c.args.place c.args.place _ c.loop-turn.self ∙ c.loop-turn.invariant.key);
  told = c.serve_next.ensures.unsettled;
}

pub returns-then-not-serve_next : goal.returns-then-not-serve_next
returns-then-not-serve_next c =
    turns_end _ c.args.place c.loop-turn.self c.serve_next.new.self _ c.loop-turn.invariant.rest c.serve_next.ensures.served
    (sym c.if-not-serve_next.true ∙ c.serve_next.ensures.found)

pub returns : goal.returns
returns c = turns_over _ c.loop-turn._turn c.args.place c.loop-turn.self _ c.loop-turn-test.false c.loop-turn.invariant.rest
