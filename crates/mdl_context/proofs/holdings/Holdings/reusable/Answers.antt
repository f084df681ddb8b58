-- What can be used again suffices.
use Rattle.std.proofs.Common.{◌≡◌, None, sym, rules}
use Rattle.mdl_context.specs.Holdings.{earliest}
use Rattle.mdl_context.specs.Terms.{meets}
use Rattle.mdl_context.proofs.PlaceLemmas.{none-again}
use Rattle.mdl_context.proofs.holdings.Holdings.reusable.Goals as goal

pub returns-then-is_none : goal.returns-then-is_none
returns-then-is_none c =
    let none : earliest (meets c.args.place c.args.terms.now) c.args.self.now.kept ≡ None = search rules in
    sym (none-again c.args.place c.args.terms.now c.args.self.now.kept none)
