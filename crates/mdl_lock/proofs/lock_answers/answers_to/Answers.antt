-- Each turn adds what comes of one command.
use Rattle.std.proofs.Common.{◌+◌, refl, sym, ap, ◌∙◌, subst}
use Rattle.mdl_key.specs.Modes.{kind_of}
use Rattle.mdl_book.specs.Granting.{IsLawful}
use Rattle.mdl_lock.specs.Answers.{Lock}
use Rattle.mdl_lock.specs.Locks.{lock_of}
use Rattle.mdl_lock.specs.Output.{ForgetsNobody}
use Rattle.mdl_lock.proofs.ForgottenLemmas.{forgets_nobody_throughout}
use Rattle.mdl_lock.proofs.LawfulLemmas.{lawful_throughout}
use Rattle.mdl_lock.proofs.OrderLemmas.{orderly_free}
use Rattle.mdl_lock.proofs.RunLemmas.{told_so_far, left_so_far}
use Rattle.mdl_lock.proofs.lock_answers.answers_to.Goals as goal

pub returns-in_err-key_of-clause-lawful : goal.returns-in_err-key_of-clause-lawful
returns-in_err-key_of-clause-lawful c = lawful_throughout _ _

pub returns-in_err-obey-clause-lawful : goal.returns-in_err-obey-clause-lawful
returns-in_err-obey-clause-lawful c = lawful_throughout _ _

pub returns-clause-lawful : goal.returns-clause-lawful
returns-clause-lawful c = lawful_throughout _ _

pub returns-in_err-key_of-clause-none_forgotten : goal.returns-in_err-key_of-clause-none_forgotten
returns-in_err-key_of-clause-none_forgotten c = forgets_nobody_throughout _ _

pub returns-in_err-obey-clause-none_forgotten : goal.returns-in_err-obey-clause-none_forgotten
returns-in_err-obey-clause-none_forgotten c = forgets_nobody_throughout _ _

pub returns-clause-none_forgotten : goal.returns-clause-none_forgotten
returns-clause-none_forgotten c = forgets_nobody_throughout _ _

pub obey-requires-clause-none_forgotten : goal.obey-requires-clause-none_forgotten
obey-requires-clause-none_forgotten c =
    let book = c.loop-command.book in
    let so = c.loop-command.invariant in
    let nobody = forgets_nobody_throughout c.args.kind c.args.commands.now c.loop-command.command-index in
    subst (λ k. ForgetsNobody k (lock_of book)) (sym so.kind) (subst (ForgetsNobody c.args.kind) (sym so.left) nobody)

pub loop-command-init : goal.loop-command-init
loop-command-init c = rw c.new-book.ensures (record {
  told = c.new-text.ensures.bytes;
  left = refl;
  kind = c.in_ok-key_of.ensures.kind;
  orderly = orderly_free;
  lawful = refl;
})

pub loop-command-preserved : goal.loop-command-preserved
loop-command-preserved c =
    let book = c.loop-command.book in
    let kind = c.args.kind in
    let commands = c.args.commands.now in
    let i = c.loop-command.command-index in
    let so = c.loop-command.invariant in
    let left = left_so_far kind commands i _ book (lock_of c.obey.new.book) c.loop-command-test.true so.kind so.left c.in_ok-obey.ensures.left in
    record {
      told = told_so_far kind commands i _ book _ _ c.loop-command-test.true so.kind so.left so.told c.in_ok-obey.ensures.told;
      left = left;
      kind = ap (λ key. kind_of key.namespace) c.in_ok-obey.ensures.key ∙ so.kind;
      orderly = c.in_ok-obey.ensures.orderly;
      lawful = subst (λ (lock : Lock). IsLawful kind lock.granted) (sym left) (lawful_throughout kind commands (i + 1));
    }
