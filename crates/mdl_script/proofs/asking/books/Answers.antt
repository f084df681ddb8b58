-- An audit leaves no debt.
use Rattle.mdl_script.proofs.ThreadLemmas.{still_paid}
use Rattle.mdl_script.proofs.asking.books.Goals as goal

pub returns-in-Ok-clause-paid : goal.returns-in-Ok-clause-paid
returns-in-Ok-clause-paid g c = still_paid c.args.asker.now c.audit.new.self c.audit.ensures.debts c.requires.paid

pub returns-in-Err-clause-paid : goal.returns-in-Err-clause-paid
returns-in-Err-clause-paid g c = still_paid c.args.asker.now c.audit.new.self c.audit.ensures.debts c.requires.paid
