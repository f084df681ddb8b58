-- By its lemmas.
use Rattle.mdl_steps_laws.proofs.EntryEvents.{each_entry_tells_its_event, each_turn_adds_one_entry, entries_are_steps}
use Rattle.mdl_steps_laws.proofs.entries.each_entry_tells_its_event.Goals as goal

pub returns-clause-told : goal.returns-clause-told
returns-clause-told c = each_entry_tells_its_event

pub returns-clause-one : goal.returns-clause-one
returns-clause-one c = each_turn_adds_one_entry

pub returns-clause-steps : goal.returns-clause-steps
returns-clause-steps c = entries_are_steps
