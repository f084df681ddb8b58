-- By its lemmas.
use Rattle.mdl_steps_laws.proofs.NotesKept.{free_in_order, reads_stand}
use Rattle.mdl_steps_laws.proofs.Staying.{definitions_stay, hits_note, notes_stay, readings_note, versions_note}
use Rattle.mdl_steps_laws.proofs.headline.definitions_stay.Goals as goal

pub returns-clause-free : goal.returns-clause-free
returns-clause-free c = free_in_order

pub returns-clause-kept : goal.returns-clause-kept
returns-clause-kept c = notes_stay

pub returns-clause-noted : goal.returns-clause-noted
returns-clause-noted c = readings_note

pub returns-clause-stands : goal.returns-clause-stands
returns-clause-stands c = reads_stand

pub returns-clause-until : goal.returns-clause-until
returns-clause-until c = definitions_stay

pub returns-clause-versions : goal.returns-clause-versions
returns-clause-versions c = versions_note

pub returns-clause-hits : goal.returns-clause-hits
returns-clause-hits c = hits_note
