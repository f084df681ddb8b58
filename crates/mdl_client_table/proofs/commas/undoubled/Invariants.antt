-- The bytes so far, and those of the rest, are the text.
use Rattle.std.proofs.Common.{◌≡◌, ◌++◌, false, drop}
use Rattle.mdl_client_table.specs.Commas.{undoubled_from}
use Rattle.mdl_client_table.proofs.commas.undoubled.Given as goal

abbrev pub invariant-loop-byte : goal.invariant-loop-byte
invariant-loop-byte l = l.one.items ++ undoubled_from l.follows (drop l.byte-index l.text) ≡ undoubled_from false l.text
