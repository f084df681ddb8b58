-- The quotes that are left open or close what is open so far.
use Rattle.std.proofs.Common.{◌≡◌, drop}
use Rattle.mdl_client_table.specs.Commas.{is_quote_open}
use Rattle.mdl_client_table.proofs.commas.is_quote_open.Given as goal

abbrev pub invariant-loop-byte : goal.invariant-loop-byte
invariant-loop-byte l = is_quote_open l.is_open (drop l.byte-index l.text) ≡ is_quote_open l.was l.text
