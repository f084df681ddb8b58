-- The bytes that are left, added to what was read so far, give the line.
use Rattle.std.proofs.Common.{◌≡◌, ◌+◌, drop}
use Rattle.mdl_client_table.specs.Json.{with_bytes}
use Rattle.mdl_client_table.proofs.json_reading.Json.add_line.Given as goal

abbrev pub invariant-loop-byte : goal.invariant-loop-byte
invariant-loop-byte l = record {
  counted : l.column ≡ l.byte-index + 1;
  read : with_bytes l.number l.column (drop l.byte-index l.line) l.self ≡ with_bytes l.number 1 l.line l.fn.self;
}
