-- Byte by byte.
use Rattle.mdl_client_table.proofs.EscapeLemmas.{name_back}
use Rattle.mdl_client_table.proofs.laws.names_come_back.Goals as goal

pub returns : goal.returns
returns c = λ name. name_back name
