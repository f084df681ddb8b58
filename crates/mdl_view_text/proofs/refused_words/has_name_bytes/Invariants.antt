-- All before this one may stand there.
use Rattle.std.proofs.Common.{◌≡◌, drop}
use Rattle.std.specs.List.{list_all}
use Rattle.mdl_view_text.specs.Explanations.{is_of_names}
use Rattle.mdl_view_text.proofs.refused_words.has_name_bytes.Given as goal

abbrev pub invariant-loop-byte : goal.invariant-loop-byte
invariant-loop-byte l = list_all is_of_names (drop l.byte-index l.word) ≡ list_all is_of_names l.word
