-- The closure tells the keys that are known from the others.
use Rattle.std.proofs.Common.{rules}
use Rattle.std.proofs.lemmas.Fn.{filter_same}
use Rattle.mdl_visits.proofs.known_keys.keep_unknown.Goals as goal

pub returns-clause-kept : goal.returns-clause-kept
returns-clause-kept c = filter_same _ _ _ (λ x b f' k. search rules) _ _ c.retain.ensures.filtered
