-- Two keys of one namespace, with names that are cut at one place, are equal if and only if the names are.
use Rattle.std.proofs.Common.{arith, rules, ap, sym, ◌∙◌}
use Rattle.std.specs.String.{string_bytes}
use Rattle.std.proofs.lemmas.Bool.Decides.{nat_tests}
use Rattle.mdl_key.proofs.NameLemmas.{cut-equal}
use Rattle.mdl_key.proofs.key.KeyPartialEq.eq.Goals as goal

pub returns-then-self-other : goal.returns-then-self-other
returns-then-self-other c =
    let parts = cut-equal c.self.inside.cut (string_bytes c.self.inside.names) (string_bytes c.other.inside.names) in
    rw (← c.self.view_is, ← c.other.view_is) (grind (arith, nat_tests, rules))
