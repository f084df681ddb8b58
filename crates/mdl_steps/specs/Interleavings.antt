-- Two lists of a session's tickets merged into one. A session gives its tickets rising numbers, so their order by number is the order in which the
-- session got them.
use Rattle.std.specs.Prelude.{nat_lt, List, [], ◌∷◌, if◌then◌else◌}
use Rattle.mdl_steps.specs.declared.view.SessionTicket.{SessionTicket}

-- the tickets with one more, put before the first that has a greater number
abbrev pub inserted : SessionTicket → List SessionTicket → List SessionTicket
inserted t [] = t ∷ []
inserted t (u ∷ more) = if nat_lt t.number u.number then t ∷ u ∷ more else u ∷ inserted t more

-- the tickets of two lists merged, in order of their numbers if each list is in that order
abbrev pub interleaved : List SessionTicket → List SessionTicket → List SessionTicket
interleaved slow [] = slow
interleaved slow (f ∷ fast) = interleaved (inserted f slow) fast
