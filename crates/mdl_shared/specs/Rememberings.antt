-- The versions that a session noted under its tickets as it read them.
use Rattle.std.specs.Prelude.{◌≡◌, List, [], ◌∷◌}
use Rattle.mdl_shared.specs.Prelude.{Each, SessionTicket}

-- the tickets of a place have the same note
abbrev pub AreAlike : List SessionTicket → Type 0
AreAlike [] = Unit {0}
AreAlike (t ∷ later) = Each (λ (x : SessionTicket). x.place ≡ t.place → x.noted ≡ t.noted) later × AreAlike later
