-- Keys in their order, and the tickets of keys that were locked one after the other.
use Rattle.std.specs.Prelude.{ℕ, List, [], ◌∷◌, get_or, position, Option, Some, None}
use Rattle.std.specs.declared.cmp.Ordering.{Ordering}
use Rattle.std.specs.declared.cmp.Ordering.TheVariants.{Less, Equal, Greater}
use Rattle.mdl_key.specs.Keys.{KeyName, key_cmp, key_eq}

-- a key put before the first of these keys or after it, or left out if it equals the first
abbrev pub put : KeyName → Ordering → KeyName → List KeyName → List KeyName → List KeyName
put key Less other others behind = key ∷ other ∷ others
put key Equal other others behind = other ∷ others
put key Greater other others behind = other ∷ behind

-- a key inserted at its place among ordered keys, unless it is there
abbrev pub inserted_in_order : KeyName → List KeyName → List KeyName
inserted_in_order key [] = key ∷ []
inserted_in_order key (other ∷ others) = put key (key_cmp key other) other others (inserted_in_order key others)

-- keys inserted at their places, one after the other
abbrev pub placed_all : List KeyName → List KeyName → List KeyName
placed_all [] among = among
placed_all (key ∷ keys) among = placed_all keys (inserted_in_order key among)

-- keys in their order, each once
abbrev pub in_key_order : List KeyName → List KeyName
in_key_order keys = placed_all keys []

-- the ticket at an index, or 0, which is no ticket, if there is none
abbrev pub ticket_at : Option ℕ → List ℕ → ℕ
ticket_at None tickets = 0
ticket_at (Some at) tickets = get_or tickets at 0

-- the ticket of a key, if these keys were locked one after the other with these tickets
abbrev pub locked_ticket : KeyName → List KeyName → List ℕ → ℕ
locked_ticket key keys tickets = ticket_at (position (key_eq key) keys) tickets
