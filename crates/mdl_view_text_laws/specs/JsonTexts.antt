-- What a reader of JSON gets of a text, a number, a list and a record, after RFC 8259 as the kit's crate `json` defines its grammar.
use Rattle.std.specs.Prelude.{◌≡◌, ℕ, IsUtf8, suc, List, [], ◌∷◌, Option, Some, None, decimal, encode_utf8, flat_map, if◌then◌else◌}
use Rattle.std.specs.Str.{is_utf8}
use Rattle.json.specs.Json.{Json, document, null, number, string, array, object, Items, no_items, item, Members, no_members, member}
use Rattle.json.specs.Strict.{HasUniqueKeys}

-- a text is one of JSON with this value: it is UTF-8, the grammar reads it as the value, and no object in it has a key twice
pub record IsJson (text : List ℕ) (tree : Json) : Type 0 where
  pub utf8 : IsUtf8 text
  pub value : document text ≡ Some tree
  pub keys : HasUniqueKeys tree

-- a text is read as it is, if it is UTF-8. Otherwise each byte is read as the character of its number
abbrev pub text_read : List ℕ → List ℕ
text_read bytes = if is_utf8 bytes then bytes else flat_map encode_utf8 bytes

abbrev pub text_value : List ℕ → Json
text_value bytes = string (text_read bytes)

abbrev pub number_value : ℕ → Json
number_value n = number (decimal n)

abbrev pub option_value : Option ℕ → Json
option_value (Some n) = number_value n
option_value None = null

-- the values of elements, each with its place. The first has this one
abbrev pub items_value : {X : Type 0} → (ℕ → X → Json) → ℕ → List X → Items
items_value value place [] = no_items
items_value value place (x ∷ xs) = item (value place x) (items_value value (suc place) xs)

-- an array with a value for each element, in their order
abbrev pub array_value : {X : Type 0} → (ℕ → X → Json) → List X → Json
array_value value xs = array (items_value value 0 xs)

abbrev pub members_value : List (List ℕ × Json) → Members
members_value [] = no_members
members_value (m ∷ ms) = member m.0 m.1 (members_value ms)

-- an object with these members, in this order
abbrev pub object_value : List (List ℕ × Json) → Json
object_value ms = object (members_value ms)
