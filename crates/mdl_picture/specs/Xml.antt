-- Well-formed elements, by the productions of W3C's "Extensible Markup Language (XML) 1.0" that pictures need.
use Rattle.std.specs.Prelude.{◌≡◌, ℕ, Bool, true, false, not, ◌&&◌, ◌||◌, ◌==◌, nat_eq, nat_le, List, [], ◌∷◌, ◌++◌, codes}
use Rattle.std.specs.List.{list_all, list_any, starts_with}
use Rattle.mdl_picture.specs.Svg.{is_printed}

-- a name: a letter, and letters and digits behind it (a part of production 5)
abbrev pub is_letter : ℕ → Bool
is_letter byte = (nat_le 65 byte && nat_le byte 90) || (nat_le 97 byte && nat_le byte 122)

abbrev pub is_digit : ℕ → Bool
is_digit byte = nat_le 48 byte && nat_le byte 57

abbrev pub is_name_byte : ℕ → Bool
is_name_byte byte = is_letter byte || is_digit byte

abbrev pub is_name : List ℕ → Bool
is_name [] = false
is_name (byte ∷ bytes) = is_letter byte && list_all is_name_byte bytes

-- a byte of an attribute's value (a part of production 10): no quote, and no markup
abbrev pub is_value_byte : ℕ → Bool
is_value_byte byte = is_printed byte && not (byte == 34 || byte == 38 || byte == 60)

-- attributes of these names (production 41), of which no two are alike
pub data AreAttributes : List (List ℕ) → List ℕ → Type 0 where
  none : AreAttributes [] []
  one_more : (name value : List ℕ) (names : List (List ℕ)) (others : List ℕ) → is_name name ≡ true → list_all is_value_byte value ≡ true
      → AreAttributes names others → AreAttributes (name ∷ names) (codes " " ++ name ++ codes "=\"" ++ value ++ codes "\"" ++ others)

abbrev pub are_alike : List ℕ → List ℕ → Bool
are_alike one other = starts_with nat_eq one other && starts_with nat_eq other one

abbrev pub are_distinct : List (List ℕ) → Bool
are_distinct [] = true
are_distinct (name ∷ names) = not (list_any (are_alike name) names) && are_distinct names

-- the tags of an element (productions 40 and 42)
abbrev pub start_of : List ℕ → List ℕ → List ℕ
start_of name attributes = codes "<" ++ name ++ attributes ++ codes ">"

abbrev pub end_of : List ℕ → List ℕ
end_of name = codes "</" ++ name ++ codes ">"

-- a valid name of an element with valid attributes
pub record IsTag (name attributes : List ℕ) : Type 0 where
  pub names : List (List ℕ)
  pub has_name : is_name name ≡ true
  pub has_attributes : AreAttributes names attributes
  pub has_distinct : are_distinct names ≡ true

-- a text as it is written, and the bytes that it stands for: bytes that are no markup (production 14), and references to those that would be
-- (production 67, and "Predefined Entities")
abbrev pub is_text_byte : ℕ → Bool
is_text_byte byte = (is_printed byte || byte == 10) && not (byte == 38 || byte == 60 || byte == 62)

pub data IsReference : List ℕ → ℕ → Type 0 where
  amp : IsReference (codes "&amp;") 38
  lt : IsReference (codes "&lt;") 60
  gt : IsReference (codes "&gt;") 62
  quot : IsReference (codes "&quot;") 34

pub data IsText : List ℕ → List ℕ → Type 0 where
  empty : IsText [] []
  byte : (byte : ℕ) (written said : List ℕ) → is_text_byte byte ≡ true → IsText written said → IsText (byte ∷ written) (byte ∷ said)
  reference : (name : List ℕ) (byte : ℕ) (written said : List ℕ) → IsReference name byte → IsText written said → IsText (name ++ written) (byte ∷ said)

-- the content of an element (production 43): texts and elements, one after the other
pub data IsContent : List ℕ → Type 0 where
  text : (written said : List ℕ) → IsText written said → IsContent written
  element : (name attributes content : List ℕ) → IsTag name attributes → IsContent content → IsContent (start_of name attributes ++ content ++ end_of name)
  both : (one other : List ℕ) → IsContent one → IsContent other → IsContent (one ++ other)

-- an element (production 39)
pub record IsElement (written : List ℕ) : Type 0 where
  pub name : List ℕ
  pub attributes : List ℕ
  pub content : List ℕ
  pub tag : IsTag name attributes
  pub within : IsContent content
  pub is : written ≡ start_of name attributes ++ content ++ end_of name
