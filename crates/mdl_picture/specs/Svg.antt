-- Pictures as text: a part of W3C's "Scalable Vector Graphics (SVG) 1.1", written by the productions of "Extensible Markup Language (XML) 1.0".
use Rattle.std.specs.Prelude.{ℕ, Bool, ◌&&◌, ◌==◌, nat_le, List, [], ◌∷◌, ◌++◌, codes, flat_map, if◌then◌else◌}
use Rattle.std.specs.Fmt.{decimal}
use Rattle.mdl_picture.specs.declared.svg.Attribute.{Attribute}
use Rattle.mdl_picture.specs.declared.svg.Attribute.TheVariants.{Class, HatchId, HeadId, Height, MarkerHeight, MarkerUnits, MarkerWidth, Namespace, Orient, PatternUnits, RefX, RefY, Role, Stripes, Tip, ViewBox, Width, X, X1, X2, Y, Y1, Y2}
use Rattle.mdl_picture.specs.declared.svg.Tag.{Tag}
use Rattle.mdl_picture.specs.declared.svg.Tag.TheVariants.{G, Line, Marker, Path, Pattern, Rect, Style, Svg, Text, Title}
use Rattle.mdl_picture.specs.Kinds.{kind_name}

-- the name of an element
abbrev pub tag_name : Tag → List ℕ
tag_name Svg = codes "svg"
tag_name Title = codes "title"
tag_name Style = codes "style"
tag_name Pattern = codes "pattern"
tag_name Marker = codes "marker"
tag_name G = codes "g"
tag_name Rect = codes "rect"
tag_name Line = codes "line"
tag_name Path = codes "path"
tag_name Text = codes "text"

-- the name of an attribute
abbrev pub attribute_name : Attribute → List ℕ
attribute_name Namespace = codes "xmlns"
attribute_name (ViewBox width height) = codes "viewBox"
attribute_name Role = codes "role"
attribute_name HatchId = codes "id"
attribute_name HeadId = codes "id"
attribute_name (Class kind) = codes "class"
attribute_name PatternUnits = codes "patternUnits"
attribute_name MarkerUnits = codes "markerUnits"
attribute_name (MarkerWidth width) = codes "markerWidth"
attribute_name (MarkerHeight height) = codes "markerHeight"
attribute_name (RefX x) = codes "refX"
attribute_name (RefY y) = codes "refY"
attribute_name Orient = codes "orient"
attribute_name Stripes = codes "d"
attribute_name Tip = codes "d"
attribute_name (X x) = codes "x"
attribute_name (Y y) = codes "y"
attribute_name (Width width) = codes "width"
attribute_name (Height height) = codes "height"
attribute_name (X1 x) = codes "x1"
attribute_name (Y1 y) = codes "y1"
attribute_name (X2 x) = codes "x2"
attribute_name (Y2 y) = codes "y2"

-- the value of an attribute
abbrev pub attribute_value : Attribute → List ℕ
attribute_value Namespace = codes "http://www.w3.org/2000/svg"
attribute_value (ViewBox width height) = codes "0 0 " ++ decimal width ++ codes " " ++ decimal height
attribute_value Role = codes "img"
attribute_value HatchId = codes "hatch"
attribute_value HeadId = codes "head"
attribute_value (Class kind) = kind_name kind
attribute_value PatternUnits = codes "userSpaceOnUse"
attribute_value MarkerUnits = codes "userSpaceOnUse"
attribute_value (MarkerWidth width) = decimal width
attribute_value (MarkerHeight height) = decimal height
attribute_value (RefX x) = decimal x
attribute_value (RefY y) = decimal y
attribute_value Orient = codes "auto"
attribute_value Stripes = codes "M-2 2l4-4M0 8l8-8M6 10l4-4"
attribute_value Tip = codes "M0 0l10 5-10 5z"
attribute_value (X x) = decimal x
attribute_value (Y y) = decimal y
attribute_value (Width width) = decimal width
attribute_value (Height height) = decimal height
attribute_value (X1 x) = decimal x
attribute_value (Y1 y) = decimal y
attribute_value (X2 x) = decimal x
attribute_value (Y2 y) = decimal y

-- an attribute, in the tag that begins an element
abbrev pub attribute_text : Attribute → List ℕ
attribute_text attribute = codes " " ++ attribute_name attribute ++ codes "=\"" ++ attribute_value attribute ++ codes "\""

-- the tags that begin and end an element. A line feed follows each end
unfoldable pub start_tag : Tag → List Attribute → List ℕ
start_tag tag attributes = codes "<" ++ tag_name tag ++ flat_map attribute_text attributes ++ codes ">"

unfoldable pub end_tag : Tag → List ℕ
end_tag tag = codes "</" ++ tag_name tag ++ codes ">\n"

-- a byte of a text: what could be markup is an entity, and what isn't printed in ASCII a question mark
abbrev pub is_printed : ℕ → Bool
is_printed byte = nat_le 32 byte && nat_le byte 126

abbrev pub escaped_byte : ℕ → List ℕ
escaped_byte byte =
    if byte == 38 then codes "&amp;" else (if byte == 60 then codes "&lt;" else (if byte == 62 then codes "&gt;"
    else (if byte == 34 then codes "&quot;" else (if is_printed byte then byte ∷ [] else codes "?"))))

abbrev pub escaped : List ℕ → List ℕ
escaped text = flat_map escaped_byte text

-- a shape: an element without other elements
pub record Shape : Type 0 where
  pub tag : Tag
  pub attributes : List Attribute
  pub text : List ℕ

unfoldable pub shape_text : Shape → List ℕ
shape_text shape = start_tag shape.tag shape.attributes ++ escaped shape.text ++ end_tag shape.tag

-- an element of a picture: a shape, or shapes that belong together
pub data Node : Type 0 where
  alone : Shape → Node
  group : Tag → List Attribute → List Shape → Node

abbrev pub node_text : Node → List ℕ
node_text (alone shape) = shape_text shape
node_text (group tag attributes shapes) = start_tag tag attributes ++ flat_map shape_text shapes ++ end_tag tag

-- a picture of this width and this height
abbrev pub svg_attributes : ℕ → ℕ → List Attribute
svg_attributes width height = Namespace ∷ Width width ∷ Height height ∷ ViewBox width height ∷ Role ∷ []

abbrev pub svg_text : ℕ → ℕ → List Node → List ℕ
svg_text width height nodes = start_tag Svg (svg_attributes width height) ++ flat_map node_text nodes ++ end_tag Svg
