-- The shapes of a picture.
use Rattle.std.specs.Prelude.{ℕ, List, [], ◌∷◌}
use Rattle.mdl_picture.specs.declared.kind.Kind.{Kind}
use Rattle.mdl_picture.specs.declared.svg.Attribute.{Attribute}
use Rattle.mdl_picture.specs.declared.svg.Attribute.TheVariants.{Class, Height, Width, X, X1, X2, Y, Y1, Y2}
use Rattle.mdl_picture.specs.declared.svg.Tag.TheVariants.{G, Line, Path, Rect, Text, Title}
use Rattle.mdl_picture.specs.Svg.{Node, Shape, group}

-- what is shown when the pointer rests on the shapes of a group
abbrev pub title : List ℕ → Shape
title text = record { tag = Title; attributes = []; text = text }

-- a box, with its upper left corner and its size
abbrev pub rect : Kind → ℕ → ℕ → ℕ → ℕ → Shape
rect kind x y width height = record { tag = Rect; attributes = Class kind ∷ X x ∷ Y y ∷ Width width ∷ Height height ∷ []; text = [] }

-- a line from one point to another
abbrev pub line : Kind → ℕ → ℕ → ℕ → ℕ → Shape
line kind x1 y1 x2 y2 = record { tag = Line; attributes = Class kind ∷ X1 x1 ∷ Y1 y1 ∷ X2 x2 ∷ Y2 y2 ∷ []; text = [] }

-- words whose baseline begins at this point
abbrev pub words : Kind → ℕ → ℕ → List ℕ → Shape
words kind x y text = record { tag = Text; attributes = Class kind ∷ X x ∷ Y y ∷ []; text = text }

-- an outline
abbrev pub path : Kind → Attribute → Shape
path kind outline = record { tag = Path; attributes = Class kind ∷ outline ∷ []; text = [] }

-- shapes with a title
abbrev pub titled : List ℕ → List Shape → Node
titled text shapes = group G [] (title text ∷ shapes)
