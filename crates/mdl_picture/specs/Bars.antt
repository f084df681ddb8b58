-- The waits of a picture: each from the box where it begins to the next box of its statement.
use Rattle.std.specs.Prelude.{ℕ, Bool, true, false, ◌==◌, List, [], ◌∷◌, ◌++◌, find, if◌then◌else◌}
use Rattle.std.specs.Option.{option_map}
use Rattle.mdl_picture.specs.declared.bars.Bar.{Bar}
use Rattle.mdl_picture.specs.declared.layout.Column.{Column}
use Rattle.mdl_picture.specs.declared.moment.Fate.{Fate}
use Rattle.mdl_picture.specs.declared.moment.Fate.TheVariants.{Waits}
use Rattle.mdl_picture.specs.Boxes.{Box}

-- whether an event leaves its statement waiting
abbrev pub is_wait : Fate → Bool
is_wait Waits = true
is_wait fate = false

-- whether a box belongs to the statement of this line
abbrev pub is_of_line : ℕ → Box → Bool
is_of_line line box = box.event.line == line

-- the line at which a box is drawn, and its x coordinate
abbrev pub place_of : Box → Column
place_of box = record { line = box.line; x = box.x }

-- the wait that begins at a box, before these later ones
abbrev pub bar_from : Box → List Box → Bar
bar_from box later = record {
  line = box.event.line;
  session = box.event.session;
  x = box.right;
  settled = option_map place_of (find (is_of_line box.event.line) later);
}

abbrev pub bars_from : Box → List Box → List Bar
bars_from box later = if is_wait box.event.fate then bar_from box later ∷ [] else []

-- the waits that begin at these boxes
abbrev pub bars_of : List Box → List Bar
bars_of [] = []
bars_of (box ∷ later) = bars_from box later ++ bars_of later
