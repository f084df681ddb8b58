-- The keys that have places, each with its place.
use Rattle.std.specs.Prelude.{◌≡◌, ℕ, ◌+◌, List, Option}
use Rattle.std.specs.Map.{lookup}
use Rattle.std.specs.Option.{option_map}
use Rattle.mdl_key.specs.Keys.{KeyName, key_eq}
use Rattle.mdl_book.specs.declared.book_view.BookView.{BookView}
use Rattle.mdl_core.specs.Cores.{index_of}

-- the place of a key, if it has one
abbrev pub place_of : KeyName → List BookView → Option ℕ
place_of key books = option_map (λ index. index + 1) (index_of key books)

-- the map of known keys is right: it has each key that has a place, with that place, and no others
pub record TellsPlaces (known : List (KeyName × ℕ)) (books : List BookView) : Type 0 where
  pub tells : (key : KeyName) → lookup (key_eq key) known ≡ place_of key books
