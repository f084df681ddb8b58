-- The lock space of one thread, by place and by session.
use Rattle.std.specs.Prelude.{ℕ, ◌-◌, Bool, not, ◌&&◌, ◌||◌, ◌==◌, nat_le, List, [], ◌∷◌, length, replicate, filter, find, position, slice_index_or, slice_set, Option, is_some, if◌then◌else◌}
use Rattle.std.specs.List.{list_any, range_with_len}
use Rattle.std.specs.Ordering.{is_lt}
use Rattle.mdl_key.specs.declared.mode.Mode.{Mode}
use Rattle.mdl_key.specs.Keys.{KeyName, key_eq, key_cmp, global_key}
use Rattle.mdl_book.specs.Books.{lock_kind, empty_book}
use Rattle.mdl_book.specs.Granting.{is_grantable}
use Rattle.mdl_book.specs.declared.book_view.BookView.{BookView}
use Rattle.mdl_defs.specs.declared.versioned_definition.VersionedDefinition.{VersionedDefinition}
use Rattle.mdl_calls.specs.Reads.{is_table_of}
use Rattle.mdl_calls.specs.SessionLocks.{is_pinned}
use Rattle.mdl_core.specs.Seats.{SeatView, empty_seat, locks_of_seat, with_pin, without_pin}

-- the space: the books of the places that have a key, from place 1, the seats of the sessions, from session 1, and the greatest
-- number of places
pub record Core : Type 0 where
  pub books : List BookView
  pub seats : List SeatView
  pub places : ℕ

-- the space of this number of places and sessions, before any call
abbrev pub empty_core : ℕ → ℕ → Core
empty_core places sessions = record { books = []; seats = replicate sessions empty_seat; places = places }

-- the book of a place
abbrev pub book_at : ℕ → Core → BookView
book_at place core = slice_index_or core.books (place - 1) (empty_book global_key)

-- the seat of a session
abbrev pub seat_at : ℕ → Core → SeatView
seat_at who core = slice_index_or core.seats (who - 1) empty_seat

-- whether a place has a key
abbrev pub has_key : ℕ → Core → Bool
has_key place core = nat_le 1 place && nat_le place (length core.books)

-- whether the space has a session of this number
abbrev pub has_session : ℕ → Core → Bool
has_session who core = nat_le 1 who && nat_le who (length core.seats)

-- whether a session pins a place
abbrev pub has_pin : ℕ → ℕ → Core → Bool
has_pin who place core = is_pinned place (locks_of_seat (seat_at who core))

-- the index of a key's book, if the key has one
abbrev pub index_of : KeyName → List BookView → Option ℕ
index_of key books = position (λ book. key_eq book.key key) books

-- the key of a place
abbrev pub key_at : ℕ → Core → KeyName
key_at place core = (book_at place core).key

-- the version and the definition of a place's key
abbrev pub standing_at : ℕ → Core → VersionedDefinition
standing_at place core = (book_at place core).standing

-- whether a place is in use: a session pins it, or its version isn't 0. A place that isn't can be given to another key: no session has anything there,
-- and no session met a definition there.
abbrev pub is_in_use : ℕ → Core → Bool
is_in_use place core = list_any (λ seat. is_pinned place (locks_of_seat seat)) core.seats || not ((standing_at place core).version == 0)

-- the least place that has a key and isn't in use, if there is one
abbrev pub unused_place : Core → Option ℕ
unused_place core = find (λ place. not (is_in_use place core)) (range_with_len 1 (length core.books))

-- whether a session's request for a lock can be granted now
abbrev pub is_free_for : ℕ → ℕ → Mode → Core → Bool
is_free_for who place mode core =
    let book = book_at place core in is_grantable (lock_kind book) book.granted book.waiting who mode

-- whether the key of one place comes before that of another
abbrev pub comes_before : Core → ℕ → ℕ → Bool
comes_before core one other = is_lt (key_cmp (key_at one core) (key_at other core))

-- the list with a place put before the first place whose key comes after its own, or at the end
abbrev pub put_in_order : Core → ℕ → List ℕ → List ℕ
put_in_order core place [] = place ∷ []
put_in_order core place (other ∷ others) =
    if comes_before core place other then place ∷ other ∷ others else other ∷ put_in_order core place others

-- these places in the order of their keys
abbrev pub places_in_key_order : Core → List ℕ → List ℕ
places_in_key_order core [] = []
places_in_key_order core (place ∷ places) = put_in_order core place (places_in_key_order core places)

-- whether a place's key is that of a table of this schema, and has a definition
abbrev pub has_defined_table : List ℕ → Core → ℕ → Bool
has_defined_table schema core place = is_table_of schema (key_at place core) && is_some (standing_at place core).definition

-- the places of a schema's tables that have a definition, in the order of their keys
abbrev pub table_places : List ℕ → Core → List ℕ
table_places schema core = places_in_key_order core (filter (has_defined_table schema core) (range_with_len 1 (length core.books)))

-- the space with another book at a place
abbrev pub booking : ℕ → BookView → Core → Core
booking place book core = record core { books = slice_set core.books (place - 1) book }

-- the space in which a place has another key, and nothing of what the old one had there
abbrev pub placing_at : ℕ → KeyName → Core → Core
placing_at place key core = booking place (empty_book key) core

-- the space with another seat for a session
abbrev pub seating : ℕ → SeatView → Core → Core
seating who seat core = record core { seats = slice_set core.seats (who - 1) seat }

-- the space in which a session pins a place
abbrev pub pinning : ℕ → ℕ → Core → Core
pinning who place core = seating who (with_pin place (seat_at who core)) core

-- the space in which a session no longer pins a place
abbrev pub unpinning : ℕ → ℕ → Core → Core
unpinning who place core = seating who (without_pin place (seat_at who core)) core
