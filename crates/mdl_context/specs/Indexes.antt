-- A session's tickets by place: the numbers of those at each place.
use Rattle.std.specs.Prelude.{ℕ, ◌-◌, Bool, not, true, false, ◌&&◌, ◌==◌, nat_lt, List, [], ◌∷◌, filter, length, slice_get, take, Option, Some, None}
use Rattle.std.specs.List.{list_all}

-- the numbers of a place's tickets, and how many fit without an allocation
pub record NumberList : Type 0 where
  pub items : List ℕ
  pub capacity : ℕ

-- for each place the numbers of its tickets
abbrev pub Index : Type 0
Index = List NumberList

-- the numbers in a list, if there is one
abbrev pub listed_numbers : Option NumberList → List ℕ
listed_numbers None = []
listed_numbers (Some list) = list.items

-- the numbers at a place
abbrev pub ticket_numbers : ℕ → Index → List ℕ
ticket_numbers place index = listed_numbers (slice_get index place)

-- whether a list has room for one more number
abbrev pub has_space : NumberList → Bool
has_space list = nat_lt (length list.items) list.capacity

-- whether there is a list with room for one more number
abbrev pub has_place : Option NumberList → Bool
has_place None = false
has_place (Some list) = has_space list

-- whether there is room for one more number at a place
abbrev pub has_room_for : ℕ → Index → Bool
has_room_for place index = has_place (slice_get index place)

-- whether each number is below all later ones
abbrev pub rises : List ℕ → Bool
rises [] = true
rises (n ∷ later) = list_all (nat_lt n) later && rises later

-- the numbers without one
abbrev pub without_one : ℕ → List ℕ → List ℕ
without_one id numbers = filter (λ n. not (n == id)) numbers

-- the numbers without the last one
abbrev pub without_last : List ℕ → List ℕ
without_last numbers = take (length numbers - 1) numbers
