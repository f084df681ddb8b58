-- The threads, the keys and the classes of rows left out, in order of their first rows. The order is this project's own choice.
use Rattle.std.specs.Prelude.{ℕ, ◌+◌, Bool, ◌&&◌, nat_eq, List, [], ◌∷◌, ◌++◌, map, fold, count_by, position, if◌then◌else◌}
use Rattle.std.specs.List.{list_any}
use Rattle.std.specs.Option.{option_map_or}
use Rattle.mdl_lock_rows.specs.declared.row.Row.{Row}
use Rattle.mdl_lock_rows.specs.declared.row.OtherRow.{OtherRow}
use Rattle.mdl_lock_rows.specs.declared.row_class.LeftOut.{LeftOut}
use Rattle.mdl_lock_rows.specs.Classes.{ClassName, same_class}
use Rattle.mdl_lock_rows.specs.Keys.{KeyNames, same_key}
use Rattle.mdl_lock_rows.specs.Owners.{OwnerView, described_by}

-- a list with an element appended, unless the list has the same one already
abbrev pub with_new : {A : Type 0} → (A → A → Bool) → List A → A → List A
with_new same known one = if list_any (same one) known then known else known ++ one ∷ []

-- the elements of a list, each once, in order of their first occurrences
abbrev pub each_once : {A : Type 0} → (A → A → Bool) → List A → List A
each_once same list = fold (with_new same) [] list

-- the thread of a row
abbrev pub thread_of_row : Row → ℕ
thread_of_row row = row.owner.thread

-- the threads of rows
abbrev pub threads_of : List Row → List ℕ
threads_of rows = each_once nat_eq (map thread_of_row rows)

-- what rows say of these threads
abbrev pub owners_among : List Row → List ℕ → List OwnerView
owners_among rows threads = map (described_by (map (λ row. row.owner) rows)) threads

-- the threads of rows, with what the rows say of them
abbrev pub owners_of : List Row → List OwnerView
owners_of rows = owners_among rows (threads_of rows)

-- the number of a thread among these, counted from 1, or 0 if it is none of them
abbrev pub number_of : List ℕ → ℕ → ℕ
number_of threads thread = option_map_or (λ place. place + 1) (position (nat_eq thread) threads) 0

-- the locked keys
abbrev pub keys_of : List Row → List KeyNames
keys_of rows = each_once same_key (map (λ row. row.key) rows)

-- whether a row that is left out is of a class, and whether it waits
abbrev pub is_of_class : ClassName → OtherRow → Bool
is_of_class class row = same_class class row.class

abbrev pub waits_in_class : ClassName → OtherRow → Bool
waits_in_class class row = same_class class row.class && row.is_waiting

-- a class, with the number of these rows that are of it, and how many of them wait
abbrev pub counted_among : List OtherRow → ClassName → LeftOut
counted_among rows class = record { class = class; count = count_by (is_of_class class) rows; waiting = count_by (waits_in_class class) rows }

-- how many rows are left out of each class
abbrev pub left_out_of : List OtherRow → List LeftOut
left_out_of rows = map (counted_among rows) (each_once same_class (map (λ row. row.class) rows))

-- ---- representations

-- one more row of a class, which waits or not
abbrev pub with_one : Bool → LeftOut → LeftOut
with_one is_waiting left_out = record left_out { count = left_out.count + 1; waiting = left_out.waiting + (if is_waiting then 1 else 0) }
