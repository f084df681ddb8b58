-- The classes of rows that are left out.
use Rattle.std.specs.Prelude.{ℕ, Bool, ◌&&◌, List}
use Rattle.mdl_lines.specs.Words.{same_text}

-- a class: an object type and a lock type, as they are in the text
pub record ClassName : Type 0 where
  pub object_type : List ℕ
  pub lock_type : List ℕ

-- the class with the object type and the lock type of two fields
abbrev pub class_of : List ℕ → List ℕ → ClassName
class_of object_type lock_type = record { object_type = object_type; lock_type = lock_type }

-- whether two classes are the same
abbrev pub same_class : ClassName → ClassName → Bool
same_class one other = same_text one.object_type other.object_type && same_text one.lock_type other.lock_type
