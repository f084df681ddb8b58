-- What happens at the lines of a script, as a picture shows it.
use Rattle.std.specs.Prelude.{ℕ, List}
use Rattle.mdl_picture.specs.declared.moment.Fate.{Fate}

-- a lock that a session holds: its mode, as `SR`, and its name, as `TABLE test.orders`
pub record HeldView : Type 0 where
  pub session : ℕ
  pub mode : List ℕ
  pub lock : List ℕ

-- what happens to a statement at a moment, and the locks that sessions hold right after it
pub record EventView : Type 0 where
  pub line : ℕ
  pub session : ℕ
  pub statement : List ℕ
  pub answer : List ℕ
  pub fate : Fate
  pub in_the_way : List ℕ
  pub held : List HeldView

-- what happens at a line
pub record MomentView : Type 0 where
  pub line : ℕ
  pub session : ℕ
  pub events : List EventView
