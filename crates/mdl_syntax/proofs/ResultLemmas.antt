-- What a call says of its `Err`, from what `ok` made of it.
use Rattle.std.proofs.Common.{◌≡◌}
use Rattle.std.specs.Prelude.{None, Result, Ok, Err, MatchResult}
use Rattle.std.specs.Result.{result_ok}

pub err_from_none : {T E G : Type 0} (r : Result T E) (P : T → Type 0) (Q : E → Type 0) → None ≡ result_ok r → ((error : E) → Q error → G) → MatchResult r P Q → G
err_from_none (Ok y) P Q e k m = absurd (cc)
err_from_none (Err y) P Q e k m = k y m
