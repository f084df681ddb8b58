-- When a call is refused, and with which error: the definitions of this project for any call that can be refused.
use Rattle.std.specs.Prelude.{◌≡◌, Option, Some, None, Result, Err, IsOk, IsOkUnless}

-- the call is refused with the fault if there is one, and otherwise succeeds unless memory ran out
abbrev pub Refuses : {T E : Type 0} → Option E → E → Result T E → Type 0
Refuses None memory result = IsOkUnless result memory
Refuses (Some fault) memory result = result ≡ Err fault

-- the call is refused with the fault if there is one, and otherwise succeeds
abbrev pub RefusesJust : {T E : Type 0} → Option E → Result T E → Type 0
RefusesJust None result = IsOk result
RefusesJust (Some fault) result = result ≡ Err fault
