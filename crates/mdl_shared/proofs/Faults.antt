-- Why calls are refused, by what they answered.
use Rattle.std.proofs.Common.{◌≡◌, Bool, true, false, if◌then◌else◌, Option, Some, None, IfSome, Ok, Err, refl}
use Rattle.mdl_key.specs.Refusals.{RefusesJust}

-- done, and so there was no fault
pub just-done : {T E : Type 0} (fault : Option E) (x : T) → RefusesJust fault (Ok x) → fault ≡ None
just-done None x just = refl
just-done (Some e) x just = cc

-- refused, and so for the fault
pub just-refused : (T : Type 0) {E : Type 0} (fault : Option E) (why : E) → RefusesJust {T = T} fault (Err why) → fault ≡ Some why
just-refused T None why just = cc
just-refused T (Some e) why just = cc

-- ---- a test that decides

-- passed
pub test-passed : {E : Type 0} (b : Bool) (fault : E) → (if b then None else Some fault) ≡ None → b ≡ true
test-passed true fault e = refl
test-passed false fault e = cc

-- failed
pub test-failed : {E : Type 0} (b : Bool) (fault why : E) → (if b then None else Some fault) ≡ Some why → (b ≡ false) × (why ≡ fault)
test-failed true fault why e = cc
test-failed false fault why e = (refl, cc)

-- nothing has to be so of one that isn't there
pub if-clear : {E : Type 0} (P : E → Type 0) (fault : Option E) → fault ≡ None → IfSome fault P
if-clear P None e = tt
if-clear P (Some why) e = cc
