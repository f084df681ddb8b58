-- Rows, one after another.
use Rattle.std.proofs.Common.{◌≡◌, ◌∙◌, refl, ap}
use mathlib.Core.Path.{fun_ext}
use Rattle.mdl_rows.specs.Rows.{Row, Act, Give, Fail, Room, Look, Set, Here, Acquire, Try_acquire, Last, Upgrade, Downgrade, Give_up, Release, Keep, Read, Redefine, Tables_of, Key_of, Kill, ◌>>=◌, ◌>>◌}

-- three rows in a row
pub bind-assoc : {A B C : Type 0} (m : Row A) (f : A → Row B) (g : B → Row C) → (m >>= f) >>= g ≡ m >>= (λ x. f x >>= g)
bind-assoc (Give x) f g = refl
bind-assoc (Fail number) f g = refl
bind-assoc (Room rest) f g = ap Room (bind-assoc rest f g)
bind-assoc (Look rest) f g = ap Look (fun_ext (λ x. bind-assoc (rest x) f g))
bind-assoc (Set change rest) f g = ap (Set change) (bind-assoc rest f g)
bind-assoc (Here rest) f g = ap Here (fun_ext (λ x. bind-assoc (rest x) f g))
bind-assoc (Acquire wish rest) f g = ap (Acquire wish) (fun_ext (λ x. bind-assoc (rest x) f g))
bind-assoc (Try_acquire wish rest) f g = ap (Try_acquire wish) (fun_ext (λ x. bind-assoc (rest x) f g))
bind-assoc (Last key rest) f g = ap (Last key) (fun_ext (λ x. bind-assoc (rest x) f g))
bind-assoc (Upgrade id key mode rest) f g = ap (Upgrade id key mode) (fun_ext (λ x. bind-assoc (rest x) f g))
bind-assoc (Downgrade id mode rest) f g = ap (Downgrade id mode) (bind-assoc rest f g)
bind-assoc (Give_up which rest) f g = ap (Give_up which) (bind-assoc rest f g)
bind-assoc (Release id rest) f g = ap (Release id) (bind-assoc rest f g)
bind-assoc (Keep rest) f g = ap Keep (bind-assoc rest f g)
bind-assoc (Read id rest) f g = ap (Read id) (fun_ext (λ x. bind-assoc (rest x) f g))
bind-assoc (Redefine id change rest) f g = ap (Redefine id change) (bind-assoc rest f g)
bind-assoc (Tables_of schema rest) f g = ap (Tables_of schema) (fun_ext (λ x. bind-assoc (rest x) f g))
bind-assoc (Key_of place rest) f g = ap (Key_of place) (fun_ext (λ x. bind-assoc (rest x) f g))
bind-assoc (Kill target rest) f g = ap (Kill target) (bind-assoc rest f g)

-- a row, and then nothing but its result
pub bind-give : {A : Type 0} (m : Row A) → m >>= Give ≡ m
bind-give (Give x) = refl
bind-give (Fail number) = refl
bind-give (Room rest) = ap Room (bind-give rest)
bind-give (Look rest) = ap Look (fun_ext (λ x. bind-give (rest x)))
bind-give (Set change rest) = ap (Set change) (bind-give rest)
bind-give (Here rest) = ap Here (fun_ext (λ x. bind-give (rest x)))
bind-give (Acquire wish rest) = ap (Acquire wish) (fun_ext (λ x. bind-give (rest x)))
bind-give (Try_acquire wish rest) = ap (Try_acquire wish) (fun_ext (λ x. bind-give (rest x)))
bind-give (Last key rest) = ap (Last key) (fun_ext (λ x. bind-give (rest x)))
bind-give (Upgrade id key mode rest) = ap (Upgrade id key mode) (fun_ext (λ x. bind-give (rest x)))
bind-give (Downgrade id mode rest) = ap (Downgrade id mode) (bind-give rest)
bind-give (Give_up which rest) = ap (Give_up which) (bind-give rest)
bind-give (Release id rest) = ap (Release id) (bind-give rest)
bind-give (Keep rest) = ap Keep (bind-give rest)
bind-give (Read id rest) = ap (Read id) (fun_ext (λ x. bind-give (rest x)))
bind-give (Redefine id change rest) = ap (Redefine id change) (bind-give rest)
bind-give (Tables_of schema rest) = ap (Tables_of schema) (fun_ext (λ x. bind-give (rest x)))
bind-give (Key_of place rest) = ap (Key_of place) (fun_ext (λ x. bind-give (rest x)))
bind-give (Kill target rest) = ap (Kill target) (bind-give rest)

-- the same row first, and then the same
pub then-same : {A B : Type 0} (m : Row A) (f g : A → Row B) → ((x : A) → f x ≡ g x) → m >>= f ≡ m >>= g
then-same {A} {B} m f g same = ap (λ (next : A → Row B). m >>= next) (fun_ext same)

-- an act whose result isn't used, and then the rest
pub act-then : {A B : Type 0} (act : Act) (r : A) (rest : A → Row B) (next : Row B) → rest r ≡ next → (act >> Give r) >>= rest ≡ act >> next
act-then {A} {B} act r rest next same = bind-assoc act (λ _. Give r) rest ∙ then-same act (λ _. rest r) (λ _. next) (λ _. same)
