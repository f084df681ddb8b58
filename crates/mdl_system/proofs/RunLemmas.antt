-- Runs one after another.
use Rattle.std.proofs.Common.{◌≡◌, List, [], ◌∷◌, ◌++◌, Option, refl, sym, subst}
use Rattle.mdl_key.specs.Keys.{KeyName}
use Rattle.mdl_system.specs.Events.{Event, Happens, Run, SameMembers, SameSystem}
use Rattle.mdl_system.specs.Systems.{System}

pub same_members : {T : Type 0} (xs : List T) → SameMembers xs xs
same_members xs x = ((λ p. p), λ p. p)

pub same_system : {D : Type 0} (a : System D) → SameSystem a a
same_system a = record {
  granted = same_members a.granted;
  waits = record { waiting = λ _. refl; unended = same_members a.unended };
  definitions = λ _. refl;
}

module _ {C D : Type 0} (apply : KeyName → C → Option D → Option (Option D)) where
  -- a run that ends in just this system, and not in one of the same members
  abbrev pub Leads : List (Event C) → System D → System D → Type 0
  Leads [] a b = a ≡ b
  Leads (event ∷ events) a b = (between : System D) × Happens apply event a between × Leads events between b

  pub leads-run : (events : List (Event C)) (a b : System D) → Leads events a b → Run apply events a b
  leads-run [] a b same = subst (SameSystem a) same (same_system a)
  leads-run (event ∷ events) a b (between, happens, rest) = (between, happens, leads-run events between b rest)

  -- one such run, and then another
  pub leads-then : (first second : List (Event C)) (a b c : System D) → Leads first a b → Leads second b c → Leads (first ++ second) a c
  leads-then [] second a b c same rest = subst (λ s. Leads second s c) (sym same) rest
  leads-then (event ∷ events) second a b c (between, happens, early) late = (between, happens, leads-then events second between b c early late)
