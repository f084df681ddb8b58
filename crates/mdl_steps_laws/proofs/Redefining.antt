-- A change of what is defined under a key is one of the system.
use Rattle.std.proofs.Common.{◌≡◌, ◌+◌, inl, inr, Some, refl, sym, ap, ◌∙◌, subst, Contains}
use Rattle.mdl_defs.proofs.VersionedDefinitionLemmas.{applied-changed}
use Rattle.mdl_steps_laws.proofs.Common.{Definition, KeyName, Lock, SameMembers, System, Versioned, applied, granted_of, in_book, key_told, of_lock, versioned}
use Rattle.mdl_steps_laws.proofs.DeedEvents.{held_by_own}
use Rattle.mdl_steps_laws.proofs.DeedLaws.{Turns, RedefiningChanges}

-- where the granted tickets of a lock stay, those of the system do
same_granted : (key : KeyName) (lock : Lock) (old new : KeyName → Lock) (a b : System Definition) → Turns key lock old new a b → granted_of lock ≡ granted_of (old key) → SameMembers a.granted b.granted
same_granted key lock old new a b turns same held =
    let lists : granted_of (new held.key) ≡ granted_of (old held.key) = elim (key_told held.key key) [
      | inl here ↦ subst (λ (k : KeyName). granted_of (new k) ≡ granted_of (old k)) (sym here) (ap granted_of turns.here ∙ same)
      | inr away ↦ ap granted_of (turns.elsewhere held.key away)
    ] in (
      (λ among. (turns.before.granted held).1 (subst (λ ts. Contains ts (in_book held)) lists ((turns.after.granted held).0 among))),
      λ among. (turns.after.granted held).1 (subst (λ ts. Contains ts (in_book held)) (sym lists) ((turns.before.granted held).0 among)),
    )

pub redefining_changes : RedefiningChanges
redefining_changes session change key old new a b turns t held exclusive none =
    let was = turns.before.definitions key in
    let is = turns.after.definitions key ∙ ap (λ (l : Lock). versioned l.book.standing) turns.here in
    record {
      held = held_by_own a session (of_lock key t) held;
      exclusive = exclusive;
      applied = ap (λ (d : Versioned Definition). applied key.namespace change d.definition) was
          ∙ applied-changed key.namespace change (old key).book.standing none
          ∙ sym (ap (λ (d : Versioned Definition). Some d.definition) is);
      counted = ap (λ (d : Versioned Definition). d.version) is ∙ sym (ap (λ (d : Versioned Definition). d.version + 1) was);
      elsewhere = λ k away. turns.after.definitions k ∙ ap (λ (l : Lock). versioned l.book.standing) (turns.elsewhere k away) ∙ sym (turns.before.definitions k);
      granted = same_granted key (record { fast = (old key).fast; book = Rattle.mdl_book.specs.Books.redefining change (old key).book }) old new a b turns refl;
      waits = turns.waits;
    }
