-- Keys of names, and why none is made.
use Rattle.std.proofs.Common.{◌≡◌, ℕ, List, sym, ap, subst, inl, inr}
use Rattle.std.specs.Prelude.{Option, Some, None, Result, Ok, Err}
use Rattle.mdl_key.specs.declared.key_error.Utf8NameError.{Utf8NameError}
use Rattle.mdl_key.specs.declared.key_error.Utf8NameError.TheVariants.{OutOfMemory}
use Rattle.mdl_key.specs.declared.namespace.Namespace.{Namespace}
use Rattle.mdl_key.specs.declared.namespace.Namespace.TheVariants.{Global, Schema, Table, Commit, UserLevelLock}
use Rattle.mdl_key.specs.Keys.{KeyName, commit_key, global_key, schema_key, table_key, user_lock_key}
use Rattle.mdl_key.specs.Words.{Refuses}
use Rattle.mdl_c_parts.specs.Codes.{bad_byte, name_code, no_namespace}
use Rattle.mdl_c_parts.specs.Names.{Given, IsNameCode, KeyIn, MakesKey, NamedIn, NamesKey, ReadIn}

-- the error of a result, or another where there is none
abbrev error_or : (T : Type 0) → Utf8NameError → Result T Utf8NameError → Utf8NameError
error_or T other (Ok _) = other
error_or T other (Err why) = why

pub name-code : (T : Type 0) (are_text : Type 0) (fault : Option Utf8NameError) (why : Utf8NameError) → are_text → Refuses {T = T} fault OutOfMemory (Err why)
    → IsNameCode are_text fault (name_code why)
name-code T are_text None why text refused = inr (text, ap name_code refused)
name-code T are_text (Some fault) why text refused = inr (text, ap name_code (ap (error_or T why) refused))

-- ---- what is done with a key, or with the code of why there is none

-- what follows from what is done, follows where names give a key
abbrev Follows : (Type 0 → Option Utf8NameError → Type 0 → (ℕ → Type 0) → Type 0) → Type 1
Follows Key =
    (are_text : Type 0) (fault : Option Utf8NameError) (Done Then : Type 0) (Refused Wrong : ℕ → Type 0) → (Done → Then)
    → ((code : ℕ) → Refused code → Wrong code) → Key are_text fault Done Refused → Key are_text fault Then Wrong

makes-follows : Follows MakesKey
makes-follows are_text fault Done Then Refused Wrong done refused (inl (text, none, is)) = inl (text, none, done is)
makes-follows are_text fault Done Then Refused Wrong done refused (inr (code, why, wrong)) = inr (code, why, refused code wrong)

names-follows : Follows NamesKey
names-follows are_text None Done Then Refused Wrong done refused (inl (text, is)) = inl (text, done is)
names-follows are_text (Some why) Done Then Refused Wrong done refused (inl (text, wrong)) = inl (text, refused (name_code why) wrong)
names-follows are_text fault Done Then Refused Wrong done refused (inr (other, wrong)) = inr (other, refused bad_byte wrong)

key-follows : (Key : Type 0 → Option Utf8NameError → Type 0 → (ℕ → Type 0) → Type 0) → Follows Key → (namespace : Option Namespace) (schema table : List ℕ)
    (Done Then : KeyName → Type 0) (Refused Wrong : ℕ → Type 0) → ((key : KeyName) → Done key → Then key) → ((code : ℕ) → Refused code → Wrong code)
    → KeyIn Key namespace schema table Done Refused → KeyIn Key namespace schema table Then Wrong
key-follows Key follows None schema table Done Then Refused Wrong done refused wrong = refused no_namespace wrong
key-follows Key follows (Some Global) schema table Done Then Refused Wrong done refused is = done global_key is
key-follows Key follows (Some Schema) schema table Done Then Refused Wrong done refused named = follows _ _ _ _ Refused Wrong (done (schema_key schema)) refused named
key-follows Key follows (Some Table) schema table Done Then Refused Wrong done refused named = follows _ _ _ _ Refused Wrong (done (table_key schema table)) refused named
key-follows Key follows (Some Commit) schema table Done Then Refused Wrong done refused is = done commit_key is
key-follows Key follows (Some UserLevelLock) schema table Done Then Refused Wrong done refused named = follows _ _ _ _ Refused Wrong (done (user_lock_key schema)) refused named

-- the key is named
key-done : (Key : Type 0 → Option Utf8NameError → Type 0 → (ℕ → Type 0) → Type 0) → Follows Key → (namespace : Option Namespace) (schema table : List ℕ)
    (key : KeyName) (Done : KeyName → Type 0) (Refused : ℕ → Type 0) → KeyIn Key namespace schema table (λ name. key ≡ name) (λ _. ⊥) → Done key
    → KeyIn Key namespace schema table Done Refused
key-done Key follows namespace schema table key Done Refused named done =
    key-follows Key follows namespace schema table (λ name. key ≡ name) Done (λ _. ⊥) Refused (λ name is. subst Done is done) (λ code never. absurd never) named

-- none is
key-refused : (Key : Type 0 → Option Utf8NameError → Type 0 → (ℕ → Type 0) → Type 0) → Follows Key → (namespace : Option Namespace) (schema table : List ℕ)
    (code : ℕ) (Done : KeyName → Type 0) (Refused : ℕ → Type 0) → KeyIn Key namespace schema table (λ _. ⊥) (λ wrong. code ≡ wrong) → Refused code
    → KeyIn Key namespace schema table Done Refused
key-refused Key follows namespace schema table code Done Refused named refused =
    key-follows Key follows namespace schema table (λ _. ⊥) Done (λ wrong. code ≡ wrong) Refused (λ name never. absurd never) (λ wrong is. subst Refused is refused) named

-- the same of a key that is made
pub named-done : (namespace : Option Namespace) (schema table : List ℕ) (key : KeyName) (Done : KeyName → Type 0) (Refused : ℕ → Type 0)
    → NamedIn namespace schema table (λ name. key ≡ name) (λ _. ⊥) → Done key → NamedIn namespace schema table Done Refused
named-done = key-done MakesKey makes-follows

pub named-refused : (namespace : Option Namespace) (schema table : List ℕ) (code : ℕ) (Done : KeyName → Type 0) (Refused : ℕ → Type 0)
    → NamedIn namespace schema table (λ _. ⊥) (λ wrong. code ≡ wrong) → Refused code → NamedIn namespace schema table Done Refused
named-refused = key-refused MakesKey makes-follows

-- the same of names that are read
pub read-done : (namespace : Option Namespace) (schema table : List ℕ) (key : KeyName) (Done : KeyName → Type 0) (Refused : ℕ → Type 0)
    → ReadIn namespace schema table (λ name. key ≡ name) (λ _. ⊥) → Done key → ReadIn namespace schema table Done Refused
read-done = key-done NamesKey names-follows

pub read-refused : (namespace : Option Namespace) (schema table : List ℕ) (code : ℕ) (Done : KeyName → Type 0) (Refused : ℕ → Type 0)
    → ReadIn namespace schema table (λ _. ⊥) (λ wrong. code ≡ wrong) → Refused code → ReadIn namespace schema table Done Refused
read-refused = key-refused NamesKey names-follows

-- ---- what a number names

-- a number names what is wished
pub given-done : {W : Type 0} (wrong : ℕ) (named : Option W) (wish : W) (Done : W → Type 0) (Refused : ℕ → Type 0) → named ≡ Some wish → Done wish
    → Given wrong named Done Refused
given-done wrong named wish Done Refused is done = subst (λ o. Given wrong o Done Refused) (sym is) done
