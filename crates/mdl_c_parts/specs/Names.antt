-- Keys made of names that C passes as bytes, and what its numbers name.
use Rattle.std.specs.Prelude.{◌≡◌, ◌⊎◌, ℕ, List, Option, Some, None, MatchOption}
use Rattle.std.specs.Str.{IsUtf8}
use Rattle.mdl_key.specs.declared.key_error.Utf8NameError.{Utf8NameError}
use Rattle.mdl_key.specs.declared.namespace.Namespace.{Namespace}
use Rattle.mdl_key.specs.declared.namespace.Namespace.TheVariants.{Global, Schema, Table, Commit, UserLevelLock}
use Rattle.mdl_key.specs.Keys.{KeyName, commit_key, global_key, schema_key, table_key, user_lock_key, utf8_name_fault, utf8_table_fault}
use Rattle.mdl_c_parts.specs.Codes.{bad_byte, name_code, no_memory, no_namespace}

-- `Done` holds of what a number names, or `Refused` of the code if it names nothing
abbrev pub Given : {W : Type 0} → ℕ → Option W → (W → Type 0) → (ℕ → Type 0) → Type 0
Given wrong None Done Refused = Refused wrong
Given wrong (Some wish) Done Refused = Done wish

-- a code of why no key is made of names that are UTF-8: the fault of the names, or, if they have none, that memory ran out
abbrev pub IsKeyCode : Option Utf8NameError → ℕ → Type 0
IsKeyCode None code = code ≡ no_memory
IsKeyCode (Some why) code = code ≡ name_code why

-- a code of why no key is made of names: one of them isn't UTF-8, or else what `IsKeyCode` says
abbrev pub IsNameCode : Type 0 → Option Utf8NameError → ℕ → Type 0
IsNameCode are_text fault code = ((are_text → ⊥) × (code ≡ bad_byte)) ⊎ (are_text × IsKeyCode fault code)

-- a key is made of names and `Done` holds, or none is made and `Refused` holds of the code
abbrev pub MakesKey : Type 0 → Option Utf8NameError → Type 0 → (ℕ → Type 0) → Type 0
MakesKey are_text fault Done Refused = (are_text × (fault ≡ None) × Done) ⊎ ((code : ℕ) × IsNameCode are_text fault code × Refused code)

-- names name a key and `Done` holds, or they name none and `Refused` holds of the code: one of them isn't UTF-8, or else they have this fault
abbrev pub NamesKey : Type 0 → Option Utf8NameError → Type 0 → (ℕ → Type 0) → Type 0
NamesKey are_text fault Done Refused =
    (are_text × MatchOption fault Done (λ why. Refused (name_code why))) ⊎ ((are_text → ⊥) × Refused bad_byte)

-- `Done` holds of the key in this namespace with these names, or `Refused` of a code. Only the names that keys of the namespace have are read, and `Key`
-- says whether they give a key
abbrev pub KeyIn : (Type 0 → Option Utf8NameError → Type 0 → (ℕ → Type 0) → Type 0)
    → Option Namespace → List ℕ → List ℕ → (KeyName → Type 0) → (ℕ → Type 0) → Type 0
KeyIn Key None schema table Done Refused = Refused no_namespace
KeyIn Key (Some Global) schema table Done Refused = Done global_key
KeyIn Key (Some Schema) schema table Done Refused = Key (IsUtf8 schema) (utf8_name_fault schema) (Done (schema_key schema)) Refused
KeyIn Key (Some Table) schema table Done Refused =
    Key (IsUtf8 schema × IsUtf8 table) (utf8_table_fault schema table) (Done (table_key schema table)) Refused
KeyIn Key (Some Commit) schema table Done Refused = Done commit_key
KeyIn Key (Some UserLevelLock) schema table Done Refused = Key (IsUtf8 schema) (utf8_name_fault schema) (Done (user_lock_key schema)) Refused

-- the key is made, which takes memory
abbrev pub NamedIn : Option Namespace → List ℕ → List ℕ → (KeyName → Type 0) → (ℕ → Type 0) → Type 0
NamedIn = KeyIn MakesKey

-- the names are read where they lie
abbrev pub ReadIn : Option Namespace → List ℕ → List ℕ → (KeyName → Type 0) → (ℕ → Type 0) → Type 0
ReadIn = KeyIn NamesKey
