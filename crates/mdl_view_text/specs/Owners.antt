-- What is printed of a server's session besides its numbers: who it is, what it does and for how long, and its statement. The wording is this
-- project's own.
use Rattle.std.specs.Prelude.{ℕ, ◌||◌, ◌==◌, List, [], ◌∷◌, ◌++◌, Option, Some, None, codes, flat_map, length, if◌then◌else◌}
use Rattle.mdl_lock_rows.specs.Owners.{OwnerView}
use Rattle.mdl_view_text.specs.Layouts.{line_of}
use Rattle.mdl_view_text.specs.Names.{NamesView, owner_of, shown_byte}

-- a text in one line: a tab or the end of a line is printed as a blank, and other bytes as in a name, but for the dot
abbrev pub line_byte : ℕ → List ℕ
line_byte byte = if byte == 9 || byte == 10 || byte == 13 then 32 ∷ [] else shown_byte byte

abbrev pub in_a_line : List ℕ → List ℕ
in_a_line text = flat_map line_byte text

-- two parts with a mark between them, unless one of them is empty
abbrev pub with_part : List ℕ → List ℕ → List ℕ → List ℕ
with_part mark words part = if length words == 0 || length part == 0 then words ++ part else words ++ mark ++ part

-- a text with what comes before it and after it, or nothing if it is empty
abbrev pub if_any : List ℕ → List ℕ → List ℕ → List ℕ
if_any before text after = if length text == 0 then [] else before ++ in_a_line text ++ after

-- who: app@10.0.0.7
abbrev pub account : OwnerView → List ℕ
account owner = with_part (codes "@") (in_a_line owner.user) (in_a_line owner.host)

-- what it does, and for how many seconds: Sleep 412 s
abbrev pub activity : OwnerView → List ℕ
activity owner = with_part (codes " ") (in_a_line owner.command) (if_any [] owner.time (codes " s"))

-- since when it has a transaction
abbrev pub transaction : OwnerView → List ℕ
transaction owner = if_any (codes "in a transaction since ") owner.transaction_started []

-- all that is known but its statement: app@10.0.0.7, Query 3 s, in a transaction since 2026-11-29 03:12:44
abbrev pub description : OwnerView → List ℕ
description owner = with_part (codes ", ") (with_part (codes ", ") (account owner) (activity owner)) (transaction owner)

-- ---- statements

-- a statement in a line of its own, if it is known, as in: runs: SELECT 1
abbrev pub runs_line : List ℕ → List ℕ → List ℕ
runs_line indent statement = if length statement == 0 then [] else line_of (indent ++ codes "runs: " ++ in_a_line statement)

abbrev pub runs_by : List ℕ → Option OwnerView → List ℕ
runs_by indent (Some owner) = runs_line indent owner.info
runs_by indent None = []

-- what a session runs. Of a script's session no statement is known
abbrev pub runs : NamesView → List ℕ → ℕ → List ℕ
runs names indent session = runs_by indent (owner_of names session)
