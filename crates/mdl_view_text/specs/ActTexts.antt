-- What to type to end a session or its statement. `KILL` takes the number of a connection: the column PROCESSLIST_ID of
-- `performance_schema.threads`. A row's OWNER_THREAD_ID is another number, and is never printed behind `KILL`. After MySQL 5.7's Reference
-- Manual, "KILL Statement" and "The threads Table"; the wording is this project's own.
use Rattle.std.specs.Prelude.{ℕ, Bool, true, false, ◌==◌, List, [], ◌∷◌, ◌++◌, Option, Some, None, codes, length, if◌then◌else◌}
use Rattle.std.specs.Fmt.{decimal}
use Rattle.mdl_lock_rows.specs.Owners.{OwnerView}
use Rattle.mdl_view.specs.declared.act.Act.{Act}
use Rattle.mdl_view.specs.declared.act.Act.TheVariants.{Kill, KillQuery}
use Rattle.mdl_view.specs.Acts.{target_of}
use Rattle.mdl_view_text.specs.Layouts.{line_with}
use Rattle.mdl_view_text.specs.Names.{NamesView, knows_connections, numbered, owner_of}
use Rattle.mdl_view_text.specs.Owners.{description, runs}

-- the statement's words
abbrev pub act_words : Act → List ℕ
act_words (Kill session) = codes "KILL"
act_words (KillQuery session) = codes "KILL QUERY"

-- the statement, with a comment that says whose connection it is, if that is known: KILL 8;  -- app@10.0.0.7, Sleep 412 s
abbrev pub comment : List ℕ → List ℕ
comment words = if length words == 0 then [] else codes "  -- " ++ words

abbrev pub statement : List ℕ → Act → ℕ → List ℕ
statement start act connection = start ++ act_words act ++ 32 ∷ decimal connection ++ codes ";"

abbrev pub statement_line : List ℕ → Act → ℕ → OwnerView → List ℕ
statement_line start act connection owner = line_with (statement start act connection) (comment (description owner)) []

-- where rows don't have the numbers of connections: the query that returns the number
abbrev pub end_words : Act → List ℕ
end_words (Kill session) = codes "End thread "
end_words (KillQuery session) = codes "End the statement of thread "

abbrev pub number_line : List ℕ → Act → ℕ → List ℕ
number_line start act thread =
    start ++ numbered (end_words act) thread (codes ". ") ++ act_words act ++ codes " takes the number that this returns:\n"

-- the lines below the first one are indented
abbrev pub query_line : List ℕ → ℕ → List ℕ
query_line indent thread =
    indent ++ numbered (codes "SELECT PROCESSLIST_ID FROM performance_schema.threads WHERE THREAD_ID = ") thread (codes ";\n")

-- a thread without a connection, where other threads have one
abbrev pub background_line : List ℕ → ℕ → List ℕ
background_line start thread =
    start ++ numbered (codes "Thread ") thread (codes " is the server's own: it has no connection, and KILL can't end it.\n")

-- a thread whose connection isn't known
abbrev pub thread_lines : Bool → List ℕ → List ℕ → Act → ℕ → List ℕ
thread_lines true start indent act thread = background_line start thread
thread_lines false start indent act thread = number_line start act thread ++ query_line indent thread

-- a session of a script
abbrev pub script_words : Act → List ℕ
script_words (Kill session) = codes "End session "
script_words (KillQuery session) = codes "KILL QUERY "

abbrev pub script_line : List ℕ → Act → List ℕ
script_line start act = start ++ script_words act ++ decimal (target_of act) ++ 10 ∷ []

-- what to type, behind what the line starts with
abbrev pub owner_lines : Bool → List ℕ → List ℕ → Act → OwnerView → Option ℕ → List ℕ
owner_lines known start indent act owner (Some connection) = statement_line start act connection owner
owner_lines known start indent act owner None = thread_lines known start indent act owner.thread

abbrev pub typed_lines_by : NamesView → List ℕ → List ℕ → Act → Option OwnerView → List ℕ
typed_lines_by names start indent act (Some owner) = owner_lines (knows_connections names) start indent act owner owner.connection
typed_lines_by names start indent act None = script_line start act

abbrev pub typed_lines : NamesView → List ℕ → List ℕ → Act → List ℕ
typed_lines names start indent act = typed_lines_by names start indent act (owner_of names (target_of act))

-- what to type, and what the session runs
abbrev pub act_lines : NamesView → List ℕ → List ℕ → Act → List ℕ
act_lines names start indent act = typed_lines names start indent act ++ runs names indent (target_of act)
