-- What becomes of the lines of a script, and how it is printed. The wording is this project's own.
use Rattle.std.specs.Prelude.{ℕ, Bool, true, false, List, [], ◌∷◌, ◌++◌, codes, flat_map}
use Rattle.std.specs.Fmt.{decimal}
use Rattle.std.specs.List.{join_by}
use Rattle.mdl_key.specs.declared.mode.Mode.{Mode}
use Rattle.mdl_key.specs.Keys.{KeyName, key_text}
use Rattle.mdl_key.specs.Modes.{mode_name}
use Rattle.mdl_rows.specs.declared.reply.Reply.{Reply}
use Rattle.mdl_rows.specs.declared.reply.Reply.TheVariants as reply
use Rattle.mdl_rows.specs.declared.reply.TableShown.{TableShown}
use Rattle.mdl_rows.specs.ErrorNumbers.{error_number}
use Rattle.mdl_script.specs.declared.told.News.{News}
use Rattle.mdl_script.specs.declared.told.News.TheVariants.{Ends, Waits, Busy}
use Rattle.mdl_script.specs.declared.told.Told.{Told}

-- columns, as `(c1,c2)`
abbrev pub columns_text : List (List ℕ) → List ℕ
columns_text columns = codes "(" ++ join_by (λ column. column) (codes ",") columns ++ codes ")"

-- a table that was read, as ` schema.table@version(c1,c2)`
abbrev pub table_text : TableShown → List ℕ
table_text table = codes " " ++ table.key.schema ++ codes "." ++ table.key.table ++ codes "@" ++ decimal table.version ++ columns_text table.columns

abbrev pub tables_text : List TableShown → List ℕ
tables_text = flat_map table_text

abbrev pub error_text : ℕ → List ℕ
error_text number = codes "ERR " ++ decimal number

-- a truth value, as the number 1 or 0
abbrev pub number_text : Bool → List ℕ
number_text true = codes "OK 1"
number_text false = codes "OK 0"

-- a reply: OK with the tables that were read, a number or NULL, or the number of an error
abbrev pub reply_text : Reply → List ℕ
reply_text reply.Ok = codes "OK"
reply_text (reply.Columns tables) = codes "OK" ++ tables_text tables
reply_text (reply.Number number) = number_text number
reply_text reply.Null = codes "OK NULL"
reply_text (reply.Error error) = error_text (error_number error)

abbrev pub wait_text : KeyName → Mode → List ℕ
wait_text key mode = codes "WAIT " ++ key_text key ++ codes " " ++ mode_name mode

abbrev pub news_text : News → List ℕ
news_text (Ends reply) = reply_text reply
news_text (Waits key mode) = wait_text key mode
news_text Busy = codes "BUSY"

-- whether what became of a line is that its statement began to wait
abbrev pub is_wait_news : News → Bool
is_wait_news (Waits key mode) = true
is_wait_news _ = false

-- the numbers of a line and of its session, each with a space after it
abbrev pub heading : ℕ → ℕ → List ℕ
heading line who = decimal line ++ codes " " ++ decimal who ++ codes " "

-- a line of the output: the numbers of a line and of its session, and what became of the line
abbrev pub told_line : Told → List ℕ
told_line told = heading told.line told.who ++ news_text told.news ++ 10 ∷ []

-- a line for each of these
abbrev pub told_text : List Told → List ℕ
told_text = flat_map told_line

-- the line of a session that still waits at the end
abbrev pub end_line : ℕ → List ℕ
end_line who = codes "END " ++ decimal who ++ codes " WAIT" ++ 10 ∷ []
