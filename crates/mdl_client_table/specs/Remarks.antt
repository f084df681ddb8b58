-- What a client prints above and below tables, after MySQL 5.7 and MariaDB 10.11: client/mysql.cc.
use Rattle.std.specs.Prelude.{ℕ, Bool, false, not, ◌&&◌, ◌||◌, ◌==◌, List, drop, take, length, codes, Option, position}
use Rattle.std.specs.Option.{option_map_or}
use Rattle.std.specs.Char.{is_ascii_alphabetic}
use Rattle.mdl_lines.specs.Words.{is_digit, same_text}
use Rattle.mdl_client_table.specs.Boxes.{trimmed}

-- whether a text begins with a word
abbrev pub begins_with : List ℕ → List ℕ → Bool
begins_with word text = same_text word (take (length word) text)

-- whether a text begins with the client's prompt, behind which a statement stands, or more of one
abbrev pub is_prompt : List ℕ → Bool
is_prompt text =
    begins_with (codes "mysql>") text || (begins_with (codes "MariaDB [") text || (begins_with (codes "->") text
    || (begins_with (codes "'>") text || (begins_with (codes "\">") text || begins_with (codes "`>") text))))

-- whether a text is what the client says before it sends a statement
abbrev pub is_notice : List ℕ → Bool
is_notice text =
    begins_with (codes "mysql: ") text || (begins_with (codes "mariadb: ") text || (begins_with (codes "Warning: ") text || (begins_with (codes "WARNING: ") text
    || (begins_with (codes "Enter password:") text || (begins_with (codes "Server version: ") text || (begins_with (codes "Copyright ") text
    || (begins_with (codes "Connection id: ") text || begins_with (codes "Current database: ") text)))))))

-- whether a text is what stands behind the number of rows, as in `2 rows in set (0.00 sec)`
abbrev pub counts_rows : List ℕ → Bool
counts_rows text = begins_with (codes " row in set") text || begins_with (codes " rows in set") text

-- where the digits end with which a text begins
abbrev pub end_of_digits : List ℕ → Option ℕ
end_of_digits text = position (λ byte. not (is_digit byte)) text

-- whether a text is the line below rows: a number, and then `rows in set`
abbrev pub is_footer : List ℕ → Bool
is_footer text = option_map_or (λ place. not (place == 0) && counts_rows (drop place text)) (end_of_digits text) false

-- whether a text is how a statement ended
abbrev pub is_outcome : List ℕ → Bool
is_outcome text =
    begins_with (codes "Empty set") text || (begins_with (codes "Query OK") text || (begins_with (codes "Rows matched: ") text || is_footer text))

-- whether a line is no line of a table: it is blank, or the client's own
abbrev pub is_remark : List ℕ → Bool
is_remark line = length (trimmed line) == 0 || (is_prompt (trimmed line) || (is_notice (trimmed line) || is_outcome (trimmed line)))
