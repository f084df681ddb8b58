-- A table with commas between its fields (CSV), after RFC 4180: a field may be in quotes, and has commas, line feeds and doubled quotes there. A
-- field without quotes is NULL if it is empty, `NULL`, or `\N`.
use Rattle.std.specs.Prelude.{ℕ, ◌-◌, Bool, false, not, ◌&&◌, ◌||◌, ◌==◌, List, [], ◌∷◌, drop, take, length, fold, find, Option, codes, nat_le, if◌then◌else◌}
use Rattle.mdl_lines.specs.Words.{same_text}

-- whether a quote is open behind a text, given whether one was open before it: each quote opens one or closes it
abbrev pub is_quote_open : Bool → List ℕ → Bool
is_quote_open was text = fold (λ is_open byte. if byte == 34 then not is_open else is_open) was text

-- a text in which each quote that follows another one is dropped, unless that one followed a quote itself
abbrev pub undoubled_from : Bool → List ℕ → List ℕ
undoubled_from follows [] = []
undoubled_from follows (byte ∷ bytes) = if (byte == 34) && follows then undoubled_from false bytes else byte ∷ undoubled_from (byte == 34) bytes

-- whether a cell is in quotes
abbrev pub is_quoted : List ℕ → Bool
is_quoted cell = nat_le 2 (length cell) && (same_text (take 1 cell) (codes "\"") && same_text (drop (length cell - 1) cell) (codes "\""))

-- the text between the quotes of a cell
abbrev pub in_quotes : List ℕ → List ℕ
in_quotes cell = undoubled_from false (take (length cell - 1 - 1) (drop 1 cell))

-- a cell without quotes
abbrev pub plain_value : List ℕ → List ℕ
plain_value cell = if same_text cell (codes "NULL") || same_text cell (codes "\\N") then [] else cell

-- the value of a cell
abbrev pub comma_value : List ℕ → List ℕ
comma_value cell = if is_quoted cell then in_quotes cell else plain_value cell

-- the first byte of a line that is a tab or a comma
abbrev pub first_mark : List ℕ → Option ℕ
first_mark line = find (λ byte. (byte == 9) || (byte == 44)) line
